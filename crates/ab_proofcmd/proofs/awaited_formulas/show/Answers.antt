use Rattle.std.proofs.Common.{◌≡◌, List, [], map, ap, sym, subst, rules}
use Rattle.std.specs.List.{All}
use Rattle.ab_logic.specs.Worlds.{Holds, read}
use Rattle.ab_uses.specs.UseReadings.{HoldsStage}
use Rattle.ab_effects.specs.Debts.{taken_unless}
use Rattle.ab_hypothesis.specs.ab_steps.specs.Progress.{Advances, Owes}
use Rattle.ab_hypothesis.specs.ab_steps.proofs.Following.{advances, advances_on, owes_before, owes_behind}
use Rattle.ab_hypothesis.proofs.Moves.{on_ok}
use Rattle.ab_proofcmd.specs.GoalCounts.{AwaitsAll}
use Rattle.ab_proofcmd.proofs.Bared.{shows}
use Rattle.ab_proofcmd.proofs.Places.{gives_on}
use Rattle.ab_proofcmd.proofs.Staged.{stages_still}
use Rattle.ab_proofcmd.proofs.awaited_formulas.show.Goals as goal

pub take_up-requires-clause-formula : goal.take_up-requires-clause-formula
take_up-requires-clause-formula g c = c.await_all.ensures.follows.grows.ids c.args.formula c.requires.formula

pub returns-in_err-current-clause-follows : goal.returns-in_err-current-clause-follows
returns-in_err-current-clause-follows g c = advances_on _ _ _ _ _ _ (advances c.await_all.ensures.follows) c.take_up.ensures.follows

pub take_stages-requires-clause-stages : goal.take_stages-requires-clause-stages
take_stages-requires-clause-stages g c =
    let taken : Advances c.args.world.now c.args.proof.now c.take_up.new.world c.take_up.new.proof = advances_on _ _ _ _ _ _ (advances c.await_all.ensures.follows) c.take_up.ensures.follows in
    let same : c.as_slice-2.result.now ≡ c.args.found.now.stages.items = search rules in
    stages_still c.args.world.now c.take_up.new.world taken.grows c.as_slice-2.result.now (subst (All (HoldsStage c.args.world.now)) (sym same) c.requires.stages)

pub returns-in_err-names-clause-follows : goal.returns-in_err-names-clause-follows
returns-in_err-names-clause-follows g c = advances c.await_all.ensures.follows

pub returns-clause-follows : goal.returns-clause-follows
returns-clause-follows g c =
    let taken : Advances c.args.world.now c.args.proof.now c.take_up.new.world c.take_up.new.proof = advances_on _ _ _ _ _ _ (advances c.await_all.ensures.follows) c.take_up.ensures.follows in
    advances_on _ _ _ _ _ _ taken (advances c.take_stages.ensures.follows)

pub returns-clause-owes : goal.returns-clause-owes
returns-clause-owes g c =
    let w = c.args.world.now in
    let p = c.args.proof.now in
    let v = c.await_all.new.world in
    let q = c.await_all.new.proof in
    let u = c.take_up.new.world in
    let r = c.take_up.new.proof in
    let x = c.take_stages.new.world in
    let t = c.take_stages.new.proof in
    let H = c.args.source.now in
    let owed = taken_unless c.has_hypothesis-is_hypothesis.result H in
    let taken_up : Owes owed w p u r = owes_before owed w v u p q r c.await_all.ensures.follows.owes c.in_ok-current.ensures.owes in
    let all : Owes owed w p x t = owes_behind owed w u x p r t taken_up c.take_stages.ensures.follows.owes in
    on_ok c.take_stages.result (λ given s rest e. subst (λ b. Owes (taken_unless b H) w p x t) (c.has_hypothesis-is_hypothesis.ensures w s rest e) all) c.take_stages.ensures.gives

pub returns-clause-shows : goal.returns-clause-shows
returns-clause-shows g c =
    let w = c.args.world.now in
    let p = c.args.proof.now in
    let v = c.await_all.new.world in
    let q = c.await_all.new.proof in
    let As = map (read w) c.args.found.now.awaited.items in
    let same : c.as_slice.result.now ≡ c.args.found.now.awaited.items = search rules in
    let own = c.new-own.result.items in
    let each : AwaitsAll w p v q 0 own As c.in_ok-place.place = subst (λ ts. AwaitsAll w p v q 0 own (map (read w) ts) c.in_ok-place.place) same c.in_ok-place.ensures.awaits in
    let all : AwaitsAll w p v q 0 [] As c.in_ok-place.place = subst (λ xs. AwaitsAll w p v q 0 xs As c.in_ok-place.place) c.new-own.ensures.items each in
    let u = c.take_up.new.world in
    let r = c.take_up.new.proof in
    let x = c.take_stages.new.world in
    let t = c.take_stages.new.proof in
    on_ok c.take_stages.result (λ none. shows w v x p q t 0 c.in_ok-place.place As all (gives_on v u x q r t c.in_ok-place.place 0 0 c.in_ok-current.ensures.gives none)) c.take_stages.ensures.gives
