use Rattle.std.specs.Prelude.{◌≡◌, ℕ, List, ◌∷◌, None, map, All}
use Rattle.std.proofs.Common.{length, sym, ◌∙◌, ap, subst, rules}
use Rattle.std.proofs.lemmas.List.{length-map}
use Rattle.ab_term.specs.Terms.{Read}
use Rattle.ab_norm.specs.ab_store.specs.declared.node.TermId.{TermId}
use Rattle.ab_formulas.specs.Sequents.{Sequent, formula_of, proving, assuming}
use Rattle.ab_logic.specs.Worlds.{read}
use Rattle.ab_equations.specs.Labels.{label_of}
use Rattle.ab_uses.specs.GivenReadings.{given_of}
use Rattle.ab_uses.specs.declared.given_terms.GivenTerm.{GivenTerm}
use Rattle.ab_hypothesis.specs.ab_steps.specs.Progress.{Owes}
use Rattle.ab_hypothesis.specs.ab_steps.specs.ab_kernel.specs.Layout.{goals_of}
use Rattle.ab_effects.specs.ProofCommands.{is_used}
use Rattle.ab_effects.specs.Debts.{taken_unless}
use Rattle.ab_hypothesis.specs.ab_steps.proofs.Following.{advances, advances_on, owes_before, owes_behind}
use Rattle.ab_hypothesis.proofs.Moves.{on_ok}
use Rattle.ab_proofcmd.specs.GoalCounts.{ShowsAll, OpensBeside, CantOpenBeside}
use Rattle.ab_proofcmd.proofs.Usable.{IsGiven, all_later, still_given, formulas_later}
use Rattle.ab_proofcmd.proofs.Carried.{Cuts, cut_two, own_there, leaves_opened, cant_open_result, stages_there, formulas_there}
use Rattle.ab_proofcmd.proofs.application.carry_out.Goals as goal

pub step_into-requires-clause-step : goal.step_into-requires-clause-step
step_into-requires-clause-step g c = c.requires.asked.found.result

pub show-requires-clause-formula : goal.show-requires-clause-formula
show-requires-clause-formula g c = c.step_into.ensures.follows.grows.ids c.args.asked.now.formula c.requires.asked.formula

pub show-requires-clause-stages : goal.show-requires-clause-stages
show-requires-clause-stages g c = stages_there c.args.world.now c.step_into.new.world c.step_into.ensures.follows.grows c.args.asked.now.found.stages.items c.requires.asked.found.stages

pub show-requires-clause-awaited : goal.show-requires-clause-awaited
show-requires-clause-awaited g c = formulas_there c.args.world.now c.step_into.new.world c.step_into.ensures.follows.grows c.args.asked.now.found.awaited.items c.requires.asked.found.awaited

pub returns-in_err-show-clause-follows : goal.returns-in_err-show-clause-follows
returns-in_err-show-clause-follows g c = advances_on _ _ _ _ _ _ (advances c.step_into.ensures.follows) c.show.ensures.follows

pub open_beside-requires-clause-formula : goal.open_beside-requires-clause-formula
open_beside-requires-clause-formula g c =
    (advances_on _ _ _ _ _ _ (advances c.step_into.ensures.follows) c.show.ensures.follows).grows.ids c.args.asked.now.found.result c.requires.asked.found.result

pub open_beside-requires-clause-given : goal.open_beside-requires-clause-given
open_beside-requires-clause-given g c =
    let same : c.as_slice.result.now ≡ c.args.asked.now.given.items = search rules in
    let u = c.show.new.world in
    subst (All (IsGiven u)) (sym same)
    (still_given c.args.world.now u (advances_on _ _ _ _ _ _ (advances c.step_into.ensures.follows) c.show.ensures.follows).grows c.args.asked.now.given.items c.requires.asked.given)

pub open_beside-requires-clause-there : goal.open_beside-requires-clause-there
open_beside-requires-clause-there g c =
    let w = c.args.world.now in
    let v = c.step_into.new.world in
    let u = c.show.new.world in
    let p = c.args.proof.now in
    let q = c.step_into.new.proof in
    let r = c.show.new.proof in
    let a = c.args.asked.now in
    let y = c.in_ok-own.own in
    let As = map (read w) a.found.awaited.items in
    let R = read w a.found.result in
    let cuts : Cuts w p v q y R = cut_two w v p q y c.in_ok-named.named R c.in_ok-named.ensures c.in_ok-step_into.ensures.took in
    let shows : ShowsAll v q u r 0 As = subst (ShowsAll v q u r 0) (formulas_later w v c.step_into.ensures.follows.grows a.found.awaited.items c.requires.asked.found.awaited) c.in_ok-show.ensures.shows in
    let new : (s : Sequent) (rest : List Sequent) → goals_of w p ≡ s ∷ rest → formula_of s y ≡ None = λ s rest e. ap (λ k. formula_of k y) (sym (c.first_goal.ensures.reads s rest e)) ∙ c.in_ok-own.ensures.new w in
    let len : c.len-place.result ≡ length a.found.awaited.items = search rules in
    let last : c.len-place.result ≡ length As = len ∙ sym (length-map a.found.awaited.items (read w)) in
    own_there w v u p q r y As R cuts shows new c.len-place.result last (read u a.found.result)
    ((advances_on _ _ _ _ _ _ (advances c.step_into.ensures.follows) c.show.ensures.follows).grows.readings a.found.result c.requires.asked.found.result) c.requires.open

pub returns-clause-follows : goal.returns-clause-follows
returns-clause-follows g c = advances_on _ _ _ _ _ _ (advances_on _ _ _ _ _ _ (advances c.step_into.ensures.follows) c.show.ensures.follows) (advances c.open_beside.ensures.follows)

pub returns-clause-owes : goal.returns-clause-owes
returns-clause-owes g c =
    let w = c.args.world.now in
    let v = c.step_into.new.world in
    let u = c.show.new.world in
    let x = c.open_beside.new.world in
    let p = c.args.proof.now in
    let q = c.step_into.new.proof in
    let r = c.show.new.proof in
    let t = c.open_beside.new.proof in
    let H = c.args.name.now in
    let y = c.in_ok-own.own in
    let R = read w c.args.asked.now.found.result in
    let cuts : Cuts w p v q y R = cut_two w v p q y c.in_ok-named.named R c.in_ok-named.ensures c.in_ok-step_into.ensures.took in
    on_ok c.open_beside.result
    (λ opens s rest e.
    let owed = taken_unless (is_used s H) H in
    let shown : Owes owed w p u r = owes_before owed w v u p q r c.step_into.ensures.follows.owes (c.in_ok-show.ensures.owes (proving R s) (assuming y R s ∷ rest) (cuts s rest e)) in
    owes_behind owed w u x p r t shown c.open_beside.ensures.follows.owes)
    c.open_beside.ensures.opened

pub returns-clause-left : goal.returns-clause-left
returns-clause-left g c =
    let w = c.args.world.now in
    let v = c.step_into.new.world in
    let u = c.show.new.world in
    let x = c.open_beside.new.world in
    let p = c.args.proof.now in
    let q = c.step_into.new.proof in
    let r = c.show.new.proof in
    let t = c.open_beside.new.proof in
    let a = c.args.asked.now in
    let l = label_of c.args.label.now in
    let y = c.in_ok-own.own in
    let As = map (read w) a.found.awaited.items in
    let R = read w a.found.result in
    let G = read u a.found.result in
    let gs = map (given_of w) a.given.items in
    let later = advances_on _ _ _ _ _ _ (advances c.step_into.ensures.follows) c.show.ensures.follows in
    let cuts : Cuts w p v q y R = cut_two w v p q y c.in_ok-named.named R c.in_ok-named.ensures c.in_ok-step_into.ensures.took in
    let shows : ShowsAll v q u r 0 As = subst (ShowsAll v q u r 0) (formulas_later w v c.step_into.ensures.follows.grows a.found.awaited.items c.requires.asked.found.awaited) c.in_ok-show.ensures.shows in
    let new : (s : Sequent) (rest : List Sequent) → goals_of w p ≡ s ∷ rest → formula_of s y ≡ None = λ s rest e. ap (λ k. formula_of k y) (sym (c.first_goal.ensures.reads s rest e)) ∙ c.in_ok-own.ensures.new w in
    let len : c.len-place.result ≡ length a.found.awaited.items = search rules in
    let last : c.len-place.result ≡ length As = len ∙ sym (length-map a.found.awaited.items (read w)) in
    let same : c.as_slice.result.now ≡ a.given.items = search rules in
    let terms : map (given_of u) c.as_slice.result.now ≡ gs = ap (map (given_of u)) same ∙ all_later w u later.grows a.given.items c.requires.asked.given in
    on_ok c.open_beside.result
    (λ opens.
    leaves_opened w v u p q r y As R cuts shows new c.len-place.result last G (later.grows.readings a.found.result c.requires.asked.found.result) l gs later.declared x t
    (subst (λ hs. OpensBeside u r x t c.len-place.result l y hs G) terms opens))
    c.open_beside.ensures.opened

pub returns-clause-stopped : goal.returns-clause-stopped
returns-clause-stopped g c spent =
    let w = c.args.world.now in
    let v = c.step_into.new.world in
    let u = c.show.new.world in
    let p = c.args.proof.now in
    let q = c.step_into.new.proof in
    let r = c.show.new.proof in
    let a = c.args.asked.now in
    let l = label_of c.args.label.now in
    let y = c.in_ok-own.own in
    let As = map (read w) a.found.awaited.items in
    let R = read w a.found.result in
    let G = read u a.found.result in
    let gs = map (given_of w) a.given.items in
    let later = advances_on _ _ _ _ _ _ (advances c.step_into.ensures.follows) c.show.ensures.follows in
    let cuts : Cuts w p v q y R = cut_two w v p q y c.in_ok-named.named R c.in_ok-named.ensures c.in_ok-step_into.ensures.took in
    let shows : ShowsAll v q u r 0 As = subst (ShowsAll v q u r 0) (formulas_later w v c.step_into.ensures.follows.grows a.found.awaited.items c.requires.asked.found.awaited) c.in_ok-show.ensures.shows in
    let new : (s : Sequent) (rest : List Sequent) → goals_of w p ≡ s ∷ rest → formula_of s y ≡ None = λ s rest e. ap (λ k. formula_of k y) (sym (c.first_goal.ensures.reads s rest e)) ∙ c.in_ok-own.ensures.new w in
    let len : c.len-place.result ≡ length a.found.awaited.items = search rules in
    let last : c.len-place.result ≡ length As = len ∙ sym (length-map a.found.awaited.items (read w)) in
    let same : c.as_slice.result.now ≡ a.given.items = search rules in
    let terms : map (given_of u) c.as_slice.result.now ≡ gs = ap (map (given_of u)) same ∙ all_later w u later.grows a.given.items c.requires.asked.given in
    cant_open_result w v u p q r y As R cuts shows new c.len-place.result last G (later.grows.readings a.found.result c.requires.asked.found.result) l gs later.declared
    (subst (λ hs. CantOpenBeside u r c.len-place.result l y hs G) terms (c.open_beside.ensures.stopped spent))
