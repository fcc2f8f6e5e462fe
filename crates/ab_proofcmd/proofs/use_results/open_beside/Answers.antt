use Rattle.std.specs.Prelude.{Err}
use Rattle.std.proofs.Common.{◌≡◌, map, ◌∙◌, rules}
use Rattle.ab_logic.specs.Worlds.{read}
use Rattle.ab_equations.specs.Labels.{label_of}
use Rattle.ab_uses.specs.GivenReadings.{given_of}
use Rattle.ab_hypothesis.specs.declared.stop.Stop.{Stop}
use Rattle.ab_hypothesis.specs.ab_steps.specs.ab_kernel.proofs.Later.{still_proof}
use Rattle.ab_hypothesis.specs.ab_steps.proofs.Following.{follows_on}
use Rattle.ab_proofcmd.proofs.Turned.{follows_later, conclusion_at, has_still, opens_beside, cant_open_beside}
use Rattle.ab_proofcmd.proofs.use_results.open_beside.Goals as goal

pub given_that-requires-clause-formula : goal.given_that-requires-clause-formula
given_that-requires-clause-formula g c = (c.in-Some.ensures.held c.args.world.now c.requires.proof).conclusion

pub returns-in_err-said-clause-follows : goal.returns-in_err-said-clause-follows
returns-in_err-said-clause-follows g c = follows_later c.args.world.now c.given_that.new.world c.args.proof.now c.given_that.ensures.grows c.given_that.ensures.declared c.requires.proof

pub turn-requires-clause-proof : goal.turn-requires-clause-proof
turn-requires-clause-proof g c = still_proof c.args.world.now c.given_that.new.world c.given_that.ensures.grows c.given_that.ensures.declared c.args.proof.now c.requires.proof

pub returns-in_err-turn-clause-follows : goal.returns-in_err-turn-clause-follows
returns-in_err-turn-clause-follows g c =
    let begun = follows_later c.args.world.now c.given_that.new.world c.args.proof.now c.given_that.ensures.grows c.given_that.ensures.declared c.requires.proof in
    follows_on _ _ _ _ _ _ begun c.turn.ensures.follows

pub open_one-requires-clause-formula : goal.open_one-requires-clause-formula
open_one-requires-clause-formula g c = c.turn.ensures.follows.grows.ids c.args.formula (c.given_that.ensures.grows.ids c.args.formula c.requires.formula)

pub open_one-requires-clause-there : goal.open_one-requires-clause-there
open_one-requires-clause-there g c =
    let w = c.args.world.now in
    let u = c.given_that.new.world in
    let v = c.turn.new.world in
    has_still w u v c.args.proof.now c.turn.new.proof c.args.place c.args.own (read w c.args.formula) (read v c.args.formula) (read u c.in_ok-said.said) c.given_that.ensures.grows c.requires.proof c.requires.there
    c.in_ok-turn.ensures.turns (c.turn.ensures.follows.grows.readings c.args.formula (c.given_that.ensures.grows.ids c.args.formula c.requires.formula) ∙ c.given_that.ensures.grows.readings c.args.formula c.requires.formula)

pub returns-in_err-open_one-clause-follows : goal.returns-in_err-open_one-clause-follows
returns-in_err-open_one-clause-follows g c =
    let begun = follows_later c.args.world.now c.given_that.new.world c.args.proof.now c.given_that.ensures.grows c.given_that.ensures.declared c.requires.proof in
    follows_on _ _ _ _ _ _ (follows_on _ _ _ _ _ _ begun c.turn.ensures.follows) c.open_one.ensures.follows

pub turn-requires-2-clause-formula : goal.turn-requires-2-clause-formula
turn-requires-2-clause-formula g c =
    let held = (c.in-Some.ensures.held c.args.world.now c.requires.proof).conclusion in
    c.open_one.ensures.follows.grows.ids c.in-Some.goal.now.conclusion (c.turn.ensures.follows.grows.ids c.in-Some.goal.now.conclusion (c.given_that.ensures.grows.ids c.in-Some.goal.now.conclusion held))

pub returns-in_err-turn-2-clause-follows : goal.returns-in_err-turn-2-clause-follows
returns-in_err-turn-2-clause-follows g c =
    let begun = follows_later c.args.world.now c.given_that.new.world c.args.proof.now c.given_that.ensures.grows c.given_that.ensures.declared c.requires.proof in
    follows_on _ _ _ _ _ _ (follows_on _ _ _ _ _ _ (follows_on _ _ _ _ _ _ begun c.turn.ensures.follows) c.open_one.ensures.follows) c.turn-2.ensures.follows

pub returns-clause-follows : goal.returns-clause-follows
returns-clause-follows g c =
    let begun = follows_later c.args.world.now c.given_that.new.world c.args.proof.now c.given_that.ensures.grows c.given_that.ensures.declared c.requires.proof in
    follows_on _ _ _ _ _ _ (follows_on _ _ _ _ _ _ (follows_on _ _ _ _ _ _ begun c.turn.ensures.follows) c.open_one.ensures.follows) c.turn-2.ensures.follows

pub returns-in_err-open_one-clause-stopped : goal.returns-in_err-open_one-clause-stopped
returns-in_err-open_one-clause-stopped g c stop =
    let w = c.args.world.now in
    let p = c.args.proof.now in
    let u = c.given_that.new.world in
    let v = c.turn.new.world in
    let F = c.args.formula in
    let one = c.given_that.ensures.grows in
    let two = c.turn.ensures.follows.grows in
    let same : read v F ≡ read w F = two.readings F (one.ids F c.requires.formula) ∙ one.readings F c.requires.formula in
    let spent : c.open_one.result ≡ Err Stop.NamesSpent = search rules in
    cant_open_beside w u v p c.turn.new.proof c.args.place (label_of c.args.label.now) c.args.own (map (given_of w) c.args.given.now) (read w F) (read v F) (read w c.in-Some.goal.now.conclusion) (read u c.in_ok-said.said) one c.requires.proof
    (conclusion_at w p c.args.place c.in-Some.goal.now (c.in-Some.ensures.reads w)) c.in_ok-said.ensures.reads c.in_ok-turn.ensures.turns same (c.turn.ensures.follows.declared ∙ c.given_that.ensures.declared)
    (c.open_one.ensures.stopped spent)

pub returns-clause-opened : goal.returns-clause-opened
returns-clause-opened g c =
    let w = c.args.world.now in
    let p = c.args.proof.now in
    let u = c.given_that.new.world in
    let v = c.turn.new.world in
    let x = c.open_one.new.world in
    let C = c.in-Some.goal.now.conclusion in
    let F = c.args.formula in
    let one = c.given_that.ensures.grows in
    let two = c.turn.ensures.follows.grows in
    let three = c.open_one.ensures.follows.grows in
    let held = (c.in-Some.ensures.held w c.requires.proof).conclusion in
    let same : read v F ≡ read w F = two.readings F (one.ids F c.requires.formula) ∙ one.readings F c.requires.formula in
    let is : read x C ≡ read w C = three.readings C (two.ids C (one.ids C held)) ∙ two.readings C (one.ids C held) ∙ one.readings C held in
    opens_beside w u v p c.turn.new.proof c.args.place (label_of c.args.label.now) c.args.own (map (given_of w) c.args.given.now) (read w F) (read v F) (read w C) (read u c.in_ok-said.said) one c.requires.proof
    (conclusion_at w p c.args.place c.in-Some.goal.now (c.in-Some.ensures.reads w)) c.in_ok-said.ensures.reads c.in_ok-turn.ensures.turns same (c.turn.ensures.follows.declared ∙ c.given_that.ensures.declared)
    x c.turn-2.new.world c.open_one.new.proof c.turn-2.new.proof (read x C) c.in_ok-open_one.ensures.opened c.in_ok-turn-2.ensures.turns is
