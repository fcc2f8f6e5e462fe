use Rattle.std.proofs.Common.{◌≡◌, ◌+◌, subst, rules}
use Rattle.ab_logic.specs.Worlds.{read}
use Rattle.ab_hypothesis.specs.ab_steps.proofs.Following.{follows_on}
use Rattle.ab_hypothesis.proofs.Moves.{on_ok}
use Rattle.ab_proofcmd.specs.GoalCounts.{Gives}
use Rattle.ab_proofcmd.proofs.Bared.{turned}
use Rattle.ab_proofcmd.proofs.new_conclusions.turn.Goals as goal

pub returns-in-Some-clause-follows : goal.returns-in-Some-clause-follows
returns-in-Some-clause-follows g c = follows_on _ _ _ _ _ _ c.step_into.ensures.follows c.close_turned.ensures.follows

pub returns-in-Some-clause-turns : goal.returns-in-Some-clause-turns
returns-in-Some-clause-turns g c =
    let w = c.args.world.now in
    let v = c.step_into.new.world in
    let u = c.close_turned.new.world in
    let q = c.step_into.new.proof in
    let r = c.close_turned.new.proof in
    let more : c.in-Some.next ≡ c.args.place + 1 = search rules in
    on_ok c.close_turned.result
    (λ gives. turned w v u c.args.proof.now q r c.args.place (read w c.args.formula) c.in_ok-name.name c.in_ok-step_into.ensures.took (subst (λ n. Gives v q u r n 0) more gives))
    c.close_turned.ensures.gives
