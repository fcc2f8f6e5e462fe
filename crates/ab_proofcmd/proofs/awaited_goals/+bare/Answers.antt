use Rattle.std.proofs.Common.{List, ℕ, ◌-◌, take, drop, length, sym, subst}
use Rattle.ab_theory.specs.Steps.{weaken}
use Rattle.ab_hypothesis.specs.ab_steps.specs.Progress.{TookInto}
use Rattle.ab_hypothesis.specs.ab_steps.proofs.Following.{follows_on}
use Rattle.ab_hypothesis.proofs.Moves.{on_ok}
use Rattle.ab_proofcmd.specs.GoalCounts.{Bares}
use Rattle.ab_proofcmd.proofs.Bared.{bares_one}
use Rattle.ab_proofcmd.proofs.Staged.{first_so}
use Rattle.ab_proofcmd.proofs.awaited_goals.+bare.Goals as goal

pub returns-in_ok-name-in-len1-up-clause-follows : goal.returns-in_ok-name-in-len1-up-clause-follows
returns-in_ok-name-in-len1-up-clause-follows g t c = follows_on _ _ _ _ _ _ c.in_ok-bare-in-len1-up.ensures.follows c.step_into.ensures.follows

pub returns-in_ok-name-in-len1-up-clause-bares : goal.returns-in_ok-name-in-len1-up-clause-bares
returns-in_ok-name-in-len1-up-clause-bares g t c =
    let w = c.args.world.now in
    let p = c.args.proof.now in
    let v = c.bare.new.world in
    let q = c.bare.new.proof in
    let u = c.step_into.new.world in
    let r = c.step_into.new.proof in
    let place = c.args.place in
    let xs = c.args.names.now in
    let x = c.first-item.result in
    on_ok c.step_into.result
    (λ took.
    subst (Bares w p u r place) (sym (first_so xs x c.in-len1-up.len_at_least c.first-item.is))
    (bares_one w v u p q r place x (take (length xs - 1) (drop 1 xs)) c.in_ok-bare-in-len1-up.ensures.bares
    (subst (λ z. TookInto v q u r place (weaken z) 1) c.in_ok-name-in-len1-up.ensures took)))
    c.step_into.ensures.took
