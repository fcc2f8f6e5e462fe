use Rattle.std.proofs.Common.{◌≡◌, Option, None, sym, ◌∙◌, ap, subst}
use Rattle.std.specs.Prelude.{IfSome}
use Rattle.ab_kernel.specs.ab_rules.specs.declared.step.Step.{Step}
use Rattle.ab_kernel.specs.declared.node.ProofNode.{ProofNode}
use Rattle.ab_logic.specs.declared.world.World.{World}
use Rattle.ab_store.specs.declared.mark.Mark.{Mark}
use Rattle.ab_remains.specs.RaisedMarks.{IsRaisedFor}
use Rattle.ab_remains.proofs.Raising.{raised_not}
use Rattle.ab_proof_marks.specs.NamedInProofs.{HoldsTerms}
use Rattle.ab_proof_marks.proofs.Stepping.{node_there, node_absent}
use Rattle.ab_proof_marks.proofs.proof_marks.mark_to_step_of.Goals as goal

-- no mark is raised where there is no step
for_none : (w : World) (m : Mark) (o : Option Step) → o ≡ None → IsRaisedFor w (λ v. IfSome o (HoldsTerms v)) m m
for_none w m o none = subst (λ (p : Option Step). IsRaisedFor w (λ v. IfSome p (HoldsTerms v)) m m) (sym none) (raised_not w m (λ v. Unit {0} → Unit {0}) (λ v. Unit {0}) (λ v h. h))

pub returns-in-None : goal.returns-in-None
returns-in-None c = for_none c.args.world.now c.args.mark _ (node_absent c.args.proof.now.nodes c.args.refinement.node c.in-None.ensures.node)

pub returns-in-None-step : goal.returns-in-None-step
returns-in-None-step c =
    for_none c.args.world.now c.args.mark _
    (ap (λ (n : ProofNode). n.step) (node_there c.args.proof.now.nodes c.args.refinement.node c.in-Some.node.now c.in-Some.ensures.node) ∙ c.in-None-step.is)

pub returns-in-Some-step : goal.returns-in-Some-step
returns-in-Some-step c =
    subst (λ (p : Option Step). IsRaisedFor c.args.world.now (λ v. IfSome p (HoldsTerms v)) c.args.mark c.mark_to_step.result)
    (sym (ap (λ (n : ProofNode). n.step) (node_there c.args.proof.now.nodes c.args.refinement.node c.in-Some.node.now c.in-Some.ensures.node) ∙ c.in-Some-step.is))
    c.mark_to_step.ensures
