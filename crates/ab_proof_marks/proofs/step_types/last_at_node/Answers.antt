use Rattle.std.proofs.Common.{◌≡◌, sym, ◌∙◌, ap, arith}
use Rattle.ab_kernel.specs.declared.node.ProofNode.{ProofNode}
use Rattle.ab_proof_marks.proofs.Stepping.{node_there, node_absent}
use Rattle.ab_proof_marks.proofs.StepTypes.{none_at_node, last_of_step}
use Rattle.ab_proof_marks.proofs.step_types.last_at_node.Goals as goal

pub returns-in-None : goal.returns-in-None
returns-in-None c = none_at_node _ c.args.place c.args.count (node_absent c.args.proof.now.nodes c.args.place c.in-None.ensures.node)

pub returns-in-None-step : goal.returns-in-None-step
returns-in-None-step c =
    none_at_node _ c.args.place c.args.count
    (ap (λ (n : ProofNode). n.step) (node_there c.args.proof.now.nodes c.args.place c.in-Some.node.now c.in-Some.ensures.node) ∙ c.in-None-step.is)

pub returns-in-Some-step : goal.returns-in-Some-step
returns-in-Some-step c =
    last_of_step _ c.in-Some-step.step c.args.place c.args.count c.last_in_step.result
    (ap (λ (n : ProofNode). n.step) (node_there c.args.proof.now.nodes c.args.place c.in-Some.node.now c.in-Some.ensures.node) ∙ c.in-Some-step.is)
    (omega (arith, c.if-place-count.false)) c.last_in_step.ensures
