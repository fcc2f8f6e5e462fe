use Rattle.std.proofs.Common.{◌+◌, sym, ◌∙◌, subst, arith}
use Rattle.std.proofs.lemmas.Option.{slice_get-get_or}
use Rattle.ab_kernel.specs.Nodes.{no_node}
use Rattle.ab_remains.proofs.Raising.{IsRaisedSoFar, raised_further}
use Rattle.ab_proof_marks.specs.NamedInProofs.{HoldsGoal}
use Rattle.ab_proof_marks.proofs.proof_marks.mark_to_goals.Goals as goal
use Rattle.ab_proof_marks.proofs.proof_marks.mark_to_goals.Goals.{in-Some, in_default}

pub loop-place-preserved : goal.loop-place-preserved
loop-place-preserved c =
    let w = c.args.world.now in
    let xs = c.args.proof.now.nodes in
    let i = c.loop-place.place in
    elim c.match-node.branch [
      | in-Some n ↦
          subst (IsRaisedSoFar w xs HoldsGoal c.args.first (i + 1) c.args.mark) (sym n.raised-is)
          (raised_further w xs HoldsGoal c.args.first i c.args.mark c.loop-place.raised n.mark_to_sequent-raised.result n.in-Some.node.now
          (omega (arith, c.loop-place-test.true, c.nodes-place-end.ensures)) (sym n.in-Some.ensures.node) c.loop-place.invariant n.mark_to_sequent-raised.ensures)
      | in_default n ↦
          let bad = sym (slice_get-get_or xs i no_node (omega (arith, c.loop-place-test.true, c.nodes-place-end.ensures))) ∙ sym c.node.ensures.node in absurd (cc)
    ]
