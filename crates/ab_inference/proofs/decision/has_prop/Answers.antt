use Rattle.std.proofs.Common.{subst}
use Rattle.ab_store.specs.ab_types.specs.Ids.{type_of}
use Rattle.ab_meaning.specs.Types.{PropFree}
use Rattle.ab_inference.specs.declared.assignments.Settled.{Settled}
use Rattle.ab_inference.specs.Verdicts.{type_found}
use Rattle.ab_inference.proofs.Freed.{one_more}
use Rattle.ab_inference.proofs.decision.has_prop.Goals as goal

pub loop-mark-preserved : goal.loop-mark-preserved
loop-mark-preserved c =
    let types = c.args.types.now in (
      c.in_ok-is_prop_free.ensures.kept,
      one_more (λ i. PropFree (type_found types c.args.base c.args.found.now c.args.marks.now i)) c.loop-mark.mark-index c.loop-mark.invariant.1
          (subst (λ (s : Settled). PropFree (type_of types s.ty)) c.found_at-settled.ensures (c.in_ok-is_prop_free.ensures.free c.if-not-branch.false)),
    )
