use Rattle.std.specs.List.{AllWithin}
use Rattle.ab_logic.specs.Worlds.{Holds}
use Rattle.ab_logic.specs.declared.sequent.Hypothesis.{Hypothesis}
use Rattle.ab_remains.specs.RaisedMarks.{IsRaised}
use Rattle.ab_remains.proofs.sequent_marks.mark_to_hypotheses.Given as goal

abbrev pub invariant-loop-hypothesis : goal.invariant-loop-hypothesis
invariant-loop-hypothesis l =
    IsRaised l.world (λ v. AllWithin (λ (h : Hypothesis). Holds l.world h.formula → Holds v h.formula) l.hypotheses 0 l.hypothesis-index)
    (λ v. AllWithin (λ (h : Hypothesis). Holds v h.formula) l.hypotheses 0 l.hypothesis-index) l.fn.mark l.raised
