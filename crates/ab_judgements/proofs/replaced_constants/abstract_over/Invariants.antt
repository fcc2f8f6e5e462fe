use Rattle.ab_judgements.proofs.Abstracting.{Abstracted}
use Rattle.ab_judgements.proofs.replaced_constants.abstract_over.Given as goal

abbrev pub invariant-loop-left : goal.invariant-loop-left
invariant-loop-left l = Abstracted l.types l.initial.store l.store l.constants l.fn.term l.left l.here

abbrev pub decreases-loop-left : goal.decreases-loop-left
decreases-loop-left l = l.left
