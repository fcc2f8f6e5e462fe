use Rattle.ab_term.proofs.Abstracting.{abstracted_closed}
use Rattle.ab_term.proofs.Determined.{inverse_only, inverse_unique}
use Rattle.ab_term.proofs.inversions.patterns_are_inverted.Goals as goal

pub returns-clause-exists : goal.returns-clause-exists
returns-clause-exists g c = λ sg G A k x hs t n d o. abstracted_closed sg x A hs t G k n d o

pub returns-clause-no_foreign_name : goal.returns-clause-no_foreign_name
returns-clause-no_foreign_name g c = λ A x hs v t o e. inverse_only x A hs v t o e

pub returns-clause-one : goal.returns-clause-one
returns-clause-one g c = λ sg G A B x hs v t n d dv ov e. inverse_unique sg x v t n d dv ov e
