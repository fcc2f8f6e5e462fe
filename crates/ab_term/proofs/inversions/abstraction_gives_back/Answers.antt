use Rattle.ab_term.proofs.Closing.{abstracted_typed}
use Rattle.ab_term.proofs.Abstracting.{reduce-abstracted_hints}
use Rattle.ab_term.proofs.inversions.abstraction_gives_back.Goals as goal

pub returns-clause-typed : goal.returns-clause-typed
returns-clause-typed g c = λ sg G A B x hs t n d. abstracted_typed sg x n d

pub returns-clause-back : goal.returns-clause-back
returns-clause-back g c = λ sg G A B x hs t n d. reduce-abstracted_hints sg x t n d
