-- The stack of what is still to be read.
use Rattle.std.proofs.Common.{◌≡◌, ℕ, List, [], ◌∷◌, ◌++◌, refl}
use Rattle.ab_cert.specs.declared.part.Part.{Part}
use Rattle.ab_cert.specs.Grammar.{copies}
use Rattle.ab_cert.specs.PendingParts.{stack_parts}

pub stack_more : (es : List (Part × ℕ)) (e : Part × ℕ) (below : List Part) → stack_parts (es ++ e ∷ []) below ≡ copies e.1 e.0 ++ stack_parts es below
stack_more [] e below = refl
stack_more (x ∷ es) e below = stack_more es e (copies x.1 x.0 ++ below)
