use Rattle.std.specs.Prelude.{◌≡◌, ◌++◌, ◌∷◌, [], ℕ, List, take}
use Rattle.ab_term.specs.Terms.{Read}
use Rattle.ab_formulas.specs.Declarations.{a_theorem, names_at}
use Rattle.ab_logic.specs.Worlds.{declarations_of}
use Rattle.ab_session.proofs.assumptions.names_of.Given as goal

abbrev pub invariant-loop-place : goal.invariant-loop-place
invariant-loop-place l = (F : Read) (js : List ℕ) → l.names.items ≡ names_at (declarations_of l.world ++ a_theorem l.next F js ∷ []) (take l.place-index l.places)
