-- The atom that stands under the prefix of a head.
use Rattle.std.specs.Prelude.{ℕ, List, [], ◌∷◌}
use Rattle.ab_term.specs.Types.{Ty}
use Rattle.ab_term.specs.Logical.{nabla}
use Rattle.ab_term.specs.Terms.{constant, logical, lam, spine, Terms, no_terms, term, Read}
use Rattle.ab_unifiers.specs.Replacements.{Cell}

-- under binders of these names stands an atom of the predicate
pub data HeadedBy : Read → List ℕ → List (Cell (List ℕ)) → Type 0 where
  an_atom : (c : List ℕ) (ts : Terms ℕ (List ℕ)) → HeadedBy (spine (constant c) ts) c []
  a_nabla : (A B : Ty) (y : List ℕ) (t : Read) (c : List ℕ) (zs : List (Cell (List ℕ))) → HeadedBy t c zs
      → HeadedBy (spine (logical (nabla A)) (term (lam B y t) no_terms)) c (record { hint = y; type = A } ∷ zs)
