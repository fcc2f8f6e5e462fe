-- A formula of the specification logic by its outermost connective. Public contracts don't speak of it.
use Rattle.std.specs.Prelude.{ℕ, List}
use Rattle.ab_term.specs.Types.{Ty}
use Rattle.ab_term.specs.Logical.{Logical, spec_universal, spec_implication, spec_conjunction}
use Rattle.ab_term.specs.Terms.{Head, logical, lam, spine, Terms, no_terms, term, Read}

pub data Shape : Type 0 where
  -- `pi` over a type, with the abstraction that it is given
  for_names : Ty → Read → Shape
  -- `=>` and `&`
  behind together : Read → Read → Shape
  other : Shape

abbrev pub shape_by : Logical → Terms ℕ (List ℕ) → Shape
shape_by (spec_universal A) (term t no_terms) = for_names A t
shape_by spec_implication (term t (term u no_terms)) = behind t u
shape_by spec_conjunction (term t (term u no_terms)) = together t u
shape_by _ ts = other

abbrev pub shape_headed : Head ℕ → Terms ℕ (List ℕ) → Shape
shape_headed (logical l) ts = shape_by l ts
shape_headed _ ts = other

abbrev pub shape_of : Read → Shape
shape_of (lam A x t) = other
shape_of (spine h ts) = shape_headed h ts
