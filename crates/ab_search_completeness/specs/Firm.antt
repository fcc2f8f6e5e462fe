-- FORMULAS IN FOCUS THAT KEEP THEIR SHAPE, whatever is put in for the variables that may be replaced: their goals open the same, and
-- their names stay where they stand.
use Rattle.std.specs.Prelude.{◌≡◌, ℕ, suc, ◌<◌, List, length, Bool, true, false, ◌||◌, ◌&&◌, not}
use Rattle.std.specs.List.{All, list_any}
use Rattle.ab_term.specs.Logical.{spec_universal, spec_implication, spec_conjunction}
use Rattle.ab_term.specs.Terms.{Variable, logical, lam, spine, Terms, no_terms, term, Read}
use Rattle.ab_term.specs.Substitution.{lower_head}
use Rattle.ab_unifiers.specs.Replacements.{is_flexible}
use Rattle.ab_theory.specs.Parts.{Part, parts_of}
use Rattle.ab_search_trees.specs.Judgements.{hides_head}
use Rattle.ab_coverage.specs.VacuousNames.{is_binder_at, stands}

-- the name of the binder at k stands in the term, and not only in what a variable that may be replaced is given
abbrev mutual
  pub stands_firmly : List (Variable ℕ) → ℕ → Read → Bool
  stands_firmly ys k (lam A x t) = stands_firmly ys (suc k) t
  stands_firmly ys k (spine h ts) = not (is_flexible ys h) && (is_binder_at (lower_head k h) || all_stand_firmly ys k ts)

  pub all_stand_firmly : List (Variable ℕ) → ℕ → Terms ℕ (List ℕ) → Bool
  all_stand_firmly ys k no_terms = false
  all_stand_firmly ys k (term t ts) = stands_firmly ys k t || all_stand_firmly ys k ts

-- no goal to which the goal opens has such a variable for its head
abbrev pub opens_firmly : List (Variable ℕ) → Read → Bool
opens_firmly ys (spine (logical (spec_universal A)) (term (lam B x G) no_terms)) = opens_firmly ys G
opens_firmly ys (spine (logical spec_implication) (term F (term G no_terms))) = opens_firmly ys G
opens_firmly ys (spine (logical spec_conjunction) (term F (term G no_terms))) = opens_firmly ys F && opens_firmly ys G
opens_firmly ys G = not (hides_head ys G)

-- A NAME OF A PART STAYS in the atom, if it stands there
abbrev pub StaysInAtom : List (Variable ℕ) → Part → ℕ → Type 0
StaysInAtom ys p k = stands k p.atom ≡ true → stands_firmly ys k p.atom ≡ true

-- and in the goals, if it stands in them alone
abbrev pub StaysInGoals : List (Variable ℕ) → Part → ℕ → Type 0
StaysInGoals ys p k = stands k p.atom ≡ false → list_any (stands k) p.goals ≡ true → list_any (stands_firmly ys k) p.goals ≡ true

pub record PartIsFirm (ys : List (Variable ℕ)) (p : Part) : Type 0 where
  pub goals : All (λ G. opens_firmly ys G ≡ true) p.goals
  pub names : (k : ℕ) → k < length p.names → StaysInAtom ys p k

-- THE FORMULA IS FIRM: the goals of each part open the same, and names stay in its atom
abbrev pub IsFirm : List (Variable ℕ) → Read → Type 0
IsFirm ys F = All (PartIsFirm ys) (parts_of F)

-- IT KEEPS ITS NAMES: they stay in the goals too
abbrev pub KeepsNames : List (Variable ℕ) → Read → Type 0
KeepsNames ys F = All (λ p. (k : ℕ) → k < length p.names → StaysInGoals ys p k) (parts_of F)
