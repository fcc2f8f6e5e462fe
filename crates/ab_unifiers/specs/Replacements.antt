-- Variables that may be replaced, and what is done with them: new variables over some of the names, and pruning. A
-- variable is known by its number in a list of cells, one for each variable; new ones are added at its end.
use Rattle.std.specs.Prelude.{ℕ, List, [], ◌∷◌, ◌++◌, map, length, get_or, filter, Bool, true, false, cond, ◌&&◌, ◌||◌, not, Option, Some, None, is_some}
use Rattle.std.specs.List.{list_any, list_all}
use Rattle.ab_term.specs.Types.{Ty}
use Rattle.ab_term.specs.Terms.{Variable, Head, variable, Term, lam, spine, Terms, no_terms, term}
use Rattle.ab_term.specs.Variables.{Substitution, image, composition, variables}
use Rattle.ab_term.specs.Sameness.{same_numbered, same_number}
use Rattle.ab_term.specs.Abstraction.{among, under, may_stand}
use Rattle.ab_unifiers.specs.Patterns.{pattern, applied, value, kept, kept_type}

-- the hint and the type of a variable
pub record Cell (Hint : Type 0) : Type 0 where
  pub hint : Hint
  pub type : Ty

-- What a rule does: variables are made, and some are replaced by what is put in. `flexible` are those that may still
-- be replaced, in order of age.
pub record Change (Hint : Type 0) : Type 0 where
  pub cells : List (Cell Hint)
  pub flexible : List (Variable ℕ)
  pub pairs : Substitution ℕ Hint

-- whether the variable is among those listed
abbrev pub holds : List (Variable ℕ) → Variable ℕ → Bool
holds ys y = list_any (λ z. same_numbered z y) ys

-- the others, in their order
abbrev pub without : Variable ℕ → List (Variable ℕ) → List (Variable ℕ)
without y ys = filter (λ z. not (same_numbered z y)) ys

abbrev pub is_flexible : List (Variable ℕ) → Head ℕ → Bool
is_flexible ys (variable y) = holds ys y
is_flexible ys _ = false

module _ {Hint : Type 0} where
  abbrev pub patterns_at : List (Variable ℕ) → Head ℕ → Terms ℕ Hint → Bool → Bool
  patterns_at ys (variable y) ts rest = cond (holds ys y) (is_some (pattern y.type ts)) rest
  patterns_at ys h ts rest = rest

  -- each flexible subterm is a pattern
  abbrev mutual
    pub has_patterns : List (Variable ℕ) → Term ℕ Hint → Bool
    has_patterns ys (lam A x t) = has_patterns ys t
    has_patterns ys (spine h ts) = patterns_at ys h ts (all_have_patterns ys ts)

    pub all_have_patterns : List (Variable ℕ) → Terms ℕ Hint → Bool
    all_have_patterns ys no_terms = true
    all_have_patterns ys (term t ts) = has_patterns ys t && all_have_patterns ys ts

  -- the variable stands in the term
  abbrev pub occurs : Variable ℕ → Term ℕ Hint → Bool
  occurs y t = holds (variables t) y

  -- no foreign name stands in the term other than as an argument of a flexible variable. A name is foreign where it
  -- isn't among those listed; names that the term binds are listed on the way, so they are never foreign.
  abbrev mutual
    pub no_foreign : List (Variable ℕ) → List (Head ℕ) → Term ℕ Hint → Bool
    no_foreign ys names (lam A x t) = no_foreign ys (under names) t
    no_foreign ys names (spine h ts) = is_flexible ys h || (may_stand names h && no_foreign_all ys names ts)

    pub no_foreign_all : List (Variable ℕ) → List (Head ℕ) → Terms ℕ Hint → Bool
    no_foreign_all ys names no_terms = true
    no_foreign_all ys names (term t ts) = no_foreign ys names t && no_foreign_all ys names ts

module _ {Hint : Type 0} (x : Hint) where
  abbrev pub hint_of : List (Cell Hint) → Variable ℕ → Hint
  hint_of cells y = (get_or cells y.name (record { hint = x; type = y.type })).hint

  -- one variable more, the youngest, with the hint of y
  abbrev pub made : List (Cell Hint) → Variable ℕ → Ty → Cell Hint
  made cells y A = record { hint = hint_of cells y; type = A }

  abbrev pub next_variable : List (Cell Hint) → Ty → Variable ℕ
  next_variable cells A = record { name = length cells; type = A }

  abbrev pub one : Variable ℕ → List (Head ℕ) → Term ℕ Hint → Substitution ℕ Hint
  one y names t = (y, value x y names t) ∷ []

  -- NARROWING: y, given names, becomes a new variable over those whose flag is set
  abbrev pub narrowed : Variable ℕ → List (Head ℕ) → List Bool → Change Hint → Change Hint
  narrowed y names keep c =
      let z = next_variable c.cells (kept_type keep y.type) in
      record {
        cells = c.cells ++ made c.cells y (kept_type keep y.type) ∷ [];
        flexible = without y c.flexible ++ z ∷ [];
        pairs = composition same_number c.pairs (one y names (applied x z (kept keep names)));
      }

  -- a variable, given names: those that may not stand there go
  abbrev pub pruned_names : List (Head ℕ) → Variable ℕ → Option (List (Head ℕ)) → Change Hint → Change Hint
  pruned_names names y None c = c
  pruned_names names y (Some bs) c = cond (list_all (among names) bs) c (narrowed y bs (map (among names) bs) c)

  -- what a flexible subterm has become
  abbrev pub pruned_here : List (Head ℕ) → Term ℕ Hint → Change Hint → Change Hint
  pruned_here names (spine (variable y) ts) c = cond (holds c.flexible y) (pruned_names names y (pattern y.type ts) c) c
  pruned_here names _ c = c

  -- PRUNING: each flexible subterm, from left to right, loses the names that are not among those that may stand
  -- there. What a subterm has become by then is its image.
  abbrev mutual
    pub pruned : List (Variable ℕ) → List (Head ℕ) → Term ℕ Hint → Change Hint → Change Hint
    pruned ys names (lam A y t) c = pruned ys (under names) t c
    pruned ys names (spine h ts) c = cond (is_flexible ys h) (pruned_here names (image same_number c.pairs (spine h ts)) c) (pruned_all ys names ts c)

    pub pruned_all : List (Variable ℕ) → List (Head ℕ) → Terms ℕ Hint → Change Hint → Change Hint
    pruned_all ys names no_terms c = c
    pruned_all ys names (term t ts) c = pruned_all ys names ts (pruned ys names t c)
