-- What `apply` and `backchain` ask of what is written: hypotheses that are named, names that terms are given for, and the terms
-- in order, of which each is read where the nominal names of those before it are known. And how what is left is opened.
use Rattle.std.specs.Prelude.{◌≡◌, ℕ, suc, List, [], ◌∷◌, ◌++◌, map, bytes_eq, Bool, ◌||◌, Option, Some, None, if◌then◌else◌}
use Rattle.std.specs.List.{list_any}
use Rattle.ab_term.specs.Types.{Ty}
use Rattle.ab_term.specs.Terms.{Nominal, logical, spine, no_terms, term, Read}
use Rattle.ab_term.specs.Logical.{equality}
use Rattle.ab_term.specs.Names.{support}
use Rattle.ab_grammar.specs.CommandTrees.{Instance, Argument, named, hole}
use Rattle.ab_meaning.specs.Scopes.{Scope}
use Rattle.ab_formulas.specs.Declarations.{Declarations, theorem_in}
use Rattle.ab_formulas.specs.Sequents.{Sequent, formula_of, proving}
use Rattle.ab_formulas.specs.NewNames.{Label}
use Rattle.ab_theory.specs.Pieces.{Piece, Given, type_named, parts}
use Rattle.ab_theory.specs.Uses.{implied, Aim}
use Rattle.ab_theory.specs.UseAnswers.{Using, IsUsedFor, NothingMatches, IsOutsideAt, IsLeftOpen}
use Rattle.ab_effects.specs.Openings.{Opened, Nameless}
use Rattle.ab_meaning.specs.Refusals.{Refusal, unknown, no_match, not_pattern, unresolved}
use Rattle.ab_meaning.specs.Terms.{scope_of}

-- THE FORMULA of that name: of a hypothesis, or else of a theorem
abbrev pub formula_or : Option Read → Option Read → Option Read
formula_or (Some F) o = Some F
formula_or None o = o

abbrev pub formula_named : Declarations → Sequent → List ℕ → Option Read
formula_named D s H = formula_or (formula_of s H) (theorem_in D H)

-- the hypotheses that are named, in order
abbrev pub names_in : List Argument → List (List ℕ)
names_in [] = []
names_in (named H ∷ vs) = H ∷ names_in vs
names_in (hole ∷ vs) = names_in vs

-- their formulas, and nothing for a hole
abbrev pub formulas_in : Sequent → List Argument → List (Option Read)
formulas_in s [] = []
formulas_in s (named H ∷ vs) = formula_of s H ∷ formulas_in s vs
formulas_in s (hole ∷ vs) = None ∷ formulas_in s vs

-- the first name that a term is given for and that no `forall` has which is taken off
abbrev pub unknown_unless : List ℕ → Option Ty → Option Refusal → Option Refusal
unknown_unless x None o = Some (unknown x)
unknown_unless x (Some A) o = o

abbrev pub strange : List Piece → List Instance → Option Refusal
strange ps [] = None
strange ps (i ∷ is) = unknown_unless i.name (type_named i.name ps) (strange ps is)

-- whether a term is given twice for one name
abbrev pub given_twice : List Instance → Bool
given_twice [] = Bool.false
given_twice (i ∷ is) = list_any (λ (j : Instance). bytes_eq j.name i.name) is || given_twice is

-- the names that a goal knows, where terms hold these constants
abbrev pub scope_with : Declarations → Sequent → List Nominal → Scope
scope_with D s more = record (scope_of D s) { nominals = (scope_of D s).nominals ++ more }

-- t = t
abbrev pub itself : Given → Read
itself g = spine (logical (equality g.type)) (term g.value (term g.value no_terms))

-- the formula, where each term that is given equals itself: a formula that says the same, and holds their constants
abbrev pub given_that : List Given → Read → Read
given_that [] F = F
given_that (g ∷ gs) F = implied (itself g) (given_that gs F)

-- THE RESULT IS OPENED in the goal, where no constant of a term that is given is new
abbrev pub OpenedBeside : Declarations → List Given → Read → Label → Sequent → Sequent → Type 0
OpenedBeside D gs F l s u =
    (m : Label) × (v : Sequent) × Opened D (F ∷ []) l (proving (given_that gs s.conclusion) s) m v × (u ≡ proving s.conclusion v)

abbrev pub NamelessBeside : Declarations → List Given → Read → Label → Sequent → Type 0
NamelessBeside D gs F l s = Nameless D (F ∷ []) l (proving (given_that gs s.conclusion) s)

-- THE FORMULA CAN'T BE USED, for this cause. Equations are numbered from 1.
pub data IsNotUsed (u : Using) : Refusal → Type 0 where
  apart : NothingMatches u → IsNotUsed u no_match
  outside : (i : ℕ) → IsOutsideAt u i → IsNotUsed u (not_pattern (suc i))
  left_open : (name : List ℕ) → IsLeftOpen u name → IsNotUsed u (unresolved name)

-- what a formula is used for in the goal
abbrev pub using : Sequent → List Given → List Piece → Aim → Read → Using
using s gs ps aim F = record { goal = s; parts = parts gs ps; aim = aim; formula = F }
