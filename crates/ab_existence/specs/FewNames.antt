-- WHERE NEW VARIABLES ARE SURE TO FIND NAMES. A number behind a stem is written with at most 64 digits, so behind one stem there are
-- only so many names. Here a step has room where fewer than 2 ^ 99 names are taken, those among them that it comes to make.
use Rattle.std.specs.Prelude.{◌≡◌, ℕ, ◌+◌, ◌<◌, ◌^◌, List, length, Some, Contains, codes}
use Rattle.ab_term.specs.Terms.{Read}
use Rattle.ab_term.specs.Variables.{Substitution}
use Rattle.ab_unifiers.specs.Replacements.{Cell}
use Rattle.ab_unifiers.specs.Unification.{unified, Solves}
use Rattle.ab_formulas.specs.Declarations.{Declarations}
use Rattle.ab_formulas.specs.Forms.{as_equal}
use Rattle.ab_formulas.specs.FreeStems.{taken_names}
use Rattle.ab_formulas.specs.NewNames.{Names}
use Rattle.ab_formulas.specs.Sequents.{Sequent, formula_of, without}
use Rattle.ab_theory.specs.Equations.{problem, made}
use Rattle.ab_theory.specs.Splits.{problem_of, CaseOver}
use Rattle.ab_theory.specs.Subjects.{Subject, subject_of, cases_by}
use Rattle.ab_theory.specs.Steps.{Step, for_all_right, exists_left, equal_left, definition_left}

-- so many new variables of the goal find names
abbrev pub HasRoom : Declarations → Sequent → ℕ → Type 0
HasRoom D s n = length (taken_names D s) + n < 2 ^ 99

-- as many as solving the equation makes
abbrev pub HasRoomToSolve : Declarations → Sequent → Read → Read → Type 0
HasRoomToSolve D s t u = (cells more : List (Cell (List ℕ))) (r : Substitution ℕ (List ℕ)) → Solves (codes "x") (problem cells s t u) (unified more r) → HasRoom D s (length (made cells more r))

-- as many as splitting the goal by the subject makes in each case
abbrev pub HasRoomInCases : Declarations → Sequent → Sequent → List ℕ → Subject → Type 0
HasRoomInCases D goal rest name x =
    (c : CaseOver) (cells more : List (Cell (List ℕ))) (r : Substitution ℕ (List ℕ)) → Contains (cases_by goal rest name x) c
    → Solves (codes "x") (problem_of (c cells)) (unified more r) → HasRoom D (c cells).goal (length (made (c cells).before more r))

-- THE STEP FINDS NAMES for the variables that it makes
abbrev pub StepFindsNames : Declarations → Step → Sequent → Type 0
StepFindsNames D for_all_right s = HasRoom D s 1
StepFindsNames D (exists_left H l) s = HasRoom D s 1
StepFindsNames D (equal_left H) s = (F : Read) (p : Read × Read) → formula_of s H ≡ Some F → as_equal F ≡ Some p → HasRoomToSolve D (without H s) p.0 p.1
StepFindsNames D (definition_left H l) s =
    (F : Read) (x : Subject) (name : List ℕ) (t : Sequent) → formula_of s H ≡ Some F → subject_of D F ≡ Some x → Names l (without H s) name t → HasRoomInCases D s t name x
StepFindsNames D _ s = Unit {0}
