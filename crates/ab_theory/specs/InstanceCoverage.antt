-- THAT SPLITTING BY AN ATOM LOSES NOTHING, in the goals that come of it: each instance of the atom is met by one of them.
use Rattle.std.specs.Prelude.{◌≡◌, ℕ, List, ◌++◌, codes, Contains}
use Rattle.ab_term.specs.Types.{Ty}
use Rattle.ab_term.specs.Typing.{Signature}
use Rattle.ab_term.specs.Variables.{Substitution, image, IsTyped}
use Rattle.ab_term.specs.Sameness.{same_number}
use Rattle.ab_term.specs.Terms.{Read}
use Rattle.ab_unifiers.specs.Replacements.{Cell}
use Rattle.ab_unifiers.specs.Alternatives.{Alternative, alternative, on_left}
use Rattle.ab_unifiers.specs.InstanceCover.{IsOf}
use Rattle.ab_formulas.specs.Sequents.{Sequent, goal_names}
use Rattle.ab_theory.specs.Equations.{Naming}
use Rattle.ab_theory.specs.Splits.{CaseOver, Arises}
use Rattle.ab_theory.specs.Atoms.{Defined, Choice, choices_of}
use Rattle.ab_theory.specs.Analysis.{scope_of, case_of}

-- the alternative of a choice, for an atom of the goal, over these cells
abbrev pub alternative_of : Sequent → Defined → Choice → List (Cell (List ℕ)) → Alternative (List ℕ)
alternative_of s d c cells = alternative (codes "x") (scope_of cells s) d.arguments c.clause c.names on_left

-- where the case arises, over these cells or others behind them, what is made stands behind all that was there
abbrev pub AddsBehind : Naming → List (Cell (List ℕ)) → CaseOver → Type 0
AddsBehind IsName cells c = (more after : List (Cell (List ℕ))) (g : Sequent) → Arises IsName (c (cells ++ more)) after g → (rest : List (Cell (List ℕ))) × (after ≡ (cells ++ more) ++ rest)

-- THE GOAL MEETS the substitution and the body: it is that of a choice, whose equations have an answer. Another substitution
-- then gives of the clause's body, under the answer, this body, and of each formula of the goal that was split, raised and
-- under the answer, what the substitution makes of it. `alike` is the sameness in which formulas are compared.
pub record Meets (alike : Read → Read → Type 0) (sg : Signature) (IsName : Naming) (s t : Sequent) (name : List ℕ) (d : Defined) (q : Substitution ℕ (List ℕ)) (B : Read) (g : Sequent) : Type 0 where
  pub choice : Choice
  pub chosen : Contains (choices_of (goal_names s) d) choice
  pub cells : List (Cell (List ℕ))
  pub after : List (Cell (List ℕ))
  pub arises : Arises IsName (case_of s t name d choice cells) after g
  pub then : Substitution ℕ (List ℕ)
  pub typed : IsTyped sg then
  pub body : alike (image same_number then (image same_number arises.answer (alternative_of s d choice cells).body)) B
  pub formulas : (F : Read) (A : Ty) → IsOf sg (scope_of cells s) F A
      → alike (image same_number then (image same_number arises.answer (image same_number (alternative_of s d choice cells).raised F))) (image same_number q F)

-- one of the goals does so
abbrev pub IsMetByOne : (Read → Read → Type 0) → Signature → Naming → Sequent → Sequent → List ℕ → Defined → List Sequent → Substitution ℕ (List ℕ) → Read → Type 0
IsMetByOne alike sg IsName s t name d gs q B = (g : Sequent) × Contains gs g × Meets alike sg IsName s t name d q B g
