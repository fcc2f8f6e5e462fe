-- STATES THAT DERIVATIONS BEAR OUT: each theorem has one, and so has the proof that is open, as far as it was made.
use Rattle.std.specs.Prelude.{◌≡◌, ℕ, suc, List, [], ◌++◌, Option, Some, None, length}
use Rattle.ab_grammar.specs.CommandTrees.{search}
use Rattle.ab_formulas.specs.Declarations.{Declarations, theorem_in, theorems_in}
use Rattle.ab_formulas.specs.NamedGoals.{Goal}
use Rattle.ab_formulas.specs.Sequents.{Sequent}
use Rattle.ab_theory.specs.Derivations.{Derivation}
use Rattle.ab_search_trees.specs.Outcomes.{ComesTo, closed}
use Rattle.ab_states.specs.State.{Attempt, State, Entry, empty}
use Rattle.ab_states.specs.Reply.{Reply, completed, admitted}
use Rattle.ab_states.specs.ForwardEffects.{Faces}
use Rattle.ab_states.specs.Replay.{Replays}
use Rattle.ab_states.specs.DerivedTheorems.{IsDerived, AreDerived, IsProved}
use Rattle.ab_derived_goals.specs.Derived.{IsDerivedAlike}
use Rattle.ab_command_derivations.specs.OpenProofs.{HasProof}

-- the open proof, of a new name, has its derivation
abbrev pub HasItsProof : Declarations → Option Attempt → Type 0
HasItsProof D None = Unit {0}
HasItsProof D (Some a) = (theorem_in D a.name ≡ None) × HasProof D a.formula a.goals a.assumed

pub record HasDerivations (s : State) : Type 0 where
  pub theorems : AreDerived s.declarations
  pub attempt : HasItsProof s.declarations s.attempt

-- SO HAS EACH STATE that was passed through on the way to this one: those that replaying a front of its commands leads to
abbrev pub HasHistory : State → Type 0
HasHistory s = (front behind : List Entry) (t : State) → s.kept ≡ front ++ behind → Replays empty front t → HasDerivations t

-- IF THE BYTES ASK FOR A SEARCH, and it closes the current goal, the goal is derived from no goals
abbrev pub SearchIsDerived : State → List ℕ → Type 0
SearchIsDerived s bytes =
    (l : Option (List ℕ)) (depth : ℕ) (a : Attempt) (t : Sequent) (gs : List Goal) → Faces s bytes l (search depth) a t gs → ComesTo s.declarations depth t closed → IsDerivedAlike s.declarations t [] []

-- THE LAST THEOREM has the name, and a derivation, perhaps with gaps, from what was declared before it
pub record EndsWith (D : Declarations) (name : List ℕ) : Type 0 where
  pub place : ℕ
  pub derivation : Derivation
  pub derived : IsDerived D place derivation
  pub last : length (theorems_in D) ≡ suc place
  pub named : derived.name ≡ name

-- WHAT IS TOLD OF A THEOREM IS TRUE: one that is completed is the last, and proved; and one that assumes theorems is the last, and derived
abbrev pub IsTrueOf : State → Reply → Type 0
IsTrueOf t (completed name) = EndsWith t.declarations name × IsProved t.declarations name
IsTrueOf t (admitted name names) = EndsWith t.declarations name
IsTrueOf t r = Unit {0}
