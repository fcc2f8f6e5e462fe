-- What a call that takes steps leaves of a proof.
use Rattle.std.specs.Prelude.{◌≡◌, ℕ, List, [], ◌∷◌, ◌++◌, length}
use Rattle.std.specs.List.Sorted.{IsPermutation}
use Rattle.ab_logic.specs.Worlds.{declarations_of}
use Rattle.ab_logic.specs.WorldGrowth.{Grows}
use Rattle.ab_formulas.specs.Sequents.{Sequent}
use Rattle.ab_logic.specs.declared.world.World.{World}
use Rattle.ab_unify.specs.Problem.{cells_read}
use Rattle.ab_theory.specs.Steps.{Step, equal_left, definition_right, definition_left}
use Rattle.ab_theory.specs.Rules.{NamedRule, Fails, Stuck}
use Rattle.ab_theory.specs.Derivations.{Debt, debts, Above}
use Rattle.ab_kernel.specs.Layout.{Held, goals_of, history_of, IsProof, Beyond}

-- the open goal of this place, with those before and behind it
pub record IsAt (w : World) (p : Held) (place : ℕ) (before : List Sequent) (s : Sequent) (behind : List Sequent) : Type 0 where
  pub goals : goals_of w p ≡ before ++ s ∷ behind
  pub counted : length before ≡ place

-- THE PROOF IS STILL ONE, in a world that may have grown and declares the same, and the steps since then can be taken back,
-- which leaves each node as it was
pub record Advances (w : World) (p : Held) (v : World) (q : Held) : Type 0 where
  pub grows : Grows w v
  pub declared : declarations_of v ≡ declarations_of w
  pub proof : IsProof v q
  pub above : Above (history_of w p) (history_of v q)
  pub beyond : Beyond p q

-- the proof owes these debts more, and nothing else: each debt as often as before and as among these
abbrev pub Owes : List Debt → World → Held → World → Held → Type 0
Owes ts w p v q = IsPermutation (debts (history_of v q).tree) (debts (history_of w p).tree ++ ts)

-- THE SAME, BY STEPS THAT OWE THESE
pub record FollowsOwing (ts : List Debt) (w : World) (p : Held) (v : World) (q : Held) : Type 0 where
  pub grows : Grows w v
  pub declared : declarations_of v ≡ declarations_of w
  pub proof : IsProof v q
  pub above : Above (history_of w p) (history_of v q)
  pub beyond : Beyond p q
  pub owes : Owes ts w p v q

-- by steps that owe nothing
abbrev pub Follows : World → Held → World → Held → Type 0
Follows = FollowsOwing []

-- by a step that owes these, if it was taken: where it owes something, what is owed is said apart
abbrev pub FollowsBy : List Debt → World → Held → World → Held → Type 0
FollowsBy [] = Follows
FollowsBy (t ∷ ts) = Advances

-- the goal of this place gave way to goals that it has this to do with
abbrev pub GaveWay : World → Held → World → Held → ℕ → (Sequent → List Sequent → Type 0) → Type 0
GaveWay w p v q place P = (before behind : List Sequent) (s : Sequent) → IsAt w p place before s behind →
    (ps : List Sequent) × P s ps × (goals_of v q ≡ before ++ ps ++ behind)

-- the step was taken by its rule at the goal of this place, and its premises stand there
abbrev pub Took : World → Held → World → Held → ℕ → Step → Type 0
Took w p v q place step = GaveWay w p v q place (NamedRule (declarations_of w) step)

-- the same, and there are so many premises
abbrev pub TookInto : World → Held → World → Held → ℕ → Step → ℕ → Type 0
TookInto w p v q place step count = GaveWay w p v q place (λ s ps. NamedRule (declarations_of w) step s ps × (length ps ≡ count))

-- the step's rule fails at the goal of this place
abbrev pub FailsAt : World → Held → ℕ → Step → Type 0
FailsAt w p place step = (before behind : List Sequent) (s : Sequent) → IsAt w p place before s behind →
    (i : ℕ) × Fails (declarations_of w) (cells_read w.types w.store) step s i

-- the condition of this number is the first of the step's rule that fails at the goal of this place
abbrev pub FailsBy : World → Held → ℕ → Step → ℕ → Type 0
FailsBy w p place step i = (before behind : List Sequent) (s : Sequent) → IsAt w p place before s behind →
    Fails (declarations_of w) (cells_read w.types w.store) step s i

-- the step's rule holds at the goal of this place
abbrev pub Holds : World → Held → ℕ → Step → Type 0
Holds w p place step = (before behind : List Sequent) (s : Sequent) → IsAt w p place before s behind →
    (i : ℕ) → Fails (declarations_of w) (cells_read w.types w.store) step s i → ⊥

-- the step's equation of this number is outside the patterns at the goal of this place
abbrev pub StuckAt : World → Held → ℕ → Step → ℕ → Type 0
StuckAt w p place step i = (before behind : List Sequent) (s : Sequent) → IsAt w p place before s behind →
    Stuck (declarations_of w) (cells_read w.types w.store) step s i

-- the step solves no equation
abbrev pub SolvesNothing : Step → Type 0
SolvesNothing (equal_left H) = ⊥
SolvesNothing (definition_right i) = ⊥
SolvesNothing (definition_left H l) = ⊥
SolvesNothing step = Unit {0}
