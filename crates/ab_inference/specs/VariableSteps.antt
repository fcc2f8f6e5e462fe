-- One variable more, with equations: what they say of it, and that they say nothing else.
use Rattle.std.specs.Prelude.{◌≡◌, ℕ, ◌<◌, ◌≤◌, List, [], ◌∷◌, length}
use Rattle.ab_term.specs.Types.{Ty, arrow}
use Rattle.ab_store.specs.ab_types.specs.Entries.{Table}
use Rattle.ab_inference.specs.declared.shape.Shape.{Shape}
use Rattle.ab_inference.specs.declared.work.Wanted.{Wanted}
use Rattle.ab_inference.specs.Solutions.{Assignment, Fits, Solves, AreFormed, AreHeld}
use Rattle.ab_inference.specs.Work.{Meets}

-- an assignment as before below n, which solves the equations and gives the variable this type
pub record Extended (types : Table) (n : ℕ) (v : Assignment) (shapes : List Shape) (i : ℕ) (A : Ty) : Type 0 where
  pub w : Assignment
  pub agrees : (k : ℕ) → k < n → w k ≡ v k
  pub solves : Solves types w shapes
  pub at : w i ≡ A

-- The variable n has, under each solution, a type that Q allows, and each such type under some solution.
pub record Step (types : Table) (old new : List Shape) (n : ℕ) (Q : Assignment → Ty → Type 0) : Type 0 where
  pub longer : length old ≤ length new
  pub formed : AreFormed new
  pub held : AreHeld types new
  pub node : n < length new
  pub back : (v : Assignment) → Solves types v new → Solves types v old
  pub gives : (v : Assignment) → Solves types v new → Q v (v n)
  pub on : (v : Assignment) → Solves types v old → (A : Ty) → Q v A → Extended types (length old) v new n A

abbrev pub NoStep : Table → List Shape → (Assignment → Ty → Type 0) → Type 0
NoStep types old Q = (v : Assignment) → Solves types v old → (A : Ty) → Q v A → ⊥

-- the type has the shape, and the equations are met
abbrev pub HasShape : Table → Shape → List Wanted → Assignment → Ty → Type 0
HasShape types c ws v A = Fits types v A c × Meets types v ws

-- the type of an application
abbrev pub IsApplied : ℕ → ℕ → Assignment → Ty → Type 0
IsApplied f a v A = v f ≡ arrow (v a) A

-- the solutions of the second are those of the first that meet the equations
pub record MeetingAll (types : Table) (old new : List Shape) (ws : List Wanted) : Type 0 where
  pub formed : AreFormed new
  pub held : AreHeld types new
  pub back : (v : Assignment) → Solves types v new → Solves types v old
  pub equal : (v : Assignment) → Solves types v new → Meets types v ws
  pub on : (v : Assignment) → Solves types v old → Meets types v ws → Solves types v new
