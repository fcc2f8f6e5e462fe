-- Equations that are still to be met, and what meeting them does to the solutions.
use Rattle.std.specs.Prelude.{◌≡◌, ℕ, ◌+◌, ◌*◌, ◌<◌, ◌≤◌, List, [], ◌∷◌, ◌++◌, length}
use Rattle.ab_term.specs.Types.{Ty}
use Rattle.ab_store.specs.ab_types.specs.Entries.{Table}
use Rattle.ab_store.specs.ab_types.specs.Ids.{HoldsType, type_of}
use Rattle.ab_inference.specs.declared.shape.Shape.{Shape}
use Rattle.ab_inference.specs.declared.work.Wanted.{Wanted}
use Rattle.ab_inference.specs.declared.work.Wanted.TheVariants.{Equal, Is}
use Rattle.ab_inference.specs.Solutions.{Assignment, Solves, AreFormed, AreHeld, loose}

-- an equation names variables below n and a type of the table
abbrev pub WithinOne : Table → ℕ → Wanted → Type 0
WithinOne types n (Equal a b) = (a < n) × (b < n)
WithinOne types n (Is a id) = (a < n) × HoldsType types id

abbrev pub Within : Table → ℕ → List Wanted → Type 0
Within types n [] = Unit {0}
Within types n (w ∷ ws) = WithinOne types n w × Within types n ws

module _ (types : Table) where
  abbrev pub MeetsOne : Assignment → Wanted → Type 0
  MeetsOne v (Equal a b) = v a ≡ v b
  MeetsOne v (Is a id) = v a ≡ type_of types id

  abbrev pub Meets : Assignment → List Wanted → Type 0
  Meets v [] = Unit {0}
  Meets v (w ∷ ws) = MeetsOne v w × Meets v ws

  -- what solves the old and meets the first equations solves the new and meets the second, and the other way round
  pub record Turns (old : List Shape) (before : List Wanted) (new : List Shape) (later : List Wanted) : Type 0 where
    pub back : (v : Assignment) → Solves types v new → Meets v later → Solves types v old × Meets v before
    pub on : (v : Assignment) → Solves types v old → Meets v before → Solves types v new × Meets v later

  -- no solution meets the equations
  abbrev pub Fails : List Shape → List Wanted → Type 0
  Fails shapes ws = (v : Assignment) → Solves types v shapes → Meets v ws → ⊥

  -- one equation was met, or gave way to others
  pub record Moves (old : List Shape) (w : Wanted) (new : List Shape) (before later : List Wanted) : Type 0 where
    pub formed : AreFormed new
    pub held : AreHeld types new
    pub more : List Wanted
    pub later_is : later ≡ before ++ more
    pub within : Within types (length new) more
    pub turns : Turns old (w ∷ []) new more
    pub falls : 2 * loose new + length more ≤ 2 * loose old

  -- the solutions of the second are those of the first that meet the equation
  pub record Meeting (old new : List Shape) (w : Wanted) : Type 0 where
    pub formed : AreFormed new
    pub held : AreHeld types new
    pub back : (v : Assignment) → Solves types v new → Solves types v old
    pub equal : (v : Assignment) → Solves types v new → MeetsOne v w
    pub on : (v : Assignment) → Solves types v old → MeetsOne v w → Solves types v new

  abbrev pub Part : List Shape → Wanted → Type 0
  Part shapes w = (v : Assignment) → Solves types v shapes → MeetsOne v w → ⊥
