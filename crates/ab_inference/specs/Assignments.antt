-- What a walk over the variables has found, and what it finds in the end.
use Rattle.std.specs.Prelude.{◌≡◌, ◌≢◌, ◌⊎◌, ℕ, ◌<◌, ◌≤◌, ◌+◌, List, [], ◌∷◌, ◌++◌, length, slice_index_or, get_or, Bool, true, false, ◌||◌}
use Rattle.std.specs.List.{count_by}
use Rattle.ab_term.specs.Types.{Ty, kind, arrow, prop, o}
use Rattle.ab_store.specs.ab_types.specs.Entries.{Table}
use Rattle.ab_store.specs.ab_types.specs.Ids.{HoldsType, type_of}
use Rattle.ab_store.specs.ab_types.specs.declared.ids.TypeId.{TypeId}
use Rattle.ab_meaning.specs.Types.{PropFree}
use Rattle.ab_inference.specs.declared.shape.Shape.{Shape}
use Rattle.ab_inference.specs.declared.shape.Shape.TheVariants.{Open, Link, Known, Arrow}
use Rattle.ab_inference.specs.declared.assignments.Settled.{Settled}
use Rattle.ab_inference.specs.declared.assignments.Mark.{Mark}
use Rattle.ab_inference.specs.declared.assignments.Mark.TheVariants.{Unseen, Active, Done}
use Rattle.ab_inference.specs.Solutions.{Assignment, Fits, Solves, AreHeld, HasNoSolution, shape_at}

-- What two types of a variable, one for each way to fill what is open, say of all solutions.
pub record Tells (types : Table) (shapes : List Shape) (i : ℕ) (is_open : Bool) (A B : Ty) : Type 0 where
  pub closed : is_open ≡ false → A ≡ B
  pub opened : is_open ≡ true → A ≢ B
  -- where the two are one, each solution has it
  pub forced : (v : Assignment) → Solves types v shapes → A ≡ B → v i ≡ A
  -- where some solution is free of `prop`, these are
  pub needs : (v : Assignment) → Solves types v shapes → PropFree (v i) → PropFree A × PropFree B

abbrev pub settled_at : List Settled → ℕ → Settled
settled_at found i = get_or found i (record { ty = record { 0 = 0 }; is_open = false })

-- THE SOLUTION that is found, and another, which differs from it where types are open. The types are read in the new table.
pub record Solved (old new : Table) (shapes : List Shape) (found : List Settled) : Type 0 where
  pub len : length found ≡ length shapes
  pub p : Assignment
  pub q : Assignment
  pub p_solves : Solves old p shapes
  pub q_solves : Solves old q shapes
  pub held : (i : ℕ) → i < length shapes → HoldsType new (settled_at found i).ty
  pub p_is : (i : ℕ) → i < length shapes → type_of new (settled_at found i).ty ≡ p i
  pub tells : (i : ℕ) → i < length shapes → Tells old shapes i (settled_at found i).is_open (p i) (q i)

abbrev pub mark_at : List Mark → ℕ → Mark
mark_at marks i = slice_index_or marks i Unseen

abbrev pub IsDone : List Mark → ℕ → Type 0
IsDone marks i = (s : Settled) × (mark_at marks i ≡ Done s)

-- what a shape names is done
abbrev pub PartsDone : List Mark → Shape → Type 0
PartsDone marks Open = Unit {0}
PartsDone marks (Link j) = IsDone marks j
PartsDone marks (Known id) = Unit {0}
PartsDone marks (Arrow a b) = IsDone marks a × IsDone marks b

-- the shape names the variable
abbrev pub HasPart : Shape → ℕ → Type 0
HasPart Open k = ⊥
HasPart (Link j) k = k ≡ j
HasPart (Known id) k = ⊥
HasPart (Arrow a b) k = (k ≡ a) ⊎ (k ≡ b)

pub record NotDone (marks : List Mark) (shape : Shape) (k : ℕ) : Type 0 where
  pub part : HasPart shape k
  pub not_done : IsDone marks k → ⊥

-- what a variable is, given what its parts are
abbrev pub Finishes : Table → Table → List Mark → Shape → Settled → Type 0
Finishes old new marks Open s = (type_of new s.ty ≡ o) × (s.is_open ≡ true)
Finishes old new marks (Link j) s = mark_at marks j ≡ Done s
Finishes old new marks (Known id) s = (s.ty ≡ id) × (s.is_open ≡ false)
Finishes old new marks (Arrow a b) s = (t : Settled) × (u : Settled) × (mark_at marks a ≡ Done t) × (mark_at marks b ≡ Done u)
    × (type_of new s.ty ≡ arrow (type_of old t.ty) (type_of old u.ty)) × (s.is_open ≡ (t.is_open || u.is_open))

pub record Finished (types : Table) (shapes : List Shape) (marks : List Mark) (p q : Assignment) (i : ℕ) (s : Settled) : Type 0 where
  pub within : HoldsType types s.ty
  pub is : type_of types s.ty ≡ p i
  pub parts : PartsDone marks (shape_at shapes i)
  pub one_fits : Fits types p (p i) (shape_at shapes i)
  pub other_fits : Fits types q (q i) (shape_at shapes i)
  pub tells : Tells types shapes i s.is_open (p i) (q i)

-- what is kept between the steps of a walk
pub record Settling (types : Table) (shapes : List Shape) (marks : List Mark) : Type 0 where
  pub held : AreHeld types shapes
  pub len : length marks ≡ length shapes
  pub p : Assignment
  pub q : Assignment
  pub at : (i : ℕ) (s : Settled) → i < length shapes → mark_at marks i ≡ Done s → Finished types shapes marks p q i s

abbrev pub AreIdle : List Mark → Type 0
AreIdle marks = (y : ℕ) → mark_at marks y ≡ Active → ⊥

abbrev pub is_unseen : Mark → Bool
is_unseen Unseen = true
is_unseen Active = false
is_unseen (Done s) = false

abbrev pub unseen : List Mark → ℕ
unseen = count_by is_unseen

-- the variable is done, and what was
pub record IsSettled (types : Table) (shapes : List Shape) (old new : List Mark) (i : ℕ) : Type 0 where
  pub settling : Settling types shapes new
  pub idle : AreIdle new
  pub done : IsDone new i
  pub still : (y : ℕ) → y < length shapes → IsDone old y → IsDone new y

-- the first n variables are done
pub record Walked (types : Table) (shapes : List Shape) (marks : List Mark) (n : ℕ) : Type 0 where
  pub settling : Settling types shapes marks
  pub idle : AreIdle marks
  pub done : (k : ℕ) → k < n → IsDone marks k
