-- Type variables, what is known of each, and the assignments of types to them that agree with it.
use Rattle.std.specs.Prelude.{◌≡◌, ℕ, ◌<◌, ◌≤◌, List, length, slice_index_or, Bool, true, false}
use Rattle.std.specs.List.{count_by}
use Rattle.ab_term.specs.Types.{Ty, kind, arrow}
use Rattle.ab_store.specs.ab_types.specs.Entries.{Table}
use Rattle.ab_store.specs.ab_types.specs.Ids.{HoldsType, type_of}
use Rattle.ab_store.specs.ab_types.specs.declared.ids.TypeId.{TypeId}
use Rattle.ab_inference.specs.declared.shape.Shape.{Shape}
use Rattle.ab_inference.specs.declared.shape.Shape.TheVariants.{Open, Link, Known, Arrow}

abbrev pub unknown : Shape
unknown = Open

abbrev pub shape_at : List Shape → ℕ → Shape
shape_at shapes i = slice_index_or shapes i Open

-- what a variable stands for
abbrev pub Assignment : Type 0
Assignment = ℕ → Ty

-- the variables that a shape names are below n, and a link of i leads to one below i
abbrev pub Names : ℕ → ℕ → Shape → Type 0
Names n i Open = Unit {0}
Names n i (Link j) = (j < i) × (j < n)
Names n i (Known id) = Unit {0}
Names n i (Arrow a b) = (a < n) × (b < n)

pub record AreFormed (shapes : List Shape) : Type 0 where
  pub names : (i : ℕ) → i < length shapes → Names (length shapes) i (shape_at shapes i)

-- the type in the shape, if there is one, is the table's
abbrev pub HeldShape : Table → Shape → Type 0
HeldShape types Open = Unit {0}
HeldShape types (Link j) = Unit {0}
HeldShape types (Known id) = HoldsType types id
HeldShape types (Arrow a b) = Unit {0}

pub record AreHeld (types : Table) (shapes : List Shape) : Type 0 where
  pub held : (i : ℕ) → HeldShape types (shape_at shapes i)

abbrev pub is_root : Shape → Bool
is_root Open = true
is_root (Link j) = false
is_root (Known id) = true
is_root (Arrow a b) = true

abbrev pub IsRoot : Shape → Type 0
IsRoot s = is_root s ≡ true

-- nothing is known yet, or not all
abbrev pub is_loose : Shape → Bool
is_loose Open = true
is_loose (Link j) = false
is_loose (Known id) = false
is_loose (Arrow a b) = true

abbrev pub loose : List Shape → ℕ
loose = count_by is_loose

module _ (types : Table) where
  -- a type is as the shape says, under an assignment
  abbrev pub Fits : Assignment → Ty → Shape → Type 0
  Fits v A Open = Unit {0}
  Fits v A (Link j) = A ≡ v j
  Fits v A (Known id) = A ≡ type_of types id
  Fits v A (Arrow a b) = A ≡ arrow (v a) (v b)

  -- THE ASSIGNMENT AGREES with all that is known
  pub record Solves (v : Assignment) (shapes : List Shape) : Type 0 where
    pub at : (i : ℕ) → i < length shapes → Fits v (v i) (shape_at shapes i)

  abbrev pub HasNoSolution : List Shape → Type 0
  HasNoSolution shapes = (v : Assignment) → Solves v shapes → ⊥

  -- they have the same solutions
  pub record Same (old new : List Shape) : Type 0 where
    pub back : (v : Assignment) → Solves v new → Solves v old
    pub on : (v : Assignment) → Solves v old → Solves v new

  -- the first variable is as the second wherever the equations hold
  abbrev pub Leads : List Shape → ℕ → ℕ → Type 0
  Leads shapes i r = (v : Assignment) → Solves v shapes → v i ≡ v r

abbrev pub KeepsRoots : List Shape → List Shape → Type 0
KeepsRoots old new = (k : ℕ) → IsRoot (shape_at old k) → shape_at new k ≡ shape_at old k
