-- Where the heads of a term stand that are called so, by their numbers among all heads of the term, in order. In a
-- binder's part a name is used where it has a place there.
use Rattle.std.specs.Prelude.{◌≡◌, ℕ, ◌+◌, ◌==◌, ◌&&◌, List, [], ◌∷◌, Bool, false, Option, nat_eq, nat_le, nat_lt, bytes_eq, if◌then◌else◌}
use Rattle.std.specs.Option.{option_map_or}
use Rattle.std.specs.List.{list_any}
use Rattle.std.specs.List.Sorted.{IsNonDecreasingBy}
use Rattle.std.specs.HashMap.{HashMap, get_by}
use Rattle.std.specs.declared.alloc.Global.{Global}
use Rattle.std.specs.declared.vec.Vec.{Vec}
use Rattle.ab_store.specs.ab_types.specs.Entries.{Table}
use Rattle.ab_store.specs.declared.node.Head.{Head}
use Rattle.ab_store.specs.declared.node.Head.TheVariants.{Const, Logic, Nominal, Cell, Index}
use Rattle.ab_store.specs.Trees.{Contents, head_reading}
use Rattle.ab_print.specs.PrintedNames.{name_of}
use Rattle.ab_print.specs.declared.drawings.Seen.{Seen}
use Rattle.ab_print.specs.GoalText.{cell_name}

-- the numbers of what passes, where the first has this number
abbrev pub places_of : {X : Type 0} → (X → Bool) → ℕ → List X → List ℕ
places_of test n [] = []
places_of test n (x ∷ xs) = if test x then (n ∷ places_of test (n + 1) xs) else places_of test (n + 1) xs

-- whether a number is one of them, and whether one of them lies from the first number on and before the second
abbrev pub has : List ℕ → ℕ → Bool
has ps n = list_any (nat_eq n) ps

abbrev pub any_within : List ℕ → ℕ → ℕ → Bool
any_within ps start end = list_any (λ p. nat_le start p && nat_lt p end) ps

abbrev pub IsInOrder : List ℕ → Type 0
IsInOrder ps = IsNonDecreasingBy (λ p. p) ps

-- what a head that was seen is called, where no binder binds it
abbrev pub own_name : Table → Contents → Seen → Option (List ℕ)
own_name types store s = name_of (cell_name store) [] (head_reading types store s.head)

-- whether a head, under so many binders, is bound by the one of them that stands under so many others
abbrev pub is_bound_by : ℕ → Head → ℕ → Bool
is_bound_by depth (Index i) binders = i + depth + 1 == binders
is_bound_by depth (Const c) binders = false
is_bound_by depth (Logic l) binders = false
is_bound_by depth (Nominal a n) binders = false
is_bound_by depth (Cell c) binders = false

abbrev pub is_bound_at : ℕ → Seen → Bool
is_bound_at depth s = is_bound_by depth s.head s.binders

-- no places, or those that are there
abbrev pub places_in : Option (Vec ℕ Global) → List ℕ
places_in o = option_map_or (λ v. v.items) o []

module _ {S : Type 0} where
  -- the places of a name
  abbrev pub places_at : HashMap (Vec ℕ Global) (Vec ℕ Global) S → List ℕ → List ℕ
  places_at places x = places_in (get_by (λ k. bytes_eq x k.items) places)

  -- the name has these places now, and each other name has those that it had
  abbrev pub IsPut : List ℕ → List ℕ → HashMap (Vec ℕ Global) (Vec ℕ Global) S → HashMap (Vec ℕ Global) (Vec ℕ Global) S → Type 0
  IsPut name ps old new = (x : List ℕ) → places_at new x ≡ (if bytes_eq x name then ps else places_at old x)
