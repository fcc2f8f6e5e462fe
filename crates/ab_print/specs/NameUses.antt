-- That a name is used in a binder's part is told by its places: within a part, they are those of the heads that are called
-- so outside the part's binder.
use Rattle.std.specs.Prelude.{◌≡◌, ℕ, ◌≤◌, ◌<◌, List, length, slice_index_or}
use Rattle.std.specs.HashMap.{HashMap}
use Rattle.std.specs.declared.alloc.Global.{Global}
use Rattle.std.specs.declared.vec.Vec.{Vec}
use Rattle.ab_store.specs.ab_types.specs.Entries.{Table}
use Rattle.ab_store.specs.Trees.{Contents}
use Rattle.ab_print.specs.declared.drawings.Seen.{Seen}
use Rattle.ab_print.specs.declared.drawings.Drawing.{Drawing}
use Rattle.ab_print.specs.declared.drawings.Drawings.{Drawings}
use Rattle.ab_print.specs.Drawings.{IsSound, AreSound}
use Rattle.ab_print.specs.Places.{has, places_at, IsInOrder}
use Rattle.ab_print.specs.BinderNames.{names_in, name_from, is_this}

module _ (types : Table) (store : Contents) {S : Type 0} (names : List (Vec ℕ Global)) (places : HashMap (Vec ℕ Global) (Vec ℕ Global) S) where
  -- in the part of these heads from the first number on and before the second, under binders of these names
  pub record IsTold (seen : List Seen) (start end : ℕ) : Type 0 where
    pub order : (x : List ℕ) → IsInOrder (places_at places x)
    pub told : (x : List ℕ) (k : ℕ) (s : Seen) → start ≤ k → k < end → has (places_at places x) k ≡ is_this x (name_from types store (names_in names) (slice_index_or seen k s))

  -- all that naming a term asks, in whatever part it stands; and naming arguments
  pub record IsReady (drawing : Drawing) : Type 0 where
    pub seen : List Seen
    pub start : ℕ
    pub end : ℕ
    pub sound : IsSound types store seen (length names) start end drawing
    pub told : IsTold seen start end

  pub record AreReady (drawings : Drawings) : Type 0 where
    pub seen : List Seen
    pub start : ℕ
    pub end : ℕ
    pub sound : AreSound types store seen (length names) start end drawings
    pub told : IsTold seen start end
