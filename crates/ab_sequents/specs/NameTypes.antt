-- At which types constants of some numbers stand.
use Rattle.std.specs.Prelude.{◌≡◌, ◌≢◌, ℕ, ◌<◌, List, Some, None, length, slice_index_or}
use Rattle.ab_term.specs.Types.{Ty}
use Rattle.ab_term.specs.Terms.{Nominal}
use Rattle.ab_norm.specs.ab_types.specs.Entries.{Table}
use Rattle.ab_norm.specs.ab_types.specs.Ids.{HoldsType, type_of}
use Rattle.ab_formulas.specs.Cycles.{StandsAt, MayCycle, type_among}
use Rattle.ab_sequents.specs.declared.name_types.Standing.{Standing}
use Rattle.ab_sequents.specs.declared.name_types.Standing.TheVariants.{Nowhere, At, Mixed}

-- they stand at no type, at one, or at two
abbrev pub IsStanding : Table → List ℕ → List Nominal → Standing → Type 0
IsStanding types ns cs Nowhere = (A : Ty) → StandsAt ns cs A → ⊥
IsStanding types ns cs (At ty) = HoldsType types ty × StandsAt ns cs (type_of types ty) × ((A : Ty) → StandsAt ns cs A → A ≡ type_of types ty)
IsStanding types ns cs Mixed = (A : Ty) × (B : Ty) × StandsAt ns cs A × StandsAt ns cs B × (A ≢ B)

-- THE NUMBERS MAY CHANGE PLACES and stand nowhere, or at the type; or they may not
abbrev pub IsCommon : Table → List ℕ → List Nominal → Standing → Type 0
IsCommon types ns cs Nowhere = MayCycle ns cs × (type_among ns cs ≡ None)
IsCommon types ns cs (At ty) = MayCycle ns cs × HoldsType types ty × (type_among ns cs ≡ Some (type_of types ty))
IsCommon types ns cs Mixed = MayCycle ns cs → ⊥

-- the number of that place stands at a later place too
abbrev pub StandsAgain : List ℕ → ℕ → Type 0
StandsAgain ns place = (later : ℕ) × place < later × later < length ns × (slice_index_or ns later 0 ≡ slice_index_or ns place 0)
