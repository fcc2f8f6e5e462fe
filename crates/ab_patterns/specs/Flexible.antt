-- Cells that may be replaced, as contracts see them: a list in order of age. Behind it stands a row of all cells that were
-- ever listed, and each that still is has a place in the row; only private contracts speak of rows.
use Rattle.std.specs.Prelude.{◌≡◌, ◌⊎◌, ℕ, suc, List, [], ◌∷◌, filter, Bool, true, false, cond, not, ◌==◌, Option, Some, None, nat_le, nat_lt}
use Rattle.ab_norm.specs.ab_store.specs.declared.node.CellId.{CellId}

pub record InAge : Type 0 where
  pub items : List CellId

abbrev pub same_cell : CellId → CellId → Bool
same_cell c d = c.0 == d.0

-- the others, in their order
abbrev pub others_than : CellId → List CellId → List CellId
others_than c ds = filter (λ d. not (d.0 == c.0)) ds

-- a cell with this place counts there, and wherever it stands behind it
abbrev pub counts : Option ℕ → ℕ → Bool
counts None at = false
counts (Some place) at = nat_le place at

-- the first place comes before the second, or there is no second
abbrev pub is_earlier : Option ℕ → Option ℕ → Bool
is_earlier None other = false
is_earlier (Some place) None = true
is_earlier (Some place) (Some other) = nat_lt place other

-- the cells of the row that count, where its first stands at `at`
abbrev pub listed_from : (CellId → Option ℕ) → ℕ → List CellId → List CellId
listed_from places at [] = []
listed_from places at (c ∷ row) = cond (counts (places c) at) (c ∷ listed_from places (suc at) row) (listed_from places (suc at) row)

abbrev pub StandsAt : ℕ → List CellId → CellId → ℕ → Type 0
StandsAt at [] c place = ⊥
StandsAt at (d ∷ row) c place = ((d ≡ c) × (place ≡ at)) ⊎ StandsAt (suc at) row c place

-- each cell stands at its place
abbrev pub HavePlaces : (CellId → Option ℕ) → List CellId → Type 0
HavePlaces places row = (c : CellId) (place : ℕ) → places c ≡ Some place → StandsAt 0 row c place
