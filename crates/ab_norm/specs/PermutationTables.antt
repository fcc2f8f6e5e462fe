-- A table of a permutation that is changed so that it sends one more constant where that has to go.
use Rattle.std.specs.Prelude.{◌≡◌, ◌≢◌, List, map, Contains, if◌then◌else◌}
use Rattle.ab_term.specs.Terms as tree
use Rattle.ab_term.specs.Names.{same_nominal, moved_by, IsPermutationTable}
use Rattle.ab_store.specs.ab_types.specs.Entries.{Table}
use Rattle.ab_norm.specs.declared.nominal.Nominal.{Nominal}
use Rattle.ab_norm.specs.declared.nominal.Swap.{Swap}
use Rattle.ab_norm.specs.Nominals.{nominal_of, pairs_of, HoldsPairs}

-- x for y and y for x
abbrev pub transposed : tree.Nominal → tree.Nominal → tree.Nominal → tree.Nominal
transposed x y a = if same_nominal a x then y else (if same_nominal a y then x else a)

abbrev pub retargeted : tree.Nominal → tree.Nominal → tree.Nominal × tree.Nominal → tree.Nominal × tree.Nominal
retargeted x y p = (p.0, transposed x y p.1)

abbrev pub Permutes : Table → List Swap → Type 0
Permutes types ps = HoldsPairs types ps × IsPermutationTable (pairs_of types ps)

-- the constant stands in the new table, which does what the old one did
pub record Includes (types : Table) (old new : List Swap) (a : Nominal) : Type 0 where
  pub permutes : Permutes types new
  pub there : Contains (map (λ p. p.0) (pairs_of types new)) (nominal_of types a)
  pub more : (b : tree.Nominal) → Contains (map (λ p. p.0) (pairs_of types old)) b → Contains (map (λ p. p.0) (pairs_of types new)) b
  pub same : (b : tree.Nominal) → moved_by (pairs_of types new) b ≡ moved_by (pairs_of types old) b

-- the new table sends the pair, and otherwise only what came out at the pair's right side is sent elsewhere
pub record Settles (types : Table) (old new : List Swap) (pair : Swap) : Type 0 where
  pub permutes : Permutes types new
  pub sends : moved_by (pairs_of types new) (nominal_of types pair.from) ≡ nominal_of types pair.to
  pub keeps : (b : tree.Nominal) → b ≢ nominal_of types pair.from → moved_by (pairs_of types old) b ≢ nominal_of types pair.to
      → moved_by (pairs_of types new) b ≡ moved_by (pairs_of types old) b
