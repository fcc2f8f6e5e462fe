-- Constants, one against one.
use Rattle.std.specs.Prelude.{◌≡◌, ◌≢◌, List, map, All, AllPairs}
use Rattle.ab_norm.specs.ab_types.specs.Entries.{Table}
use Rattle.ab_norm.specs.declared.nominal.Nominal.{Nominal}
use Rattle.ab_norm.specs.Nominals.{nominal_of, HoldsNominal}
use Rattle.ab_search_paths.specs.declared.likeness.Likeness.{Likeness}

-- each of the first constants has one of the second of its type, and none has another's
pub record AreAlike (types : Table) (names targets : List Nominal) : Type 0 where
  pub first : All (HoldsNominal types) names
  pub second : All (HoldsNominal types) targets
  pub once : AllPairs (λ a b. a ≢ b) (map (nominal_of types) names)
  pub different : AllPairs (λ a b. a ≢ b) (map (nominal_of types) targets)
  pub same : map (λ b. b.type) (map (nominal_of types) targets) ≡ map (λ a. a.type) (map (nominal_of types) names)

abbrev pub IsLikeness : Table → Likeness → Type 0
IsLikeness types like = AreAlike types like.names.items like.targets.items
