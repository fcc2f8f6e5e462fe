-- What nominal constants and permutations of the program stand for.
use Rattle.std.specs.Prelude.{List, map, All}
use Rattle.ab_term.specs.Terms as tree
use Rattle.ab_store.specs.ab_types.specs.Entries.{Table}
use Rattle.ab_store.specs.ab_types.specs.Ids.{HoldsType, type_of}
use Rattle.ab_norm.specs.declared.nominal.Nominal.{Nominal}
use Rattle.ab_norm.specs.declared.nominal.Swap.{Swap}

module _ (types : Table) where
  abbrev pub nominal_of : Nominal → tree.Nominal
  nominal_of a = record { number = a.number; type = type_of types a.ty }

  -- pairs of a constant and what it becomes
  abbrev pub pairs_of : List Swap → List (tree.Nominal × tree.Nominal)
  pairs_of = map (λ p. (nominal_of p.from, nominal_of p.to))

  -- the types of all constants are the table's
  abbrev pub HoldsNominal : Nominal → Type 0
  HoldsNominal a = HoldsType types a.ty

  abbrev pub HoldsPairs : List Swap → Type 0
  HoldsPairs = All (λ p. HoldsNominal p.from × HoldsNominal p.to)
