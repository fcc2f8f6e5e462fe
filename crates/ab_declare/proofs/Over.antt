-- What `exists` over cells reads as.
use Rattle.std.proofs.Common.{◌≡◌, List, [], ◌∷◌, map, refl, ap}
use Rattle.ab_term.specs.Terms.{Read}
use Rattle.ab_norm.specs.ab_types.specs.Entries.{Table}
use Rattle.ab_norm.specs.ab_store.specs.declared.node.CellId.{CellId}
use Rattle.ab_norm.specs.ab_store.specs.Trees.{Contents}
use Rattle.ab_patterns.specs.Existentials as cells
use Rattle.ab_typing.specs.DefinitionReadings.{variable_of}
use Rattle.ab_declare.specs.Existentials.{exists_over, exists_all}

pub all_over : (types : Table) (s : Contents) (cs : List CellId) (t : Read) → cells.exists_over types s cs t ≡ exists_all (map (variable_of types s) cs) t
all_over types s [] t = refl
all_over types s (c ∷ cs) t = ap (exists_over (variable_of types s c)) (all_over types s cs t)
