use Rattle.std.specs.List.{All}
use Rattle.ab_norm.specs.ab_types.specs.Entries.{Table}
use Rattle.ab_norm.specs.Nominals.{HoldsNominal}
use Rattle.ab_walk.specs.ab_next_ways.specs.ab_judgements.specs.ab_judgement_forms.specs.PartReadings.{HoldsName}
use Rattle.ab_search_paths.proofs.part_names.constants_for.Given as goal

abbrev pub invariant-loop-name : goal.invariant-loop-name
invariant-loop-name l = (types : Table) → All (HoldsName types) l.names → All (HoldsNominal types) l.list.items
