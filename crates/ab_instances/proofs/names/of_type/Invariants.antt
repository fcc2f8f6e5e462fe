use Rattle.std.proofs.Common.{◌≡◌, take}
use Rattle.std.specs.List.{All}
use Rattle.ab_norm.specs.ab_types.specs.Ids.{type_of}
use Rattle.ab_norm.specs.Nominals.{HoldsNominal}
use Rattle.ab_unifiers.specs.Choices as choices
use Rattle.ab_instances.specs.ListReadings.{names_read}
use Rattle.ab_instances.proofs.names.of_type.Given as goal

abbrev pub invariant-loop-a : goal.invariant-loop-a
invariant-loop-a l = record {
  list : names_read l.types l.list.items ≡ choices.of_type (type_of l.types l.ty) (names_read l.types (take l.a-index l.names));
  held : All (HoldsNominal l.types) l.list.items;
}
