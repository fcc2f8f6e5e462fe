use Rattle.std.proofs.Common.{◌≡◌, map, take}
use Rattle.ab_norm.specs.ab_types.specs.Entries.{kinds, IsExtendedBy}
use Rattle.ab_norm.specs.ab_types.specs.Sound.{IsTable}
use Rattle.ab_syntax.specs.Commands.{defined_of}
use Rattle.ab_declare.specs.Halts.{ArePut}
use Rattle.ab_declare.proofs.predicates.put_predicates.Given as goal

abbrev pub invariant-loop-predicate : goal.invariant-loop-predicate
invariant-loop-predicate l = record {
  put : ArePut l.initial.types l.types (map defined_of (take l.predicate-index l.predicates)) l.ids.items;
  kinds : kinds l.types ≡ kinds l.initial.types;
  kept : IsExtendedBy l.initial.types l.types;
  table : IsTable l.types;
}
