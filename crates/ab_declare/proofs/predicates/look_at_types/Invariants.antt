use Rattle.std.proofs.Common.{◌≡◌, map, take}
use Rattle.std.specs.Prelude.{All}
use Rattle.ab_norm.specs.ab_types.specs.Entries.{kinds, constants, IsExtendedBy}
use Rattle.ab_norm.specs.ab_types.specs.Sound.{IsTable}
use Rattle.ab_syntax.specs.Commands.{defined_of}
use Rattle.ab_declare.specs.DefinitionCommands.{IsPredicate}
use Rattle.ab_declare.proofs.predicates.look_at_types.Given as goal

abbrev pub invariant-loop-predicate : goal.invariant-loop-predicate
invariant-loop-predicate l = record {
  fine : All (IsPredicate (kinds l.initial.types)) (map defined_of (take l.predicate-index l.predicates));
  kinds : kinds l.types ≡ kinds l.initial.types;
  constants : constants l.types ≡ constants l.initial.types;
  kept : IsExtendedBy l.initial.types l.types;
  table : IsTable l.types;
}
