use Rattle.std.proofs.Common.{◌≡◌, map, take}
use Rattle.std.specs.Prelude.{All}
use Rattle.ab_norm.specs.ab_types.specs.Entries.{kinds, constants, signature, IsExtendedBy}
use Rattle.ab_norm.specs.ab_types.specs.Sound.{IsTable}
use Rattle.ab_norm.specs.ab_store.specs.Naming.{IsTypedBy}
use Rattle.ab_syntax.specs.Commands.{clause_of}
use Rattle.ab_declare.specs.DefinitionCommands.{IsNamed}
use Rattle.ab_declare.proofs.clauses.look_at_clauses.Given as goal

abbrev pub invariant-loop-clause : goal.invariant-loop-clause
invariant-loop-clause l = record {
  named : All (IsNamed (kinds l.initial.types) (signature l.initial.types)) (map clause_of (take l.clause-index l.clauses));
  kinds : kinds l.types ≡ kinds l.initial.types;
  constants : constants l.types ≡ constants l.initial.types;
  kept : IsExtendedBy l.initial.types l.types;
  table : IsTable l.types;
  typed : IsTypedBy l.types l.store;
}
