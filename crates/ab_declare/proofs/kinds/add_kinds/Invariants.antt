use Rattle.std.specs.Prelude.{◌≡◌, ◌++◌, map, take, None}
use Rattle.ab_norm.specs.ab_types.specs.Entries.{kinds, a_kind}
use Rattle.ab_declare.specs.DeclarationCommands.{first_taken}
use Rattle.ab_declare.proofs.kinds.add_kinds.Given as goal

abbrev pub invariant-loop-name : goal.invariant-loop-name
invariant-loop-name l = (first_taken (kinds l.initial.types) (take l.name-index l.names) ≡ None) × (l.types ≡ l.initial.types ++ map a_kind (take l.name-index l.names))
