use Rattle.std.specs.Prelude.{◌≡◌, ◌++◌, map, take, None}
use Rattle.ab_term.specs.Constants as table
use Rattle.ab_term.specs.Constants.{constant}
use Rattle.ab_norm.specs.ab_types.specs.Entries.{constants, a_constant}
use Rattle.ab_norm.specs.ab_types.specs.Ids.{type_of}
use Rattle.ab_declare.specs.DeclarationCommands.{first_taken}
use Rattle.ab_declare.proofs.constants.add_constants.Given as goal

abbrev pub invariant-loop-name : goal.invariant-loop-name
invariant-loop-name l =
    (first_taken (table.names (constants l.initial.types)) (take l.name-index l.names) ≡ None)
    × (l.types ≡ l.initial.types ++ map (λ x. a_constant (constant x (type_of l.initial.types l.ty))) (take l.name-index l.names))
