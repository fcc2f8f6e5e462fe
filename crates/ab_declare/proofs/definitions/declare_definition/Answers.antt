use Rattle.ab_logic.specs.Worlds.{declarations_of}
use Rattle.ab_declare.specs.DeclarationCommands.{defines_nothing}
use Rattle.ab_declare.proofs.definitions.declare_definition.Goals as goal

pub try_definition-requires-clause-table : goal.try_definition-requires-clause-table
try_definition-requires-clause-table g c = c.of-moment.ensures.table

pub returns-in-Err-Refused-clause-answer : goal.returns-in-Err-Refused-clause-answer
returns-in-Err-Refused-clause-answer g c =
    let w = c.args.world.now in
    let told = rw c.in-Err-Refused.field-0-is at c.in-Err-Refused.ensures.defined in
    record {
      declines = defines_nothing told;
      restored = c.cut_back.ensures.restored w c.requires.world c.of-moment.ensures c.in-Err-Refused.ensures.more;
    }
