use Rattle.ab_store.proofs.Growing.{extended_on}
use Rattle.ab_logic.proofs.member.new_variable.Goals as goal

pub returns-clause-before : goal.returns-clause-before
returns-clause-before c = extended_on c.args.store.now c.cell.new.self c.spine.new.self c.cell.ensures.before c.spine.ensures.before

pub returns-clause-typed : goal.returns-clause-typed
returns-clause-typed c = λ types held typed. c.spine.ensures.typed types (c.cell.ensures.typed types typed held) tt
