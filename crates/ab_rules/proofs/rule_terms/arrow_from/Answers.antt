use Rattle.std.proofs.Common.{refl}
use Rattle.ab_logic.proofs.Growing.{grows_types}
use Rattle.ab_logic.proofs.Declared.{declared_typed}
use Rattle.ab_rules.proofs.rule_terms.arrow_from.Goals as goal

pub returns-clause-grows : goal.returns-clause-grows
returns-clause-grows c = grows_types _ _ _ _ c.requires.world c.arrow.ensures.kept

pub returns-clause-declared : goal.returns-clause-declared
returns-clause-declared c =
    let grown = grows_types _ _ _ _ c.requires.world c.arrow.ensures.kept in
    declared_typed c.args.world.now _ c.requires.world grown refl _ c.arrow.result c.arrow.ensures.entries c.arrow.ensures.err
