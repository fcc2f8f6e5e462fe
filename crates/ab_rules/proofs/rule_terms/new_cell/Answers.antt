use Rattle.std.proofs.Common.{refl}
use Rattle.ab_logic.proofs.Growing.{grows_store}
use Rattle.ab_logic.proofs.Declared.{declared_same}
use Rattle.ab_rules.proofs.rule_terms.new_cell.Goals as goal

pub returns-clause-grows : goal.returns-clause-grows
returns-clause-grows c = grows_store _ _ _ _ c.requires.world c.cell.ensures.before (c.cell.ensures.typed c.args.world.now.types c.requires.world.typed c.requires.ty)

pub returns-clause-declared : goal.returns-clause-declared
returns-clause-declared c =
    let grown = grows_store _ _ _ _ c.requires.world c.cell.ensures.before (c.cell.ensures.typed c.args.world.now.types c.requires.world.typed c.requires.ty) in
    declared_same c.args.world.now _ c.requires.world grown refl refl
