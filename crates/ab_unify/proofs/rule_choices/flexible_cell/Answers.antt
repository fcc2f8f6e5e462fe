use Rattle.std.proofs.Common.{[], sym, ◌∙◌}
use Rattle.ab_norm.specs.ab_store.specs.Trees.{Contents}
use Rattle.ab_unify.proofs.Pruned.{listed_if}
use Rattle.ab_unify.proofs.rule_choices.flexible_cell.Goals as goal

abbrev nothing : Contents
nothing = record { nodes = []; cells = []; bindings = []; room = 0 }

pub returns-then-is_flexible-clause-some : goal.returns-then-is_flexible-clause-some
returns-then-is_flexible-clause-some c = (c.in-Cell.is, listed_if [] nothing c.args.flexible.now.items c.in-Cell.cell (sym (c.is_flexible.ensures [] nothing) ∙ c.if-is_flexible.true))
