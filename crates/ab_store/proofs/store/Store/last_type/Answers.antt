use Rattle.ab_store.proofs.NamedTypes.{typed_by_enough, no_fewer}
use Rattle.ab_store.proofs.store.Store.last_type.Goals as goal

pub returns-clause-enough : goal.returns-clause-enough
returns-clause-enough c =
    typed_by_enough c.args.self.now c.args.first.now c.last_in_nodes.result c.last_in_cells.result c.later.result c.last_in_nodes.ensures c.last_in_cells.ensures c.later.ensures

pub returns-clause-least : goal.returns-clause-least
returns-clause-least c = no_fewer c.args.self.now c.args.first.now c.last_in_nodes.result c.last_in_cells.result c.later.result c.last_in_nodes.ensures c.last_in_cells.ensures c.later.ensures
