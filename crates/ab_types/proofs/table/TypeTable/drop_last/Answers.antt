use Rattle.ab_types.proofs.Grown.{drops, Drops}
use Rattle.ab_types.proofs.table.TypeTable.drop_last.Goals as goal

done : (c : goal.After-drop_row) → Drops c.self.inside.order.items c.self.inside.kinds.keys c.self.inside.types.keys c.self.inside.constants.entries c.args.self.now c.self.view_is c.self.invariant c.drop_row.new.order.items c.drop_row.new.kinds.keys c.drop_row.new.types.keys c.drop_row.new.constants.entries
done c =
    drops c.self.inside.order.items c.self.inside.kinds.keys c.self.inside.types.keys c.self.inside.constants.entries c.args.self.now c.self.view_is c.self.invariant
    c.drop_row.new.order.items c.drop_row.new.kinds.keys c.drop_row.new.types.keys c.drop_row.new.constants.entries c.drop_row.ensures c.requires

pub invariant_of-self : goal.invariant_of-self
invariant_of-self c = (done c).still

pub returns-clause-entries : goal.returns-clause-entries
returns-clause-entries c = (done c).entries

pub returns-clause-table : goal.returns-clause-table
returns-clause-table c = (done c).still.table
