use Rattle.ab_types.proofs.Grown.{interns, Interns}
use Rattle.ab_types.proofs.table.TypeTable.intern.Goals as goal

done : (c : goal.In_ok-put_type) → Interns c.self.inside.order.items c.self.inside.kinds.keys c.self.inside.types.keys c.self.inside.constants.entries c.args.self.now c.self.view_is c.self.invariant c.args.view c.in_ok-put_type.field-0 c.put_type.new.types.keys c.put_type.new.order.items
done c =
    interns c.self.inside.order.items c.self.inside.kinds.keys c.self.inside.types.keys c.self.inside.constants.entries c.args.self.now c.self.view_is c.self.invariant
    c.args.view c.in_ok-put_type.field-0 c.put_type.new.types.keys c.put_type.new.order.items c.requires c.in_ok-put_type.ensures.puts c.in_ok-put_type.ensures.stored

pub invariant_of-self-2 : goal.invariant_of-self-2
invariant_of-self-2 c = (done c).still

pub returns-clause-held : goal.returns-clause-held
returns-clause-held c = (done c).held

pub returns-clause-id : goal.returns-clause-id
returns-clause-id c = (done c).id

pub returns-clause-entries : goal.returns-clause-entries
returns-clause-entries c = (done c).entries

pub returns-clause-kept : goal.returns-clause-kept
returns-clause-kept c = (done c).extended

pub returns-clause-table : goal.returns-clause-table
returns-clause-table c = (done c).still.table
