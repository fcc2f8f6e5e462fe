use Rattle.ab_types.proofs.First.{made}
use Rattle.ab_types.proofs.table.TypeTable.new.Goals as goal

pub invariant_of-result : goal.invariant_of-result
invariant_of-result c =
    made c.in_ok-first_order.field-0.items c.in_ok-first_kinds.field-0.keys c.in_ok-first_types.field-0.keys c.in_ok-first_constants.field-0.entries
    c.in_ok-first_kinds.ensures c.in_ok-first_types.ensures c.in_ok-first_constants.ensures c.in_ok-first_order.ensures

pub returns-clause-table : goal.returns-clause-table
returns-clause-table c =
    (made c.in_ok-first_order.field-0.items c.in_ok-first_kinds.field-0.keys c.in_ok-first_types.field-0.keys c.in_ok-first_constants.field-0.entries
    c.in_ok-first_kinds.ensures c.in_ok-first_types.ensures c.in_ok-first_constants.ensures c.in_ok-first_order.ensures).table
