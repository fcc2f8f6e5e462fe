use Rattle.ab_types.proofs.Kept.{one_kind, one_type, one_constant}
use Rattle.ab_types.proofs.laws.has_unique_ids.Goals as goal

pub returns-clause-kinds : goal.returns-clause-kinds
returns-clause-kinds c = one_kind c.args.types.now c.len.ensures.table

pub returns-clause-types : goal.returns-clause-types
returns-clause-types c = one_type c.args.types.now c.len.ensures.table

pub returns-clause-constants : goal.returns-clause-constants
returns-clause-constants c = one_constant c.args.types.now c.len.ensures.table
