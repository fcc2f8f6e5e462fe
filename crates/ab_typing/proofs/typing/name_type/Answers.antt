use Rattle.std.proofs.Common.{arith}
use Rattle.ab_typing.proofs.Contexts.{name_at, no_name_at}
use Rattle.ab_typing.proofs.typing.name_type.Goals as goal

pub returns-then-index-names-clause-reads : goal.returns-then-index-names-clause-reads
returns-then-index-names-clause-reads c = λ types. name_at types c.args.names.now c.args.index (record { 0 = 0 }) (omega arith)

pub returns-else-index-names-clause-reads : goal.returns-else-index-names-clause-reads
returns-else-index-names-clause-reads c = λ types. no_name_at types c.args.names.now c.args.index (omega arith)
