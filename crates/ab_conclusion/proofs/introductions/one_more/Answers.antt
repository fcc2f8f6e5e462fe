use Rattle.std.proofs.Common.{arith}
use Rattle.ab_conclusion.proofs.Introduces.{one_given}
use Rattle.ab_conclusion.proofs.introductions.one_more.Goals as goal

pub returns-then-given-names-clause-others : goal.returns-then-given-names-clause-others
returns-then-given-names-clause-others c = one_given c.args.names.now c.args.given (omega arith)
