use Rattle.std.proofs.Common.{arith}
use Rattle.ab_infer.proofs.Turned.{turned_pop}
use Rattle.ab_infer.proofs.value.pop.Goals as goal

pub returns-clause-turned : goal.returns-clause-turned
returns-clause-turned c = turned_pop c.pop.result c.args.stack.now.items c.pop.new.self.items c.pop.ensures.items (λ e. let h = rw e at c.pop.ensures.cases in omega (arith, h.0, c.args.stack.now.ok.0))
