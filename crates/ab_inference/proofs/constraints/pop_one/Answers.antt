use Rattle.std.proofs.Common.{arith}
use Rattle.ab_inference.proofs.Turned.{turned_pop}
use Rattle.ab_inference.proofs.constraints.pop_one.Goals as goal

pub returns : goal.returns
returns c = turned_pop c.pop.result c.args.stack.now.items c.pop.new.self.items c.pop.ensures.items (λ e. let h = rw e at c.pop.ensures.cases in omega (arith, h.0, c.args.stack.now.ok.0))
