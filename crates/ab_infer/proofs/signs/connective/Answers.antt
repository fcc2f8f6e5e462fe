use Rattle.std.proofs.Common.{sym, subst}
use Rattle.ab_infer.specs.WalkMoves.{IsConnective}
use Rattle.ab_infer.proofs.signs.connective.Goals as goal

pub returns-in-Cons-clause-head : goal.returns-in-Cons-clause-head
returns-in-Cons-clause-head c = λ cells. subst (λ s. IsConnective c.args.types.now cells s c.in_ok-cons-in-Cons.field-0.0 c.in_ok-cons-in-Cons.field-0.1) (sym c.in-Cons.is) (c.in_ok-cons-in-Cons.ensures cells)
