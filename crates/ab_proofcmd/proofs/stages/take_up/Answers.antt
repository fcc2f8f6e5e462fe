use Rattle.ab_hypothesis.specs.ab_steps.proofs.Following.{advances}
use Rattle.ab_hypothesis.proofs.Moves.{on_ok}
use Rattle.ab_proofcmd.proofs.stages.take_up.Goals as goal

pub returns-then-is_hypothesis-clause-follows : goal.returns-then-is_hypothesis-clause-follows
returns-then-is_hypothesis-clause-follows g c = advances c.take_hypothesis.ensures.follows

pub returns-then-is_hypothesis-clause-owes : goal.returns-then-is_hypothesis-clause-owes
returns-then-is_hypothesis-clause-owes g c = rw c.if-is_hypothesis.true (on_ok c.take_hypothesis.result (λ given. c.take_hypothesis.ensures.follows.owes) c.take_hypothesis.ensures.gives)

pub returns-else-is_hypothesis-clause-owes : goal.returns-else-is_hypothesis-clause-owes
returns-else-is_hypothesis-clause-owes g c = rw c.if-is_hypothesis.false c.take_theorem.ensures.owes
