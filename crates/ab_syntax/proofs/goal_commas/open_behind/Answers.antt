use Rattle.std.proofs.Common.{rules}
use Rattle.ab_syntax.specs.GoalCommas.{open_of}
use Rattle.ab_expressions.specs.ReaderSteps.{stack}
use Rattle.ab_expressions.proofs.Stacks.{top}
use Rattle.ab_syntax.proofs.GoalCommas.{opens_to, closes_to}
use Rattle.ab_syntax.proofs.goal_commas.open_behind.Goals as goal

pub returns-in_ok-push-in-LeftParen-clause-brackets : goal.returns-in_ok-push-in-LeftParen-clause-brackets
returns-in_ok-push-in-LeftParen-clause-brackets c = λ w p.
    opens_to (open_of c.args.part.now.inner) (stack open_of c.args.part.now.outer.items) _ c.args.kind w p c.eq-part.result (search rules) c.in-LeftParen.is (top open_of _ _ _ c.in_ok-push-in-LeftParen.ensures.items)

pub returns-in-Some-clause-brackets : goal.returns-in-Some-clause-brackets
returns-in-Some-clause-brackets c = λ w p.
    closes_to (open_of c.args.part.now.inner) (open_of c.in-Some.bracket) (stack open_of c.args.part.now.outer.items) (stack open_of c.pop.new.self.items) c.args.kind w p c.in-RightParen.is (top open_of _ _ _ c.in-Some.ensures.items)
