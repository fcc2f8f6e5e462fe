use Rattle.ab_expressions.specs.ReaderSteps.{layer_of, stack}
use Rattle.ab_expressions.proofs.Stacks.{top}
use Rattle.ab_expressions.proofs.Depths.{opens, opens_to, closes, closes_to}
use Rattle.ab_expressions.proofs.nesting.nest.Goals as goal

pub returns-in_ok-push-in-LeftParen-clause-layers : goal.returns-in_ok-push-in-LeftParen-clause-layers
returns-in_ok-push-in-LeftParen-clause-layers c = λ w p.
    opens_to c.args.layers.now.depth (layer_of c.args.layers.now.inner) (layer_of c.args.layers.now.inner) _ (stack layer_of c.args.layers.now.outer.items) c.args.kind w p c.in-LeftParen.is (top layer_of _ _ _ c.in_ok-push-in-LeftParen.ensures.items)

pub returns-in_ok-push-in-LeftParen-clause-measured : goal.returns-in_ok-push-in-LeftParen-clause-measured
returns-in_ok-push-in-LeftParen-clause-measured c = opens c.args.layers.now.depth (layer_of c.args.layers.now.inner) (layer_of c.args.layers.now.inner) _ (stack layer_of c.args.layers.now.outer.items) (top layer_of _ _ _ c.in_ok-push-in-LeftParen.ensures.items) c.requires.measured

pub returns-in-Some-clause-layers : goal.returns-in-Some-clause-layers
returns-in-Some-clause-layers c = λ w p.
    closes_to c.args.layers.now.depth (layer_of c.args.layers.now.inner) (layer_of c.in-Some.layer) (stack layer_of c.args.layers.now.outer.items) (stack layer_of c.pop.new.self.items) c.args.kind w p c.in-RightParen.is (top layer_of _ _ _ c.in-Some.ensures.items)

pub returns-in-Some-clause-measured : goal.returns-in-Some-clause-measured
returns-in-Some-clause-measured c =
    closes c.args.layers.now.depth (layer_of c.args.layers.now.inner) (layer_of c.in-Some.layer) (stack layer_of c.args.layers.now.outer.items) (stack layer_of c.pop.new.self.items)
    (top layer_of _ _ _ c.in-Some.ensures.items) c.requires.measured
