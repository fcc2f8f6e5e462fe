use Rattle.std.proofs.lemmas.List.Elements.{All-push, All-weaker}
use Rattle.ab_unify.specs.UnifyAnswers.{IsTypedPair}
use Rattle.ab_uses.proofs.Equations.{added, pair_kept}
use Rattle.ab_uses.proofs.use_equations.add_equation.Goals as goal

pub returns-clause-reads : goal.returns-clause-reads
returns-clause-reads c =
    added c.args.types.now c.args.store.now c.equation_between.new.store c.equation_between.ensures.adds c.args.list.now.items c.push.new.self.items c.in_ok-equation.equation c.args.formula c.in-Some.given c.args.given
    c.requires.typed c.in-Some.is c.in_ok-push.ensures.items c.in_ok-equation.ensures.left c.in_ok-equation.ensures.right

pub returns-clause-typed : goal.returns-clause-typed
returns-clause-typed c =
    let T = c.args.types.now in
    let S = c.args.store.now in
    let W = c.equation_between.new.store in
    rw c.in_ok-push.ensures.items
    (All-push (IsTypedPair T W) c.args.list.now.items c.in_ok-equation.equation
    (All-weaker (IsTypedPair T S) (IsTypedPair T W) (pair_kept T S W c.equation_between.ensures.adds) c.args.list.now.items c.requires.typed) c.in_ok-equation.ensures.typed)
