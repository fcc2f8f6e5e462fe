use Rattle.ab_norm.proofs.Frame.{typed_on}
use Rattle.ab_uses.proofs.Equations.{pair_typed}
use Rattle.ab_uses.proofs.use_equations.equation_between.Goals as goal

pub returns-in_err-right-clause-adds : goal.returns-in_err-right-clause-adds
returns-in_err-right-clause-adds c = typed_on c.args.types.now c.args.store.now c.erase.new.store c.erase-2.new.store c.erase.ensures.adds c.erase-2.ensures.adds

pub returns-clause-typed : goal.returns-clause-typed
returns-clause-typed c =
    pair_typed c.args.types.now c.args.store.now c.erase.new.store c.erase-2.new.store c.args.left c.args.right c.in_ok-left.left c.in_ok-right.right c.erase.ensures.adds c.erase-2.ensures.adds c.requires.left c.requires.right
    c.in_ok-left.ensures.held c.in_ok-left.ensures.reads c.in_ok-right.ensures.held c.in_ok-right.ensures.reads

pub returns-clause-adds : goal.returns-clause-adds
returns-clause-adds c = typed_on c.args.types.now c.args.store.now c.erase.new.store c.erase-2.new.store c.erase.ensures.adds c.erase-2.ensures.adds
