use Rattle.std.proofs.Common.{arith}
use Rattle.ab_norm.proofs.Frame.{if_ok, adds_on}
use Rattle.ab_instances.proofs.Chosen.{rest_shorter}
use Rattle.ab_instances.proofs.Opened.{opened_step, rest_held}
use Rattle.ab_instances.proofs.clause_heads.+open.Goals as goal

pub open-requires : goal.open-requires
open-requires g t c = λ κs out.
    let made = c.in_ok-opened-in-Some.ensures in
    (omega (arith, rest_shorter c.args.names.now c.in-len1-up.len_at_least, c.decreases), (out, (made.typed, (made.held, rest_held c.args.store.now c.instantiate.new.store made.adds.before c.args.names.now c.in-len1-up.len_at_least c.requires.names))))

pub returns-in_ok-opened-in-Some-clause-tree : goal.returns-in_ok-opened-in-Some-clause-tree
returns-in_ok-opened-in-Some-clause-tree g t c =
    let types = c.args.types.now in
    let made = c.in_ok-opened-in-Some.ensures in
    if_ok c.open.result (λ r e.
    opened_step types c.args.store.now c.instantiate.new.store made.adds.before c.args.formula c.in-Some.scope c.in_ok-opened-in-Some.opened c.args.names.now (record { 0 = 0 }) c.in-len1-up.len_at_least c.requires.names
    (c.in-Some.ensures.some types) made.tree _ e) c.open.ensures.tree

pub returns-in_ok-opened-in-Some-clause-adds : goal.returns-in_ok-opened-in-Some-clause-adds
returns-in_ok-opened-in-Some-clause-adds g t c = adds_on c.args.store.now c.instantiate.new.store c.open.new.store c.in_ok-opened-in-Some.ensures.adds c.open.ensures.adds
