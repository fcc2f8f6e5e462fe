use Rattle.std.proofs.Common.{arith}
use Rattle.std.proofs.lemmas.Bool.{leb-true}
use Rattle.ab_store.specs.Trees.{tree_of}
use Rattle.ab_norm.proofs.Changed.{not_true, stays_by_none, stays_raised, stays_put, stays_renamed}
use Rattle.ab_norm.proofs.term_walks.stays.Goals as goal

pub returns-then-by-eq0 : goal.returns-then-by-eq0
returns-then-by-eq0 c = λ types e. stays_by_none types c.args.store.now c.args.change.now c.args.depth (tree_of types c.args.store.now c.args.id) c.in-Raise.by c.in-Raise.is c.if-by-eq0.true

pub returns-else-by-eq0 : goal.returns-else-by-eq0
returns-else-by-eq0 c = λ types e.
    let l = leb-true c.reach.result c.args.depth e in
    stays_raised types c.args.store.now c.args.change.now c.args.depth (tree_of types c.args.store.now c.args.id) c.in-Raise.by c.in-Raise.is (omega (arith, l, c.reach.ensures.tree types))

pub returns-in-Put : goal.returns-in-Put
returns-in-Put c = λ types e.
    let l = leb-true c.reach-in-Put.result c.args.depth e in
    stays_put types c.args.store.now c.args.change.now c.args.depth (tree_of types c.args.store.now c.args.id) c.in-Put.field-0 c.in-Put.field-1 c.in-Put.is (omega (arith, l, c.reach-in-Put.ensures.tree types))

pub returns-in-Rename : goal.returns-in-Rename
returns-in-Rename c = λ types e.
    stays_renamed types c.args.store.now c.args.change.now c.args.depth (tree_of types c.args.store.now c.args.id) c.in-Rename.field-0 c.in-Rename.is (c.has_nominals.ensures.tree (not_true c.has_nominals.result e) types)
