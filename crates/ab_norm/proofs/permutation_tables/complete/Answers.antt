use Rattle.std.proofs.Common.{arith, refl, subst}
use Rattle.std.proofs.lemmas.List.{take_all}
use Rattle.ab_term.specs.Names.{moved_by}
use Rattle.ab_norm.specs.Nominals.{pairs_of}
use Rattle.ab_norm.specs.NameMatches.{Sends}
use Rattle.ab_norm.proofs.Completed.{one_more_sent}
use Rattle.ab_norm.proofs.permutation_tables.complete.Goals as goal

pub loop-pair-preserved : goal.loop-pair-preserved
loop-pair-preserved c = λ types ok held.
    let before = c.loop-pair.invariant types ok held in
    let here = held c.loop-pair.pair-index _ (omega arith) in
    let settles = c.in_ok-settle.ensures types ok here.0 here.1 before.0 in
    (settles.permutes, one_more_sent types ok c.args.decided.now c.loop-pair.table.items c.settle.new.table.items c.loop-pair.pair-index _ _ c.requires held (omega arith) refl before.1 settles)

pub returns : goal.returns
returns c = λ types ok held.
    let all = c.loop-pair.invariant types ok held in
    (all.0, subst (Sends types (moved_by (pairs_of types c.loop-pair.table.items))) (take_all c.loop-pair.pair-index c.args.decided.now (omega arith)) all.1)
