use Rattle.std.proofs.Common.{◌∙◌, subst, arith}
use Rattle.std.proofs.lemmas.List.{take_all}
use Rattle.ab_proofcmd.proofs.Gathering.{Gathered, gathered_first, gathered_more}
use Rattle.ab_proofcmd.proofs.goal_scopes.constants_of.Goals as goal

pub loop-h-init : goal.loop-h-init
loop-h-init c =
    gathered_first c.args.world.now c.args.goal.now c.new-found.result.items c.add_support.new.found.items c.new-found.ensures.items c.in_ok-add_support.ensures.adds

pub loop-h-preserved : goal.loop-h-preserved
loop-h-preserved c =
    gathered_more c.args.world.now c.args.goal.now c.as_slice-h-items.result.now c.loop-h.h-index c.h-item.result c.loop-h.found.items _ c.loop-h-test.true c.h-item.is
    c.loop-h.invariant c.in_ok-add_support-2.ensures.adds

pub returns : goal.returns
returns c =
    let whole = take_all c.loop-h.h-index c.as_slice-h-items.result.now (omega arith) ∙ c.as_slice-h-items.ensures in
    let all = subst (λ hs. Gathered c.args.world.now c.args.goal.now hs c.loop-h.found.items) whole c.loop-h.invariant in
    record { same = all.same; held = all.held }
