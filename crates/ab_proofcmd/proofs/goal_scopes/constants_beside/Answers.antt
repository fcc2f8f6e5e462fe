use Rattle.std.proofs.Common.{◌∙◌, subst, arith}
use Rattle.std.proofs.lemmas.List.{take_all}
use Rattle.ab_proofcmd.proofs.Gathering.{GatheredBeside, beside_none, beside_one_more}
use Rattle.ab_proofcmd.proofs.goal_scopes.constants_beside.Goals as goal

pub loop-term-init : goal.loop-term-init
loop-term-init c = beside_none c.args.world.now c.args.goal.now c.in_ok-found.found.items c.in_ok-found.ensures.same c.in_ok-found.ensures.held

pub loop-term-preserved : goal.loop-term-preserved
loop-term-preserved c =
    beside_one_more c.args.world.now c.args.goal.now c.args.given.now c.loop-term.term-index c.term-item.result c.loop-term.found.items _ c.loop-term-test.true c.term-item.is
    c.loop-term.invariant c.in_ok-add_support.ensures.adds

pub returns : goal.returns
returns c =
    let all = subst (λ gs. GatheredBeside c.args.world.now c.args.goal.now gs c.loop-term.found.items) (take_all c.loop-term.term-index c.args.given.now (omega arith)) c.loop-term.invariant in
    record { same = all.same; held = all.held }
