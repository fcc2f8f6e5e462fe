use Rattle.std.proofs.Common.{arith}
use Rattle.ab_steps.proofs.Following.{follows_not, follows_on}
use Rattle.ab_search.proofs.Counting.{stands, on_first}
use Rattle.ab_search.proofs.RulePlans.{row_then}
use Rattle.ab_search.proofs.assumed_rows.put_terms.Goals as goal

pub loop-number-init : goal.loop-number-init
loop-number-init g c =
    let w = c.args.world.now in
    let p = c.args.proof.now in
    record { follows = follows_not w p c.requires.world c.requires.proof; gave = stands w p c.args.place; steps = omega arith }

pub put_term-requires-clause-row : goal.put_term-requires-clause-row
put_term-requires-clause-row g c = row_then c.args.world.now c.loop-number.world c.loop-number.invariant.follows.grows c.args.row.now c.requires.row

pub returns-in_err-put_term-clause-follows : goal.returns-in_err-put_term-clause-follows
returns-in_err-put_term-clause-follows g c =
    follows_on c.args.world.now c.loop-number.world c.put_term.new.world c.args.proof.now c.loop-number.proof c.put_term.new.proof c.loop-number.invariant.follows c.put_term.ensures.follows

pub loop-number-preserved : goal.loop-number-preserved
loop-number-preserved g c =
    let w = c.args.world.now in
    let p = c.args.proof.now in
    let l = c.loop-number in
    let u = c.put_term.new.world in
    let r = c.put_term.new.proof in
    record {
      follows = follows_on w l.world u p l.proof r l.invariant.follows c.put_term.ensures.follows;
      gave = on_first w l.world u p l.proof r c.args.place 0 1 l.invariant.gave c.in_ok-put_term.ensures.gave_way;
      steps = omega (arith, l.invariant.steps, c.put_term.ensures.steps);
    }
