use Rattle.std.proofs.Common.{arith}
use Rattle.std.proofs.lemmas.Grind.{common_steps}
use Rattle.std.proofs.lemmas.List.Elements.{All-push}
use Rattle.ab_logic.specs.Worlds.{Holds}
use Rattle.ab_search_paths.proofs.MoreTerms.{got_on, still_held}
use Rattle.ab_search_paths.proofs.carried_terms.all_permuted.Goals as goal

pub returns-in_err-push-clause-got : goal.returns-in_err-push-clause-got
returns-in_err-push-clause-got c = got_on c.args.world.now c.loop-term.world c.permuted_term.new.world c.loop-term.invariant.got c.in_ok-permuted_term.ensures.got

pub loop-term-preserved : goal.loop-term-preserved
loop-term-preserved c =
    let l = c.loop-term in
    let v = c.permuted_term.new.world in
    let e = c.in_ok-permuted_term.ensures in
    record {
      held = rw c.in_ok-push.ensures.items (All-push (Holds v) l.list.items c.in_ok-permuted_term.field-0 (still_held l.world v e.got l.list.items l.invariant.held) e.held);
      count = grind (arith, common_steps);
      got = got_on c.args.world.now l.world v l.invariant.got e.got;
    }
