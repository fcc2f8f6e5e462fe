use Rattle.std.proofs.lemmas.List.Elements.{All-push}
use Rattle.ab_logic.specs.Worlds.{Holds}
use Rattle.ab_search_paths.proofs.MoreTerms.{got_on, still_held}
use Rattle.ab_search_paths.proofs.raising.raised_terms.Goals as goal

pub returns-in_err-push-clause-got : goal.returns-in_err-push-clause-got
returns-in_err-push-clause-got c = got_on c.args.world.now c.loop-place.world c.raised_term.new.world c.loop-place.invariant.got c.in_ok-raised_term.ensures.got

pub loop-place-preserved : goal.loop-place-preserved
loop-place-preserved c =
    let l = c.loop-place in
    let v = c.raised_term.new.world in
    let e = c.in_ok-raised_term.ensures in
    record {
      held = rw c.in_ok-push.ensures.items (All-push (Holds v) l.list.items c.in_ok-raised_term.field-0 (still_held l.world v e.got l.list.items l.invariant.held) e.held);
      got = got_on c.args.world.now l.world v l.invariant.got e.got;
    }

pub returns-in_err-raised_term-clause-got : goal.returns-in_err-raised_term-clause-got
returns-in_err-raised_term-clause-got c = got_on c.args.world.now c.loop-place.world c.raised_term.new.world c.loop-place.invariant.got c.raised_term.ensures.got
