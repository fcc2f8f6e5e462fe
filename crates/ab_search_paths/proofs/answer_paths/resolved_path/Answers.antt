use Rattle.std.proofs.Common.{length, sym, subst, arith}
use Rattle.std.specs.List.{All}
use Rattle.std.proofs.lemmas.List.Elements.{All-push}
use Rattle.std.proofs.lemmas.Iterator.Adapters.{YieldsList-from_vec}
use Rattle.std.proofs.lemmas.Iterator.Consumers.{YieldsList-turn}
use Rattle.ab_norm.proofs.Frame.{typed_on}
use Rattle.ab_unify.proofs.Growth.{grows_terms}
use Rattle.ab_search_paths.specs.Paths.{HoldsEntry}
use Rattle.ab_search_paths.specs.Frames.{as_world}
use Rattle.ab_search_paths.proofs.EntriesKept.{entry_grown, entries_grown}
use Rattle.ab_search_paths.proofs.answer_paths.resolved_path.Goals as goal

pub resolved_entry-requires-clause-entry : goal.resolved_entry-requires-clause-entry
resolved_entry-requires-clause-entry g c =
    let T = c.args.types.now in
    let S = c.args.store.now in
    let l = c.loop-entry in
    let made = c.into_iter-entry-iterator in
    let e = made.ensures in
    let turn = YieldsList-turn (YieldsList-from_vec {s = made.result} c.args.entries.items e.into_iter_gives.0 (let a = e.into_iter_gives.1 in let b = c.args.entries.ok in omega (arith, a, b))) l.yielded l.entry-iterator l.yielded_by c.next.result c.next.new.self c.in-Some.entry c.in-Some.is c.next.ensures.steps in
    entry_grown T S l.store (grows_terms T S l.store l.invariant.adds) c.in-Some.entry (subst (HoldsEntry (as_world T S)) (sym turn.1) (c.requires.entries (length l.yielded) c.in-Some.entry turn.0))

pub returns-in_err-resolved_entry-clause-adds : goal.returns-in_err-resolved_entry-clause-adds
returns-in_err-resolved_entry-clause-adds g c = typed_on c.args.types.now c.args.store.now c.loop-entry.store c.resolved_entry.new.store c.loop-entry.invariant.adds c.resolved_entry.ensures.adds

pub returns-in_err-push-clause-adds : goal.returns-in_err-push-clause-adds
returns-in_err-push-clause-adds g c = typed_on c.args.types.now c.args.store.now c.loop-entry.store c.resolved_entry.new.store c.loop-entry.invariant.adds c.resolved_entry.ensures.adds

pub loop-entry-preserved : goal.loop-entry-preserved
loop-entry-preserved g c =
    let T = c.args.types.now in
    let l = c.loop-entry in
    let V = c.resolved_entry.new.store in
    let counted = l.invariant.counted in
    let more = c.resolved_entry.ensures.steps in
    let P = HoldsEntry (as_world T V) in
    record {
      adds = typed_on T c.args.store.now l.store V l.invariant.adds c.resolved_entry.ensures.adds;
      entries = subst (All P) (sym c.in_ok-push.ensures.items) (All-push P l.list.items c.in_ok-resolved_entry.field-0 (entries_grown T l.store V (grows_terms T l.store V c.resolved_entry.ensures.adds) l.list.items l.invariant.entries) c.in_ok-resolved_entry.ensures.entry);
      counted = omega (arith, counted, more);
    }
