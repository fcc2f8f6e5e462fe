use Rattle.std.proofs.lemmas.List.Elements.{All-push}
use Rattle.ab_term.specs.Names.{moved_by}
use Rattle.ab_norm.specs.declared.nominal.Nominal.{Nominal}
use Rattle.ab_norm.specs.Nominals.{pairs_of, HoldsNominal}
use Rattle.ab_search_paths.proofs.Likenesses.{moved_more}
use Rattle.ab_search_paths.proofs.likeness.all_moved.Goals as goal

pub loop-a-preserved : goal.loop-a-preserved
loop-a-preserved c =
    let T = c.args.types.now in
    let none : Nominal = record { number = 0; ty = record { 0 = 0 } } in
    let l = c.loop-a in
    let here = c.moved_constant.ensures T c.has_unique_ids.ensures.table c.requires.pairs (c.requires.names l.a-index none c.loop-a-test.true) in
    record {
      held = rw c.in_ok-push.ensures.items (All-push (HoldsNominal T) l.list.items c.moved_constant.result l.invariant.held here.0);
      reads = moved_more T (moved_by (pairs_of T c.args.pairs.now)) c.args.names.now l.list.items c.push.new.self.items c.moved_constant.result l.a-index none c.loop-a-test.true l.invariant.reads here.1 c.in_ok-push.ensures.items;
    }
