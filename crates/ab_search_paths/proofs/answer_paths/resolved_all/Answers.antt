use Rattle.std.proofs.Common.{get_or, sym, subst, arith}
use Rattle.std.specs.List.{All}
use Rattle.std.proofs.lemmas.List.Elements.{All-push}
use Rattle.ab_norm.proofs.Frame.{typed_on}
use Rattle.ab_unify.proofs.Growth.{grows_terms}
use Rattle.ab_search_paths.specs.Paths.{IsTermIn}
use Rattle.ab_search_paths.specs.Frames.{as_world}
use Rattle.ab_search_paths.proofs.EntriesKept.{term_grown, terms_grown}
use Rattle.ab_search_paths.proofs.answer_paths.resolved_all.Goals as goal

pub resolved_term-requires-clause-term : goal.resolved_term-requires-clause-term
resolved_term-requires-clause-term g c =
    let l = c.loop-term in
    l.invariant.adds.before.ids (get_or c.args.terms.now l.term-index (record { 0 = 0 })) (c.requires.terms l.term-index (record { 0 = 0 }) (omega (arith, c.loop-term-test.true))).1.0

pub returns-in_err-resolved_term-clause-adds : goal.returns-in_err-resolved_term-clause-adds
returns-in_err-resolved_term-clause-adds g c = let l = c.loop-term in typed_on c.args.types.now c.args.store.now l.store c.resolved_term.new.store l.invariant.adds c.resolved_term.ensures.adds

pub returns-in_err-push-clause-adds : goal.returns-in_err-push-clause-adds
returns-in_err-push-clause-adds g c = let l = c.loop-term in typed_on c.args.types.now c.args.store.now l.store c.resolved_term.new.store l.invariant.adds c.resolved_term.ensures.adds

pub loop-term-preserved : goal.loop-term-preserved
loop-term-preserved g c =
    let T = c.args.types.now in
    let S = c.args.store.now in
    let l = c.loop-term in
    let V = c.resolved_term.new.store in
    let adds = c.resolved_term.ensures.adds in
    let counted = l.invariant.counted in
    let more = c.resolved_term.ensures.steps in
    let P = IsTermIn (as_world T V) in
    let was = c.requires.terms l.term-index (record { 0 = 0 }) (omega (arith, c.loop-term-test.true)) in
    let one = term_grown T S l.store (grows_terms T S l.store l.invariant.adds) (get_or c.args.terms.now l.term-index (record { 0 = 0 })) was.0 was.1 in
    record {
      adds = typed_on T S l.store V l.invariant.adds adds;
      terms = subst (All P) (sym c.in_ok-push.ensures.items) (All-push P l.list.items c.in_ok-resolved_term.field-0 (terms_grown T l.store V (grows_terms T l.store V adds) l.list.items l.invariant.terms) (was.0, c.in_ok-resolved_term.ensures.is was.0 one));
      counted = omega (arith, counted, more);
    }
