use Rattle.ab_term.specs.Types.{prop}
use Rattle.ab_norm.proofs.Frame.{typed_on}
use Rattle.ab_unify.proofs.Growth.{grows_terms}
use Rattle.ab_search_paths.proofs.EntriesKept.{term_grown, taken_grown}
use Rattle.ab_search_paths.proofs.answer_paths.resolved_entry.Goals as goal

pub resolved_way-requires-clause-taken : goal.resolved_way-requires-clause-taken
resolved_way-requires-clause-taken g c =
    let T = c.args.types.now in
    let S = c.args.store.now in
    let V = c.resolved_term.new.store in
    taken_grown T S V (grows_terms T S V c.resolved_term.ensures.adds) c.args.entry.taken c.requires.entry.taken

pub returns-in_err-taken-clause-adds : goal.returns-in_err-taken-clause-adds
returns-in_err-taken-clause-adds g c = typed_on c.args.types.now c.args.store.now c.resolved_term.new.store c.resolved_way.new.store c.resolved_term.ensures.adds c.resolved_way.ensures.adds

pub returns-clause-adds : goal.returns-clause-adds
returns-clause-adds g c = typed_on c.args.types.now c.args.store.now c.resolved_term.new.store c.resolved_way.new.store c.resolved_term.ensures.adds c.resolved_way.ensures.adds

pub returns-clause-entry : goal.returns-clause-entry
returns-clause-entry g c =
    let T = c.args.types.now in
    let V = c.resolved_term.new.store in
    let X = c.resolved_way.new.store in
    record {
      conclusion = term_grown T V X (grows_terms T V X c.resolved_way.ensures.adds) c.in_ok-conclusion.conclusion prop (c.in_ok-conclusion.ensures.is prop c.requires.entry.conclusion);
      taken = c.in_ok-taken.ensures.taken;
    }
