use Rattle.std.proofs.Common.{map, ◌∙◌, ap}
use Rattle.ab_term.specs.Names.{support_of_all}
use Rattle.ab_term.specs.Terms.{terms_of}
use Rattle.ab_norm.specs.ab_store.specs.Trees.{tree_of}
use Rattle.ab_norm.specs.Nominals.{nominal_of}
use Rattle.ab_search_paths.proofs.Likenesses.{others_once, others_apart}
use Rattle.ab_search_paths.proofs.carried_terms.what_is_sent.Goals as goal

pub with_new-requires-clause-once : goal.with_new-requires-clause-once
with_new-requires-clause-once c =
    let w = c.args.world.now in
    let N = nominal_of w.types in
    others_once w.types c.deref-3.result.now c.deref.result.now (map N c.deref-2.result.now) (support_of_all (terms_of (map (tree_of w.types w.store) c.args.terms.now)))
    (ap (map N) c.deref-3.ensures.value ∙ c.in_ok-others.ensures.list) (ap (map N) c.deref.ensures.value ∙ c.in_ok-all.ensures.list)

pub with_new-requires-clause-apart : goal.with_new-requires-clause-apart
with_new-requires-clause-apart c =
    let w = c.args.world.now in
    others_apart w.types c.deref-3.result.now c.deref.result.now c.args.like.now.names.items c.deref-2.result.now (ap (map (nominal_of w.types)) c.deref-3.ensures.value ∙ c.in_ok-others.ensures.list) c.deref-2.ensures.value
