use Rattle.std.proofs.Common.{◌≤◌, sym, ◌∙◌, arith}
use Rattle.ab_term.specs.Reach.{reach}
use Rattle.ab_term.proofs.Reaching.{shift-short}
use Rattle.ab_norm.specs.ab_store.specs.Trees.{tree_of}
use Rattle.ab_norm.proofs.Frame.{if_ok, typed_from}
use Rattle.ab_judgement_forms.proofs.UnusedNames.{close-unused}
use Rattle.ab_judgement_forms.proofs.unused_names.under_binder.Goals as goal

pub returns-then-reach-eq0-clause-tree : goal.returns-then-reach-eq0-clause-tree
returns-then-reach-eq0-clause-tree c =
    let t = tree_of c.args.types.now c.args.store.now c.args.term in
    let small : reach t ≤ 0 = omega (arith, c.reach-reach.ensures.tree c.args.types.now, c.if-reach-eq0.true) in
    sym (shift-short t 0 small)

pub returns-clause-tree : goal.returns-clause-tree
returns-clause-tree c =
    let types = c.args.types.now in
    let t = tree_of types c.args.store.now c.args.term in
    if_ok c.close.result (λ r made. made types (c.has_unique_ids.ensures.table, c.requires.store, tt) ∙ close-unused 0 c.reach-reach.result t (c.reach-reach.ensures.tree types)) c.close.ensures.reads

pub returns-clause-adds : goal.returns-clause-adds
returns-clause-adds c = typed_from c.args.types.now c.args.store.now c.close.new.store c.close.ensures.adds c.requires.store
