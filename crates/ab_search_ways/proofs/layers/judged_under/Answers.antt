use Rattle.std.proofs.Common.{List, map, sym, ap, ◌∙◌}
use Rattle.ab_term.specs.Logical.{nabla}
use Rattle.ab_term.specs.Terms.{logical, spine, terms_of}
use Rattle.ab_norm.specs.ab_types.specs.Entries.{signature}
use Rattle.ab_norm.specs.ab_types.specs.Ids.{type_of}
use Rattle.ab_norm.specs.ab_store.specs.declared.node.TermId.{TermId}
use Rattle.ab_norm.specs.ab_store.specs.Trees.{tree_of, node_tree}
use Rattle.ab_norm.proofs.Frame.{typed_more}
use Rattle.ab_search_ways.proofs.LayerMade.{under_nabla}
use Rattle.ab_search_ways.proofs.layers.judged_under.Goals as goal

pub returns-in_err-from_array-in-Lam-clause-adds : goal.returns-in_err-from_array-in-Lam-clause-adds
returns-in_err-from_array-in-Lam-clause-adds c =
    let T = c.args.types.now in
    let a = c.unmarked_judgement.ensures.adds in
    typed_more T c.args.store.now c.unmarked_judgement.new.store c.lam.new.self a.before a.cells c.lam.ensures.before c.lam.ensures.cells (c.lam.ensures.typed T a.typed c.requires.ty)

pub returns-in_err-formula-in-Lam-clause-adds : goal.returns-in_err-formula-in-Lam-clause-adds
returns-in_err-formula-in-Lam-clause-adds c =
    let T = c.args.types.now in
    let a = c.unmarked_judgement.ensures.adds in
    let b = typed_more T c.args.store.now c.unmarked_judgement.new.store c.lam.new.self a.before a.cells c.lam.ensures.before c.lam.ensures.cells (c.lam.ensures.typed T a.typed c.requires.ty) in
    typed_more T c.args.store.now c.lam.new.self c.spine.new.self b.before b.cells c.spine.ensures.before c.spine.ensures.cells (c.spine.ensures.typed T b.typed c.requires.ty)

pub returns-clause-adds : goal.returns-clause-adds
returns-clause-adds c =
    let T = c.args.types.now in
    let a = c.unmarked_judgement.ensures.adds in
    let b = typed_more T c.args.store.now c.unmarked_judgement.new.store c.lam.new.self a.before a.cells c.lam.ensures.before c.lam.ensures.cells (c.lam.ensures.typed T a.typed c.requires.ty) in
    typed_more T c.args.store.now c.lam.new.self c.spine.new.self b.before b.cells c.spine.ensures.before c.spine.ensures.cells (c.spine.ensures.typed T b.typed c.requires.ty)

pub returns-clause-reads : goal.returns-clause-reads
returns-clause-reads c =
    let T = c.args.types.now in
    let S = c.args.store.now in
    let S2 = c.lam.new.self in
    let A = type_of T c.args.ty in
    under_nabla (signature T) A (type_of T c.in-Lam.field-0) c.in-Lam.hint (tree_of T S c.args.list) (tree_of T S c.in-Lam.goal) (tree_of T S c.args.abstraction)
    (tree_of T S2 c.in_ok-under-in-Lam.under) (tree_of T c.unmarked_judgement.new.store c.in_ok-inner-in-Lam.inner) (tree_of T c.spine.new.self c.in_ok-formula-in-Lam.formula)
    c.requires.list.1
    (c.view.ensures.tree T ∙ ap (node_tree T S) (sym c.in_ok-copy.ensures ∙ c.in-Lam.is))
    c.in_ok-inner-in-Lam.ensures.tree
    (c.in_ok-under-in-Lam.ensures.tree T)
    (c.in_ok-formula-in-Lam.ensures.tree T ∙ ap (λ (ts : List TermId). spine (logical (nabla A)) (terms_of (map (tree_of T S2) ts))) c.in_ok-from_array-in-Lam.ensures.items)
