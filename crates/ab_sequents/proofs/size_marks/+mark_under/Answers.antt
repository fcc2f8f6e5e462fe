use Rattle.std.proofs.Common.{List, map, length, sym, ap, subst, ◌∙◌}
use Rattle.ab_term.specs.Terms.{spine, term, no_terms, terms_of, lam, Read}
use Rattle.ab_norm.specs.ab_types.specs.Ids.{type_of}
use Rattle.ab_norm.specs.ab_store.specs.declared.node.TermId.{TermId}
use Rattle.ab_norm.specs.ab_store.specs.declared.node.CellEntry.{CellEntry}
use Rattle.ab_norm.specs.ab_store.specs.Naming.{HeadNames}
use Rattle.ab_norm.specs.ab_store.specs.Trees.{tree_of, head_in, node_tree}
use Rattle.ab_norm.specs.ab_store.proofs.Growing.{extended_on}
use Rattle.ab_norm.proofs.Frame.{adds_lam, if_ok}
use Rattle.ab_logic.specs.Forms.{sign_of}
use Rattle.ab_sequents.specs.SizeViews.{part_marked}
use Rattle.ab_sequents.proofs.Looks.{goes_on, ends}
use Rattle.ab_sequents.proofs.size_marks.+mark_under.Goals as goal

pub returns-in-Spine-clause-reads : goal.returns-in-Spine-clause-reads
returns-in-Spine-clause-reads t c =
    let S = c.args.store.now in
    if_ok c.mark_part-in-Spine.result (λ r made types.
    made types
    ∙ ends (part_marked c.args.part (sign_of c.args.sign)) (tree_of types S c.args.id) _ _ _ (tree_of types S c.in-Under.abstraction) (c.in-Under.ensures.reads types)
    (c.view.ensures.tree types ∙ ap (node_tree types S) (sym c.in_ok-copy.ensures ∙ c.in-Spine.is))) c.mark_part-in-Spine.ensures.reads

pub returns-in_err-from_array-in-Lam-clause-adds : goal.returns-in_err-from_array-in-Lam-clause-adds
returns-in_err-from_array-in-Lam-clause-adds t c =
    adds_lam c.args.store.now c.mark_under.new.store c.lam.new.self c.view.result.now c.view.ensures.typed c.in_ok-inner-in-Lam.ensures.adds c.lam.ensures.before c.lam.ensures.cells
    c.in-Lam.ty c.in-Lam.hint c.in-Lam.body (sym c.in_ok-copy.ensures ∙ c.in-Lam.is) c.lam.ensures.typed

pub spine-requires-clause-head : goal.spine-requires-clause-head
spine-requires-clause-head t c =
    subst (λ (cells : List CellEntry). HeadNames (length cells) c.in-Under.head) (sym (c.lam.ensures.cells ∙ c.in_ok-inner-in-Lam.ensures.adds.cells)) c.in-Under.ensures.held

pub returns-clause-reads : goal.returns-clause-reads
returns-clause-reads t c =
    let S = c.args.store.now in
    let T = c.mark_under.new.store in
    let U = c.lam.new.self in
    let f = part_marked c.args.part (sign_of c.args.sign) in
    if_ok c.spine.result (λ r made types.
    let h = head_in types S.cells c.in-Under.head in
    made types
    ∙ ap (λ (cells : List CellEntry). spine (head_in types cells c.in-Under.head) (terms_of (map (tree_of types U) c.in_ok-from_array-in-Lam.field-0.items))) (c.lam.ensures.cells ∙ c.in_ok-inner-in-Lam.ensures.adds.cells)
    ∙ ap (λ (ts : List TermId). spine h (terms_of (map (tree_of types U) ts))) c.in_ok-from_array-in-Lam.ensures.items
    ∙ ap (λ (u : Read). spine h (term u no_terms)) (c.in_ok-over-in-Lam.ensures.tree types ∙ ap (lam (type_of types c.in-Lam.ty) c.in-Lam.hint) (c.in_ok-inner-in-Lam.ensures.reads types))
    ∙ goes_on f (tree_of types S c.args.id) h (type_of types c.in-Lam.ty) c.in-Lam.hint (tree_of types S c.in-Lam.body) (tree_of types S c.in-Under.abstraction) (c.in-Under.ensures.reads types)
    (c.view.ensures.tree types ∙ ap (node_tree types S) (sym c.in_ok-copy.ensures ∙ c.in-Lam.is))) c.spine.ensures.tree

pub returns-clause-adds : goal.returns-clause-adds
returns-clause-adds t c =
    let over =
    adds_lam c.args.store.now c.mark_under.new.store c.lam.new.self c.view.result.now c.view.ensures.typed c.in_ok-inner-in-Lam.ensures.adds c.lam.ensures.before c.lam.ensures.cells
    c.in-Lam.ty c.in-Lam.hint c.in-Lam.body (sym c.in_ok-copy.ensures ∙ c.in-Lam.is) c.lam.ensures.typed in
    record {
      before = extended_on c.args.store.now c.lam.new.self c.spine.new.self over.before c.spine.ensures.before;
      cells = c.spine.ensures.cells ∙ over.cells;
      typed = λ types d. c.spine.ensures.typed types (over.typed types d) (c.in-Under.ensures.typed types d);
    }
