use Rattle.std.proofs.Common.{◌∷◌, map, sym, ◌∙◌, ap}
use Rattle.std.proofs.lemmas.List.{length-map}
use Rattle.ab_term.specs.Terms.{spine, terms_of}
use Rattle.ab_norm.specs.ab_store.specs.Trees.{tree_of, head_reading, node_tree}
use Rattle.ab_unifiers.specs.Prefixes.{opened}
use Rattle.ab_instances.proofs.Opened.{one_only, opened_other}
use Rattle.ab_instances.proofs.clause_heads.only_argument.Goals as goal

pub returns-then-args-eq1-clause-some : goal.returns-then-args-eq1-clause-some
returns-then-args-eq1-clause-some c = λ types.
    let store = c.args.store.now in (
      head_reading types store c.in-Spine.field-0,
      c.view.ensures.tree types
          ∙ ap (node_tree types store) c.in-Spine.is
          ∙ ap (λ ts. spine (head_reading types store c.in-Spine.field-0) (terms_of (map (tree_of types store) ts))) (sym c.as_slice-args.ensures ∙ one_only c.as_slice-args.result.now (record { 0 = 0 }) c.if-args-eq1.true),
    )

pub returns-else-args-eq1-clause-none : goal.returns-else-args-eq1-clause-none
returns-else-args-eq1-clause-none c = λ e types u us.
    let store = c.args.store.now in
    let is = c.view.ensures.tree types
    ∙ ap (node_tree types store) c.in-Spine.is
    ∙ ap (λ ts. spine (head_reading types store c.in-Spine.field-0) (terms_of (map (tree_of types store) ts))) (sym c.as_slice-args.ensures) in
    ap (λ t. opened t (u ∷ us)) is
    ∙ opened_other (head_reading types store c.in-Spine.field-0) (map (tree_of types store) c.as_slice-args.result.now) u us (λ one. c.if-args-eq1.false (sym (length-map c.as_slice-args.result.now (tree_of types store)) ∙ one))
    ∙ sym is
