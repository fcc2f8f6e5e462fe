use Rattle.std.proofs.Common.{◌≤◌, ◌<◌, ◌++◌, map, length, get_or, arith, ap, sym, ◌∙◌, append-nil}
use Rattle.std.proofs.lemmas.List.Elements.{All-same}
use Rattle.ab_norm.proofs.Frame.{spine_names, lam_names}
use Rattle.ab_norm.specs.ab_store.specs.declared.node.TermId.{TermId}
use Rattle.ab_norm.specs.ab_store.specs.declared.node.Head.TheVariants.{Logic}
use Rattle.ab_alternatives.proofs.Walks.{no_prefix}
use Rattle.ab_alternatives.proofs.hints.+add_hints.Goals as goal

pub returns-in_default-as_slice-2 : goal.returns-in_default-as_slice-2
returns-in_default-as_slice-2 t c =
    let types = c.args.types.now in
    let given = c.as_slice.result.now in
    sym (ap (λ zs. c.args.list.now.items ++ map (λ z. z.hint) zs)
    (no_prefix types c.args.store.now c.args.id c.view.result.now (c.view.ensures.tree types) c.in-Spine.head c.in-Spine.args c.in-Spine.is
    c.in-Nabla.field-0 given (c.in-Logic.is ∙ ap Logic c.in-Nabla.is) c.as_slice.ensures (λ one. let many : 2 ≤ length given = c.in_default-as_slice.len_at_least in omega (arith, one, many)))
    ∙ append-nil c.args.list.now.items)

pub add_hints-requires : goal.add_hints-requires
add_hints-requires t c =
    let names = spine_names _ _ c.view.result.now c.in-Spine.head c.in-Spine.args c.in-Spine.is c.view.ensures.earlier in
    let given = c.as_slice.result.now in
    let d : TermId = record { 0 = 0 } in
    let scope : (get_or given 0 d).0 < c.args.id.0 = All-same (λ (r : TermId). r.0 < c.args.id.0) _ _ c.as_slice.ensures names.1 0 d (omega (arith, c.in-len1.len_at_least)) in
    let inner : c.in-Lam-view.body.0 < (get_or given 0 d).0 = lam_names _ _ c.view-in-len1.result.now _ _ c.in-Lam-view.body c.in-Lam-view.is c.view-in-len1.ensures.earlier in
    (omega (arith, scope, inner, c.decreases), (c.requires.store, omega (arith, scope, inner, c.requires.id)))
