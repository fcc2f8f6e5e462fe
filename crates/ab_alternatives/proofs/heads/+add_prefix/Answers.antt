use Rattle.std.proofs.Common.{◌≤◌, ◌<◌, ◌++◌, map, length, get_or, arith, ap, sym, ◌∙◌, subst, append-nil}
use Rattle.ab_norm.proofs.Frame.{spine_names, lam_names}
use Rattle.ab_norm.specs.ab_store.specs.declared.node.TermId.{TermId}
use Rattle.std.specs.List.{All}
use Rattle.std.proofs.lemmas.List.Elements.{All-push, All-same}
use Rattle.ab_norm.specs.ab_types.specs.Ids.{HoldsType, type_of}
use Rattle.ab_norm.specs.ab_store.specs.declared.node.Head.TheVariants.{Logic}
use Rattle.ab_norm.specs.ab_store.specs.Naming.{NodeIsTyped, HeadIsTyped}
use Rattle.ab_alternatives.proofs.Walks.{no_prefix}
use Rattle.ab_alternatives.proofs.heads.+add_prefix.Goals as goal

pub returns-in_default-as_slice-2-clause-types : goal.returns-in_default-as_slice-2-clause-types
returns-in_default-as_slice-2-clause-types t c =
    let types = c.args.types.now in
    let given = c.as_slice.result.now in
    sym (ap (λ zs. map (type_of types) c.args.list.now.items ++ map (λ z. z.type) zs)
    (no_prefix types c.args.store.now c.args.id c.view.result.now (c.view.ensures.tree types) c.in-Spine.head c.in-Spine.args c.in-Spine.is
    c.in-Nabla.ty given (c.in-Logic.is ∙ ap Logic c.in-Nabla.is) c.as_slice.ensures (λ one. let many : 2 ≤ length given = c.in_default-as_slice.len_at_least in omega (arith, one, many)))
    ∙ append-nil (map (type_of types) c.args.list.now.items))

pub add_prefix-requires : goal.add_prefix-requires
add_prefix-requires t c =
    let types = c.args.types.now in
    let names = spine_names _ _ c.view.result.now c.in-Spine.head c.in-Spine.args c.in-Spine.is c.view.ensures.earlier in
    let typed : HoldsType types c.in-Nabla.ty =
    subst (HeadIsTyped types) (c.in-Logic.is ∙ ap Logic c.in-Nabla.is) (subst (NodeIsTyped types) c.in-Spine.is (c.view.ensures.typed types c.requires.store)) in
    let given = c.as_slice.result.now in
    let d : TermId = record { 0 = 0 } in
    let scope : (get_or given 0 d).0 < c.args.id.0 = All-same (λ (r : TermId). r.0 < c.args.id.0) _ _ c.as_slice.ensures names.1 0 d (omega (arith, c.in-len1.len_at_least)) in
    let inner : c.in-Lam-view.body.0 < (get_or given 0 d).0 = lam_names _ _ c.view-in-len1.result.now _ _ c.in-Lam-view.body c.in-Lam-view.is c.view-in-len1.ensures.earlier in (
      omega (arith, scope, inner, c.decreases),
      (
        c.requires.store,
        (
          omega (arith, scope, inner, c.requires.id),
          subst (All (HoldsType types)) (sym c.in_ok-push-in-Lam-view.ensures.items) (All-push (HoldsType types) c.args.list.now.items c.in-Nabla.ty c.requires.list typed),
        ),
      ),
    )
