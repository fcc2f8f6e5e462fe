use Rattle.std.proofs.Common.{◌<◌, length, sym, subst}
use Rattle.std.specs.List.{All}
use Rattle.ab_norm.specs.ab_store.specs.declared.node.TermId.{TermId}
use Rattle.ab_norm.proofs.Frame.{spine_names}
use Rattle.ab_search_paths.proofs.first_cells.look_under.Goals as goal

pub returns-in_default-2 : goal.returns-in_default-2
returns-in_default-2 c =
    let s = c.args.store.now in
    let parts = spine_names c.args.body.0 (length s.cells) c.view.result.now c.in-Spine-Spine.head c.in-Spine-Spine.args c.in-Spine-Spine.is-0 c.view.ensures.earlier in
    c.first_inside.ensures c.args.body (subst (All (λ (t : TermId). t.0 < c.args.body.0)) (sym c.as_slice.ensures) parts.1)
