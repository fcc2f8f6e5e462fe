use Rattle.std.proofs.Common.{◌<◌, length, sym, subst}
use Rattle.std.specs.List.{All}
use Rattle.ab_norm.specs.ab_store.specs.declared.node.TermId.{TermId}
use Rattle.ab_norm.proofs.Frame.{spine_names, lam_names}
use Rattle.ab_search.proofs.empty_lists.part_of.Goals as goal

pub returns-in-Spine : goal.returns-in-Spine
returns-in-Spine c =
    let s = c.args.store.now in
    let parts = spine_names c.args.formula.0 (length s.cells) c.view.result.now c.in-Spine.head c.in-Spine.args c.in-Spine.is c.view.ensures.earlier in
    c.last_part.ensures c.args.formula.0 (subst (All (λ (t : TermId). t.0 < c.args.formula.0)) (sym c.as_slice.ensures) parts.1)
