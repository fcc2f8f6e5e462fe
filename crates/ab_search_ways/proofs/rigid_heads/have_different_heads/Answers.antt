use Rattle.std.proofs.Common.{Some, not, ap, ◌∙◌}
use Rattle.ab_norm.specs.ab_store.specs.Trees.{head_reading}
use Rattle.ab_logic.specs.Worlds.{read}
use Rattle.ab_formulas.specs.Marks.{erased}
use Rattle.ab_search_ways.specs.RigidHeads.{rigid_head, differ}
use Rattle.ab_search_ways.proofs.SameHeads.{equal_heads}
use Rattle.ab_search_ways.proofs.rigid_heads.have_different_heads.Goals as goal

pub returns : goal.returns
returns c =
    let w = c.args.world.now in
    let one = c.in-Some.one in
    let other = c.in-Some-unmarked_head.other in
    let typed = c.requires.world.typed in
    ap not (equal_heads w.types w.store c.has_unique_ids.ensures.table one other (c.in-Some.ensures.typed w.types typed) (c.in-Some-unmarked_head.ensures.typed w.types typed) c.are_same.result c.are_same.ensures)
    ∙ ap (λ h. differ h (Some (head_reading w.types w.store other))) (c.in-Some.ensures.reads w.types)
    ∙ ap (differ (rigid_head (erased (read w c.args.given)))) (c.in-Some-unmarked_head.ensures.reads w.types)
