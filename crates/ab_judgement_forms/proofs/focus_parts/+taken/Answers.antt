use Rattle.std.proofs.Common.{ℕ, ◌<◌, List, map, sym, ap, ◌∙◌, subst, arith}
use Rattle.std.specs.List.{All}
use Rattle.std.proofs.lemmas.List.Elements.{All-push}
use Rattle.std.proofs.lemmas.Result.{on_ok_weaker}
use Rattle.ab_norm.specs.ab_types.specs.Ids.{type_of}
use Rattle.ab_norm.specs.ab_store.specs.Trees.{Holds, tree_of, node_tree}
use Rattle.ab_norm.proofs.Frame.{typed_on, lam_names}
use Rattle.ab_judgement_forms.specs.declared.part_names.PartName.{PartName}
use Rattle.ab_judgement_forms.specs.declared.focus_parts.Placed.{Placed}
use Rattle.ab_judgement_forms.specs.PartReadings.{part_read, HoldsName}
use Rattle.ab_judgement_forms.proofs.PartsTaken.{around_same, parts_other, parts_spine, one_taken, one_held, goal_taken, name_taken, both_taken}
use Rattle.ab_judgement_forms.proofs.focus_parts.+taken.Goals as goal

pub add_parts-add_parts_under-requires : goal.add_parts-add_parts_under-requires
add_parts-add_parts_under-requires t c =
    let T = c.args.types.now in
    let below = c.in-Pi.ensures.below in (
      omega (arith, below, c.decreases),
      (
        c.requires.store,
        (c.requires.around, (c.requires.formula, (omega (arith, below, c.requires.formula), (c.in-Pi.ensures.typed T c.requires.store, (sym (c.in-Pi.ensures.reads T), c.requires.parts))))),
      ),
    )

-- `=>`
pub add_parts-add_parts-requires : goal.add_parts-add_parts-requires
add_parts-add_parts-requires t c =
    let S = c.args.store.now in
    let below = c.in-Imply.ensures.below in
    let g : Placed = record { depth = c.len-depth.result; goal = c.in-Imply.goal } in
    let there : Holds S c.in-Imply.goal = omega (arith, below.0, c.requires.formula) in
    let placed = subst (All (λ (p : Placed). Holds S p.goal)) (sym c.in_ok-push-in-Imply.ensures.items) (All-push (λ (p : Placed). Holds S p.goal) c.args.around.now.goals.items g c.requires.around.placed there) in
    (omega (arith, below.1, c.decreases), (c.requires.store, (record { named = c.requires.around.named; placed = placed }, (omega (arith, below.1, c.requires.formula), c.requires.parts))))

pub add_parts-returns-in_ok-add_parts-in-Imply-clause-reads : goal.add_parts-returns-in_ok-add_parts-in-Imply-clause-reads
add_parts-returns-in_ok-add_parts-in-Imply-clause-reads t c =
    let T = c.args.types.now in
    let S = c.args.store.now in
    goal_taken T S c.args.around.now.names.items c.args.around.now.goals.items (tree_of T S c.args.formula) (tree_of T S c.in-Imply.inner) c.in-Imply.goal c.len-depth.result c.push.new.self.items
    (map (part_read T S) c.args.parts.now.items) (map (part_read T c.add_parts.new.store) c.add_parts.new.parts.items)
    (sym (c.in-Imply.ensures.reads T)) (c.len-depth.ensures ∙ c.args.around.now.names.ok.0) c.in_ok-push-in-Imply.ensures.items c.in_ok-add_parts-in-Imply.ensures.reads

-- neither
pub add_parts-returns-in_ok-push-in-Other-clause-reads : goal.add_parts-returns-in_ok-push-in-Other-clause-reads
add_parts-returns-in_ok-push-in-Other-clause-reads t c =
    let T = c.args.types.now in
    let S = c.args.store.now in
    let V = c.part_around.new.store in
    one_taken T S c.args.around.now.names.items c.args.around.now.goals.items V (tree_of T S c.args.formula) c.args.parts.now.items c.push-in-Other.new.self.items c.in_ok-part-in-Other.part
    (parts_other (tree_of T S c.args.formula) (sym (c.in-Other.ensures.reads T))) c.in_ok-push-in-Other.ensures.items c.in_ok-part-in-Other.ensures.adds.before c.requires.parts c.in_ok-part-in-Other.ensures.reads

pub add_parts-returns-in_ok-push-in-Other-clause-held : goal.add_parts-returns-in_ok-push-in-Other-clause-held
add_parts-returns-in_ok-push-in-Other-clause-held t c =
    let T = c.args.types.now in
    one_held T c.args.store.now c.part_around.new.store c.in_ok-part-in-Other.ensures.adds.before c.args.parts.now.items c.push-in-Other.new.self.items c.in_ok-part-in-Other.part c.in_ok-push-in-Other.ensures.items c.requires.parts c.in_ok-part-in-Other.ensures.held

-- `&`
pub add_parts-add_parts-requires-in-With-2 : goal.add_parts-add_parts-requires-in-With-2
add_parts-add_parts-requires-in-With-2 t c =
    let T = c.args.types.now in
    let S = c.args.store.now in
    let one = c.in_ok-add_parts-in-With.ensures in
    let below = c.in-With.ensures.below.1 in
    let there : Holds S c.in-With.right = omega (arith, below, c.requires.formula) in
    let around =
    around_same T S c.add_parts-in-With.new.store one.adds.before c.args.around.now.names.items c.add_parts-in-With.new.around.names.items c.args.around.now.goals.items c.add_parts-in-With.new.around.goals.items one.names one.goals c.requires.around in
    (omega (arith, below, c.decreases), (one.adds.typed, (around, (one.adds.before.ids c.in-With.right there, one.held))))

pub add_parts-returns-in_ok-add_parts-in-With-clause-adds : goal.add_parts-returns-in_ok-add_parts-in-With-clause-adds
add_parts-returns-in_ok-add_parts-in-With-clause-adds t c =
    typed_on c.args.types.now c.args.store.now c.add_parts-in-With.new.store c.add_parts-in-With-2.new.store c.in_ok-add_parts-in-With.ensures.adds c.add_parts-in-With-2.ensures.adds

pub add_parts-returns-in_ok-add_parts-in-With-clause-reads : goal.add_parts-returns-in_ok-add_parts-in-With-clause-reads
add_parts-returns-in_ok-add_parts-in-With-clause-reads t c =
    let T = c.args.types.now in
    let S = c.args.store.now in
    let S1 = c.add_parts-in-With.new.store in
    let one = c.in_ok-add_parts-in-With.ensures in
    let there : Holds S c.in-With.right = omega (arith, c.in-With.ensures.below.1, c.requires.formula) in
    on_ok_weaker c.add_parts-in-With-2.result (λ two.
    both_taken T S c.args.around.now.names.items c.args.around.now.goals.items S1 one.adds.before c.requires.around.placed (tree_of T S c.args.formula) (tree_of T S c.in-With.left) (tree_of T S c.in-With.right) (tree_of T S1 c.in-With.right)
    c.add_parts-in-With.new.around.names.items c.add_parts-in-With.new.around.goals.items (map (part_read T S) c.args.parts.now.items) (map (part_read T S1) c.add_parts-in-With.new.parts.items) _
    (sym (c.in-With.ensures.reads T)) (one.adds.before.trees T c.in-With.right there) one.names one.goals one.reads two) c.add_parts-in-With-2.ensures.reads

-- `pi`
pub add_parts_under-returns-in_ok-push-in-Spine-clause-reads : goal.add_parts_under-returns-in_ok-push-in-Spine-clause-reads
add_parts_under-returns-in_ok-push-in-Spine-clause-reads t c =
    let T = c.args.types.now in
    let S = c.args.store.now in
    let V = c.part_around.new.store in
    one_taken T S c.args.around.now.names.items c.args.around.now.goals.items V (tree_of T S c.args.formula) c.args.parts.now.items c.push.new.self.items c.in_ok-part-in-Spine.part
    (parts_spine (tree_of T S c.args.formula) (tree_of T S c.args.abstraction) (type_of T c.args.ty) _ _ c.requires.shape (c.view.ensures.tree T ∙ ap (node_tree T S) c.in-Spine.is))
    c.in_ok-push-in-Spine.ensures.items c.in_ok-part-in-Spine.ensures.adds.before c.requires.parts c.in_ok-part-in-Spine.ensures.reads

pub add_parts_under-returns-in_ok-push-in-Spine-clause-held : goal.add_parts_under-returns-in_ok-push-in-Spine-clause-held
add_parts_under-returns-in_ok-push-in-Spine-clause-held t c =
    let T = c.args.types.now in
    one_held T c.args.store.now c.part_around.new.store c.in_ok-part-in-Spine.ensures.adds.before c.args.parts.now.items c.push.new.self.items c.in_ok-part-in-Spine.part c.in_ok-push-in-Spine.ensures.items c.requires.parts c.in_ok-part-in-Spine.ensures.held

pub add_parts_under-add_parts-requires : goal.add_parts_under-add_parts-requires
add_parts_under-add_parts-requires t c =
    let T = c.args.types.now in
    let below : c.in-Lam.body.0 < c.args.abstraction.0 = lam_names _ _ _ _ _ _ c.in-Lam.is c.view.ensures.earlier in
    let n : PartName = record { hint = c.in_ok-hint-in-Lam.hint; ty = c.args.ty } in
    let named = subst (All (HoldsName T)) (sym c.in_ok-push-in-Lam.ensures.items) (All-push (HoldsName T) c.args.around.now.names.items n c.requires.around.named c.requires.ty) in
    (omega (arith, below, c.decreases), (c.requires.store, (record { named = named; placed = c.requires.around.placed }, (omega (arith, below, c.requires.abstraction), c.requires.parts))))

pub add_parts_under-returns-in_ok-add_parts-in-Lam-clause-reads : goal.add_parts_under-returns-in_ok-add_parts-in-Lam-clause-reads
add_parts_under-returns-in_ok-add_parts-in-Lam-clause-reads t c =
    let T = c.args.types.now in
    let S = c.args.store.now in
    let n : PartName = record { hint = c.in_ok-hint-in-Lam.hint; ty = c.args.ty } in
    name_taken T S c.args.around.now.names.items c.args.around.now.goals.items (tree_of T S c.args.formula) (tree_of T S c.args.abstraction) (tree_of T S c.in-Lam.body) (type_of T c.args.ty) _ _ n c.push-in-Lam.new.self.items
    (map (part_read T S) c.args.parts.now.items) (map (part_read T c.add_parts.new.store) c.add_parts.new.parts.items)
    c.requires.shape (c.view.ensures.tree T ∙ ap (node_tree T S) c.in-Lam.is) (ap (λ (h : List ℕ). record { hint = h; type = type_of T c.args.ty }) c.in_ok-hint-in-Lam.ensures) c.in_ok-push-in-Lam.ensures.items c.in_ok-add_parts-in-Lam.ensures.reads
