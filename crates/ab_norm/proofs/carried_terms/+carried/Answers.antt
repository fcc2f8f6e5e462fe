use Rattle.std.proofs.Common.{◌<◌, ◌≤◌, arith, sym, ◌∙◌, subst, get_or}
use Rattle.std.specs.List.{All}
use Rattle.std.proofs.lemmas.List.Elements.{All-push, All-same, All-weaker}
use Rattle.ab_store.specs.declared.node.TermId.{TermId}
use Rattle.ab_store.specs.Trees.{Holds}
use Rattle.ab_store.specs.Naming.{NodeIsTyped}
use Rattle.ab_norm.proofs.Bounds.{ids_bound, bound_within, below_bound}
use Rattle.ab_norm.proofs.Frame.{if_ok, spine_names, typed_on, typed_more}
use Rattle.ab_norm.proofs.Changed.{always_ok}
use Rattle.ab_norm.proofs.Copied.{carries_on, carries_more, carried_spine, carried_more}
use Rattle.ab_norm.proofs.carried_terms.+carried.Goals as goal

pub carry-returns-in-Some-clause-held : goal.carry-returns-in-Some-clause-held
carry-returns-in-Some-clause-held t c = (c.requires.memo c.args.id c.in-Some.answer (sym c.answer.ensures ∙ c.in-Some.is)).0

pub carry-returns-in_ok-keep-in-None-clause-memo : goal.carry-returns-in_ok-keep-in-None-clause-memo
carry-returns-in_ok-keep-in-None-clause-memo t c =
    let made = c.in_ok-made-in-None.ensures in
    carries_more c.args.types.now c.args.store.now c.carry_node.new.apart c.carry_node.new.memo c.keep.new.self c.args.id c.in_ok-made-in-None.made made.memo made.held made.tree c.keep.ensures

pub carry_all-carry-requires : goal.carry_all-carry-requires
carry_all-carry-requires t c =
    let below : (get_or c.args.ids.now c.loop-id.id-index (record { 0 = 0 })).0 < ids_bound c.args.ids.now = below_bound c.args.ids.now c.loop-id.id-index (record { 0 = 0 }) (omega arith) in
    let before = c.loop-id.invariant in
    (omega (arith, below, c.decreases), (c.requires.store, (before.adds.typed, (before.adds.cells ∙ c.requires.cells, (c.requires.ids c.loop-id.id-index (record { 0 = 0 }) (omega arith), before.memo)))))

pub carry_all-returns-in_err-carry-clause-adds : goal.carry_all-returns-in_err-carry-clause-adds
carry_all-returns-in_err-carry-clause-adds t c = typed_on c.args.types.now c.args.apart.now c.loop-id.apart c.carry.new.apart c.loop-id.invariant.adds c.in_err-carry.ensures.adds

pub carry_all-returns-in_err-push-clause-adds : goal.carry_all-returns-in_err-push-clause-adds
carry_all-returns-in_err-push-clause-adds t c = typed_on c.args.types.now c.args.apart.now c.loop-id.apart c.carry.new.apart c.loop-id.invariant.adds c.in_ok-carry.ensures.adds

pub carry_all-loop-id-preserved : goal.carry_all-loop-id-preserved
carry_all-loop-id-preserved t c =
    let before = c.loop-id.invariant in
    let made = c.in_ok-carry.ensures in
    record {
      adds = typed_on c.args.types.now c.args.apart.now c.loop-id.apart c.carry.new.apart before.adds made.adds;
      held = rw c.in_ok-push.ensures.items (All-push (Holds c.carry.new.apart) c.loop-id.made.items c.in_ok-carry.field-0 (All-weaker (Holds c.loop-id.apart) (Holds c.carry.new.apart) made.adds.before.ids c.loop-id.made.items before.held) made.held);
      trees = carried_more c.args.types.now c.args.store.now c.loop-id.apart c.carry.new.apart c.args.ids.now c.loop-id.made.items c.push.new.self.items c.loop-id.id-index (record { 0 = 0 }) c.in_ok-carry.field-0
          made.adds.before before.held before.trees made.tree (omega arith) c.in_ok-push.ensures.items;
      memo = made.memo;
    }

pub carry_node-carry_all-requires : goal.carry_node-carry_all-requires
carry_node-carry_all-requires t c =
    let names = spine_names _ _ c.view.result.now c.in-Spine.head c.in-Spine.args c.in-Spine.is c.view.ensures.earlier in
    let here : All (λ r. r.0 < c.args.id.0) c.as_slice.result.now = All-same (λ (r : TermId). r.0 < c.args.id.0) _ _ c.as_slice.ensures names.1 in
    let bound : ids_bound c.as_slice.result.now ≤ c.args.id.0 = bound_within c.args.id.0 _ here in
    (omega (arith, bound, c.decreases), (c.requires.store, (c.requires.apart, (c.requires.cells, (λ k d l. omega (arith, here k d l, c.requires.id), c.requires.memo)))))

pub carry_node-returns-in_ok-inner-in-Lam-clause-memo : goal.carry_node-returns-in_ok-inner-in-Lam-clause-memo
carry_node-returns-in_ok-inner-in-Lam-clause-memo t c =
    always_ok c.lam.result (carries_on c.args.types.now c.args.store.now c.carry.new.apart c.lam.new.self c.lam.ensures.before c.carry.new.memo c.in_ok-inner-in-Lam.ensures.memo)

pub carry_node-returns-in_ok-inner-in-Lam-clause-adds : goal.carry_node-returns-in_ok-inner-in-Lam-clause-adds
carry_node-returns-in_ok-inner-in-Lam-clause-adds t c =
    let adds = c.in_ok-inner-in-Lam.ensures.adds in
    typed_more c.args.types.now c.args.apart.now c.carry.new.apart c.lam.new.self adds.before adds.cells c.lam.ensures.before c.lam.ensures.cells
    (c.lam.ensures.typed c.args.types.now adds.typed (subst (NodeIsTyped c.args.types.now) c.in-Lam.is (c.view.ensures.typed c.args.types.now c.requires.store)))

pub carry_node-returns-in_ok-given-in-Spine-clause-tree : goal.carry_node-returns-in_ok-given-in-Spine-clause-tree
carry_node-returns-in_ok-given-in-Spine-clause-tree t c =
    let given = c.in_ok-given-in-Spine.ensures in
    if_ok c.spine.result (λ r made.
    carried_spine c.args.types.now c.args.store.now c.carry_all.new.apart c.spine.new.self c.args.id r c.view.result.now c.in-Spine.head c.in-Spine.args c.as_slice.result.now c.in_ok-given-in-Spine.given.items
    (c.view.ensures.tree c.args.types.now) c.in-Spine.is (given.adds.cells ∙ c.requires.cells) c.as_slice.ensures given.trees (made c.args.types.now)) c.spine.ensures.tree

pub carry_node-returns-in_ok-given-in-Spine-clause-memo : goal.carry_node-returns-in_ok-given-in-Spine-clause-memo
carry_node-returns-in_ok-given-in-Spine-clause-memo t c =
    always_ok c.spine.result (carries_on c.args.types.now c.args.store.now c.carry_all.new.apart c.spine.new.self c.spine.ensures.before c.carry_all.new.memo c.in_ok-given-in-Spine.ensures.memo)

pub carry_node-returns-in_ok-given-in-Spine-clause-adds : goal.carry_node-returns-in_ok-given-in-Spine-clause-adds
carry_node-returns-in_ok-given-in-Spine-clause-adds t c =
    let adds = c.in_ok-given-in-Spine.ensures.adds in
    typed_more c.args.types.now c.args.apart.now c.carry_all.new.apart c.spine.new.self adds.before adds.cells c.spine.ensures.before c.spine.ensures.cells
    (c.spine.ensures.typed c.args.types.now adds.typed (subst (NodeIsTyped c.args.types.now) c.in-Spine.is (c.view.ensures.typed c.args.types.now c.requires.store)))
