use Rattle.std.proofs.Common.{◌≡◌, ◌<◌, ◌≤◌, get_or, arith, sym, ◌∙◌, subst}
use Rattle.std.specs.List.{All}
use Rattle.std.proofs.lemmas.List.Elements.{All-push, All-same}
use Rattle.ab_norm.specs.ab_types.specs.Entries.{Table}
use Rattle.ab_norm.specs.ab_types.specs.Ids.{HoldsType}
use Rattle.ab_norm.specs.ab_store.specs.declared.node.TermId.{TermId}
use Rattle.ab_norm.specs.ab_store.specs.declared.node.Node.TheVariants.{Lam, Spine}
use Rattle.ab_norm.specs.ab_store.specs.Naming.{HeadIsTyped, NodeIsTyped}
use Rattle.ab_norm.proofs.Bounds.{ids_bound, bound_within, below_bound}
use Rattle.ab_norm.proofs.Frame.{spine_names}
use Rattle.ab_logic.specs.Worlds.{Holds}
use Rattle.ab_search_paths.proofs.MoreTerms.{got_on, got_store, head_held, still_held}
use Rattle.ab_search_paths.proofs.opened_formulas.+opening.Goals as goal

pub open_formula-returns-in-Lam-clause-got : goal.open_formula-returns-in-Lam-clause-got
open_formula-returns-in-Lam-clause-got t c =
    let w = c.args.world.now in
    let v = c.open_formula.new.world in
    let got = c.in_ok-inner-in-Lam.ensures.got in
    let is : c.view.result.now ≡ Lam c.in-Lam.ty c.in-Lam.hint c.in-Lam.body = sym c.in_ok-ty.ensures ∙ c.in-Lam.is in
    let ty : HoldsType w.types c.in-Lam.ty = subst (NodeIsTyped w.types) is (c.view.ensures.typed w.types c.requires.world.typed) in
    let later : HoldsType v.types c.in-Lam.ty = subst (λ (T : Table). HoldsType T c.in-Lam.ty) (sym got.types) ty in
    got_on w v _ got (got_store v c.lam.new.self got.grows.world c.lam.ensures.before (c.lam.ensures.typed v.types got.grows.world.typed later))

pub open_formula-opened_parts-requires : goal.open_formula-opened_parts-requires
open_formula-opened_parts-requires t c =
    let w = c.args.world.now in
    let is : c.view.result.now ≡ Spine c.in-Spine.head c.in-Spine.args = sym c.in_ok-ty.ensures ∙ c.in-Spine.is in
    let names = spine_names _ _ c.view.result.now c.in-Spine.head c.in-Spine.args is c.view.ensures.earlier in
    let here : All (λ r. r.0 < c.args.formula.0) c.as_slice.result.now = All-same (λ (r : TermId). r.0 < c.args.formula.0) _ _ c.as_slice.ensures names.1 in
    let bound : ids_bound c.as_slice.result.now ≤ c.args.formula.0 = bound_within c.args.formula.0 _ here in
    let typed : HeadIsTyped w.types c.in-Spine.head = subst (NodeIsTyped w.types) is (c.view.ensures.typed w.types c.requires.world.typed) in
    (omega (arith, bound, c.decreases), (c.requires.world, (names.0, (typed, λ k d l. omega (arith, here k d l, c.requires.formula)))))

pub opened_parts-open_formula-requires : goal.opened_parts-open_formula-requires
opened_parts-open_formula-requires t c =
    let none : TermId = record { 0 = 0 } in
    let place = c.loop-part.part-index in
    let part = get_or c.args.args.now place none in
    let below : part.0 < ids_bound c.args.args.now = below_bound c.args.args.now place none (omega arith) in
    let grows = c.loop-part.invariant.got.grows in
    (omega (arith, below, c.decreases), (grows.world, grows.ids part (c.requires.args place none (omega arith))))

pub opened_parts-returns-in_err-open_formula-clause-got : goal.opened_parts-returns-in_err-open_formula-clause-got
opened_parts-returns-in_err-open_formula-clause-got t c = got_on c.args.world.now c.loop-part.world c.open_formula.new.world c.loop-part.invariant.got c.in_err-open_formula.ensures.got

pub opened_parts-returns-in_err-push-clause-got : goal.opened_parts-returns-in_err-push-clause-got
opened_parts-returns-in_err-push-clause-got t c = got_on c.args.world.now c.loop-part.world c.open_formula.new.world c.loop-part.invariant.got c.in_ok-open_formula.ensures.got

pub opened_parts-loop-part-preserved : goal.opened_parts-loop-part-preserved
opened_parts-loop-part-preserved t c =
    let l = c.loop-part in
    let v = c.open_formula.new.world in
    let got = c.in_ok-open_formula.ensures.got in
    record {
      held = rw c.in_ok-push.ensures.items (All-push (Holds v) l.list.items c.in_ok-open_formula.field-0 (still_held l.world v got l.list.items l.invariant.held) c.in_ok-open_formula.ensures.held);
      got = got_on c.args.world.now l.world v l.invariant.got got;
    }

pub opened_parts-spine-requires-clause-head : goal.opened_parts-spine-requires-clause-head
opened_parts-spine-requires-clause-head t c = head_held c.args.world.now c.loop-part.world c.loop-part.invariant.got.grows c.args.head c.requires.head

pub opened_parts-returns-clause-got : goal.opened_parts-returns-clause-got
opened_parts-returns-clause-got t c =
    let v = c.loop-part.world in
    let got = c.loop-part.invariant.got in
    let typed : HeadIsTyped v.types c.args.head = subst (λ (T : Table). HeadIsTyped T c.args.head) (sym got.types) c.requires.typed in
    got_on c.args.world.now v _ got (got_store v c.spine.new.self got.grows.world c.spine.ensures.before (c.spine.ensures.typed v.types got.grows.world.typed typed))
