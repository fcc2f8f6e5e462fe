use Rattle.std.proofs.Common.{◌≡◌, ◌-◌, ◌<◌, ◌≤◌, arith, ap, sym, ◌∙◌, subst, length, get_or, map, codes}
use Rattle.std.proofs.lemmas.List.{length-map}
use Rattle.std.proofs.lemmas.List.Elements.{All-push, All-nil, All-same}
use Rattle.ab_term.specs.Terms.{index, terms_of}
use Rattle.ab_term.specs.Reach.{raise_head, raise}
use Rattle.ab_term.specs.Expansion.{expansion_of}
use Rattle.ab_store.specs.ab_types.specs.Ids.{HoldsType, type_of}
use Rattle.ab_store.specs.Trees.{Holds, tree_of, head_in, head_reading}
use Rattle.ab_store.specs.Naming.{HeadNames}
use Rattle.ab_norm.proofs.Bounds.{size}
use Rattle.ab_norm.proofs.Changed.{map_twice}
use Rattle.ab_norm.proofs.Frame.{typed_from, typed_more, typed_on, adds_but_types, if_ok}
use Rattle.ab_norm.proofs.Expanded.{formed, one_name, most, most_smaller, most_within}
use Rattle.ab_norm.proofs.eta_forms.+expanded.Goals as goal

pub expand-returns-in_err-lifted-clause-adds : goal.expand-returns-in_err-lifted-clause-adds
expand-returns-in_err-lifted-clause-adds t c = typed_from c.args.types.now c.args.store.now c.lift_all.new.store c.in_err-lifted.ensures.adds c.requires.store

pub expand-give_names-requires : goal.expand-give_names-requires
expand-give_names-requires t c =
    let types = c.args.types.now in
    let smaller : most (map (type_of types) c.deref-2.result.now) < size (type_of types c.args.ty) =
    most_smaller (type_of types) c.in_ok-binders.binders.items c.deref-2.result.now (type_of types c.args.ty) c.deref-2.ensures.value c.in_ok-binders.ensures.reads in (
      omega (arith, smaller, c.decreases),
      (
        c.requires.types,
        (
          c.in_ok-lifted.ensures.adds.typed types c.requires.store,
          (All-same (HoldsType types) c.deref-2.result.now c.in_ok-binders.binders.items c.deref-2.ensures.value c.in_ok-binders.ensures.held, c.in_ok-lifted.ensures.held),
        ),
      ),
    )

pub expand-returns-in_err-given-clause-adds : goal.expand-returns-in_err-given-clause-adds
expand-returns-in_err-given-clause-adds t c =
    let types = c.args.types.now in
    typed_on types c.args.store.now c.lift_all.new.store c.give_names.new.store (typed_from types c.args.store.now c.lift_all.new.store c.in_ok-lifted.ensures.adds c.requires.store) c.in_err-given.ensures.adds

pub expand-spine-requires-clause-head : goal.expand-spine-requires-clause-head
expand-spine-requires-clause-head t c =
    subst (λ cells. HeadNames (length cells) c.in_ok-inner.inner) (sym (c.in_ok-given.ensures.adds.cells ∙ c.in_ok-lifted.ensures.adds.cells)) (c.in_ok-inner.ensures.held c.args.store.now c.requires.head)

pub expand-returns-in_err-body-clause-adds : goal.expand-returns-in_err-body-clause-adds
expand-returns-in_err-body-clause-adds t c =
    let types = c.args.types.now in
    let both = typed_on types c.args.store.now c.lift_all.new.store c.give_names.new.store (typed_from types c.args.store.now c.lift_all.new.store c.in_ok-lifted.ensures.adds c.requires.store) c.in_ok-given.ensures.adds in
    typed_more types c.args.store.now c.give_names.new.store c.spine.new.self both.before both.cells c.spine.ensures.before c.spine.ensures.cells
    (c.spine.ensures.typed types both.typed (c.in_ok-inner.ensures.typed types c.requires.typed))

pub expand-returns-clause-adds : goal.expand-returns-clause-adds
expand-returns-clause-adds t c =
    let types = c.args.types.now in
    let both = typed_on types c.args.store.now c.lift_all.new.store c.give_names.new.store (typed_from types c.args.store.now c.lift_all.new.store c.in_ok-lifted.ensures.adds c.requires.store) c.in_ok-given.ensures.adds in
    let body = typed_more types c.args.store.now c.give_names.new.store c.spine.new.self both.before both.cells c.spine.ensures.before c.spine.ensures.cells
    (c.spine.ensures.typed types both.typed (c.in_ok-inner.ensures.typed types c.requires.typed)) in
    typed_on types c.args.store.now c.spine.new.self c.put_under.new.store body (c.put_under.ensures.adds types body.typed c.in_ok-binders.ensures.held)

pub expand-returns-clause-reads : goal.expand-returns-clause-reads
expand-returns-clause-reads t c =
    let types = c.args.types.now in
    let binders = c.in_ok-binders.binders.items in
    let count : c.len-count.result ≡ length (map (type_of types) binders) = omega (arith, length-map binders (type_of types)) in
    if_ok c.put_under.result (λ r made.
    formed (codes "x") (type_of types c.args.ty) (map (type_of types) binders) (map (type_of types) c.deref-2.result.now)
    (head_reading types c.args.store.now c.args.head) (head_reading types c.give_names.new.store c.in_ok-inner.inner)
    (map (tree_of types c.args.store.now) c.args.args.items) (map (tree_of types c.lift_all.new.store) c.in_ok-lifted.lifted.items) (map (tree_of types c.give_names.new.store) c.in_ok-given.given.items)
    c.len-count.result (tree_of types c.spine.new.self c.in_ok-body.body) (tree_of types c.put_under.new.store r)
    c.in_ok-binders.ensures.reads (ap (map (type_of types)) c.deref-2.ensures.value) count
    (c.in_ok-inner.ensures.reads types c.give_names.new.store ∙ ap (λ cells. raise_head c.len-count.result 0 (head_in types cells c.args.head)) (c.in_ok-given.ensures.adds.cells ∙ c.in_ok-lifted.ensures.adds.cells))
    (c.in_ok-lifted.ensures.reads ∙ ap (map (λ t. raise c.len-count.result 0 (tree_of types c.args.store.now t))) c.deref.ensures.value ∙ sym (map_twice (raise c.len-count.result 0) (tree_of types c.args.store.now) c.args.args.items))
    c.in_ok-given.ensures.reads (c.in_ok-body.ensures.tree types) (made types)) c.put_under.ensures.reads

pub give_names-expand-requires : goal.give_names-expand-requires
give_names-expand-requires t c =
    let types = c.args.types.now in
    let i = c.loop-binder.binder-index in
    let within : size (type_of types (get_or c.args.binders.now i (record { 0 = 0 }))) ≤ most (map (type_of types) c.args.binders.now) = most_within (type_of types) c.args.binders.now i (record { 0 = 0 }) (omega arith) in (
      omega (arith, within, c.decreases),
      (c.requires.types, (c.loop-binder.invariant.adds.typed, (tt, (tt, (c.requires.binders i (record { 0 = 0 }) (omega arith), rw c.new.ensures.items (All-nil (Holds c.loop-binder.store))))))),
    )

pub give_names-returns-in_err-push-clause-adds : goal.give_names-returns-in_err-push-clause-adds
give_names-returns-in_err-push-clause-adds t c = typed_on c.args.types.now c.args.store.now c.loop-binder.store c.expand.new.store c.loop-binder.invariant.adds c.in_ok-expand.ensures.adds

pub give_names-loop-binder-preserved : goal.give_names-loop-binder-preserved
give_names-loop-binder-preserved t c =
    let types = c.args.types.now in
    let before = c.loop-binder.invariant in
    let made = c.in_ok-expand.ensures in
    let i = c.loop-binder.binder-index in
    let k = c.loop-binder.inside - 1 in
    let ty = get_or c.args.binders.now i (record { 0 = 0 }) in
    record {
      inside = omega (arith, before.inside);
      held = rw c.in_ok-push.ensures.items (All-push (Holds c.expand.new.store) c.loop-binder.given.items c.in_ok-expand.field-0 (adds_but_types types c.loop-binder.store c.expand.new.store made.adds c.loop-binder.given.items before.held).0 made.held);
      reads = one_name types c.loop-binder.store c.expand.new.store (codes "x") c.args.binders.now i k (record { 0 = 0 }) c.loop-binder.given.items c.push.new.self.items c.in_ok-expand.field-0 _
          (omega arith) (omega (arith, before.inside)) before.held made.adds.before c.in_ok-push.ensures.items
          (made.reads ∙ ap (λ l. expansion_of (codes "x") (type_of types ty) (index k) (terms_of (map (tree_of types c.loop-binder.store) l))) c.new.ensures.items) before.reads;
      adds = typed_on types c.args.store.now c.loop-binder.store c.expand.new.store before.adds made.adds;
    }
