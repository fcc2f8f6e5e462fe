use Rattle.std.proofs.Common.{◌<◌, ◌≤◌, arith, sym, ◌∙◌, ap, subst, get_or, map}
use Rattle.std.specs.List.{All}
use Rattle.std.proofs.lemmas.List.Elements.{All-push, All-same}
use Rattle.ab_norm.specs.ab_store.specs.declared.node.TermId.{TermId}
use Rattle.ab_norm.specs.ab_store.specs.Trees.{Holds, tree_of, head_reading}
use Rattle.ab_norm.specs.ab_store.specs.Naming.{NodeIsTyped}
use Rattle.ab_norm.proofs.Bounds.{ids_bound, bound_within, below_bound}
use Rattle.ab_norm.proofs.Changed.{always_ok}
use Rattle.ab_norm.proofs.Frame.{adds_on, still_held, read_more, if_ok, adds_lam, adds_spine, spine_names, still_held_head}
use Rattle.ab_patterns.specs.Abstraction.{close_names, IsClosing}
use Rattle.ab_patterns.proofs.Closed.{closed_lam, closed_spine, names_on}
use Rattle.ab_patterns.proofs.ToldApart.{all_told_on, all_told_here}
use Rattle.ab_patterns.proofs.Closings.{keeps_on, remembers_on, one_more, closing_here}
use Rattle.ab_patterns.proofs.abstraction.+closed.Goals as goal

pub close_at-returns-in-Some-clause-held : goal.close_at-returns-in-Some-clause-held
close_at-returns-in-Some-clause-held t c = (c.requires.memo c.args.term c.in-Some.answer c.args.at (sym c.answer.ensures ∙ c.in-Some.is)).1

pub close_at-returns-in-Some-clause-reads : goal.close_at-returns-in-Some-clause-reads
close_at-returns-in-Some-clause-reads t c = λ types told was. was c.args.term c.in-Some.answer c.args.at (sym c.answer.ensures ∙ c.in-Some.is)

pub close_at-returns-in_ok-keep-in-None-clause-kept : goal.close_at-returns-in_ok-keep-in-None-clause-kept
close_at-returns-in_ok-keep-in-None-clause-kept t c =
    let made = c.in_ok-made-in-None.ensures in
    one_more (λ u k q. Holds c.close_node.new.store u × Holds c.close_node.new.store q) c.close_node.new.memo c.keep.new.self c.args.term c.args.at c.in_ok-made-in-None.made made.kept
    (made.adds.before.ids c.args.term c.requires.term, made.held) c.keep.ensures

pub close_at-returns-in_ok-keep-in-None-clause-memo : goal.close_at-returns-in_ok-keep-in-None-clause-memo
close_at-returns-in_ok-keep-in-None-clause-memo t c = λ types told was.
    let made = c.in_ok-made-in-None.ensures in
    one_more (λ u k q. IsClosing types c.close_node.new.store c.args.names.now u k q) c.close_node.new.memo c.keep.new.self c.args.term c.args.at c.in_ok-made-in-None.made (made.memo types told was)
    (closing_here types c.args.store.now c.close_node.new.store c.args.names.now c.args.term c.args.at c.in_ok-made-in-None.made made.adds c.requires.term (made.reads types told was)) c.keep.ensures

pub close_node-close_all-requires : goal.close_node-close_all-requires
close_node-close_all-requires t c =
    let names = spine_names _ _ c.view.result.now c.in-Spine.head c.in-Spine.args (sym c.in_ok-ty.ensures ∙ c.in-Spine.is) c.view.ensures.earlier in
    let here : All (λ r. r.0 < c.args.term.0) c.as_slice.result.now = All-same (λ (r : TermId). r.0 < c.args.term.0) _ _ c.as_slice.ensures names.1 in
    let bound : ids_bound c.as_slice.result.now ≤ c.args.term.0 = bound_within c.args.term.0 _ here in
    (omega (arith, bound, c.decreases), (λ k d l. omega (arith, here k d l, c.requires.term), c.requires.memo))

pub close_node-spine-requires-clause-head : goal.close_node-spine-requires-clause-head
close_node-spine-requires-clause-head t c =
    let names = spine_names _ _ c.view.result.now c.in-Spine.head c.in-Spine.args (sym c.in_ok-ty.ensures ∙ c.in-Spine.is) c.view.ensures.earlier in
    c.in_ok-close_head-in-Spine.ensures.held c.close_all.new.store (still_held_head c.args.store.now c.close_all.new.store c.in-Spine.head c.in_ok-closed-in-Spine.ensures.adds names.0)

pub close_node-returns-in_ok-closed-in-Lam-clause-adds :
    goal.close_node-returns-in_ok-closed-in-Lam-clause-adds
close_node-returns-in_ok-closed-in-Lam-clause-adds t c =
    adds_lam c.args.store.now c.close_at.new.store c.lam.new.self c.view.result.now c.view.ensures.typed c.in_ok-closed-in-Lam.ensures.adds c.lam.ensures.before c.lam.ensures.cells
    c.in-Lam.ty c.in-Lam.hint c.in-Lam.body (sym c.in_ok-ty.ensures ∙ c.in-Lam.is) c.lam.ensures.typed

pub close_node-returns-in_ok-closed-in-Lam-clause-kept :
    goal.close_node-returns-in_ok-closed-in-Lam-clause-kept
close_node-returns-in_ok-closed-in-Lam-clause-kept t c =
    always_ok c.lam.result (keeps_on c.close_at.new.store c.lam.new.self c.close_at.new.memo c.lam.ensures.before c.in_ok-closed-in-Lam.ensures.kept)

pub close_node-returns-in_ok-closed-in-Lam-clause-reads :
    goal.close_node-returns-in_ok-closed-in-Lam-clause-reads
close_node-returns-in_ok-closed-in-Lam-clause-reads t c =
    if_ok c.lam.result (λ r made types told was.
    closed_lam types c.args.store.now c.close_at.new.store c.lam.new.self c.args.term r c.view.result.now (c.view.ensures.tree types) c.args.at c.args.names.now
    c.in_ok-next-in-Lam.field-0 c.in-Lam.ty c.in-Lam.hint c.in-Lam.body c.in_ok-closed-in-Lam.closed (sym c.in_ok-ty.ensures ∙ c.in-Lam.is) c.in_ok-next-in-Lam.ensures
    (c.in_ok-closed-in-Lam.ensures.reads types told was) (made types)) c.lam.ensures.tree

pub close_node-returns-in_ok-closed-in-Lam-clause-memo :
    goal.close_node-returns-in_ok-closed-in-Lam-clause-memo
close_node-returns-in_ok-closed-in-Lam-clause-memo t c =
    let closed = c.in_ok-closed-in-Lam.ensures in
    always_ok c.lam.result (λ types told was.
    remembers_on types c.close_at.new.store c.lam.new.self c.args.names.now c.close_at.new.memo c.lam.ensures.before c.lam.ensures.cells closed.kept (closed.memo types told was))

pub close_node-returns-in_ok-close_head-in-Spine-clause-adds : goal.close_node-returns-in_ok-close_head-in-Spine-clause-adds
close_node-returns-in_ok-close_head-in-Spine-clause-adds t c =
    adds_spine c.args.store.now c.close_all.new.store c.spine.new.self c.view.result.now c.view.ensures.typed c.in_ok-closed-in-Spine.ensures.adds c.spine.ensures.before c.spine.ensures.cells
    c.in-Spine.head c.in_ok-close_head-in-Spine.field-0 c.in-Spine.args (sym c.in_ok-ty.ensures ∙ c.in-Spine.is) c.in_ok-close_head-in-Spine.ensures.typed c.spine.ensures.typed

pub close_node-returns-in_ok-close_head-in-Spine-clause-kept : goal.close_node-returns-in_ok-close_head-in-Spine-clause-kept
close_node-returns-in_ok-close_head-in-Spine-clause-kept t c =
    always_ok c.spine.result (keeps_on c.close_all.new.store c.spine.new.self c.close_all.new.memo c.spine.ensures.before c.in_ok-closed-in-Spine.ensures.kept)

pub close_node-returns-in_ok-close_head-in-Spine-clause-reads : goal.close_node-returns-in_ok-close_head-in-Spine-clause-reads
close_node-returns-in_ok-close_head-in-Spine-clause-reads t c =
    if_ok c.spine.result (λ r made types told was.
    closed_spine types c.args.store.now c.close_all.new.store c.spine.new.self c.args.term r c.view.result.now (c.view.ensures.tree types) c.args.at c.args.names.now
    c.in-Spine.head c.in_ok-close_head-in-Spine.field-0 c.in-Spine.args c.as_slice.result.now c.in_ok-closed-in-Spine.closed.items (sym c.in_ok-ty.ensures ∙ c.in-Spine.is)
    c.in_ok-closed-in-Spine.ensures.adds.cells c.as_slice.ensures
    (c.in_ok-close_head-in-Spine.ensures.reads types c.close_all.new.store
    (all_told_here types c.args.store.now c.args.names.now c.in-Spine.head told (λ typed. subst (NodeIsTyped types) (sym c.in_ok-ty.ensures ∙ c.in-Spine.is) (c.view.ensures.typed types typed))))
    (c.in_ok-closed-in-Spine.ensures.reads types told was) (made types)) c.spine.ensures.tree

pub close_node-returns-in_ok-close_head-in-Spine-clause-memo : goal.close_node-returns-in_ok-close_head-in-Spine-clause-memo
close_node-returns-in_ok-close_head-in-Spine-clause-memo t c =
    let closed = c.in_ok-closed-in-Spine.ensures in
    always_ok c.spine.result (λ types told was.
    remembers_on types c.close_all.new.store c.spine.new.self c.args.names.now c.close_all.new.memo c.spine.ensures.before c.spine.ensures.cells closed.kept (closed.memo types told was))

pub close_all-close_at-requires : goal.close_all-close_at-requires
close_all-close_at-requires t c =
    let below : (get_or c.args.terms.now c.loop-term.term-index (record { 0 = 0 })).0 < ids_bound c.args.terms.now = below_bound c.args.terms.now c.loop-term.term-index (record { 0 = 0 }) (omega arith) in
    (omega (arith, below, c.decreases), (c.loop-term.invariant.adds.before.ids _ (c.requires.terms c.loop-term.term-index (record { 0 = 0 }) (omega arith)), c.loop-term.invariant.kept))

pub close_all-returns-in_err-close_at-clause-adds : goal.close_all-returns-in_err-close_at-clause-adds
close_all-returns-in_err-close_at-clause-adds t c = adds_on c.args.store.now c.loop-term.store c.close_at.new.store c.loop-term.invariant.adds c.in_err-close_at.ensures.adds

pub close_all-returns-in_err-push-clause-adds : goal.close_all-returns-in_err-push-clause-adds
close_all-returns-in_err-push-clause-adds t c = adds_on c.args.store.now c.loop-term.store c.close_at.new.store c.loop-term.invariant.adds c.in_ok-close_at.ensures.adds

pub close_all-loop-term-preserved : goal.close_all-loop-term-preserved
close_all-loop-term-preserved t c =
    let here = c.loop-term.invariant in
    let made = c.in_ok-close_at.ensures in
    record {
      adds = adds_on c.args.store.now c.loop-term.store c.close_at.new.store here.adds made.adds;
      held = rw c.in_ok-push.ensures.items (All-push (Holds c.close_at.new.store) c.loop-term.closed.items c.in_ok-close_at.field-0 (still_held c.loop-term.store c.close_at.new.store c.loop-term.closed.items made.adds here.held) made.held);
      kept = made.kept;
      reads = λ types told was. read_more types (close_names c.args.at (map (head_reading types c.args.store.now) c.args.names.now)) c.args.store.now c.loop-term.store c.close_at.new.store c.args.terms.now c.loop-term.closed.items c.push.new.self.items c.loop-term.term-index (record { 0 = 0 }) c.in_ok-close_at.field-0
          here.adds made.adds c.requires.terms here.held (here.reads types told was)
          (made.reads types (all_told_on types c.args.store.now c.loop-term.store c.args.names.now here.adds told) (here.memo types told was)
          ∙ ap (λ hs. close_names c.args.at hs (tree_of types c.loop-term.store (get_or c.args.terms.now c.loop-term.term-index (record { 0 = 0 })))) (names_on types c.args.store.now c.loop-term.store c.args.names.now here.adds.cells))
          (omega arith) c.in_ok-push.ensures.items;
      memo = λ types told was. made.memo types (all_told_on types c.args.store.now c.loop-term.store c.args.names.now here.adds told) (here.memo types told was);
    }
