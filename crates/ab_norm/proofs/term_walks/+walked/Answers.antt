use Rattle.std.proofs.Common.{◌<◌, ◌≤◌, arith, ap, sym, ◌∙◌, get_or, subst, length}
use Rattle.std.specs.List.{All}
use Rattle.std.proofs.lemmas.List.Elements.{All-push, All-same, All-drop, All-weaker}
use Rattle.ab_store.specs.ab_types.specs.Ids.{type_of}
use Rattle.ab_store.specs.declared.node.TermId.{TermId}
use Rattle.ab_store.specs.Naming.{HeadNames, NodeIsTyped}
use Rattle.ab_store.specs.Trees.{Holds, tree_of}
use Rattle.ab_norm.specs.Changes.{changed, Fits, Suits}
use Rattle.ab_norm.specs.Nominals.{HoldsPairs}
use Rattle.ab_norm.specs.declared.term_walks.Change.TheVariants.{Raise, Put}
use Rattle.ab_norm.proofs.Bounds.{ids_bound, bound_within, below_bound, size, size_positive, rank}
use Rattle.ab_store.proofs.Growing.{extended_on}
use Rattle.ab_norm.proofs.Frame.{if_ok, adds_on, spine_names, lam_names}
use Rattle.ab_norm.proofs.Renamed.{read_more_before}
use Rattle.ab_norm.proofs.Substituted.{applied, rest_is}
use Rattle.ab_norm.proofs.Changed.{changed_on, changed_there, fits_on, remembers_on, remembers_more, remembers_none, adds_for_on, adds_terms, adds_for_lam, adds_for_spine, made_lam, made_spine, put_named, always_ok}
use Rattle.ab_norm.proofs.term_walks.+walked.Goals as goal

pub walk-returns-in-Some-clause-held : goal.walk-returns-in-Some-clause-held
walk-returns-in-Some-clause-held g t c = (c.requires.memo c.args.id c.in-Some.answer c.args.depth (sym c.answer.ensures ∙ c.in-Some.is)).1

pub walk-returns-in_ok-keep-in-None-clause-memo : goal.walk-returns-in_ok-keep-in-None-clause-memo
walk-returns-in_ok-keep-in-None-clause-memo g t c =
    let made = c.in_ok-made-in-None.ensures in
    remembers_more c.args.types.now c.remake.new.store c.args.change.now c.remake.new.memo c.keep.new.self c.args.id c.in_ok-made-in-None.made c.args.depth made.memo (made.adds.before.ids c.args.id c.requires.id) made.held
    (changed_there c.args.types.now c.args.store.now c.remake.new.store made.adds.before c.args.change.now c.args.depth c.args.id c.in_ok-made-in-None.made c.requires.fits c.requires.id made.reads) c.keep.ensures

pub remake-walk_all-requires : goal.remake-walk_all-requires
remake-walk_all-requires g t c = λ κs out.
    let names = spine_names _ _ c.view.result.now c.in-Spine.head c.in-Spine.args (sym c.in_ok-ty.ensures ∙ c.in-Spine.is) c.view.ensures.earlier in
    let here : All (λ r. r.0 < c.args.id.0) c.as_slice.result.now = All-same (λ (r : TermId). r.0 < c.args.id.0) _ _ c.as_slice.ensures names.1 in
    let bound : ids_bound c.as_slice.result.now ≤ c.args.id.0 = bound_within c.args.id.0 _ here in
    (omega (arith, bound, c.decreases), (out, (c.requires.types, (c.requires.store, (c.requires.fits, (c.requires.suits, (λ k d l. omega (arith, here k d l, c.requires.id), c.requires.memo)))))))

pub remake-walk_head-requires : goal.remake-walk_head-requires
remake-walk_head-requires g t c = λ κs out.
    let names = spine_names _ _ c.view.result.now c.in-Spine.head c.in-Spine.args (sym c.in_ok-ty.ensures ∙ c.in-Spine.is) c.view.ensures.earlier in
    let adds = c.in_ok-given-in-Spine.ensures.adds in
    let typed = adds.typed c.args.types.now c.requires.suits c.requires.store in
    let typed_node = subst (NodeIsTyped c.args.types.now) (sym c.in_ok-ty.ensures ∙ c.in-Spine.is) (c.view.ensures.typed c.args.types.now c.requires.store) in (omega (arith, c.decreases), (out, (c.requires.types, (typed, (fits_on c.args.types.now c.args.store.now c.walk_all.new.store adds.before c.args.change.now c.requires.fits, (c.requires.suits, (adds.before.ids c.args.id c.requires.id, (subst (λ cells. HeadNames (length cells) c.in-Spine.head) (sym adds.cells) names.0, (typed_node, c.in_ok-given-in-Spine.ensures.held)))))))))

pub remake-returns-in_ok-inner-in-Lam-clause-adds : goal.remake-returns-in_ok-inner-in-Lam-clause-adds
remake-returns-in_ok-inner-in-Lam-clause-adds g t c =
    adds_for_lam c.args.change.now c.args.store.now c.walk.new.store c.lam_again.new.store c.view.result.now c.view.ensures.typed c.in_ok-inner-in-Lam.ensures.adds c.lam_again.ensures.before c.lam_again.ensures.cells
    c.in-Lam.ty c.in-Lam.hint c.in-Lam.body (sym c.in_ok-ty.ensures ∙ c.in-Lam.is) c.lam_again.ensures.typed

pub remake-returns-in_ok-inner-in-Lam-clause-reads : goal.remake-returns-in_ok-inner-in-Lam-clause-reads
remake-returns-in_ok-inner-in-Lam-clause-reads g t c =
    if_ok c.lam_again.result (λ r made.
    made_lam c.args.types.now c.args.store.now c.walk.new.store c.lam_again.new.store c.args.change.now c.args.depth c.args.id r c.view.result.now (c.view.ensures.tree c.args.types.now)
    c.in_ok-below-in-Lam.below c.in-Lam.ty c.in-Lam.hint c.in-Lam.body c.in_ok-inner-in-Lam.inner (sym c.in_ok-ty.ensures ∙ c.in-Lam.is)
    (c.in_ok-below-in-Lam.ensures c.args.types.now c.args.store.now (tree_of c.args.types.now c.args.store.now c.in-Lam.body))
    c.in_ok-inner-in-Lam.ensures.reads (made c.args.types.now)) c.lam_again.ensures.reads

pub remake-returns-in_ok-inner-in-Lam-clause-memo : goal.remake-returns-in_ok-inner-in-Lam-clause-memo
remake-returns-in_ok-inner-in-Lam-clause-memo g t c =
    let adds = c.in_ok-inner-in-Lam.ensures.adds in
    always_ok c.lam_again.result (remembers_on c.args.types.now c.walk.new.store c.lam_again.new.store c.lam_again.ensures.before c.args.change.now c.walk.new.memo
    (fits_on c.args.types.now c.args.store.now c.walk.new.store adds.before c.args.change.now c.requires.fits) c.in_ok-inner-in-Lam.ensures.memo)

pub remake-returns-in_ok-given-in-Spine-clause-adds : goal.remake-returns-in_ok-given-in-Spine-clause-adds
remake-returns-in_ok-given-in-Spine-clause-adds g t c =
    adds_for_spine c.args.change.now c.args.store.now c.walk_all.new.store c.walk_head.new.store c.view.result.now c.view.ensures.typed c.in_ok-given-in-Spine.ensures.adds c.walk_head.ensures.before c.walk_head.ensures.cells
    c.in-Spine.head c.in-Spine.args (sym c.in_ok-ty.ensures ∙ c.in-Spine.is) c.walk_head.ensures.typed

pub remake-returns-in_ok-given-in-Spine-clause-reads : goal.remake-returns-in_ok-given-in-Spine-clause-reads
remake-returns-in_ok-given-in-Spine-clause-reads g t c =
    let adds = c.in_ok-given-in-Spine.ensures.adds in
    if_ok c.walk_head.result (λ r made.
    made_spine c.args.types.now c.args.store.now c.walk_all.new.store c.walk_head.new.store c.args.change.now c.args.depth c.args.id r c.view.result.now (c.view.ensures.tree c.args.types.now)
    c.in-Spine.head c.in-Spine.args c.as_slice.result.now c.in_ok-given-in-Spine.given.items (sym c.in_ok-ty.ensures ∙ c.in-Spine.is) adds.before adds.cells c.requires.fits c.as_slice.ensures
    c.in_ok-given-in-Spine.ensures.reads made) c.walk_head.ensures.reads

pub remake-returns-in_ok-given-in-Spine-clause-memo : goal.remake-returns-in_ok-given-in-Spine-clause-memo
remake-returns-in_ok-given-in-Spine-clause-memo g t c =
    let adds = c.in_ok-given-in-Spine.ensures.adds in
    always_ok c.walk_head.result (remembers_on c.args.types.now c.walk_all.new.store c.walk_head.new.store c.walk_head.ensures.before c.args.change.now c.walk_all.new.memo
    (fits_on c.args.types.now c.args.store.now c.walk_all.new.store adds.before c.args.change.now c.requires.fits) c.in_ok-given-in-Spine.ensures.memo)

pub walk_all-walk-requires : goal.walk_all-walk-requires
walk_all-walk-requires g t c = λ κs out.
    let below : (get_or c.args.ids.now c.loop-id.id-index (record { 0 = 0 })).0 < ids_bound c.args.ids.now = below_bound c.args.ids.now c.loop-id.id-index (record { 0 = 0 }) (omega arith) in
    let adds = c.loop-id.invariant.adds in
    (omega (arith, below, c.decreases), (out, (c.requires.types, (adds.typed c.args.types.now c.requires.suits c.requires.store, (fits_on c.args.types.now c.args.store.now c.loop-id.store adds.before c.args.change.now c.requires.fits, (c.requires.suits, (adds.before.ids _ (c.requires.ids c.loop-id.id-index (record { 0 = 0 }) (omega arith)), c.loop-id.invariant.memo)))))))

pub walk_all-returns-in_err-walk-clause-adds : goal.walk_all-returns-in_err-walk-clause-adds
walk_all-returns-in_err-walk-clause-adds g t c = adds_for_on c.args.change.now c.args.store.now c.loop-id.store c.walk.new.store c.loop-id.invariant.adds c.in_err-walk.ensures.adds

pub walk_all-returns-in_err-push-clause-adds : goal.walk_all-returns-in_err-push-clause-adds
walk_all-returns-in_err-push-clause-adds g t c = adds_for_on c.args.change.now c.args.store.now c.loop-id.store c.walk.new.store c.loop-id.invariant.adds c.in_ok-walk.ensures.adds

pub walk_all-loop-id-preserved : goal.walk_all-loop-id-preserved
walk_all-loop-id-preserved g t c =
    let before = c.loop-id.invariant in
    let made = c.in_ok-walk.ensures in
    record {
      adds = adds_for_on c.args.change.now c.args.store.now c.loop-id.store c.walk.new.store before.adds made.adds;
      held = rw c.in_ok-push.ensures.items (All-push (Holds c.walk.new.store) c.loop-id.made.items c.in_ok-walk.field-0 (All-weaker (Holds c.loop-id.store) (Holds c.walk.new.store) made.adds.before.ids c.loop-id.made.items before.held) made.held);
      reads = read_more_before c.args.types.now (changed c.args.types.now c.args.store.now c.args.change.now c.args.depth) c.args.store.now c.loop-id.store c.walk.new.store c.args.ids.now c.loop-id.made.items c.push.new.self.items c.loop-id.id-index (record { 0 = 0 }) c.in_ok-walk.field-0
          before.adds.before made.adds.before c.requires.ids before.held before.reads
          (made.reads ∙ changed_on c.args.types.now c.args.store.now c.loop-id.store before.adds.before c.args.change.now c.args.depth _ c.requires.fits) (omega arith) c.in_ok-push.ensures.items;
      memo = made.memo;
      steps = omega (arith, before.steps, made.steps);
    }

pub walk_head-spine_again-requires-clause-head : goal.walk_head-spine_again-requires-clause-head
walk_head-spine_again-requires-clause-head g t c = c.in_ok-raise_head-in-Raise.ensures.held c.args.store.now c.requires.head

pub walk_head-spine_again-requires-in-Rename-clause-head : goal.walk_head-spine_again-requires-in-Rename-clause-head
walk_head-spine_again-requires-in-Rename-clause-head g t c = c.rename_head.ensures.held c.args.store.now c.requires.head

pub walk_head-spine_again-requires-in-Some-clause-head : goal.walk_head-spine_again-requires-in-Some-clause-head
walk_head-spine_again-requires-in-Some-clause-head g t c = c.in-Some.ensures.held c.args.store.now c.requires.head

pub walk_head-lift-requires : goal.walk_head-lift-requires
walk_head-lift-requires g t c = λ κs out.
    let big = ap (rank c.args.types.now) c.in-Put.is in
    let fits = subst (Fits c.args.types.now c.args.store.now) c.in-Put.is c.requires.fits in
    (omega (arith, big, size_positive (type_of c.args.types.now c.in-Put.ty), c.decreases), (out, (c.requires.types, (c.requires.store, fits.1))))

pub lift-walk-requires : goal.lift-walk-requires
lift-walk-requires g t c = λ κs out.
    (omega (arith, c.decreases), (out, (c.requires.types, (c.requires.store, (tt, (tt, (c.requires.term, remembers_none c.args.types.now c.args.store.now (Raise c.args.by) c.new-memo.result c.new-memo.ensures)))))))

pub lift-returns-clause-adds : goal.lift-returns-clause-adds
lift-returns-clause-adds g t c = adds_terms (Raise c.args.by) c.args.store.now c.walk.new.store (λ types. tt) c.walk.ensures.adds

pub walk_head-returns-in_err-lifted-in-None-clause-typed : goal.walk_head-returns-in_err-lifted-in-None-clause-typed
walk_head-returns-in_err-lifted-in-None-clause-typed g t c = λ types suits d h. c.in_err-lifted-in-None.ensures.adds.typed types d

pub walk_head-reduce-requires : goal.walk_head-reduce-requires
walk_head-reduce-requires g t c = λ κs out.
    let big = ap (rank c.args.types.now) c.in-Put.is in
    let fits = subst (Fits c.args.types.now c.args.store.now) c.in-Put.is c.requires.fits in
    let adds = c.in_ok-lifted-in-None.ensures.adds in
    let held : All (Holds c.lift.new.store) c.deref.result.now = All-same (Holds c.lift.new.store) _ _ c.deref.ensures.value (All-weaker (Holds c.args.store.now) (Holds c.lift.new.store) adds.before.ids _ c.requires.args) in
    (omega (arith, big, c.decreases), (out, (c.requires.types, (adds.typed c.args.types.now c.requires.store, (fits.0, (c.in_ok-lifted-in-None.ensures.held, held))))))

pub walk_head-returns-in_ok-raise_head-in-Raise-clause-typed : goal.walk_head-returns-in_ok-raise_head-in-Raise-clause-typed
walk_head-returns-in_ok-raise_head-in-Raise-clause-typed g t c = λ types suits d h. c.spine_again.ensures.typed types d (c.in_ok-raise_head-in-Raise.ensures.typed types h)

pub walk_head-returns-in-Rename-clause-typed : goal.walk_head-returns-in-Rename-clause-typed
walk_head-returns-in-Rename-clause-typed g t c = λ types suits d h.
    let fit = subst (Suits types) c.in-Rename.is suits in
    c.spine_again-in-Rename.ensures.typed types d (c.rename_head.ensures.typed types fit.0 (subst (HoldsPairs types) (sym c.as_slice.ensures) fit.1) h)

pub walk_head-returns-in-Some-clause-typed : goal.walk_head-returns-in-Some-clause-typed
walk_head-returns-in-Some-clause-typed g t c = λ types suits d h. c.spine_again-in-Some.ensures.typed types d (c.in-Some.ensures.typed types h)

pub walk_head-returns-in_ok-lifted-in-None-clause-before : goal.walk_head-returns-in_ok-lifted-in-None-clause-before
walk_head-returns-in_ok-lifted-in-None-clause-before g t c = extended_on c.args.store.now c.lift.new.store c.reduce.new.store c.in_ok-lifted-in-None.ensures.adds.before c.reduce.ensures.adds.before

pub walk_head-returns-in_ok-lifted-in-None-clause-typed : goal.walk_head-returns-in_ok-lifted-in-None-clause-typed
walk_head-returns-in_ok-lifted-in-None-clause-typed g t c = λ types suits d h. c.reduce.ensures.adds.typed types (c.in_ok-lifted-in-None.ensures.adds.typed types d)

pub walk_head-returns-in_ok-lifted-in-None-clause-reads : goal.walk_head-returns-in_ok-lifted-in-None-clause-reads
walk_head-returns-in_ok-lifted-in-None-clause-reads g t c =
    let made = c.in_ok-lifted-in-None.ensures in
    if_ok c.reduce.result (λ r reduced.
    put_named c.args.types.now c.args.store.now c.lift.new.store c.reduce.new.store c.args.change.now c.args.depth c.in-Put.ty c.in-Put.term c.in_ok-lifted-in-None.lifted r c.args.head c.args.args.items c.deref.result.now
    c.in-Put.is made.adds.before c.requires.args c.deref.ensures.value (c.in-None.ensures.reads c.args.types.now c.args.store.now) made.reads reduced) c.reduce.ensures.reads

pub reduce-walk-requires : goal.reduce-walk-requires
reduce-walk-requires g t c = λ κs out.
    let smaller = ap size c.in-Arrow.ensures.reads in
    let inner = lam_names _ _ c.view-in-Arrow.result.now c.in-Lam.field-0 c.in-Lam.field-1 c.in-Lam.body c.in-Lam.is c.view-in-Arrow.ensures.earlier in
    (omega (arith, smaller, inner, c.decreases), (out, (c.requires.types, (c.requires.store, ((c.in-Arrow.ensures.held.0, c.requires.args 0 (record { 0 = 0 }) (omega arith)), (tt, (omega (arith, inner, c.requires.term), remembers_none c.args.types.now c.args.store.now (Put c.in-Arrow.from (get_or c.args.args.now 0 (record { 0 = 0 }))) c.new.result c.new.ensures)))))))

pub reduce-returns-in_err-applied-in-len1-up-clause-adds : goal.reduce-returns-in_err-applied-in-len1-up-clause-adds
reduce-returns-in_err-applied-in-len1-up-clause-adds g t c = adds_terms (Put c.in-Arrow.from (get_or c.args.args.now 0 (record { 0 = 0 }))) c.args.store.now c.walk.new.store (λ types. tt) c.in_err-applied-in-len1-up.ensures.adds

pub reduce-reduce-requires : goal.reduce-reduce-requires
reduce-reduce-requires g t c = λ κs out.
    let smaller = ap size c.in-Arrow.ensures.reads in
    let adds = c.in_ok-applied-in-len1-up.ensures.adds in (omega (arith, smaller, c.decreases), (out, (c.requires.types, (adds.typed c.args.types.now tt c.requires.store, (c.in-Arrow.ensures.held.1, (c.in_ok-applied-in-len1-up.ensures.held, All-same (Holds c.walk.new.store) _ _ (rest_is c.args.args.now) (All-weaker (Holds c.args.store.now) (Holds c.walk.new.store) adds.before.ids _ (All-drop (Holds c.args.store.now) 1 c.args.args.now c.requires.args))))))))

pub reduce-returns-in_ok-applied-in-len1-up-clause-adds : goal.reduce-returns-in_ok-applied-in-len1-up-clause-adds
reduce-returns-in_ok-applied-in-len1-up-clause-adds g t c =
    adds_on c.args.store.now c.walk.new.store c.reduce.new.store (adds_terms (Put c.in-Arrow.from (get_or c.args.args.now 0 (record { 0 = 0 }))) c.args.store.now c.walk.new.store (λ types. tt) c.in_ok-applied-in-len1-up.ensures.adds) c.reduce.ensures.adds

pub reduce-returns-in_ok-applied-in-len1-up-clause-reads : goal.reduce-returns-in_ok-applied-in-len1-up-clause-reads
reduce-returns-in_ok-applied-in-len1-up-clause-reads g t c =
    if_ok c.reduce.result (λ r made.
    applied c.args.types.now c.args.store.now c.walk.new.store c.reduce.new.store c.args.ty c.in-Arrow.from c.in-Arrow.to c.args.term c.in_ok-applied-in-len1-up.applied r
    c.view-in-Arrow.result.now c.in-Lam.field-0 c.in-Lam.field-1 c.in-Lam.body (record { 0 = 0 }) c.args.args.now _
    (adds_terms (Put c.in-Arrow.from (get_or c.args.args.now 0 (record { 0 = 0 }))) c.args.store.now c.walk.new.store (λ types. tt) c.in_ok-applied-in-len1-up.ensures.adds) c.requires.args c.in-Arrow.ensures.reads (c.view-in-Arrow.ensures.tree c.args.types.now) c.in-Lam.is (omega arith) (rest_is c.args.args.now)
    c.in_ok-applied-in-len1-up.ensures.reads made) c.reduce.ensures.reads
