use Rattle.std.proofs.Common.{◌≡◌, ℕ, ◌<◌, ◌≤◌, ◌+◌, ◌++◌, ◌∙◌, Option, List, [], ◌∷◌, ap, sym, subst, map, length, arith}
use Rattle.std.specs.List.{All, filter_map}
use Rattle.std.specs.Option.{option_to_list}
use Rattle.std.specs.declared.alloc.Global.{Global}
use Rattle.std.specs.declared.vec.Vec.{Vec}
use Rattle.std.proofs.lemmas.List.Elements.{All-same}
use Rattle.ab_term.specs.Terms.{terms_of, Read}
use Rattle.ab_term.specs.Substitution.{lower_head}
use Rattle.ab_store.specs.ab_types.specs.Ids.{type_of}
use Rattle.ab_store.specs.declared.node.TermId.{TermId}
use Rattle.ab_store.specs.Naming.{NodeIsTyped}
use Rattle.ab_store.specs.Trees.{tree_of, head_reading}
use Rattle.ab_print.specs.PrintedNames.{free_heads, free_heads_of_all}
use Rattle.ab_print.specs.declared.drawings.Seen.{Seen}
use Rattle.ab_print.specs.declared.drawings.Drawing.{Drawing}
use Rattle.ab_print.specs.Drawings.{term_of, Puts, IsSound, AreSound}
use Rattle.ab_print.proofs.Bounds.{ids_bound, bound_within}
use Rattle.ab_print.proofs.Cutting.{whole}
use Rattle.ab_print.proofs.Etas.{lam_reads, spine_reads, spine_names}
use Rattle.ab_print.proofs.Seeing.{marked_under, one_longer, part_there, body_there, puts_body, puts_head, puts_both}
use Rattle.ab_print.proofs.plain_terms.+drawn.Goals as goal

pub draw-draw_all-requires : goal.draw-draw_all-requires
draw-draw_all-requires t c =
    let names = spine_names _ _ c.view.result.now c.in-Spine.head c.in-Spine.args c.in-Spine.is c.view.ensures.earlier in
    let here : All (λ r. r.0 < c.args.id.0) c.as_slice.result.now = All-same (λ (r : TermId). r.0 < c.args.id.0) _ _ c.as_slice.ensures names.1 in
    let bound : ids_bound c.as_slice.result.now ≤ c.args.id.0 = bound_within c.args.id.0 _ here in
    (omega (arith, bound, c.decreases), (c.requires.typed, ((λ k d l. omega (arith, here k d l, c.requires.held)), ((λ k d l. omega (arith, here k d l, c.requires.room)), c.in_ok-mark-in-Spine.ensures.around ∙ c.requires.around))))

pub draw-returns-in_ok-new-in-Lam-clause-sound : goal.draw-returns-in_ok-new-in-Lam-clause-sound
draw-returns-in_ok-new-in-Lam-clause-sound t c = λ later start end low up.
    let is = c.in_ok-new-in-Lam.ensures.ok in
    let first : length c.args.seen.now.items ≡ c.len-start.result = sym c.args.seen.now.ok.0 ∙ sym c.len-start.ensures in
    let last : length c.draw.new.seen.items ≡ c.len-end.result = sym c.draw.new.seen.ok.0 ∙ sym c.len-end.ensures in
    let put = subst (λ (vs : List (Vec ℕ Global)). Puts c.args.types.now c.args.store.now (c.args.binders + 1) c.args.seen.now.items c.draw.new.seen.items vs c.draw.new.bound.items (free_heads (tree_of c.args.types.now c.args.store.now c.in-Lam.body)))
    c.in_ok-push-in-Lam.ensures.items c.in_ok-body-in-Lam.ensures.seen in
    let popped : c.draw.new.bound.items ≡ c.pop.new.self.items ++ c.unwrap-own.result ∷ [] = c.pop.ensures.items ∙ ap (λ (o : Option (Vec ℕ Global)). c.pop.new.self.items ++ option_to_list o) c.unwrap-own.ensures in (
      part_there c.args.types.now c.args.store.now c.args.binders c.args.seen.now.items c.draw.new.seen.items later c.args.bound.now.items c.draw.new.bound.items c.pop.new.self.items _ (free_heads (tree_of c.args.types.now c.args.store.now c.in-Lam.body)) start end
          (record { start = c.len-start.result; end = c.len-end.result; bound = c.unwrap-own.result }) c.requires.around c.new-empty.ensures.items popped put first last low up (omega (arith, c.draw.new.seen.small, c.draw.new.seen.ok)),
      body_there c.args.types.now c.args.store.now c.args.binders c.args.seen.now.items c.draw.new.seen.items later _ c.draw.new.bound.items (type_of c.args.types.now c.in-Lam.ty) c.in-Lam.hint (tree_of c.args.types.now c.args.store.now c.in-Lam.body) c.len-start.result c.len-end.result
          put first last
          ∙ ap (λ (w : Read). filter_map (lower_head 0) (free_heads w)) (sym c.in_ok-body-in-Lam.ensures.reads)
          ∙ ap (λ (d : Drawing). filter_map (lower_head 0) (free_heads (term_of c.args.types.now c.args.store.now d))) (sym is),
      subst (λ (d : Drawing). IsSound c.args.types.now c.args.store.now (c.draw.new.seen.items ++ later) (c.args.binders + 1) c.len-start.result c.len-end.result d) (sym is)
          (c.in_ok-body-in-Lam.ensures.sound later c.len-start.result c.len-end.result (omega (arith, first)) (omega (arith, last))),
    )

pub draw-returns-in_ok-new-in-Lam-clause-seen : goal.draw-returns-in_ok-new-in-Lam-clause-seen
draw-returns-in_ok-new-in-Lam-clause-seen t c =
    let put = subst (λ (vs : List (Vec ℕ Global)). Puts c.args.types.now c.args.store.now (c.args.binders + 1) c.args.seen.now.items c.draw.new.seen.items vs c.draw.new.bound.items (free_heads (tree_of c.args.types.now c.args.store.now c.in-Lam.body)))
    c.in_ok-push-in-Lam.ensures.items c.in_ok-body-in-Lam.ensures.seen in
    let popped : c.draw.new.bound.items ≡ c.pop.new.self.items ++ c.unwrap-own.result ∷ [] = c.pop.ensures.items ∙ ap (λ (o : Option (Vec ℕ Global)). c.pop.new.self.items ++ option_to_list o) c.unwrap-own.ensures in
    subst (λ (w : Read). Puts c.args.types.now c.args.store.now c.args.binders c.args.seen.now.items c.draw.new.seen.items c.args.bound.now.items c.pop.new.self.items (free_heads w))
    (sym (lam_reads c.args.types.now c.args.store.now c.args.id c.view.result.now c.in-Lam.ty c.in-Lam.hint c.in-Lam.body (c.view.ensures.tree c.args.types.now) c.in-Lam.is))
    (puts_body c.args.types.now c.args.store.now c.args.binders c.args.seen.now.items c.draw.new.seen.items c.args.bound.now.items c.draw.new.bound.items c.pop.new.self.items _ c.unwrap-own.result (type_of c.args.types.now c.in-Lam.ty) c.in-Lam.hint (tree_of c.args.types.now c.args.store.now c.in-Lam.body)
    c.requires.around popped put)

pub draw-returns-in_ok-new-in-Spine-clause-sound : goal.draw-returns-in_ok-new-in-Spine-clause-sound
draw-returns-in_ok-new-in-Spine-clause-sound t c = λ later start end low up.
    let names = spine_names _ _ c.view.result.now c.in-Spine.head c.in-Spine.args c.in-Spine.is c.view.ensures.earlier in (
      (names.0, subst (NodeIsTyped c.args.types.now) c.in-Spine.is (c.view.ensures.typed c.args.types.now c.requires.typed)),
      subst (AreSound c.args.types.now c.args.store.now (c.draw_all.new.seen.items ++ later) c.args.binders start end) (sym c.in_ok-new-in-Spine.ensures.ok)
          (c.in_ok-args-in-Spine.ensures.sound later start end (one_longer c.args.seen.now.items _ _ start c.in_ok-push-in-Spine.ensures.items low) up),
    )

pub draw-returns-in_ok-new-in-Spine-clause-seen : goal.draw-returns-in_ok-new-in-Spine-clause-seen
draw-returns-in_ok-new-in-Spine-clause-seen t c =
    let names = spine_names _ _ c.view.result.now c.in-Spine.head c.in-Spine.args c.in-Spine.is c.view.ensures.earlier in
    let place : c.len-place.result ≡ length c.args.seen.now.items = c.len-place.ensures ∙ c.args.seen.now.ok.0 in
    let one = puts_head c.args.types.now c.args.store.now c.args.binders c.args.seen.now.items c.args.bound.now.items c.mark.new.bound.items c.in-Spine.head
    (names.0, subst (NodeIsTyped c.args.types.now) c.in-Spine.is (c.view.ensures.typed c.args.types.now c.requires.typed)) (c.in_ok-mark-in-Spine.ensures.around ∙ c.requires.around)
    (marked_under c.args.bound.now.items c.mark.new.bound.items c.in-Spine.head c.args.binders c.len-place.result (length c.args.seen.now.items) c.requires.around place c.in_ok-mark-in-Spine.ensures.bound) in
    subst (λ (w : Read). Puts c.args.types.now c.args.store.now c.args.binders c.args.seen.now.items c.draw_all.new.seen.items c.args.bound.now.items c.draw_all.new.bound.items (free_heads w))
    (sym (spine_reads c.args.types.now c.args.store.now c.args.id c.view.result.now c.in-Spine.head c.in-Spine.args c.as_slice.result.now (c.view.ensures.tree c.args.types.now) c.in-Spine.is c.as_slice.ensures))
    (puts_both c.args.types.now c.args.store.now c.args.binders c.args.seen.now.items _ c.draw_all.new.seen.items c.args.bound.now.items c.mark.new.bound.items c.draw_all.new.bound.items (head_reading c.args.types.now c.args.store.now c.in-Spine.head ∷ [])
    (free_heads_of_all (terms_of (map (tree_of c.args.types.now c.args.store.now) c.as_slice.result.now)))
    (subst (λ (w : List Seen). Puts c.args.types.now c.args.store.now c.args.binders c.args.seen.now.items w c.args.bound.now.items c.mark.new.bound.items (head_reading c.args.types.now c.args.store.now c.in-Spine.head ∷ [])) (sym c.in_ok-push-in-Spine.ensures.items) one)
    c.in_ok-args-in-Spine.ensures.seen)

pub draw_all-returns-in_ok-new-in-len1-up-2-clause-seen : goal.draw_all-returns-in_ok-new-in-len1-up-2-clause-seen
draw_all-returns-in_ok-new-in-len1-up-2-clause-seen t c =
    subst (λ (w : List TermId). Puts c.args.types.now c.args.store.now c.args.binders c.args.seen.now.items c.draw_all.new.seen.items c.args.bound.now.items c.draw_all.new.bound.items (free_heads_of_all (terms_of (map (tree_of c.args.types.now c.args.store.now) w))))
    (sym (whole c.args.ids.now (record { 0 = 0 }) c.in-len1-up.len_at_least))
    (puts_both c.args.types.now c.args.store.now c.args.binders c.args.seen.now.items _ c.draw_all.new.seen.items c.args.bound.now.items c.draw.new.bound.items c.draw_all.new.bound.items _ _ c.in_ok-drawing-in-len1-up.ensures.seen c.in_ok-others-in-len1-up.ensures.seen)
