use Rattle.std.proofs.Common.{List, ℕ, [], ◌∷◌, ◌++◌, get_or, ◌∙◌, ap, sym, arith}
use Rattle.std.specs.Prelude.{if◌then◌else◌}
use Rattle.ab_store.specs.declared.node.Head.TheVariants.{Const}
use Rattle.ab_print.specs.Places.{own_name}
use Rattle.ab_print.specs.BinderNames.{is_this}
use Rattle.ab_print.proofs.Placing.{places_next}
use Rattle.ab_print.proofs.places.own_places.Goals as goal

pub loop-place-preserved : goal.loop-place-preserved
loop-place-preserved c = λ x.
    c.in_ok-add_head.ensures x
    ∙ ap (λ (ps : List ℕ). ps ++ (if is_this x (own_name c.args.types.now c.args.store.now (get_or c.args.seen.now c.loop-place.place (record { head = Const (record { 0 = 0 }); binders = 0 }))) then (c.loop-place.place ∷ []) else [])) (c.loop-place.invariant x)
    ∙ sym (places_next (λ s. is_this x (own_name c.args.types.now c.args.store.now s)) c.args.seen.now c.loop-place.place (record { head = Const (record { 0 = 0 }); binders = 0 }) (omega arith))
