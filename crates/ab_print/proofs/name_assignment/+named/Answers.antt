use Rattle.std.proofs.Common.{◌≡◌, ℕ, List, ◌+◌, ◌++◌, ◌∷◌, [], length, rules, ◌∙◌, ap, sym, subst, length-append}
use Rattle.std.specs.Prelude.{slice_range}
use Rattle.std.specs.List.{filter_map}
use Rattle.std.specs.declared.alloc.Global.{Global}
use Rattle.std.specs.declared.vec.Vec.{Vec}
use Rattle.ab_term.specs.Terms.{lam}
use Rattle.ab_store.specs.ab_types.specs.Ids.{type_of}
use Rattle.ab_print.specs.PrintedNames.{fresh}
use Rattle.ab_print.specs.NameAssignment as plain
use Rattle.ab_print.specs.Values.{shape_of}
use Rattle.ab_print.specs.declared.drawings.Drawing.{Drawing}
use Rattle.ab_print.specs.declared.drawings.Drawings.{the_lemmas}
use Rattle.ab_print.specs.Drawings.{term_of, IsSound}
use Rattle.ab_print.specs.Places.{IsPut}
use Rattle.ab_print.specs.BinderNames.{names_in, name_from}
use Rattle.ab_print.specs.GoalText.{cell_name}
use Rattle.ab_print.specs.NameUses.{IsTold}
use Rattle.ab_print.proofs.Scoped.{lam_named, chosen_is}
use Rattle.ab_print.proofs.Telling.{told_under, chosen_in_part, chosen_has_no_place}
use Rattle.ab_print.proofs.name_assignment.+named.Goals as goal

pub name-name-requires : goal.name-name-requires
name-name-requires t c =
    let r = c.requires.ready in
    let s = subst (IsSound c.args.types.now c.args.store.now r.seen (length c.args.names.now.items) r.start r.end) c.in-Lam.is r.sound in
    let put : IsPut c.in_ok-chosen-in-Lam.chosen.items c.in-Lam.part.bound.items c.args.places.now c.enter.new.places =
    subst (λ (ps : List ℕ). IsPut c.in_ok-chosen-in-Lam.chosen.items ps c.args.places.now c.enter.new.places) c.deref-in-Lam.ensures.value
    (subst (λ (y : List ℕ). IsPut y c.deref-in-Lam.result.now c.args.places.now c.enter.new.places) c.deref.ensures.value c.in_ok-outer-in-Lam.ensures.put) in
    let free = chosen_has_no_place c.args.types.now c.args.store.now c.args.places.now c.args.names.now.items r.seen r.start r.end c.in-Lam.part c.as_bytes.result.now c.in_ok-chosen-in-Lam.chosen.items r.told s.0 c.in_ok-chosen-in-Lam.ensures in
    let deeper : length c.push.new.self.items ≡ length c.args.names.now.items + 1 = ap length c.in_ok-push-in-Lam.ensures.items ∙ length-append c.args.names.now.items (c.in_ok-from_slice-in-Lam.field-0 ∷ []) in (
      search (rules, the_lemmas),
      record {
        seen = r.seen;
        start = c.in-Lam.part.start;
        end = c.in-Lam.part.end;
        sound = subst (λ (d : Drawing). IsSound c.args.types.now c.args.store.now r.seen (length c.push.new.self.items) c.in-Lam.part.start c.in-Lam.part.end d) (sym c.deref-in-Lam-3.ensures)
            (subst (λ (n : ℕ). IsSound c.args.types.now c.args.store.now r.seen n c.in-Lam.part.start c.in-Lam.part.end c.in-Lam.body.value) (sym deeper) s.2);
        told = subst (λ (vs : List (Vec ℕ Global)). IsTold c.args.types.now c.args.store.now vs c.enter.new.places r.seen c.in-Lam.part.start c.in-Lam.part.end) (sym c.in_ok-push-in-Lam.ensures.items)
            (told_under c.args.types.now c.args.store.now c.args.places.now c.enter.new.places c.args.names.now.items c.in_ok-from_slice-in-Lam.field-0 c.in_ok-chosen-in-Lam.chosen.items r.seen r.start r.end c.in-Lam.part
            (c.in_ok-from_slice-in-Lam.ensures.items ∙ c.deref-in-Lam-2.ensures.value) r.told s.0 put free);
      },
    )

pub name-returns-in_ok-new-in-Lam-clause-shape : goal.name-returns-in_ok-new-in-Lam-clause-shape
name-returns-in_ok-new-in-Lam-clause-shape t c =
    let r = c.requires.ready in
    let s = subst (IsSound c.args.types.now c.args.store.now r.seen (length c.args.names.now.items) r.start r.end) c.in-Lam.is r.sound in
    let reads : term_of c.args.types.now c.args.store.now c.args.drawing.now ≡ lam (type_of c.args.types.now c.in-Lam.field-0) c.in-Lam.hint (term_of c.args.types.now c.args.store.now c.in-Lam.body.value) = ap (term_of c.args.types.now c.args.store.now) c.in-Lam.is in
    let text : c.as_bytes.result.now ≡ c.in-Lam.hint = c.as_bytes.ensures.value ∙ c.as_str.ensures in
    let copied : c.in_ok-from_slice-in-Lam.field-0.items ≡ c.in_ok-chosen-in-Lam.chosen.items = c.in_ok-from_slice-in-Lam.ensures.items ∙ c.deref-in-Lam-2.ensures.value in
    let body : shape_of c.in_ok-new-in-Lam.field-0.value ≡ plain.named (cell_name c.args.store.now) (names_in (c.args.names.now.items ++ c.in_ok-from_slice-in-Lam.field-0 ∷ [])) (term_of c.args.types.now c.args.store.now c.in-Lam.body.value) = search rules in
    let first = chosen_in_part c.args.types.now c.args.store.now c.args.places.now c.args.names.now.items r.seen r.start r.end c.in-Lam.part c.as_bytes.result.now c.in_ok-chosen-in-Lam.chosen.items r.told s.0 c.in_ok-chosen-in-Lam.ensures in
    lam_named (cell_name c.args.store.now) c.args.names.now.items c.in_ok-from_slice-in-Lam.field-0 (type_of c.args.types.now c.in-Lam.field-0) c.in-Lam.hint (term_of c.args.types.now c.args.store.now c.in-Lam.body.value)
    c.in_ok-chosen-in-Lam.chosen.items (shape_of c.in_ok-new-in-Lam.field-0.value)
    (chosen_is c.args.types.now c.args.store.now c.args.names.now.items (type_of c.args.types.now c.in-Lam.field-0) c.in-Lam.hint (term_of c.args.types.now c.args.store.now c.in-Lam.body.value) (slice_range r.seen c.in-Lam.part.start c.in-Lam.part.end)
    c.in_ok-chosen-in-Lam.chosen.items (first ∙ ap (fresh (filter_map (name_from c.args.types.now c.args.store.now (names_in c.args.names.now.items)) (slice_range r.seen c.in-Lam.part.start c.in-Lam.part.end))) text) s.1)
    copied body
    ∙ ap (plain.named (cell_name c.args.store.now) (names_in c.args.names.now.items)) (sym reads)
