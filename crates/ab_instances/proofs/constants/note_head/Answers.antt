use Rattle.std.proofs.Common.{◌≡◌, ◌<◌, ◌≤◌, length, get_or, nat_lt, true, false, sym, ◌∙◌, ap, subst}
use Rattle.ab_term.specs.Names.{support_of_head}
use Rattle.ab_norm.specs.ab_store.specs.Trees.{head_in}
use Rattle.ab_norm.specs.declared.nominal.Nominal.{Nominal}
use Rattle.ab_norm.specs.Nominals.{nominal_of}
use Rattle.ab_unifiers.specs.Choices.{is_in}
use Rattle.ab_instances.specs.ListReadings.{names_read}
use Rattle.ab_instances.specs.ConstantOrder.{all_noted}
use Rattle.ab_instances.proofs.Noted.{inserted_read}
use Rattle.ab_instances.proofs.constants.note_head.Goals as goal

pub returns-in_ok-insert-clause-notes : goal.returns-in_ok-insert-clause-notes
returns-in_ok-insert-clause-notes c = λ cells.
    let types = c.args.types.now in
    let found = c.args.found.now.items in
    let d : Nominal = record { number = 0; ty = record { 0 = 0 } } in
    let a : Nominal = record { number = c.in-Nominal.number; ty = c.in-Nominal.ty } in
    let out = sym (c.is_in.ensures ∙ ap (λ l. is_in (names_read types l) (nominal_of types a)) c.deref.ensures.value) ∙ c.if-not-is_in.true in
    let slice = c.deref-then-not-is_in.ensures.value in
    let place = c.place_of-place.ensures in
    subst (λ h. names_read types c.insert.new.self.items ≡ all_noted (support_of_head (head_in types cells h)) (names_read types found)) (sym c.in-Nominal.is)
    (inserted_read types found c.insert.new.self.items c.place_of-place.result a d out (subst (λ l. c.place_of-place.result ≤ length l) slice place.within)
    (λ k h. subst (λ l. nat_lt a.number (get_or l k d).number ≡ false) slice (place.before k d h))
    (λ h. subst (λ l. nat_lt a.number (get_or l c.place_of-place.result d).number ≡ true) slice (place.after d (subst (λ l. c.place_of-place.result < length l) (sym slice) h)))
    c.in_ok-insert.ensures.items)
