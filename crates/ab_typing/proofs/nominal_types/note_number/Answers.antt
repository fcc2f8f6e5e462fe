use Rattle.std.proofs.Common.{◌↔◌, ◌≡◌, true, sym, ◌∙◌, ap, refl}
use Rattle.std.proofs.lemmas.Bool.Decides.{Decides-eqb}
use Rattle.ab_store.specs.ab_types.specs.declared.ids.TypeId.{TypeId}
use Rattle.ab_typing.proofs.Sets.{another_number}
use Rattle.ab_typing.proofs.Noted.{number_known, number_new}
use Rattle.ab_typing.proofs.nominal_types.note_number.Goals as goal

pub returns-in-Some : goal.returns-in-Some
returns-in-Some c =
    let decides = Decides-eqb c.in-Some.other.now.0 c.args.ty.0 in
    let same : (c.eq.result ≡ true) ↔ (c.in-Some.other.now ≡ c.args.ty) = (λ e. ap (λ n. record { 0 = n }) (decides.0 (sym c.eq.ensures ∙ e)), λ p. c.eq.ensures ∙ decides.1 (ap (λ (x : TypeId). x.0) p)) in
    number_known c.args.types.now c.args.store.now c.len.ensures.table c.args.known.now c.args.number c.args.ty c.in-Some.other.now c.eq.result c.requires.known c.requires.ty (sym c.in-Some.ensures.value) same

pub returns : goal.returns
returns c =
    number_new c.args.types.now c.args.store.now c.args.known.now (record { types = c.insert.new.self; seen = c.args.known.now.seen }) c.args.number c.args.ty c.requires.known c.requires.ty
    (sym c.in_default.ensures.value) c.in_ok-insert.ensures.updates.1 (λ q differ. c.in_ok-insert.ensures.updates.2 q (another_number c.args.number q differ)) refl
