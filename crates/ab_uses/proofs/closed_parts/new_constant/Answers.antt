use Rattle.std.proofs.Common.{sym, ap, ◌∙◌, subst, map}
use Rattle.std.specs.List.{All}
use Rattle.std.specs.Option.{option_copied}
use Rattle.std.specs.Prelude.{slice_get}
use Rattle.ab_norm.specs.ab_types.specs.Ids.{type_of}
use Rattle.ab_norm.specs.Nominals.{HoldsNominal}
use Rattle.ab_alternatives.specs.ab_instances.specs.ListReadings.{names_read}
use Rattle.ab_uses.proofs.Filling.{first_holds, some_choice, some_constant, is_new}
use Rattle.ab_uses.proofs.closed_parts.new_constant.Goals as goal

pub unreachable-requires : goal.unreachable-requires
unreachable-requires c =
    let T = c.args.types.now in
    some_choice T (type_of T c.args.ty) (names_read T c.args.known.now) c.as_slice.result.now (ap (map (names_read T)) c.as_slice.ensures ∙ c.in_ok-list.ensures.list)
    (sym c.first.ensures.value ∙ ap option_copied c.in_default.is)

pub unreachable-requires-in_default-first : goal.unreachable-requires-in_default-first
unreachable-requires-in_default-first c =
    let T = c.args.types.now in
    some_constant T (type_of T c.args.ty) (names_read T c.args.known.now) c.as_slice.result.now (ap (map (names_read T)) c.as_slice.ensures ∙ c.in_ok-list.ensures.list)
    c.in-Some.names.now (sym c.first.ensures.value ∙ ap option_copied c.in-Some.is)
    (ap (λ l. slice_get l 0) (sym c.as_slice-2.ensures) ∙ sym c.first-2.ensures.value ∙ ap option_copied c.in_default-first.is)

pub returns-clause-held : goal.returns-clause-held
returns-clause-held c =
    let P = HoldsNominal c.args.types.now in
    first_holds P c.in-Some.names.now c.in-Some-first.constant.now (ap (λ l. slice_get l 0) (sym c.as_slice-2.ensures) ∙ sym c.first-2.ensures.value ∙ ap option_copied c.in-Some-first.is)
    (first_holds (All P) c.as_slice.result.now c.in-Some.names.now (sym c.first.ensures.value ∙ ap option_copied c.in-Some.is) (subst (All (All P)) (sym c.as_slice.ensures) c.in_ok-list.ensures.held))

pub returns-clause-new : goal.returns-clause-new
returns-clause-new c =
    let T = c.args.types.now in
    is_new T (type_of T c.args.ty) (names_read T c.args.known.now) c.as_slice.result.now (ap (map (names_read T)) c.as_slice.ensures ∙ c.in_ok-list.ensures.list)
    c.in-Some.names.now c.in-Some-first.constant.now (sym c.first.ensures.value ∙ ap option_copied c.in-Some.is)
    (ap (λ l. slice_get l 0) (sym c.as_slice-2.ensures) ∙ sym c.first-2.ensures.value ∙ ap option_copied c.in-Some-first.is)
