use Rattle.std.specs.List.{All}
use Rattle.std.proofs.Common.{[], ◌∷◌, ◌++◌, take, take_all, sym, ◌∙◌, ap, subst}
use Rattle.ab_norm.specs.ab_types.specs.Ids.{type_of}
use Rattle.ab_norm.specs.Nominals.{HoldsNominal}
use Rattle.ab_unifiers.specs.Choices.{of_type, new_constant}
use Rattle.ab_alternatives.specs.ab_instances.specs.ListReadings.{names_read}
use Rattle.ab_uses.proofs.Branches.{joined, joined_more, joined_held, candidates_are}
use Rattle.ab_uses.proofs.begun_choices.candidates.Goals as goal

pub loop-names-preserved : goal.loop-names-preserved
loop-names-preserved c =
    let items = c.as_slice-names-items.result.now in
    let i = c.loop-names.names-index in
    c.in_ok-extend_from_slice.ensures.items
    ∙ ap (λ l. l ++ c.as_slice.result.now) c.loop-names.invariant
    ∙ ap (λ ns. joined (take i items) ++ ns) (c.as_slice.ensures ∙ c.names-item.is)
    ∙ sym (joined_more items i c.names-item.result c.loop-names-test.true)

pub returns-clause-list : goal.returns-clause-list
returns-clause-list c =
    let T = c.args.types.now in
    let items = c.as_slice-names-items.result.now in
    ap (names_read T) (c.loop-names.invariant ∙ ap joined (take_all c.loop-names.names-index items c.loop-names-test.false ∙ c.as_slice-names-items.ensures))
    ∙ candidates_are T (type_of T c.args.ty) (names_read T c.deref.result.now) (names_read T c.deref-2.result.now) c.in_ok-single.single c.in_ok-single.ensures.list
    ∙ ap (λ free. of_type (type_of T c.args.ty) (names_read T free) ++ new_constant (names_read T c.deref-2.result.now) (type_of T c.args.ty) ∷ []) c.deref.ensures.value
    ∙ ap (λ held. of_type (type_of T c.args.ty) (names_read T c.args.begun.now.free.items) ++ new_constant (names_read T held) (type_of T c.args.ty) ∷ []) c.deref-2.ensures.value

pub returns-clause-held : goal.returns-clause-held
returns-clause-held c =
    let T = c.args.types.now in
    let items = c.as_slice-names-items.result.now in
    subst (All (HoldsNominal T)) (sym (c.loop-names.invariant ∙ ap joined (take_all c.loop-names.names-index items c.loop-names-test.false ∙ c.as_slice-names-items.ensures)))
    (joined_held (HoldsNominal T) c.in_ok-single.single c.in_ok-single.ensures.held)
