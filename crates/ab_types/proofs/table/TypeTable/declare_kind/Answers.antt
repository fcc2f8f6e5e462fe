use Rattle.std.proofs.Common.{◌∙◌, sym, refl, subst, Contains}
use Rattle.ab_types.proofs.Members.{name_in, name_not_in}
use Rattle.ab_types.proofs.Kept.{kinds_are}
use Rattle.ab_types.proofs.Grown.{adds_kind, AddsKind}
use Rattle.ab_types.proofs.Refusals.{memory_no_clash, ok_no_clash}
use Rattle.ab_types.proofs.table.TypeTable.declare_kind.Goals as goal

pub returns-then-contains-clause-clash : goal.returns-then-contains-clause-clash
returns-then-contains-clause-clash c =
    let there : Contains c.self.inside.kinds.keys c.args.name = name_in c.self.inside.kinds.keys c.args.name (sym c.contains.ensures ∙ c.if-contains.true) in (
      λ _. subst (λ ks. Contains ks c.args.name) (sym (kinds_are c.self.inside.order.items c.self.inside.kinds.keys c.self.inside.types.keys c.self.inside.constants.entries c.args.self.now c.self.view_is c.self.invariant)) there,
      λ _. refl,
    )

pub add_kind-requires : goal.add_kind-requires
add_kind-requires c = name_not_in c.self.inside.kinds.keys c.args.name (sym c.contains.ensures ∙ c.if-contains.false)

pub returns-in_err-add_kind-clause-clash : goal.returns-in_err-add_kind-clause-clash
returns-in_err-add_kind-clause-clash c = (
  λ e. absurd (memory_no_clash c.from_residual.result c.in_err-add_kind.field-0.0 c.from_residual.ensures.1 e),
  λ there. absurd (name_not_in c.self.inside.kinds.keys c.args.name (sym c.contains.ensures ∙ c.if-contains.false)
      (subst (λ ks. Contains ks c.args.name) (kinds_are c.self.inside.order.items c.self.inside.kinds.keys c.self.inside.types.keys c.self.inside.constants.entries c.args.self.now c.self.view_is c.self.invariant) there)),
)

done : (c : goal.In_ok-add_kind) → AddsKind c.self.inside.order.items c.self.inside.kinds.keys c.self.inside.types.keys c.self.inside.constants.entries c.args.self.now c.self.view_is c.self.invariant c.args.name c.in_ok-add_kind.field-0 c.add_kind.new.kinds.keys c.add_kind.new.order.items
done c =
    adds_kind c.self.inside.order.items c.self.inside.kinds.keys c.self.inside.types.keys c.self.inside.constants.entries c.args.self.now c.self.view_is c.self.invariant
    c.args.name c.in_ok-add_kind.field-0 c.add_kind.new.kinds.keys c.add_kind.new.order.items c.in_ok-add_kind.ensures.place
    (name_not_in c.self.inside.kinds.keys c.args.name (sym c.contains.ensures ∙ c.if-contains.false)) c.in_ok-add_kind.ensures.added

pub invariant_of-self-2 : goal.invariant_of-self-2
invariant_of-self-2 c = (done c).still

pub returns-clause-held : goal.returns-clause-held
returns-clause-held c = (done c).held

pub returns-clause-id : goal.returns-clause-id
returns-clause-id c = (done c).id

pub returns-clause-entries : goal.returns-clause-entries
returns-clause-entries c = (done c).entries

pub returns-clause-clash : goal.returns-clause-clash
returns-clause-clash c = (
  λ e. absurd (ok_no_clash (record { 0 = c.in_ok-add_kind.field-0 }) e),
  λ there. absurd (name_not_in c.self.inside.kinds.keys c.args.name (sym c.contains.ensures ∙ c.if-contains.false)
      (subst (λ ks. Contains ks c.args.name) (kinds_are c.self.inside.order.items c.self.inside.kinds.keys c.self.inside.types.keys c.self.inside.constants.entries c.args.self.now c.self.view_is c.self.invariant) there)),
)

pub returns-clause-kept : goal.returns-clause-kept
returns-clause-kept c = (done c).extended

pub returns-clause-table : goal.returns-clause-table
returns-clause-table c = (done c).still.table
