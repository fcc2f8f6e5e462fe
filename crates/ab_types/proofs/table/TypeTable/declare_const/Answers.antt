use Rattle.std.proofs.Common.{◌∙◌, sym, refl, subst, Contains}
use Rattle.std.specs.Map.{keys_of}
use Rattle.ab_types.proofs.Members.{key_in, key_not_in}
use Rattle.ab_types.proofs.Kept.{names_are}
use Rattle.ab_types.proofs.Grown.{adds_constant, AddsConstant}
use Rattle.ab_types.proofs.Refusals.{memory_no_clash, ok_no_clash}
use Rattle.ab_types.proofs.table.TypeTable.declare_const.Goals as goal

pub returns-then-contains_key-clause-clash : goal.returns-then-contains_key-clause-clash
returns-then-contains_key-clause-clash c =
    let there : Contains (keys_of c.self.inside.constants.entries) c.args.name = key_in c.self.inside.constants c.args.name (sym c.contains_key.ensures ∙ c.if-contains_key.true) in (
      λ _. subst (λ ks. Contains ks c.args.name) (sym (names_are c.self.inside.order.items c.self.inside.kinds.keys c.self.inside.types.keys c.self.inside.constants.entries c.args.self.now c.self.view_is c.self.invariant)) there,
      λ _. refl,
    )

pub add_constant-requires : goal.add_constant-requires
add_constant-requires c = key_not_in c.self.inside.constants c.args.name (sym c.contains_key.ensures ∙ c.if-contains_key.false)

pub returns-in_err-add_constant-clause-clash : goal.returns-in_err-add_constant-clause-clash
returns-in_err-add_constant-clause-clash c = (
  λ e. absurd (memory_no_clash c.from_residual.result c.in_err-add_constant.field-0.0 c.from_residual.ensures.1 e),
  λ there. absurd (key_not_in c.self.inside.constants c.args.name (sym c.contains_key.ensures ∙ c.if-contains_key.false)
      (subst (λ ks. Contains ks c.args.name) (names_are c.self.inside.order.items c.self.inside.kinds.keys c.self.inside.types.keys c.self.inside.constants.entries c.args.self.now c.self.view_is c.self.invariant) there)),
)

done : (c : goal.In_ok-add_constant) → AddsConstant c.self.inside.order.items c.self.inside.kinds.keys c.self.inside.types.keys c.self.inside.constants.entries c.args.self.now c.self.view_is c.self.invariant (c.args.name, c.args.ty) c.in_ok-add_constant.field-0 c.add_constant.new.constants.entries c.add_constant.new.order.items
done c =
    adds_constant c.self.inside.order.items c.self.inside.kinds.keys c.self.inside.types.keys c.self.inside.constants.entries c.args.self.now c.self.view_is c.self.invariant
    (c.args.name, c.args.ty) c.in_ok-add_constant.field-0 c.add_constant.new.constants.entries c.add_constant.new.order.items c.in_ok-add_constant.ensures.place c.requires
    (key_not_in c.self.inside.constants c.args.name (sym c.contains_key.ensures ∙ c.if-contains_key.false)) c.in_ok-add_constant.ensures.added

pub invariant_of-self-2 : goal.invariant_of-self-2
invariant_of-self-2 c = (done c).still

pub returns-clause-held : goal.returns-clause-held
returns-clause-held c = (done c).held

pub returns-clause-id : goal.returns-clause-id
returns-clause-id c = (done c).id

pub returns-clause-entries : goal.returns-clause-entries
returns-clause-entries c = (done c).entries

pub returns-clause-clash : goal.returns-clause-clash
returns-clause-clash c = (
  λ e. absurd (ok_no_clash (record { 0 = c.in_ok-add_constant.field-0 }) e),
  λ there. absurd (key_not_in c.self.inside.constants c.args.name (sym c.contains_key.ensures ∙ c.if-contains_key.false)
      (subst (λ ks. Contains ks c.args.name) (names_are c.self.inside.order.items c.self.inside.kinds.keys c.self.inside.types.keys c.self.inside.constants.entries c.args.self.now c.self.view_is c.self.invariant) there)),
)

pub returns-clause-kept : goal.returns-clause-kept
returns-clause-kept c = (done c).extended

pub returns-clause-table : goal.returns-clause-table
returns-clause-table c = (done c).still.table
