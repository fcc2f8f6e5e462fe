use Rattle.std.proofs.Common.{◌+◌, ◌-◌, length, slice_get, Some, None, refl, sym, ◌∙◌, ap, arith, true≢false}
use Rattle.std.specs.Option.{option_copied}
use Rattle.std.proofs.lemmas.Bool.{ltb-true, lt-ltb}
use Rattle.ab_types.specs.LastTypes.{types_up_to}
use Rattle.ab_types.specs.declared.columns.Sort.TheVariants.{Kind, Constant}
use Rattle.ab_types.proofs.Kept.{types_len}
use Rattle.ab_types.proofs.Sorts.{no_spare, long_enough, behind, spare}
use Rattle.ab_types.proofs.table.TypeTable.ends_spare.Goals as goal

pub returns-then-len-clause-spare : goal.returns-then-len-clause-spare
returns-then-len-clause-spare c = (
  λ e. absurd (true≢false (sym e)),
  λ s.
      absurd (omega (
        arith,
        c.if-len.true,
        c.len.ensures,
        long_enough c.self.inside.order.items c.self.inside.kinds.keys c.self.inside.types.keys c.self.inside.constants.entries c.args.self.now c.self.view_is c.self.invariant c.args.len c.args.named s,
      )),
)

pub overflow_add-result : goal.overflow_add-result
overflow_add-result c = omega (
  arith,
  c.requires,
  ap types_up_to c.in-Some.is,
  c.len-in-Some.ensures.small,
  c.len-in-Some.ensures.len,
  types_len c.self.inside.order.items c.self.inside.kinds.keys c.self.inside.types.keys c.self.inside.constants.entries c.args.self.now c.self.view_is c.self.invariant,
)

pub returns-in-None-named-clause-spare : goal.returns-in-None-named-clause-spare
returns-in-None-named-clause-spare c = (
  λ e.
      spare c.self.inside.order.items c.self.inside.kinds.keys c.self.inside.types.keys c.self.inside.constants.entries c.args.self.now c.self.view_is c.self.invariant c.args.len c.args.named
      (omega (arith, c.if-len.false, c.len.ensures))
      (ap (λ l. slice_get l (length l - 1)) (sym c.deref.ensures.value) ∙ sym c.last.ensures.value ∙ ap option_copied c.in-Some-Ty.is ∙ ap Some c.in-Some-Ty.field-0-is)
      (omega (arith, ap types_up_to c.in-None-named.is)),
  λ s. refl,
)

pub returns-in-Some-clause-spare : goal.returns-in-Some-clause-spare
returns-in-Some-clause-spare c = (
  λ e.
      spare c.self.inside.order.items c.self.inside.kinds.keys c.self.inside.types.keys c.self.inside.constants.entries c.args.self.now c.self.view_is c.self.invariant c.args.len c.args.named
      (omega (arith, c.if-len.false, c.len.ensures))
      (ap (λ l. slice_get l (length l - 1)) (sym c.deref.ensures.value) ∙ sym c.last.ensures.value ∙ ap option_copied c.in-Some-Ty.is ∙ ap Some c.in-Some-Ty.field-0-is)
      (omega (arith, ap types_up_to c.in-Some.is, ltb-true (c.in-Some.ty.0 + 1) c.len-in-Some.result e, c.len-in-Some.ensures.len)),
  λ s.
      lt-ltb (c.in-Some.ty.0 + 1) c.len-in-Some.result
      (omega (
        arith,
        ap types_up_to c.in-Some.is,
        c.len-in-Some.ensures.len,
        behind c.self.inside.order.items c.self.inside.kinds.keys c.self.inside.types.keys c.self.inside.constants.entries c.args.self.now c.self.view_is c.self.invariant c.args.len c.args.named s,
      )),
)

pub returns-in-Some-Kind-clause-spare : goal.returns-in-Some-Kind-clause-spare
returns-in-Some-Kind-clause-spare c = (
  λ e. absurd (true≢false (sym e)),
  λ s.
      absurd (no_spare c.self.inside.order.items c.self.inside.kinds.keys c.self.inside.types.keys c.self.inside.constants.entries c.args.self.now c.self.view_is c.self.invariant c.args.len c.args.named (Some Kind)
      (ap (λ l. slice_get l (length l - 1)) (sym c.deref.ensures.value) ∙ sym c.last.ensures.value ∙ ap option_copied c.in-Some-Kind.is ∙ ap Some c.in-Some-Kind.field-0-is)
      (λ e. cc) s),
)

pub returns-in-Some-Constant-clause-spare : goal.returns-in-Some-Constant-clause-spare
returns-in-Some-Constant-clause-spare c = (
  λ e. absurd (true≢false (sym e)),
  λ s.
      absurd (no_spare c.self.inside.order.items c.self.inside.kinds.keys c.self.inside.types.keys c.self.inside.constants.entries c.args.self.now c.self.view_is c.self.invariant c.args.len c.args.named (Some Constant)
      (ap (λ l. slice_get l (length l - 1)) (sym c.deref.ensures.value) ∙ sym c.last.ensures.value ∙ ap option_copied c.in-Some-Constant.is ∙ ap Some c.in-Some-Constant.field-0-is)
      (λ e. cc) s),
)

pub returns-in-None-clause-spare : goal.returns-in-None-clause-spare
returns-in-None-clause-spare c = (
  λ e. absurd (true≢false (sym e)),
  λ s.
      absurd (no_spare c.self.inside.order.items c.self.inside.kinds.keys c.self.inside.types.keys c.self.inside.constants.entries c.args.self.now c.self.view_is c.self.invariant c.args.len c.args.named None
      (ap (λ l. slice_get l (length l - 1)) (sym c.deref.ensures.value) ∙ sym c.last.ensures.value ∙ ap option_copied c.in-None.is)
      (λ e. cc) s),
)
