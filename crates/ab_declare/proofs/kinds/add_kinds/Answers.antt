use Rattle.std.specs.Prelude.{Err}
use Rattle.std.proofs.Common.{sym, ◌∙◌, ap}
use Rattle.ab_declare.specs.declared.refusal.Refusal.TheVariants.{Clash}
use Rattle.ab_declare.proofs.Adding.{kind_clash, kind_free, kind_added}
use Rattle.ab_declare.proofs.kinds.add_kinds.Goals as goal

pub returns-in-Err-Clash-clause-added : goal.returns-in-Err-Clash-clause-added
returns-in-Err-Clash-clause-added c =
    let x = c.in_ok-copy.field-0 in
    let is = c.in_ok-copy.ensures ∙ c.name-item.is in
    let same = c.in_ok-copy-in-Err-Clash.ensures ∙ sym c.in_ok-copy.ensures in (
      x,
      kind_clash _ _ _ _ c.name-item.result x c.loop-name-test.true is c.loop-name.invariant.0 c.loop-name.invariant.1 (c.declare_kind.ensures.clash.0 (c.in-Err-Clash.is ∙ ap (λ f. Err f) c.in-Err-Clash.field-0-is)),
      ap (λ y. Clash y _) same,
    )

pub loop-name-preserved : goal.loop-name-preserved
loop-name-preserved c =
    let x = c.in_ok-copy.field-0 in
    let is = c.in_ok-copy.ensures ∙ c.name-item.is in (
      kind_free _ _ _ _ c.name-item.result x c.loop-name-test.true is c.loop-name.invariant.0 c.loop-name.invariant.1 (λ m. let e = c.declare_kind.ensures.clash.1 m in let f = c.in-Ok.is in absurd (cc)),
      kind_added _ _ _ _ c.name-item.result x c.loop-name-test.true is c.loop-name.invariant.0 c.loop-name.invariant.1 _ c.in-Ok.ensures.entries,
    )
