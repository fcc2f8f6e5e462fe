use Rattle.std.specs.Prelude.{Err}
use Rattle.std.proofs.Common.{sym, ◌∙◌, ap, ◌++◌, ◌∷◌, [], map, take}
use Rattle.ab_term.specs.Constants.{constant}
use Rattle.ab_norm.specs.ab_types.specs.Entries.{a_constant}
use Rattle.ab_norm.specs.ab_types.specs.Ids.{type_of}
use Rattle.ab_declare.specs.declared.refusal.Refusal.TheVariants.{Clash}
use Rattle.ab_declare.proofs.Adding.{name_clash, name_free, name_added, still_held, still_is}
use Rattle.ab_declare.proofs.constants.add_constants.Goals as goal

pub declare_const-requires : goal.declare_const-requires
declare_const-requires c = still_held c.args.types.now c.loop-name.types c.args.ty (map (λ x. a_constant (constant x (type_of c.args.types.now c.args.ty))) (take c.loop-name.name-index c.args.names.now)) c.loop-name.invariant.1 c.requires

pub returns-in-Err-Clash-clause-added : goal.returns-in-Err-Clash-clause-added
returns-in-Err-Clash-clause-added c =
    let x = c.in_ok-copy.field-0 in
    let is = c.in_ok-copy.ensures ∙ c.name-item.is in
    let same = c.in_ok-copy-in-Err-Clash.ensures ∙ sym c.in_ok-copy.ensures in (
      x,
      name_clash _ _ _ _ _ c.name-item.result x c.loop-name-test.true is c.loop-name.invariant.0 c.loop-name.invariant.1 (c.declare_const.ensures.clash.0 (c.in-Err-Clash.is ∙ ap (λ f. Err f) c.in-Err-Clash.field-0-is)),
      ap (λ y. Clash y _) same,
    )

pub loop-name-preserved : goal.loop-name-preserved
loop-name-preserved c =
    let x = c.in_ok-copy.field-0 in
    let is = c.in_ok-copy.ensures ∙ c.name-item.is in
    let same = still_is c.args.types.now c.loop-name.types c.args.ty (map (λ x. a_constant (constant x (type_of c.args.types.now c.args.ty))) (take c.loop-name.name-index c.args.names.now)) c.loop-name.invariant.1 c.requires in (
      name_free _ _ _ _ _ c.name-item.result x c.loop-name-test.true is c.loop-name.invariant.0 c.loop-name.invariant.1 (λ m. let e = c.declare_const.ensures.clash.1 m in let f = c.in-Ok.is in absurd (cc)),
      name_added _ _ _ _ _ c.name-item.result x c.loop-name-test.true is c.loop-name.invariant.0 c.loop-name.invariant.1 _ (c.in-Ok.ensures.entries ∙ ap (λ A. c.loop-name.types ++ a_constant (constant x A) ∷ []) same),
    )
