use Rattle.std.proofs.Common.{◌∙◌, lit<, refl}
use Rattle.ab_norm.specs.ab_types.proofs.Entries.{type_still_held}
use Rattle.ab_infer.proofs.Larger.{type_more}
use Rattle.ab_infer.proofs.Grounds.{adds_both}
use Rattle.ab_infer.proofs.ids.formulas.Goals as goal

pub kind_type-requires-clause-first : goal.kind_type-requires-clause-first
kind_type-requires-clause-first c = (0, lit< tt, refl)

pub kind_type-requires-2-clause-first : goal.kind_type-requires-2-clause-first
kind_type-requires-2-clause-first c = (1, lit< tt, refl)

pub returns-clause-formulas : goal.returns-clause-formulas
returns-clause-formulas c =
    let one = c.kind_type.new.types in
    let two = c.kind_type-2.new.types in
    let kept = c.in_ok-o.ensures.adds.kept in
    let held = c.in_ok-prop.ensures.held in
    record {
      prop_held = type_still_held one two kept c.in_ok-prop.prop held;
      prop_is = type_more one two kept c.in_ok-prop.prop held ∙ c.in_ok-prop.ensures.is;
      o_held = c.in_ok-o.ensures.held;
      o_is = c.in_ok-o.ensures.is;
    }

pub returns-in_err-o-clause-adds : goal.returns-in_err-o-clause-adds
returns-in_err-o-clause-adds c = adds_both c.args.types.now c.kind_type.new.types c.kind_type-2.new.types c.in_ok-prop.ensures.adds c.in_err-o.ensures.adds

pub returns-clause-adds : goal.returns-clause-adds
returns-clause-adds c = adds_both c.args.types.now c.kind_type.new.types c.kind_type-2.new.types c.in_ok-prop.ensures.adds c.in_ok-o.ensures.adds
