use Rattle.ab_norm.specs.ab_types.proofs.Entries.{type_still_held}
use Rattle.ab_norm.proofs.Frame.{if_ok}
use Rattle.ab_infer.proofs.Grounds.{adds_both}
use Rattle.ab_infer.proofs.Connectives.{adds_type}
use Rattle.ab_infer.proofs.Judgements.{focused_is}
use Rattle.ab_infer.proofs.judgement_parts.type_over_list.Goals as goal

pub arrow-requires-then-focused-clause-from_held : goal.arrow-requires-then-focused-clause-from_held
arrow-requires-then-focused-clause-from_held c = type_still_held c.args.types.now c.arrow.new.self c.in_ok-unfocused.ensures.kept c.args.formulas.o c.requires.formulas.o_held

pub returns-then-focused-clause-is : goal.returns-then-focused-clause-is
returns-then-focused-clause-is c =
    if_ok c.arrow-then-focused.result
    (λ id h. focused_is c.args.types.now c.arrow.new.self c.arrow-then-focused.new.self c.args.formulas c.in_ok-unfocused.unfocused id c.args.focused c.if-focused.true c.in_ok-unfocused.ensures.kept c.requires.formulas c.in_ok-unfocused.ensures.id h)
    c.arrow-then-focused.ensures.id

pub returns-then-focused-clause-adds : goal.returns-then-focused-clause-adds
returns-then-focused-clause-adds c =
    adds_both c.args.types.now c.arrow.new.self c.arrow-then-focused.new.self
    (adds_type c.args.types.now c.arrow.new.self _ c.arrow.result c.arrow.ensures.kept c.arrow.ensures.entries c.arrow.ensures.err)
    (adds_type c.arrow.new.self c.arrow-then-focused.new.self _ c.arrow-then-focused.result c.arrow-then-focused.ensures.kept c.arrow-then-focused.ensures.entries c.arrow-then-focused.ensures.err)

pub returns-else-focused-clause-adds : goal.returns-else-focused-clause-adds
returns-else-focused-clause-adds c = adds_type c.args.types.now c.arrow.new.self _ c.arrow.result c.arrow.ensures.kept c.arrow.ensures.entries c.arrow.ensures.err
