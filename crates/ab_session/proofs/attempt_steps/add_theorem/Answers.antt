use Rattle.std.proofs.Common.{◌∙◌, ap, subst}
use Rattle.ab_formulas.specs.Declarations.{theorem_in}
use Rattle.ab_logic.specs.Additions.{IsMemory}
use Rattle.ab_logic.specs.Worlds.{declarations_of}
use Rattle.ab_session.proofs.attempt_steps.add_theorem.Goals as goal

pub unreachable-requires : goal.unreachable-requires
unreachable-requires c =
    let new = ap (theorem_in (declarations_of c.args.world.now)) c.in_ok-copy.ensures ∙ c.requires.new_name in
    subst IsMemory c.in-Err-Clash.field-0-is (c.add_theorem.ensures.refused c.in-Err-Clash.field-0 c.in-Err-Clash.is new)

pub unreachable-requires-in-Err-NotStratified : goal.unreachable-requires-in-Err-NotStratified
unreachable-requires-in-Err-NotStratified c =
    let new = ap (theorem_in (declarations_of c.args.world.now)) c.in_ok-copy.ensures ∙ c.requires.new_name in
    subst IsMemory c.in-Err-NotStratified.field-0-is (c.add_theorem.ensures.refused c.in-Err-NotStratified.field-0 c.in-Err-NotStratified.is new)

pub unreachable-requires-in-Err-BadHead : goal.unreachable-requires-in-Err-BadHead
unreachable-requires-in-Err-BadHead c =
    let new = ap (theorem_in (declarations_of c.args.world.now)) c.in_ok-copy.ensures ∙ c.requires.new_name in
    subst IsMemory c.in-Err-BadHead.field-0-is (c.add_theorem.ensures.refused c.in-Err-BadHead.field-0 c.in-Err-BadHead.is new)
