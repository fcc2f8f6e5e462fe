use Rattle.std.specs.Prelude.{Some, None}
use Rattle.std.specs.Option.{option_map, option_copied}
use Rattle.std.proofs.Common.{sym, ◌∙◌, ap}
use Rattle.ab_logic.specs.SequentReadings.{sequent_of}
use Rattle.ab_meaning.specs.Refusals.{no_hypothesis}
use Rattle.ab_proofcmd.proofs.Named.{missing_here, missing_later}
use Rattle.ab_proofcmd.proofs.questions.first_missing.Goals as goal

pub returns-in-Some : goal.returns-in-Some
returns-in-Some c w =
    sym (c.loop-argument.invariant w
    ∙ missing_here c.args.arguments.now c.loop-argument.argument-index c.argument-item.result c.loop-argument-test.true c.argument-item.is (sequent_of w c.args.goal.now) (no_hypothesis c.in-Some.name.now)
    (sym (c.in-Some.ensures w)))

pub loop-argument-preserved : goal.loop-argument-preserved
loop-argument-preserved c w =
    c.loop-argument.invariant w
    ∙ missing_later c.args.arguments.now c.loop-argument.argument-index c.argument-item.result c.loop-argument-test.true c.argument-item.is (sequent_of w c.args.goal.now)
    (sym (c.in_default.ensures w))
