use Rattle.std.specs.Prelude.{All}
use Rattle.std.proofs.Common.{◌≡◌, take, map}
use Rattle.ab_logic.specs.declared.world.World.{World}
use Rattle.ab_uses.specs.GivenReadings.{given_of}
use Rattle.ab_hypothesis.specs.ab_steps.specs.ab_kernel.specs.ab_rules.specs.RuleAnswers.{replacements, HoldsReplace}
use Rattle.ab_proofcmd.specs.GivenTerms.{HoldsGiven}
use Rattle.ab_proofcmd.specs.ReplacedConstants.{replace_of}
use Rattle.ab_proofcmd.proofs.replaced_constants.replaces_of.Given as goal

abbrev pub invariant-loop-term : goal.invariant-loop-term
invariant-loop-term l =
    ((w : World) → replacements w l.replaces.items ≡ map replace_of (map (given_of w) (take l.term-index l.given)))
    × ((w : World) → All (HoldsGiven w) l.given → All (HoldsReplace w) l.replaces.items)
