use Rattle.std.proofs.Common.{rules, sym, refl, inl, inr}
use Rattle.ab_logic.specs.Worlds.{read}
use Rattle.ab_formulas.specs.Sequents.{assuming, without}
use Rattle.ab_logic.specs.SequentReadings.{sequent_of}
use Rattle.ab_formulas.specs.NewNames.{Names, NoName}
use Rattle.ab_rules.specs.RuleAnswers.{label_of}
use Rattle.ab_rules.proofs.left_rules.and_left.Goals as goal

pub returns-in_default-3 : goal.returns-in_default-3
returns-in_default-3 c =
    let w = c.args.world.now in
    let one = c.in-Some-2.named in
    let first : Names (label_of c.args.first.now) (without c.args.name.now (sequent_of w c.args.sequent.now)) one.name (sequent_of w one.sequent) = search rules in
    let none : NoName (label_of c.args.second.now) (assuming one.name (read w c.in-Some-as_and.left) (sequent_of w one.sequent)) = search rules in
    inr (_, sym (c.in-Some.ensures.reads w), inr (_, sym c.in-Some-as_and.ensures.reads, inr (_, _, first, inl (none, refl))))
