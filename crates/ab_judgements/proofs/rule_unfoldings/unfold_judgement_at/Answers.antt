use Rattle.std.specs.Prelude.{slice_get}
use Rattle.std.specs.Option.{option_map}
use Rattle.std.proofs.Common.{◌≡◌, Ok, sym, ◌∙◌, ap}
use Rattle.ab_logic.specs.SequentReadings.{sequent_of}
use Rattle.ab_logic.proofs.Growing.{still_held}
use Rattle.ab_theory.specs.Splits.{NeverArises, IsOpen}
use Rattle.ab_theory.specs.Subjects.{way_by_rule}
use Rattle.ab_alternatives.specs.ab_equations.specs.declared.cases.CaseSolution.TheVariants.{Unified, Apart, Stuck}
use Rattle.ab_alternatives.proofs.Passed.{later_on}
use Rattle.ab_judgements.specs.DemandReadings.{rule_read}
use Rattle.ab_judgements.specs.SubjectAnswers.{IsUnfoldedBy}
use Rattle.ab_judgements.proofs.NumberedRules.{listed_same, as_before}
use Rattle.ab_judgements.proofs.rule_unfoldings.unfold_judgement_at.Goals as goal

pub unfold_rule-requires-clause-goal : goal.unfold_rule-requires-clause-goal
unfold_rule-requires-clause-goal g c = still_held c.args.world.now c.with_rules.new.world c.with_rules.ensures.later.grows c.args.goal.now c.requires.goal

pub returns-in_err-solved-clause-later : goal.returns-in_err-solved-clause-later
returns-in_err-solved-clause-later g c = later_on c.args.world.now c.with_rules.new.world c.unfold_rule.new.world c.with_rules.ensures.later c.unfold_rule.ensures.later

pub returns-clause-later : goal.returns-clause-later
returns-clause-later g c = later_on c.args.world.now c.with_rules.new.world c.unfold_rule.new.world c.with_rules.ensures.later c.unfold_rule.ensures.later

pub returns-in_default-clause-none : goal.returns-in_default-clause-none
returns-in_default-clause-none g c = λ rs listed e.
    let w = c.args.world.now in
    let u = c.with_rules.new.world in
    let j = c.args.judgement.now in
    let x = c.in_ok-ruled.ruled in
    let same = listed_same w u c.with_rules.ensures.later c.with_rules.ensures.cells j c.requires.judgement x c.in_ok-ruled.ensures.judgement rs listed c.in_ok-ruled.ensures.ruled in
    ap (λ l. slice_get l c.args.number) (sym same) ∙ sym c.in_ok-rule.ensures.numbered ∙ ap (option_map (rule_read u)) c.in_default.is

pub returns-clause-unified : goal.returns-clause-unified
returns-clause-unified g c = λ rs p listed e.
    let w = c.args.world.now in
    let u = c.with_rules.new.world in
    let j = c.args.judgement.now in
    let x = c.in_ok-ruled.ruled in
    let same = listed_same w u c.with_rules.ensures.later c.with_rules.ensures.cells j c.requires.judgement x c.in_ok-ruled.ensures.judgement rs listed c.in_ok-ruled.ensures.ruled in
    let there = ap (λ l. slice_get l c.args.number) (sym same) ∙ sym c.in_ok-rule.ensures.numbered ∙ ap (option_map (rule_read u)) c.in-Some.is in
    let y = c.unfold_rule.new.world in
    let one : c.in_ok-solved.solved ≡ Unified p = cc in (
      rule_read u c.in-Some.rule,
      there,
      as_before w u c.with_rules.ensures.later c.with_rules.ensures.cells j c.requires.judgement x c.in_ok-ruled.ensures.judgement
          (λ cs s k. IsUnfoldedBy cs s (way_by_rule s k (rule_read u c.in-Some.rule)) (sequent_of y p)) c.args.goal.now c.requires.goal (c.in_ok-solved.ensures.unified p (ap Ok one)),
    )

pub returns-clause-apart : goal.returns-clause-apart
returns-clause-apart g c = λ rs listed e.
    let w = c.args.world.now in
    let u = c.with_rules.new.world in
    let j = c.args.judgement.now in
    let x = c.in_ok-ruled.ruled in
    let same = listed_same w u c.with_rules.ensures.later c.with_rules.ensures.cells j c.requires.judgement x c.in_ok-ruled.ensures.judgement rs listed c.in_ok-ruled.ensures.ruled in
    let there = ap (λ l. slice_get l c.args.number) (sym same) ∙ sym c.in_ok-rule.ensures.numbered ∙ ap (option_map (rule_read u)) c.in-Some.is in
    let one : c.in_ok-solved.solved ≡ Apart = cc in (
      rule_read u c.in-Some.rule,
      there,
      as_before w u c.with_rules.ensures.later c.with_rules.ensures.cells j c.requires.judgement x c.in_ok-ruled.ensures.judgement
          (λ cs s k. NeverArises ((way_by_rule s k (rule_read u c.in-Some.rule)).case cs)) c.args.goal.now c.requires.goal (c.in_ok-solved.ensures.apart (ap Ok one)),
    )

pub returns-clause-stuck : goal.returns-clause-stuck
returns-clause-stuck g c = λ rs i listed e.
    let w = c.args.world.now in
    let u = c.with_rules.new.world in
    let j = c.args.judgement.now in
    let x = c.in_ok-ruled.ruled in
    let same = listed_same w u c.with_rules.ensures.later c.with_rules.ensures.cells j c.requires.judgement x c.in_ok-ruled.ensures.judgement rs listed c.in_ok-ruled.ensures.ruled in
    let there = ap (λ l. slice_get l c.args.number) (sym same) ∙ sym c.in_ok-rule.ensures.numbered ∙ ap (option_map (rule_read u)) c.in-Some.is in
    let one : c.in_ok-solved.solved ≡ Stuck i = cc in (
      rule_read u c.in-Some.rule,
      there,
      as_before w u c.with_rules.ensures.later c.with_rules.ensures.cells j c.requires.judgement x c.in_ok-ruled.ensures.judgement
          (λ cs s k. IsOpen ((way_by_rule s k (rule_read u c.in-Some.rule)).case cs) i) c.args.goal.now c.requires.goal (c.in_ok-solved.ensures.stuck i (ap Ok one)),
    )
