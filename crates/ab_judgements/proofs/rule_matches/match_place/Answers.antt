use Rattle.std.specs.Option.{option_map}
use Rattle.std.proofs.Common.{◌≡◌, sym, ◌∙◌, ap, subst}
use Rattle.ab_unify.specs.Problem.{cells_read}
use Rattle.ab_theory.specs.Subjects.{way_by_rule}
use Rattle.ab_judgements.specs.DemandReadings.{rule_read}
use Rattle.ab_judgement_forms.specs.JudgementReadings.{judgement_read}
use Rattle.ab_judgements.specs.RuleSteps.{MatchesBy}
use Rattle.ab_judgements.proofs.CutWorlds.{cut_later, cut_cells}
use Rattle.ab_judgements.proofs.rule_matches.match_place.Goals as goal

pub returns-in_err-matched-clause-cells : goal.returns-in_err-matched-clause-cells
returns-in_err-matched-clause-cells g c = cut_cells c.args.world.now c.match_rule-matched.new.world c.requires.ruled.world c.match_rule-matched.ensures.added.additions c.match_rule-matched.ensures.added.grown c.mark-mark.result c.mark-mark.ensures.has c.cut_to.new.self c.mark-mark.ensures.bindings c.mark-mark.ensures.nodes c.mark-mark.ensures.cells c.mark-mark.ensures.typed c.cut_to.ensures.bindings c.cut_to.ensures.nodes c.cut_to.ensures.cells c.cut_to.ensures.typed c.cut_to.ensures.marks

pub returns-in_err-matched-clause-later : goal.returns-in_err-matched-clause-later
returns-in_err-matched-clause-later g c = cut_later c.args.world.now c.match_rule-matched.new.world c.requires.ruled.world c.match_rule-matched.ensures.added.additions c.match_rule-matched.ensures.added.grown c.mark-mark.result c.mark-mark.ensures.has c.cut_to.new.self c.mark-mark.ensures.bindings c.mark-mark.ensures.nodes c.mark-mark.ensures.cells c.mark-mark.ensures.typed c.cut_to.ensures.bindings c.cut_to.ensures.nodes c.cut_to.ensures.cells c.cut_to.ensures.typed c.cut_to.ensures.marks

pub returns-clause-cells : goal.returns-clause-cells
returns-clause-cells g c = cut_cells c.args.world.now c.match_rule-matched.new.world c.requires.ruled.world c.match_rule-matched.ensures.added.additions c.match_rule-matched.ensures.added.grown c.mark-mark.result c.mark-mark.ensures.has c.cut_to.new.self c.mark-mark.ensures.bindings c.mark-mark.ensures.nodes c.mark-mark.ensures.cells c.mark-mark.ensures.typed c.cut_to.ensures.bindings c.cut_to.ensures.nodes c.cut_to.ensures.cells c.cut_to.ensures.typed c.cut_to.ensures.marks

pub returns-clause-later : goal.returns-clause-later
returns-clause-later g c = cut_later c.args.world.now c.match_rule-matched.new.world c.requires.ruled.world c.match_rule-matched.ensures.added.additions c.match_rule-matched.ensures.added.grown c.mark-mark.result c.mark-mark.ensures.has c.cut_to.new.self c.mark-mark.ensures.bindings c.mark-mark.ensures.nodes c.mark-mark.ensures.cells c.mark-mark.ensures.typed c.cut_to.ensures.bindings c.cut_to.ensures.nodes c.cut_to.ensures.cells c.cut_to.ensures.typed c.cut_to.ensures.marks

pub returns-clause-matched : goal.returns-clause-matched
returns-clause-matched g c = λ s m e.
    let w = c.args.world.now in
    let one : c.in_ok-matched.field-0 ≡ m = cc in (
      rule_read w c.in-Some.rule,
      sym c.in_ok-rule.ensures.reads ∙ ap (option_map (rule_read w)) c.in-Some.is,
      subst (MatchesBy (cells_read w.types w.store) (way_by_rule s (judgement_read w c.args.ruled.now.judgement) (rule_read w c.in-Some.rule))) one (c.in_ok-matched.ensures.matched s),
    )
