use Rattle.std.specs.Prelude.{◌≡◌, ◌∷◌, [], Some, None}
use Rattle.std.specs.Option.{option_map, option_copied}
use Rattle.std.proofs.Common.{sym, ◌∙◌, ap, subst}
use Rattle.ab_grammar.specs.CommandTrees as told
use Rattle.ab_equations.specs.Labels.{label_of}
use Rattle.ab_theory.specs.Steps.{spec_cut}
use Rattle.ab_effects.specs.ProofCommands.{effect, clashing, missing}
use Rattle.ab_logic.specs.Worlds.{declarations_of}
use Rattle.ab_meaning.specs.Refusals.{clash, no_hypothesis}
use Rattle.ab_steps.specs.ProofEffects.{IsApplied, RefusedBy}
use Rattle.ab_steps.specs.Progress.{Took}
use Rattle.ab_steps.specs.declared.fault.ProofCommandFault.TheVariants.{NoHypothesis}
use Rattle.ab_hypothesis.proofs.JudgementCuts.{MayCut, cut_missing, cut_applied, cut_refused, if_ok}
use Rattle.ab_hypothesis.proofs.judgement_cuts.cut.Goals as goal

pub returns-in-Some-absent-clause-refused : goal.returns-in-Some-absent-clause-refused
returns-in-Some-absent-clause-refused g c fault e s rest goals =
    let w = c.args.world.now in
    let l = label_of c.args.label.now in
    let H = c.args.name.now in
    let K = c.args.other.now in
    let here = c.first_goal-goal.ensures.reads s rest goals in
    let free : clashing l s ≡ None = ap (clashing l) (sym here) ∙ sym (c.in_ok-clash.ensures w) ∙ ap (option_map clash) c.in_default.is in
    let same : NoHypothesis c.in_ok-copy.field-0 ≡ fault = cc in
    subst (RefusedBy (effect (declarations_of w) l (told.cut H K) s)) same
    (cut_missing (declarations_of w) l H K s free (no_hypothesis c.in_ok-copy.field-0)
    (ap (missing (H ∷ K ∷ [])) (sym here) ∙ sym (c.first_missing-absent.ensures w) ∙ ap (λ o. option_map no_hypothesis (option_copied o)) c.in-Some-absent.is ∙ ap (λ x. option_map no_hypothesis (Some x)) (sym c.in_ok-copy.ensures)))

pub returns-clause-applied : goal.returns-clause-applied
returns-clause-applied g c =
    let w = c.args.world.now in
    let p = c.args.proof.now in
    let l = label_of c.args.label.now in
    let H = c.args.name.now in
    let K = c.args.other.now in
    let may : MayCut w p l H K = λ s rest goals.
    let here = c.first_goal-goal.ensures.reads s rest goals in (
      ap (clashing l) (sym here) ∙ sym (c.in_ok-clash.ensures w) ∙ ap (option_map clash) c.in_default.is,
      ap (missing (H ∷ K ∷ [])) (sym here) ∙ sym (c.first_missing-absent.ensures w) ∙ ap (λ o. option_map no_hypothesis (option_copied o)) c.in_default-absent.is,
    ) in
    if_ok (Took w p c.cut_by.new.world c.cut_by.new.proof 0 (spec_cut H K l)) (IsApplied l (told.cut H K) w p c.cut_by.new.world c.cut_by.new.proof) c.cut_by.result
    (cut_applied w p l H K may c.cut_by.new.world c.cut_by.new.proof) c.cut_by.ensures.took

pub returns-clause-refused : goal.returns-clause-refused
returns-clause-refused g c fault e =
    let w = c.args.world.now in
    let p = c.args.proof.now in
    let l = label_of c.args.label.now in
    let H = c.args.name.now in
    let K = c.args.other.now in
    let may : MayCut w p l H K = λ s rest goals.
    let here = c.first_goal-goal.ensures.reads s rest goals in (
      ap (clashing l) (sym here) ∙ sym (c.in_ok-clash.ensures w) ∙ ap (option_map clash) c.in_default.is,
      ap (missing (H ∷ K ∷ [])) (sym here) ∙ sym (c.first_missing-absent.ensures w) ∙ ap (λ o. option_map no_hypothesis (option_copied o)) c.in_default-absent.is,
    ) in
    cut_refused w p l H K may fault (c.cut_by.ensures.refused fault e)
