use Rattle.std.proofs.Common.{◌≡◌, ◌+◌, [], ◌∷◌, length, Ok, Some, refl, sym, ◌∙◌, ap, subst, arith}
use Rattle.std.proofs.lemmas.List.Elements.{All-nil, All-cons}
use Rattle.ab_unify.specs.Problem.{cells_read}
use Rattle.ab_formulas.specs.Sequents.{Sequent}
use Rattle.ab_logic.specs.Worlds.{read}
use Rattle.ab_theory.specs.JudgementCases.{judgement_unfolding}
use Rattle.ab_theory.specs.SpecRules.{SpecRule}
use Rattle.ab_theory.specs.Splits.{NeverArises}
use Rattle.ab_theory.specs.Subjects.{way_by_rule}
use Rattle.ab_alternatives.specs.declared.choice_matches.Match.TheVariants as match
use Rattle.ab_alternatives.specs.declared.first_choice.Found.{Found}
use Rattle.ab_alternatives.specs.declared.first_choice.Found.TheVariants.{Closed, Open, Stuck}
use Rattle.ab_judgement_forms.specs.JudgementReadings.{judgement_read}
use Rattle.ab_judgements.specs.RuleSteps.{NoneOf, IsFoundBy}
use Rattle.ab_judgements.specs.RuleWalks.{rules_in}
use Rattle.ab_judgements.proofs.rule_matches.find_at.Goals as goal

pub returns-in-Some-Closed-clause-found : goal.returns-in-Some-Closed-clause-found
returns-in-Some-Closed-clause-found g c = λ s f e.
    let w = c.args.world.now in
    let n = c.args.number.now in
    let J = judgement_read w c.args.ruled.now.judgement in
    let told : Found = Closed n in
    let one : told ≡ f = cc in
    let u = c.in_ok-match_place.ensures.matched s match.Closed (ap Ok (c.in-Some-Closed.is ∙ ap Some c.in-Some-Closed.field-0-is)) in
    (u.0, u.1, subst (IsFoundBy (cells_read w.types w.store) (way_by_rule s J u.0) n) one (refl, u.2))

pub returns-in-Some-Open-clause-found : goal.returns-in-Some-Open-clause-found
returns-in-Some-Open-clause-found g c = λ s f e.
    let w = c.args.world.now in
    let n = c.args.number.now in
    let J = judgement_read w c.args.ruled.now.judgement in
    let told : Found = Open n c.in-Some-Open.name in
    let one : told ≡ f = cc in
    let u = c.in_ok-match_place.ensures.matched s (match.Open c.in-Some-Open.name) (ap Ok (c.in-Some-Open.is ∙ ap Some c.in-Some-Open.field-0-is)) in
    (u.0, u.1, subst (IsFoundBy (cells_read w.types w.store) (way_by_rule s J u.0) n) one (refl, u.2.0, u.2.1, u.2.2, u.2.3))

pub returns-in-Some-Stuck-clause-found : goal.returns-in-Some-Stuck-clause-found
returns-in-Some-Stuck-clause-found g c = λ s f e.
    let w = c.args.world.now in
    let n = c.args.number.now in
    let J = judgement_read w c.args.ruled.now.judgement in
    let told : Found = Stuck n c.in-Some-Stuck.equation in
    let one : told ≡ f = cc in
    let u = c.in_ok-match_place.ensures.matched s (match.Stuck c.in-Some-Stuck.equation) (ap Ok (c.in-Some-Stuck.is ∙ ap Some c.in-Some-Stuck.field-0-is)) in
    (u.0, u.1, subst (IsFoundBy (cells_read w.types w.store) (way_by_rule s J u.0) n) one (refl, u.2))

pub returns-in-Some-Apart-clause-passed : goal.returns-in-Some-Apart-clause-passed
returns-in-Some-Apart-clause-passed g c = λ s e.
    let w = c.args.world.now in
    let J = judgement_read w c.args.ruled.now.judgement in
    let C = cells_read w.types w.store in
    let u = c.in_ok-match_place.ensures.matched s match.Apart (ap Ok (c.in-Some-Apart.is ∙ ap Some c.in-Some-Apart.field-0-is)) in
    subst (λ r. NoneOf C s J (rules_in (r ∷ []))) (sym u.1)
    (All-cons (λ (q : SpecRule). NeverArises (judgement_unfolding s J q C)) u.0 [] u.2 (All-nil (λ (q : SpecRule). NeverArises (judgement_unfolding s J q C))))

pub returns-in-Some-Apart-clause-counted : goal.returns-in-Some-Apart-clause-counted
returns-in-Some-Apart-clause-counted g c = λ e low.
    let w = c.args.world.now in
    let s : Sequent = record { variables = []; hypotheses = []; conclusion = read w c.args.ruled.now.judgement.goal; counter = 0 } in
    let u = c.in_ok-match_place.ensures.matched s match.Apart (ap Ok (c.in-Some-Apart.is ∙ ap Some c.in-Some-Apart.field-0-is)) in
    let more : c.saturating_add.result ≡ c.args.number.now + 1 = omega arith in
    subst (λ r. c.saturating_add.result ≡ c.args.number.now + length (rules_in (r ∷ []))) (sym u.1) more
