use Rattle.std.proofs.Common.{◌≡◌, List, [], refl, map, sym, ◌∙◌, ap, subst}
use Rattle.ab_formulas.specs.NewNames.{Label}
use Rattle.ab_formulas.specs.Sequents.{Sequent}
use Rattle.ab_logic.specs.Worlds.{declarations_of}
use Rattle.ab_steps.specs.ab_kernel.specs.ab_judgements.specs.ab_alternatives.specs.ab_equations.specs.Labels.{label_of}
use Rattle.ab_unify.specs.Problem.{cells_read}
use Rattle.ab_theory.specs.Steps.{Step}
use Rattle.ab_theory.specs.Rules.{NamedRule, Fails}
use Rattle.ab_theory.specs.Derivations.{debts_of}
use Rattle.ab_steps.specs.ab_kernel.specs.ab_rules.specs.SizeSteps.{step_by}
use Rattle.ab_steps.specs.Progress.{SolvesNothing}
use Rattle.ab_steps.proofs.Following.{at_first, first_at, some_goal, follows_free}
use Rattle.ab_conclusion.specs.InductionSizes.{MayGetSizes, GetsNoSizes}
use Rattle.ab_conclusion.proofs.Sizes.{same_fault, step_plain, step_free, step_sure, step_leads, step_refused}
use Rattle.ab_conclusion.proofs.inductions.give_sizes.Goals as goal

pub surely-requires-clause-step : goal.surely-requires-clause-step
surely-requires-clause-step g c = c.in_ok-step.ensures.held c.args.world.now

pub surely-requires-clause-plain : goal.surely-requires-clause-plain
surely-requires-clause-plain g c =
    subst SolvesNothing (sym (c.in_ok-step.ensures.reads c.args.world.now)) (step_plain c.args.kind c.args.places.now (map label_of c.in_ok-labels.labels.items))

pub surely-requires-clause-place : goal.surely-requires-clause-place
surely-requires-clause-place g c = some_goal _ c.requires.open

pub surely-requires-clause-sure : goal.surely-requires-clause-sure
surely-requires-clause-sure g c before behind s at i f =
    let w = c.args.world.now in
    let D = declarations_of w in
    let l = label_of c.args.label.now in
    let k = c.args.kind in
    let ns = c.args.places.now in
    let ms = map label_of c.in_ok-labels.labels.items in
    let here = c.first_goal-goal.ensures.reads s behind (at_first w c.args.proof.now before behind s at) in
    let may : MayGetSizes D l s k ns ms = subst (λ t. MayGetSizes D l t k ns ms) here c.in_ok-labels.ensures.named in
    step_sure D l s ns ms k (cells_read w.types w.store) may i (subst (λ (t : Step). Fails D (cells_read w.types w.store) t s i) (c.in_ok-step.ensures.reads w) f)

pub returns-in_err-labels-clause-refused : goal.returns-in_err-labels-clause-refused
returns-in_err-labels-clause-refused g c fault same s rest e =
    let w = c.args.world.now in
    let D = declarations_of w in
    let l = label_of c.args.label.now in
    let k = c.args.kind in
    let ns = c.args.places.now in
    let here = c.first_goal-goal.ensures.reads s rest e in
    let cause = c.in_err-labels.ensures.refused c.in_err-labels.field-0.0 refl in
    step_refused D l s ns k fault
    (subst (GetsNoSizes D l s k ns) (same_fault c.from_residual.result c.in_err-labels.field-0.0 fault c.from_residual.ensures.1 same)
    (subst (λ t. GetsNoSizes D l t k ns c.in_err-labels.field-0.0) here cause))

pub returns-in_err-surely-clause-follows : goal.returns-in_err-surely-clause-follows
returns-in_err-surely-clause-follows g c =
    let free = ap debts_of (c.in_ok-step.ensures.reads c.args.world.now) ∙ step_free c.args.kind c.args.places.now (map label_of c.in_ok-labels.labels.items) in
    follows_free _ free c.surely.ensures.follows

pub returns-clause-follows : goal.returns-clause-follows
returns-clause-follows g c =
    let free = ap debts_of (c.in_ok-step.ensures.reads c.args.world.now) ∙ step_free c.args.kind c.args.places.now (map label_of c.in_ok-labels.labels.items) in
    follows_free _ free c.surely.ensures.follows

pub returns-clause-applied : goal.returns-clause-applied
returns-clause-applied g c s rest e =
    let w = c.args.world.now in
    let D = declarations_of w in
    let l = label_of c.args.label.now in
    let k = c.args.kind in
    let ns = c.args.places.now in
    let ms = map label_of c.in_ok-labels.labels.items in
    let here = c.first_goal-goal.ensures.reads s rest e in
    let may : MayGetSizes D l s k ns ms = subst (λ t. MayGetSizes D l t k ns ms) here c.in_ok-labels.ensures.named in
    let t = c.in_ok-surely.ensures.took [] rest s (first_at w c.args.proof.now s rest e) in
    (t.0, step_leads D l s ns ms k may t.0 (subst (λ (x : Step). NamedRule D x s t.0) (c.in_ok-step.ensures.reads w) t.1), t.2)
