use Rattle.std.proofs.Common.{drop, sym, ◌∙◌, ap, subst}
use Rattle.ab_logic.specs.Forms.{form_read}
use Rattle.ab_formulas.specs.Sequents.{Sequent}
use Rattle.ab_logic.specs.Worlds.{read}
use Rattle.ab_steps.specs.ab_kernel.specs.ab_judgements.specs.ab_alternatives.specs.ab_equations.specs.Labels.{label_of}
use Rattle.ab_conclusion.specs.IntroductionSteps.{IsTakenOff}
use Rattle.ab_conclusion.proofs.Introduces.{Asks, sure_for_all, sure_nabla, for_all_on, constant_on, hypothesis_on, nameless}
use Rattle.ab_steps.proofs.Following.{some_goal}
use Rattle.ab_conclusion.proofs.introductions.introduce_one.Goals as goal

pub surely-requires-clause-place : goal.surely-requires-clause-place
surely-requires-clause-place g c = some_goal _ c.requires.open

pub surely-requires-clause-sure : goal.surely-requires-clause-sure
surely-requires-clause-sure g c =
    let w = c.args.world.now in
    let F = read w c.first_goal.result.now.conclusion in
    let asks : Asks w c.args.proof.now F = λ s rest e. sym (ap (λ (t : Sequent). t.conclusion) (c.first_goal.ensures.reads s rest e)) in
    sure_for_all w c.args.proof.now F _ _ asks (sym c.shape.ensures.reads ∙ ap (form_read w) c.in-Forall.is)

pub returns-in_ok-surely-in-Forall-clause-taken : goal.returns-in_ok-surely-in-Forall-clause-taken
returns-in_ok-surely-in-Forall-clause-taken g c =
    (c.requires.given, for_all_on c.args.world.now c.surely.new.world c.args.proof.now c.surely.new.proof (drop c.args.given c.args.names.now) c.in_ok-surely-in-Forall.ensures.took)

pub surely-requires-in-Nabla-clause-place : goal.surely-requires-in-Nabla-clause-place
surely-requires-in-Nabla-clause-place g c = some_goal _ c.requires.open

pub surely-requires-in-Nabla-clause-sure : goal.surely-requires-in-Nabla-clause-sure
surely-requires-in-Nabla-clause-sure g c =
    let w = c.args.world.now in
    let F = read w c.first_goal.result.now.conclusion in
    let asks : Asks w c.args.proof.now F = λ s rest e. sym (ap (λ (t : Sequent). t.conclusion) (c.first_goal.ensures.reads s rest e)) in
    sure_nabla w c.args.proof.now F _ _ asks (sym c.shape.ensures.reads ∙ ap (form_read w) c.in-Nabla.is)

pub returns-in_ok-surely-in-Nabla-clause-taken : goal.returns-in_ok-surely-in-Nabla-clause-taken
returns-in_ok-surely-in-Nabla-clause-taken g c =
    (c.requires.given, constant_on c.args.world.now c.surely-in-Nabla.new.world c.args.proof.now c.surely-in-Nabla.new.proof (drop c.args.given c.args.names.now) c.in_ok-surely-in-Nabla.ensures.took)

pub attempt-requires-clause-place : goal.attempt-requires-clause-place
attempt-requires-clause-place g c = some_goal _ c.requires.open

pub returns-then-taken-clause-taken : goal.returns-then-taken-clause-taken
returns-then-taken-clause-taken g c =
    let w = c.args.world.now in
    let v = c.attempt.new.world in
    let p = c.args.proof.now in
    let q = c.attempt.new.proof in
    let xs = drop c.args.given c.args.names.now in
    let on = hypothesis_on w v p q xs (label_of c.in_ok-label-in-Arrow.label) c.in_ok-label-in-Arrow.ensures (c.in_ok-taken-in-Arrow.ensures.took c.if-taken.true) in
    (c.one_more.ensures.within, subst (λ ys. IsTakenOff xs ys w p v q) (sym c.one_more.ensures.others) on)

pub returns-else-taken-clause-taken : goal.returns-else-taken-clause-taken
returns-else-taken-clause-taken g c =
    let w = c.args.world.now in
    let F = read w c.first_goal.result.now.conclusion in
    let asks : Asks w c.args.proof.now F = λ s rest e. sym (ap (λ (t : Sequent). t.conclusion) (c.first_goal.ensures.reads s rest e)) in
    nameless w c.args.proof.now (drop c.args.given c.args.names.now) (label_of c.in_ok-label-in-Arrow.label) F _ _ c.in_ok-label-in-Arrow.ensures asks
    (sym c.shape.ensures.reads ∙ ap (form_read w) c.in-Arrow.is) (c.in_ok-taken-in-Arrow.ensures.failed c.if-taken.false)
