use Rattle.std.proofs.Common.{◌≡◌, [], ◌∷◌, take, sym, ◌∙◌, ap, arith}
use Rattle.std.proofs.lemmas.List.{take_all}
use Rattle.ab_formulas.specs.Sequents.{without}
use Rattle.ab_effects.specs.ProofCommands.{cleared}
use Rattle.ab_steps.specs.ab_kernel.specs.Layout.{goals_of}
use Rattle.ab_steps.proofs.Following.{follows_on, one_at_least}
use Rattle.ab_hypothesis.proofs.Rows.{cleared_more}
use Rattle.ab_hypothesis.proofs.removals.forget_all.Goals as goal

pub forget_one-requires-clause-open : goal.forget_one-requires-clause-open
forget_one-requires-clause-open g c e =
    let one = one_at_least (goals_of c.args.world.now c.args.proof.now) c.requires.open in
    let clash : cleared (take c.loop-name.name-index c.args.names.now) one.0 ∷ one.1 ≡ [] = sym (c.loop-name.invariant.gone one.0 one.1 one.2) ∙ e in
    cc

pub returns-in_err-forget_one-clause-follows : goal.returns-in_err-forget_one-clause-follows
returns-in_err-forget_one-clause-follows g c = follows_on _ _ _ _ _ _ c.loop-name.invariant.follows c.forget_one.ensures.follows

pub loop-name-preserved : goal.loop-name-preserved
loop-name-preserved g c = record {
  follows = follows_on _ _ _ _ _ _ c.loop-name.invariant.follows c.forget_one.ensures.follows;
  gone = λ s rest e.
      c.in_ok-forget_one.ensures.forgotten (cleared (take c.loop-name.name-index c.args.names.now) s) rest (c.loop-name.invariant.gone s rest e)
      ∙ ap (λ t. t ∷ rest)
      (ap (λ x. without x (cleared (take c.loop-name.name-index c.args.names.now) s)) c.name-item.is
      ∙ sym (cleared_more c.args.names.now c.loop-name.name-index c.name-item.result s c.loop-name-test.true));
  steps = omega (arith, c.loop-name.invariant.steps, c.forget_one.ensures.steps);
}

pub returns-clause-forgotten : goal.returns-clause-forgotten
returns-clause-forgotten g c s rest e =
    let done = c.loop-name-test.false in
    c.loop-name.invariant.gone s rest e ∙ ap (λ xs. cleared xs s ∷ rest) (take_all c.loop-name.name-index c.args.names.now (omega arith))
