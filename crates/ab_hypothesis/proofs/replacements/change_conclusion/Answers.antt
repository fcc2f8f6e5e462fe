use Rattle.std.proofs.Common.{[], ◌∷◌, sym, ◌∙◌, ap, subst}
use Rattle.ab_formulas.specs.Sequents.{formula_of, proving, assuming}
use Rattle.ab_logic.specs.Worlds.{declarations_of, read}
use Rattle.ab_theory.specs.Steps.{initial}
use Rattle.ab_steps.specs.ab_kernel.specs.Layout.{goals_of}
use Rattle.ab_steps.proofs.Following.{one_at_least, follows_on}
use Rattle.ab_consequences.specs.Standing.{IsAllowed}
use Rattle.ab_consequences.proofs.Allowed.{cut_in, leads_back}
use Rattle.ab_hypothesis.proofs.Changed.{on_ok, second_at, conclusion_changed}
use Rattle.ab_hypothesis.proofs.replacements.change_conclusion.Goals as goal

pub cut-requires-clause-allowed : goal.cut-requires-clause-allowed
cut-requires-clause-allowed g c s rest goals =
    let w = c.args.world.now in
    cut_in (declarations_of w) s (read w c.args.formula) s.conclusion (c.requires.stands s rest goals) c.in_ok-own.own
    (ap (λ k. formula_of k c.in_ok-own.own) (sym (c.first_goal.ensures.reads s rest goals)) ∙ c.in_ok-own.ensures.new w)

pub close-requires-clause-there : goal.close-requires-clause-there
close-requires-clause-there g c =
    let w = c.args.world.now in
    let p = c.args.proof.now in
    let F = read w c.args.formula in
    let own = c.in_ok-own.own in
    let one = one_at_least (goals_of w p) c.requires.open in (
      proving F one.0 ∷ [],
      one.1,
      assuming own F one.0,
      second_at c.cut.new.world c.cut.new.proof own F one.0 one.1 (c.in_ok-cut.ensures.cut one.0 one.1 one.2),
      subst (λ D. IsAllowed D (initial own) (assuming own F one.0)) (sym c.cut.ensures.follows.declared)
          (leads_back (declarations_of w) one.0 F own (c.requires.stands one.0 one.1 one.2)
          (ap (λ k. formula_of k own) (sym (c.first_goal.ensures.reads one.0 one.1 one.2)) ∙ c.in_ok-own.ensures.new w)),
    )

pub returns-clause-follows : goal.returns-clause-follows
returns-clause-follows g c = follows_on _ _ _ _ _ _ c.cut.ensures.follows c.close.ensures.follows

pub returns-clause-changed : goal.returns-clause-changed
returns-clause-changed g c =
    let w = c.args.world.now in
    on_ok c.close.result
    (conclusion_changed w c.cut.new.world c.close.new.world c.args.proof.now c.cut.new.proof c.close.new.proof c.in_ok-own.own (read w c.args.formula) c.in_ok-cut.ensures.cut)
    c.close.ensures.closed
