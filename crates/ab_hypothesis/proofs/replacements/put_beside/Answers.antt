use Rattle.std.proofs.Common.{[], ◌∷◌, sym, subst}
use Rattle.ab_formulas.specs.Sequents.{proving, assuming}
use Rattle.ab_logic.specs.Worlds.{read}
use Rattle.ab_theory.specs.Steps.{initial}
use Rattle.ab_steps.specs.ab_kernel.specs.Layout.{goals_of}
use Rattle.ab_steps.proofs.Following.{one_at_least, first_at, follows_on}
use Rattle.ab_consequences.specs.Standing.{IsAllowed}
use Rattle.ab_hypothesis.proofs.Changed.{on_ok, put}
use Rattle.ab_hypothesis.proofs.replacements.put_beside.Goals as goal

pub close-requires-clause-there : goal.close-requires-clause-there
close-requires-clause-there g c =
    let w = c.args.world.now in
    let p = c.args.proof.now in
    let F = read w c.args.formula in
    let one = one_at_least (goals_of w p) c.requires.open in (
      [],
      assuming c.args.own.now F one.0 ∷ one.1,
      proving F one.0,
      first_at c.cut.new.world c.cut.new.proof (proving F one.0) (assuming c.args.own.now F one.0 ∷ one.1) (c.in_ok-cut.ensures.cut one.0 one.1 one.2),
      subst (λ D. IsAllowed D (initial c.args.name.now) (proving F one.0)) (sym c.cut.ensures.follows.declared) (c.requires.from one.0 one.1 one.2),
    )

pub returns-clause-follows : goal.returns-clause-follows
returns-clause-follows g c = follows_on _ _ _ _ _ _ c.cut.ensures.follows c.close.ensures.follows

pub returns-clause-put : goal.returns-clause-put
returns-clause-put g c =
    let w = c.args.world.now in
    on_ok c.close.result
    (put w c.cut.new.world c.close.new.world c.args.proof.now c.cut.new.proof c.close.new.proof c.args.own.now (read w c.args.formula) c.in_ok-cut.ensures.cut)
    c.close.ensures.closed
