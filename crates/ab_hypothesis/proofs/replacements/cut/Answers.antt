use Rattle.std.proofs.Common.{ℕ, [], sym, subst}
use Rattle.ab_formulas.specs.NewNames.{given}
use Rattle.ab_unify.specs.Problem.{cells_read}
use Rattle.ab_logic.specs.Worlds.{declarations_of, read}
use Rattle.ab_theory.specs.Rules.{Fails}
use Rattle.ab_theory.specs.Steps.{cut_formula}
use Rattle.ab_steps.specs.ab_kernel.specs.Layout.{goals_of}
use Rattle.ab_steps.proofs.Following.{first_at, one_at_least, some_goal}
use Rattle.ab_hypothesis.proofs.Changed.{on_ok, cut_made}
use Rattle.ab_hypothesis.proofs.Goes.{holds_at}
use Rattle.ab_hypothesis.proofs.replacements.cut.Goals as goal

pub surely-requires-clause-place : goal.surely-requires-clause-place
surely-requires-clause-place g c = some_goal (goals_of c.args.world.now c.args.proof.now) c.requires.open

pub surely-requires-clause-sure : goal.surely-requires-clause-sure
surely-requires-clause-sure g c =
    let w = c.args.world.now in
    let p = c.args.proof.now in
    let F = read w c.args.formula in
    let cells = cells_read w.types w.store in
    let one = one_at_least (goals_of w p) c.requires.open in
    holds_at w p 0 (cut_formula F (given c.in_ok-given.given)) [] one.1 one.0 (first_at w p one.0 one.1 one.2)
    (subst (λ y. (i : ℕ) → Fails (declarations_of w) cells (cut_formula F (given y)) one.0 i → ⊥) (sym c.in_ok-given.ensures) (c.requires.allowed one.0 one.1 one.2 cells))

pub returns-clause-cut : goal.returns-clause-cut
returns-clause-cut g c =
    on_ok c.surely.result
    (cut_made c.args.world.now c.surely.new.world c.args.proof.now c.surely.new.proof c.args.name.now c.in_ok-given.given (read c.args.world.now c.args.formula) c.in_ok-given.ensures)
    c.surely.ensures.took
