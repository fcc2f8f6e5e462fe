use Rattle.std.specs.Prelude.{[]}
use Rattle.std.proofs.Common.{◌∷◌, sym, ◌∙◌, ap, subst}
use Rattle.ab_formulas.specs.Sequents.{IsUsed}
use Rattle.ab_steps.specs.ab_kernel.specs.Layout.{goals_of}
use Rattle.ab_steps.proofs.Following.{first_at, one_at_least}
use Rattle.ab_hypothesis.proofs.Moves.{on_ok}
use Rattle.ab_hypothesis.proofs.Rows.{some_formula, no_formula, without_none}
use Rattle.ab_hypothesis.proofs.removals.forget_one.Goals as goal

pub forget-requires-clause-there : goal.forget-requires-clause-there
forget-requires-clause-there g c =
    let w = c.args.world.now in
    let p = c.args.proof.now in
    let one = one_at_least (goals_of w p) c.requires.open in
    let used : IsUsed one.0 c.args.name.now = subst (λ s. IsUsed s c.args.name.now) (c.first_goal.ensures.reads one.0 one.1 one.2) ((c.uses.ensures w).0 c.if-uses.true) in
    let some = some_formula one.0 c.args.name.now used in
    (some.0, record { before = []; behind = one.1; goal = one.0; at = first_at w p one.0 one.1 one.2; has = some.1 })

pub returns-then-uses-clause-forgotten : goal.returns-then-uses-clause-forgotten
returns-then-uses-clause-forgotten g c =
    on_ok c.forget.result
    (λ gone s rest e. (gone [] rest s (first_at c.args.world.now c.args.proof.now s rest e)).goals)
    c.forget.ensures.forgotten

pub returns-else-uses-clause-forgotten : goal.returns-else-uses-clause-forgotten
returns-else-uses-clause-forgotten g c s rest e =
    let w = c.args.world.now in
    let here = c.first_goal.ensures.reads s rest e in
    let none = no_formula s c.args.name.now (λ used. let yes = (c.uses.ensures w).1 (subst (λ k. IsUsed k c.args.name.now) (sym here) used) in let no = c.if-uses.false in cc) in
    e ∙ ap (λ t. t ∷ rest) (sym (without_none s c.args.name.now none))
