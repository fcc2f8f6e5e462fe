use Rattle.std.proofs.Common.{◌∙◌, ap}
use Rattle.ab_formulas.specs.Declarations.{theorem_in}
use Rattle.ab_logic.specs.Worlds.{declarations_of}
use Rattle.ab_effects.specs.FormulaUses.{formula_or}
use Rattle.ab_proofcmd.proofs.questions.formula_named.Goals as goal

pub returns-in-Some-clause-reads : goal.returns-in-Some-clause-reads
returns-in-Some-clause-reads c =
    let w = c.args.world.now in
    ap (λ o. formula_or o (theorem_in (declarations_of w) c.args.name.now)) (c.in-Some.ensures.reads w)

pub returns-in-None-clause-reads : goal.returns-in-None-clause-reads
returns-in-None-clause-reads c =
    let w = c.args.world.now in
    c.theorem.ensures.reads ∙ ap (λ o. formula_or o (theorem_in (declarations_of w) c.args.name.now)) (c.in-None.ensures.reads w)
