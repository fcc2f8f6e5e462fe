use Rattle.std.specs.Prelude.{[], ◌++◌, All}
use Rattle.std.specs.Option.{option_map}
use Rattle.std.proofs.Common.{◌≡◌, ◌∷◌, map, sym, ◌∙◌, ap, subst, append-nil, arith}
use Rattle.std.proofs.lemmas.List.{take_all}
use Rattle.std.proofs.lemmas.List.Elements.{All-push}
use Rattle.ab_syntax.specs.Commands.{argument_of}
use Rattle.ab_logic.specs.SequentReadings.{sequent_of}
use Rattle.ab_logic.specs.Worlds.{read}
use Rattle.ab_uses.specs.GivenReadings.{HoldsIfAny}
use Rattle.ab_effects.specs.FormulaUses.{formulas_in}
use Rattle.ab_proofcmd.proofs.Named.{formula_added}
use Rattle.ab_proofcmd.proofs.questions.add_formulas.Goals as goal

pub loop-argument-init : goal.loop-argument-init
loop-argument-init c = record {
  reads = λ w. sym (append-nil (map (option_map (read w)) c.args.formulas.now.items));
  held = λ w there all. all;
}

pub loop-argument-preserved : goal.loop-argument-preserved
loop-argument-preserved c = record {
  reads = λ w.
      formula_added c.args.arguments.now c.loop-argument.argument-index c.argument-item.result c.loop-argument-test.true c.argument-item.is w (sequent_of w c.args.goal.now)
      c.args.formulas.now.items c.loop-argument.formulas.items c.push.new.self.items c.formula_met.result c.in_ok-push.ensures.items (c.loop-argument.invariant.reads w) (c.formula_met.ensures.reads w);
  held = λ w there all.
      subst (All (HoldsIfAny w)) (sym c.in_ok-push.ensures.items)
      (All-push (HoldsIfAny w) c.loop-argument.formulas.items c.formula_met.result (c.loop-argument.invariant.held w there all) (c.formula_met.ensures.held w there));
}

pub returns-clause-reads : goal.returns-clause-reads
returns-clause-reads c w =
    let done = c.loop-argument-test.false in
    c.loop-argument.invariant.reads w
    ∙ ap (λ vs. map (option_map (read w)) c.args.formulas.now.items ++ formulas_in (sequent_of w c.args.goal.now) (map argument_of vs))
    (take_all c.loop-argument.argument-index c.args.arguments.now (omega arith))
