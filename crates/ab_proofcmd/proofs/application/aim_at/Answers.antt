use Rattle.std.specs.Prelude.{[], None, ◌++◌, All, map}
use Rattle.std.specs.Option.{option_map}
use Rattle.std.proofs.Common.{◌≡◌, sym, ◌∙◌, ap, subst, rules}
use Rattle.std.proofs.lemmas.List.Elements.{All-nil}
use Rattle.ab_syntax.specs.Commands.{argument_of}
use Rattle.ab_logic.specs.SequentReadings.{sequent_of}
use Rattle.ab_logic.specs.Worlds.{read}
use Rattle.ab_uses.specs.GivenReadings.{HoldsIfAny}
use Rattle.ab_effects.specs.FormulaUses.{formulas_in}
use Rattle.ab_proofcmd.proofs.application.aim_at.Goals as goal

pub returns-clause-aim : goal.returns-clause-aim
returns-clause-aim c w =
    let none : c.new-hypotheses.result.items ≡ [] = search rules in
    let fs = formulas_in (sequent_of w c.args.goal.now) (map argument_of c.args.arguments.now) in
    ap (λ hs. record { hypotheses = hs; conclusion = None }) (c.in_ok-add_formulas.ensures.reads w ∙ ap (λ l. map (option_map (read w)) l ++ fs) none)

pub returns-clause-held : goal.returns-clause-held
returns-clause-held c w there =
    let none : c.new-hypotheses.result.items ≡ [] = search rules in
    c.in_ok-add_formulas.ensures.held w there (subst (All (HoldsIfAny w)) (sym none) (All-nil (HoldsIfAny w)))
