use Rattle.std.specs.Prelude.{IsTrue, ◌↔◌}
use Rattle.std.proofs.Common.{◌∙◌}
use Rattle.std.proofs.lemmas.Result.{IfOk-weaker}
use Rattle.ab_term.specs.Types.{prop}
use Rattle.ab_formulas.specs.GoalTerms as term
use Rattle.ab_formulas.specs.Formulas.{IsFormula}
use Rattle.ab_logic.specs.Worlds.{read}
use Rattle.ab_rules.proofs.Words.{in_words, all_held}
use Rattle.ab_rules.proofs.term_fit.formula_fits_in.Goals as goal

pub fits_as_formula-requires-clause-before : goal.fits_as_formula-requires-clause-before
fits_as_formula-requires-clause-before c = all_held c.args.world.now c.args.sequent.now c.requires.held c.deref.result.now (c.deref.ensures.value ∙ c.in_ok-before.ensures)

pub returns : goal.returns
returns c =
    let w = c.args.world.now in
    IfOk-weaker c.fits_as_formula.result _ _
    (λ yes e. in_words w c.requires.world c.args.sequent.now c.as_slice.result.now c.deref.result.now c.as_slice.ensures (c.deref.ensures.value ∙ c.in_ok-before.ensures)
    (λ sg xs Fs. IsTrue yes ↔ (term.Fits sg xs Fs (read w c.args.formula) prop × IsFormula sg (read w c.args.formula))) e)
    c.fits_as_formula.ensures
