use Rattle.std.proofs.Common.{sym}
use Rattle.ab_kernel.proofs.rule_table.premises.Goals as goal

pub returns-in-TrueRight-clause-answers : goal.returns-in-TrueRight-clause-answers
returns-in-TrueRight-clause-answers g c = rw c.in-TrueRight.is c.true_right.ensures

pub returns-in-FalseLeft-clause-answers : goal.returns-in-FalseLeft-clause-answers
returns-in-FalseLeft-clause-answers g c = rw c.in-FalseLeft.is c.false_left.ensures

pub returns-in-AndRight-clause-answers : goal.returns-in-AndRight-clause-answers
returns-in-AndRight-clause-answers g c = rw c.in-AndRight.is c.and_right.ensures

pub returns-in-AndLeft-clause-answers : goal.returns-in-AndLeft-clause-answers
returns-in-AndLeft-clause-answers g c = rw c.in-AndLeft.is c.and_left.ensures

pub returns-in-OrRight-clause-answers : goal.returns-in-OrRight-clause-answers
returns-in-OrRight-clause-answers g c = rw c.in-OrRight.is c.or_right.ensures

pub returns-in-OrLeft-clause-answers : goal.returns-in-OrLeft-clause-answers
returns-in-OrLeft-clause-answers g c = rw c.in-OrLeft.is c.or_left.ensures

pub returns-in-ArrowRight-clause-answers : goal.returns-in-ArrowRight-clause-answers
returns-in-ArrowRight-clause-answers g c = rw c.in-ArrowRight.is c.arrow_right.ensures

pub returns-in-ArrowLeft-clause-answers : goal.returns-in-ArrowLeft-clause-answers
returns-in-ArrowLeft-clause-answers g c = rw c.in-ArrowLeft.is c.arrow_left.ensures

pub returns-in-EqualRight-clause-answers : goal.returns-in-EqualRight-clause-answers
returns-in-EqualRight-clause-answers g c = rw c.in-EqualRight.is c.equal_right.ensures

pub returns-in-UseTheorem-clause-answers : goal.returns-in-UseTheorem-clause-answers
returns-in-UseTheorem-clause-answers g c = rw c.in-UseTheorem.is c.use_theorem.ensures

pub returns-in-Weaken-clause-answers : goal.returns-in-Weaken-clause-answers
returns-in-Weaken-clause-answers g c = rw c.in-Weaken.is c.weaken.ensures

pub returns-in-ForallRight-clause-answers : goal.returns-in-ForallRight-clause-answers
returns-in-ForallRight-clause-answers g c = rw c.in-ForallRight.is c.for_all_right.ensures.answers

pub returns-in-ExistsLeft-clause-answers : goal.returns-in-ExistsLeft-clause-answers
returns-in-ExistsLeft-clause-answers g c = rw c.in-ExistsLeft.is c.exists_left.ensures.answers

pub returns-in-NablaRight-clause-answers : goal.returns-in-NablaRight-clause-answers
returns-in-NablaRight-clause-answers g c = rw c.in-NablaRight.is c.nabla_right.ensures.answers

pub returns-in-NablaLeft-clause-answers : goal.returns-in-NablaLeft-clause-answers
returns-in-NablaLeft-clause-answers g c = rw c.in-NablaLeft.is c.nabla_left.ensures.answers

pub returns-in-Initial-clause-answers : goal.returns-in-Initial-clause-answers
returns-in-Initial-clause-answers g c = rw c.in-Initial.is c.initial.ensures.answers

pub returns-in-ForallLeft-clause-answers : goal.returns-in-ForallLeft-clause-answers
returns-in-ForallLeft-clause-answers g c = rw c.in-ForallLeft.is c.for_all_left.ensures.answers

pub returns-in-ExistsRight-clause-answers : goal.returns-in-ExistsRight-clause-answers
returns-in-ExistsRight-clause-answers g c = rw c.in-ExistsRight.is c.exists_right.ensures.answers

pub returns-in-CutFormula-clause-answers : goal.returns-in-CutFormula-clause-answers
returns-in-CutFormula-clause-answers g c = rw c.in-CutFormula.is c.cut_formula.ensures

pub returns-in-EqualLeft-clause-answers : goal.returns-in-EqualLeft-clause-answers
returns-in-EqualLeft-clause-answers g c = rw c.in-EqualLeft.is c.equal_left.ensures.answers

pub returns-in-DefRight-clause-answers : goal.returns-in-DefRight-clause-answers
returns-in-DefRight-clause-answers g c = rw c.in-DefRight.is c.definition_right.ensures.answers

pub returns-in-DefLeft-clause-answers : goal.returns-in-DefLeft-clause-answers
returns-in-DefLeft-clause-answers g c = rw c.in-DefLeft.is c.definition_left.ensures.answers

pub returns-in-SpecCut-clause-answers : goal.returns-in-SpecCut-clause-answers
returns-in-SpecCut-clause-answers g c = rw c.in-SpecCut.is c.spec_cut.ensures.answers

pub returns-in-SpecMonotone-clause-answers : goal.returns-in-SpecMonotone-clause-answers
returns-in-SpecMonotone-clause-answers g c = rw c.in-SpecMonotone.is c.spec_monotone.ensures.answers

pub returns-in-SpecInst-clause-answers : goal.returns-in-SpecInst-clause-answers
returns-in-SpecInst-clause-answers g c = rw c.in-SpecInst.is (rw (sym c.as_slice-replaces.ensures) c.spec_instance.ensures.answers)
