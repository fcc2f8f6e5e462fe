use Rattle.ab_formulas.specs.Declarations.{signature_in}
use Rattle.ab_formulas.specs.NewNames.{IsNoVariable}
use Rattle.ab_theory.specs.SpecRules.{by_part}
use Rattle.ab_coverage.specs.OpenedFormulas.{FullyEqual, NearlyEqual}
use Rattle.ab_coverage.specs.TakenNames.{closes, part_under, taken_off}
use Rattle.ab_coverage.proofs.JudgementLaws.{unfocused_law, focused_law}
use Rattle.ab_coverage.proofs.JudgedGoals.{judged_met}
use Rattle.ab_coverage.proofs.laws.judged_goals_cover.Goals as goal

pub returns-clause-unfocused : goal.returns-clause-unfocused
returns-clause-unfocused c = λ D programs has cells s t H name F j rs gs is cells_known e is_j none known adds split q typed clean B i.
    let r = unfocused_law D programs has cells s t is H name F j e is_j rs q typed clean B none known i in
    judged_met FullyEqual (signature_in D) (λ k hint x. IsNoVariable k x) s t name j q B r.0 r.2 rs r.1 cells cells_known adds gs split

pub returns-clause-focused_ones : goal.returns-clause-focused_ones
returns-clause-focused_ones c = λ D programs has cells s t H name F G j rs gs is cells_known e is_j some known adds split q typed clean B i.
    let r = focused_law D programs has cells s t is H name F j e is_j rs q typed clean B G some cells_known known i in
    (r.0, r.1, r.3, λ terms taking. judged_met (λ u v. NearlyEqual u (taken_off (closes i.number (part_under q r.0)) terms v)) (signature_in D) (λ k hint x. IsNoVariable k x) s t name j q B (by_part r.0) (r.4 terms taking) rs r.2 cells cells_known adds gs split)
