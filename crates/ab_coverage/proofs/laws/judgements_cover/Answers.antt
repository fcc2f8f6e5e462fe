use Rattle.ab_coverage.proofs.JudgementLaws.{unfocused_law, focused_law}
use Rattle.ab_coverage.proofs.laws.judgements_cover.Goals as goal

pub returns-clause-unfocused : goal.returns-clause-unfocused
returns-clause-unfocused c = λ D programs has cells s t H name F j rs is e is_j none known q typed clean B i.
    unfocused_law D programs has cells s t is H name F j e is_j rs q typed clean B none known i

pub returns-clause-focused_ones : goal.returns-clause-focused_ones
returns-clause-focused_ones c = λ D programs has cells s t H name F G j rs is cells_known e is_j some known q typed clean B i.
    focused_law D programs has cells s t is H name F j e is_j rs q typed clean B G some cells_known known i
