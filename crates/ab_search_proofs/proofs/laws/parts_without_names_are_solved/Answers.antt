use Rattle.ab_search_proofs.proofs.PartAlone.{part_without_names}
use Rattle.ab_search_proofs.proofs.laws.parts_without_names_are_solved.Goals as goal

pub returns : goal.returns
returns c = λ D has ys C formula known j is may F focused rs rules p there none meets. part_without_names D has ys C formula known j is may F focused rs rules p there none meets
