use Rattle.ab_derived_goals.proofs.Permuting.{conclusion_for, hypothesis_for}
use Rattle.ab_derived_goals.proofs.laws.what_stands_for_a_formula_takes_its_place.Goals as goal

pub returns-clause-conclusion : goal.returns-clause-conclusion
returns-clause-conclusion c D s F sound is stands = conclusion_for D sound s is F stands

pub returns-clause-hypothesis : goal.returns-clause-hypothesis
returns-clause-hypothesis c D s H F G sound is has stands = hypothesis_for D sound s is H F G has stands
