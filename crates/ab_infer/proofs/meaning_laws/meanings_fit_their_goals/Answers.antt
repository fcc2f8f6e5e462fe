use Rattle.ab_infer.proofs.FittingMeanings.{fits, formula}
use Rattle.ab_infer.proofs.meaning_laws.meanings_fit_their_goals.Goals as goal

pub returns-clause-fits : goal.returns-clause-fits
returns-clause-fits c D lists s is e A t m = fits D s lists e A t m is.one_type

pub returns-clause-formulas : goal.returns-clause-formulas
returns-clause-formulas c D lists s plain e F m = formula D s lists plain e F m
