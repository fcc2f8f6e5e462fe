use Rattle.ab_consequences.proofs.Allowed.{cut_in, follows_from, leads_back}
use Rattle.ab_consequences.proofs.laws.what_stands_for_a_formula_follows.Goals as goal

pub returns-clause-cut : goal.returns-clause-cut
returns-clause-cut c D s F G y stands = cut_in D s F G stands y

pub returns-clause-from : goal.returns-clause-from
returns-clause-from c D s F G x stands = follows_from D s F G stands x

pub returns-clause-back : goal.returns-clause-back
returns-clause-back c D s F y stands = leads_back D s F y stands
