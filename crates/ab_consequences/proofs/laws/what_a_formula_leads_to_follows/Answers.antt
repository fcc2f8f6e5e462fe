use Rattle.ab_consequences.proofs.Leading.{derive}
use Rattle.ab_consequences.proofs.laws.what_a_formula_leads_to_follows.Goals as goal

pub returns : goal.returns
returns c D N cells ss F Hs k x zs one g are leads has there = derive D N one cells ss F Hs k x zs g are leads has there
