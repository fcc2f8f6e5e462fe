use Rattle.ab_unifiers.proofs.Leading.{leads_or_stuck, not_both, leads_one, stuck_one}
use Rattle.ab_unifiers.proofs.case_laws.analyses_are_determined.Goals as goal

pub returns-clause-some : goal.returns-clause-some
returns-clause-some g c = λ x alts. leads_or_stuck x alts

pub returns-clause-not_both : goal.returns-clause-not_both
returns-clause-not_both g c = λ x alts ps i p q. not_both x p q

pub returns-clause-one_list : goal.returns-clause-one_list
returns-clause-one_list g c = λ x alts ps qs p q. leads_one x p q

pub returns-clause-one_place : goal.returns-clause-one_place
returns-clause-one_place g c = λ x alts i j p q. stuck_one x p q
