use Rattle.ab_infer.proofs.Apart.{one_not_several}
use Rattle.ab_infer.proofs.reading_laws.readings_exclude_one_another.Goals as goal

pub returns-clause-one : goal.returns-clause-one
returns-clause-one c = λ e A t one none. none one.reading

pub returns-clause-several : goal.returns-clause-several
returns-clause-several c = λ e A p several none. none several.differ.one

pub returns-clause-both : goal.returns-clause-both
returns-clause-both c = λ e A t p one several. one_not_several e A t p one several
