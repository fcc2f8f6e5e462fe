use Rattle.ab_sigmod.proofs.OneWay.{read_or_refused, one_reading, one_fault}
use Rattle.ab_sigmod.proofs.laws.specifications_are_read_in_one_way.Goals as goal

pub returns-clause-apart : goal.returns-clause-apart
returns-clause-apart c = λ x loads others rest more files fault. read_or_refused x loads others rest more files fault

pub returns-clause-one_front : goal.returns-clause-one_front
returns-clause-one_front c = λ x loads others rest more files declared e a b. (one_reading x loads others rest more files declared e a b).0

pub returns-clause-one_list : goal.returns-clause-one_list
returns-clause-one_list c = λ x loads others rest more files declared e a b. (one_reading x loads others rest more files declared e a b).1

pub returns-clause-one_refused_front : goal.returns-clause-one_refused_front
returns-clause-one_refused_front c = λ x loads others rest more f g e a b. (one_fault x loads others rest more f g e a b).0

pub returns-clause-one_fault : goal.returns-clause-one_fault
returns-clause-one_fault c = λ x loads others rest more f g e a b. (one_fault x loads others rest more f g e a b).1
