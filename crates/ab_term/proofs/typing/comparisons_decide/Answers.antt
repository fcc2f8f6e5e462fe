use Rattle.ab_term.proofs.Comparisons.{same_type-Decides, same_nominal-Decides}
use Rattle.ab_term.proofs.Same.{same_logical-Decides, same_numbered-Decides, same_head-Decides}
use Rattle.ab_term.proofs.typing.comparisons_decide.Goals as goal

pub returns-clause-types : goal.returns-clause-types
returns-clause-types c = λ A B. ((same_type-Decides A B).0, (same_type-Decides A B).1)

pub returns-clause-names : goal.returns-clause-names
returns-clause-names c = λ a b. ((same_nominal-Decides a b).0, (same_nominal-Decides a b).1)

pub returns-clause-logical_constants : goal.returns-clause-logical_constants
returns-clause-logical_constants c = λ l m. ((same_logical-Decides l m).0, (same_logical-Decides l m).1)

pub returns-clause-variables : goal.returns-clause-variables
returns-clause-variables c = λ y z. ((same_numbered-Decides y z).0, (same_numbered-Decides y z).1)

pub returns-clause-heads : goal.returns-clause-heads
returns-clause-heads c = λ g h. ((same_head-Decides g h).0, (same_head-Decides g h).1)
