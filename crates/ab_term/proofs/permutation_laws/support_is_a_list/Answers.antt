use Rattle.ab_term.specs.Names.{support}
use Rattle.ab_term.proofs.Ordering.{order_of, order_unique}
use Rattle.ab_term.proofs.permutation_laws.support_is_a_list.Goals as goal

pub returns-clause-some : goal.returns-clause-some
returns-clause-some g c = λ t. order_of (support t)

pub returns-clause-one : goal.returns-clause-one
returns-clause-one g c = λ t list more one o p. order_unique (support t) list more one o p
