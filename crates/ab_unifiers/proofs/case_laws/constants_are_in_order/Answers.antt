use Rattle.ab_unifiers.proofs.Choosing.{ordered_pairs, ordered_contains, contains_ordered}
use Rattle.ab_unifiers.proofs.Ordered.{ordered_sorted}
use Rattle.ab_unifiers.proofs.case_laws.constants_are_in_order.Goals as goal

pub returns : goal.returns
returns g = λ xs. record { same = λ a. (contains_ordered xs a, ordered_contains xs a); once = ordered_pairs xs; order = ordered_sorted xs }
