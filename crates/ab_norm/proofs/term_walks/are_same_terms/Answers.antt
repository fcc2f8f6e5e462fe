use Rattle.std.proofs.lemmas.Slice.Eq.{slice_eq-Decides}
use Rattle.ab_norm.proofs.Changed.{one_term}
use Rattle.ab_norm.proofs.term_walks.are_same_terms.Goals as goal

pub returns : goal.returns
returns c = (slice_eq-Decides one_term _ _ _ c.eq.ensures).0
