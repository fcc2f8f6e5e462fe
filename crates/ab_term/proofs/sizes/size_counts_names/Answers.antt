use Rattle.ab_term.proofs.Sizing.{size-abstracted, size-given_hints}
use Rattle.ab_term.proofs.sizes.size_counts_names.Goals as goal

pub returns-clause-abstracted : goal.returns-clause-abstracted
returns-clause-abstracted g c = λ A x hs t l. size-abstracted x A hs t l

pub returns-clause-given : goal.returns-clause-given
returns-clause-given g c = λ sg G A B x hs v n d. size-given_hints sg x v n d
