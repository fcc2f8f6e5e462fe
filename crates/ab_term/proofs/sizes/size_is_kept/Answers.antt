use Rattle.ab_term.specs.Names.{moved_by}
use Rattle.ab_term.proofs.Sizing.{size-shift, size-rename, size-translate, size-close}
use Rattle.ab_term.proofs.sizes.size_is_kept.Goals as goal

pub returns-clause-shifts : goal.returns-clause-shifts
returns-clause-shifts g c = λ k t. size-shift k t

pub returns-clause-permutations : goal.returns-clause-permutations
returns-clause-permutations g c = λ ps t. size-rename (moved_by ps) t

pub returns-clause-hints : goal.returns-clause-hints
returns-clause-hints g c = λ t. size-translate (λ v. v) (λ y. tt) t

pub returns-clause-closing : goal.returns-clause-closing
returns-clause-closing g c = λ k h t. size-close k h t
