use Rattle.ab_term.specs.Names.{moved_by}
use Rattle.ab_term.specs.Variables.{value_in}
use Rattle.ab_term.proofs.PastHints.{shift_past_hints, instance_past_hints, image_past_hints, rename_past_hints, close_past_hints, abstracted_past_hints}
use Rattle.ab_term.proofs.hints.operations_respect_equality_past_hints.Goals as goal

pub returns-clause-shifts : goal.returns-clause-shifts
returns-clause-shifts g c = λ k t u e. shift_past_hints k t u e

pub returns-clause-instances : goal.returns-clause-instances
returns-clause-instances g c = λ t u v w d e. instance_past_hints t u v w d e

pub returns-clause-images : goal.returns-clause-images
returns-clause-images g c = λ same s r t u a e. image_past_hints (value_in same s) (value_in same r) a t u e

pub returns-clause-permutations : goal.returns-clause-permutations
returns-clause-permutations g c = λ ps t u e. rename_past_hints (moved_by ps) t u e

pub returns-clause-closing : goal.returns-clause-closing
returns-clause-closing g c = λ k h t u e. close_past_hints k h t u e

pub returns-clause-abstracting : goal.returns-clause-abstracting
returns-clause-abstracting g c = λ x A hs t u e. abstracted_past_hints x A hs t u e
