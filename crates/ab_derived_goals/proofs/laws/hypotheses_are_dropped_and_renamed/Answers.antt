use Rattle.std.specs.Prelude.{[], ◌∷◌}
use Rattle.ab_formulas.specs.Sequents.{assuming, without}
use Rattle.ab_effects.specs.ProofCommands.{cleared}
use Rattle.ab_derived_goals.proofs.Trees.{left}
use Rattle.ab_derived_goals.proofs.Hypotheses.{all_dropped, renamed, all_split}
use Rattle.ab_derived_goals.proofs.laws.hypotheses_are_dropped_and_renamed.Goals as goal

pub returns-clause-dropped : goal.returns-clause-dropped
returns-clause-dropped c D s Hs sound is = all_dropped D sound Hs s (cleared Hs s ∷ []) [] is (λ it. left D (cleared Hs s))

pub returns-clause-renamed : goal.returns-clause-renamed
returns-clause-renamed c D s H x F sound is has new = renamed D sound s H x F (assuming x F (without H s) ∷ []) [] is has new (λ it. left D (assuming x F (without H s)))

pub returns-clause-split : goal.returns-clause-split
returns-clause-split c D s sound is = all_split D sound s s.conclusion is
