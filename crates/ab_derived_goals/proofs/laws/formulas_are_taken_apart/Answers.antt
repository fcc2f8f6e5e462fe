use Rattle.std.proofs.Common.{refl}
use Rattle.ab_formulas.specs.Forms.{form_of}
use Rattle.ab_derived_goals.proofs.Casing.{cased}
use Rattle.ab_derived_goals.proofs.Introducing.{taken_off}
use Rattle.ab_derived_goals.proofs.laws.formulas_are_taken_apart.Goals as goal

pub returns-clause-conclusion : goal.returns-clause-conclusion
returns-clause-conclusion c D xs ys s u sound is d = taken_off D sound s u is d

pub returns-clause-hypothesis : goal.returns-clause-hypothesis
returns-clause-hypothesis c D l s H F keep ps sound is has h = cased D sound s is H F has keep l (form_of F) ps refl h
