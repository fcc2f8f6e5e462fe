use Rattle.ab_infer.proofs.Fitting.{reading_fits}
use Rattle.ab_infer.proofs.reading_laws.readings_are_typed.Goals as goal

pub returns : goal.returns
returns c = λ sg made types good G e t A As h r. reading_fits sg made types good h r
