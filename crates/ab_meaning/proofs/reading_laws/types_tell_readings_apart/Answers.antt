use Rattle.std.proofs.Common.{refl}
use Rattle.ab_meaning.proofs.Members.{one_term}
use Rattle.ab_meaning.proofs.reading_laws.types_tell_readings_apart.Goals as goal

pub returns : goal.returns
returns c = λ made types others G e t u A B As d h. one_term d h refl refl
