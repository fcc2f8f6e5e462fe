use Rattle.ab_language_laws.proofs.Agreeing.{type_tokens, type_alike}
use Rattle.ab_language_laws.proofs.Telling.{alike_same, type_other}
use Rattle.ab_language_laws.proofs.depths.nesting_of_a_type.Goals as goal

pub returns : goal.returns
returns c = record { tokens = λ ts a d. type_tokens d; nesting = type_alike; same = λ ts a d. alike_same (type_alike ts a d) (type_other d) }
