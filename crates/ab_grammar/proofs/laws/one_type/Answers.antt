use Rattle.ab_grammar.proofs.Types.{reads_type}
use Rattle.ab_grammar.proofs.laws.one_type.Goals as goal

pub returns : goal.returns
returns c = λ ts a b d e. let p = reads_type d in let q = reads_type e in cc
