use Rattle.ab_grammar.proofs.Complete.{unique}
use Rattle.ab_grammar.proofs.laws.one_tree.Goals as goal

pub returns : goal.returns
returns c = λ ts t u a b. unique a b
