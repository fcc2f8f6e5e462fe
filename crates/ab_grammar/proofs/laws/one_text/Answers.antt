use Rattle.ab_grammar.proofs.OneText as texts
use Rattle.ab_grammar.proofs.laws.one_text.Goals as goal

pub returns : goal.returns
returns c = texts.one_text
