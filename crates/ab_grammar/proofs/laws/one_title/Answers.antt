use Rattle.ab_grammar.proofs.OneFile as texts
use Rattle.ab_grammar.proofs.laws.one_title.Goals as goal

pub returns : goal.returns
returns c = texts.one_title
