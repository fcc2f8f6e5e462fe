use Rattle.ab_grammar.proofs.OneFile as texts
use Rattle.ab_grammar.proofs.laws.one_item.Goals as goal

pub returns : goal.returns
returns c = texts.one_item
