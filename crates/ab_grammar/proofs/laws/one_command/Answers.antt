use Rattle.ab_grammar.proofs.OneCommand as texts
use Rattle.ab_grammar.proofs.laws.one_command.Goals as goal

pub returns : goal.returns
returns c = texts.one_command
