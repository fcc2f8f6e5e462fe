use Rattle.ab_grammar.proofs.Standing.{one_stand, command_stands}
use Rattle.ab_grammar.proofs.laws.one_place.Goals as goal

pub returns : goal.returns
returns c = record { one = one_stand; of_a_command = command_stands }
