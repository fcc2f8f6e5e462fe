use Rattle.ab_steps.proofs.Following.{nothing_left}
use Rattle.ab_steps.proofs.laws.nothing_is_left_of_steps_taken_back.Goals as goal

pub returns : goal.returns
returns c w v p q f same = nothing_left w v p q f same
