use Rattle.ab_states.proofs.Assumed.{are_proved}
use Rattle.ab_states.proofs.laws.what_assumes_nothing_is_proved.Goals as goal

pub returns : goal.returns
returns c = are_proved
