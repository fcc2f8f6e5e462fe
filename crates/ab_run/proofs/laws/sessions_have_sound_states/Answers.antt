use Rattle.ab_determinism.proofs.Sound.{sound_beginning}
use Rattle.ab_determinism.proofs.Taking.{sound_replay}
use Rattle.ab_run.proofs.laws.sessions_have_sound_states.Goals as goal

pub returns : goal.returns
returns c = λ s is. sound_replay is.replayed sound_beginning
