use Rattle.ab_determinism.proofs.Sound.{sound_beginning}
use Rattle.ab_determinism.proofs.Taking.{sound_effect}
use Rattle.ab_determinism.proofs.effect_laws.effects_keep_states_sound.Goals as goal

pub returns-clause-kept : goal.returns-clause-kept
returns-clause-kept c = λ s bytes loads r t sound e. sound_effect e sound

pub returns-clause-beginning : goal.returns-clause-beginning
returns-clause-beginning c = sound_beginning
