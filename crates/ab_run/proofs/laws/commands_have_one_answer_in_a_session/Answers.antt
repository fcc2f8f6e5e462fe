use Rattle.ab_session.specs.Contents.{Contents, state_of}
use Rattle.ab_session.specs.Origins.{IsSession}
use Rattle.ab_determinism.specs.Sound.{AreSound}
use Rattle.ab_determinism.proofs.Sound.{sound_beginning}
use Rattle.ab_determinism.proofs.Taking.{sound_replay}
use Rattle.ab_determinism.proofs.OneEffect.{one_effect}
use Rattle.ab_run.proofs.laws.commands_have_one_answer_in_a_session.Goals as goal

-- what a session declares is sound, since its kept commands lead to it
declares_soundly : (s : Contents) → IsSession s → AreSound (state_of s).declarations
declares_soundly s is = (sound_replay is.replayed sound_beginning).declarations

pub returns-clause-replies : goal.returns-clause-replies
returns-clause-replies c = λ s bytes loads others rest more r q t u is alike a b. (one_effect (state_of s) (declares_soundly s is) bytes rest more alike a b).0

pub returns-clause-states : goal.returns-clause-states
returns-clause-states c = λ s bytes loads others rest more r q t u is alike a b. (one_effect (state_of s) (declares_soundly s is) bytes rest more alike a b).1

pub returns-clause-loads : goal.returns-clause-loads
returns-clause-loads c = λ s bytes loads others rest more r q t u is alike a b. (one_effect (state_of s) (declares_soundly s is) bytes rest more alike a b).2
