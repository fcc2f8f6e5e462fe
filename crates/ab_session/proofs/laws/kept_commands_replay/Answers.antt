use Rattle.ab_states.specs.Replay.{none}
use Rattle.ab_states.proofs.Replaying.{replays_on}
use Rattle.ab_session.proofs.laws.kept_commands_replay.Goals as goal

pub returns-clause-begins : goal.returns-clause-begins
returns-clause-begins c = none

pub returns-clause-goes_on : goal.returns-clause-goes_on
returns-clause-goes_on c = λ s t bytes loads reply is h. replays_on h is
