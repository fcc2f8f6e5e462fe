use Rattle.ab_session.specs.ab_states.specs.Replay.{none}
use Rattle.ab_run.proofs.Replaying.{all_replayed}
use Rattle.ab_run.proofs.laws.kept_commands_replay.Goals as goal

pub returns : goal.returns
returns c = λ way text loads r x. all_replayed x.reports none
