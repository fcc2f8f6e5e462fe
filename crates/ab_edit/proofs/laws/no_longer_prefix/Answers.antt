use Rattle.ab_edit.proofs.Longest.{front_of_longest}
use Rattle.ab_edit.proofs.laws.no_longer_prefix.Goals as goal

pub returns : goal.returns
returns g c = front_of_longest (g.R.Replay.test c.args.replay.now) c.requires.one_answer
