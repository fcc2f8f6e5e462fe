use Rattle.ab_consequences.proofs.UsesFollow.{follows}
use Rattle.ab_consequences.proofs.laws.what_a_use_leads_to_follows.Goals as goal

pub returns : goal.returns
returns c D u K may is k x zs left = follows D u K may is k x zs left
