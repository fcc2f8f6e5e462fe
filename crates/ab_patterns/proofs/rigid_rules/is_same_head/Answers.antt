use Rattle.std.proofs.Common.{rules}
use Rattle.ab_patterns.proofs.rigid_rules.is_same_head.Goals as goal

pub returns : goal.returns
returns c = (λ e. search rules, λ e. search rules)
