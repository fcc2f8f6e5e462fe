use Rattle.std.proofs.Common.{subst}
use Rattle.ab_norm.specs.ab_store.specs.Naming.{NodeIsTyped}
use Rattle.ab_patterns.proofs.Named.{if_some}
use Rattle.ab_patterns.proofs.names.+inner_head.Goals as goal

pub returns-in-Some-clause-typed : goal.returns-in-Some-clause-typed
returns-in-Some-clause-typed t c = if_some c.lower.result (λ h made types typed. made types (c.in-Some.ensures.typed types typed)) c.lower.ensures.typed

pub returns-in-Spine-clause-typed : goal.returns-in-Spine-clause-typed
returns-in-Spine-clause-typed t c = λ types typed. subst (NodeIsTyped types) c.in-Spine.is (c.view.ensures.typed types typed)
