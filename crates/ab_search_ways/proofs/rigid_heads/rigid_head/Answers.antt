use Rattle.std.proofs.Common.{subst}
use Rattle.ab_norm.specs.ab_store.specs.Naming.{NodeIsTyped}
use Rattle.ab_search_ways.proofs.rigid_heads.rigid_head.Goals as goal

pub returns-in-Spine-clause-typed : goal.returns-in-Spine-clause-typed
returns-in-Spine-clause-typed c = λ types is. c.if_rigid.ensures.typed types (subst (NodeIsTyped types) c.in-Spine.is (c.view.ensures.typed types is))
