use Rattle.std.proofs.Common.{subst}
use Rattle.ab_norm.specs.ab_store.specs.Naming.{NodeIsTyped}
use Rattle.ab_search_ways.proofs.rigid_heads.unmarked_head.Goals as goal

pub returns-else-is_mark-clause-typed : goal.returns-else-is_mark-clause-typed
returns-else-is_mark-clause-typed c = λ types is. c.if_rigid.ensures.typed types (subst (NodeIsTyped types) c.in-Spine.is (c.view.ensures.typed types is))
