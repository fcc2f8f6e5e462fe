use Rattle.std.proofs.Common.{subst}
use Rattle.ab_norm.specs.ab_store.specs.Naming.{NodeIsTyped, HeadIsTyped}
use Rattle.ab_sequents.proofs.places.sign_as.Goals as goal

pub block-requires-clause-predicate : goal.block-requires-clause-predicate
block-requires-clause-predicate c =
    let types = c.args.world.now.types in
    subst (HeadIsTyped types) c.in-Const.is (subst (NodeIsTyped types) c.in-Spine.is (c.view.ensures.typed types c.requires.world.typed))
