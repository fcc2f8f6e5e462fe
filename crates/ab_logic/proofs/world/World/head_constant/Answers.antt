use Rattle.std.proofs.Common.{subst}
use Rattle.ab_store.specs.Naming.{NodeIsTyped, HeadIsTyped}
use Rattle.ab_logic.proofs.world.World.head_constant.Goals as goal

pub returns-in-Const-clause-held : goal.returns-in-Const-clause-held
returns-in-Const-clause-held c =
    let types = c.args.self.now.types in
    subst (HeadIsTyped types) c.in-Const.is (subst (NodeIsTyped types) c.in-Spine.is (c.view.ensures.typed types c.requires.world.typed))
