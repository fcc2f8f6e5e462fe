use Rattle.std.specs.Prelude.{slice_get}
use Rattle.std.proofs.Common.{◌≡◌, None, sym}
use Rattle.ab_kernel.specs.Layout.{goals_of}
use Rattle.ab_steps.proofs.Following.{none_first}
use Rattle.ab_steps.proofs.goal_parts.first_goal.Goals as goal

pub unreachable-requires : goal.unreachable-requires
unreachable-requires c =
    let w = c.args.world.now in
    let none : None ≡ slice_get (goals_of w c.args.proof.now) 0 = rw c.in_default.is at (c.current.ensures.reads w) in
    none_first (goals_of w c.args.proof.now) c.requires.open (sym none)
