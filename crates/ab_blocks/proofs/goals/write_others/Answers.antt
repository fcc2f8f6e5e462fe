use Rattle.std.proofs.Common.{sym}
use Rattle.ab_states.specs.ab_kernel.specs.Layout.{goals_of}
use Rattle.ab_formulas.specs.NamedGoals.{named}
use Rattle.ab_blocks.proofs.Lines.{other_shown}
use Rattle.ab_blocks.proofs.goals.write_others.Goals as goal

pub loop-place-preserved : goal.loop-place-preserved
loop-place-preserved c =
    let w = c.args.world.now in
    other_shown w c.args.proof.now c.requires.world c.requires.proof c.loop-place.place c.in-Some.goal.now c.loop-place.out.items c.show_other.new.out.items _
    (sym (c.in-Some.ensures.reads w)) c.in_ok-show_other.ensures.shown c.loop-place.invariant
