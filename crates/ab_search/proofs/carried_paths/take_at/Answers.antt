use Rattle.std.proofs.Common.{length, refl}
use Rattle.ab_steps.proofs.Following.{follows_not}
use Rattle.ab_search.proofs.Counting.{first_still}
use Rattle.ab_search.proofs.carried_paths.take_at.Goals as goal

pub returns-then-place-gone-clause-follows : goal.returns-then-place-gone-clause-follows
returns-then-place-gone-clause-follows g c = follows_not c.args.world.now c.args.proof.now c.requires.world c.requires.proof

pub returns-then-place-gone-clause-gave_way : goal.returns-then-place-gone-clause-gave_way
returns-then-place-gone-clause-gave_way g c =
    first_still c.args.world.now c.args.world.now c.args.proof.now c.args.proof.now (length c.args.progress.now.pending.items) refl
