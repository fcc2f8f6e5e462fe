use Rattle.ab_hypothesis.proofs.Moves.{on_ok, weaken_sure, forgotten}
use Rattle.ab_hypothesis.proofs.goal_moves.forget.Goals as goal

pub surely-requires-clause-sure : goal.surely-requires-clause-sure
surely-requires-clause-sure g c =
    weaken_sure c.args.world.now c.args.proof.now c.args.place c.args.name.now c.requires.there.0 c.requires.there.1 c.in_ok-name.name c.in_ok-name.ensures

pub returns-clause-forgotten : goal.returns-clause-forgotten
returns-clause-forgotten g c =
    on_ok c.surely.result
    (forgotten c.args.world.now c.args.proof.now c.args.place c.args.name.now c.requires.there.0 c.requires.there.1 c.surely.new.world c.surely.new.proof c.in_ok-name.name c.in_ok-name.ensures)
    c.surely.ensures.took
