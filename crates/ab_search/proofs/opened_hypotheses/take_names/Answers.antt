use Rattle.std.proofs.lemmas.Result.{on_ok_weaker}
use Rattle.ab_steps.proofs.Following.{follows_on}
use Rattle.ab_search.proofs.Counting.{on_first}
use Rattle.ab_search.proofs.opened_hypotheses.take_names.Goals as goal

pub returns-clause-follows : goal.returns-clause-follows
returns-clause-follows g c =
    follows_on c.args.world.now c.take.new.world c.take-2.new.world c.args.proof.now c.take.new.proof c.take-2.new.proof c.take.ensures.follows c.take-2.ensures.follows

pub returns-clause-gave_way : goal.returns-clause-gave_way
returns-clause-gave_way g c =
    on_ok_weaker c.take-2.result
    (on_first c.args.world.now c.take.new.world c.take-2.new.world c.args.proof.now c.take.new.proof c.take-2.new.proof c.args.place 0 1 c.in_ok-take.ensures.taken)
    c.take-2.ensures.taken
