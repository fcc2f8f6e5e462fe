use Rattle.ab_logic.specs.SequentReadings.{sequent_of}
use Rattle.ab_formulas.specs.Sequents.{goal_names}
use Rattle.ab_sequents.proofs.Standings.{common, in_ok}
use Rattle.ab_sequents.proofs.name_types.common_type.Goals as goal

pub returns-then-are_different : goal.returns-then-are_different
returns-then-are_different c =
    in_ok c.standing_in.result
    (λ k. common c.args.world.now.types c.args.numbers.now (goal_names (sequent_of c.args.world.now c.args.goal.now)) k (c.are_different.ensures.0 c.if-are_different.true)) c.standing_in.ensures

pub returns-else-are_different : goal.returns-else-are_different
returns-else-are_different c = λ may. let yes = c.are_different.ensures.1 may.different in let no = c.if-are_different.false in cc
