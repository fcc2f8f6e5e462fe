use Rattle.ab_print.proofs.Placing.{counted_within}
use Rattle.ab_print.proofs.places.lies_within.Goals as goal

pub returns : goal.returns
returns c =
    counted_within c.args.numbers.now c.args.start c.args.end c.count_before.result c.count_before-2.result c.count_before.ensures.bound c.count_before-2.ensures.bound c.count_before.ensures.point c.count_before-2.ensures.point
