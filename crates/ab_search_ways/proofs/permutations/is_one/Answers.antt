use Rattle.std.proofs.Common.{ap}
use Rattle.ab_term.proofs.Comparisons.{same_nominal-Decides}
use Rattle.ab_norm.specs.Nominals.{nominal_of}
use Rattle.ab_norm.proofs.Gathered.{one_nominal}
use Rattle.ab_search_ways.proofs.Listing.{test_same}
use Rattle.ab_search_ways.proofs.permutations.is_one.Goals as goal

pub returns : goal.returns
returns c =
    let types = c.args.types.now in
    test_same c.are_same.result _ c.are_same.ensures (same_nominal-Decides (nominal_of types c.args.a) (nominal_of types c.args.b))
    (λ e. ap (nominal_of types) e) (λ e. one_nominal types c.requires.table c.args.a c.args.b c.requires.a c.requires.b e)
