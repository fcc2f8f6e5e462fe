use Rattle.std.proofs.Common.{ap}
use Rattle.ab_term.proofs.Comparisons.{same_type-Decides}
use Rattle.ab_norm.specs.ab_types.specs.Ids.{type_of}
use Rattle.ab_norm.specs.ab_types.proofs.Kept.{one_type}
use Rattle.ab_search_ways.proofs.Listing.{test_same}
use Rattle.ab_search_ways.proofs.constant_maps.is_of_type.Goals as goal

pub returns : goal.returns
returns c =
    let types = c.args.types.now in
    test_same c.are_same_types.result _ c.are_same_types.ensures (same_type-Decides (type_of types c.args.a.ty) (type_of types c.args.ty))
    (λ e. ap (type_of types) e) (λ e. one_type types c.requires.table c.args.a.ty c.args.ty c.requires.a c.requires.ty e)
