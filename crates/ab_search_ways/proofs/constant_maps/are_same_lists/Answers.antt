use Rattle.std.specs.Cmp.Lexicographic.{pointwise_decides}
use Rattle.std.proofs.Common.{◌≡◌, true, subst, sym}
use Rattle.ab_search_ways.proofs.Listing.{alike}
use Rattle.ab_search_ways.proofs.constant_maps.are_same_lists.Goals as goal

pub returns : goal.returns
returns c = subst (λ b. (b ≡ true → c.args.names.now ≡ c.args.others.now) × (c.args.names.now ≡ c.args.others.now → b ≡ true)) (sym c.eq.ensures) (pointwise_decides alike c.args.names.now c.args.others.now)
