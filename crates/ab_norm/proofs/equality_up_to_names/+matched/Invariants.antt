use Rattle.std.proofs.Common.{◌≡◌, ◌+◌, ◌*◌, map, take, true}
use Rattle.ab_norm.specs.NameMatches.{IsOneToOne, Found, AllMatch}
use Rattle.ab_norm.proofs.Bounds.{ids_bound}
use Rattle.ab_norm.proofs.Compared.{bare}
use Rattle.ab_norm.proofs.Matched.{image}
use Rattle.ab_norm.proofs.equality_up_to_names.+matched.Given as goal

abbrev pub decreases-match_terms : goal.decreases-match_terms
decreases-match_terms l = 3 * l.a.0 + 2

abbrev pub decreases-match_nodes : goal.decreases-match_nodes
decreases-match_nodes l = 3 * l.a.0 + 1

abbrev pub decreases-match_all : goal.decreases-match_all
decreases-match_all l = 3 * ids_bound l.these.now

abbrev pub invariant-match_all-loop-i : goal.invariant-match_all-loop-i
invariant-match_all-loop-i l = record {
  one : IsOneToOne l.decided.items;
  found : Found l.types l.fn.decided.items l.decided.items (λ f. map (image l.types l.store f) (take l.i l.these) ≡ map (bare l.types l.store) (take l.i l.those)) true;
  agreed : AllMatch l.types l.store l.decided.items l.agreed;
}
