use Rattle.std.proofs.Common.{◌≡◌, map, take}
use Rattle.ab_search_ways.proofs.permutations.pair_up.Given as goal

abbrev pub invariant-loop-place : goal.invariant-loop-place
invariant-loop-place l = record {
  from : map (λ p. p.from) l.list.items ≡ take l.place l.names;
  to : map (λ p. p.to) l.list.items ≡ take l.place l.now;
}
