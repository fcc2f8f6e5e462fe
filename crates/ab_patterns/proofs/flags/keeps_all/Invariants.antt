use Rattle.std.proofs.Common.{◌≡◌, drop}
use Rattle.std.specs.List.{list_all}
use Rattle.ab_patterns.proofs.flags.keeps_all.Given as goal

abbrev pub invariant-loop-kept : goal.invariant-loop-kept
invariant-loop-kept l = list_all (λ kept. kept) (drop l.kept-index l.keep) ≡ list_all (λ kept. kept) l.keep
