use Rattle.std.proofs.Common.{drop}
use Rattle.ab_search_paths.proofs.Likenesses.{Sending}
use Rattle.ab_search_paths.proofs.carried_terms.with_new.Given as goal

abbrev pub invariant-loop-a : goal.invariant-loop-a
invariant-loop-a l = Sending l.types l.names.items l.targets.items l.known.items (drop l.a-index l.others)
