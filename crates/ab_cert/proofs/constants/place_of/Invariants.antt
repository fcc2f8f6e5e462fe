use Rattle.std.proofs.Common.{◌≡◌, ◌+◌, map, drop}
use Rattle.ab_cert.specs.Splits.{index_of}
use Rattle.ab_cert.proofs.constants.place_of.Given as goal

abbrev pub invariant-words : goal.invariant-words
invariant-words l = index_of (map (λ w. w.now) l.words) l.word ≡ l.i + index_of (map (λ w. w.now) (drop l.i l.words)) l.word
