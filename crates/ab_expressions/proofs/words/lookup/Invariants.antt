use Rattle.std.proofs.Common.{◌≡◌, map, drop}
use Rattle.ab_grammar.specs.CommandTable.{listed}
use Rattle.ab_expressions.proofs.words.lookup.Given as goal

abbrev pub invariant-loop-known : goal.invariant-loop-known
invariant-loop-known g l = listed (map (λ row. (row.0.now, row.1)) (drop l.known-index l.table)) l.word ≡ listed (map (λ row. (row.0.now, row.1)) l.table) l.word
