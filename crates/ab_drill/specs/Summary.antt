-- THE LINE THAT SUMS UP A DRILL, as `Drill 10: 99 accepted, 0 refused, 79 kept, 10 theorems.` and a line end.
use Rattle.std.specs.Prelude.{ℕ, List, ◌++◌, codes, decimal}
use Rattle.ab_drill.specs.declared.summary.Tallies.{Tallies}

abbrev pub replies : ℕ → Tallies → List ℕ
replies size t = (codes "Drill " ++ decimal size) ++ (codes ": " ++ decimal t.accepted) ++ (codes " accepted, " ++ decimal t.refused)

abbrev pub rest : Tallies → List ℕ
rest t = (codes " refused, " ++ decimal t.kept) ++ (codes " kept, " ++ decimal t.theorems) ++ codes " theorems.\n"

abbrev pub summary : ℕ → Tallies → List ℕ
summary size t = replies size t ++ rest t
