use Rattle.std.proofs.Common.{map, refl}
use Rattle.ab_search_proofs.specs.Likeness.{replaced}
use Rattle.ab_search_proofs.proofs.Derived.{derived}
use Rattle.ab_search_proofs.proofs.laws.proved_goals_are_derived.Goals as goal

pub returns : goal.returns
returns c = λ D sentences definitions programs has vs Hs C p s is l. derived D sentences definitions programs has (map replaced vs) Hs C p vs refl s is l
