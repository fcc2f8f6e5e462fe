use Rattle.std.proofs.Common.{map, refl}
use Rattle.ab_search_proofs.specs.Likeness.{replaced}
use Rattle.ab_search_layers.specs.Layered.{it_stays, it_opens}
use Rattle.ab_search_layers.proofs.Layers.{derived}
use Rattle.ab_search_layers.proofs.laws.layered_goals_are_derived.Goals as goal

pub returns : goal.returns
returns c = λ D sentences definitions programs has defined vs Hs C p s is l. derived D sentences definitions programs has defined (map replaced vs) Hs C p C (it_opens it_stays) vs refl s is l
