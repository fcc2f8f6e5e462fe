use Rattle.ab_search_layers.proofs.Layers.{sentence_derived}
use Rattle.ab_search_layers.proofs.laws.layered_sentences_have_derivations.Goals as goal

pub returns : goal.returns
returns c = sentence_derived
