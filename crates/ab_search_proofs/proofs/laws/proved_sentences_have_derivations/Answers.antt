use Rattle.ab_search_proofs.proofs.Sentences.{sentence_derived}
use Rattle.ab_search_proofs.proofs.laws.proved_sentences_have_derivations.Goals as goal

pub returns : goal.returns
returns c = sentence_derived
