use Rattle.ab_meaning.proofs.Heads.{reads_has, normal_form_has, RawHas}
use Rattle.std.proofs.Common.{subst}
use Rattle.ab_meaning.proofs.Standing.{IsDeclared, admits_declared, sentence}
use Rattle.ab_meaning.proofs.Resolving.{names_are_declared}
use Rattle.ab_meaning.proofs.sentence_laws.statements_are_sentences.Goals as goal

pub returns : goal.returns
returns c sg s closed e named is made raw reads typed =
    let heads = reads_has IsDeclared admits_declared made reads.reading.types reads.reading.reads (names_are_declared s closed e named is) in
    sentence sg _ typed (normal_form_has IsDeclared sg raw (subst (RawHas IsDeclared) reads.is heads))
