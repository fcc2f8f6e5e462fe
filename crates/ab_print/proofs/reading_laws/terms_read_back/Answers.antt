use Rattle.ab_print.proofs.Texts.{reads_tokens}
use Rattle.ab_print.proofs.Formed.{printed_formed}
use Rattle.ab_print.specs.NameAssignment.{printed}
use Rattle.ab_print.proofs.reading_laws.terms_read_back.Goals as goal

pub returns : goal.returns
returns g c = λ name sg G A t lists d. reads_tokens (printed name t) (printed_formed sg lists name d)
