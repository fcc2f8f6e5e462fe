use Rattle.ab_print.specs.NameAssignment.{printed}
use Rattle.ab_print.proofs.Formed.{printed_formed}
use Rattle.ab_print.proofs.Texts.{reads_tokens}
use Rattle.ab_language_laws.proofs.Splitting.{splits}
use Rattle.ab_language_laws.proofs.Legible.{printed_plain}
use Rattle.ab_language_laws.proofs.readback.printed_bytes_read_back.Goals as goal

pub returns : goal.returns
returns g c = λ name sg A t lists d w. let f = printed_formed sg lists name d in (splits (printed name t) (printed_plain sg lists name A t d w f), reads_tokens (printed name t) f)
