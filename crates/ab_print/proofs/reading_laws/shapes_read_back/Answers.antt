use Rattle.ab_print.proofs.Texts.{reads_tokens}
use Rattle.ab_print.proofs.reading_laws.shapes_read_back.Goals as goal

pub returns : goal.returns
returns c = reads_tokens
