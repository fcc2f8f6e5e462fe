use Rattle.ab_language_laws.proofs.Splitting.{splits}
use Rattle.ab_language_laws.proofs.readback.bytes_split_into_tokens.Goals as goal

pub returns : goal.returns
returns c = splits
