use Rattle.ab_lex.proofs.Spacing.{spells}
use Rattle.ab_lex.proofs.laws.spacing_changes_no_token.Goals as goal

pub returns : goal.returns
returns c = spells
