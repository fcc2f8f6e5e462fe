use Rattle.ab_expressions.proofs.Utf8.{plain_is_utf8}
use Rattle.ab_expressions.proofs.text.spell.Goals as goal

pub unreachable-requires : goal.unreachable-requires
unreachable-requires c = c.in-Err.ensures.cases.0 (plain_is_utf8 _ c.requires)
