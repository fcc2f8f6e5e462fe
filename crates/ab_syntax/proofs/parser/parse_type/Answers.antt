use Rattle.std.proofs.Common.{ℕ, sym, subst}
use Rattle.ab_expressions.specs.Tokens.{StandIn}
use Rattle.ab_syntax.proofs.Standings.{tokens_of_stand}
use Rattle.ab_syntax.proofs.parser.parse_type.Goals as goal

pub parse_type_from-requires : goal.parse_type_from-requires
parse_type_from-requires c = subst (λ (n : ℕ). StandIn c.args.bytes.now n c.args.tokens.now) (sym c.origin.ensures) (tokens_of_stand c.args.bytes.now c.args.tokens.now c.requires)

pub returns-clause-read : goal.returns-clause-read
returns-clause-read c = rw c.origin.ensures at c.parse_type_from.ensures.read

pub returns-clause-syntax : goal.returns-clause-syntax
returns-clause-syntax c = rw c.origin.ensures at c.parse_type_from.ensures.syntax

pub returns-clause-nested : goal.returns-clause-nested
returns-clause-nested c = rw c.origin.ensures at c.parse_type_from.ensures.nested
