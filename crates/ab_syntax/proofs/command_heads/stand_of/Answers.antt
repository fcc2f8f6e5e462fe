use Rattle.std.proofs.Common.{ℕ, sym, subst}
use Rattle.ab_expressions.specs.Tokens.{StandIn}
use Rattle.ab_syntax.proofs.Standings.{tokens_of_stand}
use Rattle.ab_syntax.proofs.command_heads.stand_of.Goals as goal

pub stand_of_from-requires : goal.stand_of_from-requires
stand_of_from-requires c = subst (λ (n : ℕ). StandIn c.args.bytes.now n c.args.tokens.now) (sym c.origin.ensures) (tokens_of_stand c.args.bytes.now c.args.tokens.now c.requires)

pub returns : goal.returns
returns c = rw c.origin.ensures at c.stand_of_from.ensures
