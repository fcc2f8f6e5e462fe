use Rattle.std.proofs.Common.{◌≡◌, ◌++◌, map, take, drop}
use Rattle.ab_grammar.specs.FileTokens.{clause_tokens}
use Rattle.ab_expressions.specs.Tokens.{tokens_from}
use Rattle.ab_expressions.specs.Reader.{seen, place_of}
use Rattle.ab_syntax.specs.GoalCommas.{seen_behind}
use Rattle.ab_syntax.proofs.goal_commas.see_clause.Given as goal

-- those that were seen, and those to come, are the tokens of the clause
abbrev pub invariant-loop-token : goal.invariant-loop-token
invariant-loop-token l =
    (clause_tokens (tokens_from l.bytes 0 l.tokens) ≡ map seen l.all.items ++ seen_behind l.part (tokens_from l.bytes 0 (drop l.token-index l.tokens)))
    × (map (λ s. s.place) l.all.items ≡ map (place_of 0) (take l.token-index l.tokens))
