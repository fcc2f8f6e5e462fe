use Rattle.std.proofs.Common.{length, ◌-◌, ◌≡◌, ◌≤◌, ◌++◌, take, drop}
use Rattle.ab_grammar.specs.FileTokens.{sentence}
use Rattle.ab_expressions.specs.Tokens.{tokens_from}
use Rattle.ab_syntax.proofs.goal_commas.sentence_len.Given as goal

-- no full stop was seen yet
abbrev pub invariant-loop-len : goal.invariant-loop-len
invariant-loop-len l = (l.len ≤ length l.tokens) × (sentence (tokens_from l.bytes 0 l.tokens) ≡ tokens_from l.bytes 0 (take l.len l.tokens) ++ sentence (tokens_from l.bytes 0 (drop l.len l.tokens)))

abbrev pub decreases-loop-len : goal.decreases-loop-len
decreases-loop-len l = length l.tokens - l.len
