use Rattle.std.proofs.Common.{◌≢◌, ◌∙◌, arith, rules}
use Rattle.ab_expressions.specs.declared.kind.Kind.TheVariants.{Stop}
use Rattle.ab_expressions.specs.declared.located_tokens.Seen.{Seen}
use Rattle.ab_expressions.specs.Tokens.{token_of}
use Rattle.ab_expressions.proofs.Seeing.{kind_is}
use Rattle.ab_syntax.proofs.GoalCommas.{no_stop_yet}
use Rattle.ab_syntax.proofs.goal_commas.sentence_len.Goals as goal

pub loop-len-preserved : goal.loop-len-preserved
loop-len-preserved c =
    let s : Seen = c.see-next.result in
    let other_kind : s.kind ≢ Stop = search rules in
    (omega arith, no_stop_yet (token_of c.args.bytes.now 0) c.args.tokens.now c.loop-len.len _ c.loop-len-test.true c.loop-len.invariant.1 (λ e. other_kind (kind_is s Stop (c.see-next.ensures.token ∙ e))))
