use Rattle.ab_grammar.proofs.Following.{Anything, BeforeStop}
use Rattle.std.proofs.Common.{ℕ}
use Rattle.ab_grammar.specs.CommandForms.{One}
use Rattle.ab_grammar.specs.CommandTable.{ShowsDepth}
use Rattle.ab_grammar.proofs.Choices.{with_depth, no_depth}
use Rattle.ab_expressions.specs.Reader.{rest}
use Rattle.ab_syntax.proofs.Passing.{found_on, fewer_found}
use Rattle.ab_syntax.proofs.proof_row.optional_depth.Goals as goal

pub returns-then-is_next : goal.returns-then-is_next
returns-then-is_next c = no_depth (rest c.args.text.now c.args.here.now) (c.is_next.ensures.next.0 c.if-is_next.true)

pub returns : goal.returns
returns c = found_on (with_depth (rest c.args.text.now c.args.here.now) (λ e. let h = c.is_next.ensures.next.1 e in let n = c.if-is_next.false in cc)) (λ (n : ℕ). n) _ c.take.result (fewer_found (One ShowsDepth) Anything BeforeStop (λ r f. tt) (λ (n : ℕ). n) _ _ c.take.result c.take.ensures)
