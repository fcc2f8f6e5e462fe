use Rattle.std.proofs.lemmas.Result.{err_from_is_err_and}
use Rattle.std.proofs.Common.{ap, codes}
use Rattle.ab_grammar.specs.Token.{left_paren, right_paren}
use Rattle.ab_grammar.proofs.Following.{first, Anything, BeforeStop}
use Rattle.ab_grammar.specs.Language.{Key}
use Rattle.ab_grammar.specs.CommandForms.{◌▸◌}
use Rattle.ab_grammar.specs.CommandTable.{Word}
use Rattle.ab_grammar.proofs.Choosing.{fewer_reads}
use Rattle.ab_grammar.proofs.Choices.{with_keep, no_keep}
use Rattle.ab_grammar.proofs.Rows.{keep}
use Rattle.ab_expressions.specs.Reader.{rest}
use Rattle.ab_syntax.proofs.Examples.{a_keep}
use Rattle.ab_syntax.proofs.Passing.{refused_on, refused_fewer, closed_found}
use Rattle.ab_syntax.proofs.Repeating.{keyed, taken, left_there, key_taken}
use Rattle.ab_syntax.proofs.proof_row.optional_keep.Goals as goal

pub returns-in_err-close_part : goal.returns-in_err-close_part
returns-in_err-close_part c =
    let p = err_from_is_err_and c.from_residual.result c.from_residual.ensures.1 in
    let ks = rest c.args.text.now c.args.here.now in
    let there = taken left_paren ks (rest c.args.text.now c.takes.new.here) c.takes.result c.if-takes.true c.takes.ensures in
    let behind = (keyed left_paren (Word (codes "keep") ▸ Key right_paren) BeforeStop a_keep).first_read _ _ tt (key_taken _ _ _ there) in
    let kept = closed_found right_paren keep (λ u. u) (rest c.args.text.now c.takes.new.here) _ _ c.keyword-keep.result c.close_part.result c.keyword-keep.ensures c.close_part.ensures in
    rw (p.1, p.2) (refused_on (with_keep ks (ap first there)) _ _ (refused_on behind _ _ (refused_fewer (Word (codes "keep") ▸ Key right_paren) Anything BeforeStop (λ r f. tt) _ _ _ (rw c.in_err-close_part.was at kept))))

pub returns-then-takes : goal.returns-then-takes
returns-then-takes c =
    let ks = rest c.args.text.now c.args.here.now in
    let there = taken left_paren ks (rest c.args.text.now c.takes.new.here) c.takes.result c.if-takes.true c.takes.ensures in
    let behind = (keyed left_paren (Word (codes "keep") ▸ Key right_paren) BeforeStop a_keep).first_read _ _ tt (key_taken _ _ _ there) in
    let kept = closed_found right_paren keep (λ u. u) (rest c.args.text.now c.takes.new.here) _ _ c.keyword-keep.result c.close_part.result c.keyword-keep.ensures c.close_part.ensures in
    (with_keep ks (ap first there)).reads tt _ (behind.reads tt _ (fewer_reads (Word (codes "keep") ▸ Key right_paren) Anything BeforeStop (λ r f. tt) _ _ _ (rw c.in_ok-close_part.was at kept)))

pub returns : goal.returns
returns c =
    let left = left_there (left_paren) (rest c.args.text.now c.args.here.now) (rest c.args.text.now c.takes.new.here) c.takes.result c.if-takes.false c.takes.ensures in
    rw left.1 (no_keep (rest c.args.text.now c.args.here.now) (left.0))
