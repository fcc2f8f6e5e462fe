use Rattle.std.proofs.Common.{ℕ, List, map}
use Rattle.std.proofs.lemmas.List.{map-id}
use Rattle.std.proofs.lemmas.Result.{err_from_is_err_and}
use Rattle.ab_grammar.specs.Token.{right_paren}
use Rattle.ab_grammar.proofs.Following.{Anything}
use Rattle.ab_grammar.specs.CommandTable.{Nominals}
use Rattle.ab_grammar.proofs.Rows.{opened_nominals, nominals}
use Rattle.ab_expressions.specs.declared.items.Items.{Items}
use Rattle.ab_expressions.specs.Items.{list_of}
use Rattle.ab_expressions.specs.Reader.{rest}
use Rattle.ab_syntax.proofs.Passing.{refused_first, found_on, found_said, closed_found}
use Rattle.ab_syntax.proofs.part.nominals.Goals as goal

pub returns-in_err-expect : goal.returns-in_err-expect
returns-in_err-expect c =
    let p = err_from_is_err_and c.from_residual.result c.from_residual.ensures.1 in
    rw (p.1, p.2) (refused_first nominals _ _ _ (refused_first opened_nominals _ _ _ c.in_err-expect.ensures))

pub returns : goal.returns
returns c =
    let value : Items ℕ → List ℕ = λ ns. map (λ (n : ℕ). n) (list_of ns) in
    let opened = found_on (opened_nominals.first_read _ _ _ c.in_ok-expect.ensures) value _ c.take_some-numbers.result c.take_some-numbers.ensures in
    found_said Nominals Anything value list_of (λ ns. map-id (list_of ns)) _ _ c.close_part.result
    (closed_found right_paren nominals value (rest c.args.text.now c.args.here.now) _ _ c.take_some-numbers.result c.close_part.result opened c.close_part.ensures)
