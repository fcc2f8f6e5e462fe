use Rattle.std.proofs.Common.{ℕ, List, Option, Some, None}
use Rattle.std.proofs.lemmas.Result.{err_from_is_err_and}
use Rattle.ab_grammar.proofs.Following.{Anything, BeforeStop}
use Rattle.ab_grammar.proofs.Reading.{ReadsOff}
use Rattle.ab_grammar.specs.CommandTable.{Name, OptionalName, ShowsName}
use Rattle.ab_grammar.proofs.Choosing.{fewer_reads}
use Rattle.ab_grammar.proofs.Choices.{with_name, no_name}
use Rattle.ab_grammar.proofs.Rows.{permute}
use Rattle.ab_grammar.proofs.Shown.{one_name}
use Rattle.ab_expressions.specs.declared.text.Text.{Text}
use Rattle.ab_syntax.specs.Leaves.{any_name, IsTakenNext}
use Rattle.ab_expressions.specs.Reader.{rest}
use Rattle.ab_syntax.proofs.Leaves.{takes}
use Rattle.ab_syntax.proofs.Passing.{refused_first}
use Rattle.ab_syntax.proofs.proof_row.permute.Goals as goal

pub returns-in_err-numbers : goal.returns-in_err-numbers
returns-in_err-numbers c =
    let p = err_from_is_err_and c.from_residual.result c.from_residual.ensures.1 in
    rw (p.1, p.2) (refused_first permute _ _ _ c.in_err-numbers.ensures)

-- a name, where one is there
named : (t : Text) (i j : ℕ) (o : Option (List ℕ)) → IsTakenNext any_name t i j o → ReadsOff OptionalName BeforeStop (rest t i) o (rest t j)
named t i j (Some x) (s, h, e) = rw e ((with_name (rest t i) s.0 x s.1 s.2).reads _ _ (fewer_reads Name Anything BeforeStop (λ r f. tt) _ _ _ (takes ShowsName t i one_name x s)))
named t i j None (n, e) = rw e (no_name (rest t i) n)

pub returns : goal.returns
returns c = (permute.first_read _ _ _ c.in_ok-numbers.ensures).reads _ _ (named c.args.text.now c.nominals.new.here c.take_if.new.here c.in_ok-take_if.field-0 c.in_ok-take_if.ensures)
