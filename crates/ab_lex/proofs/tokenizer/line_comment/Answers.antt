use Rattle.std.proofs.Common.{◌≡◌, ◌≤◌, ℕ, List, length, drop, Option, Some, None, arith, MatchOption}
use Rattle.std.specs.Prelude.{unwrap_or}
use Rattle.std.proofs.lemmas.List.{drop_all}
use Rattle.ab_lex.specs.Units.{LineEnds}
use Rattle.ab_lex.specs.Scanner.{past}
use Rattle.ab_lex.specs.declared.scanner.Mode.TheVariants.{Line}
use Rattle.ab_lex.proofs.Past.{line_ends, line_runs_out}
use Rattle.ab_lex.proofs.tokenizer.line_comment.Goals as goal

found : (bytes : List ℕ) (o : Option ℕ) → MatchOption o (past Line bytes ≡ None) (λ n. (n ≤ length bytes) × (past Line bytes ≡ Some (drop n bytes)))
    → LineEnds bytes (drop (unwrap_or o (length bytes)) bytes)
found bytes None h = rw (drop_all (length bytes) bytes (omega arith)) (line_runs_out bytes h)
found bytes (Some n) h = line_ends bytes (drop n bytes) h.1

pub returns-clause-ends : goal.returns-clause-ends
returns-clause-ends c = rw c.unwrap_or.ensures (found c.args.bytes.now c.unit_end.result c.unit_end.ensures)
