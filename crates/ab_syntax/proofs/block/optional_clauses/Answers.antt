use Rattle.std.proofs.Common.{map}
use Rattle.ab_grammar.proofs.Choices.{with_clauses, no_clauses}
use Rattle.ab_syntax.specs.declared.command.ClauseParse.{ClauseParse}
use Rattle.ab_expressions.specs.declared.items.Items.{Items}
use Rattle.ab_syntax.specs.Commands.{clause_of}
use Rattle.ab_expressions.specs.Items.{list_of}
use Rattle.ab_expressions.specs.Reader.{rest}
use Rattle.ab_syntax.proofs.Passing.{found_on}
use Rattle.ab_syntax.proofs.block.optional_clauses.Goals as goal

pub returns-then-is_next : goal.returns-then-is_next
returns-then-is_next c = rw (c.from_vec.ensures, c.new.ensures.items) (no_clauses (rest c.args.text.now c.args.here.now) (c.is_next.ensures.next.0 c.if-is_next.true))

pub returns : goal.returns
returns c = found_on (with_clauses (rest c.args.text.now c.args.here.now) (λ e. let h = c.is_next.ensures.next.1 e in let n = c.if-is_next.false in cc)) (λ (cs : Items ClauseParse). map clause_of (list_of cs)) _ c.items.result c.items.ensures
