use Rattle.std.proofs.Common.{◌≡◌, length, sym, ◌∙◌, arith}
use Rattle.std.proofs.lemmas.Bool.{eqb-true}
use Rattle.ab_expressions.specs.SyntaxTrees.{tree_of}
use Rattle.ab_expressions.specs.Frames.{frames_of}
use Rattle.ab_expressions.proofs.Operands.{closes_alone}
use Rattle.ab_expressions.proofs.closed_brackets.close_item.Goals as goal

pub returns-in_ok-judge-in-RightBrace : goal.returns-in_ok-judge-in-RightBrace
returns-in_ok-judge-in-RightBrace c =
    let zero = eqb-true _ 0 (sym c.is_empty.ensures ∙ c.if-is_empty.true) in
    let none : length c.args.context.items.items ≡ 0 = omega (arith, zero, c.args.context.items.ok) in
    let fs = frames_of c.args.frames.now in
    rw c.in-RightBrace.is (closes_alone (tree_of c.args.last.value) fs fs tree_of c.args.context.items.items c.args.context.place _ none c.in_ok-judge-in-RightBrace.ensures)
