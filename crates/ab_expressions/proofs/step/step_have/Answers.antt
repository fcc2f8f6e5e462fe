use Rattle.std.proofs.Common.{List, sym, subst, ◌∙◌, None}
use Rattle.ab_grammar.proofs.Machine.{Frame, starts_operand}
use Rattle.ab_expressions.specs.SyntaxTrees.{tree_of}
use Rattle.ab_expressions.specs.Reader.{seen}
use Rattle.ab_expressions.specs.Frames.{frames_of}
use Rattle.ab_expressions.specs.States.{Says}
use Rattle.ab_expressions.proofs.Enders.{if_ok}
use Rattle.ab_expressions.proofs.Operands.{have_begun, have_enclosed}
use Rattle.ab_expressions.proofs.step.step_have.Goals as goal

pub returns-then-not-begins_argument : goal.returns-then-not-begins_argument
returns-then-not-begins_argument c = if_ok c.step_enclosed.result
    (λ r h. have_enclosed (tree_of c.args.operand.value) (frames_of c.args.frames.now) (frames_of c.step_enclosed.new.frames) c.args.token.kind (sym c.begins_argument.ensures ∙ c.if-not-begins_argument.true) _ _ r h)
    c.step_enclosed.ensures

pub returns : goal.returns
returns c =
    let k = seen c.args.token in
    if_ok c.start_operand.result
    (λ r h. have_begun (tree_of c.args.operand.value) (frames_of c.args.frames.now) (frames_of c.start_operand.new.frames) c.args.token.kind (sym c.begins_argument.ensures ∙ c.if-not-begins_argument.false) _ _ r
    (subst (λ (fs : List Frame). Says (starts_operand fs k) None k (frames_of c.start_operand.new.frames) r) c.in_ok-grow.ensures h))
    c.start_operand.ensures
