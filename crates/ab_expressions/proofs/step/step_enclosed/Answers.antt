use Rattle.std.proofs.Common.{sym, subst, inr, ◌∙◌}
use Rattle.ab_grammar.specs.Token.{Token}
use Rattle.ab_grammar.proofs.Machine.{enclosed}
use Rattle.ab_expressions.specs.SyntaxTrees.{tree_of}
use Rattle.ab_expressions.specs.Reader.{seen}
use Rattle.ab_expressions.specs.Frames.{frames_of}
use Rattle.ab_expressions.specs.States.{IsNext}
use Rattle.ab_expressions.proofs.Enders.{if_ok, follower, no_follower}
use Rattle.ab_expressions.proofs.Operands.{closed_next, stuck_enclosed}
use Rattle.ab_expressions.proofs.step.step_enclosed.Goals as goal

pub returns-then-ends : goal.returns-then-ends
returns-then-ends c = if_ok c.step_closer.result
    (λ r h. closed_next (tree_of c.args.operand.value) (frames_of c.args.frames.now) (frames_of c.step_closer.new.frames) (seen c.args.token) (follower c.args.token.kind _ _ (sym c.ends.ensures ∙ c.if-ends.true)) r h)
    c.step_closer.ensures

pub returns-in-Some : goal.returns-in-Some
returns-in-Some c = if_ok c.step_sign.result
    (λ r h. subst (λ (k : Token). IsNext (enclosed (frames_of c.args.frames.now) (tree_of c.args.operand.value)) k (frames_of c.step_sign.new.frames) r) (sym (c.in-Some.ensures.sign c.args.token.written.now c.args.token.place)) h)
    c.step_sign.ensures

pub returns-in-None : goal.returns-in-None
returns-in-None c =
    let fs = frames_of c.args.frames.now in
    let e = sym c.ends.ensures ∙ c.if-ends.false in (
      stuck_enclosed (tree_of c.args.operand.value) fs fs c.args.token.kind e c.in-None.ensures.sign c.args.token.written.now c.args.token.place,
      inr (no_follower c.args.token.kind _ _ e),
    )
