use Rattle.std.proofs.Common.{inl, inr, ap, sym, ◌∙◌}
use Rattle.ab_grammar.proofs.Machine.{TypeShut, type_closed}
use Rattle.ab_expressions.specs.SyntaxTrees.{type_of}
use Rattle.ab_expressions.specs.Kinds.{kind_of}
use Rattle.ab_expressions.specs.Reader.{seen}
use Rattle.ab_expressions.specs.ReaderSteps.{type_frames_of}
use Rattle.ab_expressions.proofs.Enders.{follower, no_follower, type_ended, type_enclosed, type_stuck}
use Rattle.ab_expressions.proofs.Meanings.{kind_meant}
use Rattle.ab_expressions.proofs.types.step_behind_type.Goals as goal

pub returns-then-not-enclosed : goal.returns-then-not-enclosed
returns-then-not-enclosed c =
    type_ended (type_frames_of c.args.frames.now) (type_of c.args.last.value) _ (seen c.args.token) (follower c.args.token.kind _ _ (sym c.ends.ensures ∙ c.if-ends.true))
    (rw c.if-not-enclosed.true at c.in_ok-inner.ensures)

pub returns-in-RightParen : goal.returns-in-RightParen
returns-in-RightParen c = rw c.in-RightParen.is (ap (λ (s : TypeShut). type_closed s.below s.inner) (rw c.if-not-enclosed.false at c.in_ok-inner.ensures))

pub returns-in_default : goal.returns-in_default
returns-in_default c =
    let h = type_enclosed (type_frames_of c.args.frames.now) (type_of c.args.last.value) _ (seen c.args.token) (type_frames_of c.shut_type.new.frames) (follower c.args.token.kind _ _ (sym c.ends.ensures ∙ c.if-ends.true)) (λ q. c.in_default.not-RightParen (sym (kind_meant c.args.token.kind _ _) ∙ ap kind_of q)) (rw c.if-not-enclosed.false at c.in_ok-inner.ensures) in
    (h.0, inl h.1)

pub returns-in_default-kind : goal.returns-in_default-kind
returns-in_default-kind c =
    let e = sym c.ends.ensures ∙ c.if-ends.false in
    (type_stuck (type_frames_of c.args.frames.now) (type_of c.args.last.value) c.args.token.kind _ _ e c.in_default-kind.not-Arrow, inr (no_follower c.args.token.kind _ _ e))
