use Rattle.std.proofs.Common.{ap, map, reverse, sym, subst, ◌∙◌, arith}
use Rattle.std.proofs.lemmas.Result.{err_from_is_err_and}
use Rattle.ab_grammar.specs.Token.{Token}
use Rattle.ab_grammar.specs.Nesting.{nest}
use Rattle.ab_grammar.specs.Language.{Expression}
use Rattle.ab_grammar.proofs.Following.{Followed}
use Rattle.ab_grammar.proofs.Reading.{ReadsOff}
use Rattle.ab_expressions.specs.declared.tree.Parse.{Parse}
use Rattle.ab_expressions.specs.SyntaxTrees.{tree_of}
use Rattle.ab_expressions.specs.Reader.{rest}
use Rattle.ab_expressions.specs.ReaderSteps.{IsTooDeep, layers_of}
use Rattle.ab_expressions.specs.Frames.{frame_of, frames_of}
use Rattle.ab_expressions.specs.States.{state_in}
use Rattle.ab_expressions.proofs.ExpressionReading.{expression_starts, expression_found, expression_refused, expression_within, expression_nests, expression_on}
use Rattle.ab_expressions.proofs.step.read_expression.Goals as goal

pub loop-layers-init : goal.loop-layers-init
loop-layers-init c = record {
  so_far = expression_starts (rest c.args.text.now c.args.here.now) (frames_of c.new-frames.result) (layers_of c.outside-layers.result) (ap (λ v. map frame_of (reverse v)) c.new-frames.ensures) c.outside-layers.ensures.outside;
  measured = c.outside-layers.ensures.measured;
  shallow = omega (arith, c.outside-layers.ensures.depth);
}

pub returns-in-Done : goal.returns-in-Done
returns-in-Done c =
    let s = state_in (frames_of c.loop-layers.frames) c.loop-layers.state in
    let fs = frames_of c.step.new.frames in
    let ks = rest c.args.text.now c.args.here.now in
    let r = rest c.args.text.now c.loop-layers.here in
    let is = c.next_or_stop-token.ensures in
    subst (λ (x : Parse). ReadsOff Expression Followed ks (tree_of x) r) (sym c.into_inner.ensures)
    (expression_found ks s (layers_of c.loop-layers.layers) fs c.in-Done.found r c.loop-layers.invariant.so_far
    (rw (c.in-Done.is, is) at c.in_ok-found.ensures))

pub returns-in-Wrong : goal.returns-in-Wrong
returns-in-Wrong c =
    let s = state_in (frames_of c.loop-layers.frames) c.loop-layers.state in
    let fs = frames_of c.step.new.frames in
    let ks = rest c.args.text.now c.args.here.now in
    let r = rest c.args.text.now c.loop-layers.here in
    expression_refused ks s (layers_of c.loop-layers.layers) fs r c.loop-layers.invariant.so_far
    (rw (c.in-Wrong.is, c.next_or_stop-token.ensures) at c.in_ok-found.ensures)

pub overflow_add-here : goal.overflow_add-here
overflow_add-here c =
    let h = expression_within (rest c.args.text.now c.args.here.now) (state_in (frames_of c.loop-layers.frames) c.loop-layers.state) (layers_of c.loop-layers.layers) (frames_of c.step.new.frames) c.args.text.now c.loop-layers.here c.loop-layers.invariant.so_far
    c.in-On.next (rw (c.in-On.is, c.next_or_stop-token.ensures) at c.in_ok-found.ensures) in
    omega (arith, h)

pub loop-layers-smaller : goal.loop-layers-smaller
loop-layers-smaller c =
    let h = expression_within (rest c.args.text.now c.args.here.now) (state_in (frames_of c.loop-layers.frames) c.loop-layers.state) (layers_of c.loop-layers.layers) (frames_of c.step.new.frames) c.args.text.now c.loop-layers.here c.loop-layers.invariant.so_far
    c.in-On.next (rw (c.in-On.is, c.next_or_stop-token.ensures) at c.in_ok-found.ensures) in
    omega (arith, h)

pub returns-in_err-state-in-On : goal.returns-in_err-state-in-On
returns-in_err-state-in-On c =
    let ls = layers_of c.loop-layers.layers in
    let p = err_from_is_err_and c.from_residual-in_err-state-in-On.result c.from_residual-in_err-state-in-On.ensures.1 in
    let h = c.in_err-state-in-On.ensures.deep c.next_or_stop-token.result.written.now c.next_or_stop-token.result.place in
    rw (p.1, p.2)
    (expression_nests (rest c.args.text.now c.args.here.now) (state_in (frames_of c.loop-layers.frames) c.loop-layers.state) ls (frames_of c.step.new.frames) c.args.text.now c.loop-layers.here c.loop-layers.invariant.so_far
    c.in-On.next (rw (c.in-On.is, c.next_or_stop-token.ensures) at c.in_ok-found.ensures) _ (subst (λ (k : Token). IsTooDeep (nest ls k) c.in_err-state-in-On.field-0.0) c.next_or_stop-token.ensures h))

pub loop-layers-preserved : goal.loop-layers-preserved
loop-layers-preserved c =
    let ls = layers_of c.loop-layers.layers in
    let h = c.in_ok-state-in-On.ensures in
    record {
      so_far =
          expression_on (rest c.args.text.now c.args.here.now) (state_in (frames_of c.loop-layers.frames) c.loop-layers.state) ls (frames_of c.step.new.frames) c.args.text.now c.loop-layers.here c.loop-layers.invariant.so_far
          c.in_ok-state-in-On.state (rw (c.in-On.is, c.next_or_stop-token.ensures, (sym h.read)) at c.in_ok-found.ensures)
          (layers_of c.check_nesting.new.layers) c.check_nesting.new.layers.depth (h.layers c.next_or_stop-token.result.written.now c.next_or_stop-token.result.place ∙ ap (nest ls) c.next_or_stop-token.ensures) h.measured h.shallow;
      measured = h.measured;
      shallow = h.shallow;
    }
