use Rattle.std.proofs.Common.{◌≡◌, inl, inr, ◌+◌, ◌-◌, ◌∙◌, ap, length, arith}
use Rattle.ab_logic.specs.declared.world.World.{World}
use Rattle.ab_theory.specs.Derivations.{History, undone}
use Rattle.ab_kernel.specs.Layout.{Held, history_of, before_last, before_steps}
use Rattle.ab_kernel.proofs.Standing.{some_world}
use Rattle.ab_kernel.proofs.Earlier.{standing, shorter, before_more}
use Rattle.ab_theory.proofs.Back.{undone_more, undone_length}
use Rattle.ab_steps.proofs.Following.{again, taken_back, follows_taken_back}
use Rattle.ab_steps.proofs.goal_steps.take_back.Goals as goal

pub loop-steps-preserved : goal.loop-steps-preserved
loop-steps-preserved g c =
    let fewer : (w : World) → length (history_of w c.unrefine.new.self).earlier ≡ length (history_of w c.loop-steps.proof).earlier - 1 =
    λ w. ap (λ (h : History). length h.earlier) (c.unrefine.ensures.undone w) ∙ undone_length (history_of w c.loop-steps.proof) 1 in
    record {
      undone = λ w.
          let was = length (history_of w c.args.proof.now).earlier in
          let now = length (history_of w c.loop-steps.proof).earlier in
          let next = length (history_of w c.unrefine.new.self).earlier in
          let left : (was - now) + 1 ≡ was - next = omega (arith, fewer w, c.steps.ensures w, c.loop-steps-test.true, c.loop-steps.invariant.fewer w) in
          c.unrefine.ensures.undone w
          ∙ ap (undone 1) (c.loop-steps.invariant.undone w)
          ∙ undone_more (history_of w c.args.proof.now) (was - now) 1
          ∙ ap (λ n. undone n (history_of w c.args.proof.now)) left;
      proof = λ w p. c.unrefine.ensures.proof w (c.loop-steps.invariant.proof w p);
      layout =
          let w = some_world in
          let was = length c.args.proof.now.journal in
          let now = length c.loop-steps.proof.journal in
          let next = length c.unrefine.new.self.journal in
          let less : next ≡ now - 1 = ap (λ (p : Held). length p.journal) c.unrefine.ensures.layout ∙ shorter c.loop-steps.proof in
          let left : (was - now) + 1 ≡ was - next =
          omega (arith, less, standing w c.loop-steps.proof, standing w c.args.proof.now, c.steps.ensures w, c.loop-steps-test.true, c.loop-steps.invariant.fewer w) in
          c.unrefine.ensures.layout
          ∙ ap before_last c.loop-steps.invariant.layout
          ∙ before_more c.args.proof.now (was - now) 1
          ∙ ap (λ n. before_steps n c.args.proof.now) left;
      world = c.unrefine.ensures.world ∙ c.loop-steps.invariant.world;
      steps = c.unrefine.ensures.steps ∙ c.loop-steps.invariant.steps;
      enough = λ w. inr (omega (arith, fewer w, c.steps.ensures w, c.loop-steps-test.true));
      fewer = λ w. omega (arith, fewer w, c.loop-steps.invariant.fewer w);
    }

pub returns-clause-undone : goal.returns-clause-undone
returns-clause-undone g c =
    let undone_now : (w : World) → history_of w c.loop-steps.proof ≡ undone (length (history_of w c.args.proof.now).earlier - c.args.count) (history_of w c.args.proof.now) =
    λ w.
    let was = length (history_of w c.args.proof.now).earlier in
    let now = length (history_of w c.loop-steps.proof).earlier in
    let left : was - now ≡ was - c.args.count =
    elim (c.loop-steps.invariant.enough w) [
      | inl e ↦ omega (arith, e, c.steps.ensures w, c.loop-steps-test.false, c.loop-steps.invariant.fewer w)
      | inr l ↦ omega (arith, l, c.steps.ensures w, c.loop-steps-test.false, c.loop-steps.invariant.fewer w)
    ] in
    c.loop-steps.invariant.undone w ∙ ap (λ n. undone n (history_of w c.args.proof.now)) left in
    undone_now

pub returns-clause-unchanged : goal.returns-clause-unchanged
returns-clause-unchanged g c w p f counted =
    let undone_now : (w : World) → history_of w c.loop-steps.proof ≡ undone (length (history_of w c.args.proof.now).earlier - c.args.count) (history_of w c.args.proof.now) =
    λ w.
    let was = length (history_of w c.args.proof.now).earlier in
    let now = length (history_of w c.loop-steps.proof).earlier in
    let left : was - now ≡ was - c.args.count =
    elim (c.loop-steps.invariant.enough w) [
      | inl e ↦ omega (arith, e, c.steps.ensures w, c.loop-steps-test.false, c.loop-steps.invariant.fewer w)
      | inr l ↦ omega (arith, l, c.steps.ensures w, c.loop-steps-test.false, c.loop-steps.invariant.fewer w)
    ] in
    c.loop-steps.invariant.undone w ∙ ap (λ n. undone n (history_of w c.args.proof.now)) left in
    taken_back w c.args.world.now c.loop-steps.world p c.args.proof.now c.loop-steps.proof c.args.count c.loop-steps.invariant.world undone_now f counted

pub returns-clause-follows : goal.returns-clause-follows
returns-clause-follows g c w p f counted =
    let undone_now : (w : World) → history_of w c.loop-steps.proof ≡ undone (length (history_of w c.args.proof.now).earlier - c.args.count) (history_of w c.args.proof.now) =
    λ w.
    let was = length (history_of w c.args.proof.now).earlier in
    let now = length (history_of w c.loop-steps.proof).earlier in
    let left : was - now ≡ was - c.args.count =
    elim (c.loop-steps.invariant.enough w) [
      | inl e ↦ omega (arith, e, c.steps.ensures w, c.loop-steps-test.false, c.loop-steps.invariant.fewer w)
      | inr l ↦ omega (arith, l, c.steps.ensures w, c.loop-steps-test.false, c.loop-steps.invariant.fewer w)
    ] in
    c.loop-steps.invariant.undone w ∙ ap (λ n. undone n (history_of w c.args.proof.now)) left in
    let w0 = some_world in
    let left : length c.args.proof.now.journal - length c.loop-steps.proof.journal ≡ length c.args.proof.now.journal - c.args.count =
    elim (c.loop-steps.invariant.enough w0) [
      | inl e ↦ omega (arith, e, standing w0 c.loop-steps.proof, standing w0 c.args.proof.now, c.steps.ensures w0, c.loop-steps-test.false, c.loop-steps.invariant.fewer w0)
      | inr l ↦ omega (arith, l, standing w0 c.loop-steps.proof, standing w0 c.args.proof.now, c.steps.ensures w0, c.loop-steps-test.false, c.loop-steps.invariant.fewer w0)
    ] in
    let layout : c.loop-steps.proof ≡ before_steps (length c.args.proof.now.journal - c.args.count) c.args.proof.now =
    c.loop-steps.invariant.layout ∙ ap (λ n. before_steps n c.args.proof.now) left in
    follows_taken_back w c.args.world.now c.loop-steps.world p c.args.proof.now c.loop-steps.proof c.args.count c.loop-steps.invariant.world undone_now c.loop-steps.invariant.proof layout f counted

pub returns-clause-kept : goal.returns-clause-kept
returns-clause-kept g c w p f counted =
    let w0 = some_world in
    let left : length c.args.proof.now.journal - length c.loop-steps.proof.journal ≡ length c.args.proof.now.journal - c.args.count =
    elim (c.loop-steps.invariant.enough w0) [
      | inl e ↦ omega (arith, e, standing w0 c.loop-steps.proof, standing w0 c.args.proof.now, c.steps.ensures w0, c.loop-steps-test.false, c.loop-steps.invariant.fewer w0)
      | inr l ↦ omega (arith, l, standing w0 c.loop-steps.proof, standing w0 c.args.proof.now, c.steps.ensures w0, c.loop-steps-test.false, c.loop-steps.invariant.fewer w0)
    ] in
    let layout : c.loop-steps.proof ≡ before_steps (length c.args.proof.now.journal - c.args.count) c.args.proof.now =
    c.loop-steps.invariant.layout ∙ ap (λ n. before_steps n c.args.proof.now) left in
    again w c.args.world.now p c.args.proof.now c.loop-steps.proof c.args.count f counted layout
