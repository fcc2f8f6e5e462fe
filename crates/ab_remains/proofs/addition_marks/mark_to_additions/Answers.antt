use Rattle.std.specs.Option.{option_map}
use Rattle.std.proofs.Common.{◌≡◌, ◌+◌, Some, sym, ◌∙◌, ap, subst, arith}
use Rattle.ab_logic.specs.declared.additions.Added.{Added}
use Rattle.ab_formulas.proofs.KernelSplits.{within}
use Rattle.ab_remains.specs.RaisedMarks.{IsRaisedFor}
use Rattle.ab_remains.specs.NamedThings.{HoldsAddition}
use Rattle.ab_remains.proofs.Raising.{IsRaisedSoFar, raised_further, raised_for_rest}
use Rattle.ab_remains.proofs.addition_marks.mark_to_additions.Goals as goal
use Rattle.ab_remains.proofs.addition_marks.mark_to_additions.Goals.{in-Some, in_default}

pub loop-place-preserved : goal.loop-place-preserved
loop-place-preserved c =
    let w = c.args.world.now in
    let xs = w.additions in
    let i = c.loop-place.place in
    let there = within xs i (omega (arith, c.loop-place-test.true, c.len-place-end.ensures.kept)) in
    let what = ap (option_map (λ (a : Added). a.what)) there.1 in
    elim c.match-addition_at.branch [
      | in-Some n ↦
          let both : Some n.in-Some.addition.now ≡ Some there.0.what = n.in-Some.ensures ∙ what in
          let same : n.in-Some.addition.now ≡ there.0.what = cc in
          subst (IsRaisedSoFar w xs (λ v (a : Added). HoldsAddition v a.what) c.args.first (i + 1) c.args.mark) (sym n.raised-is)
          (raised_further w xs (λ v (a : Added). HoldsAddition v a.what) c.args.first i c.args.mark c.loop-place.raised n.mark_to_addition-raised.result there.0
          (omega (arith, c.loop-place-test.true, c.len-place-end.ensures.kept)) there.1 c.loop-place.invariant
          (subst (λ x. IsRaisedFor w (λ v. HoldsAddition v x) c.loop-place.raised n.mark_to_addition-raised.result) same n.mark_to_addition-raised.ensures))
      | in_default n ↦ let bad = sym what ∙ sym c.addition_at.ensures in absurd (cc)
    ]

pub returns : goal.returns
returns c =
    raised_for_rest c.args.world.now c.args.world.now.additions (λ v (a : Added). HoldsAddition v a.what) c.args.first c.loop-place.place c.args.mark c.loop-place.raised
    (omega (arith, c.loop-place-test.false, c.len-place-end.ensures.kept)) c.loop-place.invariant
