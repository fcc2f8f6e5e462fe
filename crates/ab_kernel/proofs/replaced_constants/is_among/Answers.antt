use Rattle.std.proofs.Common.{◌≡◌, ◌≢◌, ◌<◌, length, get_or, refl, ◌∙◌, arith}
use Rattle.std.proofs.lemmas.List.{get_or_default}
use borrow.Author.Count.{below_more}
use Rattle.ab_norm.specs.declared.nominal.Nominal.{Nominal}
use Rattle.ab_kernel.proofs.replaced_constants.is_among.Goals as goal

pub loop-b-preserved : goal.loop-b-preserved
loop-b-preserved c =
    let xs = c.args.constants.now in
    let i = c.loop-b.b-index in
    let inside : i < length xs = omega arith in
    below_more (λ k. (d : Nominal) → get_or xs k d ≢ c.args.a) i c.loop-b.invariant
    (λ d e.
    let yes = c.is_same.ensures.1 (get_or_default xs i (record { number = 0; ty = record { 0 = 0 } }) d inside ∙ e) in
    let no = c.if-is_same.false in
    cc)

pub returns-then-is_same : goal.returns-then-is_same
returns-then-is_same c =
    let xs = c.args.constants.now in
    let i = c.loop-b.b-index in
    let inside : i < length xs = omega arith in
    (λ t. (i, inside, get_or_default xs i c.args.a (record { number = 0; ty = record { 0 = 0 } }) inside ∙ c.is_same.ensures.0 c.if-is_same.true), λ there. refl)

pub returns : goal.returns
returns c = (λ t. absurd (cc), λ (k, l, e). absurd (c.loop-b.invariant k (omega (arith, l)) c.args.a e))
