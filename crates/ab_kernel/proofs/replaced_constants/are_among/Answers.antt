use Rattle.std.specs.Prelude.{Contains, IsTrue}
use Rattle.std.proofs.Common.{◌≡◌, ◌<◌, length, get_or, refl, subst, arith, rules}
use Rattle.std.proofs.lemmas.List.{get_or_default}
use borrow.Author.Count.{below_more}
use Rattle.ab_norm.specs.declared.nominal.Nominal.{Nominal}
use Rattle.ab_kernel.proofs.replaced_constants.are_among.Goals as goal

pub loop-a-preserved : goal.loop-a-preserved
loop-a-preserved c =
    let xs = c.args.constants.now in
    let i = c.loop-a.a-index in
    let inside : i < length xs = omega arith in
    let yes : IsTrue c.is_among.result = search rules in
    below_more (λ k. (d : Nominal) → Contains c.args.those.now (get_or xs k d)) i c.loop-a.invariant
    (λ d. subst (Contains c.args.those.now) (get_or_default xs i (record { number = 0; ty = record { 0 = 0 } }) d inside) (c.is_among.ensures.0 yes))

pub returns-then-not-is_among : goal.returns-then-not-is_among
returns-then-not-is_among c =
    let xs = c.args.constants.now in
    let i = c.loop-a.a-index in
    let inside : i < length xs = omega arith in
    (λ t. absurd (cc), λ all. let yes = c.is_among.ensures.1 (all i (record { number = 0; ty = record { 0 = 0 } }) inside) in let no = c.if-not-is_among.true in absurd (cc))

pub returns : goal.returns
returns c = (λ t k d l. c.loop-a.invariant k (omega (arith, l)) d, λ all. refl)
