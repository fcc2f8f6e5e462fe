use Rattle.std.proofs.Common.{refl, sym, ◌∙◌, arith}
use Rattle.std.proofs.lemmas.List.{get_or_default}
use borrow.Author.Count.{below_more}
use Rattle.ab_kernel.specs.StandsAgain.{StandsAgain, no_constant}
use Rattle.ab_kernel.proofs.replaced_constants.are_different.Goals as goal

pub loop-place-preserved : goal.loop-place-preserved
loop-place-preserved c =
    below_more (λ k. StandsAgain c.args.constants.now k → ⊥) c.loop-place.place c.loop-place.invariant
    (λ again. let yes = c.stands_again.ensures.1 again in let no = c.if-stands_again.false in cc)

pub returns : goal.returns
returns c = (
  λ yes i j d l m e.
      c.loop-place.invariant i (omega arith)
      (j, l, m, get_or_default c.args.constants.now j no_constant d m ∙ sym e ∙ get_or_default c.args.constants.now i d no_constant (omega arith)),
  λ d. refl,
)
