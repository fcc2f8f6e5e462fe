use Rattle.std.proofs.Common.{refl, sym, ◌∙◌, arith}
use Rattle.std.proofs.lemmas.List.{get_or_default}
use Rattle.ab_sequents.specs.NameTypes.{StandsAgain}
use Rattle.ab_sequents.proofs.Standings.{one_more}
use Rattle.ab_sequents.proofs.cycles.are_different.Goals as goal

pub loop-place-preserved : goal.loop-place-preserved
loop-place-preserved c =
    one_more (λ k. StandsAgain c.args.numbers.now k → ⊥) c.loop-place.place c.loop-place.invariant
    (λ again. let yes = c.stands_again.ensures.1 again in let no = c.if-stands_again.false in cc)

pub returns : goal.returns
returns c = (
  λ yes i j d l m e.
      c.loop-place.invariant i (omega arith)
      (j, l, m, get_or_default c.args.numbers.now j 0 d m ∙ sym e ∙ get_or_default c.args.numbers.now i d 0 (omega arith)),
  λ d. refl,
)
