use Rattle.ab_lex.proofs.GoesOn.{splits_on, items_on}
use Rattle.ab_lex.proofs.laws.same_for_every_cut.Goals as goal

pub returns : goal.returns
returns c = record {
  commands = λ text more left left' cs ds h g. splits_on more h g;
  items = items_on;
}
