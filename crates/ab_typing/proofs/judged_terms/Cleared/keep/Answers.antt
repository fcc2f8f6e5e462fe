use Rattle.std.proofs.Common.{subst}
use Rattle.ab_typing.proofs.PredicateSets.{term_cmp, one_term, gains_only, all_gained}
use Rattle.ab_formulas.specs.Stratification.{everywhere, left_of_arrows}
use Rattle.ab_typing.specs.JudgedTerms.{IsClear}
use Rattle.ab_typing.specs.Parts.{part_of}
use Rattle.ab_typing.proofs.judged_terms.Cleared.keep.Goals as goal

pub returns-in_ok-insert-in-Everywhere : goal.returns-in_ok-insert-in-Everywhere
returns-in_ok-insert-in-Everywhere c = λ ps types store clear one. record {
  everywhere = all_gained (IsClear ps everywhere types store) c.args.self.now.everywhere.keys c.insert.new.self.keys c.args.id
      (gains_only term_cmp one_term c.args.self.now.everywhere.keys c.insert.new.self.keys c.args.id c.in_ok-insert-in-Everywhere.ensures.keys)
      clear.everywhere (subst (λ p. IsClear ps (part_of p) types store c.args.id) c.in-Everywhere.is one);
  left = clear.left;
}

pub returns-in_ok-insert-in-LeftOfArrows : goal.returns-in_ok-insert-in-LeftOfArrows
returns-in_ok-insert-in-LeftOfArrows c = λ ps types store clear one. record {
  everywhere = clear.everywhere;
  left = all_gained (IsClear ps left_of_arrows types store) c.args.self.now.left.keys c.insert-in-LeftOfArrows.new.self.keys c.args.id
      (gains_only term_cmp one_term c.args.self.now.left.keys c.insert-in-LeftOfArrows.new.self.keys c.args.id c.in_ok-insert-in-LeftOfArrows.ensures.keys)
      clear.left (subst (λ p. IsClear ps (part_of p) types store c.args.id) c.in-LeftOfArrows.is one);
}
