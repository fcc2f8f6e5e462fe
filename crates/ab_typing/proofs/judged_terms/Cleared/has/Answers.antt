use Rattle.std.proofs.Common.{sym, subst}
use Rattle.std.proofs.lemmas.List.Elements.{All-contains}
use Rattle.ab_typing.proofs.PredicateSets.{term_cmp, one_term, is_in}
use Rattle.ab_formulas.specs.Stratification.{everywhere, left_of_arrows}
use Rattle.ab_typing.specs.JudgedTerms.{IsClear}
use Rattle.ab_typing.specs.Parts.{part_of}
use Rattle.ab_typing.proofs.judged_terms.Cleared.has.Goals as goal

pub returns-in-Everywhere : goal.returns-in-Everywhere
returns-in-Everywhere c = λ ps types store clear yes.
    let keys = c.args.self.now.everywhere.keys in
    subst (λ p. IsClear ps (part_of p) types store c.args.id) (sym c.in-Everywhere.is)
    (All-contains (IsClear ps everywhere types store) keys c.args.id clear.everywhere (is_in term_cmp one_term keys c.args.id c.contains.result c.contains.ensures yes))

pub returns-in-LeftOfArrows : goal.returns-in-LeftOfArrows
returns-in-LeftOfArrows c = λ ps types store clear yes.
    let keys = c.args.self.now.left.keys in
    subst (λ p. IsClear ps (part_of p) types store c.args.id) (sym c.in-LeftOfArrows.is)
    (All-contains (IsClear ps left_of_arrows types store) keys c.args.id clear.left (is_in term_cmp one_term keys c.args.id c.contains-in-LeftOfArrows.result c.contains-in-LeftOfArrows.ensures yes))
