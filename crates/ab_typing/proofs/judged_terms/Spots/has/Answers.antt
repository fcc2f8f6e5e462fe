use Rattle.std.proofs.Common.{sym, subst}
use Rattle.std.proofs.lemmas.List.Elements.{All-contains}
use Rattle.ab_typing.proofs.PredicateSets.{is_in, spot_cmp, one_spot}
use Rattle.ab_formulas.specs.Heads.{in_the_atom, under_a_variable}
use Rattle.ab_typing.specs.JudgedTerms.{IsKeeping}
use Rattle.ab_typing.specs.Parts.{place_of}
use Rattle.ab_typing.proofs.judged_terms.Spots.has.Goals as goal

pub returns-in-InTheAtom : goal.returns-in-InTheAtom
returns-in-InTheAtom c = λ store known yes types.
    let keys = c.args.self.now.in_atom.keys in
    subst (λ p. IsKeeping (place_of p) types store c.args.spot) (sym c.in-InTheAtom.is)
    (All-contains (IsKeeping in_the_atom types store) keys c.args.spot (known.in_atom types) (is_in spot_cmp one_spot keys c.args.spot c.contains.result c.contains.ensures yes))

pub returns-in-UnderAVariable : goal.returns-in-UnderAVariable
returns-in-UnderAVariable c = λ store known yes types.
    let keys = c.args.self.now.under.keys in
    subst (λ p. IsKeeping (place_of p) types store c.args.spot) (sym c.in-UnderAVariable.is)
    (All-contains (IsKeeping under_a_variable types store) keys c.args.spot (known.under types) (is_in spot_cmp one_spot keys c.args.spot c.contains-in-UnderAVariable.result c.contains-in-UnderAVariable.ensures yes))
