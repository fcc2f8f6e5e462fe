use Rattle.std.proofs.Common.{subst}
use Rattle.ab_typing.proofs.PredicateSets.{spot_cmp, one_spot, gains_only, all_gained}
use Rattle.ab_formulas.specs.Heads.{in_the_atom, under_a_variable}
use Rattle.ab_typing.specs.JudgedTerms.{IsKeeping}
use Rattle.ab_typing.specs.Parts.{place_of}
use Rattle.ab_typing.proofs.judged_terms.Spots.keep.Goals as goal

pub returns-in_ok-insert-in-InTheAtom : goal.returns-in_ok-insert-in-InTheAtom
returns-in_ok-insert-in-InTheAtom c = λ store known one. record {
  in_atom = λ types. all_gained (IsKeeping in_the_atom types store) c.args.self.now.in_atom.keys c.insert.new.self.keys c.args.spot
      (gains_only spot_cmp one_spot c.args.self.now.in_atom.keys c.insert.new.self.keys c.args.spot c.in_ok-insert-in-InTheAtom.ensures.keys)
      (known.in_atom types) (subst (λ p. IsKeeping (place_of p) types store c.args.spot) c.in-InTheAtom.is (one types));
  under = known.under;
}

pub returns-in_ok-insert-in-UnderAVariable : goal.returns-in_ok-insert-in-UnderAVariable
returns-in_ok-insert-in-UnderAVariable c = λ store known one. record {
  in_atom = known.in_atom;
  under = λ types. all_gained (IsKeeping under_a_variable types store) c.args.self.now.under.keys c.insert-in-UnderAVariable.new.self.keys c.args.spot
      (gains_only spot_cmp one_spot c.args.self.now.under.keys c.insert-in-UnderAVariable.new.self.keys c.args.spot c.in_ok-insert-in-UnderAVariable.ensures.keys)
      (known.under types) (subst (λ p. IsKeeping (place_of p) types store c.args.spot) c.in-UnderAVariable.is (one types));
}
