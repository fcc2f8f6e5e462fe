-- THE FORMULAS OF A GOAL THAT ARISES, past the names of its new variables: under one substitution each is the formula that the case has in its
-- place, under the answer and then another substitution.
use Rattle.std.specs.Prelude.{◌≡◌, ℕ, List}
use Rattle.ab_term.specs.Terms.{Read}
use Rattle.ab_term.specs.Translation.{EqualPastHints}
use Rattle.ab_term.specs.Variables.{Substitution, image}
use Rattle.ab_term.specs.Sameness.{same_number}
use Rattle.ab_unifiers.specs.Clauses.{Each}
use Rattle.ab_formulas.specs.Sequents.{Hypothesis, Sequent}

-- `then` gives of the formulas of g what r gives of those of s under the answer
pub record Carries (then r answer : Substitution ℕ (List ℕ)) (s g : Sequent) : Type 0 where
  pub hypotheses : Each (λ (h k : Hypothesis). (h.name ≡ k.name) × EqualPastHints (image same_number then h.formula) (image same_number r (image same_number answer k.formula))) g.hypotheses s.hypotheses
  pub conclusion : EqualPastHints (image same_number then g.conclusion) (image same_number r (image same_number answer s.conclusion))

-- r gives of the formulas of g what q gives of those of s; `alike` is the sameness in which they are compared
pub record IsUnder (alike : Read → Read → Type 0) (r q : Substitution ℕ (List ℕ)) (s g : Sequent) : Type 0 where
  pub hypotheses : Each (λ (h k : Hypothesis). (h.name ≡ k.name) × alike (image same_number r h.formula) (image same_number q k.formula)) g.hypotheses s.hypotheses
  pub conclusion : alike (image same_number r g.conclusion) (image same_number q s.conclusion)
