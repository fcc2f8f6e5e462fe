-- That case analysis of judgements loses nothing: for each instance of the analysed judgement under a substitution
-- there is an alternative whose solution is the substitution, up to another one.
use Rattle.std.specs.Prelude.{◌≡◌, ℕ, List, Contains}
use Rattle.ab_term.specs.Types.{Ty}
use Rattle.ab_term.specs.Terms.{Term}
use Rattle.ab_term.specs.Typing.{Signature}
use Rattle.ab_term.specs.Translation.{forget, EqualPastHints}
use Rattle.ab_term.specs.Variables.{Substitution, image, IsTyped}
use Rattle.ab_term.specs.Sameness.{same_number}
use Rattle.ab_unifiers.specs.Unification.{Answer, unified, apart, stuck, Solves}
use Rattle.ab_unifiers.specs.Unifiers.{given}
use Rattle.ab_unifiers.specs.Alternatives.{Scope, Alternative}
use Rattle.ab_unifiers.specs.InstanceCover.{IsOf}
use Rattle.ab_unifiers.specs.Premises.{Premise, new_hypothesis, formula_in}
pub use Rattle.ab_coverage.specs.TakenNames.{IsTaken, taken_off}
use Rattle.ab_coverage.proofs.IndexedGoals.{full, without_vacuous}

-- BODIES COMPARED: each judgement in them opened; and once each outermost `exists` whose name doesn't stand in its body
-- is left out
module _ {Hint : Type 0} where
  abbrev pub FullyEqual : Term ℕ Hint → Term ℕ Hint → Type 0
  FullyEqual t u = EqualPastHints (full t) (full u)

  abbrev pub NearlyEqual : Term ℕ Hint → Term ℕ Hint → Type 0
  NearlyEqual t u = without_vacuous (forget (full t)) ≡ without_vacuous (forget (full u))

-- WHAT COVER ASKS of an alternative, by the answer to its equations, for a substitution s and a body: that it isn't
-- apart; and where it is unified, that some substitution gives of the alternative's body this one, and of each
-- other formula of the sequent what s makes of it. Where the answer is stuck the whole step is refused.
module _ {Hint : Type 0} (meets : Term ℕ Hint → Term ℕ Hint → Type 0) where
  abbrev pub Meets : Signature → Scope Hint → Alternative Hint → Answer Hint → Substitution ℕ Hint → Term ℕ Hint → Type 0
  Meets sg sequent alt apart s B = ⊥
  Meets sg sequent alt (stuck i) s B = Unit {0}
  Meets sg sequent alt (unified more q) s B = (r : Substitution ℕ Hint) × IsTyped sg r
      × meets (image same_number r (image same_number q alt.body)) B
      × ((t : Term ℕ Hint) (A : Ty) → IsOf sg sequent t A → EqualPastHints (image same_number r (image same_number q (image same_number alt.raised t))) (image same_number s t))

  abbrev pub IsMetBy : Signature → Hint → Scope Hint → Alternative Hint → Substitution ℕ Hint → Term ℕ Hint → Type 0
  IsMetBy sg x sequent alt s B = (a : Answer Hint) → Solves x (given alt.equations alt.cells alt.flexible) a → Meets sg sequent alt a s B

  -- one of the alternatives is
  abbrev pub IsMetIn : Signature → Hint → Scope Hint → List (Alternative Hint) → Substitution ℕ Hint → Term ℕ Hint → Type 0
  IsMetIn sg x sequent alts s B = (alt : Alternative Hint) × Contains alts alt × IsMetBy sg x sequent alt s B

  -- the same of a premise: there are one and a substitution, which gives of the new hypothesis that body, and of each
  -- other formula of the sequent what s makes of it
  abbrev pub HasPremise : Signature → Scope Hint → List (Premise Hint) → Substitution ℕ Hint → Term ℕ Hint → Type 0
  HasPremise sg sequent ps s B = (p : Premise Hint) × (r : Substitution ℕ Hint) × Contains ps p × IsTyped sg r
      × meets (image same_number r (new_hypothesis p)) B
      × ((t : Term ℕ Hint) (A : Ty) → IsOf sg sequent t A → EqualPastHints (image same_number r (formula_in p t)) (image same_number s t))
