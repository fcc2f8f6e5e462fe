-- What an analysis of an atom leads to: a premise for each alternative that has a solution, and a refusal where one is
-- stuck. It is asked of every alternative, in order.
use Rattle.std.specs.Prelude.{ℕ, List, [], ◌∷◌, Contains}
use Rattle.ab_term.specs.Types.{Ty}
use Rattle.ab_term.specs.Terms.{Term}
use Rattle.ab_term.specs.Typing.{Signature}
use Rattle.ab_term.specs.Variables.{Substitution, image, IsTyped}
use Rattle.ab_term.specs.Sameness.{same_number}
use Rattle.ab_unifiers.specs.Replacements.{Cell}
use Rattle.ab_unifiers.specs.Unification.{Answer, unified, apart, stuck, Solves}
use Rattle.ab_unifiers.specs.Unifiers.{given}
use Rattle.ab_unifiers.specs.Alternatives.{Scope, Alternative}
use Rattle.ab_unifiers.specs.InstanceCover.{IsOf}

-- an alternative with its solution, and all cells then
pub record Premise (Hint : Type 0) : Type 0 where
  pub alternative : Alternative Hint
  pub cells : List (Cell Hint)
  pub solution : Substitution ℕ Hint

module _ {Hint : Type 0} where
  -- what stands in the place of the atom
  abbrev pub new_hypothesis : Premise Hint → Term ℕ Hint
  new_hypothesis p = image same_number p.solution p.alternative.body

  -- what becomes of another formula of the sequent
  abbrev pub formula_in : Premise Hint → Term ℕ Hint → Term ℕ Hint
  formula_in p t = image same_number p.solution (image same_number p.alternative.raised t)

module _ {Hint : Type 0} (x : Hint) where
  abbrev pub IsAnswered : Alternative Hint → Answer Hint → Type 0
  IsAnswered alt a = Solves x (given alt.equations alt.cells alt.flexible) a

  -- THE PREMISES: none for an alternative that is apart, one for one that is unified
  pub data LeadsTo : List (Alternative Hint) → List (Premise Hint) → Type 0 where
    at_end : LeadsTo [] []
    no_case : {alt : Alternative Hint} {alts : List (Alternative Hint)} {ps : List (Premise Hint)} → IsAnswered alt apart → LeadsTo alts ps → LeadsTo (alt ∷ alts) ps
    a_case : {alt : Alternative Hint} {alts : List (Alternative Hint)} {ps : List (Premise Hint)} {cells : List (Cell Hint)} {q : Substitution ℕ Hint} → IsAnswered alt (unified cells q) → LeadsTo alts ps
        → LeadsTo (alt ∷ alts) (record { alternative = alt; cells = cells; solution = q } ∷ ps)

  -- whether a premise may come of an alternative
  abbrev pub IsDecided : Answer Hint → Type 0
  IsDecided (unified cells q) = Unit {0}
  IsDecided apart = Unit {0}
  IsDecided (stuck i) = ⊥

  -- THE REFUSAL: the first alternative that is stuck, with the place of the equation that is left
  pub data IsStuckAt : List (Alternative Hint) → ℕ → Type 0 where
    stuck_here : {alt : Alternative Hint} {alts : List (Alternative Hint)} {i : ℕ} → IsAnswered alt (stuck i) → IsStuckAt (alt ∷ alts) i
    stuck_later : {alt : Alternative Hint} {alts : List (Alternative Hint)} {a : Answer Hint} {i : ℕ} → IsAnswered alt a → IsDecided a → IsStuckAt alts i → IsStuckAt (alt ∷ alts) i

-- COVER, by premises: for a substitution s and a body there are a premise and another substitution, which gives of
-- the new hypothesis that body, and of each other formula of the sequent what s makes of it
module _ {Hint : Type 0} (alike : Term ℕ Hint → Term ℕ Hint → Type 0) where
  abbrev pub IsMet : Signature → Scope Hint → List (Premise Hint) → Substitution ℕ Hint → Term ℕ Hint → Type 0
  IsMet sg sequent ps s B = (p : Premise Hint) × (r : Substitution ℕ Hint) × Contains ps p × IsTyped sg r
      × alike (image same_number r (new_hypothesis p)) B
      × ((t : Term ℕ Hint) (A : Ty) → IsOf sg sequent t A → alike (image same_number r (formula_in p t)) (image same_number s t))
