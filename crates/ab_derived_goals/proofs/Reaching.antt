-- A GOAL COMES TO ANOTHER, which may have other numbers for its variables: whatever is derived from that is derived from the goal.
use Rattle.std.proofs.Common.{◌≡◌, ℕ, List, [], ◌∷◌, ◌++◌, ◌∙◌, ap, subst}
use Rattle.std.proofs.lemmas.List.Elements.{All-head, All-tail}
use Rattle.ab_formulas.specs.Declarations.{Declarations}
use Rattle.ab_formulas.specs.Sequents.{Sequent, IsSequent, without}
use Rattle.ab_theory.specs.Derivations.{Debt, debts_of}
use Rattle.ab_theory.specs.Rules.{Rule}
use Rattle.ab_theory.specs.Steps.{Step}
use Rattle.ab_theory.proofs.Sequents.{without_sequent}
use Rattle.ab_formulas.specs.NamedGoals.{named}
use Rattle.ab_unifiers.proofs.Changes.{agreeing}
use Rattle.ab_effects.proofs.Renumbered.{moved_goal, named_moved}
use Rattle.ab_derived_goals.specs.Derived.{AreSound, IsDerived}
use Rattle.ab_derived_goals.proofs.Trees.{left, premises, goes_on, goes_two_ways}
use Rattle.ab_derived_goals.proofs.Hypotheses.{dropped}
use Rattle.ab_derived_goals.proofs.Moving.{TellsApart}

-- whatever is derived from the second is derived from the first
abbrev pub GoesOn : Declarations → Sequent → Sequent → Type 0
GoesOn D w v = (ps : List Sequent) (ts : List Debt) → (IsSequent D v → IsDerived D v ps ts) → IsDerived D w ps ts

pub record Reaches (D : Declarations) (w u : Sequent) : Type 0 where
  pub goal : Sequent
  pub by : ℕ → ℕ
  pub apart : TellsApart by
  pub is : goal ≡ moved_goal by u
  pub goes : GoesOn D w goal

module _ (D : Declarations) (sound : AreSound D) where
  pub through : (w v u : Sequent) → IsSequent D v → GoesOn D w v → (IsSequent D v → Reaches D v u) → Reaches D w u
  through w v u it goes rest =
      let r = rest it in
      record { goal = r.goal; by = r.by; apart = r.apart; is = r.is; goes = λ ps ts k. goes ps ts (λ j. r.goes ps ts k) }

  -- by a step
  pub reaches_by : (step : Step) (w v u : Sequent) → IsSequent D w → debts_of step ≡ [] → Rule D step w (v ∷ []) → (IsSequent D v → Reaches D v u) → Reaches D w u
  reaches_by step w v u is free rule rest =
      through w v u (All-head (IsSequent D) v [] (premises D sound step w (v ∷ []) is rule))
      (λ ps ts k. subst (λ l. IsDerived D w ps (l ++ ts)) free (goes_on D sound step w v ps ts is rule k)) rest

  -- by a step of which the first premise is derived
  pub reaches_beside : (step : Step) (w t v u : Sequent) → IsSequent D w → debts_of step ≡ [] → Rule D step w (t ∷ v ∷ []) → (IsSequent D t → IsDerived D t [] []) → (IsSequent D v → Reaches D v u) → Reaches D w u
  reaches_beside step w t v u is free rule side rest =
      let both = premises D sound step w (t ∷ v ∷ []) is rule in
      through w v u (All-head (IsSequent D) v [] (All-tail (IsSequent D) t (v ∷ []) both))
      (λ ps ts k. goes_two_ways D sound step w t v [] ps [] ts is free rule side k) rest

  -- without a hypothesis
  pub reaches_without : (w : Sequent) (x : List ℕ) (u : Sequent) → IsSequent D w → (IsSequent D (without x w) → Reaches D (without x w) u) → Reaches D w u
  reaches_without w x u is rest =
      through w (without x w) u (without_sequent D w x is) (λ ps ts k. dropped D sound w x ps ts is k) rest

-- what it comes to is left open, and is the other goal with names for numbers
pub reached : (D : Declarations) (w u : Sequent) → Reaches D w u → (v : Sequent) × IsDerived D w (v ∷ []) [] × (named v ≡ named u)
reached D w u r = (r.goal, r.goes (r.goal ∷ []) [] (λ it. left D r.goal), ap named r.is ∙ named_moved r.by (agreeing r.by r.apart) u)

-- the same, where the goal is another
pub reaches_same : (D : Declarations) (w v u : Sequent) → v ≡ w → Reaches D v u → Reaches D w u
reaches_same D w v u e r = subst (λ t. Reaches D t u) e r
