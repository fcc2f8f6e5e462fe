-- Derivations one on another.
use Rattle.std.proofs.Common.{◌≡◌, List, [], ◌∷◌, ◌++◌, refl, sym, ◌∙◌, ap, subst, append-nil}
use Rattle.std.specs.Prelude.{All}
use Rattle.std.proofs.lemmas.List.Elements.{All-head, All-tail}
use Rattle.ab_formulas.specs.Declarations.{Declarations}
use Rattle.ab_formulas.specs.Sequents.{Sequent, IsSequent}
use Rattle.ab_theory.specs.Derivations.{goal, by, Derivations, none, more, roots, AllValid, all_open_goals, all_debts, Debt, debts_of}
use Rattle.ab_theory.specs.Rules.{Rule}
use Rattle.ab_theory.specs.Steps.{Step}
use Rattle.ab_theory.proofs.Keeping.{kept_by_rule}
use Rattle.ab_derived_goals.specs.Derived.{AreSound, IsDerived}

-- goals are derived from others, one after another
abbrev pub AreDerived : Declarations → List Sequent → List Sequent → List Debt → Type 0
AreDerived D ss ps owed = (ds : Derivations) × (roots ds ≡ ss) × AllValid D ds × (all_open_goals ds ≡ ps) × (all_debts ds ≡ owed)

module _ (D : Declarations) where
  -- a goal that is left as it is
  pub left : (s : Sequent) → IsDerived D s (s ∷ []) []
  left s = (goal s, record { derives = refl; valid = tt; leaves = refl; owes = refl })

  pub no_goals : AreDerived D [] [] []
  no_goals = (none, refl, tt, refl, refl)

  pub and_these : (s : Sequent) (ss ps qs : List Sequent) (ts us : List Debt) → IsDerived D s ps ts → AreDerived D ss qs us → AreDerived D (s ∷ ss) (ps ++ qs) (ts ++ us)
  and_these s ss ps qs ts us (d, w) (ds, r, v, o, n) = (
    more d ds,
    ap (λ t. t ∷ roots ds) w.derives ∙ ap (λ l. s ∷ l) r,
    (w.valid, v),
    ap (λ l. l ++ all_open_goals ds) w.leaves ∙ ap (λ l. ps ++ l) o,
    ap (λ l. l ++ all_debts ds) w.owes ∙ ap (λ l. ts ++ l) n,
  )

  -- all goals are left as they are
  pub all_left : (ps : List Sequent) → AreDerived D ps ps []
  all_left [] = no_goals
  all_left (p ∷ ps) = and_these p ps (p ∷ []) ps [] [] (left p) (all_left ps)

  -- a step, and derivations of what it leads to
  pub stepped : (step : Step) (s : Sequent) (ss ps : List Sequent) (ts : List Debt) → Rule D step s ss → AreDerived D ss ps ts → IsDerived D s ps (debts_of step ++ ts)
  stepped step s ss ps ts rule (ds, r, v, o, n) = (
    by step s ds,
    record { derives = refl; valid = (subst (Rule D step s) (sym r) rule, v); leaves = o; owes = ap (λ l. debts_of step ++ l) n },
  )

module _ (D : Declarations) (sound : AreSound D) where
  pub premises : (step : Step) (s : Sequent) (ss : List Sequent) → IsSequent D s → Rule D step s ss → All (IsSequent D) ss
  premises step s ss is rule = kept_by_rule D sound.sentences sound.definitions sound.programs sound.member step s ss is rule

  -- STEPS that lead to no goal, to one, and to two; where they are sequents
  pub closes : (step : Step) (s : Sequent) → debts_of step ≡ [] → Rule D step s [] → IsDerived D s [] []
  closes step s free rule = subst (IsDerived D s []) (append-nil (debts_of step) ∙ free) (stepped D step s [] [] [] rule (no_goals D))

  pub goes_on : (step : Step) (s t : Sequent) (ps : List Sequent) (ts : List Debt) → IsSequent D s → Rule D step s (t ∷ []) → (IsSequent D t → IsDerived D t ps ts) → IsDerived D s ps (debts_of step ++ ts)
  goes_on step s t ps ts is rule rest =
      let it = All-head (IsSequent D) t [] (premises step s (t ∷ []) is rule) in
      stepped D step s (t ∷ []) ps ts rule
      (subst (λ l. AreDerived D (t ∷ []) ps l) (append-nil ts) (subst (λ l. AreDerived D (t ∷ []) l (ts ++ [])) (append-nil ps) (and_these D t [] ps [] ts [] (rest it) (no_goals D))))

  pub goes_two_ways : (step : Step) (s t u : Sequent) (ps qs : List Sequent) (ts us : List Debt) → IsSequent D s → debts_of step ≡ [] → Rule D step s (t ∷ u ∷ [])
      → (IsSequent D t → IsDerived D t ps ts) → (IsSequent D u → IsDerived D u qs us) → IsDerived D s (ps ++ qs) (ts ++ us)
  goes_two_ways step s t u ps qs ts us is free rule first second =
      let both = premises step s (t ∷ u ∷ []) is rule in
      let last = All-head (IsSequent D) u [] (All-tail (IsSequent D) t (u ∷ []) both) in
      let rest : AreDerived D (u ∷ []) qs us = subst (λ l. AreDerived D (u ∷ []) qs l) (append-nil us) (subst (λ l. AreDerived D (u ∷ []) l (us ++ [])) (append-nil qs) (and_these D u [] qs [] us [] (second last) (no_goals D))) in
      subst (λ l. IsDerived D s (ps ++ qs) (l ++ (ts ++ us))) free
      (stepped D step s (t ∷ u ∷ []) (ps ++ qs) (ts ++ us) rule (and_these D t (u ∷ []) ps qs ts us (first (All-head (IsSequent D) t (u ∷ []) both)) rest))
