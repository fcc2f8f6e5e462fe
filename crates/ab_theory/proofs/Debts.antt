-- What a derivation owes after a step, and how debts add up.
use Rattle.std.specs.Prelude.{Contains, ◌↔◌, ◌⊎◌, IsSome}
use Rattle.std.specs.Option.{is_some}
use Rattle.std.proofs.Common.{◌≡◌, inl, inr, ℕ, suc, ◌+◌, ◌-◌, ◌<◌, Some, List, [], ◌∷◌, ◌++◌, length, refl, sym, ◌∙◌, ap, subst, arith, append_assoc, length-append}
use Rattle.std.proofs.lemmas.List.Elements.{Contains-append_left, Contains-append_right, Contains-append_cases}
use Rattle.std.proofs.lemmas.Option.{slice_get_within}
use Rattle.ab_term.proofs.Lists.{Contains-none, Contains-cases}
use Rattle.ab_formulas.specs.Sequents.{Sequent}
use Rattle.ab_formulas.specs.Declarations.{Declarations, theorem_in}
use Rattle.ab_formulas.proofs.KernelSplits.{place_cases}
use Rattle.ab_theory.specs.Steps.{Step, use_theorem, skip}
use Rattle.ab_theory.specs.Rules.{Rule}
use Rattle.ab_theory.specs.Derivations.{Derivation, goal, by, Derivations, none, more, roots, Valid, AllValid, open_goals, all_open_goals, goal_at, goals, refined, refined_in, Debt, theorem_taken, goal_admitted, debts_of, debts, all_debts, OwesMore, goals_admitted, gaps}
use Rattle.ab_theory.proofs.Refining.{here, there}

-- THE SECOND LIST HAS THESE between two parts of the first
pub record Inserted (ts xs ys : List Debt) : Type 0 where
  pub before : List Debt
  pub behind : List Debt
  pub was : xs ≡ before ++ behind
  pub is : ys ≡ before ++ (ts ++ behind)

pub inserted_behind : (ts zs xs ys : List Debt) → Inserted ts xs ys → Inserted ts (zs ++ xs) (zs ++ ys)
inserted_behind ts zs xs ys i = record {
  before = zs ++ i.before;
  behind = i.behind;
  was = ap (λ l. zs ++ l) i.was ∙ sym (append_assoc zs i.before i.behind);
  is = ap (λ l. zs ++ l) i.is ∙ sym (append_assoc zs i.before (ts ++ i.behind));
}

pub inserted_before : (ts zs xs ys : List Debt) → Inserted ts xs ys → Inserted ts (xs ++ zs) (ys ++ zs)
inserted_before ts zs xs ys i = record {
  before = i.before;
  behind = i.behind ++ zs;
  was = ap (λ l. l ++ zs) i.was ∙ append_assoc i.before i.behind zs;
  is = ap (λ l. l ++ zs) i.is ∙ append_assoc i.before (ts ++ i.behind) zs ∙ ap (λ l. i.before ++ l) (append_assoc ts i.behind zs);
}

inserted_contains : (ts xs ys : List Debt) → Inserted ts xs ys → (t : Debt) → Contains ys t ↔ (Contains xs t ⊎ Contains ts t)
inserted_contains ts xs ys i t = (back, forth)
  where
    old : Contains (i.before ++ i.behind) t → Contains xs t
    old c = subst (λ l. Contains l t) (sym i.was) c

    new : Contains (i.before ++ (ts ++ i.behind)) t → Contains ys t
    new c = subst (λ l. Contains l t) (sym i.is) c

    back : Contains ys t → Contains xs t ⊎ Contains ts t
    back c = elim (Contains-append_cases i.before (ts ++ i.behind) t (subst (λ l. Contains l t) i.is c)) [
      | inl a ↦ inl (old (Contains-append_left i.before i.behind t a))
      | inr b ↦ elim (Contains-append_cases ts i.behind t b) [ inl d ↦ inr d | inr e ↦ inl (old (Contains-append_right i.before i.behind t e)) ]
    ]

    forth : Contains xs t ⊎ Contains ts t → Contains ys t
    forth (inl c) = elim (Contains-append_cases i.before i.behind t (subst (λ l. Contains l t) i.was c)) [
      | inl a ↦ new (Contains-append_left i.before (ts ++ i.behind) t a)
      | inr b ↦ new (Contains-append_right i.before (ts ++ i.behind) t (Contains-append_right ts i.behind t b))
    ]
    forth (inr c) = new (Contains-append_right i.before (ts ++ i.behind) t (Contains-append_left ts i.behind t c))

-- ADMITTED GOALS are counted in each part
pub goals_admitted-append : (ts us : List Debt) → goals_admitted (ts ++ us) ≡ goals_admitted ts + goals_admitted us
goals_admitted-append [] us = let same : goals_admitted us ≡ 0 + goals_admitted us = omega arith in same
goals_admitted-append (theorem_taken n ∷ ts) us = goals_admitted-append ts us
goals_admitted-append (goal_admitted ∷ ts) us =
    let rest = goals_admitted-append ts us in
    let one : suc (goals_admitted ts + goals_admitted us) ≡ suc (goals_admitted ts) + goals_admitted us = omega arith in
    ap suc rest ∙ one

inserted_admitted : (ts xs ys : List Debt) → Inserted ts xs ys → goals_admitted ys ≡ goals_admitted xs + goals_admitted ts
inserted_admitted ts xs ys i =
    let first : goals_admitted ys ≡ goals_admitted i.before + goals_admitted (ts ++ i.behind) = ap goals_admitted i.is ∙ goals_admitted-append i.before (ts ++ i.behind) in
    let second : goals_admitted (ts ++ i.behind) ≡ goals_admitted ts + goals_admitted i.behind = goals_admitted-append ts i.behind in
    let third : goals_admitted xs ≡ goals_admitted i.before + goals_admitted i.behind = ap goals_admitted i.was ∙ goals_admitted-append i.before i.behind in
    omega (arith, first, second, third)

-- no goal is admitted where none stands among the debts, and the other way
pub none_admitted : (ts : List Debt) → (Contains ts goal_admitted → ⊥) → goals_admitted ts ≡ 0
none_admitted [] never = refl
none_admitted (theorem_taken n ∷ ts) never = none_admitted ts (λ c. never (suc c.0, omega (arith, c.1), c.2))
none_admitted (goal_admitted ∷ ts) never = absurd (never (0, omega arith, refl))

pub admits_none : (ts : List Debt) → goals_admitted ts ≡ 0 → Contains ts goal_admitted → ⊥
admits_none [] e c = Contains-none goal_admitted c
admits_none (theorem_taken n ∷ ts) e c = elim (Contains-cases (theorem_taken n) ts goal_admitted c) [ inl s ↦ absurd (cc) | inr d ↦ admits_none ts e d ]
admits_none (goal_admitted ∷ ts) e c = absurd (omega (arith, e))

-- A STEP: its debts stand among those that were there
debts-goals : (ss : List Sequent) → all_debts (goals ss) ≡ []
debts-goals [] = refl
debts-goals (s ∷ ss) = debts-goals ss

module _ (step : Step) (premises : List Sequent) where
  mutual
    pub debts-refined : (p : ℕ) (d : Derivation) → p < length (open_goals d) → Inserted (debts_of step) (debts d) (debts (refined p step premises d))
    debts-refined p (goal s) h = record { before = []; behind = []; was = refl; is = ap (λ l. debts_of step ++ l) (debts-goals premises) }
    debts-refined p (by r s ds) h = inserted_behind (debts_of step) (debts_of r) (all_debts ds) (all_debts (refined_in p step premises ds)) (debts-refined_in p ds h)

    debts-refined_in : (p : ℕ) (ds : Derivations) → p < length (all_open_goals ds) → Inserted (debts_of step) (all_debts ds) (all_debts (refined_in p step premises ds))
    debts-refined_in p none h = absurd (omega arith)
    debts-refined_in p (more d ds) h =
        elim (place_cases p (length (open_goals d))) [
          | inl c ↦
              subst (λ x. Inserted (debts_of step) (debts d ++ all_debts ds) (all_debts x)) (sym (here step premises p d ds c.1))
              (inserted_before (debts_of step) (all_debts ds) (debts d) (debts (refined p step premises d)) (debts-refined p d c.0))
          | inr c ↦
              let q = p - length (open_goals d) in
              subst (λ x. Inserted (debts_of step) (debts d ++ all_debts ds) (all_debts x)) (sym (there step premises p d ds c.1))
              (inserted_behind (debts_of step) (debts d) (all_debts ds) (all_debts (refined_in q step premises ds)) (debts-refined_in q ds (omega (arith, length-append (open_goals d) (all_open_goals ds), c.0))))
        ]

-- it owes its debts more
pub owes-refined : (place : ℕ) (step : Step) (s : Sequent) (ps : List Sequent) (d : Derivation) → goal_at d place ≡ Some s → OwesMore (debts_of step) d (refined place step ps d)
owes-refined place step s ps d is =
    inserted_contains (debts_of step) (debts d) (debts (refined place step ps d)) (debts-refined step ps place d (slice_get_within (open_goals d) place s is))

pub gaps-refined : (place : ℕ) (step : Step) (s : Sequent) (ps : List Sequent) (d : Derivation) → goal_at d place ≡ Some s → gaps (refined place step ps d) ≡ gaps d + goals_admitted (debts_of step)
gaps-refined place step s ps d is =
    inserted_admitted (debts_of step) (debts d) (debts (refined place step ps d)) (debts-refined step ps place d (slice_get_within (open_goals d) place s is))

-- DEBTS ADD UP
pub owes_none : (d : Derivation) → OwesMore [] d d
owes_none d t = (λ c. inl c, λ b. elim b [ inl c ↦ c | inr n ↦ absurd (Contains-none t n) ])

pub owes_same : (d e : Derivation) → debts d ≡ debts e → OwesMore [] d e
owes_same d e same t = (λ c. inl (subst (λ l. Contains l t) (sym same) c), λ b. elim b [ inl c ↦ subst (λ l. Contains l t) same c | inr n ↦ absurd (Contains-none t n) ])

pub owes_on : (ts us : List Debt) (d e f : Derivation) → OwesMore ts d e → OwesMore us e f → OwesMore (ts ++ us) d f
owes_on ts us d e f first second t = (back, forth)
  where
    back : Contains (debts f) t → Contains (debts d) t ⊎ Contains (ts ++ us) t
    back c = elim ((second t).0 c) [
      | inl a ↦ elim ((first t).0 a) [ inl b ↦ inl b | inr b ↦ inr (Contains-append_left ts us t b) ]
      | inr b ↦ inr (Contains-append_right ts us t b)
    ]

    forth : Contains (debts d) t ⊎ Contains (ts ++ us) t → Contains (debts f) t
    forth (inl a) = (second t).1 (inl ((first t).1 (inl a)))
    forth (inr c) = elim (Contains-append_cases ts us t c) [ inl a ↦ (second t).1 (inl ((first t).1 (inr a))) | inr b ↦ (second t).1 (inr b) ]

-- debts that are the same, in any order and as often as they are
pub owes_alike : (ts us : List Debt) (d e : Derivation) → ((t : Debt) → Contains ts t ↔ Contains us t) → OwesMore ts d e → OwesMore us d e
owes_alike ts us d e alike owes t =
    (λ c. elim ((owes t).0 c) [ inl a ↦ inl a | inr b ↦ inr ((alike t).0 b) ], λ b. elim b [ inl a ↦ (owes t).1 (inl a) | inr u ↦ (owes t).1 (inr ((alike t).1 u)) ])

-- the debts themselves, where nothing was owed before
pub owes_all : (d e : Derivation) → debts d ≡ [] → OwesMore (debts e) d e
owes_all d e empty t = (λ c. inr c, λ b. elim b [ inl a ↦ absurd (Contains-none t (subst (λ l. Contains l t) empty a)) | inr c ↦ c ])

-- WHAT IS VALID takes theorems that are there
module _ (D : Declarations) (n : List ℕ) where
  owed_declared : (step : Step) (s : Sequent) (ps : List Sequent) → Rule D step s ps → Contains (debts_of step) (theorem_taken n) → IsSome (theorem_in D n)
  owed_declared (use_theorem m l) s ps rule c = elim (Contains-cases (theorem_taken m) [] (theorem_taken n) c) [
    | inl e ↦ let same : m ≡ n = cc in ap is_some (ap (theorem_in D) (sym same) ∙ (rule.2).1)
    | inr later ↦ absurd (Contains-none (theorem_taken n) later)
  ]
  owed_declared skip s ps rule c = elim (Contains-cases goal_admitted [] (theorem_taken n) c) [ inl e ↦ absurd (cc) | inr later ↦ absurd (Contains-none (theorem_taken n) later) ]
  owed_declared step s ps rule c = absurd (Contains-none (theorem_taken n) c)

  mutual
    pub taken_declared : (d : Derivation) → Valid D d → Contains (debts d) (theorem_taken n) → IsSome (theorem_in D n)
    taken_declared (goal s) valid c = absurd (Contains-none (theorem_taken n) c)
    taken_declared (by step s ds) valid c = elim (Contains-append_cases (debts_of step) (all_debts ds) (theorem_taken n) c) [
      | inl a ↦ owed_declared step s (roots ds) valid.0 a
      | inr b ↦ all_taken_declared ds valid.1 b
    ]

    all_taken_declared : (ds : Derivations) → AllValid D ds → Contains (all_debts ds) (theorem_taken n) → IsSome (theorem_in D n)
    all_taken_declared none valid c = absurd (Contains-none (theorem_taken n) c)
    all_taken_declared (more d ds) valid c = elim (Contains-append_cases (debts d) (all_debts ds) (theorem_taken n) c) [
      | inl a ↦ taken_declared d valid.0 a
      | inr b ↦ all_taken_declared ds valid.1 b
    ]
