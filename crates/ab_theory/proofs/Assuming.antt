-- What the next theorem assumes: the growing list of the places that debts bring.
use Rattle.std.specs.Prelude.{Contains, ◌↔◌, ◌⊎◌, ◌==◌}
use Rattle.std.specs.List.{list_any}
use Rattle.std.proofs.Common.{◌≡◌, inl, inr, ℕ, zero, suc, ◌<◌, ◌≤◌, ◌||◌, Bool, true, false, if◌then◌else◌, List, [], ◌∷◌, ◌++◌, length, refl, sym, ◌∙◌, ap, subst, arith}
use Rattle.std.proofs.lemmas.Bool.{eqb-true, eq-eqb, cases_eq}
use Rattle.std.proofs.lemmas.List.Elements.{Contains-append_left, Contains-append_right, Contains-append_cases}
use Rattle.ab_term.proofs.Lists.{Contains-none, Contains-here, Contains-there, Contains-cases}
use Rattle.ab_formulas.specs.Sequents.{Sequent}
use Rattle.ab_formulas.specs.Declarations.{Declarations, ArePlacesUpTo, assumed_in, theorems_in}
use Rattle.ab_formulas.proofs.TheoremPlaces.{place_below, places_weaken}
use Rattle.ab_theory.specs.Derivations.{Derivation, goal, Debt, theorem_taken, goal_admitted, debts, OwesMore, gaps}
use Rattle.ab_theory.specs.Assumptions.{places_of, all_places, in_order, places_in_order, assumed_by, with_debts}
use Rattle.ab_theory.proofs.Debts.{none_admitted, admits_none}

-- A NUMBER is told from the others of a list
abbrev has : ℕ → List ℕ → Bool
has n js = list_any (λ j. j == n) js

pub has_contains : (n : ℕ) (js : List ℕ) → has n js ≡ true → Contains js n
has_contains n [] e = absurd (let no : false ≡ true = e in cc)
has_contains n (j ∷ js) e = go (j == n) refl e (has_contains n js)
  where
    go : (b : Bool) → (j == n) ≡ b → (b || has n js) ≡ true → (has n js ≡ true → Contains js n) → Contains (j ∷ js) n
    go true t p rest = (0, omega arith, eqb-true j n t)
    go false t p rest = Contains-there j js n (rest p)

pub contains_has : (n : ℕ) (js : List ℕ) → Contains js n → has n js ≡ true
contains_has n [] c = absurd (Contains-none n c)
contains_has n (j ∷ js) c = go (j == n) refl (contains_has n js) (Contains-cases j js n c)
  where
    go : (b : Bool) → (j == n) ≡ b → (Contains js n → has n js ≡ true) → (j ≡ n) ⊎ Contains js n → (b || has n js) ≡ true
    go true t rest d = refl
    go false t rest (inl e) = absurd (let no : false ≡ true = sym t ∙ eq-eqb j n e in cc)
    go false t rest (inr d) = rest d

-- NUMBERS IN ORDER: they are those of the list that are below the bound
abbrev one_of : Bool → ℕ → List ℕ
one_of b n = if b then n ∷ [] else []

from_one : (n j : ℕ) (js : List ℕ) (b : Bool) → has n js ≡ b → Contains (one_of b n) j → (j < suc n) × Contains js j
from_one n j js true e c = elim (Contains-cases n [] j c) [
  | inl s ↦ (let same : n ≡ j = s in omega (arith, same), subst (Contains js) s (has_contains n js e))
  | inr d ↦ absurd (Contains-none j d)
]
from_one n j js false e c = absurd (Contains-none j c)

into_one : (n : ℕ) (js : List ℕ) (b : Bool) → has n js ≡ b → Contains js n → Contains (one_of b n) n
into_one n js true e c = Contains-here n []
into_one n js false e c = absurd (let no : false ≡ true = sym e ∙ contains_has n js c in cc)

pub from_order : (n : ℕ) (js : List ℕ) (j : ℕ) → Contains (in_order n js) j → (j < n) × Contains js j
from_order zero js j c = absurd (Contains-none j c)
from_order (suc n) js j c = elim (Contains-append_cases (in_order n js) (one_of (has n js) n) j c) [
  | inl a ↦ (let r = from_order n js j a in (let low : j < n = r.0 in omega (arith, low), r.1))
  | inr b ↦ from_one n j js (has n js) refl b
]

pub into_order : (n : ℕ) (js : List ℕ) (j : ℕ) → j < n → Contains js j → Contains (in_order n js) j
into_order zero js j low c = absurd (omega (arith, low))
into_order (suc n) js j low c = elim (cases_eq j n) [
  | inl e ↦ subst (Contains (in_order n js ++ one_of (has n js) n)) (sym e)
      (Contains-append_right (in_order n js) (one_of (has n js) n) n (into_one n js (has n js) refl (subst (Contains js) e c)))
  | inr d ↦ Contains-append_left (in_order n js) (one_of (has n js) n) j (into_order n js j (omega (arith, low, d)) c)
]

-- they grow
pub places_push : (m j : ℕ) (js : List ℕ) → ArePlacesUpTo m js → m < j → ArePlacesUpTo j (js ++ j ∷ [])
places_push m j [] are low = omega arith
places_push m j (i ∷ []) are low = (omega (arith, are, low), omega arith)
places_push m j (i ∷ k ∷ js) are low = (are.0, places_push m j (k ∷ js) are.1 low)

order_grows : (n : ℕ) (js : List ℕ) (last : ℕ) → n ≤ suc last → ArePlacesUpTo last (in_order n js)
order_grows zero js last low = tt
order_grows (suc zero) js last low = go (has 0 js)
  where
    go : (b : Bool) → ArePlacesUpTo last ([] ++ one_of b 0)
    go true = omega arith
    go false = tt
order_grows (suc (suc n)) js last low = places_weaken (suc n) last (in_order (suc (suc n)) js) (omega (arith, low)) (go (order_grows (suc n) js n (omega arith)) (has (suc n) js))
  where
    nothing : (xs : List ℕ) → ArePlacesUpTo (suc n) xs → ArePlacesUpTo (suc n) (xs ++ [])
    nothing [] are = are
    nothing (x ∷ []) are = are
    nothing (x ∷ y ∷ xs) are = (are.0, nothing (y ∷ xs) are.1)

    go : ArePlacesUpTo n (in_order (suc n) js) → (b : Bool) → ArePlacesUpTo (suc n) (in_order (suc n) js ++ one_of b (suc n))
    go rest true = places_push n (suc n) (in_order (suc n) js) rest (omega arith)
    go rest false = nothing (in_order (suc n) js) (places_weaken n (suc n) (in_order (suc n) js) (omega arith) rest)

-- they are the same for lists that hold the same numbers below the bound
has_alike : (n : ℕ) (js ks : List ℕ) → Contains js n ↔ Contains ks n → has n js ≡ has n ks
has_alike n js ks alike = go (has n js) (has n ks) refl refl
  where
    go : (a b : Bool) → has n js ≡ a → has n ks ≡ b → a ≡ b
    go true true d e = refl
    go false false d e = refl
    go true false d e = sym (contains_has n ks (alike.0 (has_contains n js d))) ∙ e
    go false true d e = sym d ∙ contains_has n js (alike.1 (has_contains n ks e))

order_alike : (n : ℕ) (js ks : List ℕ) → ((j : ℕ) → j < n → Contains js j ↔ Contains ks j) → in_order n js ≡ in_order n ks
order_alike zero js ks alike = refl
order_alike (suc n) js ks alike =
    ap (λ l. l ++ one_of (has n js) n) (order_alike n js ks (λ j low. alike j (omega (arith, low))))
    ∙ ap (λ b. in_order n ks ++ one_of b n) (has_alike n js ks (alike n (omega arith)))

-- places that grow are known by what they are
place_above : (last i j : ℕ) (js : List ℕ) → ArePlacesUpTo last (i ∷ js) → Contains js j → i < j
place_above last i j [] are c = absurd (Contains-none j c)
place_above last i j (k ∷ js) are c = elim (Contains-cases k js j c) [
  | inl e ↦ subst (λ x. i < x) e are.0
  | inr d ↦ let high = place_above last k j js are.1 d in let low = are.0 in omega (arith, high, low)
]

places_behind : (last i : ℕ) (js : List ℕ) → ArePlacesUpTo last (i ∷ js) → ArePlacesUpTo last js
places_behind last i [] are = tt
places_behind last i (k ∷ js) are = are.1

pub places_once : (last : ℕ) (js ks : List ℕ) → ArePlacesUpTo last js → ArePlacesUpTo last ks → ((j : ℕ) → Contains js j ↔ Contains ks j) → js ≡ ks
places_once last [] [] a b alike = refl
places_once last [] (k ∷ ks) a b alike = absurd (Contains-none k ((alike k).1 (Contains-here k ks)))
places_once last (j ∷ js) [] a b alike = absurd (Contains-none j ((alike j).0 (Contains-here j js)))
places_once last (j ∷ js) (k ∷ ks) a b alike =
    rw same (ap (λ l. k ∷ l) (places_once last js ks (places_behind last j js a) (places_behind last k ks b) (λ i. (left i, right i))))
  where
    same : j ≡ k
    same = elim (Contains-cases k ks j ((alike j).0 (Contains-here j js))) [
      | inl e ↦ sym e
      | inr c ↦ elim (Contains-cases j js k ((alike k).1 (Contains-here k ks))) [
        | inl e ↦ e
        | inr d ↦ let high = place_above last k j ks b c in let low = place_above last j k js a d in absurd (omega (arith, high, low))
      ]
    ]

    left : (i : ℕ) → Contains js i → Contains ks i
    left i c = elim (Contains-cases k ks i ((alike i).0 (Contains-there j js i c))) [
      | inl e ↦ let high = place_above last j i js a c in let first : k ≡ i = e in let second : j ≡ k = same in absurd (omega (arith, high, first, second))
      | inr d ↦ d
    ]

    right : (i : ℕ) → Contains ks i → Contains js i
    right i c = elim (Contains-cases j js i ((alike i).1 (Contains-there k ks i c))) [
      | inl e ↦ let high = place_above last k i ks b c in let first : j ≡ i = e in let second : j ≡ k = same in absurd (omega (arith, high, first, second))
      | inr d ↦ d
    ]

-- PLACES IN ORDER: they grow, and are all those of the list up to the last
pub places_grow : (D : Declarations) (js : List ℕ) → ArePlacesUpTo (length (theorems_in D)) (places_in_order D js)
places_grow D js = order_grows (suc (length (theorems_in D))) js (length (theorems_in D)) (omega arith)

pub in_places : (D : Declarations) (js : List ℕ) (j : ℕ) → Contains (places_in_order D js) j ↔ (j ≤ length (theorems_in D)) × Contains js j
in_places D js j = (
  λ c. (let r = from_order (suc (length (theorems_in D))) js j c in (let low : j < suc (length (theorems_in D)) = r.0 in omega (arith, low), r.1)),
  λ p. into_order (suc (length (theorems_in D))) js j (let low : j ≤ length (theorems_in D) = p.0 in omega (arith, low)) p.1,
)

-- lists that hold the same places give the same
pub places_alike : (D : Declarations) (js ks : List ℕ) → ((j : ℕ) → j ≤ length (theorems_in D) → Contains js j ↔ Contains ks j) → places_in_order D js ≡ places_in_order D ks
places_alike D js ks alike = order_alike (suc (length (theorems_in D))) js ks (λ j low. alike j (omega (arith, low)))

-- a list that grows, up to the last, is in order: it is the one list of its places
pub places_still : (D : Declarations) (js : List ℕ) → ArePlacesUpTo (length (theorems_in D)) js → places_in_order D js ≡ js
places_still D js grow =
    let last = length (theorems_in D) in
    places_once last (places_in_order D js) js (places_grow D js) grow (λ j. (λ c. ((in_places D js j).0 c).1, λ c. (in_places D js j).1 (place_below last js j grow c, c)))

-- WHAT DEBTS BRING
pub from_places : (D : Declarations) (ts : List Debt) (j : ℕ) → Contains (all_places D ts) j → (t : Debt) × Contains ts t × Contains (places_of D t) j
from_places D [] j c = absurd (Contains-none j c)
from_places D (t ∷ ts) j c = elim (Contains-append_cases (places_of D t) (all_places D ts) j c) [
  | inl a ↦ (t, Contains-here t ts, a)
  | inr b ↦ (let r = from_places D ts j b in (r.0, Contains-there t ts r.0 r.1, r.2))
]

pub into_places : (D : Declarations) (ts : List Debt) (t : Debt) (j : ℕ) → Contains ts t → Contains (places_of D t) j → Contains (all_places D ts) j
into_places D [] t j c p = absurd (Contains-none t c)
into_places D (u ∷ ts) t j c p = elim (Contains-cases u ts t c) [
  | inl e ↦ Contains-append_left (places_of D u) (all_places D ts) j (subst (λ x. Contains (places_of D x) j) (sym e) p)
  | inr d ↦ Contains-append_right (places_of D u) (all_places D ts) j (into_places D ts t j d p)
]

-- WHAT IS ASSUMED
pub nothing_in_order : (n : ℕ) → in_order n [] ≡ []
nothing_in_order zero = refl
nothing_in_order (suc n) = ap (λ l. l ++ []) (nothing_in_order n)

pub assumed_begun : (D : Declarations) (s : Sequent) → assumed_by D (goal s) ≡ []
assumed_begun D s = nothing_in_order (suc (length (theorems_in D)))

pub assumed_more : (D : Declarations) (ts : List Debt) (d e : Derivation) → OwesMore ts d e → assumed_by D e ≡ with_debts D ts (assumed_by D d)
assumed_more D ts d e owes = places_alike D (all_places D (debts e)) (assumed_by D d ++ all_places D ts) (λ j low. (back j low, forth j))
  where
    back : (j : ℕ) → j ≤ length (theorems_in D) → Contains (all_places D (debts e)) j → Contains (assumed_by D d ++ all_places D ts) j
    back j low c =
        let r = from_places D (debts e) j c in
        elim ((owes r.0).0 r.1) [
          | inl a ↦ Contains-append_left (assumed_by D d) (all_places D ts) j ((in_places D (all_places D (debts d)) j).1 (low, into_places D (debts d) r.0 j a r.2))
          | inr b ↦ Contains-append_right (assumed_by D d) (all_places D ts) j (into_places D ts r.0 j b r.2)
        ]

    forth : (j : ℕ) → Contains (assumed_by D d ++ all_places D ts) j → Contains (all_places D (debts e)) j
    forth j c = elim (Contains-append_cases (assumed_by D d) (all_places D ts) j c) [
      | inl a ↦ (let r = from_places D (debts d) j ((in_places D (all_places D (debts d)) j).0 a).1 in into_places D (debts e) r.0 j ((owes r.0).1 (inl r.1)) r.2)
      | inr b ↦ (let r = from_places D ts j b in into_places D (debts e) r.0 j ((owes r.0).1 (inr r.1)) r.2)
    ]

-- where no debt is added
pub assumed_same : (D : Declarations) (d e : Derivation) → OwesMore [] d e → assumed_by D e ≡ assumed_by D d
assumed_same D d e owes = places_alike D (all_places D (debts e)) (all_places D (debts d)) (λ j low. (back j, forth j))
  where
    back : (j : ℕ) → Contains (all_places D (debts e)) j → Contains (all_places D (debts d)) j
    back j c = let r = from_places D (debts e) j c in elim ((owes r.0).0 r.1) [ inl a ↦ into_places D (debts d) r.0 j a r.2 | inr b ↦ absurd (Contains-none r.0 b) ]

    forth : (j : ℕ) → Contains (all_places D (debts d)) j → Contains (all_places D (debts e)) j
    forth j c = let r = from_places D (debts d) j c in into_places D (debts e) r.0 j ((owes r.0).1 (inl r.1)) r.2

-- WHAT ASSUMES NOTHING
nothing_holds : (js : List ℕ) → ((j : ℕ) → Contains js j → ⊥) → js ≡ []
nothing_holds [] never = refl
nothing_holds (j ∷ js) never = absurd (never j (Contains-here j js))

pub nothing_assumed : (D : Declarations) (d : Derivation) → ((n : List ℕ) (j : ℕ) → Contains (assumed_in D n) j → j ≤ length (theorems_in D))
    → assumed_by D d ≡ [] → (gaps d ≡ 0) × ((n : List ℕ) → Contains (debts d) (theorem_taken n) → assumed_in D n ≡ [])
nothing_assumed D d bounded empty = (none_admitted (debts d) own, λ n taken. nothing_holds (assumed_in D n) (λ j c. never (theorem_taken n) j taken c (bounded n j c)))
  where
    never : (t : Debt) (j : ℕ) → Contains (debts d) t → Contains (places_of D t) j → j ≤ length (theorems_in D) → ⊥
    never t j owed c low = Contains-none j (subst (λ js. Contains js j) empty ((in_places D (all_places D (debts d)) j).1 (low, into_places D (debts d) t j owed c)))

    own : Contains (debts d) goal_admitted → ⊥
    own c = never goal_admitted (length (theorems_in D)) c (Contains-here (length (theorems_in D)) []) (omega arith)

-- and the other way
pub nothing_owed : (D : Declarations) (d : Derivation) → gaps d ≡ 0 → ((n : List ℕ) → Contains (debts d) (theorem_taken n) → assumed_in D n ≡ []) → assumed_by D d ≡ []
nothing_owed D d whole empty = nothing_holds (assumed_by D d) (λ j c. let r = from_places D (debts d) j ((in_places D (all_places D (debts d)) j).0 c).1 in never r.0 j r.1 r.2)
  where
    never : (t : Debt) (j : ℕ) → Contains (debts d) t → Contains (places_of D t) j → ⊥
    never (theorem_taken n) j owed c = Contains-none j (subst (λ js. Contains js j) (empty n owed) c)
    never goal_admitted j owed c = admits_none (debts d) whole owed
