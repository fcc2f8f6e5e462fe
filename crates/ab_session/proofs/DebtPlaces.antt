-- What debts bring, one after another, and the names of places.
use Rattle.std.specs.Prelude.{Contains, ◌↔◌, slice_get, Result, Ok, Err, IfOk}
use Rattle.std.proofs.Common.{◌≡◌, Vec, Global, inl, inr, ℕ, zero, suc, ◌+◌, ◌<◌, ◌≤◌, Bool, false, Some, None, List, [], ◌∷◌, ◌++◌, length, map, take, get_or, replicate, refl, sym, ◌∙◌, ap, subst, arith, append_assoc, append-nil}
use Rattle.std.proofs.Math.Seq.{take-append_seam}
use Rattle.std.proofs.lemmas.List.{take_more, map-append}
use Rattle.std.proofs.lemmas.Option.{slice_get_within, slice_get-get_or}
use Rattle.std.proofs.lemmas.Bool.{cases_order}
use Rattle.ab_term.specs.Terms.{Read}
use Rattle.ab_formulas.specs.Declarations.{Declarations, a_theorem, theorems_in, name_in, names_at}
use Rattle.ab_formulas.proofs.Declaring.{theorems_in-append}
use Rattle.ab_formulas.proofs.KernelSplits.{get_left}
use Rattle.ab_formulas.proofs.TheoremPlaces.{name_last}
use Rattle.ab_theory.specs.Derivations.{Debt}
use Rattle.ab_theory.specs.Assumptions.{places_of, all_places, places_in_order}
use Rattle.ab_theory.proofs.Assuming.{from_places, into_places, places_alike}
use Rattle.ab_proofcmd.specs.ab_hypothesis.specs.ab_steps.specs.ab_kernel.specs.Debts.{debt_of}
use Rattle.ab_proofcmd.specs.ab_hypothesis.specs.ab_steps.specs.ab_kernel.specs.declared.debt.Debt.{Debt as Kept}
use Rattle.ab_session.specs.PlaceMarks.{Marks}

-- Debts

all_places-append : (D : Declarations) (ts us : List Debt) → all_places D (ts ++ us) ≡ all_places D ts ++ all_places D us
all_places-append D [] us = refl
all_places-append D (t ∷ ts) us = ap (λ js. places_of D t ++ js) (all_places-append D ts us) ∙ sym (append_assoc (places_of D t) (all_places D ts) (all_places D us))

pub one_more_debt : (D : Declarations) (js : List ℕ) (ds : List Kept) (i : ℕ) (k d : Kept) → i < length ds → d ≡ get_or ds i k
    → (js ++ all_places D (map debt_of (take i ds))) ++ places_of D (debt_of d) ≡ js ++ all_places D (map debt_of (take (i + 1) ds))
one_more_debt D js ds i k d low is =
    let front = map debt_of (take i ds) in
    append_assoc js (all_places D front) (places_of D (debt_of d))
    ∙ ap (λ xs. js ++ xs)
    (ap (λ xs. all_places D front ++ xs) (sym (append-nil (places_of D (debt_of d)))) ∙ sym (all_places-append D front (debt_of d ∷ []))
    ∙ ap (all_places D) (ap (λ e. front ++ debt_of e ∷ []) is ∙ sym (map-append debt_of (take i ds) (get_or ds i k ∷ [])) ∙ ap (map debt_of) (sym (take_more ds i k low))))

-- the same debts bring the same places
pub debts_alike : (D : Declarations) (ts us : List Debt) → ((t : Debt) → Contains ts t ↔ Contains us t) → places_in_order D (all_places D ts) ≡ places_in_order D (all_places D us)
debts_alike D ts us alike =
    places_alike D (all_places D ts) (all_places D us) (λ j low. (
      λ c. (let r = from_places D ts j c in into_places D us r.0 j ((alike r.0).0 r.1) r.2),
      λ c. (let r = from_places D us j c in into_places D ts r.0 j ((alike r.0).1 r.1) r.2),
    ))

-- nothing is marked yet
all_false : (n i : ℕ) → i < length (replicate n false ++ false ∷ []) → slice_get (replicate n false ++ false ∷ []) i ≡ Some false
all_false zero zero low = refl
all_false zero (suc i) low = absurd (omega (arith, low))
all_false (suc n) zero low = refl
all_false (suc n) (suc i) low = all_false n i (omega (arith, low))

pub none_yet : (ms ns : List Bool) (n : ℕ) → ms ≡ replicate n false → ns ≡ ms ++ false ∷ [] → Marks ns []
none_yet ms ns n is more =
    let same : replicate n false ++ false ∷ [] ≡ ns = ap (λ xs. xs ++ false ∷ []) (sym is) ∙ sym more in
    subst (λ xs. Marks xs []) same (all_false n)

as_many : (n : ℕ) → length (replicate n false ++ false ∷ []) ≡ suc n
as_many zero = refl
as_many (suc n) = ap suc (as_many n)

pub marks_for_all : (ms ns : List Bool) (n : ℕ) → ms ≡ replicate n false → ns ≡ ms ++ false ∷ [] → length ns ≡ suc n
marks_for_all ms ns n is more = ap length (more ∙ ap (λ xs. xs ++ false ∷ []) is) ∙ as_many n

-- what was written in front of the rest
pub written : (ms ns : List Bool) (n : ℕ) → length ms ≡ n → take n (ms ++ ns) ≡ ms
written ms ns n size = ap (λ m. take m (ms ++ ns)) (sym size) ∙ take-append_seam ms ns

-- what a vector holds, where it holds anything
pub placed : {E : Type 0} (r : Result (Vec ℕ Global) E) (js ks : List ℕ) → js ≡ ks → IfOk r (λ v. v.items ≡ js) → IfOk r (λ v. v.items ≡ ks)
placed (Ok v) js ks same is = is ∙ same
placed (Err e) js ks same is = tt

-- Names

module _ (D : Declarations) (next : List ℕ) (F : Read) (js : List ℕ) where
  abbrev E : Declarations
  E = D ++ a_theorem next F js ∷ []

  abbrev name_of : ℕ → List ℕ
  name_of j = name_in (slice_get (theorems_in E) j)

  -- a theorem that stands there
  pub name_there : (j : ℕ) (t : List ℕ × Read) → slice_get (theorems_in D) j ≡ Some t → name_of j ≡ t.0
  name_there j t e =
      ap (λ ts. name_in (slice_get ts j)) (theorems_in-append D (a_theorem next F js ∷ []))
      ∙ ap name_in (get_left (theorems_in D) ((next, F) ∷ []) j (slice_get_within (theorems_in D) j t e) ∙ e)

  -- the next one
  pub name_next : (j : ℕ) → slice_get (theorems_in D) j ≡ None → j ≤ length (theorems_in D) → name_of j ≡ next
  name_next j e low = elim (cases_order j (length (theorems_in D))) [
    | inl same ↦ ap name_of same ∙ name_last D next F js
    | inr (inl less) ↦
        let there : None ≡ Some (get_or (theorems_in D) j (next, F)) = sym e ∙ slice_get-get_or (theorems_in D) j (next, F) less in
        absurd (cc)
    | inr (inr more) ↦ absurd (omega (arith, low, more))
  ]

  pub one_more_name : (ps : List ℕ) (i : ℕ) (name : List ℕ) (names : List (List ℕ)) → i < length ps → names ≡ names_at E (take i ps) → name_of (get_or ps i 0) ≡ name
      → names ++ name ∷ [] ≡ names_at E (take (i + 1) ps)
  one_more_name ps i name names low so_far is =
      ap (λ xs. xs ++ name ∷ []) so_far ∙ ap (λ x. names_at E (take i ps) ++ x ∷ []) (sym is)
      ∙ sym (map-append name_of (take i ps) (get_or ps i 0 ∷ [])) ∙ ap (names_at E) (sym (take_more ps i 0 low))
