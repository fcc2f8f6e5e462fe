-- The new ones of the constants that are chosen are different, and none of those that the goal holds.
use Rattle.std.specs.Prelude.{AllPairs, Contains, filter}
use Rattle.std.proofs.Common.{◌≡◌, ◌≢◌, inl, inr, ℕ, List, [], ◌∷◌, ◌++◌, map, Bool, true, false, not, cond, refl, sym, ◌∙◌, ap, subst}
use Rattle.std.proofs.lemmas.Bool.{false≢true}
use Rattle.std.proofs.lemmas.List.Elements.{All-contains, Contains-append_cases}
use Rattle.std.proofs.lemmas.List.Kept.{AllPairs-cons}
use Rattle.ab_term.specs.Types.{Ty, same_type}
use Rattle.ab_term.specs.Terms.{Nominal}
use Rattle.ab_term.specs.Names.{support_of_all, same_nominal}
use Rattle.ab_term.proofs.Lists.{Contains-none, Contains-here, Contains-there, Contains-cases, Contains-from_map, All-from_contains, AllPairs-none, AllPairs-parts}
use Rattle.ab_unifiers.specs.Clauses.{Clause}
use Rattle.ab_unifiers.specs.Choices.{is_in, outside, others, of_type, placed, in_order, new_constant, choices}
use Rattle.ab_unifiers.proofs.Choosing.{contains_in, placed_cases, gathered_from}
use Rattle.ab_unifiers.proofs.Matching.{new_is_new}
use Rattle.ab_theory.specs.Atoms.{Defined, Choice, choices_of}
use Rattle.ab_search_trees.specs.Ways.{with_constants}
use Rattle.ab_search_ways.proofs.Placing.{placed_pairs}

kept_there : (p : Nominal → Bool) (xs : List Nominal) (a : Nominal) → Contains (filter p xs) a → Contains xs a
kept_there p [] a m = m
kept_there p (x ∷ xs) a m = go (p x) (kept_there p xs a) m
  where
    go : (b : Bool) → (Contains (filter p xs) a → Contains xs a) → Contains (cond b (x ∷ filter p xs) (filter p xs)) a → Contains (x ∷ xs) a
    go true later m = elim (Contains-cases x (filter p xs) a m) [ inl e ↦ subst (Contains (x ∷ xs)) e (Contains-here x xs) | inr k ↦ Contains-there x xs a (later k) ]
    go false later m = Contains-there x xs a (later m)

abbrev Fresh : List Nominal → List Nominal → Type 0
Fresh held new = AllPairs (λ a b. a ≢ b) new × ((c : Nominal) → Contains new c → ¬ (Contains held c))

-- of any choice, those that aren't the atom's
pub fresh_different : (As : List Ty) (whole free held : List Nominal) → ((b : Nominal) → Contains free b → Contains whole b) → (cs : List Nominal) → Contains (choices As free held) cs → Fresh held (outside cs whole)
fresh_different [] whole free held f cs m = elim (Contains-cases [] [] cs m) [
  | inl e ↦ subst (λ l. Fresh held (outside l whole)) e (AllPairs-none (λ a b. a ≢ b), λ c k. absurd (Contains-none c k))
  | inr n ↦ absurd (Contains-none cs n)
]
fresh_different (A ∷ As) whole free held f cs m =
    let new : Nominal = new_constant held A in
    let from = gathered_from (λ b. map (λ l. b ∷ l) (choices As (others b free) (b ∷ held))) (of_type A free ++ new ∷ []) cs m in
    let a : Nominal = from.0 in
    let tail = Contains-from_map (λ l. a ∷ l) (choices As (others a free) (a ∷ held)) cs from.2 in
    subst (λ l. Fresh held (outside l whole)) tail.2
    (step A As whole free held f a from.1 tail.0 (fresh_different As whole (others a free) (a ∷ held) (λ b k. f b (kept_there (λ c. not (same_nominal a c)) free b k)) tail.0 tail.1))
  where
    step : (A : Ty) (As : List Ty) (whole free held : List Nominal) → ((b : Nominal) → Contains free b → Contains whole b) → (a : Nominal) → Contains (of_type A free ++ new_constant held A ∷ []) a → (rest : List Nominal)
        → Fresh (a ∷ held) (outside rest whole) → Fresh held (outside (a ∷ rest) whole)
    step A As whole free held f a there rest later = go (not (is_in whole a)) is_new
      where
        is_new : not (is_in whole a) ≡ true → ¬ (Contains held a)
        is_new e = elim (Contains-append_cases (of_type A free) (new_constant held A ∷ []) a there) [
          | inl k ↦ absurd (let inside = contains_in whole a (f a (kept_there (λ z. same_type z.type A) free a k)) in let bad : false ≡ true = sym (ap not inside) ∙ e in false≢true bad)
          | inr k ↦ elim (Contains-cases (new_constant held A) [] a k) [ inl q ↦ subst (λ z. ¬ (Contains held z)) q (new_is_new held A) | inr n ↦ absurd (Contains-none a n) ]
        ]

        go : (t : Bool) → (t ≡ true → ¬ (Contains held a)) → Fresh held (cond t (a ∷ outside rest whole) (outside rest whole))
        go true n = (
          AllPairs-cons (λ a b. a ≢ b) a (outside rest whole) (All-from_contains (λ c. a ≢ c) (outside rest whole) (λ c k e. later.1 c k (subst (Contains (a ∷ held)) e (Contains-here a held)))) later.0,
          λ c k. elim (Contains-cases a (outside rest whole) c k) [ inl e ↦ subst (λ z. ¬ (Contains held z)) e (n refl) | inr r ↦ (λ h. later.1 c r (Contains-there a held c h)) ],
        )
        go false n = (later.0, λ c k h. later.1 c k (Contains-there a held c h))

-- of a choice for a defined atom
pub fresh_of_choice : (held : List Nominal) (d : Defined) (c : Choice) → Contains (choices_of held d) c → Fresh held (outside c.names (in_order (support_of_all d.arguments)))
fresh_of_choice held d c m =
    let from = gathered_from (λ (k : Clause (List ℕ)). map (λ ns. record { clause = k; names = ns }) (choices (map (λ z. z.type) k.names) (in_order (support_of_all d.arguments)) held)) _ c m in
    let k : Clause (List ℕ) = from.0 in
    let one = Contains-from_map (λ ns. record { clause = k; names = ns }) (choices (map (λ z. z.type) k.names) (in_order (support_of_all d.arguments)) held) c from.2 in
    subst (λ (l : List Nominal). Fresh held (outside l (in_order (support_of_all d.arguments)))) (ap (λ (e : Choice). e.names) one.2)
    (fresh_different (map (λ z. z.type) k.names) (in_order (support_of_all d.arguments)) (in_order (support_of_all d.arguments)) held (λ b k. k) one.0 one.1)

-- put in their places, they stay different
pub with_pairs : (new ns : List Nominal) → AllPairs (λ a b. a ≢ b) ns → Fresh ns new → AllPairs (λ a b. a ≢ b) (with_constants new ns)
with_pairs [] ns d f = d
with_pairs (a ∷ new) ns d f =
    let parts = AllPairs-parts (λ a b. a ≢ b) a new f.0 in
    with_pairs new (placed a ns) (placed_pairs a ns (f.1 a (Contains-here a new)) d)
    (parts.1, λ c m k. elim (placed_cases a ns c k) [ inl e ↦ All-contains (λ b. a ≢ b) new c parts.0 m e | inr there ↦ f.1 c (Contains-there a new c m) there ])
