-- The choices of a defined atom, clause by clause, and the one that stands at a place.
use Rattle.std.specs.Prelude.{Contains, filter, map, length, slice_get}
use Rattle.std.specs.Option.{option_map}
use Rattle.std.proofs.Common.{◌≡◌, inl, inr, ℕ, zero, suc, ◌+◌, List, [], ◌∷◌, ◌++◌, bytes_eq, Bool, true, false, cond, Option, Some, None, refl, sym, ◌∙◌, ap, subst, arith}
use Rattle.std.proofs.lemmas.List.Elements.{Contains-append_cases, Contains-get_or}
use Rattle.std.proofs.lemmas.Option.{slice_get-map, slice_get_within, get_or_from_slice_get}
use Rattle.ab_term.specs.Types.{Ty, same_type}
use Rattle.ab_term.specs.Terms.{Nominal}
use Rattle.ab_term.specs.Names.{support_of_all}
use Rattle.ab_term.proofs.Comparisons.{same_type-Decides}
use Rattle.ab_term.proofs.Lists.{Contains-none, Contains-cases, Contains-from_map}
use Rattle.ab_unifiers.specs.Clauses.{Clause}
use Rattle.ab_unifiers.specs.Choices.{in_order, others, of_type, new_constant, choices, for_each}
use Rattle.ab_unifiers.proofs.Choosing.{contains_kept, gathered_from}
use Rattle.ab_theory.specs.Atoms.{Defined, Choice}
use Rattle.ab_alternatives.specs.ChoiceCounts.{choices_with, choices_by, choices_among}

-- two lists put together, by places

pub at_first : {X : Type 0} (xs ys : List X) (i : ℕ) (x : X) → slice_get xs i ≡ Some x → slice_get (xs ++ ys) i ≡ Some x
at_first [] ys i x e = absurd (cc)
at_first (y ∷ xs) ys zero x e = e
at_first (y ∷ xs) ys (suc i) x e = at_first xs ys i x e

pub at_behind : {X : Type 0} (xs ys : List X) (k i : ℕ) → length xs + k ≡ i → slice_get (xs ++ ys) i ≡ slice_get ys k
at_behind [] ys k i e = let same : i ≡ k = omega (arith, e) in ap (slice_get ys) same
at_behind (x ∷ xs) ys k zero e = absurd (omega (arith, e))
at_behind (x ∷ xs) ys k (suc i) e = at_behind xs ys k i (omega (arith, e))

there_at : {X : Type 0} (xs : List X) (i : ℕ) (x : X) → slice_get xs i ≡ Some x → Contains xs x
there_at xs i x e = subst (Contains xs) (get_or_from_slice_get xs i x x e) (Contains-get_or xs i x (slice_get_within xs i x e))

-- the choices of constants for names of these types are of these types
choice_types : (As : List Ty) (free held ns : List Nominal) → Contains (choices As free held) ns → map (λ a. a.type) ns ≡ As
choice_types [] free held ns m = elim (Contains-cases [] [] ns m) [ inl e ↦ ap (map (λ a. a.type)) (sym e) | inr k ↦ absurd (Contains-none ns k) ]
choice_types (A ∷ As) free held ns m =
    let new : Nominal = new_constant held A in
    let first = gathered_from (λ a. map (λ l. a ∷ l) (choices As (others a free) (a ∷ held))) (of_type A free ++ new ∷ []) ns m in
    let a : Nominal = first.0 in
    let rest = Contains-from_map (λ l. a ∷ l) (choices As (others a free) (a ∷ held)) ns first.2 in
    let type : a.type ≡ A = elim (Contains-append_cases (of_type A free) (new ∷ []) a first.1) [
      | inl k ↦ (same_type-Decides a.type A).0 (contains_kept (λ z. same_type z.type A) free a k).1
      | inr k ↦ elim (Contains-cases new [] a k) [ inl e ↦ ap (λ (z : Nominal). z.type) (sym e) | inr n ↦ absurd (Contains-none a n) ]
    ] in
    ap (map (λ z. z.type)) (sym rest.2)
    ∙ ap (λ B. B ∷ map (λ z. z.type) rest.0) type
    ∙ ap (λ l. A ∷ l) (choice_types As (others a free) (a ∷ held) rest.0 rest.1)

module _ (held : List Nominal) (d : Defined) where
  -- those by the first clause, and then those by the others
  pub among_more : (c : Clause (List ℕ)) (cs : List (Clause (List ℕ))) → choices_among held d (c ∷ cs) ≡ choices_by held d c ++ choices_among held d cs
  among_more c cs = go (bytes_eq c.predicate d.predicate)
    where
      kept : List (Clause (List ℕ))
      kept = filter (λ (k : Clause (List ℕ)). bytes_eq k.predicate d.predicate) cs

      go : (b : Bool) → for_each (choices_with held d) (cond b (c ∷ kept) kept) ≡ cond b (choices_with held d c) [] ++ for_each (choices_with held d) kept
      go true = refl
      go false = refl

  -- a choice by the clause: it is one of the atom's predicate, and the constants are of the types of its names
  pub by_fits : (c : Clause (List ℕ)) (ns : List Nominal) (i : ℕ) → slice_get (choices_by held d c) i ≡ Some (record { clause = c; names = ns })
      → (bytes_eq c.predicate d.predicate ≡ true) × (map (λ a. a.type) ns ≡ map (λ z. z.type) c.names)
  by_fits c ns i e = go (bytes_eq c.predicate d.predicate) e
    where
      list : List (List Nominal)
      list = choices (map (λ z. z.type) c.names) (in_order (support_of_all d.arguments)) held

      with_names : List Nominal → Choice
      with_names l = record { clause = c; names = l }

      one : (o : Option (List Nominal)) → slice_get list i ≡ o → option_map with_names o ≡ Some (with_names ns) → map (λ a. a.type) ns ≡ map (λ z. z.type) c.names
      one None f g = absurd (cc)
      one (Some l) f g =
          let whole : with_names l ≡ with_names ns = cc in
          ap (λ k. map (λ a. a.type) k.names) (sym whole) ∙ choice_types (map (λ z. z.type) c.names) (in_order (support_of_all d.arguments)) held l (there_at list i l f)

      go : (b : Bool) → slice_get (cond b (choices_with held d c) []) i ≡ Some (with_names ns) → (b ≡ true) × (map (λ a. a.type) ns ≡ map (λ z. z.type) c.names)
      go true f = (refl, one (slice_get list i) refl (sym (slice_get-map with_names list i) ∙ f))
      go false f = absurd (cc)
