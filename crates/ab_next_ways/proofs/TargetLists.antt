-- What some constants are mapped to: different constants of their types.
use Rattle.std.specs.Prelude.{AllPairs, Contains, filter}
use Rattle.std.proofs.Common.{◌≡◌, ◌≢◌, inl, inr, List, [], ◌∷◌, map, Bool, true, false, not, refl, ◌∙◌, ap, subst}
use Rattle.std.proofs.lemmas.List.Kept.{AllPairs-cons}
use Rattle.ab_term.specs.Types.{same_type}
use Rattle.ab_term.specs.Terms.{Nominal}
use Rattle.ab_term.specs.Names.{same_nominal}
use Rattle.ab_term.proofs.Comparisons.{same_type-Decides, same_nominal-Decides}
use Rattle.ab_term.proofs.Lists.{Contains-none, Contains-cases, Contains-from_map, All-from_contains, AllPairs-none}
use Rattle.ab_unifiers.specs.Choices.{others, of_type}
use Rattle.ab_unifiers.proofs.Choosing.{contains_kept, gathered_from}
use Rattle.ab_search_trees.specs.Maps.{images_in, targets, same_constants}

-- another than the first
not_first : (a : Nominal) (free : List Nominal) (b : Nominal) → Contains (others a free) b → Contains free b × (a ≢ b)
not_first a free b m =
    let kept = contains_kept (λ c. not (same_nominal a c)) free b m in
    (kept.0, λ e. go (same_nominal a b) ((same_nominal-Decides a b).1 e) kept.1)
  where
    go : (t : Bool) → t ≡ true → not t ≡ true → ⊥
    go true e n = cc
    go false e n = cc

pub images_right : (bs free ns : List Nominal) → Contains (images_in bs free) ns → (map (λ a. a.type) ns ≡ map (λ a. a.type) bs) × AllPairs (λ a b. a ≢ b) ns × ((c : Nominal) → Contains ns c → Contains free c)
images_right [] free ns m = elim (Contains-cases [] [] ns m) [
  | inl e ↦ subst (λ l. (map (λ a. a.type) l ≡ []) × AllPairs (λ a b. a ≢ b) l × ((c : Nominal) → Contains l c → Contains free c)) e (refl, AllPairs-none (λ a b. a ≢ b), λ c k. absurd (Contains-none c k))
  | inr n ↦ absurd (Contains-none ns n)
]
images_right (b ∷ bs) free ns m =
    let from = gathered_from (λ a. map (λ l. a ∷ l) (images_in bs (others a free))) (of_type b.type free) ns m in
    let a : Nominal = from.0 in
    let tail = Contains-from_map (λ l. a ∷ l) (images_in bs (others a free)) ns from.2 in
    let right = images_right bs (others a free) tail.0 tail.1 in
    let kept = contains_kept (λ z. same_type z.type b.type) free a from.1 in
    subst (λ l. (map (λ a. a.type) l ≡ b.type ∷ map (λ a. a.type) bs) × AllPairs (λ a b. a ≢ b) l × ((c : Nominal) → Contains l c → Contains free c)) tail.2 (
      ap (λ A. A ∷ map (λ a. a.type) tail.0) ((same_type-Decides a.type b.type).0 kept.1) ∙ ap (λ l. b.type ∷ l) right.0,
      AllPairs-cons (λ a b. a ≢ b) a tail.0 (All-from_contains (λ c. a ≢ c) tail.0 (λ c k. (not_first a free c (right.2 c k)).1)) right.1,
      λ c k. elim (Contains-cases a tail.0 c k) [ inl e ↦ subst (Contains free) e kept.0 | inr r ↦ (not_first a free c (right.2 c r)).0 ],
    )

pub targets_right : (bs free ns : List Nominal) → AllPairs (λ a b. a ≢ b) bs → Contains (targets bs free) ns → (map (λ a. a.type) ns ≡ map (λ a. a.type) bs) × AllPairs (λ a b. a ≢ b) ns
targets_right bs free ns d m = elim (Contains-cases bs (filter (λ l. not (same_constants bs l)) (images_in bs free)) ns m) [
  | inl e ↦ subst (λ l. (map (λ a. a.type) l ≡ map (λ a. a.type) bs) × AllPairs (λ a b. a ≢ b) l) e (refl, d)
  | inr k ↦ (let right = images_right bs free ns (contains_kept (λ l. not (same_constants bs l)) (images_in bs free) ns k).0 in (right.0, right.1))
]
