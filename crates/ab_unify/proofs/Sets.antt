-- Sets of cells: what is in one once a cell is put in or taken out, and its cells in order.
use Rattle.std.proofs.Common.{◌≡◌, ◌⊎◌, ◌↔◌, inl, inr, ℕ, ◌+◌, ◌<◌, List, [], ◌∷◌, ◌++◌, map, take, length, get_or, Bool, true, false, cond, Ordering, Less, refl, sym, ◌∙◌, ap, subst}
use Rattle.std.specs.Prelude.{AllPairs, Contains}
use Rattle.std.specs.List.Sorted.{IsStrictlySortedBy}
use Rattle.std.specs.Ordering.{nat_cmp, is_eq, MatchOrdering}
use Rattle.std.specs.BTreeSet.{BTreeSet, contains, UpdatesBy}
use Rattle.std.specs.BTreeMap.{is_at}
use Rattle.std.specs.Cmp.{IsTotalOrder}
use Rattle.std.proofs.lemmas.Bool.{false≢true}
use Rattle.std.proofs.lemmas.Cmp.{nat_cmp_total, on_total, tied_itself, ranked}
use Rattle.std.proofs.lemmas.Map.Lookups.{CmpEqualImpliesEq, exact_unsigned}
use Rattle.std.proofs.lemmas.Map.Views.{tells_apart, btree_set_contains_iff}
use Rattle.std.proofs.lemmas.List.Elements.{All-from_recursion, All-weaker, Contains-append_left, Contains-push, Contains-push_cases}
use Rattle.std.proofs.lemmas.List.{map-append}
use Rattle.std.proofs.lemmas.List.Kept.{AllPairs-cons}
use Rattle.ab_term.proofs.Lists.{AllPairs-none, Contains-none}
use Rattle.ab_norm.specs.ab_store.specs.declared.node.CellId.{CellId}
use Rattle.ab_norm.specs.ab_store.specs.declared.node.Binding.{Binding}
use Rattle.ab_unify.proofs.Under.{take_one_more}

abbrev pub cell_cmp : CellId → CellId → Ordering
cell_cmp a b = nat_cmp a.0 b.0

cells_total : IsTotalOrder cell_cmp
cells_total = on_total (λ (c : CellId). c.0) nat_cmp_total

one_cell : CmpEqualImpliesEq cell_cmp
one_cell a b e = ap (λ (n : ℕ). record { 0 = n }) (exact_unsigned a.0 b.0 e)

-- just these cells are in the set
abbrev pub HasJust : BTreeSet CellId → (CellId → Type 0) → Type 0
HasJust s P = (c : CellId) → (contains cell_cmp s c ≡ true) ↔ P c

at_itself : (c : CellId) → is_at (cell_cmp c) c ≡ true
at_itself c = ap is_eq (tied_itself cells_total c)

module _ (s n : BTreeSet CellId) (k : CellId) (P : CellId → Type 0) (has : HasJust s P) where
  pub put_in : UpdatesBy cell_cmp (cell_cmp k) s n true → HasJust n (λ c. P c ⊎ (k ≡ c))
  put_in u c = (λ e. from (is_at (cell_cmp k) c) refl (sym (u.0 c) ∙ e), λ p. to p)
    where
      from : (b : Bool) → is_at (cell_cmp k) c ≡ b → cond b true (contains cell_cmp s c) ≡ true → P c ⊎ (k ≡ c)
      from true at e = inr (tells_apart one_cell k c at)
      from false at e = inl ((has c).0 e)

      stays : (b : Bool) → contains cell_cmp s c ≡ true → cond b true (contains cell_cmp s c) ≡ true
      stays true e = refl
      stays false e = e

      to : P c ⊎ (k ≡ c) → contains cell_cmp n c ≡ true
      to (inl p) = u.0 c ∙ stays (is_at (cell_cmp k) c) ((has c).1 p)
      to (inr e) = subst (λ d. contains cell_cmp n d ≡ true) e (u.0 k ∙ ap (λ b. cond b true (contains cell_cmp s k)) (at_itself k))

  pub taken_out : UpdatesBy cell_cmp (cell_cmp k) s n false → HasJust n (λ c. P c × (¬ (k ≡ c)))
  taken_out u c = (λ e. from (is_at (cell_cmp k) c) refl (sym (u.0 c) ∙ e), λ p. to (is_at (cell_cmp k) c) refl p)
    where
      from : (b : Bool) → is_at (cell_cmp k) c ≡ b → cond b false (contains cell_cmp s c) ≡ true → P c × (¬ (k ≡ c))
      from true at e = absurd (false≢true e)
      from false at e = ((has c).0 e, λ same. false≢true (sym at ∙ subst (λ d. is_at (cell_cmp k) d ≡ true) same (at_itself k)))

      to : (b : Bool) → is_at (cell_cmp k) c ≡ b → P c × (¬ (k ≡ c)) → contains cell_cmp n c ≡ true
      to true at p = absurd (p.1 (tells_apart one_cell k c at))
      to false at p = u.0 c ∙ ap (λ b. cond b false (contains cell_cmp s c)) at ∙ (has c).1 p.0

pub has_other : (s : BTreeSet CellId) (P Q : CellId → Type 0) → HasJust s P → ((c : CellId) → P c ↔ Q c) → HasJust s Q
has_other s P Q has same c = (λ e. (same c).0 ((has c).0 e), λ q. (has c).1 ((same c).1 q))

pub keys_are : (s : BTreeSet CellId) (P : CellId → Type 0) → HasJust s P → (c : CellId) → Contains s.keys c ↔ P c
keys_are s P has c =
    let iff = btree_set_contains_iff cells_total one_cell s c in
    (λ m. (has c).0 (iff.1 m), λ p. iff.0 ((has c).1 p))

less_is : (a b : CellId) → cell_cmp a b ≡ Less → a.0 < b.0
less_is a b e = subst (λ o. MatchOrdering o (a.0 < b.0) (a.0 ≡ b.0) (b.0 < a.0)) e (ranked a.0 b.0 (cell_cmp a b) refl)

pub keys_ascend : (ks : List CellId) → IsStrictlySortedBy cell_cmp ks → AllPairs (λ (a b : CellId). a.0 < b.0) ks
unfolding IsStrictlySortedBy
keys_ascend [] s = AllPairs-none (λ (a b : CellId). a.0 < b.0)
keys_ascend (k ∷ ks) s =
    AllPairs-cons (λ (a b : CellId). a.0 < b.0) k ks
    (All-weaker (λ b. cell_cmp k b ≡ Less) (λ b. k.0 < b.0) (λ b e. less_is k b e) ks (All-from_recursion (λ b. cell_cmp k b ≡ Less) ks s.0))
    (keys_ascend ks s.1)

-- one cell more in a list
pub push_iff : {X : Type 0} (xs : List X) (y c : X) → (Contains xs c ⊎ (y ≡ c)) ↔ Contains (xs ++ y ∷ []) c
push_iff xs y c = (λ s. elim s [ inl m ↦ Contains-append_left xs (y ∷ []) c m | inr e ↦ subst (Contains (xs ++ y ∷ [])) e (Contains-push xs y) ], λ m. Contains-push_cases xs y c m)

pub bound_more : (bs : List Binding) (i : ℕ) (d : Binding) → i < length bs → (c : CellId)
    → (Contains (map (λ (b : Binding). b.cell) (take i bs)) c ⊎ ((get_or bs i d).cell ≡ c)) ↔ Contains (map (λ (b : Binding). b.cell) (take (i + 1) bs)) c
bound_more bs i d l c =
    subst (λ xs. (Contains (map (λ (b : Binding). b.cell) (take i bs)) c ⊎ ((get_or bs i d).cell ≡ c)) ↔ Contains xs c)
    (sym (ap (map (λ (b : Binding). b.cell)) (take_one_more bs i d l) ∙ map-append (λ (b : Binding). b.cell) (take i bs) (get_or bs i d ∷ [])))
    (push_iff (map (λ (b : Binding). b.cell) (take i bs)) (get_or bs i d).cell c)

module _ (A : CellId → Type 0) where
  pub left_none : (c : CellId) → A c ↔ (A c ⊎ Contains [] c)
  left_none c = (λ a. inl a, λ s. elim s [ inl a ↦ a | inr n ↦ absurd (Contains-none c n) ])

  pub left_more : (xs : List CellId) (i : ℕ) (d : CellId) → i < length xs → (c : CellId) → ((A c ⊎ Contains (take i xs) c) ⊎ (get_or xs i d ≡ c)) ↔ (A c ⊎ Contains (take (i + 1) xs) c)
  left_more xs i d l c =
      subst (λ ys. ((A c ⊎ Contains (take i xs) c) ⊎ (get_or xs i d ≡ c)) ↔ (A c ⊎ Contains ys c)) (sym (take_one_more xs i d l))
      (λ s. elim s [ inl t ↦ elim t [ inl a ↦ inl a | inr m ↦ inr (iff.0 (inl m)) ] | inr e ↦ inr (iff.0 (inr e)) ], λ s. elim s [ inl a ↦ inl (inl a) | inr m ↦ elim (iff.1 m) [ inl n ↦ inl (inr n) | inr e ↦ inr e ] ])
    where
      iff : (Contains (take i xs) c ⊎ (get_or xs i d ≡ c)) ↔ Contains (take i xs ++ get_or xs i d ∷ []) c
      iff = push_iff (take i xs) (get_or xs i d) c

  pub given_none : (c : CellId) → A c ↔ (A c × (¬ Contains [] c))
  given_none c = (λ a. (a, λ n. Contains-none c n), λ p. p.0)

  pub given_more : (xs : List CellId) (i : ℕ) (d : CellId) → i < length xs → (c : CellId) → ((A c × (¬ Contains (take i xs) c)) × (¬ (get_or xs i d ≡ c))) ↔ (A c × (¬ Contains (take (i + 1) xs) c))
  given_more xs i d l c =
      subst (λ ys. ((A c × (¬ Contains (take i xs) c)) × (¬ (get_or xs i d ≡ c))) ↔ (A c × (¬ Contains ys c))) (sym (take_one_more xs i d l))
      (λ p. (p.0.0, λ m. elim (iff.1 m) [ inl n ↦ p.0.1 n | inr e ↦ p.1 e ]), λ p. ((p.0, λ n. p.1 (iff.0 (inl n))), λ e. p.1 (iff.0 (inr e))))
    where
      iff : (Contains (take i xs) c ⊎ (get_or xs i d ≡ c)) ↔ Contains (take i xs ++ get_or xs i d ∷ []) c
      iff = push_iff (take i xs) (get_or xs i d) c
