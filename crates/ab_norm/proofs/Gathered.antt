-- What is in an ordered set of nominal constants, and what a walk through terms puts into it.
use Rattle.std.proofs.Common.{◌≡◌, ◌≢◌, ◌⊎◌, inl, inr, ◌↔◌, ℕ, ◌+◌, ◌<◌, ◌≤◌, List, [], ◌∷◌, ◌++◌, map, take, length, get_or, Contains, AllPairs, refl, sym, ◌∙◌, ap, subst, arith, append_assoc, append-nil, Bool, true, false, cond, nat_lt, ◌==◌, Decides, Result, Ok, Err, OnOk, Ordering, Less, Equal, Greater}
use Rattle.std.specs.List.{All}
use Rattle.std.specs.List.Sorted.{IsStrictlySortedBy}
use Rattle.std.specs.BTreeSet.{insert_key}
use Rattle.std.specs.Ordering.{match_ordering, ordering_then, nat_cmp}
use Rattle.ab_norm.specs.contracts.nominal.NominalOrd.TheImpl as order
use Rattle.std.proofs.lemmas.List.{map_more}
use Rattle.std.proofs.lemmas.Bool.Decides.{Decides-eqb, nat_tests}
use Rattle.std.proofs.lemmas.List.Elements.{All-from_recursion, All-weaker, All-map}
use Rattle.std.proofs.lemmas.List.Kept.{AllPairs-cons}
use Rattle.ab_term.specs.Terms as tree
use Rattle.ab_term.specs.Terms.{Term, Terms, no_terms, term, terms_of, Read}
use Rattle.ab_term.specs.Names.{support, support_of_head, support_of_all, IsSupport}
use Rattle.ab_term.proofs.Lists.{Contains-none, Contains-here, Contains-there, Contains-cases, Contains-map, Contains-from_map, AllPairs-none, AllPairs-parts}
use Rattle.ab_store.specs.ab_types.specs.Entries.{Table}
use Rattle.ab_store.specs.ab_types.specs.declared.ids.TypeId.{TypeId}
use Rattle.ab_store.specs.declared.node.TermId.{TermId}
use Rattle.ab_store.specs.declared.node.Head.{Head}
use Rattle.ab_store.specs.declared.node.Node.{Node}
use Rattle.ab_store.specs.declared.node.Node.TheVariants.{Lam, Spine}
use Rattle.ab_store.specs.Trees.{Contents, tree_of, head_reading, node_tree}
use Rattle.ab_norm.specs.declared.nominal.Nominal.{Nominal}
use Rattle.ab_store.specs.ab_types.specs.Sound.{IsTable}
use Rattle.ab_store.specs.ab_types.proofs.Kept.{one_type}
use Rattle.ab_norm.specs.Nominals.{nominal_of, HoldsNominal}
use Rattle.ab_norm.specs.declared.memo.Seen.{Seen}
use Rattle.ab_norm.specs.WalkMemory.{has_been}
use Rattle.ab_norm.specs.GatheredNames.{Gathers, AllFound}

module _ {X : Type 0} where
  in_front : (xs ys : List X) (a : X) → Contains xs a → Contains (xs ++ ys) a
  in_front [] ys a c = absurd (Contains-none a c)
  in_front (x ∷ xs) ys a c = go (in_front xs ys a) (Contains-cases x xs a c)
    where
      go : (Contains xs a → Contains (xs ++ ys) a) → (x ≡ a) ⊎ Contains xs a → Contains (x ∷ (xs ++ ys)) a
      go later (inl e) = subst (Contains (x ∷ (xs ++ ys))) e (Contains-here x (xs ++ ys))
      go later (inr rest) = Contains-there x (xs ++ ys) a (later rest)

  in_back : (xs ys : List X) (a : X) → Contains ys a → Contains (xs ++ ys) a
  in_back [] ys a c = c
  in_back (x ∷ xs) ys a c = Contains-there x (xs ++ ys) a (in_back xs ys a c)

  in_either : (xs ys : List X) (a : X) → Contains (xs ++ ys) a → Contains xs a ⊎ Contains ys a
  in_either [] ys a c = inr c
  in_either (x ∷ xs) ys a c = go (in_either xs ys a) (Contains-cases x (xs ++ ys) a c)
    where
      go : (Contains (xs ++ ys) a → Contains xs a ⊎ Contains ys a) → (x ≡ a) ⊎ Contains (xs ++ ys) a → Contains (x ∷ xs) a ⊎ Contains ys a
      go later (inl e) = inl (subst (Contains (x ∷ xs)) e (Contains-here x xs))
      go later (inr rest) = on (later rest)
        where
          on : Contains xs a ⊎ Contains ys a → Contains (x ∷ xs) a ⊎ Contains ys a
          on (inl l) = inl (Contains-there x xs a l)
          on (inr r) = inr r

  -- an ordered set's keys after one is put in
  module _ (cmp : X → X → Ordering) (same : (a b : X) → cmp a b ≡ Equal → a ≡ b) where
    put_in : (ks : List X) (k : X) → Contains (insert_key cmp ks k) k
    put_in [] k = Contains-here k []
    put_in (x ∷ xs) k = go (cmp k x) refl (put_in xs k)
      where
        go : (o : Ordering) → cmp k x ≡ o → Contains (insert_key cmp xs k) k → Contains (match_ordering o (k ∷ x ∷ xs) (x ∷ xs) (x ∷ insert_key cmp xs k)) k
        go Less e later = Contains-here k (x ∷ xs)
        go Equal e later = subst (Contains (x ∷ xs)) (sym (same k x e)) (Contains-here x xs)
        go Greater e later = Contains-there x (insert_key cmp xs k) k later

    still_in : (ks : List X) (k a : X) → Contains ks a → Contains (insert_key cmp ks k) a
    still_in [] k a c = absurd (Contains-none a c)
    still_in (x ∷ xs) k a c = go (cmp k x) (still_in xs k a) (Contains-cases x xs a c)
      where
        go : (o : Ordering) → (Contains xs a → Contains (insert_key cmp xs k) a) → (x ≡ a) ⊎ Contains xs a → Contains (match_ordering o (k ∷ x ∷ xs) (x ∷ xs) (x ∷ insert_key cmp xs k)) a
        go Less later d = Contains-there k (x ∷ xs) a c
        go Equal later d = c
        go Greater later (inl e) = subst (Contains (x ∷ insert_key cmp xs k)) e (Contains-here x (insert_key cmp xs k))
        go Greater later (inr rest) = Contains-there x (insert_key cmp xs k) a (later rest)

    was_in : (ks : List X) (k a : X) → Contains (insert_key cmp ks k) a → Contains ks a ⊎ (k ≡ a)
    was_in [] k a c = go (Contains-cases k [] a c)
      where
        go : (k ≡ a) ⊎ Contains [] a → Contains [] a ⊎ (k ≡ a)
        go (inl e) = inr e
        go (inr none) = inl none
    was_in (x ∷ xs) k a c = go (cmp k x) (was_in xs k a) c
      where
        on : (x ≡ a) ⊎ (Contains xs a ⊎ (k ≡ a)) → Contains (x ∷ xs) a ⊎ (k ≡ a)
        on (inl e) = inl (subst (Contains (x ∷ xs)) e (Contains-here x xs))
        on (inr (inl d)) = inl (Contains-there x xs a d)
        on (inr (inr e)) = inr e

        first : (k ≡ a) ⊎ Contains (x ∷ xs) a → Contains (x ∷ xs) a ⊎ (k ≡ a)
        first (inl e) = inr e
        first (inr d) = inl d

        later_on : (Contains (insert_key cmp xs k) a → Contains xs a ⊎ (k ≡ a)) → (x ≡ a) ⊎ Contains (insert_key cmp xs k) a → (x ≡ a) ⊎ (Contains xs a ⊎ (k ≡ a))
        later_on later (inl e) = inl e
        later_on later (inr d) = inr (later d)

        go : (o : Ordering) → (Contains (insert_key cmp xs k) a → Contains xs a ⊎ (k ≡ a)) → Contains (match_ordering o (k ∷ x ∷ xs) (x ∷ xs) (x ∷ insert_key cmp xs k)) a → Contains (x ∷ xs) a ⊎ (k ≡ a)
        go Less later d = first (Contains-cases k (x ∷ xs) a d)
        go Equal later d = inl d
        go Greater later d = on (later_on later (Contains-cases x (insert_key cmp xs k) a d))

    -- what all of its keys stand for
    module _ {Y : Type 0} (f : X → Y) where
      pub gains : (ks new : List X) (k : X) → new ≡ insert_key cmp ks k → (n : Y) → Contains (map f new) n ↔ (Contains (map f ks) n ⊎ Contains (f k ∷ []) n)
      gains ks new k e n = (λ c. there (Contains-from_map f new n c), here)
        where
          there : (a : X) × (Contains new a) × (f a ≡ n) → Contains (map f ks) n ⊎ Contains (f k ∷ []) n
          there (a, c, is) = go (was_in ks k a (subst (λ l. Contains l a) e c))
            where
              go : Contains ks a ⊎ (k ≡ a) → Contains (map f ks) n ⊎ Contains (f k ∷ []) n
              go (inl d) = inl (subst (Contains (map f ks)) is (Contains-map f ks a d))
              go (inr p) = inr (subst (Contains (f k ∷ [])) (ap f p ∙ is) (Contains-here (f k) []))

          at : (a : X) → Contains (insert_key cmp ks k) a → f a ≡ n → Contains (map f new) n
          at a c is = subst (Contains (map f new)) is (Contains-map f new a (subst (λ l. Contains l a) (sym e) c))

          old : (a : X) × (Contains ks a) × (f a ≡ n) → Contains (map f new) n
          old (a, c, is) = at a (still_in ks k a c) is

          one : (f k ≡ n) ⊎ Contains [] n → Contains (map f new) n
          one (inl is) = at k (put_in ks k) is
          one (inr none) = absurd (Contains-none n none)

          here : Contains (map f ks) n ⊎ Contains (f k ∷ []) n → Contains (map f new) n
          here (inl c) = old (Contains-from_map f ks n c)
          here (inr c) = one (Contains-cases (f k) [] n c)

  pub in_order : (cmp : X → X → Ordering) (R : X → X → Type 0) → ((a b : X) → cmp a b ≡ Less → R a b) → (ks : List X) → IsStrictlySortedBy cmp ks → AllPairs R ks
  unfolding IsStrictlySortedBy
  in_order cmp R less [] sorted = AllPairs-none R
  in_order cmp R less (x ∷ xs) sorted =
      AllPairs-cons R x xs (All-weaker (λ y. cmp x y ≡ Less) (R x) (λ y e. less x y e) xs (All-from_recursion (λ y. cmp x y ≡ Less) xs sorted.0)) (in_order cmp R less xs sorted.1)

pub on_ok : {A E : Type 0} {P Q : Type 0} (r : Result A E) → (P → Q) → OnOk r P → OnOk r Q
on_ok (Ok a) f p = f p
on_ok (Err e) f p = p

-- what a walk gathers

pub gathers_none : (types : Table) (ks : List Nominal) → Gathers types ks ks []
gathers_none types ks n = (inl, back)
  where
    back : Contains (map (nominal_of types) ks) n ⊎ Contains [] n → Contains (map (nominal_of types) ks) n
    back (inl c) = c
    back (inr none) = absurd (Contains-none n none)

pub gathers_on : (types : Table) (ks ls ms : List Nominal) (found more : List tree.Nominal) → Gathers types ks ls found → Gathers types ls ms more → Gathers types ks ms (found ++ more)
gathers_on types ks ls ms found more a b n = (λ c. on ((b n).0 c), back)
  where
    then : Contains (map (nominal_of types) ks) n ⊎ Contains found n → Contains (map (nominal_of types) ks) n ⊎ Contains (found ++ more) n
    then (inl c) = inl c
    then (inr c) = inr (in_front found more n c)

    on : Contains (map (nominal_of types) ls) n ⊎ Contains more n → Contains (map (nominal_of types) ks) n ⊎ Contains (found ++ more) n
    on (inl c) = then ((a n).0 c)
    on (inr c) = inr (in_back found more n c)

    either : Contains found n ⊎ Contains more n → Contains (map (nominal_of types) ms) n
    either (inl c) = (b n).1 (inl ((a n).1 (inr c)))
    either (inr c) = (b n).1 (inr c)

    back : Contains (map (nominal_of types) ks) n ⊎ Contains (found ++ more) n → Contains (map (nominal_of types) ms) n
    back (inl c) = (b n).1 (inl ((a n).1 (inl c)))
    back (inr c) = either (in_either found more n c)

pub gathers_lam : (types : Table) (s : Contents) (t : TermId) (n : Node) (ty : TypeId) (x : List ℕ) (body : TermId) (ks ls : List Nominal)
    → tree_of types s t ≡ node_tree types s n → n ≡ Lam ty x body → Gathers types ks ls (support (tree_of types s body)) → Gathers types ks ls (support (tree_of types s t))
gathers_lam types s t n ty x body ks ls reads is g = subst (λ r. Gathers types ks ls (support r)) (sym (reads ∙ ap (node_tree types s) is)) g

pub gathers_spine : (types : Table) (s : Contents) (t : TermId) (n : Node) (h : Head) (args given : List TermId) (ks ls ms : List Nominal)
    → tree_of types s t ≡ node_tree types s n → n ≡ Spine h args → given ≡ args
    → Gathers types ks ls (support_of_head (head_reading types s h)) → Gathers types ls ms (support_of_all (terms_of (map (tree_of types s) given))) → Gathers types ks ms (support (tree_of types s t))
gathers_spine types s t n h args given ks ls ms reads is same a b =
    subst (λ r. Gathers types ks ms (support r)) (sym (reads ∙ ap (node_tree types s) is))
    (gathers_on types ks ls ms (support_of_head (head_reading types s h)) (support_of_all (terms_of (map (tree_of types s) args))) a
    (subst (λ l. Gathers types ls ms (support_of_all (terms_of (map (tree_of types s) l)))) same b))

support_push : (rs : List Read) (r : Read) → support_of_all (terms_of (rs ++ r ∷ [])) ≡ support_of_all (terms_of rs) ++ support r
support_push [] r = append-nil (support r)
support_push (q ∷ rs) r = ap (λ l. support q ++ l) (support_push rs r) ∙ sym (append_assoc (support q) (support_of_all (terms_of rs)) (support r))

pub gathers_more : (types : Table) (s : Contents) (ids : List TermId) (i : ℕ) (d : TermId) (ks ls ms : List Nominal) → i < length ids
    → Gathers types ks ls (support_of_all (terms_of (map (tree_of types s) (take i ids)))) → Gathers types ls ms (support (tree_of types s (get_or ids i d)))
    → Gathers types ks ms (support_of_all (terms_of (map (tree_of types s) (take (i + 1) ids))))
gathers_more types s ids i d ks ls ms h a b =
    subst (λ l. Gathers types ks ms (support_of_all (terms_of l))) (sym (map_more (tree_of types s) ids i d h))
    (subst (Gathers types ks ms) (sym (support_push (map (tree_of types s) (take i ids)) (tree_of types s (get_or ids i d)))) (gathers_on types ks ls ms _ _ a b))

-- a term whose constants are there already gives nothing more
pub gathers_known : (types : Table) (ks : List Nominal) (found : List tree.Nominal) → ((n : tree.Nominal) → Contains found n → Contains (map (nominal_of types) ks) n) → Gathers types ks ks found
gathers_known types ks found known n = (inl, back)
  where
    back : Contains (map (nominal_of types) ks) n ⊎ Contains found n → Contains (map (nominal_of types) ks) n
    back (inl c) = c
    back (inr c) = known n c

pub all_found_on : (s : Contents) (ks ls : List Nominal) (seen : Seen) (more : Table → List tree.Nominal) → ((types : Table) → Gathers types ks ls (more types)) → AllFound s ks seen → AllFound s ls seen
all_found_on s ks ls seen more g known types t e n c = (g types n).1 (inl (known types t e n c))

pub all_found_more : (s : Contents) (ks ls : List Nominal) (old new : Seen) (id : TermId) → ((types : Table) → Gathers types ks ls (support (tree_of types s id))) → AllFound s ls old
    → ((t : TermId) → (has_been new t ≡ has_been old t) ⊎ (t ≡ id)) → AllFound s ls new
all_found_more s ks ls old new id g known keeps types t e n c = go (keeps t)
  where
    go : (has_been new t ≡ has_been old t) ⊎ (t ≡ id) → Contains (map (nominal_of types) ls) n
    go (inl same) = known types t (sym same ∙ e) n c
    go (inr one) = (g types n).1 (inr (subst (λ i. Contains (support (tree_of types s i)) n) one c))

-- the order of nominal constants

abbrev pub nominal_cmp : Nominal → Nominal → Ordering
nominal_cmp a b = ordering_then (nat_cmp a.number b.number) (nat_cmp a.ty.0 b.ty.0)

pub cmp_is : (a b : Nominal) → order.ghosts.cmp a b ≡ nominal_cmp a b
cmp_is a b = refl

nat_equal : (m n : ℕ) → nat_cmp m n ≡ Equal → m ≡ n
nat_equal m n e = go (nat_lt m n) (m == n) refl (Decides-eqb m n) (sym e)
  where
    go : (b d : Bool) → nat_lt m n ≡ b → Decides d (m ≡ n) → Equal ≡ cond b Less (cond d Equal Greater) → m ≡ n
    go true d p q f = absurd (cc)
    go false true p q f = q.0 refl
    go false false p q f = absurd (cc)

nat_less : (m n : ℕ) → nat_cmp m n ≡ Less → m < n
nat_less m n e = go (nat_lt m n) (m == n) refl (sym e)
  where
    go : (b d : Bool) → nat_lt m n ≡ b → Less ≡ cond b Less (cond d Equal Greater) → m < n
    go true d p f = grind (arith, nat_tests)
    go false true p f = absurd (cc)
    go false false p f = absurd (cc)

pub equal_are_one : (a b : Nominal) → nominal_cmp a b ≡ Equal → a ≡ b
equal_are_one a b e = go (nat_cmp a.number b.number) refl e
  where
    go : (o : Ordering) → nat_cmp a.number b.number ≡ o → ordering_then o (nat_cmp a.ty.0 b.ty.0) ≡ Equal → a ≡ b
    go Less p q = absurd (cc)
    go Greater p q = absurd (cc)
    go Equal p q =
        let number : a.number ≡ b.number = nat_equal a.number b.number p in
        let type : a.ty.0 ≡ b.ty.0 = nat_equal a.ty.0 b.ty.0 q in
        ap (λ n. record { number = n; ty = a.ty }) number ∙ ap (λ i. record { number = b.number; ty = record { 0 = i } }) type

pub less_is_lower : (a b : Nominal) → nominal_cmp a b ≡ Less → (a.number ≤ b.number) × (a ≢ b)
less_is_lower a b e = go (nat_cmp a.number b.number) refl e
  where
    go : (o : Ordering) → nat_cmp a.number b.number ≡ o → ordering_then o (nat_cmp a.ty.0 b.ty.0) ≡ Less → (a.number ≤ b.number) × (a ≢ b)
    go Less p q =
        let low : a.number < b.number = nat_less a.number b.number p in
        (omega (arith, low), λ same. absurd (omega (arith, low, ap (λ (x : Nominal). x.number) same)))
    go Greater p q = absurd (cc)
    go Equal p q =
        let number : a.number ≡ b.number = nat_equal a.number b.number p in
        let low : a.ty.0 < b.ty.0 = nat_less a.ty.0 b.ty.0 q in
        (omega (arith, number), λ same. absurd (omega (arith, low, ap (λ (x : Nominal). x.ty.0) same)))

-- two held constants that stand for one are one
pub one_nominal : (types : Table) → IsTable types → (a b : Nominal) → HoldsNominal types a → HoldsNominal types b → nominal_of types a ≡ nominal_of types b → a ≡ b
one_nominal types ok a b ha hb e =
    let number : a.number ≡ b.number = ap (λ (x : tree.Nominal). x.number) e in
    let type : a.ty ≡ b.ty = one_type types ok a.ty b.ty ha hb (ap (λ (x : tree.Nominal). x.type) e) in
    ap (λ n. record { number = n; ty = a.ty }) number ∙ ap (λ i. record { number = b.number; ty = i }) type

-- what is known of the list in the end
module _ (types : Table) (keys items : List Nominal) (found : List tree.Nominal) (same : items ≡ keys) where
  pub named : (begun : List Nominal) → begun ≡ [] → Gathers types begun keys found → (n : tree.Nominal) → Contains (map (nominal_of types) items) n ↔ Contains found n
  named begun none g n = (λ c. out ((g n).0 (subst (λ l. Contains (map (nominal_of types) l) n) same c)), λ c. subst (λ l. Contains (map (nominal_of types) l) n) (sym same) ((g n).1 (inr c)))
    where
      out : Contains (map (nominal_of types) begun) n ⊎ Contains found n → Contains found n
      out (inl c) = absurd (Contains-none n (subst (λ l. Contains (map (nominal_of types) l) n) none c))
      out (inr c) = c

  pub ordered : IsStrictlySortedBy nominal_cmp keys → AllPairs (λ a b. a.number ≤ b.number) items
  ordered sorted = subst (AllPairs (λ (a b : Nominal). a.number ≤ b.number)) (sym same) (in_order nominal_cmp (λ a b. a.number ≤ b.number) (λ a b e. (less_is_lower a b e).0) keys sorted)

  pub different : IsTable types → IsStrictlySortedBy nominal_cmp keys → All (HoldsNominal types) keys → AllPairs (λ a b. nominal_of types a ≢ nominal_of types b) items
  different ok sorted held =
      let apart : AllPairs (λ (a b : Nominal). a ≢ b) keys = in_order nominal_cmp (λ a b. a ≢ b) (λ a b e. (less_is_lower a b e).1) keys sorted in
      subst (AllPairs (λ (a b : Nominal). nominal_of types a ≢ nominal_of types b)) (sym same)
      (λ i j d low high e. apart i j d low high (one_nominal types ok (get_or keys i d) (get_or keys j d) (held i d (omega arith)) (held j d high) e))

pub pairs_map : {X Y : Type 0} (f : X → Y) (R : Y → Y → Type 0) (xs : List X) → AllPairs (λ a b. R (f a) (f b)) xs → AllPairs R (map f xs)
pairs_map f R [] all = AllPairs-none R
pairs_map f R (x ∷ xs) all =
    let parts = AllPairs-parts (λ a b. R (f a) (f b)) x xs all in
    AllPairs-cons R (f x) (map f xs) (All-map (R (f x)) f xs parts.0) (pairs_map f R xs parts.1)

-- the list, as what its constants stand for
pub as_support : (types : Table) (items : List Nominal) (t : Read)
    → ((n : tree.Nominal) → Contains (map (nominal_of types) items) n ↔ Contains (support t) n)
    → AllPairs (λ a b. nominal_of types a ≢ nominal_of types b) items → AllPairs (λ (a b : Nominal). a.number ≤ b.number) items
    → IsSupport t (map (nominal_of types) items)
as_support types items t same once order = record {
  same = same;
  once = pairs_map (nominal_of types) (λ a b. a ≢ b) items once;
  order = pairs_map (nominal_of types) (λ a b. a.number ≤ b.number) items order;
}
