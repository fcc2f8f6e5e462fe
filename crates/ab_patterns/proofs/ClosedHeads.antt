-- What heads become under a binder for each of several names.
use Rattle.std.proofs.Common.{◌≡◌, ◌≢◌, ℕ, zero, suc, ◌+◌, ◌-◌, ◌<◌, List, [], ◌∷◌, map, drop, length, get_or, cond, refl, sym, ◌∙◌, ap, subst, arith}
use Rattle.std.specs.List.{All}
use Rattle.std.proofs.lemmas.List.{length-map}
use Rattle.std.proofs.lemmas.List.Elements.{All-head, All-tail}
use Rattle.std.proofs.lemmas.Bool.{false_from_ne_true}
use Rattle.ab_term.specs.Terms as tree
use Rattle.ab_term.specs.Substitution.{shift_head}
use Rattle.ab_term.specs.Sameness.{same_head}
use Rattle.ab_term.specs.Abstraction.{close_head}
use Rattle.ab_term.proofs.Same.{same_head-Decides}
use Rattle.ab_norm.specs.ab_types.specs.Entries.{Table}
use Rattle.ab_norm.specs.ab_store.specs.declared.node.Head.{Head}
use Rattle.ab_norm.specs.ab_store.specs.declared.node.Head.TheVariants.{Index}
use Rattle.ab_norm.specs.ab_store.specs.Trees.{Contents, head_reading}
use Rattle.ab_patterns.specs.Abstraction.{AreToldApart, sunk, close_head_names}
use Rattle.ab_patterns.proofs.Closed.{shift_index-below, shift_index-from}
use Rattle.ab_patterns.proofs.ToldApart.{told_differ}

-- the other way
abbrev risen : ℕ → tree.Head ℕ → tree.Head ℕ
risen m (tree.index i) = tree.index (i - m)
risen m h = h

risen-sunk : (m : ℕ) (h : tree.Head ℕ) → risen m (sunk m h) ≡ h
risen-sunk m (tree.constant k) = refl
risen-sunk m (tree.logical l) = refl
risen-sunk m (tree.nominal a) = refl
risen-sunk m (tree.variable y) = refl
risen-sunk m (tree.index i) = ap tree.index (omega arith)

shift-sunk : (m : ℕ) (h : tree.Head ℕ) → shift_head m (sunk m h) ≡ sunk (suc m) h
shift-sunk m (tree.constant k) = refl
shift-sunk m (tree.logical l) = refl
shift-sunk m (tree.nominal a) = refl
shift-sunk m (tree.variable y) = refl
shift-sunk m (tree.index i) = ap tree.index (sym (shift_index-from m (i + m) (i + suc m) (omega arith) (omega arith)))

-- one binder

the_name : (m : ℕ) (h g : tree.Head ℕ) → g ≡ h → close_head m h g ≡ tree.index m
the_name m h g e = ap (λ b. cond b (tree.index m) (shift_head m g)) ((same_head-Decides g h).1 e)

another : (m : ℕ) (h g : tree.Head ℕ) → g ≢ h → close_head m h g ≡ shift_head m g
another m h g n = ap (λ b. cond b (tree.index m) (shift_head m g)) (false_from_ne_true (same_head g h) (λ e. n ((same_head-Decides g h).0 e)))

not_sunk : (m j : ℕ) (h : tree.Head ℕ) → j < m → tree.index j ≢ sunk m h
not_sunk m j (tree.constant k) l e = cc
not_sunk m j (tree.logical k) l e = cc
not_sunk m j (tree.nominal a) l e = cc
not_sunk m j (tree.variable y) l e = cc
not_sunk m j (tree.index i) l e = let same : j ≡ i + m = cc in omega (arith, same, l)

inner : (m j : ℕ) (h : tree.Head ℕ) → j < m → close_head m (sunk m h) (tree.index j) ≡ tree.index j
inner m j h l = another m (sunk m h) (tree.index j) (not_sunk m j h l) ∙ ap tree.index (sym (shift_index-below m j l))

-- all binders

stays : (k i : ℕ) (hs : List (tree.Head ℕ)) → i < k → tree.index i ≡ close_head_names k hs (tree.index i)
stays k i [] l = refl
stays k i (h ∷ hs) l = sym (inner (k + length hs) i h (omega arith)) ∙ ap (close_head (k + length hs) (sunk (k + length hs) h)) (stays k i hs l)

module _ (types : Table) (store : Contents) where
  abbrev read : Head → tree.Head ℕ
  read h = head_reading types store h

  pub inner_stays : (k i : ℕ) (names : List Head) (h : Head) → i < k → h ≡ Index i → read h ≡ close_head_names k (map read names) (read h)
  inner_stays k i names h l is = subst (λ g. read g ≡ close_head_names k (map read names) (read g)) (sym is) (stays k i (map read names) l)

  other : (m : ℕ) (name g : Head) → AreToldApart types name g → name ≢ g → close_head m (sunk m (read name)) (sunk m (read g)) ≡ sunk (suc m) (read g)
  other m name g told n =
      another m (sunk m (read name)) (sunk m (read g))
      (λ e. told_differ types store name g told (λ is. n (sym is)) (sym (risen-sunk m (read g)) ∙ ap (risen m) e ∙ risen-sunk m (read name)))
      ∙ shift-sunk m (read g)

  pub sinks : (k : ℕ) (names : List Head) (g : Head) → All (λ name. AreToldApart types name g) names → All (λ name. name ≢ g) names
      → sunk (k + length (map read names)) (read g) ≡ close_head_names k (map read names) (sunk k (read g))
  sinks k [] g told none = ap (λ m. sunk m (read g)) (let same : k + 0 ≡ k = omega arith in same)
  sinks k (name ∷ names) g told none =
      let m = k + length (map read names) in
      let next : k + suc (length (map read names)) ≡ suc m = omega arith in
      ap (λ j. sunk j (read g)) next
      ∙ sym (other m name g (All-head (λ name. AreToldApart types name g) name names told) (All-head (λ name. name ≢ g) name names none))
      ∙ ap (close_head m (sunk m (read name))) (sinks k names g (All-tail (λ name. AreToldApart types name g) name names told) (All-tail (λ name. name ≢ g) name names none))

  name_at : (k : ℕ) (names : List Head) (g d : Head) (i n : ℕ) → length names ≡ i + suc n → All (λ name. AreToldApart types name g) names → All (λ name. name ≢ g) (drop (suc i) names) → get_or names i d ≡ g
      → tree.index (k + n) ≡ close_head_names k (map read names) (sunk k (read g))
  name_at k [] g d i n e told none here = absurd (omega (arith, e))
  name_at k (name ∷ names) g d zero n e told none here =
      let m = k + length (map read names) in
      let many : k + n ≡ m = omega (arith, e, length-map names read) in
      ap tree.index many
      ∙ sym (the_name m (sunk m (read name)) (sunk m (read g)) (ap (λ h. sunk m (read h)) (sym here)))
      ∙ ap (close_head m (sunk m (read name))) (sinks k names g (All-tail (λ name. AreToldApart types name g) name names told) none)
  name_at k (name ∷ names) g d (suc i) n e told none here =
      let m = k + length (map read names) in
      sym (inner m (k + n) (read name) (omega (arith, e, length-map names read)))
      ∙ ap (close_head m (sunk m (read name))) (name_at k names g d i n (omega (arith, e)) (All-tail (λ name. AreToldApart types name g) name names told) none here)

  -- the last of the names that is the head, with so many behind it
  pub name_sinks : (k : ℕ) (names : List Head) (h g d : Head) (n m : ℕ) → read h ≡ sunk k (read g) → All (λ name. AreToldApart types name g) names
      → n < length names → All (λ name. name ≢ g) (drop (length names - n) names) → get_or names (length names - 1 - n) d ≡ g → m ≡ k + n
      → tree.index m ≡ close_head_names k (map read names) (read h)
  name_sinks k names h g d n m is told l none here e =
      let front : length names - n ≡ suc (length names - 1 - n) = omega (arith, l) in
      ap tree.index e
      ∙ name_at k names g d (length names - 1 - n) n (omega (arith, l)) told (subst (λ j. All (λ name. name ≢ g) (drop j names)) front none) here
      ∙ ap (close_head_names k (map read names)) (sym is)

  -- none of the names is the head
  pub other_sinks : (k : ℕ) (names : List Head) (h g r : Head) (m : ℕ) → read h ≡ sunk k (read g) → All (λ name. AreToldApart types name g) names → All (λ name. name ≢ g) names
      → m ≡ k + length names → read r ≡ sunk m (read g) → read r ≡ close_head_names k (map read names) (read h)
  other_sinks k names h g r m is told none e made =
      let many : m ≡ k + length (map read names) = omega (arith, e, length-map names read) in
      made ∙ ap (λ j. sunk j (read g)) many ∙ sinks k names g told none ∙ ap (close_head_names k (map read names)) (sym is)
