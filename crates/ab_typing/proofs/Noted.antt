-- What is known of nominal numbers after a walk.
use Rattle.std.proofs.Common.{◌≡◌, ◌≢◌, ◌⊎◌, inl, inr, ◌↔◌, ℕ, zero, suc, ◌+◌, ◌<◌, List, [], ◌∷◌, ◌++◌, map, take, length, get_or, Bool, true, false, Contains, Some, None, refl, sym, ap, ◌∙◌, subst, arith, append-nil, append_assoc}
use Rattle.std.specs.List.{All}
use Rattle.std.specs.Ordering.{nat_cmp}
use Rattle.std.specs.BTreeMap.{get}
use Rattle.std.proofs.lemmas.List.{map_more}
use Rattle.std.proofs.lemmas.Bool.{cases_eq}
use Rattle.std.proofs.lemmas.List.Elements.{All-contains, All-weaker, Contains-append_left, Contains-append_right, Contains-append_cases}
use Rattle.ab_term.specs.Terms.{Nominal, terms_of, Read}
use Rattle.ab_term.specs.Names.{support, support_of_head, support_of_all}
use Rattle.ab_term.proofs.Lists.{Contains-none, Contains-here, Contains-cases, All-from_contains}
use Rattle.ab_store.specs.ab_types.specs.Entries.{Table}
use Rattle.ab_store.specs.ab_types.specs.Ids.{HoldsType, type_of}
use Rattle.ab_store.specs.ab_types.specs.Sound.{IsTable}
use Rattle.ab_store.specs.ab_types.specs.declared.ids.TypeId.{TypeId}
use Rattle.ab_store.specs.ab_types.proofs.Kept.{one_type}
use Rattle.ab_store.specs.declared.node.TermId.{TermId}
use Rattle.ab_store.specs.declared.node.Head.{Head}
use Rattle.ab_store.specs.declared.node.Node.{Node}
use Rattle.ab_store.specs.declared.node.Node.TheVariants.{Lam, Spine}
use Rattle.ab_store.specs.Trees.{Contents, tree_of, head_reading, node_tree}
use Rattle.ab_typing.specs.declared.nominal_types.Numbers.{Numbers}
use Rattle.ab_typing.specs.NominalTypes.{Knows, AreKnown, Agree, Notes}
use Rattle.ab_formulas.specs.GoalTerms.{HasOneTypeEach, names_of}
use Rattle.ab_formulas.specs.GrowingLists.{GainsOnly}
use Rattle.ab_typing.proofs.Sets.{all_gained}

-- fewer constants agree where more do
fewer : {P Q : Nominal → Type 0} → ((n : Nominal) → P n → Q n) → Agree Q → Agree P
fewer more agree a b p q e = agree a b (more a p) (more b q) e

module _ (types : Table) (s : Contents) where
  abbrev nominal : ℕ → TypeId → Nominal
  nominal k a = record { number = k; type = type_of types a }

  -- one number

  pub number_known : IsTable types → (old : Numbers) (k : ℕ) (ty a : TypeId) (r : Bool) → AreKnown types s old → HoldsType types ty → get nat_cmp old.types k ≡ Some a
      → (r ≡ true) ↔ (a ≡ ty) → Notes types s old old (nominal k ty ∷ []) r
  number_known ok old k ty a true known held got same = (known, λ n. (inl, back n))
    where
      back : (n : Nominal) → Knows types old n ⊎ Contains (nominal k ty ∷ []) n → Knows types old n
      back n (inl h) = h
      back n (inr h) = go (Contains-cases (nominal k ty) [] n h)
        where
          here : Knows types old (nominal k ty)
          here = (a, got, ap (type_of types) (same.0 refl))

          go : (nominal k ty ≡ n) ⊎ Contains [] n → Knows types old n
          go (inl e) = subst (Knows types old) e here
          go (inr none) = absurd (Contains-none n none)
  number_known ok old k ty a false known held got same = λ agree.
      let one : nominal k a ≡ nominal k ty = agree (nominal k a) (nominal k ty) (inl (a, got, refl)) (inr (Contains-here (nominal k ty) [])) refl in
      let types_same : type_of types a ≡ type_of types ty = ap (λ (n : Nominal). n.type) one in
      let wrong : false ≡ true = same.1 (one_type types ok a ty (known.held k a got) held types_same) in
      absurd (cc)

  pub number_new : (old new : Numbers) (k : ℕ) (ty : TypeId) → AreKnown types s old → HoldsType types ty → get nat_cmp old.types k ≡ None
      → get nat_cmp new.types k ≡ Some ty → ((q : ℕ) → q ≢ k → get nat_cmp new.types q ≡ get nat_cmp old.types q) → new.seen ≡ old.seen
      → Notes types s old new (nominal k ty ∷ []) true
  number_new old new k ty known held absent got others seen = (record { held = all_held; seen = still_seen }, λ n. (there n, back n))
    where
      kept : (n : Nominal) → Knows types old n → Knows types new n
      kept n (a, e, f) = (a, others n.number (λ p. absurd (let q : Some a ≡ None = sym e ∙ ap (get nat_cmp old.types) p ∙ absent in cc)) ∙ e, f)

      held_at : (q : ℕ) (a : TypeId) → (q ≡ k) ⊎ (q ≢ k) → get nat_cmp new.types q ≡ Some a → HoldsType types a
      held_at q a (inl p) e = let same : ty ≡ a = (let f : Some ty ≡ Some a = sym got ∙ ap (get nat_cmp new.types) (sym p) ∙ e in cc) in subst (HoldsType types) same held
      held_at q a (inr p) e = known.held q a (sym (others q p) ∙ e)

      all_held : (q : ℕ) (a : TypeId) → get nat_cmp new.types q ≡ Some a → HoldsType types a
      all_held q a = held_at q a (cases_eq q k)

      still_seen : All (λ t. All (Knows types new) (support (tree_of types s t))) new.seen.keys
      still_seen = subst (λ seen. All (λ t. All (Knows types new) (support (tree_of types s t))) seen.keys) (sym seen)
          (All-weaker (λ t. All (Knows types old) (support (tree_of types s t))) (λ t. All (Knows types new) (support (tree_of types s t)))
          (λ t. All-weaker (Knows types old) (Knows types new) kept (support (tree_of types s t))) old.seen.keys known.seen)

      there_at : (n : Nominal) → (n.number ≡ k) ⊎ (n.number ≢ k) → Knows types new n → Knows types old n ⊎ Contains (nominal k ty ∷ []) n
      there_at n (inl p) (a, e, f) =
          let same : ty ≡ a = (let g : Some ty ≡ Some a = sym got ∙ ap (get nat_cmp new.types) (sym p) ∙ e in cc) in
          let one : nominal k ty ≡ n = ap (λ i. record { number = i; type = type_of types ty }) (sym p) ∙ ap (λ A. record { number = n.number; type = A }) (ap (type_of types) same ∙ f) in
          inr (subst (Contains (nominal k ty ∷ [])) one (Contains-here (nominal k ty) []))
      there_at n (inr p) (a, e, f) = inl (a, sym (others n.number p) ∙ e, f)

      there : (n : Nominal) → Knows types new n → Knows types old n ⊎ Contains (nominal k ty ∷ []) n
      there n = there_at n (cases_eq n.number k)

      here : Knows types new (nominal k ty)
      here = (ty, got, refl)

      back_at : (n : Nominal) → (nominal k ty ≡ n) ⊎ Contains [] n → Knows types new n
      back_at n (inl e) = subst (Knows types new) e here
      back_at n (inr none) = absurd (Contains-none n none)

      back : (n : Nominal) → Knows types old n ⊎ Contains (nominal k ty ∷ []) n → Knows types new n
      back n (inl h) = kept n h
      back n (inr h) = back_at n (Contains-cases (nominal k ty) [] n h)

  -- walks put together

  pub notes_none : (old : Numbers) → AreKnown types s old → (found : List Nominal) → found ≡ [] → Notes types s old old found true
  notes_none old known found none = (known, λ n. (inl, back n))
    where
      back : (n : Nominal) → Knows types old n ⊎ Contains found n → Knows types old n
      back n (inl h) = h
      back n (inr h) = absurd (Contains-none n (subst (λ l. Contains l n) none h))

  pub notes_seen : (old : Numbers) → AreKnown types s old → (t : TermId) → Contains old.seen.keys t → Notes types s old old (support (tree_of types s t)) true
  notes_seen old known t there = (known, λ n. (inl, back n))
    where
      back : (n : Nominal) → Knows types old n ⊎ Contains (support (tree_of types s t)) n → Knows types old n
      back n (inl h) = h
      back n (inr h) = All-contains (Knows types old) (support (tree_of types s t)) n (All-contains (λ u. All (Knows types old) (support (tree_of types s u))) old.seen.keys t known.seen there) h

  -- the term itself is seen then
  pub notes_see : (old new last : Numbers) (t : TermId) → Notes types s old new (support (tree_of types s t)) true
      → last.types ≡ new.types → GainsOnly new.seen.keys t last.seen.keys → Notes types s old last (support (tree_of types s t)) true
  notes_see old new last t (known, all) same gains = (record { held = held; seen = seen }, λ n. (λ h. (all n).0 (before n h), λ h. after n ((all n).1 h)))
    where
      after : (n : Nominal) → Knows types new n → Knows types last n
      after n (a, e, f) = (a, ap (λ m. get nat_cmp m n.number) same ∙ e, f)

      before : (n : Nominal) → Knows types last n → Knows types new n
      before n (a, e, f) = (a, ap (λ m. get nat_cmp m n.number) (sym same) ∙ e, f)

      held : (k : ℕ) (a : TypeId) → get nat_cmp last.types k ≡ Some a → HoldsType types a
      held k a e = known.held k a (ap (λ m. get nat_cmp m k) (sym same) ∙ e)

      own : All (Knows types last) (support (tree_of types s t))
      own = All-from_contains (Knows types last) (support (tree_of types s t)) (λ n c. after n ((all n).1 (inr c)))

      seen : All (λ u. All (Knows types last) (support (tree_of types s u))) last.seen.keys
      seen = all_gained (λ u. All (Knows types last) (support (tree_of types s u))) new.seen.keys last.seen.keys t gains
          (All-weaker (λ u. All (Knows types new) (support (tree_of types s u))) (λ u. All (Knows types last) (support (tree_of types s u)))
          (λ u. All-weaker (Knows types new) (Knows types last) after (support (tree_of types s u))) new.seen.keys known.seen) own

  pub notes_on : (old mid new : Numbers) (found more : List Nominal) (r : Bool) → Notes types s old mid found true → Notes types s mid new more r → Notes types s old new (found ++ more) r
  notes_on old mid new found more true (known, all) (known2, all2) = (known2, λ n. (there n, back n))
    where
      wider : (n : Nominal) → Knows types old n ⊎ Contains found n → Knows types old n ⊎ Contains (found ++ more) n
      wider n (inl h) = inl h
      wider n (inr h) = inr (Contains-append_left found more n h)

      there_at : (n : Nominal) → Knows types mid n ⊎ Contains more n → Knows types old n ⊎ Contains (found ++ more) n
      there_at n (inl h) = wider n ((all n).0 h)
      there_at n (inr h) = inr (Contains-append_right found more n h)

      there : (n : Nominal) → Knows types new n → Knows types old n ⊎ Contains (found ++ more) n
      there n h = there_at n ((all2 n).0 h)

      back_at : (n : Nominal) → Contains found n ⊎ Contains more n → Knows types new n
      back_at n (inl h) = (all2 n).1 (inl ((all n).1 (inr h)))
      back_at n (inr h) = (all2 n).1 (inr h)

      back : (n : Nominal) → Knows types old n ⊎ Contains (found ++ more) n → Knows types new n
      back n (inl h) = (all2 n).1 (inl ((all n).1 (inl h)))
      back n (inr h) = back_at n (Contains-append_cases found more n h)
  notes_on old mid new found more false (known, all) fails = λ agree. fails (fewer at agree)
    where
      wider : (n : Nominal) → Knows types old n ⊎ Contains found n → Knows types old n ⊎ Contains (found ++ more) n
      wider n (inl h) = inl h
      wider n (inr h) = inr (Contains-append_left found more n h)

      at : (n : Nominal) → Knows types mid n ⊎ Contains more n → Knows types old n ⊎ Contains (found ++ more) n
      at n (inl h) = wider n ((all n).0 h)
      at n (inr h) = inr (Contains-append_right found more n h)

  pub notes_stop : (old mid new : Numbers) (found more : List Nominal) → Notes types s old mid found false → Notes types s old new (found ++ more) false
  notes_stop old mid new found more fails = λ agree. fails (fewer wider agree)
    where
      wider : (n : Nominal) → Knows types old n ⊎ Contains found n → Knows types old n ⊎ Contains (found ++ more) n
      wider n (inl h) = inl h
      wider n (inr h) = inr (Contains-append_left found more n h)

  -- several terms

  names_push : (rs : List Read) (r : Read) → names_of (rs ++ r ∷ []) ≡ names_of rs ++ support r
  names_push [] r = append-nil (support r)
  names_push (q ∷ rs) r = ap (λ l. support q ++ l) (names_push rs r) ∙ sym (append_assoc (support q) (names_of rs) (support r))

  pub notes_more : (ids : List TermId) (i : ℕ) (d : TermId) (old mid new : Numbers) → i < length ids
      → Notes types s old mid (names_of (map (tree_of types s) (take i ids))) true → Notes types s mid new (support (tree_of types s (get_or ids i d))) true
      → Notes types s old new (names_of (map (tree_of types s) (take (i + 1) ids))) true
  notes_more ids i d old mid new h a b =
      subst (λ l. Notes types s old new (names_of l) true) (sym (map_more (tree_of types s) ids i d h))
      (subst (λ l. Notes types s old new l true) (sym (names_push (map (tree_of types s) (take i ids)) (tree_of types s (get_or ids i d))))
      (notes_on old mid new (names_of (map (tree_of types s) (take i ids))) (support (tree_of types s (get_or ids i d))) true a b))

  in_one : (ids : List TermId) (i : ℕ) (d : TermId) (n : Nominal) → i < length ids → Contains (support (tree_of types s (get_or ids i d))) n → Contains (names_of (map (tree_of types s) ids)) n
  in_one [] i d n h c = absurd (omega arith)
  in_one (t ∷ ids) zero d n h c = Contains-append_left (support (tree_of types s t)) (names_of (map (tree_of types s) ids)) n c
  in_one (t ∷ ids) (suc i) d n h c = Contains-append_right (support (tree_of types s t)) (names_of (map (tree_of types s) ids)) n (in_one ids i d n (omega arith) c)

  in_taken : (ids : List TermId) (i : ℕ) (n : Nominal) → Contains (names_of (map (tree_of types s) (take i ids))) n → Contains (names_of (map (tree_of types s) ids)) n
  in_taken [] zero n c = c
  in_taken [] (suc i) n c = c
  in_taken (t ∷ ids) zero n c = absurd (Contains-none n c)
  in_taken (t ∷ ids) (suc i) n c = go (in_taken ids i n) (Contains-append_cases (support (tree_of types s t)) (names_of (map (tree_of types s) (take i ids))) n c)
    where
      go : (Contains (names_of (map (tree_of types s) (take i ids))) n → Contains (names_of (map (tree_of types s) ids)) n)
          → Contains (support (tree_of types s t)) n ⊎ Contains (names_of (map (tree_of types s) (take i ids))) n → Contains (names_of (map (tree_of types s) (t ∷ ids))) n
      go later (inl h) = Contains-append_left (support (tree_of types s t)) (names_of (map (tree_of types s) ids)) n h
      go later (inr h) = Contains-append_right (support (tree_of types s t)) (names_of (map (tree_of types s) ids)) n (later h)

  pub notes_end : (ids : List TermId) (i : ℕ) (d : TermId) (old mid new : Numbers) → i < length ids
      → Notes types s old mid (names_of (map (tree_of types s) (take i ids))) true → Notes types s mid new (support (tree_of types s (get_or ids i d))) false
      → Notes types s old new (names_of (map (tree_of types s) ids)) false
  notes_end ids i d old mid new h (known, all) fails = λ agree. fails (fewer at agree)
    where
      wider : (n : Nominal) → Knows types old n ⊎ Contains (names_of (map (tree_of types s) (take i ids))) n → Knows types old n ⊎ Contains (names_of (map (tree_of types s) ids)) n
      wider n (inl k) = inl k
      wider n (inr c) = inr (in_taken ids i n c)

      at : (n : Nominal) → Knows types mid n ⊎ Contains (support (tree_of types s (get_or ids i d))) n → Knows types old n ⊎ Contains (names_of (map (tree_of types s) ids)) n
      at n (inl k) = wider n ((all n).0 k)
      at n (inr c) = inr (in_one ids i d n h c)

  -- a node

  all_names : (rs : List Read) → support_of_all (terms_of rs) ≡ names_of rs
  all_names [] = refl
  all_names (r ∷ rs) = ap (λ l. support r ++ l) (all_names rs)

  module _ (t : TermId) (n : Node) (reads : tree_of types s t ≡ node_tree types s n) where
    pub notes_lam : (ty : TypeId) (x : List ℕ) (body : TermId) (old new : Numbers) (r : Bool) → n ≡ Lam ty x body
        → Notes types s old new (support (tree_of types s body)) r → Notes types s old new (support (tree_of types s t)) r
    notes_lam ty x body old new r is h = subst (λ u. Notes types s old new (support u) r) (sym (reads ∙ ap (node_tree types s) is)) h

    spine_names : (h : Head) (ts given : List TermId) → n ≡ Spine h ts → given ≡ ts → support (tree_of types s t) ≡ support_of_head (head_reading types s h) ++ names_of (map (tree_of types s) given)
    spine_names h ts given is same =
        ap support (reads ∙ ap (node_tree types s) is)
        ∙ ap (λ l. support_of_head (head_reading types s h) ++ l) (all_names (map (tree_of types s) ts) ∙ ap (λ l. names_of (map (tree_of types s) l)) (sym same))

    pub notes_spine : (h : Head) (ts given : List TermId) (old mid new : Numbers) (r : Bool) → n ≡ Spine h ts → given ≡ ts
        → Notes types s old mid (support_of_head (head_reading types s h)) true → Notes types s mid new (names_of (map (tree_of types s) given)) r
        → Notes types s old new (support (tree_of types s t)) r
    notes_spine h ts given old mid new r is same a b =
        subst (λ l. Notes types s old new l r) (sym (spine_names h ts given is same))
        (notes_on old mid new (support_of_head (head_reading types s h)) (names_of (map (tree_of types s) given)) r a b)

    pub notes_head : (h : Head) (ts : List TermId) (old mid new : Numbers) → n ≡ Spine h ts
        → Notes types s old mid (support_of_head (head_reading types s h)) false → Notes types s old new (support (tree_of types s t)) false
    notes_head h ts old mid new is a =
        subst (λ l. Notes types s old new l false) (sym (spine_names h ts ts is refl))
        (notes_stop old mid new (support_of_head (head_reading types s h)) (names_of (map (tree_of types s) ts)) a)

  -- in the end
  pub decided : (none new : Numbers) (found : List Nominal) (r : Bool) → ((n : Nominal) → Knows types none n → ⊥) → Notes types s none new found r → (r ≡ true) ↔ HasOneTypeEach found
  decided none new found true empty (known, all) = (λ e. one, λ h. refl)
    where
      one : HasOneTypeEach found
      one a b ca cb e = go ((all a).1 (inr ca)) ((all b).1 (inr cb))
        where
          go : Knows types new a → Knows types new b → a ≡ b
          go (x, gx, ex) (y, gy, ey) =
              let same : x ≡ y = (let f : Some x ≡ Some y = sym gx ∙ ap (get nat_cmp new.types) e ∙ gy in cc) in
              ap (λ k. record { number = k; type = a.type }) e ∙ ap (λ A. record { number = b.number; type = A }) (sym ex ∙ ap (type_of types) same ∙ ey)
  decided none new found false empty fails = (λ e. absurd (cc), λ one. absurd (fails (λ a b pa pb e. one a b (only a pa) (only b pb) e)))
    where
      only : (n : Nominal) → Knows types none n ⊎ Contains found n → Contains found n
      only n (inl k) = absurd (empty n k)
      only n (inr c) = c
