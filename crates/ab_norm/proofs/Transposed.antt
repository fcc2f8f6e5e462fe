-- Tables of permutations in which two constants on the right change places, or which get a constant that stays.
use Rattle.std.proofs.Common.{◌≡◌, ◌≢◌, ◌⊎◌, inl, inr, List, [], ◌∷◌, ◌++◌, map, Bool, true, false, refl, sym, ◌∙◌, ap, subst}
use Rattle.std.specs.Prelude.{All, AllPairs, Contains, cond, Decides}
use Rattle.std.proofs.lemmas.List.{map-append}
use Rattle.std.proofs.lemmas.List.Elements.{All-nil, All-head, All-tail, All-map, All-weaker, All-push, Contains-append_left, Contains-append_right, Contains-append_cases}
use Rattle.std.proofs.lemmas.List.Kept.{AllPairs-cons}
use Rattle.ab_term.specs.Terms.{Nominal}
use Rattle.ab_term.specs.Names.{same_nominal, moved_by, IsPermutationTable}
use Rattle.ab_term.proofs.Comparisons.{same_nominal-Decides}
use Rattle.ab_term.proofs.Lists.{AllPairs-none, All-from_contains, Contains-none, AllPairs-map, Contains-here, Contains-cases, AllPairs-parts, Contains-map, Contains-from_map, contains_or_not}
use Rattle.ab_term.proofs.Permutations.{Table, froms, tos, moved_by-absent, moved_by-present}
use Rattle.ab_norm.specs.PermutationTables.{transposed, retargeted}

off : (b : Bool) (P : Type 0) → Decides b P → (P → ⊥) → b ≡ false
off true P d n = absurd (n (d.0 refl))
off false P d n = refl

pub same_or_not : (a b : Nominal) → (a ≡ b) ⊎ (a ≢ b)
same_or_not a b = go (same_nominal a b) refl
  where
    go : (t : Bool) → same_nominal a b ≡ t → (a ≡ b) ⊎ (a ≢ b)
    go true e = inl ((same_nominal-Decides a b).0 e)
    go false e = inr (λ p. let q : false ≡ true = sym e ∙ (same_nominal-Decides a b).1 p in cc)

module _ (x y : Nominal) where
  pub first : (a : Nominal) → a ≡ x → transposed x y a ≡ y
  first a e = ap (λ t. cond t y (cond (same_nominal a y) x a)) ((same_nominal-Decides a x).1 e)

  pub second : (a : Nominal) → a ≢ x → a ≡ y → transposed x y a ≡ x
  second a n e =
      ap (λ t. cond t y (cond (same_nominal a y) x a)) (off (same_nominal a x) (a ≡ x) (same_nominal-Decides a x) n)
      ∙ ap (λ t. cond t x a) ((same_nominal-Decides a y).1 e)

  pub neither : (a : Nominal) → a ≢ x → a ≢ y → transposed x y a ≡ a
  neither a n m =
      ap (λ t. cond t y (cond (same_nominal a y) x a)) (off (same_nominal a x) (a ≡ x) (same_nominal-Decides a x) n)
      ∙ ap (λ t. cond t x a) (off (same_nominal a y) (a ≡ y) (same_nominal-Decides a y) m)

  -- what becomes of a constant, by cases
  data Case (a : Nominal) : Type 0 where
    at_first : a ≡ x → transposed x y a ≡ y → Case a
    at_second : a ≢ x → a ≡ y → transposed x y a ≡ x → Case a
    elsewhere : a ≢ x → a ≢ y → transposed x y a ≡ a → Case a

  case_of : (a : Nominal) → Case a
  case_of a = go (same_or_not a x) (same_or_not a y)
    where
      go : (a ≡ x) ⊎ (a ≢ x) → (a ≡ y) ⊎ (a ≢ y) → Case a
      go (inl e) f = at_first e (first a e)
      go (inr n) (inl f) = at_second n f (second a n f)
      go (inr n) (inr m) = elsewhere n m (neither a n m)

  of_second : transposed x y y ≡ x
  of_second = go (same_or_not y x)
    where
      go : (y ≡ x) ⊎ (y ≢ x) → transposed x y y ≡ x
      go (inl e) = first y e ∙ e
      go (inr n) = second y n refl

  pub twice : (a : Nominal) → transposed x y (transposed x y a) ≡ a
  twice a = go (case_of a)
    where
      go : Case a → transposed x y (transposed x y a) ≡ a
      go (at_first e t) = ap (transposed x y) t ∙ of_second ∙ sym e
      go (at_second n e t) = ap (transposed x y) t ∙ first x refl ∙ sym e
      go (elsewhere n m t) = ap (transposed x y) t ∙ t

  injective : (a b : Nominal) → transposed x y a ≡ transposed x y b → a ≡ b
  injective a b e = sym (twice a) ∙ ap (transposed x y) e ∙ twice b

  keeps_type : x.type ≡ y.type → (a : Nominal) → (transposed x y a).type ≡ a.type
  keeps_type same a = go (case_of a)
    where
      go : Case a → (transposed x y a).type ≡ a.type
      go (at_first e t) = ap (λ b. b.type) t ∙ sym same ∙ sym (ap (λ b. b.type) e)
      go (at_second n e t) = ap (λ b. b.type) t ∙ same ∙ sym (ap (λ b. b.type) e)
      go (elsewhere n m t) = ap (λ b. b.type) t

  froms-retargeted : (ps : Table) → froms (map (retargeted x y) ps) ≡ froms ps
  froms-retargeted [] = refl
  froms-retargeted (p ∷ ps) = ap (λ l. p.0 ∷ l) (froms-retargeted ps)

  tos-retargeted : (ps : Table) → tos (map (retargeted x y) ps) ≡ map (transposed x y) (tos ps)
  tos-retargeted [] = refl
  tos-retargeted (p ∷ ps) = ap (λ l. transposed x y p.1 ∷ l) (tos-retargeted ps)

  module _ (ps : Table) (t : IsPermutationTable ps) where
    -- a constant of the table comes out at its image
    pub moved-retargeted : (a : Nominal) → Contains (froms ps) a → moved_by (map (retargeted x y) ps) a ≡ transposed x y (moved_by ps a)
    moved-retargeted a c =
        let r = Contains-from_map (λ p. p.0) ps a c in
        let there : moved_by ps a ≡ r.0.1 = ap (moved_by ps) (sym r.2) ∙ moved_by-present ps t.from_distinct r.0 r.1 in
        ap (moved_by (map (retargeted x y) ps)) (sym r.2)
        ∙ moved_by-present (map (retargeted x y) ps) (AllPairs-map (retargeted x y) (λ p q. p.0 ≢ q.0) ps t.from_distinct) (retargeted x y r.0) (Contains-map (retargeted x y) ps r.0 r.1)
        ∙ sym (ap (transposed x y) there)

    moved-outside : (a : Nominal) → (Contains (froms ps) a → ⊥) → moved_by (map (retargeted x y) ps) a ≡ moved_by ps a
    moved-outside a n =
        moved_by-absent (map (retargeted x y) ps) a (λ c. n (subst (λ l. Contains l a) (froms-retargeted ps) c)) ∙ sym (moved_by-absent ps a n)

    -- and where that is neither of the two, nothing changes
    pub moved-elsewhere : (a : Nominal) → moved_by ps a ≢ x → moved_by ps a ≢ y → moved_by (map (retargeted x y) ps) a ≡ moved_by ps a
    moved-elsewhere a n m = go (contains_or_not same_nominal same_nominal-Decides (froms ps) a)
      where
        go : Contains (froms ps) a ⊎ (Contains (froms ps) a → ⊥) → moved_by (map (retargeted x y) ps) a ≡ moved_by ps a
        go (inl c) = moved-retargeted a c ∙ neither (moved_by ps a) n m
        go (inr o) = moved-outside a o

    module _ (there_x : Contains (tos ps) x) (there_y : Contains (tos ps) y) (same : x.type ≡ y.type) where
      stays_in : (a : Nominal) → Contains (tos ps) a → Contains (tos ps) (transposed x y a)
      stays_in a c = go (case_of a)
        where
          go : Case a → Contains (tos ps) (transposed x y a)
          go (at_first e t) = subst (Contains (tos ps)) (sym t) there_y
          go (at_second n e t) = subst (Contains (tos ps)) (sym t) there_x
          go (elsewhere n m t) = subst (Contains (tos ps)) (sym t) c

      pub retargeted_table : IsPermutationTable (map (retargeted x y) ps)
      retargeted_table = record {
        from_distinct = AllPairs-map (retargeted x y) (λ p q. p.0 ≢ q.0) ps t.from_distinct;
        to_distinct = AllPairs-map (retargeted x y) (λ p q. p.1 ≢ q.1) ps (λ i j d l m e. t.to_distinct i j d l m (injective _ _ e));
        same_constants = λ a. (
          λ c. subst (λ l. Contains l a) (sym (tos-retargeted ps)) (into a ((t.same_constants a).0 (subst (λ l. Contains l a) (froms-retargeted ps) c))),
          λ c. subst (λ l. Contains l a) (sym (froms-retargeted ps)) ((t.same_constants a).1 (out_of a (subst (λ l. Contains l a) (tos-retargeted ps) c))),
        );
        keeps_types = All-map (λ p. p.0.type ≡ p.1.type) (retargeted x y) ps (All-weaker (λ p. p.0.type ≡ p.1.type) (λ p. p.0.type ≡ (transposed x y p.1).type) (λ p e. e ∙ sym (keeps_type same p.1)) ps t.keeps_types);
      }
        where
          into : (a : Nominal) → Contains (tos ps) a → Contains (map (transposed x y) (tos ps)) a
          into a c = subst (Contains (map (transposed x y) (tos ps))) (twice a) (Contains-map (transposed x y) (tos ps) (transposed x y a) (stays_in a c))

          out_of : (a : Nominal) → Contains (map (transposed x y) (tos ps)) a → Contains (tos ps) a
          out_of a c =
              let r = Contains-from_map (transposed x y) (tos ps) a c in
              subst (Contains (tos ps)) r.2 (stays_in r.0 r.1)

-- a constant that stays
module _ (ps : Table) (t : IsPermutationTable ps) (n : Nominal) (new : Contains (froms ps) n → ⊥) where
  abbrev with_n : Table
  with_n = ps ++ (n, n) ∷ []

  froms_with : froms with_n ≡ froms ps ++ n ∷ []
  froms_with = map-append (λ (p : Nominal × Nominal). p.0) ps ((n, n) ∷ [])

  tos_with : tos with_n ≡ tos ps ++ n ∷ []
  tos_with = map-append (λ (p : Nominal × Nominal). p.1) ps ((n, n) ∷ [])

  pub there_with : Contains (froms with_n) n
  there_with = subst (λ l. Contains l n) (sym froms_with) (Contains-append_right (froms ps) (n ∷ []) n (Contains-here n []))

  pub more_with : (b : Nominal) → Contains (froms ps) b → Contains (froms with_n) b
  more_with b c = subst (λ l. Contains l b) (sym froms_with) (Contains-append_left (froms ps) (n ∷ []) b c)

  fresh : (R : Nominal × Nominal → Nominal × Nominal → Type 0) → AllPairs R ps → All (λ p. R p (n, n)) ps → AllPairs R with_n
  fresh R pairs last = push ps pairs last
    where
      push : (qs : Table) → AllPairs R qs → All (λ p. R p (n, n)) qs → AllPairs R (qs ++ (n, n) ∷ [])
      push [] pairs last = AllPairs-cons R (n, n) [] (All-nil (R (n, n))) (AllPairs-none R)
      push (q ∷ qs) pairs last =
          let parts = AllPairs-parts R q qs pairs in
          AllPairs-cons R q (qs ++ (n, n) ∷ []) (All-push (R q) qs (n, n) parts.0 (All-head (λ p. R p (n, n)) q qs last)) (push qs parts.1 (All-tail (λ p. R p (n, n)) q qs last))

  none_from : All (λ p. p.0 ≢ n) ps
  none_from = All-from_contains (λ p. p.0 ≢ n) ps (λ p c e. new (subst (Contains (froms ps)) e (Contains-map (λ p. p.0) ps p c)))

  none_to : All (λ p. p.1 ≢ n) ps
  none_to = All-from_contains (λ p. p.1 ≢ n) ps (λ p c e. new ((t.same_constants n).1 (subst (Contains (tos ps)) e (Contains-map (λ p. p.1) ps p c))))

  pub table_with : IsPermutationTable with_n
  table_with = record {
    from_distinct = fresh (λ p q. p.0 ≢ q.0) t.from_distinct none_from;
    to_distinct = fresh (λ p q. p.1 ≢ q.1) t.to_distinct none_to;
    same_constants = λ a. (
      λ c. subst (λ l. Contains l a) (sym tos_with) (across (froms ps) (tos ps) a (t.same_constants a).0 (subst (λ l. Contains l a) froms_with c)),
      λ c. subst (λ l. Contains l a) (sym froms_with) (across (tos ps) (froms ps) a (t.same_constants a).1 (subst (λ l. Contains l a) tos_with c)),
    );
    keeps_types = All-push (λ p. p.0.type ≡ p.1.type) ps (n, n) t.keeps_types refl;
  }
    where
      across : (xs ys : List Nominal) (a : Nominal) → (Contains xs a → Contains ys a) → Contains (xs ++ n ∷ []) a → Contains (ys ++ n ∷ []) a
      across xs ys a f c = elim (Contains-append_cases xs (n ∷ []) a c) [ inl d ↦ Contains-append_left ys (n ∷ []) a (f d) | inr d ↦ Contains-append_right ys (n ∷ []) a d ]

  pub same_with : (b : Nominal) → moved_by with_n b ≡ moved_by ps b
  same_with b = go (contains_or_not same_nominal same_nominal-Decides (froms ps) b) (same_or_not b n)
    where
      go : Contains (froms ps) b ⊎ (Contains (froms ps) b → ⊥) → (b ≡ n) ⊎ (b ≢ n) → moved_by with_n b ≡ moved_by ps b
      go (inl c) s =
          let r = Contains-from_map (λ p. p.0) ps b c in
          ap (moved_by with_n) (sym r.2) ∙ moved_by-present with_n table_with.from_distinct r.0 (Contains-append_left ps ((n, n) ∷ []) r.0 r.1)
          ∙ sym (moved_by-present ps t.from_distinct r.0 r.1) ∙ ap (moved_by ps) r.2
      go (inr o) (inl e) =
          ap (moved_by with_n) e ∙ moved_by-present with_n table_with.from_distinct (n, n) (Contains-append_right ps ((n, n) ∷ []) (n, n) (Contains-here (n, n) []))
          ∙ sym e ∙ sym (moved_by-absent ps b o)
      go (inr o) (inr m) =
          moved_by-absent with_n b (λ c. elim (Contains-append_cases (froms ps) (n ∷ []) b (subst (λ l. Contains l b) froms_with c)) [ inl d ↦ o d | inr d ↦ elim (Contains-cases n [] b d) [ inl e ↦ m (sym e) | inr e ↦ Contains-none b e ] ])
          ∙ sym (moved_by-absent ps b o)
