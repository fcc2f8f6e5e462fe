-- A permutation table moves constants one to one, and has an inverse; two tables are one. So to be equal up to names
-- is an equivalence.
use Rattle.std.proofs.Common.{◌≡◌, ◌≢◌, ◌⊎◌, inl, inr, List, [], ◌∷◌, map, Bool, true, false, refl, sym, ◌∙◌, ap, subst}
use Rattle.std.specs.Prelude.{All, AllPairs, Contains, cond}
use Rattle.std.proofs.lemmas.List.Elements.{All-map, All-weaker, All-contains}
use Rattle.ab_term.specs.Terms.{Nominal}
use Rattle.ab_term.specs.Names.{same_nominal, moved_by, IsPermutationTable}
use Rattle.ab_term.proofs.Comparisons.{same_nominal-Decides}
use Rattle.ab_term.proofs.Lists.{AllPairs-map, Contains-none, Contains-here, Contains-there, Contains-cases, AllPairs-parts, All-from_contains, Contains-map, Contains-from_map, contains_or_not, distinct, distinct_pairs, Contains-distinct}

abbrev pub Table : Type 0
Table = List (Nominal × Nominal)

abbrev pub froms : Table → List Nominal
froms = map (λ p. p.0)

abbrev pub tos : Table → List Nominal
tos = map (λ p. p.1)

-- where a constant isn't in the table, it stays
pub moved_by-absent : (ps : Table) (a : Nominal) → (Contains (froms ps) a → ⊥) → moved_by ps a ≡ a
moved_by-absent [] a n = refl
moved_by-absent (p ∷ ps) a n = go (moved_by-absent ps a (λ c. n (Contains-there p.0 (froms ps) a c))) (same_nominal p.0 a) refl
  where
    go : moved_by ps a ≡ a → (b : Bool) → same_nominal p.0 a ≡ b → cond b p.1 (moved_by ps a) ≡ a
    go rest true e = absurd (n (subst (Contains (p.0 ∷ froms ps)) ((same_nominal-Decides p.0 a).0 e) (Contains-here p.0 (froms ps))))
    go rest false e = rest

-- a pair of the table says what becomes of its first constant
pub moved_by-present : (ps : Table) → AllPairs (λ p q. p.0 ≢ q.0) ps → (r : Nominal × Nominal) → Contains ps r → moved_by ps r.0 ≡ r.1
moved_by-present [] d r c = absurd (Contains-none r c)
moved_by-present (p ∷ ps) d r c = go (moved_by-present ps parts.1 r) (Contains-cases p ps r c) (same_nominal p.0 r.0) refl
  where
    parts : All (λ q. p.0 ≢ q.0) ps × AllPairs (λ p q. p.0 ≢ q.0) ps
    parts = AllPairs-parts (λ p q. p.0 ≢ q.0) p ps d

    go : (Contains ps r → moved_by ps r.0 ≡ r.1) → (p ≡ r) ⊎ Contains ps r → (b : Bool) → same_nominal p.0 r.0 ≡ b → cond b p.1 (moved_by ps r.0) ≡ r.1
    go rest (inl e) true t = ap (λ q. q.1) e
    go rest (inl e) false t = absurd (let q : false ≡ true = sym t ∙ (same_nominal-Decides p.0 r.0).1 (ap (λ q. q.0) e) in cc)
    go rest (inr m) true t = absurd (All-contains (λ q. p.0 ≢ q.0) ps r parts.0 m ((same_nominal-Decides p.0 r.0).0 t))
    go rest (inr m) false t = rest m

-- a map of nominal constants with an inverse, which keeps types
pub record IsOneToOne (f g : Nominal → Nominal) : Type 0 where
  pub back : (a : Nominal) → g (f a) ≡ a
  pub forth : (a : Nominal) → f (g a) ≡ a
  pub keeps : (a : Nominal) → (f a).type ≡ a.type

abbrev pub swapped : Table → Table
swapped = map (λ p. (p.1, p.0))

froms-swapped : (ps : Table) → froms (swapped ps) ≡ tos ps
froms-swapped [] = refl
froms-swapped (p ∷ ps) = ap (λ l. p.1 ∷ l) (froms-swapped ps)

tos-swapped : (ps : Table) → tos (swapped ps) ≡ froms ps
tos-swapped [] = refl
tos-swapped (p ∷ ps) = ap (λ l. p.0 ∷ l) (tos-swapped ps)

swapped_back : (ps : Table) → swapped (swapped ps) ≡ ps
swapped_back [] = refl
swapped_back (p ∷ ps) = ap (λ l. p ∷ l) (swapped_back ps)

abbrev pub swap : Nominal × Nominal → Nominal × Nominal
swap p = (p.1, p.0)

pub swapped_table : (ps : Table) → IsPermutationTable ps → IsPermutationTable (swapped ps)
swapped_table ps t = record {
  from_distinct = AllPairs-map swap (λ p q. p.0 ≢ q.0) ps t.to_distinct;
  to_distinct = AllPairs-map swap (λ p q. p.1 ≢ q.1) ps t.from_distinct;
  same_constants = λ a. (λ c. to_old a ((t.same_constants a).1 (from_new a c)), λ c. from_old a ((t.same_constants a).0 (to_new a c)));
  keeps_types = All-map (λ p. p.0.type ≡ p.1.type) swap ps (All-weaker (λ p. p.0.type ≡ p.1.type) (λ p. p.1.type ≡ p.0.type) (λ p e. sym e) ps t.keeps_types);
}
  where
    from_new : (a : Nominal) → Contains (froms (swapped ps)) a → Contains (tos ps) a
    from_new a c = subst (λ l. Contains l a) (froms-swapped ps) c

    to_new : (a : Nominal) → Contains (tos (swapped ps)) a → Contains (froms ps) a
    to_new a c = subst (λ l. Contains l a) (tos-swapped ps) c

    to_old : (a : Nominal) → Contains (froms ps) a → Contains (tos (swapped ps)) a
    to_old a c = subst (λ l. Contains l a) (sym (tos-swapped ps)) c

    from_old : (a : Nominal) → Contains (tos ps) a → Contains (froms (swapped ps)) a
    from_old a c = subst (λ l. Contains l a) (sym (froms-swapped ps)) c

one_way : (ps : Table) → IsPermutationTable ps → (a : Nominal) → moved_by (swapped ps) (moved_by ps a) ≡ a
one_way ps t a = go (contains_or_not same_nominal same_nominal-Decides (froms ps) a)
  where
    go : Contains (froms ps) a ⊎ (Contains (froms ps) a → ⊥) → moved_by (swapped ps) (moved_by ps a) ≡ a
    go (inl c) =
        let r = Contains-from_map (λ p. p.0) ps a c in
        let there : moved_by ps a ≡ r.0.1 = ap (moved_by ps) (sym r.2) ∙ moved_by-present ps t.from_distinct r.0 r.1 in
        ap (moved_by (swapped ps)) there
        ∙ moved_by-present (swapped ps) (AllPairs-map swap (λ p q. p.0 ≢ q.0) ps t.to_distinct) (r.0.1, r.0.0) (Contains-map swap ps r.0 r.1)
        ∙ r.2
    go (inr n) =
        ap (moved_by (swapped ps)) (moved_by-absent ps a n)
        ∙ moved_by-absent (swapped ps) a (λ c. n ((t.same_constants a).1 (subst (λ l. Contains l a) (froms-swapped ps) c)))

keeps_type : (ps : Table) → IsPermutationTable ps → (a : Nominal) → (moved_by ps a).type ≡ a.type
keeps_type ps t a = go (contains_or_not same_nominal same_nominal-Decides (froms ps) a)
  where
    go : Contains (froms ps) a ⊎ (Contains (froms ps) a → ⊥) → (moved_by ps a).type ≡ a.type
    go (inl c) =
        let r = Contains-from_map (λ p. p.0) ps a c in
        ap (λ b. (moved_by ps b).type) (sym r.2) ∙ ap (λ b. b.type) (moved_by-present ps t.from_distinct r.0 r.1)
        ∙ sym (All-contains (λ p. p.0.type ≡ p.1.type) ps r.0 t.keeps_types r.1) ∙ ap (λ b. b.type) r.2
    go (inr n) = ap (λ b. b.type) (moved_by-absent ps a n)

pub one_to_one : (ps : Table) → IsPermutationTable ps → IsOneToOne (moved_by ps) (moved_by (swapped ps))
one_to_one ps t = record {
  back = one_way ps t;
  forth = λ a. ap (λ l. moved_by l (moved_by (swapped ps) a)) (sym (swapped_back ps)) ∙ one_way (swapped ps) (swapped_table ps t) a;
  keeps = keeps_type ps t;
}

-- the table of a one to one map that moves listed constants alone
module _ (f g : Nominal → Nominal) (one : IsOneToOne f g) (moved : List Nominal) (covers : (a : Nominal) → (Contains moved a → ⊥) → f a ≡ a) where
  abbrev listed : List Nominal
  listed = distinct same_nominal same_nominal-Decides moved

  abbrev pair : Nominal → Nominal × Nominal
  pair a = (a, f a)

  abbrev pub table_of : Table
  table_of = map pair listed

  stays : (a : Nominal) → (Contains listed a → ⊥) → f a ≡ a
  stays a n = covers a (λ c. n (Contains-distinct same_nominal same_nominal-Decides moved a c))

  froms-pair : (xs : List Nominal) → froms (map pair xs) ≡ xs
  froms-pair [] = refl
  froms-pair (x ∷ xs) = ap (λ l. x ∷ l) (froms-pair xs)

  tos-pair : (xs : List Nominal) → tos (map pair xs) ≡ map f xs
  tos-pair [] = refl
  tos-pair (x ∷ xs) = ap (λ l. f x ∷ l) (tos-pair xs)

  injective : (a b : Nominal) → f a ≡ f b → a ≡ b
  injective a b e = sym (one.back a) ∙ ap g e ∙ one.back b

  reached : (a : Nominal) → Contains listed a → Contains (map f listed) a
  reached a c = go (contains_or_not same_nominal same_nominal-Decides listed (g a))
    where
      go : Contains listed (g a) ⊎ (Contains listed (g a) → ⊥) → Contains (map f listed) a
      go (inl d) = subst (Contains (map f listed)) (one.forth a) (Contains-map f listed (g a) d)
      go (inr n) = absurd (n (subst (Contains listed) (sym (one.forth a) ∙ stays (g a) n) c))

  kept : (a : Nominal) → Contains (map f listed) a → Contains listed a
  kept a c = go (contains_or_not same_nominal same_nominal-Decides listed a)
    where
      go : Contains listed a ⊎ (Contains listed a → ⊥) → Contains listed a
      go (inl d) = d
      go (inr n) =
          let r = Contains-from_map f listed a c in
          subst (Contains listed) (injective r.0 a (r.2 ∙ sym (stays a n))) r.1

  pub table_of_permutes : IsPermutationTable table_of
  table_of_permutes = record {
    from_distinct = AllPairs-map pair (λ p q. p.0 ≢ q.0) listed (distinct_pairs same_nominal same_nominal-Decides moved);
    to_distinct = AllPairs-map pair (λ p q. p.1 ≢ q.1) listed (λ i j d l m e. distinct_pairs same_nominal same_nominal-Decides moved i j d l m (injective _ _ e));
    same_constants = λ a. (λ c. subst (λ l. Contains l a) (sym (tos-pair listed)) (reached a (subst (λ l. Contains l a) (froms-pair listed) c)), λ c. subst (λ l. Contains l a) (sym (froms-pair listed)) (kept a (subst (λ l. Contains l a) (tos-pair listed) c)));
    keeps_types = All-map (λ p. p.0.type ≡ p.1.type) pair listed (All-from_contains (λ a. a.type ≡ (f a).type) listed (λ a c. sym (one.keeps a)));
  }

  pub moved_by-table_of : (a : Nominal) → moved_by table_of a ≡ f a
  moved_by-table_of a = go (contains_or_not same_nominal same_nominal-Decides listed a)
    where
      go : Contains listed a ⊎ (Contains listed a → ⊥) → moved_by table_of a ≡ f a
      go (inl c) = moved_by-present table_of table_of_permutes.from_distinct (a, f a) (Contains-map pair listed a c)
      go (inr n) = moved_by-absent table_of a (λ c. n (subst (λ l. Contains l a) (froms-pair listed) c)) ∙ sym (stays a n)
