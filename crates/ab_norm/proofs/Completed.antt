-- Tables of the program, as tables of plain constants.
use Rattle.std.proofs.Common.{◌≡◌, ◌≢◌, ◌⊎◌, inl, inr, ℕ, zero, suc, ◌+◌, ◌<◌, List, [], ◌∷◌, ◌++◌, map, take, drop, length, get_or, Bool, true, false, refl, sym, ◌∙◌, ap, subst, arith}
use Rattle.std.specs.Prelude.{All, Contains, AllPairs, cond}
use Rattle.std.proofs.lemmas.List.{map-append, take_more, drop_more}
use Rattle.std.proofs.lemmas.List.Elements.{All-nil, All-cons, All-push, All-take, All-contains}
use Rattle.ab_term.specs.Terms as tree
use Rattle.ab_term.specs.Names.{same_nominal, moved_by, IsPermutationTable}
use Rattle.ab_term.proofs.Comparisons.{same_nominal-Decides}
use Rattle.ab_term.proofs.Lists.{AllPairs-parts, Contains-map, Contains-from_map}
use Rattle.ab_term.proofs.Permutations.{froms, tos, moved_by-present, swapped, one_to_one}
use Rattle.ab_store.specs.ab_types.specs.Entries.{Table}
use Rattle.ab_store.specs.ab_types.specs.Ids.{type_of}
use Rattle.ab_store.specs.ab_types.specs.Sound.{IsTable}
use Rattle.ab_store.specs.ab_types.proofs.Kept.{one_type}
use Rattle.ab_norm.specs.declared.nominal.Nominal.{Nominal}
use Rattle.ab_norm.specs.declared.nominal.Swap.{Swap}
use Rattle.ab_norm.specs.Nominals.{nominal_of, pairs_of, HoldsNominal, HoldsPairs}
use Rattle.ab_norm.specs.NameMatches.{Sends, IsOneToOne}
use Rattle.ab_norm.specs.PermutationTables.{transposed, retargeted, Permutes, Includes, Settles}
use Rattle.ab_norm.proofs.Transposed.{same_or_not, first, second, neither, moved-retargeted, moved-elsewhere, retargeted_table, there_with, more_with, table_with, same_with}

abbrev pair_of : Table → Swap → tree.Nominal × tree.Nominal
pair_of types q = (nominal_of types q.from, nominal_of types q.to)

module _ (types : Table) (ok : IsTable types) where
  -- constants that stand for one are one
  pub one_nominal : (a b : Nominal) → HoldsNominal types a → HoldsNominal types b → nominal_of types a ≡ nominal_of types b → a ≡ b
  one_nominal a b ha hb e =
      let numbers : a.number ≡ b.number = ap (λ (x : tree.Nominal). x.number) e in
      let tys : a.ty ≡ b.ty = one_type types ok a.ty b.ty ha hb (ap (λ (x : tree.Nominal). x.type) e) in
      λ i. record { number = numbers i; ty = tys i }

  -- the one of two that isn't the constant
  pub exchanged : (x y a r : Nominal) → HoldsNominal types x → HoldsNominal types y → HoldsNominal types a
      → (a ≡ x → r ≡ y) → (a ≢ x → a ≡ y → r ≡ x) → (a ≢ x → a ≢ y → r ≡ a)
      → HoldsNominal types r × (nominal_of types r ≡ transposed (nominal_of types x) (nominal_of types y) (nominal_of types a))
  exchanged x y a r hx hy ha p q s = go (same_or_not (nominal_of types a) (nominal_of types x)) (same_or_not (nominal_of types a) (nominal_of types y))
    where
      apart : (b : Nominal) → nominal_of types a ≢ nominal_of types b → a ≢ b
      apart b n e = n (ap (nominal_of types) e)

      go : (nominal_of types a ≡ nominal_of types x) ⊎ (nominal_of types a ≢ nominal_of types x) → (nominal_of types a ≡ nominal_of types y) ⊎ (nominal_of types a ≢ nominal_of types y)
          → HoldsNominal types r × (nominal_of types r ≡ transposed (nominal_of types x) (nominal_of types y) (nominal_of types a))
      go (inl e) f =
          let is : r ≡ y = p (one_nominal a x ha hx e) in
          (subst (HoldsNominal types) (sym is) hy, ap (nominal_of types) is ∙ sym (first (nominal_of types x) (nominal_of types y) (nominal_of types a) e))
      go (inr n) (inl f) =
          let is : r ≡ x = q (apart x n) (one_nominal a y ha hy f) in
          (subst (HoldsNominal types) (sym is) hx, ap (nominal_of types) is ∙ sym (second (nominal_of types x) (nominal_of types y) (nominal_of types a) n f))
      go (inr n) (inr m) =
          let is : r ≡ a = s (apart x n) (apart y m) in
          (subst (HoldsNominal types) (sym is) ha, ap (nominal_of types) is ∙ sym (neither (nominal_of types x) (nominal_of types y) (nominal_of types a) n m))

  pub one_more_exchanged : (x y r : Nominal) (table made more : List Swap) (i : ℕ) (d p : Swap)
      → HoldsNominal types x → HoldsNominal types y → HoldsPairs types table
      → HoldsPairs types made × (pairs_of types made ≡ map (retargeted (nominal_of types x) (nominal_of types y)) (pairs_of types (take i table)))
      → i < length table → p ≡ get_or table i d
      → (p.to ≡ x → r ≡ y) → (p.to ≢ x → p.to ≡ y → r ≡ x) → (p.to ≢ x → p.to ≢ y → r ≡ p.to)
      → more ≡ made ++ record { from = p.from; to = r } ∷ []
      → HoldsPairs types more × (pairs_of types more ≡ map (retargeted (nominal_of types x) (nominal_of types y)) (pairs_of types (take (i + 1) table)))
  one_more_exchanged x y r table made more i d p hx hy held before l at u v w push =
      let here : HoldsNominal types p.from × HoldsNominal types p.to = subst (λ q. HoldsNominal types q.from × HoldsNominal types q.to) (sym at) (held i d l) in
      let is = exchanged x y p.to r hx hy here.1 u v w in
      let new : Swap = record { from = p.from; to = r } in
      let tr : tree.Nominal × tree.Nominal → tree.Nominal × tree.Nominal = retargeted (nominal_of types x) (nominal_of types y) in (
        subst (HoldsPairs types) (sym push) (All-push (λ q. HoldsNominal types q.from × HoldsNominal types q.to) made new before.0 (here.0, is.0)),
        ap (pairs_of types) push
            ∙ map-append (pair_of types) made (new ∷ [])
            ∙ ap (λ l. l ++ pair_of types new ∷ []) before.1
            ∙ ap (λ b. map tr (pairs_of types (take i table)) ++ (nominal_of types p.from, b) ∷ []) is.1
            ∙ sym (map-append tr (pairs_of types (take i table)) (pair_of types p ∷ []))
            ∙ ap (map tr) (sym (map-append (pair_of types) (take i table) (p ∷ [])))
            ∙ ap (λ l. map tr (pairs_of types l)) (ap (λ q. take i table ++ q ∷ []) at ∙ sym (take_more table i d l)),
      )

  -- looking a constant up
  pub moved_here : (a : Nominal) (table : List Swap) (i : ℕ) (d p : Swap) → i < length table → p ≡ get_or table i d → p.from ≡ a
      → moved_by (pairs_of types (drop i table)) (nominal_of types a) ≡ moved_by (pairs_of types table) (nominal_of types a)
      → nominal_of types p.to ≡ moved_by (pairs_of types table) (nominal_of types a)
  moved_here a table i d p l at is before =
      sym (ap (λ b. cond b (nominal_of types p.to) (moved_by (pairs_of types (drop (i + 1) table)) (nominal_of types a))) ((same_nominal-Decides (nominal_of types p.from) (nominal_of types a)).1 (ap (nominal_of types) is)))
      ∙ sym (ap (λ l. moved_by (pairs_of types l) (nominal_of types a)) (drop_more table i d l ∙ ap (λ q. q ∷ drop (i + 1) table) (sym at)))
      ∙ before

  pub moved_next : (a : Nominal) (table : List Swap) (i : ℕ) (d p : Swap) → HoldsPairs types table → HoldsNominal types a → i < length table → p ≡ get_or table i d → p.from ≢ a
      → moved_by (pairs_of types (drop i table)) (nominal_of types a) ≡ moved_by (pairs_of types table) (nominal_of types a)
      → moved_by (pairs_of types (drop (i + 1) table)) (nominal_of types a) ≡ moved_by (pairs_of types table) (nominal_of types a)
  moved_next a table i d p held ha l at differ before =
      let hp : HoldsNominal types p.from = subst (λ (q : Swap). HoldsNominal types q.from) (sym at) (held i d l).0 in
      sym (ap (λ b. cond b (nominal_of types p.to) (moved_by (pairs_of types (drop (i + 1) table)) (nominal_of types a))) (unlike (nominal_of types p.from) (nominal_of types a) (λ e. differ (one_nominal p.from a hp ha e))))
      ∙ sym (ap (λ l. moved_by (pairs_of types l) (nominal_of types a)) (drop_more table i d l ∙ ap (λ q. q ∷ drop (i + 1) table) (sym at)))
      ∙ before
    where
      unlike : (x y : tree.Nominal) → x ≢ y → same_nominal x y ≡ false
      unlike x y n = go (same_nominal x y) refl
        where
          go : (b : Bool) → same_nominal x y ≡ b → b ≡ false
          go true e = absurd (n ((same_nominal-Decides x y).0 e))
          go false e = refl

  -- a constant that is put into a table
  froms_are : (ps : List Swap) → froms (pairs_of types ps) ≡ map (nominal_of types) (map (λ p. p.from) ps)
  froms_are [] = refl
  froms_are (p ∷ ps) = ap (λ l. nominal_of types p.from ∷ l) (froms_are ps)

  raw_from : (a : Nominal) (ps : List Swap) → HoldsNominal types a → HoldsPairs types ps → Contains (froms (pairs_of types ps)) (nominal_of types a) → Contains (map (λ p. p.from) ps) a
  raw_from a ps ha held c =
      let pair = Contains-from_map (λ (p : tree.Nominal × tree.Nominal). p.0) (pairs_of types ps) (nominal_of types a) c in
      let swap = Contains-from_map (pair_of types) ps pair.0 pair.1 in
      let hp : HoldsNominal types swap.0.from = (All-contains (λ (q : Swap). HoldsNominal types q.from × HoldsNominal types q.to) ps swap.0 held swap.1).0 in
      subst (Contains (map (λ (p : Swap). p.from) ps)) (one_nominal swap.0.from a hp ha (ap (λ (q : tree.Nominal × tree.Nominal). q.0) swap.2 ∙ pair.2)) (Contains-map (λ (p : Swap). p.from) ps swap.0 swap.1)

  pub included_old : (a : Nominal) (ps : List Swap) → Permutes types ps → Contains (map (λ p. p.from) ps) a → Includes types ps ps a
  included_old a ps permutes c = record {
    permutes = permutes;
    there = subst (λ l. Contains l (nominal_of types a)) (sym (froms_are ps)) (Contains-map (nominal_of types) (map (λ (p : Swap). p.from) ps) a c);
    more = λ b d. d;
    same = λ b. refl;
  }

  pub included_new : (a : Nominal) (ps new : List Swap) → HoldsNominal types a → Permutes types ps → (Contains (map (λ p. p.from) ps) a → ⊥) → new ≡ ps ++ record { from = a; to = a } ∷ [] → Includes types ps new a
  included_new a ps new ha permutes absent is =
      let n = nominal_of types a in
      let out : Contains (froms (pairs_of types ps)) n → ⊥ = λ c. absent (raw_from a ps ha permutes.0 c) in
      let pairs : pairs_of types new ≡ pairs_of types ps ++ (n, n) ∷ [] = ap (pairs_of types) is ∙ map-append (pair_of types) ps (record { from = a; to = a } ∷ []) in
      record {
        permutes = (
          subst (HoldsPairs types) (sym is) (All-push (λ (q : Swap). HoldsNominal types q.from × HoldsNominal types q.to) ps (record { from = a; to = a }) permutes.0 (ha, ha)),
          subst IsPermutationTable (sym pairs) (table_with (pairs_of types ps) permutes.1 n out),
        );
        there = subst (λ l. Contains (froms l) n) (sym pairs) (there_with (pairs_of types ps) permutes.1 n out);
        more = λ b c. subst (λ l. Contains (froms l) b) (sym pairs) (more_with (pairs_of types ps) permutes.1 n out b c);
        same = λ b. ap (λ l. moved_by l b) pairs ∙ same_with (pairs_of types ps) permutes.1 n out b;
      }

  -- the step that sends one more pair
  image_in : (ps : List (tree.Nominal × tree.Nominal)) → IsPermutationTable ps → (n : tree.Nominal) → Contains (froms ps) n → Contains (tos ps) (moved_by ps n)
  image_in ps t n c =
      let r = Contains-from_map (λ (p : tree.Nominal × tree.Nominal). p.0) ps n c in
      subst (Contains (tos ps)) (sym (moved_by-present ps t.from_distinct r.0 r.1) ∙ ap (moved_by ps) r.2) (Contains-map (λ (p : tree.Nominal × tree.Nominal). p.1) ps r.0 r.1)

  pub settled : (pair : Swap) (now : Nominal) (t0 t1 t2 new : List Swap) → pair.from.ty ≡ pair.to.ty
      → Includes types t0 t1 pair.from → Includes types t1 t2 pair.to
      → nominal_of types now ≡ moved_by (pairs_of types t2) (nominal_of types pair.from)
      → HoldsPairs types new × (pairs_of types new ≡ map (retargeted (nominal_of types now) (nominal_of types pair.to)) (pairs_of types t2))
      → Settles types t0 new pair
  settled pair now t0 t1 t2 new same first_in second_in now_is made =
      let n = nominal_of types pair.from in
      let m = nominal_of types pair.to in
      let x = nominal_of types now in
      let ps = pairs_of types t2 in
      let t : IsPermutationTable ps = second_in.permutes.1 in
      let n_in : Contains (froms ps) n = second_in.more n first_in.there in
      let x_in : Contains (tos ps) x = subst (Contains (tos ps)) (sym now_is) (image_in ps t n n_in) in
      let m_in : Contains (tos ps) m = (t.same_constants m).0 second_in.there in
      let one = one_to_one ps t in
      let x_type : x.type ≡ m.type = ap (λ (a : tree.Nominal). a.type) now_is ∙ one.keeps n ∙ ap (type_of types) same in
      record {
        permutes = (made.0, subst IsPermutationTable (sym made.1) (retargeted_table x m ps t x_in m_in x_type));
        sends = ap (λ l. moved_by l n) made.1 ∙ moved-retargeted x m ps t n n_in ∙ first x m (moved_by ps n) (sym now_is);
        keeps = λ b differ elsewhere.
            let before : moved_by ps b ≡ moved_by (pairs_of types t0) b = second_in.same b ∙ first_in.same b in
            ap (λ l. moved_by l b) made.1
            ∙ moved-elsewhere x m ps t b
            (λ e. differ (sym (one.back b) ∙ ap (moved_by (swapped ps)) (e ∙ now_is) ∙ one.back n))
            (λ e. elsewhere (sym before ∙ e))
            ∙ before;
      }

  -- one pair more is sent
  pub one_more_sent : (decided t0 new : List Swap) (i : ℕ) (d p : Swap) → IsOneToOne decided → HoldsPairs types decided → i < length decided → p ≡ get_or decided i d
      → Sends types (moved_by (pairs_of types t0)) (take i decided) → Settles types t0 new p
      → Sends types (moved_by (pairs_of types new)) (take (i + 1) decided)
  one_more_sent decided t0 new i d p one held l at before settles =
      let hp : HoldsNominal types p.from × HoldsNominal types p.to = subst (λ (q : Swap). HoldsNominal types q.from × HoldsNominal types q.to) (sym at) (held i d l) in
      let others_from : All (λ q. q.from ≢ (get_or decided i d).from) (take i decided) = pairs_before (λ (q r : Swap). q.from ≢ r.from) decided i d one.from_distinct l in
      let others_to : All (λ q. q.to ≢ (get_or decided i d).to) (take i decided) = pairs_before (λ (q r : Swap). q.to ≢ r.to) decided i d one.to_distinct l in
      let held_before : HoldsPairs types (take i decided) = All-take (λ (q : Swap). HoldsNominal types q.from × HoldsNominal types q.to) i decided held in
      let kept : Sends types (moved_by (pairs_of types new)) (take i decided) = λ k e h.
      let q = get_or (take i decided) k e in
      settles.keeps (nominal_of types q.from)
      (λ same. others_from k e h (one_nominal q.from p.from (held_before k e h).0 hp.0 same ∙ ap (λ (r : Swap). r.from) at))
      (λ same. others_to k e h (one_nominal q.to p.to (held_before k e h).1 hp.1 (sym (before k e h) ∙ same) ∙ ap (λ (r : Swap). r.to) at))
      ∙ before k e h in
      subst (Sends types (moved_by (pairs_of types new))) (ap (λ q. take i decided ++ q ∷ []) at ∙ sym (take_more decided i d l))
      (All-push (λ (q : Swap). moved_by (pairs_of types new) (nominal_of types q.from) ≡ nominal_of types q.to) (take i decided) p kept settles.sends)
    where
      pairs_before : (R : Swap → Swap → Type 0) (xs : List Swap) (i : ℕ) (d : Swap) → AllPairs R xs → i < length xs → All (λ q. R q (get_or xs i d)) (take i xs)
      pairs_before R [] i d pairs l = absurd (omega arith)
      pairs_before R (x ∷ xs) zero d pairs l = All-nil (λ q. R q x)
      pairs_before R (x ∷ xs) (suc i) d pairs l =
          let parts = AllPairs-parts R x xs pairs in
          All-cons (λ q. R q (get_or xs i d)) x (take i xs) (parts.0 i d (omega arith)) (pairs_before R xs i d parts.1 (omega arith))
