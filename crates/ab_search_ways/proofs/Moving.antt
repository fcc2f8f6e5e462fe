-- Permutations that do what a map of some constants does.
use Rattle.std.proofs.Common.{◌≡◌, ◌≢◌, ◌⊎◌, inl, inr, ℕ, zero, suc, ◌+◌, ◌<◌, ◌≤◌, List, [], ◌∷◌, ◌++◌, map, not, take, drop, length, get_or, arith, refl, sym, ◌∙◌, ap, subst}
use Rattle.std.specs.Prelude.{All, AllPairs, Contains}
use Rattle.std.proofs.lemmas.List.{drop_more, get_or-map, length-map, map-append, map_more}
use Rattle.std.proofs.lemmas.List.Elements.{All-nil, All-cons, All-head, All-tail, All-contains, All-append, Contains-append_left, Contains-append_right}
use Rattle.std.proofs.lemmas.List.Kept.{AllPairs-cons}
use Rattle.ab_term.specs.Terms as tree
use Rattle.ab_term.specs.Terms.{Read}
use Rattle.ab_term.specs.Names.{same_nominal, moved_by, permute, IsPermutationTable}
use Rattle.ab_term.proofs.Lists.{contains_or_not, add_new, distinct, Contains-undistinct, AllPairs-parts, All-from_contains}
use Rattle.ab_term.proofs.Comparisons.{same_nominal-Decides}
use Rattle.ab_term.proofs.Permutations.{table_of, table_of_permutes, moved_by-table_of}
use Rattle.ab_term.proofs.Permuting.{exchange, moved, moved_back, OfOneType, moved_one_to_one, moved_stays, moved_each, rename_agrees}
use Rattle.ab_norm.specs.ab_types.specs.Entries.{Table}
use Rattle.ab_norm.specs.declared.nominal.Nominal.{Nominal}
use Rattle.ab_norm.specs.declared.nominal.Swap.{Swap}
use Rattle.ab_norm.specs.Nominals.{nominal_of, pairs_of, HoldsNominal, HoldsPairs}
use Rattle.ab_unifiers.specs.Choices.{outside, is_in}
use Rattle.ab_unifiers.proofs.Choosing.{kept_pairs, in_or_outside, outside_contains}
use Rattle.ab_instances.specs.ListReadings.{names_read}
use Rattle.ab_search_trees.specs.Maps.{mapping}
use Rattle.ab_search_trees.specs.Guesses.{HoldsOf}
use Rattle.ab_search_trees.proofs.Mapped.{mapped_each}

-- ONE MORE NAME IS SENT TO ITS TARGET

map_map : {X Y Z : Type 0} (f : Y → Z) (g : X → Y) (xs : List X) → map f (map g xs) ≡ map (λ x. f (g x)) xs
map_map f g [] = refl
map_map f g (x ∷ xs) = ap (λ l. f (g x) ∷ l) (map_map f g xs)

front_at : {X : Type 0} (xs ys : List X) (i : ℕ) (d : X) → i < length xs → get_or (xs ++ ys) i d ≡ get_or xs i d
front_at [] ys i d l = absurd (omega (arith, l))
front_at (x ∷ xs) ys zero d l = refl
front_at (x ∷ xs) ys (suc i) d l = front_at xs ys i d (omega (arith, l))

longer : {X : Type 0} (xs ys : List X) (i : ℕ) → i < length xs → i < length (xs ++ ys)
longer [] ys i l = absurd (omega (arith, l))
longer (x ∷ xs) ys zero l = omega arith
longer (x ∷ xs) ys (suc i) l = let r = longer xs ys i (omega (arith, l)) in omega (arith, r)

pub none_moved : (cs xs : List tree.Nominal) → map (moved [] cs) xs ≡ xs
none_moved cs [] = refl
none_moved cs (x ∷ xs) = ap (λ l. x ∷ l) (none_moved cs xs)

pub same_length : (types : Table) (f : tree.Nominal → tree.Nominal) (xs ys : List Nominal) → names_read types ys ≡ map f (names_read types xs) → length ys ≡ length xs
same_length types f xs ys e = sym (length-map ys (nominal_of types)) ∙ ap length e ∙ length-map (names_read types xs) f ∙ length-map xs (nominal_of types)

pub nothing_left : {X : Type 0} (xs : List X) (n : ℕ) → length xs ≤ n → drop n xs ≡ []
nothing_left [] zero l = refl
nothing_left [] (suc n) l = refl
nothing_left (x ∷ xs) zero l = absurd (omega (arith, l))
nothing_left (x ∷ xs) (suc n) l = nothing_left xs n (omega (arith, l))

pub exchanged_more : (types : Table) (f : tree.Nominal → tree.Nominal) (xs list new : List Nominal) (r : Nominal) (i : ℕ) (d : Nominal) → i < length xs
    → names_read types list ≡ map f (names_read types (take i xs)) → nominal_of types r ≡ f (nominal_of types (get_or xs i d)) → new ≡ list ++ r ∷ []
    → names_read types new ≡ map f (names_read types (take (i + 1) xs))
exchanged_more types f xs list new r i d l before here push =
    ap (names_read types) push
    ∙ map-append (nominal_of types) list (r ∷ [])
    ∙ ap (λ ys. ys ++ nominal_of types r ∷ []) before
    ∙ ap (λ x. map f (names_read types (take i xs)) ++ x ∷ []) here
    ∙ sym (ap (map f) (map_more (nominal_of types) xs i d l) ∙ map-append f (names_read types (take i xs)) (nominal_of types (get_or xs i d) ∷ []))

pub moved_more : (types : Table) (names targets all now new rest : List Nominal) (place : ℕ) (d e : Nominal) → place < length names → length targets ≡ length names → all ≡ names ++ rest
    → names_read types now ≡ map (moved (names_read types (drop (place + 1) names)) (names_read types (drop (place + 1) targets))) (names_read types all)
    → names_read types new ≡ map (exchange (nominal_of types (get_or now place d)) (nominal_of types (get_or targets place e))) (names_read types now)
    → names_read types new ≡ map (moved (names_read types (drop place names)) (names_read types (drop place targets))) (names_read types all)
moved_more types names targets all now new rest place d e l same front before made =
    let ns = names_read types (drop (place + 1) names) in
    let cs = names_read types (drop (place + 1) targets) in
    let n = nominal_of types (get_or names place d) in
    let c = nominal_of types (get_or targets place e) in
    let A = names_read types all in
    let within_all : place < length all = subst (λ (xs : List Nominal). place < length xs) (sym front) (longer names rest place l) in
    let long = same_length types (moved ns cs) all now before in
    let short : place < length now = omega (arith, within_all, long) in
    let read : length A ≡ length all = length-map all (nominal_of types) in
    let at : nominal_of types (get_or now place d) ≡ moved ns cs n =
    sym (get_or-map (nominal_of types) now place d (nominal_of types d) short)
    ∙ ap (λ (xs : List tree.Nominal). get_or xs place (nominal_of types d)) before
    ∙ get_or-map (moved ns cs) A place (nominal_of types d) (nominal_of types d) (omega (arith, within_all, read))
    ∙ ap (moved ns cs) (get_or-map (nominal_of types) all place d (nominal_of types d) within_all ∙ ap (nominal_of types) (ap (λ (xs : List Nominal). get_or xs place d) front ∙ front_at names rest place d l)) in
    made
    ∙ ap (λ x. map (exchange x c) (names_read types now)) at
    ∙ ap (map (exchange (moved ns cs n) c)) before
    ∙ map_map (exchange (moved ns cs n) c) (moved ns cs) A
    ∙ ap (λ xs. map (moved (names_read types xs) (c ∷ cs)) A) (sym (drop_more names place d l))
    ∙ ap (λ xs. map (moved (names_read types (drop place names)) (names_read types xs)) A) (sym (drop_more targets place e (omega (arith, l, same))))

-- THE PAIRS

pub pairs_are : (types : Table) (f : tree.Nominal → tree.Nominal) (ps : List Swap) → names_read types (map (λ p. p.to) ps) ≡ map f (names_read types (map (λ p. p.from) ps)) → pairs_of types ps ≡ map (λ a. (a, f a)) (names_read types (map (λ p. p.from) ps))
pairs_are types f [] e = refl
pairs_are types f (p ∷ ps) e =
    let first : nominal_of types p.to ≡ f (nominal_of types p.from) = ap (first_or (nominal_of types p.to)) e in
    let rest = pairs_are types f ps (ap rest_of e) in
    λ i. (nominal_of types p.from, first i) ∷ rest i
  where
    first_or : tree.Nominal → List tree.Nominal → tree.Nominal
    first_or d [] = d
    first_or d (z ∷ zs) = z

    rest_of : List tree.Nominal → List tree.Nominal
    rest_of [] = []
    rest_of (z ∷ zs) = zs

pub pairs_held : (types : Table) (ps : List Swap) → All (HoldsNominal types) (map (λ p. p.from) ps) → All (HoldsNominal types) (map (λ p. p.to) ps) → HoldsPairs types ps
pairs_held types [] h g = All-nil (λ (p : Swap). HoldsNominal types p.from × HoldsNominal types p.to)
pairs_held types (p ∷ ps) h g =
    All-cons (λ (q : Swap). HoldsNominal types q.from × HoldsNominal types q.to) p ps
    (All-head (HoldsNominal types) p.from (map (λ (q : Swap). q.from) ps) h, All-head (HoldsNominal types) p.to (map (λ (q : Swap). q.to) ps) g)
    (pairs_held types ps (All-tail (HoldsNominal types) p.from (map (λ (q : Swap). q.from) ps) h) (All-tail (HoldsNominal types) p.to (map (λ (q : Swap). q.to) ps) g))

-- all of them, and what they become
module _ (types : Table) (names targets others mid all ext : List Nominal) (extended : ext ≡ all ++ mid) (front : all ≡ names) (behind : mid ≡ others) where
  pub ext_is : ext ≡ names ++ others
  ext_is = extended ∙ ap (λ l. l ++ mid) front ∙ ap (λ l. names ++ l) behind

  pub ext_held : All (HoldsNominal types) names → All (HoldsNominal types) others → All (HoldsNominal types) ext
  ext_held h g = subst (All (HoldsNominal types)) (sym ext_is) (All-append (HoldsNominal types) names others h g)

  pub made_of : (now at as_ became : List Nominal) (ps : List Swap)
      → names_read types others ≡ outside (names_read types targets) (names_read types names)
      → at ≡ ext → names_read types now ≡ map (moved (names_read types names) (names_read types targets)) (names_read types at)
      → as_ ≡ ext → became ≡ now → map (λ p. p.from) ps ≡ as_ → map (λ p. p.to) ps ≡ became
      → pairs_of types ps ≡ map (λ a. (a, moved (names_read types names) (names_read types targets) a)) (names_read types names ++ outside (names_read types targets) (names_read types names))
  made_of now at as_ became ps rest first list second third from to =
      pairs_are types (moved (names_read types names) (names_read types targets)) ps
      (ap (names_read types) (to ∙ third) ∙ list ∙ ap (λ l. map (moved (names_read types names) (names_read types targets)) (names_read types l)) (first ∙ sym (from ∙ second)))
      ∙ ap (map (λ a. (a, moved (names_read types names) (names_read types targets) a)))
      (ap (names_read types) (from ∙ second ∙ ext_is) ∙ map-append (nominal_of types) names others ∙ ap (λ l. names_read types names ++ l) rest)

-- THE TABLE

each_type : (bs ns : List tree.Nominal) → map (λ a. a.type) ns ≡ map (λ b. b.type) bs → OfOneType bs ns
each_type [] [] e = tt
each_type [] (n ∷ ns) e = absurd (cc)
each_type (b ∷ bs) [] e = absurd (cc)
each_type (b ∷ bs) (n ∷ ns) e = let first : n.type ≡ b.type = cc in let rest : map (λ a. a.type) ns ≡ map (λ b. b.type) bs = cc in (sym first, each_type bs ns rest)

distinct_is : (xs : List tree.Nominal) → AllPairs (λ a b. a ≢ b) xs → distinct same_nominal same_nominal-Decides xs ≡ xs
distinct_is [] d = refl
distinct_is (x ∷ xs) d =
    let parts = AllPairs-parts (λ a b. a ≢ b) x xs d in
    go (λ c. All-contains (λ b. x ≢ b) xs x parts.0 (Contains-undistinct same_nominal same_nominal-Decides xs x c) refl) (contains_or_not same_nominal same_nominal-Decides (distinct same_nominal same_nominal-Decides xs) x)
    ∙ ap (λ l. x ∷ l) (distinct_is xs parts.1)
  where
    go : (Contains (distinct same_nominal same_nominal-Decides xs) x → ⊥) → (c : Contains (distinct same_nominal same_nominal-Decides xs) x ⊎ (Contains (distinct same_nominal same_nominal-Decides xs) x → ⊥))
        → add_new same_nominal same_nominal-Decides x (distinct same_nominal same_nominal-Decides xs) c ≡ x ∷ distinct same_nominal same_nominal-Decides xs
    go n (inl c) = absurd (n c)
    go n (inr m) = refl

apart_pairs : (xs ys : List tree.Nominal) → AllPairs (λ a b. a ≢ b) xs → AllPairs (λ a b. a ≢ b) ys → ((a : tree.Nominal) → Contains ys a → ¬ Contains xs a) → AllPairs (λ a b. a ≢ b) (xs ++ ys)
apart_pairs [] ys d e n = e
apart_pairs (x ∷ xs) ys d e n =
    let parts = AllPairs-parts (λ a b. a ≢ b) x xs d in
    AllPairs-cons (λ a b. a ≢ b) x (xs ++ ys)
    (All-append (λ b. x ≢ b) xs ys parts.0 (All-from_contains (λ b. x ≢ b) ys (λ a m q. n a m (0, omega arith, q))))
    (apart_pairs xs ys parts.1 e (λ a m k. n a m (Contains-append_right (x ∷ []) xs a k)))

module _ (ns cs : List tree.Nominal) (types : map (λ a. a.type) cs ≡ map (λ b. b.type) ns) (once : AllPairs (λ a b. a ≢ b) ns) (different : AllPairs (λ a b. a ≢ b) cs) where
  abbrev all : List tree.Nominal
  all = ns ++ outside cs ns

  one_type : OfOneType ns cs
  one_type = each_type ns cs types

  covers : (a : tree.Nominal) → (Contains all a → ⊥) → moved ns cs a ≡ a
  covers a n = moved_stays ns cs a (λ m. n (Contains-append_left ns (outside cs ns) a m))
      (λ m. elim (in_or_outside cs ns a m) [ inl k ↦ n (Contains-append_left ns (outside cs ns) a k) | inr k ↦ n (Contains-append_right ns (outside cs ns) a k) ])

  abbrev table : List (tree.Nominal × tree.Nominal)
  table = table_of (moved ns cs) (moved_back ns cs) (moved_one_to_one ns cs one_type) all covers

  is_table : table ≡ map (λ a. (a, moved ns cs a)) all
  is_table = ap (map (λ a. (a, moved ns cs a)))
      (distinct_is all (apart_pairs ns (outside cs ns) once (kept_pairs (λ a. not (is_in ns a)) (λ a b. a ≢ b) cs different) (λ a m. (outside_contains cs ns a m).1)))

  pub permutes_so : (ps : List (tree.Nominal × tree.Nominal)) → ps ≡ map (λ a. (a, moved ns cs a)) all → IsPermutationTable ps
  permutes_so ps e = subst IsPermutationTable (is_table ∙ sym e) (table_of_permutes (moved ns cs) (moved_back ns cs) (moved_one_to_one ns cs one_type) all covers)

  pub does_so : (ps : List (tree.Nominal × tree.Nominal)) → ps ≡ map (λ a. (a, moved ns cs a)) all → (t : Read) → HoldsOf ns t → permute ps t ≡ permute (mapping ns cs) t
  does_so ps e t h = rename_agrees (moved_by ps) (moved_by (mapping ns cs)) t (λ a m.
      ap (λ l. moved_by l a) (e ∙ sym is_table)
      ∙ moved_by-table_of (moved ns cs) (moved_back ns cs) (moved_one_to_one ns cs one_type) all covers a
      ∙ sym (mapped_each (moved ns cs) ns cs (moved_each ns cs one_type once different) a (h a m)))
