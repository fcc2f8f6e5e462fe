-- Tests, and lists of constants that are gone through from the first.
use Rattle.std.proofs.Common.{◌≡◌, ◌≢◌, ℕ, suc, ◌+◌, ◌-◌, ◌<◌, ◌≤◌, List, [], ◌∷◌, filter, take, drop, length, Bool, true, false, cond, not, ◌||◌, ◌&&◌, ◌==◌, ◌↔◌, Decides, slice_index_or, get_or, Option, Some, None, Vec, Global, refl, sym, ◌∙◌, ap, subst, arith, take_all}
use Rattle.std.specs.Prelude.{All, AllPairs, slice_get, option_map}
use Rattle.std.specs.Option.{option_or}
use Rattle.std.proofs.lemmas.Bool.{false≢true, and_parts, and_from}
use Rattle.std.proofs.lemmas.List.{drop_more}
use Rattle.std.proofs.lemmas.Option.{none-some, same_Some}
use Rattle.std.proofs.lemmas.List.Elements.{All-head, All-tail}
use Rattle.std.specs.Cmp.{unsigned_Decides}
use Rattle.ab_term.specs.Terms as tree
use Rattle.ab_term.specs.Types.{same_type}
use Rattle.ab_term.specs.Names.{same_nominal}
use Rattle.ab_term.proofs.Comparisons.{same_nominal-Decides}
use Rattle.ab_norm.specs.ab_types.specs.Entries.{Table}
use Rattle.ab_norm.specs.ab_types.specs.Sound.{IsTable}
use Rattle.ab_norm.specs.declared.nominal.Nominal.{Nominal}
use Rattle.ab_norm.specs.Nominals.{nominal_of, HoldsNominal}
use Rattle.ab_norm.proofs.Gathered.{one_nominal}
use Rattle.ab_unifiers.specs.Choices.{outside, others}
use Rattle.ab_unifiers.proofs.Choosing.{kept_pairs}
use Rattle.ab_search_trees.specs.Maps.{images_in}
use Rattle.ab_instances.specs.ListReadings.{names_read}
use Rattle.ab_search_ways.specs.MapSteps.{names_of, behind, images_beginning, IsNextOf}
use Rattle.ab_search_ways.proofs.Targets.{first_beginning, none_beginning, next_images, next_of_none, nothing_begins}

pub test_same : {P Q : Type 0} (r q : Bool) → ((r ≡ true) ↔ P) → Decides q Q → (P → Q) → (Q → P) → r ≡ q
test_same true true e d f g = refl
test_same false false e d f g = refl
test_same true false e d f g = sym (d.1 (f (e.0 refl)))
test_same false true e d f g = e.1 (g (d.0 refl))

pub rest_is : {X : Type 0} (x : X) (xs : List X) → take (length (x ∷ xs) - 1) (drop 1 (x ∷ xs)) ≡ xs
rest_is x xs = ap (λ n. take n xs) (let e : suc (length xs) - 1 ≡ length xs = omega arith in e) ∙ take_all (length xs) xs (omega arith)

pub rest_all : {X : Type 0} (P : X → Type 0) (xs : List X) → 1 ≤ length xs → All P xs → All P (take (length xs - 1) (drop 1 xs))
rest_all P [] l h = absurd (omega (arith, l))
rest_all P (x ∷ xs) l h = subst (All P) (sym (rest_is x xs)) (All-tail P x xs h)

pub first_all : {X : Type 0} (P : X → Type 0) (xs : List X) (d : X) → 1 ≤ length xs → All P xs → P (slice_index_or xs 0 d)
first_all P [] d l h = absurd (omega (arith, l))
first_all P (x ∷ xs) d l h = All-head P x xs h

pub rest_shorter : {X : Type 0} (xs : List X) → 1 ≤ length xs → length (take (length xs - 1) (drop 1 xs)) < length xs
rest_shorter [] l = absurd (omega (arith, l))
rest_shorter (x ∷ xs) l = let e : length (take (length (x ∷ xs) - 1) (drop 1 (x ∷ xs))) ≡ length xs = ap length (rest_is x xs) in omega (arith, e)

pub first_and_rest : {X : Type 0} (xs : List X) (d : X) → 1 ≤ length xs → xs ≡ slice_index_or xs 0 d ∷ take (length xs - 1) (drop 1 xs)
first_and_rest [] d l = absurd (omega (arith, l))
first_and_rest (x ∷ xs) d l = ap (λ ys. x ∷ ys) (sym (rest_is x xs))

-- the test of two constants
pub alike : (x y : Nominal) → (((x.number == y.number) && (x.ty.0 == y.ty.0)) ≡ true → x ≡ y) × (x ≡ y → ((x.number == y.number) && (x.ty.0 == y.ty.0)) ≡ true)
alike x y = (
  λ e.
      let parts = and_parts (x.number == y.number) (x.ty.0 == y.ty.0) e in
      let numbers : x.number ≡ y.number = (unsigned_Decides x.number y.number).0 parts.0 in
      let types : x.ty.0 ≡ y.ty.0 = (unsigned_Decides x.ty.0 y.ty.0).0 parts.1 in
      λ i. record { number = numbers i; ty = record { 0 = types i } },
  λ q. and_from (x.number == y.number) (x.ty.0 == y.ty.0) ((unsigned_Decides x.number y.number).1 (ap (λ (z : Nominal). z.number) q)) ((unsigned_Decides x.ty.0 y.ty.0).1 (ap (λ (z : Nominal). z.ty.0) q)),
)

-- the others, as those that aren't in a list of one
pub others_are : (a : tree.Nominal) (xs : List tree.Nominal) → outside xs (a ∷ []) ≡ others a xs
others_are a xs = λ i. filter (λ b. not (or_false (same_nominal a b) i)) xs
  where
    or_false : (b : Bool) → (b || false) ≡ b
    or_false true = refl
    or_false false = refl

-- behind one constant
module _ (types : Table) (ok : IsTable types) (a : Nominal) (held : HoldsNominal types a) where
  pub behind_same : (b : Nominal) (bs : List Nominal) → b ≡ a → behind (nominal_of types a) (names_read types (b ∷ bs)) ≡ names_read types bs
  behind_same b bs e = ap (λ t. cond t (names_read types bs) (behind (nominal_of types a) (names_read types bs))) ((same_nominal-Decides (nominal_of types b) (nominal_of types a)).1 (ap (nominal_of types) e))

  pub behind_another : (b : Nominal) (bs : List Nominal) → HoldsNominal types b → b ≢ a → behind (nominal_of types a) (names_read types (b ∷ bs)) ≡ behind (nominal_of types a) (names_read types bs)
  behind_another b bs h n = go (same_nominal (nominal_of types b) (nominal_of types a)) refl
    where
      go : (t : Bool) → same_nominal (nominal_of types b) (nominal_of types a) ≡ t → cond t (names_read types bs) (behind (nominal_of types a) (names_read types bs)) ≡ behind (nominal_of types a) (names_read types bs)
      go true e = absurd (n (one_nominal types ok b a h held ((same_nominal-Decides (nominal_of types b) (nominal_of types a)).0 e)))
      go false e = refl

  -- the first of a list, and what is behind it
  pub behind_found : (L : List Nominal) (d : Nominal) → 1 ≤ length L → slice_index_or L 0 d ≡ a → behind (nominal_of types a) (names_read types L) ≡ names_read types (take (length L - 1) (drop 1 L))
  behind_found [] d l e = absurd (omega (arith, l))
  behind_found (x ∷ xs) d l e = behind_same x xs e ∙ ap (names_read types) (sym (rest_is x xs))

  pub behind_not : (L : List Nominal) (d : Nominal) → 1 ≤ length L → All (HoldsNominal types) L → slice_index_or L 0 d ≢ a → behind (nominal_of types a) (names_read types L) ≡ behind (nominal_of types a) (names_read types (take (length L - 1) (drop 1 L)))
  behind_not [] d l h n = absurd (omega (arith, l))
  behind_not (x ∷ xs) d l h n = behind_another x xs (All-head (HoldsNominal types) x xs h) n ∙ ap (λ r. behind (nominal_of types a) (names_read types r)) (sym (rest_is x xs))

-- lists that stand for the same are the same
pub same_names : (types : Table) → IsTable types → (xs ys : List Nominal) → All (HoldsNominal types) xs → All (HoldsNominal types) ys → names_read types xs ≡ names_read types ys → xs ≡ ys
same_names types ok [] [] h g e = refl
same_names types ok [] (y ∷ ys) h g e = absurd (cc)
same_names types ok (x ∷ xs) [] h g e = absurd (cc)
same_names types ok (x ∷ xs) (y ∷ ys) h g e =
    let first = one_nominal types ok x y (All-head (HoldsNominal types) x xs h) (All-head (HoldsNominal types) y ys g) (ap (first_or (nominal_of types x)) e) in
    let rest = same_names types ok xs ys (All-tail (HoldsNominal types) x xs h) (All-tail (HoldsNominal types) y ys g) (ap rest_of e) in
    λ i. first i ∷ rest i
  where
    first_or : tree.Nominal → List tree.Nominal → tree.Nominal
    first_or d [] = d
    first_or d (z ∷ zs) = z

    rest_of : List tree.Nominal → List tree.Nominal
    rest_of [] = []
    rest_of (z ∷ zs) = zs

-- what was found is these constants
pub found_is : (types : Table) → IsTable types → (list : Vec Nominal Global) (names : List Nominal) (r : Bool) → All (HoldsNominal types) list.items → All (HoldsNominal types) names
    → ((r ≡ true) ↔ (list.items ≡ names)) → (r ≡ true) ↔ (names_of types (Some list) ≡ Some (names_read types names))
found_is types ok list names r h g t = (
  λ e. ap (λ l. Some (names_read types l)) (t.0 e),
  λ e. t.1 (same_names types ok list.items names h g (same_Some (names_read types list.items) (names_read types names) e)),
)

pub none_found : (types : Table) (ns : List tree.Nominal) → (false ≡ true) ↔ (names_of types None ≡ Some ns)
none_found types ns = (λ e. absurd (false≢true e), λ e. absurd (none-some ns e))

-- the images for the rest, once one constant is taken
pub left_over : (types : Table) (a : tree.Nominal) (free : List tree.Nominal) (left now : List Nominal) → names_read types left ≡ outside free (a ∷ []) → now ≡ left → names_read types now ≡ others a free
left_over types a free left now e same = ap (names_read types) same ∙ e ∙ others_are a free

-- THE FIRST IMAGES THAT BEGIN WITH ONE OF SOME CANDIDATES, from a place on
module _ (types : Table) (b : tree.Nominal) (rest free : List tree.Nominal) (cs : List Nominal) (i : ℕ) (d : Nominal) (within : i < length cs)
    (before : slice_get (images_beginning b rest free (names_read types (drop i cs))) 0 ≡ slice_get (images_beginning b rest free (names_read types cs)) 0) where
  abbrev a : tree.Nominal
  a = nominal_of types (get_or cs i d)

  from_here : slice_get (images_beginning b rest free (a ∷ names_read types (drop (i + 1) cs))) 0 ≡ slice_get (images_beginning b rest free (names_read types cs)) 0
  from_here = ap (λ l. slice_get (images_beginning b rest free (names_read types l)) 0) (sym (drop_more cs i d within)) ∙ before

  pub first_here : same_type a.type b.type ≡ true → (o : Option (List tree.Nominal)) → o ≡ slice_get (images_in rest (others a free)) 0
      → option_or (option_map (λ ns. a ∷ ns) o) (slice_get (images_beginning b rest free (names_read types (drop (i + 1) cs))) 0) ≡ slice_get (images_beginning b rest free (names_read types cs)) 0
  first_here t o e =
      ap (λ r. option_or (option_map (λ ns. a ∷ ns) r) (slice_get (images_beginning b rest free (names_read types (drop (i + 1) cs))) 0)) e
      ∙ sym (first_beginning (λ x. images_in rest (others x free)) b.type a (names_read types (drop (i + 1) cs)) t)
      ∙ from_here

  pub none_here : same_type a.type b.type ≡ false → slice_get (images_beginning b rest free (names_read types (drop (i + 1) cs))) 0 ≡ slice_get (images_beginning b rest free (names_read types cs)) 0
  none_here t = ap (λ l. slice_get l 0) (sym (none_beginning (λ x. images_in rest (others x free)) b.type a (names_read types (drop (i + 1) cs)) t)) ∙ from_here

-- THE NEXT IMAGES
module _ (types : Table) (names now : List Nominal) (free : List tree.Nominal) where
  pub no_next : 1 ≤ length names → length now < 1 → IsNextOf (images_in (names_read types names) free) (names_read types now) None
  no_next l m = go names now l m
    where
      go : (xs ys : List Nominal) → 1 ≤ length xs → length ys < 1 → IsNextOf (images_in (names_read types xs) free) (names_read types ys) None
      go [] ys p q = absurd (omega (arith, p))
      go (x ∷ xs) [] p q = nothing_begins (nominal_of types x) (names_read types xs) free None
      go (x ∷ xs) (y ∷ ys) p q = absurd (omega (arith, q))

  pub no_names : length names < 1 → IsNextOf (images_in (names_read types names) free) (names_read types now) None
  no_names m = go names m
    where
      go : (xs : List Nominal) → length xs < 1 → IsNextOf (images_in (names_read types xs) free) (names_read types now) None
      go [] q = next_of_none free (names_read types now)
      go (x ∷ xs) q = absurd (omega (arith, q))

pub others_once : (a : tree.Nominal) (free : List tree.Nominal) → AllPairs (λ x y. x ≢ y) free → AllPairs (λ x y. x ≢ y) (others a free)
others_once a free once = kept_pairs (λ b. not (same_nominal a b)) (λ x y. x ≢ y) free once

pub next_here : (types : Table) (names now left : List Nominal) (free : List tree.Nominal) (d : Nominal) → 1 ≤ length names → 1 ≤ length now → AllPairs (λ x y. x ≢ y) free
    → names_read types left ≡ others (nominal_of types (slice_index_or now 0 d)) free
    → (o : Option (List tree.Nominal)) → IsNextOf (images_in (names_read types (take (length names - 1) (drop 1 names))) (names_read types left)) (names_read types (take (length now - 1) (drop 1 now))) o
    → IsNextOf (images_in (names_read types names) free) (names_read types now)
    (option_or (option_map (λ ms. nominal_of types (slice_index_or now 0 d) ∷ ms) o)
    (slice_get (images_beginning (nominal_of types (slice_index_or names 0 d)) (names_read types (take (length names - 1) (drop 1 names))) free (behind (nominal_of types (slice_index_or now 0 d)) free)) 0))
next_here types [] now left free d l m once e o next = absurd (omega (arith, l))
next_here types (b ∷ bs) [] left free d l m once e o next = absurd (omega (arith, m))
next_here types (b ∷ bs) (a ∷ ns) left free d l m once e o next =
    let x = nominal_of types b in
    let y = nominal_of types a in
    let was : IsNextOf (images_in (names_read types bs) (others y free)) (names_read types ns) o =
    subst (λ k. IsNextOf (images_in (names_read types k) (others y free)) (names_read types ns) o) (rest_is b bs)
    (subst (λ k. IsNextOf (images_in (names_read types (take (length (b ∷ bs) - 1) (drop 1 (b ∷ bs)))) k) (names_read types ns) o) e
    (subst (λ k. IsNextOf (images_in (names_read types (take (length (b ∷ bs) - 1) (drop 1 (b ∷ bs)))) (names_read types left)) (names_read types k) o) (rest_is a ns) next)) in
    subst (λ k. IsNextOf (images_in (x ∷ names_read types bs) free) (y ∷ names_read types ns) (option_or (option_map (λ ms. y ∷ ms) o) (slice_get (images_beginning x (names_read types k) free (behind y free)) 0))) (sym (rest_is b bs))
    (next_images x (names_read types bs) free y (names_read types ns) o once was)
