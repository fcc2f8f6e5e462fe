-- Places: those of what passes, in order; and whether a name that is used in a part has a place there.
use Rattle.std.proofs.Common.{◌≡◌, ℕ, zero, suc, ◌+◌, ◌-◌, ◌≤◌, ◌<◌, List, [], ◌∷◌, ◌++◌, length, get_or, take, drop, Bool, true, false, ◌||◌, ◌&&◌, inl, inr, Option, refl, sym, ◌∙◌, ap, add-one, arith}
use Rattle.std.specs.Prelude.{slice_range, nat_eq, nat_le, nat_lt, if◌then◌else◌}
use Rattle.std.specs.List.{filter_map}
use Rattle.std.specs.List.Sorted.{IsPartitionPoint}
use Rattle.std.proofs.Math.Seq.{take-suc}
use Rattle.std.proofs.lemmas.Bool.{eqb-true, eq-eqb, leb-true, le-leb, ltb-true, ltb-false, lt-ltb, le-ltb, cases_lt}
use Rattle.std.proofs.lemmas.List.{length-take-le}
use Rattle.std.proofs.lemmas.List.Folds.{list_any_at, list_any_none}
use Rattle.ab_print.specs.PrintedNames.{is_in}
use Rattle.ab_print.specs.Places.{places_of, has, any_within, IsInOrder}
use Rattle.ab_print.specs.BinderNames.{is_this}
use Rattle.ab_print.proofs.Scoped.{drop_here, by_option}

-- two tests that pass alike
same_test : (a b : Bool) → (a ≡ true → b ≡ true) → (b ≡ true → a ≡ true) → a ≡ b
same_test true b f g = sym (f refl)
same_test false true f g = g refl
same_test false false f g = refl

both_true : (a b : Bool) → (a && b) ≡ true → (a ≡ true) × (b ≡ true)
both_true true true h = (refl, refl)
both_true true false h = absurd (cc)
both_true false b h = absurd (cc)

true_both : (a b : Bool) → a ≡ true → b ≡ true → (a && b) ≡ true
true_both true true h k = refl
true_both true false h k = k
true_both false b h k = h

pub not_both : (b : Bool) → b ≡ true → b ≡ false → ⊥
not_both b t f = cc

pub never : (b : Bool) → (b ≡ true → ⊥) → b ≡ false
never true h = absurd (h refl)
never false h = refl

not_equal : (a b : ℕ) → (a ≡ b → ⊥) → nat_eq a b ≡ false
not_equal a b h = never (nat_eq a b) (λ e. h (eqb-true a b e))

swapped : (a b c d : Bool) → ((a || b) || (c || d)) ≡ ((a || c) || (b || d))
swapped true b c d = refl
swapped false true true d = refl
swapped false true false d = refl
swapped false false c d = refl

-- one place before others, or none
if_append : (b : Bool) (n : ℕ) (ps qs rs : List ℕ) → qs ≡ ps ++ rs → (if b then (n ∷ qs) else qs) ≡ (if b then (n ∷ ps) else ps) ++ rs
if_append true n ps qs rs e = ap (λ (w : List ℕ). n ∷ w) e
if_append false n ps qs rs e = e

if_here : (b : Bool) (n : ℕ) (ps : List ℕ) → has ps n ≡ false → has (if b then (n ∷ ps) else ps) n ≡ b
if_here true n ps h = ap (λ (b : Bool). b || has ps n) (eq-eqb n n refl)
if_here false n ps h = h

if_later : (b r : Bool) (n k : ℕ) (ps : List ℕ) → nat_eq k n ≡ false → has ps k ≡ r → has (if b then (n ∷ ps) else ps) k ≡ r
if_later true r n k ps other h = ap (λ (b : Bool). b || has ps k) other ∙ h
if_later false r n k ps other h = h

-- places from a number on
abbrev AreFrom : ℕ → List ℕ → Type 0
AreFrom n ps = (j d : ℕ) → j < length ps → n ≤ get_or ps j d

from_first : (n : ℕ) (ps : List ℕ) → AreFrom (n + 1) ps → AreFrom n (n ∷ ps)
from_first n ps up zero d h = omega arith
from_first n ps up (suc j) d h = let above : n + 1 ≤ get_or ps j d = up j d (omega arith) in omega arith

if_from : (b : Bool) (n : ℕ) (ps : List ℕ) → AreFrom (n + 1) ps → AreFrom n (if b then (n ∷ ps) else ps)
if_from true n ps up = from_first n ps up
if_from false n ps up = λ j d h. let above : n + 1 ≤ get_or ps j d = up j d h in omega arith

first_in_order : (n : ℕ) (ps : List ℕ) → AreFrom (n + 1) ps → IsInOrder ps → (i j d : ℕ) → i ≤ j → j < length (n ∷ ps) → get_or (n ∷ ps) i d ≤ get_or (n ∷ ps) j d
first_in_order n ps up h zero zero d a b = omega arith
first_in_order n ps up h zero (suc j) d a b = let above : n + 1 ≤ get_or ps j d = up j d (omega arith) in omega arith
first_in_order n ps up h (suc i) zero d a b = absurd (omega arith)
first_in_order n ps up h (suc i) (suc j) d a b = h i j d (omega arith) (omega arith)

if_in_order : (b : Bool) (n : ℕ) (ps : List ℕ) → AreFrom (n + 1) ps → IsInOrder ps → IsInOrder (if b then (n ∷ ps) else ps)
if_in_order true n ps up h = first_in_order n ps up h
if_in_order false n ps up h = h

module _ {X : Type 0} (test : X → Bool) where
  pub places_append : (n : ℕ) (xs ys : List X) → places_of test n (xs ++ ys) ≡ places_of test n xs ++ places_of test (n + length xs) ys
  places_append n [] ys = let same : n + 0 ≡ n = omega arith in ap (λ (k : ℕ). places_of test k ys) (sym same)
  places_append n (x ∷ xs) ys =
      let same : n + 1 + length xs ≡ n + suc (length xs) = omega arith in
      if_append (test x) n (places_of test (n + 1) xs) (places_of test (n + 1) (xs ++ ys)) (places_of test (n + suc (length xs)) ys)
      (places_append (n + 1) xs ys ∙ ap (λ (k : ℕ). places_of test (n + 1) xs ++ places_of test k ys) same)

  none_below : (n : ℕ) (xs : List X) (k : ℕ) → k < n → has (places_of test n xs) k ≡ false
  none_below n [] k h = refl
  none_below n (x ∷ xs) k h = if_later (test x) false n k (places_of test (n + 1) xs) (not_equal k n (λ e. absurd (omega arith))) (none_below (n + 1) xs k (omega arith))

  -- a number is among them where what stands there passes
  pub has_place : (n : ℕ) (xs : List X) (k : ℕ) (d : X) → k < length xs → has (places_of test n xs) (n + k) ≡ test (get_or xs k d)
  has_place n [] k d h = absurd (omega arith)
  has_place n (x ∷ xs) zero d h =
      let same : n + 0 ≡ n = omega arith in
      ap (has (places_of test n (x ∷ xs))) same ∙ if_here (test x) n (places_of test (n + 1) xs) (none_below (n + 1) xs n (omega arith))
  has_place n (x ∷ xs) (suc k) d h =
      let same : n + suc k ≡ n + 1 + k = omega arith in
      if_later (test x) (test (get_or xs k d)) n (n + suc k) (places_of test (n + 1) xs) (not_equal (n + suc k) n (λ e. absurd (omega arith)))
      (ap (has (places_of test (n + 1) xs)) same ∙ has_place (n + 1) xs k d (omega arith))

  not_below : (n : ℕ) (xs : List X) → AreFrom n (places_of test n xs)
  not_below n [] = λ j d h. absurd (omega arith)
  not_below n (x ∷ xs) = if_from (test x) n (places_of test (n + 1) xs) (not_below (n + 1) xs)

  -- they are in order
  pub places_in_order : (n : ℕ) (xs : List X) → IsInOrder (places_of test n xs)
  places_in_order n [] = λ i j d a b. absurd (omega arith)
  places_in_order n (x ∷ xs) = if_in_order (test x) n (places_of test (n + 1) xs) (not_below (n + 1) xs) (places_in_order (n + 1) xs)

-- one place of a part, and the part behind it

here_or_later : (a b p : ℕ) → a < b → (nat_le a p && nat_lt p b) ≡ (nat_eq a p || (nat_le (a + 1) p && nat_lt p b))
here_or_later a b p h = go (nat_eq a p) refl
  where
    go : (e : Bool) → nat_eq a p ≡ e → (nat_le a p && nat_lt p b) ≡ (e || (nat_le (a + 1) p && nat_lt p b))
    go true e = let same : a ≡ p = eqb-true a p e in true_both (nat_le a p) (nat_lt p b) (le-leb a p (omega arith)) (lt-ltb p b (omega arith))
    go false e = ap (λ (w : Bool). w && nat_lt p b) (same_test (nat_le a p) (nat_le (a + 1) p)
        (λ t. let low : a ≤ p = leb-true a p t in le-leb (a + 1) p (elim (cases_lt a p) [ inl up ↦ omega arith | inr same ↦ absurd (not_both (nat_eq a p) (eq-eqb a p (omega arith)) e) ]))
        (λ t. let low : a + 1 ≤ p = leb-true (a + 1) p t in le-leb a p (omega arith)))

within_step : (ps : List ℕ) (a b : ℕ) → a < b → any_within ps a b ≡ (has ps a || any_within ps (a + 1) b)
within_step [] a b h = refl
within_step (p ∷ ps) a b h =
    ap (λ (w : Bool). w || any_within ps a b) (here_or_later a b p h)
    ∙ ap (λ (w : Bool). (nat_eq a p || (nat_le (a + 1) p && nat_lt p b)) || w) (within_step ps a b h)
    ∙ swapped (nat_eq a p) (nat_le (a + 1) p && nat_lt p b) (has ps a) (any_within ps (a + 1) b)

within_none : (ps : List ℕ) (a : ℕ) → any_within ps a a ≡ false
within_none [] a = refl
within_none (p ∷ ps) a =
    ap (λ (w : Bool). w || any_within ps a a)
    (never (nat_le a p && nat_lt p a) (λ t. let both = both_true (nat_le a p) (nat_lt p a) t in let low : a ≤ p = leb-true a p both.0 in let up : p < a = ltb-true p a both.1 in omega arith))
    ∙ within_none ps a

pub none_within : (ps : List ℕ) (a b k : ℕ) → any_within ps a b ≡ false → a ≤ k → k < b → has ps k ≡ false
none_within [] a b k h low up = refl
none_within (p ∷ ps) a b k h low up =
    let both = both_false (nat_le a p && nat_lt p b) (any_within ps a b) h in
    ap (λ (w : Bool). w || has ps k) (not_equal k p (λ e. not_both (nat_le a p && nat_lt p b) (true_both (nat_le a p) (nat_lt p b) (le-leb a p (omega arith)) (lt-ltb p b (omega arith))) both.0))
    ∙ none_within ps a b k both.1 low up
  where
    both_false : (a b : Bool) → (a || b) ≡ false → (a ≡ false) × (b ≡ false)
    both_false true b h = absurd (cc)
    both_false false b h = (refl, h)

-- a name is used in a part exactly where it has a place there
module _ {X : Type 0} (f : X → Option (List ℕ)) (xs : List X) (x : List ℕ) (ps : List ℕ) where
  slice_here : (a b : ℕ) (d : X) → a < b → b ≤ length xs → slice_range xs a b ≡ get_or xs a d ∷ slice_range xs (a + 1) b
  slice_here a b d h up =
      let more : b - a ≡ suc (b - (a + 1)) = omega arith in
      ap (take (b - a)) (drop_here xs a d (omega arith)) ∙ ap (λ (n : ℕ). take n (get_or xs a d ∷ drop (a + 1) xs)) more

  empty_part : (a b : ℕ) → a ≡ b → is_in (filter_map f (slice_range xs a b)) x ≡ any_within ps a b
  empty_part a b e =
      let none : b - a ≡ 0 = omega arith in
      ap (λ (n : ℕ). is_in (filter_map f (take n (drop a xs))) x) none ∙ sym (ap (any_within ps a) (sym e) ∙ within_none ps a)

  by_count : X → (m a b : ℕ) → a + m ≡ b → b ≤ length xs → ((k : ℕ) (d : X) → a ≤ k → k < b → has ps k ≡ is_this x (f (get_or xs k d)))
      → is_in (filter_map f (slice_range xs a b)) x ≡ any_within ps a b
  by_count d zero a b e up told = empty_part a b (omega arith)
  by_count d (suc m) a b e up told =
      ap (λ w. is_in (filter_map f w) x) (slice_here a b d (omega arith) up)
      ∙ by_option (f (get_or xs a d)) (filter_map f (slice_range xs (a + 1) b)) x
      ∙ ap (λ (w : Bool). w || is_in (filter_map f (slice_range xs (a + 1) b)) x) (sym (told a d (omega arith) (omega arith)))
      ∙ ap (λ (w : Bool). has ps a || w) (by_count d m (a + 1) b (omega arith) up (λ k d low high. told k d (omega arith) high))
      ∙ sym (within_step ps a b (omega arith))

  by_items : (ys : List X) → xs ≡ ys → (a b : ℕ) → a ≤ b → b ≤ length xs → ((k : ℕ) (d : X) → a ≤ k → k < b → has ps k ≡ is_this x (f (get_or xs k d)))
      → is_in (filter_map f (slice_range xs a b)) x ≡ any_within ps a b
  by_items [] e a b low up told = let n : length xs ≡ 0 = ap length e in empty_part a b (omega arith)
  by_items (d ∷ ys) e a b low up told = by_count d (b - a) a b (omega arith) up told

  pub used_where_placed : (a b : ℕ) → a ≤ b → b ≤ length xs → ((k : ℕ) (d : X) → a ≤ k → k < b → has ps k ≡ is_this x (f (get_or xs k d)))
      → is_in (filter_map f (slice_range xs a b)) x ≡ any_within ps a b
  used_where_placed = by_items xs refl

-- and so how many of the places lie before two numbers tells whether one lies between
pub counted_within : (ps : List ℕ) (a b i j : ℕ) → i ≤ length ps → j ≤ length ps → IsPartitionPoint (λ y. nat_lt y a ≡ true) (λ y. nat_lt y a ≡ false) ps i
    → IsPartitionPoint (λ y. nat_lt y b ≡ true) (λ y. nat_lt y b ≡ false) ps j → nat_lt i j ≡ any_within ps a b
counted_within ps a b i j low high first last = elim (cases_lt i j) [
  | inl up ↦ (let from : a ≤ get_or ps i 0 = ltb-false (get_or ps i 0) a (first.1 i 0 (omega arith) (omega arith)) in
      lt-ltb i j up ∙ sym (list_any_at (λ p. nat_le a p && nat_lt p b) ps i 0 (omega arith) (true_both (nat_le a (get_or ps i 0)) (nat_lt (get_or ps i 0) b) (le-leb a (get_or ps i 0) from) (last.0 i 0 (omega arith) up))))
  | inr down ↦ le-ltb i j down ∙ sym (list_any_none (λ p. nat_le a p && nat_lt p b) ps (λ k d at. never (nat_le a (get_or ps k d) && nat_lt (get_or ps k d) b) (λ t.
      let both = both_true (nat_le a (get_or ps k d)) (nat_lt (get_or ps k d) b) t in
      elim (cases_lt k i) [
        | inl before ↦ (let under : get_or ps k d < a = ltb-true (get_or ps k d) a (first.0 k d (omega arith) before) in let over : a ≤ get_or ps k d = leb-true a (get_or ps k d) both.0 in omega arith)
        | inr behind ↦ not_both (nat_lt (get_or ps k d) b) both.1 (last.1 k d (omega arith) at)
      ])))
]

-- one more of what is gone through
pub places_next : {X : Type 0} (test : X → Bool) (xs : List X) (i : ℕ) (d : X) → i < length xs → places_of test 0 (take (i + 1) xs) ≡ places_of test 0 (take i xs) ++ (if test (get_or xs i d) then (i ∷ []) else [])
places_next test xs i d h =
    let long : length (take i xs) ≡ i = length-take-le i xs (omega arith) in
    let size : 0 + length (take i xs) ≡ i = omega arith in
    ap (λ (k : ℕ). places_of test 0 (take k xs)) (add-one i) ∙ ap (places_of test 0) (take-suc xs i d h) ∙ places_append test 0 (take i xs) (get_or xs i d ∷ [])
    ∙ ap (λ (n : ℕ). places_of test 0 (take i xs) ++ (if test (get_or xs i d) then (n ∷ []) else [])) size
