-- The first of a list, and the others.
use Rattle.std.proofs.Common.{◌≡◌, suc, ◌-◌, ◌<◌, ◌≤◌, List, [], ◌∷◌, take, drop, length, get_or, slice_index_or, refl, sym, ◌∙◌, ap, subst, arith, take_all}
use Rattle.std.specs.List.{All}
use Rattle.std.proofs.lemmas.List.Elements.{All-head, All-tail}

pub rest_is : {X : Type 0} (x : X) (xs : List X) → take (length (x ∷ xs) - 1) (drop 1 (x ∷ xs)) ≡ xs
rest_is x xs = ap (λ n. take n xs) (let e : suc (length xs) - 1 ≡ length xs = omega arith in e) ∙ take_all (length xs) xs (omega arith)

pub first_all : {X : Type 0} (P : X → Type 0) (xs : List X) (d : X) → 1 ≤ length xs → All P xs → P (slice_index_or xs 0 d)
first_all P [] d l h = absurd (omega (arith, l))
first_all P (x ∷ xs) d l h = All-head P x xs h

pub rest_all : {X : Type 0} (P : X → Type 0) (xs : List X) → 1 ≤ length xs → All P xs → All P (take (length xs - 1) (drop 1 xs))
rest_all P [] l h = absurd (omega (arith, l))
rest_all P (x ∷ xs) l h = subst (All P) (sym (rest_is x xs)) (All-tail P x xs h)

-- the list is its first and the others
pub both : {X : Type 0} (xs : List X) (d : X) → 1 ≤ length xs → xs ≡ slice_index_or xs 0 d ∷ take (length xs - 1) (drop 1 xs)
both [] d l = absurd (omega (arith, l))
both (x ∷ xs) d l = ap (λ ys. x ∷ ys) (sym (rest_is x xs))

pub rest_shorter : {X : Type 0} (xs : List X) → 1 ≤ length xs → length (take (length xs - 1) (drop 1 xs)) < length xs
rest_shorter [] l = absurd (omega (arith, l))
rest_shorter (x ∷ xs) l = let e : length (take (length (x ∷ xs) - 1) (drop 1 (x ∷ xs))) ≡ length xs = ap length (rest_is x xs) in omega (arith, e)

pub one_only : {X : Type 0} (xs : List X) (d : X) → length xs ≡ 1 → xs ≡ get_or xs 0 d ∷ []
one_only [] d e = absurd (omega (arith, e))
one_only (x ∷ []) d e = refl
one_only (x ∷ y ∷ xs) d e = absurd (omega (arith, e))

pub two_only : {X : Type 0} (xs : List X) (d : X) → length xs ≡ 2 → xs ≡ get_or xs 0 d ∷ get_or xs 1 d ∷ []
two_only [] d e = absurd (omega (arith, e))
two_only (x ∷ []) d e = absurd (omega (arith, e))
two_only (x ∷ y ∷ []) d e = refl
two_only (x ∷ y ∷ z ∷ xs) d e = absurd (omega (arith, e))
