-- The first item of a list, and the rest.
use Rattle.std.specs.List.{All}
use Rattle.std.proofs.Common.{◌≡◌, suc, ◌-◌, ◌<◌, ◌≤◌, List, [], ◌∷◌, take, drop, length, slice_index_or, refl, sym, ◌∙◌, ap, subst, arith, take_all}
use Rattle.std.proofs.lemmas.List.Elements.{All-head, All-tail}

rest_is : {X : Type 0} (x : X) (xs : List X) → take (length (x ∷ xs) - 1) (drop 1 (x ∷ xs)) ≡ xs
rest_is x xs = ap (λ n. take n xs) (let e : suc (length xs) - 1 ≡ length xs = omega arith in e) ∙ take_all (length xs) xs (omega arith)

pub none_left : {X : Type 0} (xs : List X) → length xs < 1 → xs ≡ []
none_left [] l = refl
none_left (x ∷ xs) l = absurd (omega (arith, l))

pub first_and_rest : {X : Type 0} (xs : List X) (d : X) → 1 ≤ length xs → xs ≡ slice_index_or xs 0 d ∷ take (length xs - 1) (drop 1 xs)
first_and_rest [] d l = absurd (omega (arith, l))
first_and_rest (x ∷ xs) d l = ap (λ ys. x ∷ ys) (sym (rest_is x xs))

pub first_all : {X : Type 0} (P : X → Type 0) (xs : List X) (d : X) → 1 ≤ length xs → All P xs → P (slice_index_or xs 0 d)
first_all P [] d l h = absurd (omega (arith, l))
first_all P (x ∷ xs) d l h = All-head P x xs h

pub rest_all : {X : Type 0} (P : X → Type 0) (xs : List X) → 1 ≤ length xs → All P xs → All P (take (length xs - 1) (drop 1 xs))
rest_all P [] l h = absurd (omega (arith, l))
rest_all P (x ∷ xs) l h = subst (All P) (sym (rest_is x xs)) (All-tail P x xs h)

pub rest_shorter : {X : Type 0} (xs : List X) → 1 ≤ length xs → length (take (length xs - 1) (drop 1 xs)) < length xs
rest_shorter [] l = absurd (omega (arith, l))
rest_shorter (x ∷ xs) l = let e : length (take (length (x ∷ xs) - 1) (drop 1 (x ∷ xs))) ≡ length xs = ap length (rest_is x xs) in omega (arith, e)
