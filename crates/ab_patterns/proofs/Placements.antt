-- One of a list that is looked for from its last on.
use Rattle.std.proofs.Common.{◌≡◌, ◌≢◌, ℕ, zero, suc, ◌+◌, ◌-◌, ◌<◌, ◌≤◌, List, [], ◌∷◌, drop, length, get_or, sym, subst, arith}
use Rattle.std.specs.List.{All}
use Rattle.std.proofs.lemmas.List.{drop_more}
use Rattle.std.proofs.lemmas.List.Elements.{All-nil, All-cons}

pub any_default : {X : Type 0} (xs : List X) (n : ℕ) (x d e : X) → n < length xs → get_or xs n d ≡ x → get_or xs n e ≡ x
any_default [] n x d e l here = absurd (omega (arith, l))
any_default (y ∷ ys) zero x d e l here = here
any_default (y ∷ ys) (suc n) x d e l here = any_default ys n x d e (omega (arith, l)) here

pub none_behind : {X : Type 0} (xs : List X) (n : ℕ) (x : X) → length xs ≤ n → All (λ y. y ≢ x) (drop n xs)
none_behind [] zero x l = All-nil (λ y. y ≢ x)
none_behind [] (suc n) x l = All-nil (λ y. y ≢ x)
none_behind (y ∷ ys) zero x l = absurd (omega (arith, l))
none_behind (y ∷ ys) (suc n) x l = none_behind ys n x (omega (arith, l))

pub one_behind : {X : Type 0} (xs : List X) (done n : ℕ) (x d : X) → done < length xs → n ≡ length xs - 1 - done → All (λ y. y ≢ x) (drop (length xs - done) xs) → get_or xs n d ≢ x
    → All (λ y. y ≢ x) (drop (length xs - (done + 1)) xs)
one_behind xs done n x d l at behind here =
    let next : length xs - done ≡ n + 1 = omega (arith, l, at) in
    let now : n ≡ length xs - (done + 1) = omega (arith, l, at) in
    subst (λ k. All (λ y. y ≢ x) (drop k xs)) now
    (subst (All (λ y. y ≢ x)) (sym (drop_more xs n d (omega (arith, l, at))))
    (All-cons (λ y. y ≢ x) (get_or xs n d) (drop (n + 1) xs) here (subst (λ k. All (λ y. y ≢ x) (drop k xs)) next behind)))
