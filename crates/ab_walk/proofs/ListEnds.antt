-- The last item of a list.
use Rattle.std.proofs.Common.{◌≡◌, ℕ, suc, ◌-◌, ◌<◌, List, [], ◌∷◌, ◌++◌, length, get_or, set, refl, sym, ◌∙◌, ap, arith, length-append}
use Rattle.std.proofs.Math.Seq.{set-append_seam}

pub not_empty : {X : Type 0} (xs : List X) (x : X) → xs ++ x ∷ [] ≡ [] → ⊥
not_empty [] x e = absurd (cc)
not_empty (y ∷ xs) x e = absurd (cc)

-- the last, and those before it
pub last_same : {X : Type 0} (xs ys : List X) (x y : X) → xs ++ x ∷ [] ≡ ys ++ y ∷ [] → (xs ≡ ys) × (x ≡ y)
last_same [] [] x y e = (refl, cc)
last_same [] (b ∷ ys) x y e = let rest : [] ≡ ys ++ y ∷ [] = cc in absurd (not_empty ys y (sym rest))
last_same (a ∷ xs) [] x y e = let rest : xs ++ x ∷ [] ≡ [] = cc in absurd (not_empty xs x rest)
last_same (a ∷ xs) (b ∷ ys) x y e =
    let here : a ≡ b = cc in
    let rest : xs ++ x ∷ [] ≡ ys ++ y ∷ [] = cc in
    let parts = last_same xs ys x y rest in
    (ap (λ l. a ∷ l) parts.0 ∙ ap (λ c. c ∷ ys) here, parts.1)

pub last_there : {X : Type 0} (xs : List X) (x : X) → 0 < length xs → x ≡ get_or xs (length xs - 1) x → (ys : List X) × (xs ≡ ys ++ x ∷ [])
last_there [] x l e = absurd (omega (arith, l))
last_there (a ∷ []) x l e = ([], ap (λ k. k ∷ []) (sym e))
last_there (a ∷ b ∷ xs) x l e =
    let two : suc (suc (length xs)) - 1 ≡ suc (length xs) = omega arith in
    let one : suc (length xs) - 1 ≡ length xs = omega arith in
    let there : x ≡ get_or (b ∷ xs) (length xs) x = e ∙ ap (λ n. get_or (a ∷ b ∷ xs) n x) two in
    let rest = last_there (b ∷ xs) x (omega arith) (there ∙ ap (λ n. get_or (b ∷ xs) n x) (sym one)) in
    (a ∷ rest.0, ap (λ k. a ∷ k) rest.1)

-- the last one is replaced
pub last_set : {X : Type 0} (xs : List X) (x y : X) → set (xs ++ x ∷ []) (length (xs ++ x ∷ []) - 1) y ≡ xs ++ y ∷ []
last_set xs x y =
    let at : length (xs ++ x ∷ []) - 1 ≡ length xs = let long = length-append xs (x ∷ []) in omega (arith, long) in
    ap (λ n. set (xs ++ x ∷ []) n y) at ∙ set-append_seam xs x [] y

-- the last of so many, those before it, and the list with another last one
pub last_of : {X : Type 0} (xs : List X) (n : ℕ) (x : X) → n ≡ length xs → 0 < n → x ≡ get_or xs (n - 1) x → (ys : List X) × (xs ≡ ys ++ x ∷ []) × ((y : X) → set xs (n - 1) y ≡ ys ++ y ∷ [])
last_of xs n x as_many some e =
    let there = last_there xs x (omega (arith, as_many, some)) (e ∙ ap (λ k. get_or xs (k - 1) x) as_many) in (
      there.0,
      there.1,
      λ y. ap (λ k. set xs (k - 1) y) as_many ∙ ap (λ l. set l (length l - 1) y) there.1 ∙ last_set there.0 x y,
    )

pub no_items : {X : Type 0} (xs : List X) (n : ℕ) → n ≡ length xs → (0 < n → ⊥) → xs ≡ []
no_items [] n as_many none = refl
no_items (x ∷ xs) n as_many none = absurd (none (omega (arith, as_many)))
