-- A list that is the front of another.
use Rattle.std.proofs.Common.{◌≡◌, ℕ, ◌<◌, ◌≤◌, List, [], ◌∷◌, ◌++◌, take, length, get_or, refl, sym, subst, subst₂, arith, length-append, length-take}
use Rattle.std.specs.Prelude.{All, AllPairs}
use Rattle.std.proofs.lemmas.List.{get_or-take, get_or_append_left}

pub record Front {X : Type 0} (xs ys : List X) : Type 0 where
  pub short : length xs ≤ length ys
  pub alike : (i : ℕ) (d : X) → i < length xs → get_or xs i d ≡ get_or ys i d

module _ {X : Type 0} where
  pub front_same : (xs ys : List X) → xs ≡ ys → Front xs ys
  front_same xs ys e = subst (Front xs) e (record { short = omega arith; alike = λ i d l. refl })

  pub front_take : (n : ℕ) (xs ys : List X) → xs ≡ take n ys → Front xs ys
  front_take n xs ys e = subst (λ l. Front l ys) (sym e) (record {
    short = omega (arith, length-take n ys);
    alike = λ i d l. get_or-take n ys i d (omega (arith, length-take n ys, l));
  })

  pub front_push : (xs : List X) (y : X) → Front xs (xs ++ y ∷ [])
  front_push xs y = record { short = omega (arith, length-append xs (y ∷ [])); alike = λ i d l. sym (get_or_append_left xs (y ∷ []) d i l) }

  pub All-front : (P : X → Type 0) (xs ys : List X) → Front xs ys → All P ys → All P xs
  All-front P xs ys f all i d l = subst P (sym (f.alike i d l)) (all i d (omega (arith, f.short)))

  pub AllPairs-front : (R : X → X → Type 0) (xs ys : List X) → Front xs ys → AllPairs R ys → AllPairs R xs
  AllPairs-front R xs ys f all i j d l h =
      subst₂ R (sym (f.alike i d (omega arith))) (sym (f.alike j d h)) (all i j d l (omega (arith, f.short)))
