-- Lists that are split by a test.
use Rattle.std.proofs.Common.{◌≡◌, ℕ, ◌+◌, ◌<◌, List, [], ◌∷◌, ◌++◌, length, get_or, map, take, Bool, true, false, cond, sym, ap, ◌∙◌, append-nil}
use Rattle.std.specs.Prelude.{filter}
use Rattle.std.proofs.lemmas.List.{map_more, map-append}
use Rattle.std.proofs.lemmas.List.Elements.{filter-append}

module _ {X V : Type 0} (f : X → V) (p : V → Bool) (xs : List X) (i : ℕ) (d x : X) (l : i < length xs) (at : x ≡ get_or xs i d) where
  filter_next : filter p (map f (take (i + 1) xs)) ≡ filter p (map f (take i xs)) ++ cond (p (f x)) (f x ∷ []) []
  filter_next =
      ap (filter p) (map_more f xs i d l)
      ∙ (ap (λ y. filter p (map f (take i xs) ++ f y ∷ [])) (sym at)
      ∙ filter-append p (map f (take i xs)) (f x ∷ []))

  pub taken_next : (done more : List X) → map f done ≡ filter p (map f (take i xs)) → p (f x) ≡ true → more ≡ done ++ x ∷ [] → map f more ≡ filter p (map f (take (i + 1) xs))
  taken_next done more e t is =
      ap (map f) is
      ∙ (map-append f done (x ∷ [])
      ∙ (ap (λ ys. ys ++ f x ∷ []) e
      ∙ (ap (λ b. filter p (map f (take i xs)) ++ cond b (f x ∷ []) []) (sym t)
      ∙ sym filter_next)))

  pub left_next : (done : List X) → map f done ≡ filter p (map f (take i xs)) → p (f x) ≡ false → map f done ≡ filter p (map f (take (i + 1) xs))
  left_next done e t =
      e
      ∙ (sym (append-nil (filter p (map f (take i xs))))
      ∙ (ap (λ b. filter p (map f (take i xs)) ++ cond b (f x ∷ []) []) (sym t)
      ∙ sym filter_next))
