-- A list that is gone through from the front, up to the first item of which something is told.
use Rattle.std.specs.Prelude.{◌≡◌, ℕ, ◌+◌, ◌<◌, ◌≤◌, List, [], ◌∷◌, ◌++◌, map, take, drop, length, All}
use Rattle.std.proofs.Common.{sym, ◌∙◌, ap, subst, get_or, append_assoc, arith}
use Rattle.std.proofs.lemmas.List.{map-append, take-append-drop, take_more, take_all, get_or-map, length-map}
use Rattle.std.proofs.lemmas.List.Elements.{All-head, All-tail, All-push}
use Rattle.ab_declare.specs.declared.refusal.Refusal.{Refusal}
use Rattle.ab_declare.specs.declared.halt.Halt.{Halt}
use Rattle.ab_declare.specs.declared.halt.Halt.TheVariants.{Refused, Memory}
use Rattle.ab_declare.specs.DefinitionCommands.{FirstTold, this, later}
use Rattle.ab_declare.specs.Halts.{Halts}

pub told_at : {X : Type 0} (IsFine : X → Type 0) (Tells : X → Refusal → Type 0) (xs ys : List X) (x : X) (r : Refusal) → All IsFine xs → Tells x r → FirstTold IsFine Tells (xs ++ x ∷ ys) r
told_at IsFine Tells [] ys x r all t = this t
told_at IsFine Tells (z ∷ xs) ys x r all t = later (All-head IsFine z xs all) (told_at IsFine Tells xs ys x r (All-tail IsFine z xs all) t)

pub halts_more : (P Q : Refusal → Type 0) (h : Halt) → ((r : Refusal) → P r → Q r) → Halts P h → Halts Q h
halts_more P Q (Refused r) f h = f r h
halts_more P Q (Memory m) f h = h

-- at an item
module _ {X Y : Type 0} (f : X → Y) (xs : List X) (i : ℕ) (x : X) (l : i < length xs) (is : x ≡ get_or xs i x) where
  pub at_item : map f xs ≡ map f (take i xs) ++ f x ∷ map f (drop (i + 1) xs)
  at_item =
      ap (map f) (sym (take-append-drop (i + 1) xs) ∙ ap (λ ys. ys ++ drop (i + 1) xs) (take_more xs i x l) ∙ append_assoc (take i xs) (get_or xs i x ∷ []) (drop (i + 1) xs))
      ∙ map-append f (take i xs) (get_or xs i x ∷ drop (i + 1) xs) ∙ ap (λ y. map f (take i xs) ++ f y ∷ map f (drop (i + 1) xs)) (sym is)

  pub behind_item : map f (take (i + 1) xs) ≡ map f (take i xs) ++ f x ∷ []
  behind_item =
      ap (map f) (take_more xs i x l) ∙ map-append f (take i xs) (get_or xs i x ∷ []) ∙ ap (λ y. map f (take i xs) ++ f y ∷ []) (sym is)

  -- what is true of all is true of it
  pub of_item : (P : Y → Type 0) → All P (map f xs) → P (f x)
  of_item P all = subst P (get_or-map f xs i x (f x) l ∙ ap f (sym is)) (all i (f x) (omega (arith, length-map xs f)))

  pub all_behind : (P : Y → Type 0) → All P (map f (take i xs)) → P (f x) → All P (map f (take (i + 1) xs))
  all_behind P all one = subst (All P) (sym behind_item) (All-push P (map f (take i xs)) (f x) all one)

  pub first_halts : (IsFine : Y → Type 0) (Tells : Y → Refusal → Type 0) (h : Halt) → All IsFine (map f (take i xs)) → Halts (Tells (f x)) h → Halts (FirstTold IsFine Tells (map f xs)) h
  first_halts IsFine Tells h all told =
      subst (λ ys. Halts (FirstTold IsFine Tells ys) h) (sym at_item)
      (halts_more (Tells (f x)) (FirstTold IsFine Tells (map f (take i xs) ++ f x ∷ map f (drop (i + 1) xs))) h (λ r. told_at IsFine Tells (map f (take i xs)) (map f (drop (i + 1) xs)) (f x) r all) told)

-- at the end
pub at_end : {X Y : Type 0} (f : X → Y) (xs : List X) (i : ℕ) → length xs ≤ i → map f (take i xs) ≡ map f xs
at_end f xs i l = ap (map f) (take_all i xs l)
