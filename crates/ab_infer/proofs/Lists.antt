-- Lists that are put behind one another, and lists of bound names.
use Rattle.std.specs.List.{All}
use Rattle.std.proofs.Common.{◌≡◌, ◌⊎◌, inl, inr, List, [], ◌∷◌, ◌++◌, refl, ap, ◌∙◌, append_assoc}
use Rattle.std.proofs.lemmas.List.Elements.{All-nil, All-cons, All-head, All-tail}
use Rattle.ab_infer.specs.declared.scope.Bound.{Bound}
use Rattle.ab_infer.specs.NameScopes.{names_in, nodes_in}

module _ {X : Type 0} where
  pub all_one : (P : X → Type 0) (x : X) → P x → All P (x ∷ [])
  all_one P x h = All-cons P x [] h (All-nil P)

  pub behind_twice : (a b c xs ys : List X) → b ≡ a ++ xs → c ≡ b ++ ys → c ≡ a ++ (xs ++ ys)
  behind_twice a b c xs ys e f = f ∙ (ap (λ zs. zs ++ ys) e ∙ append_assoc a xs ys)

  pub both_behind : (a b c d xs ys zs : List X) → b ≡ a ++ xs → c ≡ b ++ ys → d ≡ c ++ zs → d ≡ a ++ (xs ++ (ys ++ zs))
  both_behind a b c d xs ys zs e f g = g ∙ (ap (λ ws. ws ++ zs) f ∙ (append_assoc b ys zs ∙ (ap (λ ws. ws ++ (ys ++ zs)) e ∙ append_assoc a xs (ys ++ zs))))

pub nodes_last : (bs : List Bound) (b : Bound) → nodes_in (bs ++ b ∷ []) ≡ b.node ∷ nodes_in bs
nodes_last [] b = refl
nodes_last (c ∷ bs) b = ap (λ ns. ns ++ c.node ∷ []) (nodes_last bs b)

pub names_last : (bs : List Bound) (b : Bound) → names_in (bs ++ b ∷ []) ≡ b.name ∷ names_in bs
names_last [] b = refl
names_last (c ∷ bs) b = ap (λ ns. ns ++ c.name ∷ []) (names_last bs b)

module _ {X : Type 0} where
  pub same_last : (xs ys : List X) (x y : X) → xs ++ x ∷ [] ≡ ys ++ y ∷ [] → (xs ≡ ys) × (x ≡ y)
  same_last [] [] x y e = (refl, cc)
  same_last [] (z ∷ []) x y e = absurd (cc)
  same_last [] (z ∷ (w ∷ ys)) x y e = absurd (cc)
  same_last (z ∷ []) [] x y e = absurd (cc)
  same_last (z ∷ (w ∷ xs)) [] x y e = absurd (cc)
  same_last (z ∷ xs) (w ∷ ys) x y e =
      let head : z ≡ w = cc in
      let tails : xs ++ x ∷ [] ≡ ys ++ y ∷ [] = cc in
      let h = same_last xs ys x y tails in (ap (λ v. v ∷ xs) head ∙ ap (λ vs. w ∷ vs) h.0, h.1)

  -- a list is empty, or has a last
  pub ends : (xs : List X) → (xs ≡ []) ⊎ ((front : List X) × (last : X) × (xs ≡ front ++ last ∷ []))
  ends [] = inl refl
  ends (x ∷ xs) = go (ends xs)
    where
      go : (xs ≡ []) ⊎ ((front : List X) × (last : X) × (xs ≡ front ++ last ∷ [])) → (x ∷ xs ≡ []) ⊎ ((front : List X) × (last : X) × (x ∷ xs ≡ front ++ last ∷ []))
      go (inl e) = inr ([], x, ap (λ ys. x ∷ ys) e)
      go (inr h) = inr (x ∷ h.0, h.1, ap (λ ys. x ∷ ys) h.2)

  pub all_front : (P : X → Type 0) (xs ys : List X) → All P (xs ++ ys) → All P xs
  all_front P [] ys h = All-nil P
  all_front P (x ∷ xs) ys h = All-cons P x xs (All-head P x (xs ++ ys) h) (all_front P xs ys (All-tail P x (xs ++ ys) h))

  pub all_end : (P : X → Type 0) (xs : List X) (x : X) → All P (xs ++ x ∷ []) → P x
  all_end P [] x h = All-head P x [] h
  all_end P (y ∷ xs) x h = all_end P xs x (All-tail P y (xs ++ x ∷ []) h)
