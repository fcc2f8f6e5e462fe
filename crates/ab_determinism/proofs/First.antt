-- The first element of a list without a property is one. And of lists that correspond one by one the first ones correspond.
use Rattle.std.specs.Prelude.{All}
use Rattle.std.proofs.Common.{◌≡◌, List, [], ◌∷◌, ◌++◌, sym, subst}
use Rattle.std.proofs.lemmas.List.Elements.{All-head, All-tail}
use Rattle.ab_unifiers.specs.Clauses.{Each}

module _ {X : Type 0} (P : X → Type 0) where
  first_same : {x y : X} {xs ys : List X} → x ∷ xs ≡ y ∷ ys → x ≡ y
  first_same e = cc

  rest_same : {x y : X} {xs ys : List X} → x ∷ xs ≡ y ∷ ys → xs ≡ ys
  rest_same e = cc

  pub one_first : (xs ys zs ws : List X) (x y : X) → xs ++ x ∷ zs ≡ ys ++ y ∷ ws → All P xs → (P x → ⊥) → All P ys → (P y → ⊥) → x ≡ y
  one_first [] [] zs ws x y e before not after nor = first_same e
  one_first [] (b ∷ ys) zs ws x y e before not after nor = absurd (not (subst P (sym (first_same e)) (All-head P b ys after)))
  one_first (a ∷ xs) [] zs ws x y e before not after nor = absurd (nor (subst P (first_same e) (All-head P a xs before)))
  one_first (a ∷ xs) (b ∷ ys) zs ws x y e before not after nor =
      one_first xs ys zs ws x y (rest_same e) (All-tail P a xs before) not (All-tail P b ys after) nor

pub each_both : {X Y : Type 0} (R : X → Y → Type 0) (Q : Y → X → Type 0) (xs : List X) (ys : List Y) → Each R xs ys → Each Q ys xs → Each (λ x y. R x y × Q y x) xs ys
each_both R Q [] [] a b = tt
each_both R Q [] (y ∷ ys) a b = absurd a
each_both R Q (x ∷ xs) [] a b = absurd a
each_both R Q (x ∷ xs) (y ∷ ys) a b = ((a.0, b.0), each_both R Q xs ys a.1 b.1)

-- where the properties correspond too
module _ {X Y : Type 0} (R : X → Y → Type 0) (P : X → Type 0) (Q : Y → Type 0) (there : (x : X) (y : Y) → R x y → P x → Q y) (back : (x : X) (y : Y) → R x y → Q y → P x) where
  pub firsts_meet : (xs zs : List X) (ys ws : List Y) (x : X) (y : Y) → Each R (xs ++ x ∷ zs) (ys ++ y ∷ ws) → All P xs → (P x → ⊥) → All Q ys → (Q y → ⊥) → R x y
  firsts_meet [] zs [] ws x y each before not after nor = each.0
  firsts_meet [] zs (b ∷ ys) ws x y each before not after nor = absurd (not (back x b each.0 (All-head Q b ys after)))
  firsts_meet (a ∷ xs) zs [] ws x y each before not after nor = absurd (nor (there a y each.0 (All-head P a xs before)))
  firsts_meet (a ∷ xs) zs (b ∷ ys) ws x y each before not after nor = firsts_meet xs zs ys ws x y each.1 (All-tail P a xs before) not (All-tail Q b ys after) nor

  pub all_back : (xs zs : List X) (ys : List Y) (x : X) → Each R (xs ++ x ∷ zs) ys → All Q ys → P x
  all_back [] zs [] x each all = absurd each
  all_back [] zs (y ∷ ys) x each all = back x y each.0 (All-head Q y ys all)
  all_back (a ∷ xs) zs [] x each all = absurd each
  all_back (a ∷ xs) zs (y ∷ ys) x each all = all_back xs zs ys x each.1 (All-tail Q y ys all)
