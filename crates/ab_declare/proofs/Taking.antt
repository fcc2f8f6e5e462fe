-- The first of some names that is taken, looked for one after another.
use Rattle.std.specs.Prelude.{◌≡◌, ◌⊎◌, ℕ, List, [], ◌∷◌, ◌++◌, ◌||◌, Bool, true, false, Some, None, Contains, bytes_eq, if◌then◌else◌}
use Rattle.std.specs.List.{list_any}
use Rattle.std.proofs.Common.{refl, sym, ◌∙◌, ap, subst, inl, inr}
use Rattle.std.proofs.lemmas.Slice.Eq.{bytes_eq-Decides}
use Rattle.std.proofs.lemmas.List.Elements.{Contains-append_left, Contains-append_right, Contains-append_cases}
use Rattle.ab_term.proofs.Lists.{Contains-none, Contains-here, Contains-there, Contains-cases}
use Rattle.ab_declare.specs.DeclarationCommands.{first_taken}

abbrev Name : Type 0
Name = List ℕ

-- whether a name is in use

pub contains_any : (x : Name) (us : List Name) → Contains us x → list_any (bytes_eq x) us ≡ true
contains_any x [] c = absurd (Contains-none x c)
contains_any x (u ∷ us) c = go (contains_any x us) (bytes_eq x u) refl (Contains-cases u us x c)
  where
    go : (Contains us x → list_any (bytes_eq x) us ≡ true) → (b : Bool) → bytes_eq x u ≡ b → (u ≡ x) ⊎ Contains us x → list_any (bytes_eq x) (u ∷ us) ≡ true
    go rest true e d = ap (λ r. r || list_any (bytes_eq x) us) e
    go rest false e (inl h) = let bad : bytes_eq x u ≡ true = (bytes_eq-Decides x u).1 (sym h) in absurd (cc)
    go rest false e (inr m) = ap (λ r. r || list_any (bytes_eq x) us) e ∙ rest m

pub any_contains : (x : Name) (us : List Name) → list_any (bytes_eq x) us ≡ true → Contains us x
any_contains x [] e = absurd (cc)
any_contains x (u ∷ us) e = go (any_contains x us) (bytes_eq x u) refl
  where
    go : (list_any (bytes_eq x) us ≡ true → Contains us x) → (b : Bool) → bytes_eq x u ≡ b → Contains (u ∷ us) x
    go rest true h = subst (Contains (u ∷ us)) (sym ((bytes_eq-Decides x u).0 h)) (Contains-here u us)
    go rest false h = Contains-there u us x (rest (sym (ap (λ r. r || list_any (bytes_eq x) us) h) ∙ e))

-- names that are in use beside those that came

move : (us : List Name) (y : Name) (ys : List Name) (x : Name) → Contains (us ++ y ∷ ys) x → Contains ((y ∷ us) ++ ys) x
move us y ys x c = go (Contains-append_cases us (y ∷ ys) x c)
  where
    more : (y ≡ x) ⊎ Contains ys x → Contains ((y ∷ us) ++ ys) x
    more (inl e) = subst (Contains ((y ∷ us) ++ ys)) e (Contains-here y (us ++ ys))
    more (inr m) = Contains-append_right (y ∷ us) ys x m

    go : Contains us x ⊎ Contains (y ∷ ys) x → Contains ((y ∷ us) ++ ys) x
    go (inl m) = Contains-there y (us ++ ys) x (Contains-append_left us ys x m)
    go (inr m) = more (Contains-cases y ys x m)

back : (us : List Name) (y : Name) (ys : List Name) (x : Name) → Contains ((y ∷ us) ++ ys) x → Contains (us ++ y ∷ ys) x
back us y ys x c = go (Contains-append_cases (y ∷ us) ys x c)
  where
    more : (y ≡ x) ⊎ Contains us x → Contains (us ++ y ∷ ys) x
    more (inl e) = subst (Contains (us ++ y ∷ ys)) e (Contains-append_right us (y ∷ ys) y (Contains-here y ys))
    more (inr m) = Contains-append_left us (y ∷ ys) x m

    go : Contains (y ∷ us) x ⊎ Contains ys x → Contains (us ++ y ∷ ys) x
    go (inl m) = more (Contains-cases y us x m)
    go (inr m) = Contains-append_right us (y ∷ ys) x (Contains-there y ys x m)

-- one name more

none_before : (us : List Name) (y : Name) (ys : List Name) → first_taken us (y ∷ ys) ≡ None → (list_any (bytes_eq y) us ≡ false) × (first_taken (y ∷ us) ys ≡ None)
none_before us y ys e = go (list_any (bytes_eq y) us) refl
  where
    go : (b : Bool) → list_any (bytes_eq y) us ≡ b → (list_any (bytes_eq y) us ≡ false) × (first_taken (y ∷ us) ys ≡ None)
    go true h = let bad : Some y ≡ None = sym (ap (λ r. if r then Some y else first_taken (y ∷ us) ys) h) ∙ e in absurd (cc)
    go false h = (h, sym (ap (λ r. if r then Some y else first_taken (y ∷ us) ys) h) ∙ e)

-- the name is the first that is taken
pub taken_at : (us xs ys : List Name) (x : Name) → first_taken us xs ≡ None → Contains (us ++ xs) x → first_taken us (xs ++ x ∷ ys) ≡ Some x
taken_at us [] ys x e c =
    ap (λ r. if r then Some x else first_taken (x ∷ us) ys) (contains_any x us (only (Contains-append_cases us [] x c)))
  where
    only : Contains us x ⊎ Contains [] x → Contains us x
    only (inl m) = m
    only (inr m) = absurd (Contains-none x m)
taken_at us (y ∷ xs) ys x e c =
    let n = none_before us y xs e in
    ap (λ r. if r then Some y else first_taken (y ∷ us) (xs ++ x ∷ ys)) n.0 ∙ taken_at (y ∷ us) xs ys x n.1 (move us y xs x c)

-- none of them is taken
pub untaken : (us xs : List Name) (x : Name) → first_taken us xs ≡ None → (Contains (us ++ xs) x → ⊥) → first_taken us (xs ++ x ∷ []) ≡ None
untaken us [] x e c = go (list_any (bytes_eq x) us) refl
  where
    go : (b : Bool) → list_any (bytes_eq x) us ≡ b → first_taken us (x ∷ []) ≡ None
    go true h = absurd (c (Contains-append_left us [] x (any_contains x us h)))
    go false h = ap (λ r. if r then Some x else first_taken (x ∷ us) []) h
untaken us (y ∷ xs) x e c =
    let n = none_before us y xs e in
    ap (λ r. if r then Some y else first_taken (y ∷ us) (xs ++ x ∷ [])) n.0 ∙ untaken (y ∷ us) xs x n.1 (λ d. c (back us y xs x d))
