-- Lists as sets.
use Rattle.std.proofs.Common.{◌≡◌, ℕ, List, [], ◌∷◌, ◌++◌, Bool, true, false, Option, Some, None, ◌⊎◌, inl, inr, ◌||◌, Contains, refl, sym, ◌∙◌, ap, subst}
use Rattle.std.specs.Prelude.{bytes_eq}
use Rattle.std.specs.List.{filter_map, cons_option}
use Rattle.std.proofs.lemmas.List.Elements.{Contains-append_left, Contains-append_right, Contains-append_cases}
use Rattle.std.specs.Cmp.Lexicographic.{bytes_decides}
use Rattle.ab_term.proofs.Lists.{Contains-none, Contains-here, Contains-there, Contains-cases}
use Rattle.ab_print.specs.PrintedNames.{is_in}

module _ {X : Type 0} where
  -- an element, taken out of a list
  pub split : (xs : List X) (x : X) → Contains xs x → (front : List X) × (back : List X) × (xs ≡ front ++ x ∷ back)
  split [] x h = absurd (Contains-none x h)
  split (y ∷ ys) x h = elim (Contains-cases y ys x h) [
    | inl e ↦ ([], ys, ap (λ (w : X). w ∷ ys) e)
    | inr later ↦ (let r = split ys x later in (y ∷ r.0, r.1, ap (λ (w : List X). y ∷ w) r.2))
  ]

  pub in_rest : (front : List X) (x : X) (back : List X) (y : X) → (x ≡ y → ⊥) → Contains (front ++ x ∷ back) y → Contains (front ++ back) y
  in_rest front x back y other h = elim (Contains-append_cases front (x ∷ back) y h) [
    | inl a ↦ Contains-append_left front back y a
    | inr b ↦ elim (Contains-cases x back y b) [ inl e ↦ absurd (other e) | inr c ↦ Contains-append_right front back y c ]
  ]

module _ {X Y : Type 0} (f : X → Option Y) where
  by_value : (o : Option Y) (ys : List Y) (y : Y) → Contains (cons_option o ys) y → (o ≡ Some y) ⊎ Contains ys y
  by_value None ys y h = inr h
  by_value (Some z) ys y h = elim (Contains-cases z ys y h) [ inl e ↦ inl (ap Some e) | inr b ↦ inr b ]

  value_here : (o : Option Y) (ys : List Y) (y : Y) → o ≡ Some y → Contains (cons_option o ys) y
  value_here o ys y e = subst (λ (w : Option Y). Contains (cons_option w ys) y) (sym e) (Contains-here y ys)

  value_there : (o : Option Y) (ys : List Y) (y : Y) → Contains ys y → Contains (cons_option o ys) y
  value_there None ys y h = h
  value_there (Some z) ys y h = Contains-there z ys y h

  pub from_filter_map : (xs : List X) (y : Y) → Contains (filter_map f xs) y → (x : X) × Contains xs x × (f x ≡ Some y)
  from_filter_map [] y h = absurd (Contains-none y h)
  from_filter_map (x ∷ xs) y h = elim (by_value (f x) (filter_map f xs) y h) [
    | inl e ↦ (x, Contains-here x xs, e)
    | inr later ↦ (let r = from_filter_map xs y later in (r.0, Contains-there x xs r.0 r.1, r.2))
  ]

  pub to_filter_map : (xs : List X) (x : X) (y : Y) → Contains xs x → f x ≡ Some y → Contains (filter_map f xs) y
  to_filter_map [] x y h e = absurd (Contains-none x h)
  to_filter_map (z ∷ xs) x y h e = elim (Contains-cases z xs x h) [
    | inl same ↦ value_here (f z) (filter_map f xs) y (ap f same ∙ e)
    | inr later ↦ value_there (f z) (filter_map f xs) y (to_filter_map xs x y later e)
  ]

-- the test of whether a name is among others

or_cases : (a b : Bool) → (a || b) ≡ true → (a ≡ true) ⊎ (b ≡ true)
or_cases true b h = inl refl
or_cases false b h = inr h

or_right : (a b : Bool) → b ≡ true → (a || b) ≡ true
or_right true b h = refl
or_right false b h = h

bytes_same : (x y : List ℕ) → bytes_eq x y ≡ true → x ≡ y
bytes_same x y h = (bytes_decides x y).0 h

bytes_self : (x : List ℕ) → bytes_eq x x ≡ true
bytes_self x = (bytes_decides x x).1 refl

pub is_in-true : (used : List (List ℕ)) (x : List ℕ) → is_in used x ≡ true → Contains used x
is_in-true [] x h = cc
is_in-true (y ∷ used) x h = elim (or_cases (bytes_eq x y) (is_in used x) h) [
  | inl e ↦ subst (λ (w : List ℕ). Contains (w ∷ used) x) (bytes_same x y e) (Contains-here x used)
  | inr later ↦ Contains-there y used x (is_in-true used x later)
]

pub true-is_in : (used : List (List ℕ)) (x : List ℕ) → Contains used x → is_in used x ≡ true
true-is_in [] x h = absurd (Contains-none x h)
true-is_in (y ∷ used) x h = elim (Contains-cases y used x h) [
  | inl e ↦ subst (λ (w : List ℕ). (bytes_eq w y || is_in used w) ≡ true) e (ap (λ (b : Bool). b || is_in used y) (bytes_self y))
  | inr later ↦ or_right (bytes_eq x y) (is_in used x) (true-is_in used x later)
]
