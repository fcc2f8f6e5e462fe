-- Lists of variables with a term each: what is found there.
use Rattle.std.proofs.Common.{◌≡◌, ℕ, suc, ◌+◌, ◌<◌, ◌≤◌, ◌⊎◌, inl, inr, List, [], ◌∷◌, ◌++◌, length, Bool, true, false, cond, ◌||◌, Option, Some, None, refl, sym, ◌∙◌, ap, subst, arith}
use Rattle.std.specs.Prelude.{All}
use Rattle.std.proofs.lemmas.Bool.{false≢true, false_from_ne_true, or_parts, or_left, or_right}
use Rattle.std.proofs.lemmas.List.Elements.{All-cons, All-nil}
use Rattle.ab_term.specs.Terms.{Variable, Term}
use Rattle.ab_term.specs.Typing.{Signature, HasType}
use Rattle.ab_term.specs.Variables.{Substitution, value_in, IsTyped}
use Rattle.ab_term.specs.Sameness.{same_numbered, same_number}
use Rattle.ab_unifiers.specs.Replacements.{Cell, holds}
use Rattle.ab_unifiers.specs.Unifiers.{AreDifferent, keys}
use Rattle.ab_term.proofs.Same.{same_numbered-Decides}
use Rattle.ab_unifiers.specs.Clauses.{numbered, put_together, Each}

module _ {X Y : Type 0} where
  pub each_weaker : (R Q : X → Y → Type 0) → ((y : X) (t : Y) → R y t → Q y t) → (ys : List X) (ts : List Y) → Each R ys ts → Each Q ys ts
  each_weaker R Q w [] [] e = tt
  each_weaker R Q w [] (t ∷ ts) e = absurd e
  each_weaker R Q w (y ∷ ys) [] e = absurd e
  each_weaker R Q w (y ∷ ys) (t ∷ ts) e = (w y t e.0, each_weaker R Q w ys ts e.1)

  pub each_both : (R Q : X → Y → Type 0) → (ys : List X) (ts : List Y) → Each R ys ts → Each Q ys ts → Each (λ y t. R y t × Q y t) ys ts
  each_both R Q [] [] e f = tt
  each_both R Q [] (t ∷ ts) e f = absurd e
  each_both R Q (y ∷ ys) [] e f = absurd e
  each_both R Q (y ∷ ys) (t ∷ ts) e f = ((e.0, f.0), each_both R Q ys ts e.1 f.1)

  pub each_append : (R : X → Y → Type 0) (ys zs : List X) (ts us : List Y) → Each R ys ts → Each R zs us → Each R (ys ++ zs) (ts ++ us)
  each_append R [] zs [] us e f = f
  each_append R [] zs (t ∷ ts) us e f = absurd e
  each_append R (y ∷ ys) zs [] us e f = absurd e
  each_append R (y ∷ ys) zs (t ∷ ts) us e f = (e.0, each_append R ys zs ts us e.1 f)

-- a variable of the list has a property that each has
pub each_held : {Y : Type 0} (R : Variable ℕ → Y → Type 0) (Q : Variable ℕ → Type 0) → ((y : Variable ℕ) (t : Y) → R y t → Q y) → (ys : List (Variable ℕ)) (ts : List Y) → Each R ys ts → (y : Variable ℕ) → holds ys y ≡ true → Q y
each_held R Q w [] ts e y h = absurd (false≢true h)
each_held R Q w (z ∷ ys) [] e y h = absurd e
each_held R Q w (z ∷ ys) (t ∷ ts) e y h = go (same_numbered z y) refl h (each_held R Q w ys ts e.1 y)
  where
    go : (b : Bool) → same_numbered z y ≡ b → (b || holds ys y) ≡ true → (holds ys y ≡ true → Q y) → Q y
    go true f g rest = subst Q ((same_numbered-Decides z y).0 f) (w z t e.0)
    go false f g rest = rest g

pub held_append : (ys zs : List (Variable ℕ)) (y : Variable ℕ) → holds (ys ++ zs) y ≡ true → (holds ys y ≡ true) ⊎ (holds zs y ≡ true)
held_append [] zs y h = inr h
held_append (v ∷ ys) zs y h = go (same_numbered v y) h (held_append ys zs y)
  where
    go : (b : Bool) → (b || holds (ys ++ zs) y) ≡ true → (holds (ys ++ zs) y ≡ true → (holds ys y ≡ true) ⊎ (holds zs y ≡ true)) → ((b || holds ys y) ≡ true) ⊎ (holds zs y ≡ true)
    go true g rest = inl refl
    go false g rest = rest g

module _ {Hint : Type 0} where
  pub value_front : (p q : Substitution ℕ Hint) (y : Variable ℕ) (t : Term ℕ Hint) → value_in same_number p y ≡ Some t → value_in same_number (p ++ q) y ≡ Some t
  value_front [] q y t e = absurd (cc)
  value_front (a ∷ p) q y t e = go (same_numbered a.0 y) e (value_front p q y t)
    where
      go : (b : Bool) → cond b (Some a.1) (value_in same_number p y) ≡ Some t → (value_in same_number p y ≡ Some t → value_in same_number (p ++ q) y ≡ Some t) → cond b (Some a.1) (value_in same_number (p ++ q) y) ≡ Some t
      go true f rest = f
      go false f rest = rest f

  pub value_behind : (ys : List (Variable ℕ)) (ts : List (Term ℕ Hint)) (q : Substitution ℕ Hint) (y : Variable ℕ) → holds ys y ≡ false → value_in same_number (put_together ys ts ++ q) y ≡ value_in same_number q y
  value_behind [] ts q y e = refl
  value_behind (z ∷ ys) [] q y e = refl
  value_behind (z ∷ ys) (t ∷ ts) q y e =
      let parts = or_parts (same_numbered z y) (holds ys y) e in
      ap (λ b. cond b (Some t) (value_in same_number (put_together ys ts ++ q) y)) parts.0 ∙ value_behind ys ts q y parts.1

  itself : (y : Variable ℕ) (t : Term ℕ Hint) (o : Option (Term ℕ Hint)) → cond (same_numbered y y) (Some t) o ≡ Some t
  itself y t o = ap (λ b. cond b (Some t) o) ((same_numbered-Decides y y).1 refl)

  -- in a list of different variables each is found with its own term
  pub found_each : (p : Substitution ℕ Hint) (ys : List (Variable ℕ)) (ts : List (Term ℕ Hint)) → AreDifferent ys → ((y : Variable ℕ) → holds ys y ≡ true → (t : Term ℕ Hint) → value_in same_number (put_together ys ts) y ≡ Some t → value_in same_number p y ≡ Some t)
      → Each (λ y t. Unit {0}) ys ts → Each (λ y t. value_in same_number p y ≡ Some t) ys ts
  found_each p [] [] d w e = tt
  found_each p [] (t ∷ ts) d w e = absurd e
  found_each p (y ∷ ys) [] d w e = absurd e
  found_each p (y ∷ ys) (t ∷ ts) d w e = (
    w y (or_left (same_numbered y y) (holds ys y) ((same_numbered-Decides y y).1 refl)) t (itself y t (value_in same_number (put_together ys ts) y)),
    found_each p ys ts d.1 (λ z h v f. w z (or_right (same_numbered y z) (holds ys z) h) v (ap (λ b. cond b (Some t) (value_in same_number (put_together ys ts) z)) (false_from_ne_true (same_numbered y z) (λ s. false≢true (sym d.0 ∙ ap (holds ys) ((same_numbered-Decides y z).0 s) ∙ h))) ∙ f)) e.1,
  )

pub keys_put_together : {Hint : Type 0} (ys : List (Variable ℕ)) (ts : List (Term ℕ Hint)) → Each (λ y t. Unit {0}) ys ts → keys (put_together ys ts) ≡ ys
keys_put_together [] [] e = refl
keys_put_together [] (t ∷ ts) e = absurd e
keys_put_together (y ∷ ys) [] e = absurd e
keys_put_together (y ∷ ys) (t ∷ ts) e = ap (λ l. y ∷ l) (keys_put_together ys ts e.1)

pub together_typed : (sg : Signature) {Hint : Type 0} (ys : List (Variable ℕ)) (ts : List (Term ℕ Hint)) → Each (λ y t. HasType sg [] t y.type) ys ts → IsTyped sg (put_together ys ts)
together_typed sg [] ts e = All-nil (λ p. HasType sg [] p.1 p.0.type)
together_typed sg (y ∷ ys) [] e = absurd e
together_typed sg (y ∷ ys) (t ∷ ts) e = All-cons (λ p. HasType sg [] p.1 p.0.type) (y, t) (put_together ys ts) e.0 (together_typed sg ys ts e.1)

-- numbered variables are different, and have numbers from there on
module _ {Hint : Type 0} where
  pub numbered_within : (n : ℕ) (cs : List (Cell Hint)) (y : Variable ℕ) → holds (numbered n cs) y ≡ true → (n ≤ y.name) × (y.name < n + length cs)
  numbered_within n [] y h = absurd (false≢true h)
  numbered_within n (c ∷ cs) y h = go (same_numbered z y) refl h (numbered_within (suc n) cs y)
    where
      z : Variable ℕ
      z = record { name = n; type = c.type }

      go : (b : Bool) → same_numbered z y ≡ b → (b || holds (numbered (suc n) cs) y) ≡ true → (holds (numbered (suc n) cs) y ≡ true → (suc n ≤ y.name) × (y.name < suc n + length cs)) → (n ≤ y.name) × (y.name < n + suc (length cs))
      go true e f rest = let number : n ≡ y.name = ap (λ v. v.name) ((same_numbered-Decides z y).0 e) in (omega (arith, number), omega (arith, number))
      go false e f rest = let r = rest f in (omega (arith, r.0), omega (arith, r.1))

  pub numbered_different : (n : ℕ) (cs : List (Cell Hint)) → AreDifferent (numbered n cs)
  numbered_different n [] = tt
  numbered_different n (c ∷ cs) = (
    false_from_ne_true (holds (numbered (suc n) cs) (record { name = n; type = c.type })) (λ h. let w = (numbered_within (suc n) cs (record { name = n; type = c.type }) h).0 in omega (arith, w)),
    numbered_different (suc n) cs,
  )

pub append_different : (ys zs : List (Variable ℕ)) → AreDifferent ys → AreDifferent zs → ((y : Variable ℕ) → holds ys y ≡ true → holds zs y ≡ false) → AreDifferent (ys ++ zs)
append_different [] zs d e a = e
append_different (y ∷ ys) zs d e a = (
  false_from_ne_true (holds (ys ++ zs) y) (λ h. go (held_append ys zs y h)),
  append_different ys zs d.1 e (λ z h. a z (or_right (same_numbered y z) (holds ys z) h)),
)
  where
    go : (holds ys y ≡ true) ⊎ (holds zs y ≡ true) → ⊥
    go (inl f) = false≢true (sym d.0 ∙ f)
    go (inr f) = false≢true (sym (a y (or_left (same_numbered y y) (holds ys y) ((same_numbered-Decides y y).1 refl))) ∙ f)

module _ {X Y : Type 0} where
  pub each_split : (R : X → Y → Type 0) (ys zs : List X) (ts us : List Y) → Each (λ y t. Unit {0}) ys ts → Each R (ys ++ zs) (ts ++ us) → Each R ys ts × Each R zs us
  each_split R [] zs [] us e f = (tt, f)
  each_split R [] zs (t ∷ ts) us e f = absurd e
  each_split R (y ∷ ys) zs [] us e f = absurd e
  each_split R (y ∷ ys) zs (t ∷ ts) us e f = let r = each_split R ys zs ts us e.1 f.1 in ((f.0, r.0), r.1)

  pub each_any : (R : X → Y → Type 0) (ys : List X) (ts : List Y) → Each R ys ts → Each (λ y t. Unit {0}) ys ts
  each_any R ys ts e = each_weaker R (λ y t. Unit {0}) (λ y t r. tt) ys ts e

-- what is found has a property that each term has
pub found_has : {Hint : Type 0} (Q : Term ℕ Hint → Type 0) (ys : List (Variable ℕ)) (ts : List (Term ℕ Hint)) (q : Substitution ℕ Hint) → Each (λ y t. Q t) ys ts
    → ((y : Variable ℕ) (t : Term ℕ Hint) → value_in same_number q y ≡ Some t → Q t) → (y : Variable ℕ) (t : Term ℕ Hint) → value_in same_number (put_together ys ts ++ q) y ≡ Some t → Q t
found_has Q [] [] q e f y t g = f y t g
found_has Q [] (u ∷ ts) q e f y t g = absurd e
found_has Q (z ∷ ys) [] q e f y t g = absurd e
found_has Q (z ∷ ys) (u ∷ ts) q e f y t g = go (same_numbered z y) g (found_has Q ys ts q e.1 f y t)
  where
    go : (b : Bool) → cond b (Some u) (value_in same_number (put_together ys ts ++ q) y) ≡ Some t → (value_in same_number (put_together ys ts ++ q) y ≡ Some t → Q t) → Q t
    go true h rest = let one : u ≡ t = cc in subst Q one e.0
    go false h rest = rest h

pub nothing_found : {Hint : Type 0} (Q : Term ℕ Hint → Type 0) (y : Variable ℕ) (t : Term ℕ Hint) → value_in same_number [] y ≡ Some t → Q t
nothing_found Q y t e = absurd (cc)

-- and where nothing is found the variable isn't listed
pub found_none : {Hint : Type 0} (ys : List (Variable ℕ)) (ts : List (Term ℕ Hint)) (q : Substitution ℕ Hint) → Each (λ y t. Unit {0}) ys ts → (y : Variable ℕ) → value_in same_number (put_together ys ts ++ q) y ≡ None → (holds ys y ≡ false) × (value_in same_number q y ≡ None)
found_none [] [] q e y f = (refl, f)
found_none [] (t ∷ ts) q e y f = absurd e
found_none (z ∷ ys) [] q e y f = absurd e
found_none (z ∷ ys) (t ∷ ts) q e y f = go (same_numbered z y) f (found_none ys ts q e.1 y)
  where
    go : (b : Bool) → cond b (Some t) (value_in same_number (put_together ys ts ++ q) y) ≡ None → (value_in same_number (put_together ys ts ++ q) y ≡ None → (holds ys y ≡ false) × (value_in same_number q y ≡ None)) → ((b || holds ys y) ≡ false) × (value_in same_number q y ≡ None)
    go true h rest = absurd (cc)
    go false h rest = rest h

pub together_all : {Hint : Type 0} (Q : Term ℕ Hint → Type 0) (ys : List (Variable ℕ)) (ts : List (Term ℕ Hint)) → Each (λ y t. Q t) ys ts → All (λ p. Q p.1) (put_together ys ts)
together_all Q [] ts e = All-nil (λ p. Q p.1)
together_all Q (y ∷ ys) [] e = absurd e
together_all Q (y ∷ ys) (t ∷ ts) e = All-cons (λ p. Q p.1) (y, t) (put_together ys ts) e.0 (together_all Q ys ts e.1)
