-- Tables of what is written: what one has for some bytes.
use Rattle.std.proofs.Common.{◌≡◌, ℕ, Bool, true, false, List, [], ◌∷◌, Some, None, refl, ap, ◌∙◌, subst}
use Rattle.std.specs.Prelude.{bytes_eq, if◌then◌else◌}
use Rattle.ab_grammar.specs.Token.{Token}
use Rattle.ab_grammar.specs.CommandTable.{listed}
use Rattle.ab_expressions.specs.declared.kind.Kind.{Kind}
use Rattle.ab_expressions.specs.Tokens.{Row, otherwise}
use Rattle.ab_expressions.specs.Kinds.{meaning}

-- P holds of each row's value
abbrev pub EachRow : {A : Type 0} → (A → Type 0) → List (List ℕ × A) → Type 0
EachRow P [] = Unit {0}
EachRow P (r ∷ rs) = P r.1 × EachRow P rs

pub listed_each : {A : Type 0} (P : A → Type 0) (rows : List (List ℕ × A)) (x : List ℕ) (a : A) → EachRow P rows → listed rows x ≡ Some a → P a
listed_each P [] x a h e = absurd (cc)
listed_each {A = A} P (r ∷ rs) x a h e = by_test (bytes_eq x r.0) e (listed_each P rs x a h.1)
  where
    by_test : (b : Bool) → (if b then Some r.1 else listed rs x) ≡ Some a → (listed rs x ≡ Some a → P a) → P a
    by_test true e on = let same : r.1 ≡ a = cc in subst P same h.0
    by_test false e on = on e

-- row by row, the token that a table of tokens has is that of the kind that a table of kinds has
abbrev pub Agree : List Row → List (List ℕ × Kind) → Type 0
Agree [] [] = Unit {0}
Agree (r ∷ rs) (s ∷ ss) = (r.0 ≡ s.0) × (((w : List ℕ) (p : ℕ) → r.1 w p ≡ meaning s.1 w p) × Agree rs ss)
Agree [] (s ∷ ss) = ⊥
Agree (r ∷ rs) [] = ⊥

pub same_kind : (rs : List Row) (ss : List (List ℕ × Kind)) → Agree rs ss → (x : List ℕ) (k : Kind) → listed ss x ≡ Some k → (d : List ℕ → ℕ → Token) (w : List ℕ) (p : ℕ) → otherwise (listed rs x) d w p ≡ meaning k w p
same_kind [] [] a x k e d w p = absurd (cc)
same_kind [] (s ∷ ss) a x k e d w p = absurd a
same_kind (r ∷ rs) [] a x k e d w p = absurd a
same_kind (r ∷ rs) (s ∷ ss) a x k e d w p = ap (λ (y : List ℕ). otherwise (if bytes_eq x y then Some r.1 else listed rs x) d w p) a.0 ∙ by_test (bytes_eq x s.0) e (λ q. same_kind rs ss a.1.1 x k q d w p)
  where
    by_test : (b : Bool) → (if b then Some s.1 else listed ss x) ≡ Some k → (listed ss x ≡ Some k → otherwise (listed rs x) d w p ≡ meaning k w p) → otherwise (if b then Some r.1 else listed rs x) d w p ≡ meaning k w p
    by_test true e on = let same : s.1 ≡ k = cc in a.1.0 w p ∙ ap (λ (j : Kind). meaning j w p) same
    by_test false e on = on e

pub no_kind : (rs : List Row) (ss : List (List ℕ × Kind)) → Agree rs ss → (x : List ℕ) → listed ss x ≡ None → listed rs x ≡ None
no_kind [] [] a x e = refl
no_kind [] (s ∷ ss) a x e = absurd a
no_kind (r ∷ rs) [] a x e = absurd a
no_kind (r ∷ rs) (s ∷ ss) a x e = ap (λ (y : List ℕ). if bytes_eq x y then Some r.1 else listed rs x) a.0 ∙ by_test (bytes_eq x s.0) e (no_kind rs ss a.1.1 x)
  where
    by_test : (b : Bool) → (if b then Some s.1 else listed ss x) ≡ None → (listed ss x ≡ None → listed rs x ≡ None) → (if b then Some r.1 else listed rs x) ≡ None
    by_test true e on = absurd (cc)
    by_test false e on = on e
