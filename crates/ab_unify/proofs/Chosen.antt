-- Which of the rules at flexible terms applies, by the heads.
use Rattle.std.proofs.Common.{◌≡◌, ◌≢◌, ℕ, List, [], ◌∷◌, Bool, true, false, cond, ◌&&◌, ◌||◌, not, Option, Some, None, codes, refl, sym, ◌∙◌, ap}
use Rattle.std.proofs.lemmas.Bool.{false≢true, false_from_ne_true}
use Rattle.ab_term.specs.Types.{Ty}
use Rattle.ab_term.specs.Terms.{Variable, Head, constant, logical, nominal, variable, index, Term, Terms, lam, spine}
use Rattle.ab_term.specs.Sameness.{same_numbered, same_head}
use Rattle.ab_term.proofs.Same.{same_numbered-Decides}
use Rattle.ab_patterns.specs.ab_unifiers.specs.Patterns.{pattern}
use Rattle.ab_patterns.specs.ab_unifiers.specs.Replacements.{Cell, holds, is_flexible}
use Rattle.ab_patterns.specs.ab_unifiers.specs.Unification.{Result, clash, parts, paired, or_else, is_older, rigid_heads, pattern_of, pattern_and_rigid, same_variable_at, one_variable, two_at, two_variables}
use Rattle.ab_patterns.specs.ab_unifiers.proofs.Falling.{older_holds}
use Rattle.ab_unify.specs.Outcome.{last_rules}

abbrev Bytes : Type 0
Bytes = List ℕ

or_none : (o : Option (Result Bytes)) → or_else o None ≡ o
or_none None = refl
or_none (Some r) = refl

module _ (cells : List (Cell Bytes)) (ys : List (Variable ℕ)) where
  together : {a b c d e : Option (Result Bytes)} {p q r s t : Option (Result Bytes)} → a ≡ p → b ≡ q → c ≡ r → d ≡ s → e ≡ t → or_else (or_else a b) (or_else c (or_else d e)) ≡ or_else (or_else p q) (or_else r (or_else s t))
  together {a = a} {b = b} {c = c} {d = d} {e = e} {p = p} {q = q} {r = r} {s = s} f g h i j =
      ap (λ o. or_else (or_else o b) (or_else c (or_else d e))) f
      ∙ ap (λ o. or_else (or_else p o) (or_else c (or_else d e))) g
      ∙ ap (λ o. or_else (or_else p q) (or_else o (or_else d e))) h
      ∙ ap (λ o. or_else (or_else p q) (or_else r (or_else o e))) i
      ∙ ap (λ o. or_else (or_else p q) (or_else r (or_else s o))) j

  and_false : (b : Bool) → (b && false) ≡ false
  and_false true = refl
  and_false false = refl

  -- a rigid head first
  rigid_first : (h g : Head ℕ) (us ts : Terms ℕ Bytes) → is_flexible ys h ≡ false → pattern_and_rigid (codes "x") cells ys (spine h us) (spine g ts) ≡ None
  rigid_first (constant c) g us ts e = refl
  rigid_first (logical l) g us ts e = refl
  rigid_first (nominal a) g us ts e = refl
  rigid_first (variable z) g us ts e = ap (λ b. cond (b && not (is_flexible ys g)) (pattern_of (codes "x") cells ys z (spine g ts) (pattern z.type us)) None) e
  rigid_first (index i) g us ts e = refl

  rigid_one : (h : Head ℕ) (y : Variable ℕ) (us ts : Terms ℕ Bytes) → is_flexible ys h ≡ false → one_variable (codes "x") cells ys (spine h us) (spine (variable y) ts) ≡ None
  rigid_one (constant c) y us ts e = refl
  rigid_one (logical l) y us ts e = refl
  rigid_one (nominal a) y us ts e = refl
  rigid_one (variable z) y us ts e = ap (λ b. cond (b && same_numbered z y) (same_variable_at (codes "x") cells ys z (pattern z.type us) (pattern y.type ts)) None) e
  rigid_one (index i) y us ts e = refl

  one_rigid : (y : Variable ℕ) (h : Head ℕ) (ts us : Terms ℕ Bytes) → holds ys y ≡ true → is_flexible ys h ≡ false → one_variable (codes "x") cells ys (spine (variable y) ts) (spine h us) ≡ None
  one_rigid y (constant c) ts us h e = refl
  one_rigid y (logical l) ts us h e = refl
  one_rigid y (nominal a) ts us h e = refl
  one_rigid y (variable z) ts us h e =
      let other : same_numbered y z ≡ false = false_from_ne_true (same_numbered y z) (λ s. false≢true (sym e ∙ ap (holds ys) (sym ((same_numbered-Decides y z).0 s)) ∙ h)) in
      ap (λ b. cond (b && same_numbered y z) (same_variable_at (codes "x") cells ys y (pattern y.type ts) (pattern z.type us)) None) h
      ∙ ap (λ b. cond b (same_variable_at (codes "x") cells ys y (pattern y.type ts) (pattern z.type us)) None) other
  one_rigid y (index i) ts us h e = refl

  not_older : (y z : Variable ℕ) → holds ys y ≡ false → is_older ys y z ≡ false
  not_older y z e = false_from_ne_true (is_older ys y z) (λ o. false≢true (sym e ∙ (older_holds ys y z o).0))

  -- a rigid head on one side of two patterns
  two_rigid : (y : Variable ℕ) (h : Head ℕ) (ts us : Terms ℕ Bytes) → is_flexible ys h ≡ false → two_variables (codes "x") cells ys (spine (variable y) ts) (spine h us) ≡ None
  two_rigid y (constant c) ts us e = refl
  two_rigid y (logical l) ts us e = refl
  two_rigid y (nominal a) ts us e = refl
  two_rigid y (variable z) ts us e = ap (λ b. cond (b && is_older ys y z) (two_at (codes "x") cells ys y (pattern y.type ts) z (pattern z.type us)) None) e
  two_rigid y (index i) ts us e = refl

  rigid_two : (h : Head ℕ) (y : Variable ℕ) (us ts : Terms ℕ Bytes) → is_flexible ys h ≡ false → two_variables (codes "x") cells ys (spine h us) (spine (variable y) ts) ≡ None
  rigid_two (constant c) y us ts e = refl
  rigid_two (logical l) y us ts e = refl
  rigid_two (nominal a) y us ts e = refl
  rigid_two (variable z) y us ts e =
      ap (λ b. cond (holds ys y && b) (two_at (codes "x") cells ys z (pattern z.type us) y (pattern y.type ts)) None) (not_older z y e)
      ∙ ap (λ b. cond b (two_at (codes "x") cells ys z (pattern z.type us) y (pattern y.type ts)) None) (and_false (holds ys y))
  rigid_two (index i) y us ts e = refl

  rigid_there : (y : Variable ℕ) (h : Head ℕ) (ts us : Terms ℕ Bytes) → holds ys y ≡ true → is_flexible ys h ≡ false → pattern_and_rigid (codes "x") cells ys (spine (variable y) ts) (spine h us) ≡ pattern_of (codes "x") cells ys y (spine h us) (pattern y.type ts)
  rigid_there y h ts us e f =
      ap (λ b. cond (b && not (is_flexible ys h)) (pattern_of (codes "x") cells ys y (spine h us) (pattern y.type ts)) None) e
      ∙ ap (λ b. cond (not b) (pattern_of (codes "x") cells ys y (spine h us) (pattern y.type ts)) None) f

  pub on_left : (y : Variable ℕ) (h : Head ℕ) (ts us : Terms ℕ Bytes) → holds ys y ≡ true → is_flexible ys h ≡ false → last_rules cells ys (spine (variable y) ts) (spine h us) ≡ pattern_of (codes "x") cells ys y (spine h us) (pattern y.type ts)
  on_left y h ts us e f =
      together (rigid_there y h ts us e f) (rigid_first h (variable y) us ts f) (one_rigid y h ts us e f) (two_rigid y h ts us f) (rigid_two h y us ts f)
      ∙ or_none (or_else (pattern_of (codes "x") cells ys y (spine h us) (pattern y.type ts)) None)
      ∙ or_none (pattern_of (codes "x") cells ys y (spine h us) (pattern y.type ts))

  pub on_right : (y : Variable ℕ) (h : Head ℕ) (ts us : Terms ℕ Bytes) → holds ys y ≡ true → is_flexible ys h ≡ false → last_rules cells ys (spine h us) (spine (variable y) ts) ≡ pattern_of (codes "x") cells ys y (spine h us) (pattern y.type ts)
  on_right y h ts us e f =
      together (rigid_first h (variable y) us ts f) (rigid_there y h ts us e f) (rigid_one h y us ts f) (rigid_two h y us ts f) (two_rigid y h ts us f)
      ∙ or_none (pattern_of (codes "x") cells ys y (spine h us) (pattern y.type ts))

  -- two flexible heads: the rule on a rigid term applies neither way
  both_flexible : (y z : Variable ℕ) (ts us : Terms ℕ Bytes) → holds ys z ≡ true → pattern_and_rigid (codes "x") cells ys (spine (variable y) ts) (spine (variable z) us) ≡ None
  both_flexible y z ts us e =
      ap (λ b. cond (holds ys y && not b) (pattern_of (codes "x") cells ys y (spine (variable z) us) (pattern y.type ts)) None) e
      ∙ ap (λ b. cond b (pattern_of (codes "x") cells ys y (spine (variable z) us) (pattern y.type ts)) None) (and_false (holds ys y))

  same_not_older : (y : Variable ℕ) → is_older ys y y ≡ false
  same_not_older y = false_from_ne_true (is_older ys y y) (λ o. (older_holds ys y y o).1 refl)

  two_not : (y z : Variable ℕ) (ts us : Terms ℕ Bytes) → is_older ys y z ≡ false → two_variables (codes "x") cells ys (spine (variable y) ts) (spine (variable z) us) ≡ None
  two_not y z ts us e =
      ap (λ b. cond (holds ys z && b) (two_at (codes "x") cells ys y (pattern y.type ts) z (pattern z.type us)) None) e
      ∙ ap (λ b. cond b (two_at (codes "x") cells ys y (pattern y.type ts) z (pattern z.type us)) None) (and_false (holds ys z))

  pub one_on_both : (y : Variable ℕ) (ts us : Terms ℕ Bytes) → holds ys y ≡ true → last_rules cells ys (spine (variable y) ts) (spine (variable y) us) ≡ same_variable_at (codes "x") cells ys y (pattern y.type ts) (pattern y.type us)
  one_on_both y ts us e =
      together (both_flexible y y ts us e) (both_flexible y y us ts e)
      (ap (λ b. cond (b && same_numbered y y) (same_variable_at (codes "x") cells ys y (pattern y.type ts) (pattern y.type us)) None) e
      ∙ ap (λ b. cond b (same_variable_at (codes "x") cells ys y (pattern y.type ts) (pattern y.type us)) None) ((same_numbered-Decides y y).1 refl))
      (two_not y y ts us (same_not_older y)) (two_not y y us ts (same_not_older y))
      ∙ or_none (same_variable_at (codes "x") cells ys y (pattern y.type ts) (pattern y.type us))

  one_not : (y z : Variable ℕ) (ts us : Terms ℕ Bytes) → y ≢ z → one_variable (codes "x") cells ys (spine (variable y) ts) (spine (variable z) us) ≡ None
  one_not y z ts us n =
      ap (λ b. cond (holds ys y && b) (same_variable_at (codes "x") cells ys y (pattern y.type ts) (pattern z.type us)) None) (false_from_ne_true (same_numbered y z) (λ s. n ((same_numbered-Decides y z).0 s)))
      ∙ ap (λ b. cond b (same_variable_at (codes "x") cells ys y (pattern y.type ts) (pattern z.type us)) None) (and_false (holds ys y))

  two_there : (y z : Variable ℕ) (ts us : Terms ℕ Bytes) → holds ys z ≡ true → is_older ys y z ≡ true → two_variables (codes "x") cells ys (spine (variable y) ts) (spine (variable z) us) ≡ two_at (codes "x") cells ys y (pattern y.type ts) z (pattern z.type us)
  two_there y z ts us e f =
      ap (λ b. cond (b && is_older ys y z) (two_at (codes "x") cells ys y (pattern y.type ts) z (pattern z.type us)) None) e
      ∙ ap (λ b. cond b (two_at (codes "x") cells ys y (pattern y.type ts) z (pattern z.type us)) None) f

  pub older_on_left : (y z : Variable ℕ) (ts us : Terms ℕ Bytes) → y ≢ z → holds ys y ≡ true → holds ys z ≡ true → is_older ys y z ≡ true → is_older ys z y ≡ false
      → last_rules cells ys (spine (variable y) ts) (spine (variable z) us) ≡ two_at (codes "x") cells ys y (pattern y.type ts) z (pattern z.type us)
  older_on_left y z ts us n e f o p =
      together (both_flexible y z ts us f) (both_flexible z y us ts e) (one_not y z ts us n) (two_there y z ts us f o) (two_not z y us ts p)
      ∙ or_none (two_at (codes "x") cells ys y (pattern y.type ts) z (pattern z.type us))

  pub older_on_right : (y z : Variable ℕ) (ts us : Terms ℕ Bytes) → y ≢ z → holds ys y ≡ true → holds ys z ≡ true → is_older ys y z ≡ false → is_older ys z y ≡ true
      → last_rules cells ys (spine (variable y) ts) (spine (variable z) us) ≡ two_at (codes "x") cells ys z (pattern z.type us) y (pattern y.type ts)
  older_on_right y z ts us n e f o p =
      together (both_flexible y z ts us f) (both_flexible z y us ts e) (one_not y z ts us n) (two_not y z ts us o) (two_there z y us ts e p)

  pub lam_left : (A : Ty) (x : Bytes) (t u : Term ℕ Bytes) → last_rules cells ys (lam A x t) u ≡ None
  lam_left A x t (lam B y u) = refl
  lam_left A x t (spine (constant c) us) = refl
  lam_left A x t (spine (logical l) us) = refl
  lam_left A x t (spine (nominal a) us) = refl
  lam_left A x t (spine (variable y) us) = refl
  lam_left A x t (spine (index i) us) = refl

  pub lam_right : (h : Head ℕ) (us : Terms ℕ Bytes) (A : Ty) (x : Bytes) (t : Term ℕ Bytes) → last_rules cells ys (spine h us) (lam A x t) ≡ None
  lam_right (constant c) us A x t = refl
  lam_right (logical l) us A x t = refl
  lam_right (nominal a) us A x t = refl
  lam_right (variable y) us A x t = refl
  lam_right (index i) us A x t = refl

-- of two different variables of the list, one is older
pub one_is_older : (ys : List (Variable ℕ)) (y z : Variable ℕ) → holds ys y ≡ true → holds ys z ≡ true → y ≢ z → is_older ys z y ≡ not (is_older ys y z)
one_is_older [] y z e f n = absurd (false≢true e)
one_is_older (v ∷ vs) y z e f n = go (same_numbered v y) (same_numbered v z) refl refl e f (one_is_older vs y z)
  where
    go : (a b : Bool) → same_numbered v y ≡ a → same_numbered v z ≡ b → (a || holds vs y) ≡ true → (b || holds vs z) ≡ true → (holds vs y ≡ true → holds vs z ≡ true → y ≢ z → is_older vs z y ≡ not (is_older vs y z))
        → cond b (not a) (cond a false (is_older vs z y)) ≡ not (cond a (not b) (cond b false (is_older vs y z)))
    go true true p q e f rest = absurd (n (sym ((same_numbered-Decides v y).0 p) ∙ (same_numbered-Decides v z).0 q))
    go true false p q e f rest = refl
    go false true p q e f rest = refl
    go false false p q e f rest = rest e f n

-- two heads of which neither is flexible are no matter of these rules
pub both_rigid : (ys : List (Variable ℕ)) (place : ℕ) (g h : Head ℕ) (ts us : Terms ℕ Bytes) → is_flexible ys g ≡ false → is_flexible ys h ≡ false → rigid_heads ys place (spine g ts) (spine h us) ≡ None → ⊥
both_rigid ys place g h ts us e f n = no_result (sym (ap (λ b. cond (b || is_flexible ys h) None (Some (cond (same_head g h) (parts (paired place ts us)) clash))) e ∙ ap (λ b. cond b None (Some (cond (same_head g h) (parts (paired place ts us)) clash))) f) ∙ n)
  where
    no_result : {r : Result Bytes} → Some r ≡ None → ⊥
    no_result q = absurd (cc)
