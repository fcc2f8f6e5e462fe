-- Each step lessens something.
use Rattle.std.proofs.Common.{◌≡◌, ◌≢◌, ℕ, suc, ◌+◌, ◌<◌, ◌≤◌, List, [], ◌∷◌, Bool, true, false, cond, not, ◌&&◌, ◌||◌, Option, Some, None, refl, sym, ◌∙◌, ap, arith}
use Rattle.std.specs.List.{list_all}
use Rattle.std.proofs.lemmas.Bool.{and_parts, false≢true, false_from_ne_true}
use Rattle.ab_term.specs.Terms.{Variable, Head, constant, logical, nominal, variable, index, Term, lam, spine, Terms, no_terms, term}
use Rattle.ab_term.specs.Sameness.{same_numbered, same_head, same_term, same_terms}
use Rattle.ab_term.specs.Abstraction.{among}
use Rattle.ab_term.specs.Types.{arity}
use Rattle.ab_term.specs.Sizes.{size, sizes}
use Rattle.ab_term.proofs.Same.{same_numbered-Decides, same_terms-Decides}
use Rattle.ab_unifiers.specs.Patterns.{pattern, applied}
use Rattle.ab_unifiers.specs.Replacements.{Cell, holds, is_flexible, has_patterns, occurs, no_foreign, pruned}
use Rattle.ab_unifiers.specs.Unification.{Equation, Result, clash, parts, replaced, or_else, paired, equal_sides, bodies, rigid_heads, is_older, agreeing, begun, unchanged, put_in, pattern_of, pattern_and_rigid, same_variable_at, one_variable, joined_at, two_at, two_variables, either_way, rule, Found, first_found, found_at}
use Rattle.ab_unifiers.proofs.Measures.{total}
use Rattle.ab_unifiers.proofs.Views.{IsPattern, is_pattern, pattern_length, agreeing_all, agreeing_length}
use Rattle.ab_unifiers.proofs.Falling.{Shrinks, fewer, narrower, some_size, without_loses, older_holds, kept_type-less, narrowed_shrinks, pruned_not_more, joined_fewer}

module _ {Hint : Type 0} where
  abbrev pub OnResult : (Result Hint → Type 0) → Option (Result Hint) → Type 0
  OnResult P None = Unit {0}
  OnResult P (Some r) = P r

  pub on_or_else : (P : Result Hint → Type 0) (o q : Option (Result Hint)) → OnResult P o → OnResult P q → OnResult P (or_else o q)
  on_or_else P None q a b = b
  on_or_else P (Some r) q a b = a

  pub on_or_else_then : (P : Result Hint → Type 0) (o q : Option (Result Hint)) → OnResult P o → (o ≡ None → OnResult P q) → OnResult P (or_else o q)
  on_or_else_then P None q a b = b refl
  on_or_else_then P (Some r) q a b = a

  pub on_cond : (P : Result Hint → Type 0) (b : Bool) (o q : Option (Result Hint)) → (b ≡ true → OnResult P o) → (b ≡ false → OnResult P q) → OnResult P (cond b o q)
  on_cond P true o q f g = f refl
  on_cond P false o q f g = g refl

  -- a result for an equation of this size
  abbrev pub Lessens : List (Variable ℕ) → ℕ → Result Hint → Type 0
  Lessens ys n clash = Unit {0}
  Lessens ys n (parts es) = total es < n
  Lessens ys n (replaced c) = Shrinks ys c.flexible

  equal_lessens : (ys : List (Variable ℕ)) (e : Equation Hint) → OnResult (Lessens ys (size e.left + size e.right)) (equal_sides e)
  equal_lessens ys e = on_cond (Lessens ys (size e.left + size e.right)) (same_term e.left e.right) (Some (parts [])) None (λ f. omega (arith, some_size e.left)) (λ f. tt)

  bodies_lessen : (ys : List (Variable ℕ)) (p : ℕ) (t u : Term ℕ Hint) → OnResult (Lessens ys (size t + size u)) (bodies p t u)
  bodies_lessen ys p (lam A x t) (lam B y u) = omega arith
  bodies_lessen ys p (lam A x t) (spine h us) = tt
  bodies_lessen ys p (spine h ts) u = tt

  paired_total : (p : ℕ) (ts us : Terms ℕ Hint) → total (paired p ts us) ≤ sizes ts + sizes us
  paired_total p no_terms us = omega arith
  paired_total p (term t ts) no_terms = omega arith
  paired_total p (term t ts) (term u us) = omega (arith, paired_total p ts us)

  heads_lessen : (ys : List (Variable ℕ)) (p : ℕ) (t u : Term ℕ Hint) → OnResult (Lessens ys (size t + size u)) (rigid_heads ys p t u)
  heads_lessen ys p (lam A x t) u = tt
  heads_lessen ys p (spine g ts) (lam B y u) = tt
  heads_lessen ys p (spine g ts) (spine h us) =
      on_cond (Lessens ys (size (spine g ts) + size (spine h us))) (is_flexible ys g || is_flexible ys h) None (Some (cond (same_head g h) (parts (paired p ts us)) clash)) (λ e. tt) (λ e. go (same_head g h))
    where
      go : (b : Bool) → Lessens ys (suc (sizes ts) + suc (sizes us)) (cond b (parts (paired p ts us)) clash)
      go true = omega (arith, paired_total p ts us)
      go false = tt

module _ {Hint : Type 0} (x : Hint) (cells : List (Cell Hint)) (ys : List (Variable ℕ)) (n : ℕ) where
  pattern_of_lessens : (y : Variable ℕ) (t : Term ℕ Hint) (o : Option (List (Head ℕ))) → holds ys y ≡ true → OnResult (Lessens ys n) (pattern_of x cells ys y t o)
  pattern_of_lessens y t None h = tt
  pattern_of_lessens y t (Some names) h =
      on_cond (Lessens ys n) (has_patterns ys t) (Some (cond (occurs y t || not (no_foreign ys names t)) clash (replaced (put_in x cells ys y names t (pruned x ys names t (begun x cells ys y)))))) None (λ e. go (occurs y t || not (no_foreign ys names t))) (λ e. tt)
    where
      go : (b : Bool) → Lessens ys n (cond b clash (replaced (put_in x cells ys y names t (pruned x ys names t (begun x cells ys y)))))
      go true = tt
      go false =
          let gone = without_loses y ys h in
          let less = pruned_not_more x ys names t (begun x cells ys y) in
          fewer (omega (arith, gone.count, less.count))

  rigid_lessens : (t u : Term ℕ Hint) → OnResult (Lessens ys n) (pattern_and_rigid x cells ys t u)
  rigid_lessens (spine (variable y) ts) (spine h us) =
      on_cond (Lessens ys n) (holds ys y && not (is_flexible ys h)) (pattern_of x cells ys y (spine h us) (pattern y.type ts)) None
      (λ e. pattern_of_lessens y (spine h us) (pattern y.type ts) ((and_parts (holds ys y) (not (is_flexible ys h)) e).0)) (λ e. tt)
  rigid_lessens (spine (variable y) ts) (lam A z u) = tt
  rigid_lessens (spine (constant c) ts) u = tt
  rigid_lessens (spine (logical l) ts) u = tt
  rigid_lessens (spine (nominal a) ts) u = tt
  rigid_lessens (spine (index i) ts) u = tt
  rigid_lessens (lam A z t) u = tt

  one_at_lessens : (y z : Variable ℕ) (ts us : Terms ℕ Hint) (o q : Option (List (Head ℕ))) → pattern y.type ts ≡ o → pattern z.type us ≡ q → holds ys y ≡ true → y ≡ z → same_terms ts us ≡ false → OnResult (Lessens ys n) (same_variable_at x cells ys y o q)
  one_at_lessens y z ts us None q e f h s d = tt
  one_at_lessens y z ts us (Some names) None e f h s d = tt
  one_at_lessens y z ts us (Some names) (Some others) e f h s d =
      let first : IsPattern y.type ts names = is_pattern y.type ts names e in
      let second : IsPattern y.type us others = is_pattern y.type us others (ap (λ v. pattern v.type us) s ∙ f) in
      let some : list_all (λ b. b) (agreeing names others) ≡ false = false_from_ne_true (list_all (λ b. b) (agreeing names others)) (λ all. false≢true (sym d ∙ (same_terms-Decides ts us).1 (agreeing_all first second all))) in
      let less = kept_type-less (agreeing names others) y.type (agreeing_length names others (arity y.type) (pattern_length first) (pattern_length second)) some in
      let s = narrowed_shrinks x y names (agreeing names others) (unchanged x cells ys) h less in
      narrower s.0 s.1

  one_lessens : (t u : Term ℕ Hint) → same_term t u ≡ false → OnResult (Lessens ys n) (one_variable x cells ys t u)
  one_lessens (spine (variable y) ts) (spine (variable z) us) d =
      on_cond (Lessens ys n) (holds ys y && same_numbered y z) (same_variable_at x cells ys y (pattern y.type ts) (pattern z.type us)) None
      (λ e.
      let parts = and_parts (holds ys y) (same_numbered y z) e in
      one_at_lessens y z ts us (pattern y.type ts) (pattern z.type us) refl refl parts.0 ((same_numbered-Decides y z).0 parts.1) (sym (ap (λ b. b && same_terms ts us) parts.1) ∙ d))
      (λ e. tt)
  one_lessens (spine (variable y) ts) (spine (constant c) us) d = tt
  one_lessens (spine (variable y) ts) (spine (logical c) us) d = tt
  one_lessens (spine (variable y) ts) (spine (nominal c) us) d = tt
  one_lessens (spine (variable y) ts) (spine (index c) us) d = tt
  one_lessens (spine (variable y) ts) (lam A z u) d = tt
  one_lessens (spine (constant c) ts) u d = tt
  one_lessens (spine (logical l) ts) u d = tt
  one_lessens (spine (nominal a) ts) u d = tt
  one_lessens (spine (index i) ts) u d = tt
  one_lessens (lam A z t) u d = tt

  two_at_lessens : (y z : Variable ℕ) (o q : Option (List (Head ℕ))) → holds ys z ≡ true → (holds ys y ≡ true) × (y ≢ z) → OnResult (Lessens ys n) (two_at x cells ys y o z q)
  two_at_lessens y z None q h older = tt
  two_at_lessens y z (Some names) None h older = tt
  two_at_lessens y z (Some names) (Some others) h older = go (list_all (among others) names) (list_all (among names) others)
    where
      go : (b c : Bool) → Shrinks ys (cond b (put_in x cells ys z others (applied x y names) (begun x cells ys z)) (cond c (put_in x cells ys y names (applied x z others) (begun x cells ys y)) (joined_at x cells ys y names z others))).flexible
      go true c = fewer ((without_loses z ys h).count)
      go false true = fewer ((without_loses y ys older.0).count)
      go false false = fewer (joined_fewer x cells ys y names z others older.0 h older.1)

  two_lessens : (t u : Term ℕ Hint) → OnResult (Lessens ys n) (two_variables x cells ys t u)
  two_lessens (spine (variable y) ts) (spine (variable z) us) =
      on_cond (Lessens ys n) (holds ys z && is_older ys y z) (two_at x cells ys y (pattern y.type ts) z (pattern z.type us)) None
      (λ e.
      let parts = and_parts (holds ys z) (is_older ys y z) e in
      two_at_lessens y z (pattern y.type ts) (pattern z.type us) parts.0 (older_holds ys y z parts.1))
      (λ e. tt)
  two_lessens (spine (variable y) ts) (spine (constant c) us) = tt
  two_lessens (spine (variable y) ts) (spine (logical c) us) = tt
  two_lessens (spine (variable y) ts) (spine (nominal c) us) = tt
  two_lessens (spine (variable y) ts) (spine (index c) us) = tt
  two_lessens (spine (variable y) ts) (lam A z u) = tt
  two_lessens (spine (constant c) ts) u = tt
  two_lessens (spine (logical l) ts) u = tt
  two_lessens (spine (nominal a) ts) u = tt
  two_lessens (spine (index i) ts) u = tt
  two_lessens (lam A z t) u = tt

module _ {Hint : Type 0} where
  none_then_different : (e : Equation Hint) → equal_sides e ≡ None → same_term e.left e.right ≡ false
  none_then_different e f = false_from_ne_true (same_term e.left e.right) (λ s. let both : Some (parts []) ≡ None = sym (ap (λ b. cond b (Some (parts [])) None) s) ∙ f in cc)

module _ {Hint : Type 0} (x : Hint) (cells : List (Cell Hint)) (ys : List (Variable ℕ)) where
  pub rule_lessens : (e : Equation Hint) → OnResult (Lessens ys (size e.left + size e.right)) (rule x cells ys e)
  rule_lessens e =
      let n = size e.left + size e.right in
      on_or_else_then (Lessens ys n) (equal_sides e) _ (equal_lessens ys e) (λ none.
      on_or_else (Lessens ys n) (bodies e.place e.left e.right) _ (bodies_lessen ys e.place e.left e.right)
      (on_or_else (Lessens ys n) (rigid_heads ys e.place e.left e.right) _ (heads_lessen ys e.place e.left e.right)
      (on_or_else (Lessens ys n) (either_way x cells ys (pattern_and_rigid x cells ys) e) _
      (on_or_else (Lessens ys n) (pattern_and_rigid x cells ys e.left e.right) (pattern_and_rigid x cells ys e.right e.left) (rigid_lessens x cells ys n e.left e.right) (rigid_lessens x cells ys n e.right e.left))
      (on_or_else (Lessens ys n) (one_variable x cells ys e.left e.right) _ (one_lessens x cells ys n e.left e.right (none_then_different e none))
      (on_or_else (Lessens ys n) (two_variables x cells ys e.left e.right) (two_variables x cells ys e.right e.left) (two_lessens x cells ys n e.left e.right) (two_lessens x cells ys n e.right e.left))))))

  -- a result, for the equation between the others, which together have this size
  pub record FoundAt (n : ℕ) (f : Found Hint) : Type 0 where
    pub at : ℕ
    pub lessens : Lessens ys at f.result
    pub whole : total f.before + at + total f.behind ≡ n

  abbrev pub OnFound : (Found Hint → Type 0) → Option (Found Hint) → Type 0
  OnFound P None = Unit {0}
  OnFound P (Some f) = P f

  found_lessens : (e : Equation Hint) (es : List (Equation Hint)) (r : Option (Result Hint)) (o : Option (Found Hint)) → OnResult (Lessens ys (size e.left + size e.right)) r → OnFound (FoundAt (total es)) o → OnFound (FoundAt (total (e ∷ es))) (found_at e es r o)
  found_lessens e es None None a b = tt
  found_lessens e es None (Some f) a b = record { at = b.at; lessens = b.lessens; whole = omega (arith, b.whole) }
  found_lessens e es (Some r) o a b = record { at = size e.left + size e.right; lessens = a; whole = omega arith }

  pub first_lessens : (es : List (Equation Hint)) → OnFound (FoundAt (total es)) (first_found (rule x cells ys) es)
  first_lessens [] = tt
  first_lessens (e ∷ es) = found_lessens e es (rule x cells ys e) (first_found (rule x cells ys) es) (rule_lessens e) (first_lessens es)
