-- A rule, seen by what it was and what it gives: one case for each.
use Rattle.std.proofs.Common.{◌≡◌, ℕ, List, [], ◌∷◌, Bool, true, false, cond, ◌&&◌, ◌||◌, not, Option, Some, None, refl, ◌∙◌, ap, subst}
use Rattle.std.specs.List.{list_all}
use Rattle.std.proofs.lemmas.Bool.{and_parts, or_parts, not-true}
use Rattle.ab_term.specs.Terms.{Variable, Head, constant, logical, nominal, variable, index, Term, lam, spine, Terms}
use Rattle.ab_term.specs.Types.{Ty}
use Rattle.ab_term.specs.Sameness.{same_numbered, same_head, same_term}
use Rattle.ab_term.specs.Abstraction.{among}
use Rattle.ab_term.proofs.Same.{same_numbered-Decides}
use Rattle.ab_unifiers.specs.Patterns.{pattern, applied}
use Rattle.ab_unifiers.specs.Replacements.{Cell, Change, holds, is_flexible, has_patterns, occurs, no_foreign, narrowed, pruned}
use Rattle.ab_unifiers.specs.Unification.{Equation, Result, clash, parts, replaced, paired, equal_sides, bodies, rigid_heads, is_older, agreeing, begun, unchanged, put_in, pattern_of, pattern_and_rigid, same_variable_at, one_variable, joined_at, two_at, two_variables, either_way, rule}
use Rattle.ab_unifiers.proofs.Views.{IsPattern, is_pattern}
use Rattle.ab_unifiers.proofs.Falling.{older_holds}
use Rattle.ab_unifiers.proofs.Steps.{OnResult, on_or_else, on_cond}

module _ {Hint : Type 0} (x : Hint) (cells : List (Cell Hint)) (ys : List (Variable ℕ)) where
  -- what is replaced, for these two terms
  pub data Replaces : Term ℕ Hint → Term ℕ Hint → Change Hint → Type 0 where
    -- 4. a pattern is solved for
    is_solved : {y : Variable ℕ} {ts : Terms ℕ Hint} {h : Head ℕ} {us : Terms ℕ Hint} {names : List (Head ℕ)} → holds ys y ≡ true → is_flexible ys h ≡ false → IsPattern y.type ts names → has_patterns ys (spine h us) ≡ true
        → Replaces (spine (variable y) ts) (spine h us) (put_in x cells ys y names (spine h us) (pruned x ys names (spine h us) (begun x cells ys y)))
    -- 5. one variable
    is_narrowed : {y : Variable ℕ} {ts us : Terms ℕ Hint} {names others : List (Head ℕ)} → holds ys y ≡ true → IsPattern y.type ts names → IsPattern y.type us others
        → Replaces (spine (variable y) ts) (spine (variable y) us) (narrowed x y names (agreeing names others) (unchanged x cells ys))
    -- 6. two variables
    is_put : {y z : Variable ℕ} {ts us : Terms ℕ Hint} {names others : List (Head ℕ)} → holds ys y ≡ true → holds ys z ≡ true → IsPattern y.type ts names → IsPattern z.type us others
        → Replaces (spine (variable y) ts) (spine (variable z) us) (put_in x cells ys z others (applied x y names) (begun x cells ys z))
    are_joined : {y z : Variable ℕ} {ts us : Terms ℕ Hint} {names others : List (Head ℕ)} → holds ys y ≡ true → holds ys z ≡ true → IsPattern y.type ts names → IsPattern z.type us others
        → Replaces (spine (variable y) ts) (spine (variable z) us) (joined_at x cells ys y names z others)
    the_other_way : {t u : Term ℕ Hint} {c : Change Hint} → Replaces u t c → Replaces t u c

  -- what a rule gives for these two terms
  pub data Gives : Term ℕ Hint → Term ℕ Hint → Result Hint → Type 0 where
    is_clash : {t u : Term ℕ Hint} → Gives t u clash
    are_equal : {t u : Term ℕ Hint} → same_term t u ≡ true → Gives t u (parts [])
    are_bodies : {A B : Ty} {y z : Hint} {t u : Term ℕ Hint} (p : ℕ) → Gives (lam A y t) (lam B z u) (parts (record { place = p; left = t; right = u } ∷ []))
    are_heads : {g h : Head ℕ} {ts us : Terms ℕ Hint} (p : ℕ) → is_flexible ys g ≡ false → is_flexible ys h ≡ false → same_head g h ≡ true → Gives (spine g ts) (spine h us) (parts (paired p ts us))
    are_replaced : {t u : Term ℕ Hint} {c : Change Hint} → Replaces t u c → Gives t u (replaced c)

  -- a result that is a clash or a replacement
  abbrev pub Found : Term ℕ Hint → Term ℕ Hint → Result Hint → Type 0
  Found t u clash = Unit {0}
  Found t u (parts es) = ⊥
  Found t u (replaced c) = Replaces t u c

  pub found_back : (t u : Term ℕ Hint) (o : Option (Result Hint)) → OnResult (Found u t) o → OnResult (Found t u) o
  found_back t u None q = tt
  found_back t u (Some clash) q = tt
  found_back t u (Some (parts es)) q = absurd q
  found_back t u (Some (replaced c)) q = the_other_way q

  found_gives : (t u : Term ℕ Hint) (o : Option (Result Hint)) → OnResult (Found t u) o → OnResult (Gives t u) o
  found_gives t u None q = tt
  found_gives t u (Some clash) q = is_clash
  found_gives t u (Some (parts es)) q = absurd q
  found_gives t u (Some (replaced c)) q = are_replaced q

  equal_gives : (e : Equation Hint) → OnResult (Gives e.left e.right) (equal_sides e)
  equal_gives e = on_cond (Gives e.left e.right) (same_term e.left e.right) (Some (parts [])) None (λ q. are_equal q) (λ q. tt)

  bodies_give : (p : ℕ) (t u : Term ℕ Hint) → OnResult (Gives t u) (bodies p t u)
  bodies_give p (lam A y t) (lam B z u) = are_bodies p
  bodies_give p (lam A y t) (spine h us) = tt
  bodies_give p (spine g ts) u = tt

  heads_give : (p : ℕ) (t u : Term ℕ Hint) → OnResult (Gives t u) (rigid_heads ys p t u)
  heads_give p (lam A z t) u = tt
  heads_give p (spine g ts) (lam B z u) = tt
  heads_give p (spine g ts) (spine h us) =
      on_cond (Gives (spine g ts) (spine h us)) (is_flexible ys g || is_flexible ys h) None (Some (cond (same_head g h) (parts (paired p ts us)) clash)) (λ e. tt)
      (λ e. let rs = or_parts (is_flexible ys g) (is_flexible ys h) e in go rs.0 rs.1 (same_head g h) refl)
    where
      go : is_flexible ys g ≡ false → is_flexible ys h ≡ false → (b : Bool) → same_head g h ≡ b → Gives (spine g ts) (spine h us) (cond b (parts (paired p ts us)) clash)
      go r q true b = are_heads p r q b
      go r q false b = is_clash

  pattern_gives : (y : Variable ℕ) (ts : Terms ℕ Hint) (h : Head ℕ) (us : Terms ℕ Hint) (o : Option (List (Head ℕ))) → pattern y.type ts ≡ o → holds ys y ≡ true → is_flexible ys h ≡ false → OnResult (Found (spine (variable y) ts) (spine h us)) (pattern_of x cells ys y (spine h us) o)
  pattern_gives y ts h us None e held r = tt
  pattern_gives y ts h us (Some names) e held r =
      on_cond (Found (spine (variable y) ts) (spine h us)) (has_patterns ys (spine h us)) (Some (cond (occurs y (spine h us) || not (no_foreign ys names (spine h us))) clash (replaced (put_in x cells ys y names (spine h us) (pruned x ys names (spine h us) (begun x cells ys y)))))) None
      (λ hp. go (occurs y (spine h us) || not (no_foreign ys names (spine h us))) hp) (λ f. tt)
    where
      go : (b : Bool) → has_patterns ys (spine h us) ≡ true → Found (spine (variable y) ts) (spine h us) (cond b clash (replaced (put_in x cells ys y names (spine h us) (pruned x ys names (spine h us) (begun x cells ys y)))))
      go true hp = tt
      go false hp = is_solved held r (is_pattern y.type ts names e) hp

  pub rigid_gives : (t u : Term ℕ Hint) → OnResult (Found t u) (pattern_and_rigid x cells ys t u)
  rigid_gives (spine (variable y) ts) (spine h us) =
      on_cond (Found (spine (variable y) ts) (spine h us)) (holds ys y && not (is_flexible ys h)) (pattern_of x cells ys y (spine h us) (pattern y.type ts)) None
      (λ f. let ps = and_parts (holds ys y) (not (is_flexible ys h)) f in pattern_gives y ts h us (pattern y.type ts) refl ps.0 (not-true (is_flexible ys h) ps.1))
      (λ f. tt)
  rigid_gives (spine (variable y) ts) (lam A z u) = tt
  rigid_gives (spine (constant c) ts) u = tt
  rigid_gives (spine (logical l) ts) u = tt
  rigid_gives (spine (nominal a) ts) u = tt
  rigid_gives (spine (index i) ts) u = tt
  rigid_gives (lam A z t) u = tt

  one_at_gives : (y z : Variable ℕ) (ts us : Terms ℕ Hint) (o q : Option (List (Head ℕ))) → pattern y.type ts ≡ o → pattern z.type us ≡ q → holds ys y ≡ true → y ≡ z → OnResult (Found (spine (variable y) ts) (spine (variable z) us)) (same_variable_at x cells ys y o q)
  one_at_gives y z ts us None q e f h s = tt
  one_at_gives y z ts us (Some gs) None e f h s = tt
  one_at_gives y z ts us (Some gs) (Some hs) e f h s =
      subst (λ v. Replaces (spine (variable y) ts) (spine (variable v) us) (narrowed x y gs (agreeing gs hs) (unchanged x cells ys))) s
      (is_narrowed h (is_pattern y.type ts gs e) (is_pattern y.type us hs (ap (λ v. pattern v.type us) s ∙ f)))

  pub one_gives : (t u : Term ℕ Hint) → OnResult (Found t u) (one_variable x cells ys t u)
  one_gives (spine (variable y) ts) (spine (variable z) us) =
      on_cond (Found (spine (variable y) ts) (spine (variable z) us)) (holds ys y && same_numbered y z) (same_variable_at x cells ys y (pattern y.type ts) (pattern z.type us)) None
      (λ e. let ps = and_parts (holds ys y) (same_numbered y z) e in one_at_gives y z ts us (pattern y.type ts) (pattern z.type us) refl refl ps.0 ((same_numbered-Decides y z).0 ps.1))
      (λ e. tt)
  one_gives (spine (variable y) ts) (spine (constant c) us) = tt
  one_gives (spine (variable y) ts) (spine (logical c) us) = tt
  one_gives (spine (variable y) ts) (spine (nominal c) us) = tt
  one_gives (spine (variable y) ts) (spine (index c) us) = tt
  one_gives (spine (variable y) ts) (lam A z u) = tt
  one_gives (spine (constant c) ts) u = tt
  one_gives (spine (logical l) ts) u = tt
  one_gives (spine (nominal a) ts) u = tt
  one_gives (spine (index i) ts) u = tt
  one_gives (lam A z t) u = tt

  two_at_gives : (y z : Variable ℕ) (ts us : Terms ℕ Hint) (o q : Option (List (Head ℕ))) → pattern y.type ts ≡ o → pattern z.type us ≡ q → holds ys y ≡ true → holds ys z ≡ true → OnResult (Found (spine (variable y) ts) (spine (variable z) us)) (two_at x cells ys y o z q)
  two_at_gives y z ts us None q e f hy hz = tt
  two_at_gives y z ts us (Some gs) None e f hy hz = tt
  two_at_gives y z ts us (Some gs) (Some hs) e f hy hz = go (list_all (among hs) gs) (list_all (among gs) hs)
    where
      go : (b c : Bool) → Replaces (spine (variable y) ts) (spine (variable z) us) (cond b (put_in x cells ys z hs (applied x y gs) (begun x cells ys z)) (cond c (put_in x cells ys y gs (applied x z hs) (begun x cells ys y)) (joined_at x cells ys y gs z hs)))
      go true c = is_put hy hz (is_pattern y.type ts gs e) (is_pattern z.type us hs f)
      go false true = the_other_way (is_put hz hy (is_pattern z.type us hs f) (is_pattern y.type ts gs e))
      go false false = are_joined hy hz (is_pattern y.type ts gs e) (is_pattern z.type us hs f)

  pub two_gives : (t u : Term ℕ Hint) → OnResult (Found t u) (two_variables x cells ys t u)
  two_gives (spine (variable y) ts) (spine (variable z) us) =
      on_cond (Found (spine (variable y) ts) (spine (variable z) us)) (holds ys z && is_older ys y z) (two_at x cells ys y (pattern y.type ts) z (pattern z.type us)) None
      (λ f. let ps = and_parts (holds ys z) (is_older ys y z) f in two_at_gives y z ts us (pattern y.type ts) (pattern z.type us) refl refl (older_holds ys y z ps.1).0 ps.0)
      (λ f. tt)
  two_gives (spine (variable y) ts) (spine (constant c) us) = tt
  two_gives (spine (variable y) ts) (spine (logical c) us) = tt
  two_gives (spine (variable y) ts) (spine (nominal c) us) = tt
  two_gives (spine (variable y) ts) (spine (index c) us) = tt
  two_gives (spine (variable y) ts) (lam A z u) = tt
  two_gives (spine (constant c) ts) u = tt
  two_gives (spine (logical l) ts) u = tt
  two_gives (spine (nominal a) ts) u = tt
  two_gives (spine (index i) ts) u = tt
  two_gives (lam A z t) u = tt

  -- THE RULE, SEEN
  pub rule_gives : (e : Equation Hint) → OnResult (Gives e.left e.right) (rule x cells ys e)
  rule_gives e =
      let P = Gives e.left e.right in
      let F = Found e.left e.right in
      on_or_else P (equal_sides e) _ (equal_gives e)
      (on_or_else P (bodies e.place e.left e.right) _ (bodies_give e.place e.left e.right)
      (on_or_else P (rigid_heads ys e.place e.left e.right) _ (heads_give e.place e.left e.right)
      (on_or_else P (either_way x cells ys (pattern_and_rigid x cells ys) e) _
      (found_gives e.left e.right (either_way x cells ys (pattern_and_rigid x cells ys) e) (on_or_else F (pattern_and_rigid x cells ys e.left e.right) (pattern_and_rigid x cells ys e.right e.left) (rigid_gives e.left e.right) (found_back e.left e.right (pattern_and_rigid x cells ys e.right e.left) (rigid_gives e.right e.left))))
      (on_or_else P (one_variable x cells ys e.left e.right) _ (found_gives e.left e.right (one_variable x cells ys e.left e.right) (one_gives e.left e.right))
      (found_gives e.left e.right (either_way x cells ys (two_variables x cells ys) e) (on_or_else F (two_variables x cells ys e.left e.right) (two_variables x cells ys e.right e.left) (two_gives e.left e.right) (found_back e.left e.right (two_variables x cells ys e.right e.left) (two_gives e.right e.left))))))))

  pub replaced_by : {t u : Term ℕ Hint} {c : Change Hint} → Gives t u (replaced c) → Replaces t u c
  replaced_by (are_replaced k) = k
