-- Each rule gives the same, with other numbers.
use Rattle.std.proofs.Common.{◌≡◌, ℕ, List, [], ◌∷◌, ◌++◌, map, Bool, true, false, cond, not, ◌&&◌, ◌||◌, Option, Some, None, option_map, refl, sym, ◌∙◌, ap, subst}
use Rattle.std.specs.List.{list_all}
use Rattle.ab_term.specs.Terms.{Variable, Head, constant, logical, nominal, variable, index, Term, lam, spine, Terms, no_terms, term}
use Rattle.ab_term.specs.Translation.{translate_variable, translate_head, translate, translate_all}
use Rattle.ab_term.specs.Variables.{image, composition}
use Rattle.ab_term.specs.Sameness.{same_number, same_numbered, same_head, same_term}
use Rattle.ab_term.specs.Abstraction.{among}
use Rattle.ab_term.proofs.Translations.{map-append}
use Rattle.ab_unifiers.specs.Patterns.{pattern, applied, kept, kept_type}
use Rattle.ab_unifiers.specs.Replacements.{Cell, Change, without, holds, is_flexible, has_patterns, occurs, no_foreign, made, next_variable, one, pruned}
use Rattle.ab_unifiers.specs.Unification.{Equation, Result, clash, parts, replaced, or_else, paired, equal_sides, bodies, rigid_heads, is_older, agreeing, begun, unchanged, put_in, pattern_of, pattern_and_rigid, same_variable_at, one_variable, joined_at, two_at, two_variables, either_way, rule}
use Rattle.ab_unifiers.specs.Renumbering.{renumbered_equation, renumbered_pairs, IsRenumbering}
use Rattle.ab_unifiers.proofs.Tests.{numbered_moved, head_moved, term_moved, holds_moved, without_moved, flexible_moved, all_among_moved, each_among_moved, agreeing_moved, older_moved, occurs_moved, foreign_moved}
use Rattle.ab_unifiers.proofs.Names.{kept_map, pattern_moved, applied_moved, patterns_moved}
use Rattle.ab_unifiers.proofs.Changes.{Agree, Grown, made_moved, next_moved, one_more, image_moved, composition_moved, one_moved, Moves, moves_cond, narrowed_by, pruned_moved}

module _ (f : ℕ → ℕ) {Hint : Type 0} (x : Hint) (cells others : List (Cell Hint)) (r : IsRenumbering f cells others) where
  abbrev V : Variable ℕ → Variable ℕ
  V = translate_variable f

  abbrev H : Head ℕ → Head ℕ
  H = translate_head f

  abbrev T : Term ℕ Hint → Term ℕ Hint
  T = translate f (λ x. x)

  abbrev Ts : Terms ℕ Hint → Terms ℕ Hint
  Ts = translate_all f (λ x. x)

  abbrev A : (i j : ℕ) → same_number (f i) (f j) ≡ same_number i j
  A = Agree f x cells others r

  abbrev Changes : Change Hint → Change Hint → Type 0
  Changes = Moves f x cells others r

  -- the second result is the first, with other numbers
  abbrev pub Gives : Result Hint → Result Hint → Type 0
  Gives clash clash = Unit {0}
  Gives (parts es) (parts gs) = gs ≡ map (renumbered_equation f) es
  Gives (replaced c) (replaced d) = Changes c d
  Gives _ _ = ⊥

  abbrev pub MayGive : Option (Result Hint) → Option (Result Hint) → Type 0
  MayGive None None = Unit {0}
  MayGive (Some p) (Some q) = Gives p q
  MayGive _ _ = ⊥

  else_moved : (o p q s : Option (Result Hint)) → MayGive o p → MayGive q s → MayGive (or_else o q) (or_else p s)
  else_moved None None q s m n = n
  else_moved None (Some b) q s m n = absurd m
  else_moved (Some a) None q s m n = absurd m
  else_moved (Some a) (Some b) q s m n = m

  cond_moved : (b c : Bool) (o p q s : Option (Result Hint)) → c ≡ b → MayGive o p → MayGive q s → MayGive (cond b o q) (cond c p s)
  cond_moved b c o p q s same m n = subst (λ d. MayGive (cond b o q) (cond d p s)) (sym same) (go b)
    where
      go : (b : Bool) → MayGive (cond b o q) (cond b p s)
      go true = m
      go false = n

  result_moved : (b c : Bool) (o p q s : Result Hint) → c ≡ b → Gives o p → Gives q s → Gives (cond b o q) (cond c p s)
  result_moved b c o p q s same m n = subst (λ d. Gives (cond b o q) (cond d p s)) (sym same) (go b)
    where
      go : (b : Bool) → Gives (cond b o q) (cond b p s)
      go true = m
      go false = n

  paired_moved : (p : ℕ) (ts us : Terms ℕ Hint) → paired p (Ts ts) (Ts us) ≡ map (renumbered_equation f) (paired p ts us)
  paired_moved p no_terms us = refl
  paired_moved p (term t ts) no_terms = refl
  paired_moved p (term t ts) (term u us) = ap (λ l. record { place = p; left = T t; right = T u } ∷ l) (paired_moved p ts us)

  equal_moved : (e : Equation Hint) → MayGive (equal_sides e) (equal_sides (renumbered_equation f e))
  equal_moved e = cond_moved (same_term e.left e.right) (same_term (T e.left) (T e.right)) (Some (parts [])) (Some (parts [])) None None (term_moved f A e.left e.right) refl tt

  bodies_moved : (p : ℕ) (t u : Term ℕ Hint) → MayGive (bodies p t u) (bodies p (T t) (T u))
  bodies_moved p (lam B y t) (lam C z u) = refl
  bodies_moved p (lam B y t) (spine h us) = tt
  bodies_moved p (spine h ts) u = tt

  heads_moved : (ys : List (Variable ℕ)) (p : ℕ) (t u : Term ℕ Hint) → MayGive (rigid_heads ys p t u) (rigid_heads (map V ys) p (T t) (T u))
  heads_moved ys p (lam B y t) u = tt
  heads_moved ys p (spine g ts) (lam B y u) = tt
  heads_moved ys p (spine g ts) (spine h us) =
      cond_moved (is_flexible ys g || is_flexible ys h) (is_flexible (map V ys) (H g) || is_flexible (map V ys) (H h)) None None
      (Some (cond (same_head g h) (parts (paired p ts us)) clash)) (Some (cond (same_head (H g) (H h)) (parts (paired p (Ts ts) (Ts us))) clash))
      (ap (λ b. b || is_flexible (map V ys) (H h)) (flexible_moved f A ys g) ∙ ap (λ b. is_flexible ys g || b) (flexible_moved f A ys h))
      tt
      (result_moved (same_head g h) (same_head (H g) (H h)) (parts (paired p ts us)) (parts (paired p (Ts ts) (Ts us))) clash clash (head_moved f A g h) (paired_moved p ts us) tt)

  module _ (more most : List (Cell Hint)) (g : Grown f x cells others r more most) (ys : List (Variable ℕ)) where
    begun_moved : (y : Variable ℕ) → Changes (begun x more ys y) (begun x most (map V ys) (V y))
    begun_moved y = record { grown = g; flexible = without_moved f A y ys; pairs = refl }

    unchanged_moved : Changes (unchanged x more ys) (unchanged x most (map V ys))
    unchanged_moved = record { grown = g; flexible = refl; pairs = refl }

    put_moved : (y : Variable ℕ) (names : List (Head ℕ)) (t u : Term ℕ Hint) (c d : Change Hint) → u ≡ T t → Changes c d → Changes (put_in x more ys y names t c) (put_in x most (map V ys) (V y) (map H names) u d)
    put_moved y names t u c d e m =
        let same : image same_number d.pairs u ≡ T (image same_number c.pairs t) =
        ap (image same_number d.pairs) e ∙ ap (λ s. image same_number s (T t)) m.pairs ∙ sym (image_moved f x cells others r c.pairs t) in
        let added = one x y names (image same_number c.pairs t) in
        record {
          grown = m.grown;
          flexible = m.flexible;
          pairs =
              ap (λ v. composition same_number d.pairs (one x (V y) (map H names) v)) same
              ∙ ap (composition same_number d.pairs) (sym (one_moved f x cells others r y names (image same_number c.pairs t)))
              ∙ ap (λ s. composition same_number s (renumbered_pairs f added)) m.pairs
              ∙ sym (composition_moved f x cells others r c.pairs added);
        }

    pattern_of_moved : (y : Variable ℕ) (t : Term ℕ Hint) (o : Option (List (Head ℕ))) → MayGive (pattern_of x more ys y t o) (pattern_of x most (map V ys) (V y) (T t) (option_map (map H) o))
    pattern_of_moved y t None = tt
    pattern_of_moved y t (Some names) =
        cond_moved (has_patterns ys t) (has_patterns (map V ys) (T t)) _ _ None None (patterns_moved f A ys t)
        (result_moved (occurs y t || not (no_foreign ys names t)) (occurs (V y) (T t) || not (no_foreign (map V ys) (map H names) (T t))) clash clash _ _
        (ap (λ b. b || not (no_foreign (map V ys) (map H names) (T t))) (occurs_moved f A y t) ∙ ap (λ b. occurs y t || not b) (foreign_moved f A ys names t))
        tt
        (put_moved y names t (T t) (pruned x ys names t (begun x more ys y)) (pruned x (map V ys) (map H names) (T t) (begun x most (map V ys) (V y))) refl
        (pruned_moved f x cells others r ys names t (begun x more ys y) (begun x most (map V ys) (V y)) (begun_moved y))))
        tt

    rigid_moved : (t u : Term ℕ Hint) → MayGive (pattern_and_rigid x more ys t u) (pattern_and_rigid x most (map V ys) (T t) (T u))
    rigid_moved (spine (variable y) ts) (spine h us) =
        cond_moved (holds ys y && not (is_flexible ys h)) (holds (map V ys) (V y) && not (is_flexible (map V ys) (H h))) _ _ None None
        (ap (λ b. b && not (is_flexible (map V ys) (H h))) (holds_moved f A ys y) ∙ ap (λ b. holds ys y && not b) (flexible_moved f A ys h))
        (subst (λ o. MayGive (pattern_of x more ys y (spine h us) (pattern y.type ts)) (pattern_of x most (map V ys) (V y) (T (spine h us)) o)) (sym (pattern_moved f A y.type ts)) (pattern_of_moved y (spine h us) (pattern y.type ts)))
        tt
    rigid_moved (spine (variable y) ts) (lam B z u) = tt
    rigid_moved (spine (constant c) ts) u = tt
    rigid_moved (spine (logical l) ts) u = tt
    rigid_moved (spine (nominal a) ts) u = tt
    rigid_moved (spine (index i) ts) u = tt
    rigid_moved (lam B z t) u = tt

    same_at_moved : (y : Variable ℕ) (o q : Option (List (Head ℕ))) → MayGive (same_variable_at x more ys y o q) (same_variable_at x most (map V ys) (V y) (option_map (map H) o) (option_map (map H) q))
    same_at_moved y None q = tt
    same_at_moved y (Some names) None = tt
    same_at_moved y (Some names) (Some hs) =
        narrowed_by f x cells others r y names (agreeing names hs) (agreeing (map H names) (map H hs)) (unchanged x more ys) (unchanged x most (map V ys)) (agreeing_moved f A names hs) unchanged_moved

    one_variable_moved : (t u : Term ℕ Hint) → MayGive (one_variable x more ys t u) (one_variable x most (map V ys) (T t) (T u))
    one_variable_moved (spine (variable y) ts) (spine (variable z) us) =
        cond_moved (holds ys y && same_numbered y z) (holds (map V ys) (V y) && same_numbered (V y) (V z)) _ _ None None
        (ap (λ b. b && same_numbered (V y) (V z)) (holds_moved f A ys y) ∙ ap (λ b. holds ys y && b) (numbered_moved f A y z))
        (subst (λ o. MayGive (same_variable_at x more ys y (pattern y.type ts) (pattern z.type us)) (same_variable_at x most (map V ys) (V y) o (pattern z.type (Ts us)))) (sym (pattern_moved f A y.type ts))
        (subst (λ q. MayGive (same_variable_at x more ys y (pattern y.type ts) (pattern z.type us)) (same_variable_at x most (map V ys) (V y) (option_map (map H) (pattern y.type ts)) q)) (sym (pattern_moved f A z.type us))
        (same_at_moved y (pattern y.type ts) (pattern z.type us))))
        tt
    one_variable_moved (spine (variable y) ts) (spine (constant c) us) = tt
    one_variable_moved (spine (variable y) ts) (spine (logical c) us) = tt
    one_variable_moved (spine (variable y) ts) (spine (nominal c) us) = tt
    one_variable_moved (spine (variable y) ts) (spine (index c) us) = tt
    one_variable_moved (spine (variable y) ts) (lam B z u) = tt
    one_variable_moved (spine (constant c) ts) u = tt
    one_variable_moved (spine (logical l) ts) u = tt
    one_variable_moved (spine (nominal a) ts) u = tt
    one_variable_moved (spine (index i) ts) u = tt
    one_variable_moved (lam B z t) u = tt

    -- both variables become a new one, over those of the first names whose flag is set
    abbrev joined_by : List (Cell Hint) → List (Variable ℕ) → Variable ℕ → List (Head ℕ) → Variable ℕ → List (Head ℕ) → List Bool → Change Hint
    joined_by cs vs y names z hs keep =
        let w = next_variable x cs (kept_type keep y.type) in
        let common = applied x w (kept keep names) in
        record {
          cells = cs ++ made x cs y (kept_type keep y.type) ∷ [];
          flexible = without z (without y vs) ++ w ∷ [];
          pairs = one x y names common ++ one x z hs common;
        }

    joined_by_moved : (y : Variable ℕ) (names : List (Head ℕ)) (z : Variable ℕ) (hs : List (Head ℕ)) (keep : List Bool) → Changes (joined_by more ys y names z hs keep) (joined_by most (map V ys) (V y) (map H names) (V z) (map H hs) keep)
    joined_by_moved y names z hs keep =
        let B = kept_type keep y.type in
        let w = next_variable x more B in
        let v = next_variable x most B in
        let fresh : v ≡ V w = next_moved f x cells others r more most g B in
        let t = applied x w (kept keep names) in
        let same : applied x v (kept keep (map H names)) ≡ T t =
        ap (λ a. applied x a (kept keep (map H names))) fresh ∙ ap (applied x (V w)) (kept_map H keep names) ∙ sym (applied_moved f A x w (kept keep names)) in
        record {
          grown = one_more f x cells others r more most (made x more y B) (made x most (V y) B) g (made_moved f x cells others r more most g y B);
          flexible =
              ap (λ l. without (V z) l ++ v ∷ []) (without_moved f A y ys)
              ∙ ap (λ l. l ++ v ∷ []) (without_moved f A z (without y ys))
              ∙ ap (λ a. map V (without z (without y ys)) ++ a ∷ []) fresh
              ∙ sym (map-append V (without z (without y ys)) (w ∷ []));
          pairs =
              ap (λ u. one x (V y) (map H names) u ++ one x (V z) (map H hs) u) same
              ∙ ap (λ l. l ++ one x (V z) (map H hs) (T t)) (sym (one_moved f x cells others r y names t))
              ∙ ap (λ l. renumbered_pairs f (one x y names t) ++ l) (sym (one_moved f x cells others r z hs t))
              ∙ sym (map-append (λ p. (V p.0, T p.1)) (one x y names t) (one x z hs t));
        }

    joined_moved : (y : Variable ℕ) (names : List (Head ℕ)) (z : Variable ℕ) (hs : List (Head ℕ)) → Changes (joined_at x more ys y names z hs) (joined_at x most (map V ys) (V y) (map H names) (V z) (map H hs))
    joined_moved y names z hs =
        subst (λ keep. Changes (joined_by more ys y names z hs (map (among hs) names)) (joined_by most (map V ys) (V y) (map H names) (V z) (map H hs) keep)) (sym (each_among_moved f A hs names))
        (joined_by_moved y names z hs (map (among hs) names))

    two_at_moved : (y : Variable ℕ) (o : Option (List (Head ℕ))) (z : Variable ℕ) (q : Option (List (Head ℕ))) → MayGive (two_at x more ys y o z q) (two_at x most (map V ys) (V y) (option_map (map H) o) (V z) (option_map (map H) q))
    two_at_moved y None z q = tt
    two_at_moved y (Some names) z None = tt
    two_at_moved y (Some names) z (Some hs) =
        moves_cond f x cells others r (list_all (among hs) names) (list_all (among (map H hs)) (map H names)) _ _ _ _ (all_among_moved f A hs names)
        (put_moved z hs (applied x y names) (applied x (V y) (map H names)) (begun x more ys z) (begun x most (map V ys) (V z)) (sym (applied_moved f A x y names)) (begun_moved z))
        (moves_cond f x cells others r (list_all (among names) hs) (list_all (among (map H names)) (map H hs)) _ _ _ _ (all_among_moved f A names hs)
        (put_moved y names (applied x z hs) (applied x (V z) (map H hs)) (begun x more ys y) (begun x most (map V ys) (V y)) (sym (applied_moved f A x z hs)) (begun_moved y))
        (joined_moved y names z hs))

    two_moved : (t u : Term ℕ Hint) → MayGive (two_variables x more ys t u) (two_variables x most (map V ys) (T t) (T u))
    two_moved (spine (variable y) ts) (spine (variable z) us) =
        cond_moved (holds ys z && is_older ys y z) (holds (map V ys) (V z) && is_older (map V ys) (V y) (V z)) _ _ None None
        (ap (λ b. b && is_older (map V ys) (V y) (V z)) (holds_moved f A ys z) ∙ ap (λ b. holds ys z && b) (older_moved f A ys y z))
        (subst (λ o. MayGive (two_at x more ys y (pattern y.type ts) z (pattern z.type us)) (two_at x most (map V ys) (V y) o (V z) (pattern z.type (Ts us)))) (sym (pattern_moved f A y.type ts))
        (subst (λ q. MayGive (two_at x more ys y (pattern y.type ts) z (pattern z.type us)) (two_at x most (map V ys) (V y) (option_map (map H) (pattern y.type ts)) (V z) q)) (sym (pattern_moved f A z.type us))
        (two_at_moved y (pattern y.type ts) z (pattern z.type us))))
        tt
    two_moved (spine (variable y) ts) (spine (constant c) us) = tt
    two_moved (spine (variable y) ts) (spine (logical c) us) = tt
    two_moved (spine (variable y) ts) (spine (nominal c) us) = tt
    two_moved (spine (variable y) ts) (spine (index c) us) = tt
    two_moved (spine (variable y) ts) (lam B z u) = tt
    two_moved (spine (constant c) ts) u = tt
    two_moved (spine (logical l) ts) u = tt
    two_moved (spine (nominal a) ts) u = tt
    two_moved (spine (index i) ts) u = tt
    two_moved (lam B z t) u = tt

    pub rule_moved : (e : Equation Hint) → MayGive (rule x more ys e) (rule x most (map V ys) (renumbered_equation f e))
    rule_moved e =
        else_moved (equal_sides e) (equal_sides (renumbered_equation f e)) _ _ (equal_moved e)
        (else_moved (bodies e.place e.left e.right) (bodies e.place (T e.left) (T e.right)) _ _ (bodies_moved e.place e.left e.right)
        (else_moved (rigid_heads ys e.place e.left e.right) (rigid_heads (map V ys) e.place (T e.left) (T e.right)) _ _ (heads_moved ys e.place e.left e.right)
        (else_moved (either_way x more ys (pattern_and_rigid x more ys) e) (either_way x most (map V ys) (pattern_and_rigid x most (map V ys)) (renumbered_equation f e)) _ _
        (else_moved (pattern_and_rigid x more ys e.left e.right) (pattern_and_rigid x most (map V ys) (T e.left) (T e.right)) _ _ (rigid_moved e.left e.right) (rigid_moved e.right e.left))
        (else_moved (one_variable x more ys e.left e.right) (one_variable x most (map V ys) (T e.left) (T e.right)) _ _ (one_variable_moved e.left e.right)
        (else_moved (two_variables x more ys e.left e.right) (two_variables x most (map V ys) (T e.left) (T e.right)) _ _ (two_moved e.left e.right) (two_moved e.right e.left))))))
