-- A rule leaves alone what doesn't stand in its equation; and where it replaces variables, both sides have patterns alone.
use Rattle.std.proofs.Common.{◌≡◌, ℕ, ◌+◌, ◌<◌, ◌≤◌, List, [], ◌∷◌, ◌++◌, map, length, Bool, true, false, cond, Option, Some, None, is_some, refl, sym, ◌∙◌, ap, subst, arith, length-append}
use Rattle.std.specs.List.{list_all}
use Rattle.std.proofs.lemmas.Bool.{false≢true, or_parts, false_from_ne_true}
use Rattle.ab_term.specs.Terms.{Variable, Head, constant, logical, nominal, variable, index, Term, lam, spine, Terms, no_terms, term}
use Rattle.ab_term.specs.Variables.{variables, Substitution, value_in, image, composition}
use Rattle.ab_term.specs.Sameness.{same_numbered, same_number}
use Rattle.ab_term.specs.Abstraction.{among, under, Distinct}
use Rattle.ab_term.proofs.Compositions.{then_by}
use Rattle.ab_term.proofs.Same.{same_numbered-Decides}
use Rattle.ab_unifiers.specs.Patterns.{pattern, applied, value, kept, kept_type}
use Rattle.ab_unifiers.specs.Replacements.{Cell, Change, without, holds, is_flexible, has_patterns, all_have_patterns, made, next_variable, one, narrowed, pruned_names, pruned_here, pruned, pruned_all}
use Rattle.ab_unifiers.specs.Unification.{agreeing, begun, unchanged, put_in, joined_at}
use Rattle.ab_unifiers.proofs.Views.{IsPattern, is_pattern, pattern_length}
use Rattle.ab_unifiers.proofs.Agreeing.{holds_front, pattern_rigid}
use Rattle.ab_unifiers.proofs.Avoiding.{Avoids, AllAvoid, Without, avoids_if, image_avoids, value_avoids, abstracted_avoids}
use Rattle.ab_unifiers.proofs.Falling.{holds_without}
use Rattle.ab_unifiers.proofs.Pruning.{value_then}
use Rattle.ab_unifiers.proofs.Putting.{value_one}
use Rattle.ab_unifiers.proofs.Readings.{pattern_distinct, pattern_back, name_terms_pattern, kept_distinct}
use Rattle.ab_unifiers.proofs.Avoiding.{AreNames}
use Rattle.ab_unifiers.proofs.Ruling.{distinct_names}
use Rattle.ab_pattern_matching.proofs.Ruled.{Replaces, is_solved, is_narrowed, is_put, are_joined, the_other_way}

module _ {Hint : Type 0} (y : Variable ℕ) where
  without_one : (z : Variable ℕ) (v : Term ℕ Hint) → Avoids y v → Without y (value_in same_number ((z, v) ∷ []))
  without_one z v a u t e = let r = value_one z v u t e in subst (Avoids y) r.1 a

  without_then : (s r : Substitution ℕ Hint) → Without y (value_in same_number s) → Without y (value_in same_number r) → Without y (value_in same_number (composition same_number s r))
  without_then s r a b u t e = go (value_in same_number s u) refl (sym (value_then s r u) ∙ e)
    where
      go : (o : Option (Term ℕ Hint)) → value_in same_number s u ≡ o → then_by (value_in same_number r) u o ≡ Some t → Avoids y t
      go None f e = b u t e
      go (Some v) f e = let equal : image same_number r v ≡ t = cc in subst (Avoids y) equal (image_avoids y (value_in same_number r) b v (a u v f))

-- y has the number of one of these cells
module _ {Hint : Type 0} (x : Hint) (cells : List (Cell Hint)) (ys : List (Variable ℕ)) (y : Variable ℕ) (low : y.name < length cells) where
  -- y isn't replaced, doesn't come in, and stays flexible if it was
  pub record Untouched (c : Change Hint) : Type 0 where
    pub none : value_in same_number c.pairs y ≡ None
    pub absent : Without y (value_in same_number c.pairs)
    pub stays : holds ys y ≡ true → holds c.flexible y ≡ true
    pub longer : length cells ≤ length c.cells

  new_is_other : (n : ℕ) (z : Variable ℕ) → length cells ≤ n → z.name ≡ n → same_numbered z y ≡ false
  new_is_other n z l e = false_from_ne_true (same_numbered z y) (λ s. let name : z.name ≡ y.name = ap (λ v. v.name) ((same_numbered-Decides z y).0 s) in absurd (omega (arith, l, low, name, e)))

  still : (z : Variable ℕ) (v : Term ℕ Hint) (c : Change Hint) → same_numbered z y ≡ false → Untouched c → value_in same_number (composition same_number c.pairs ((z, v) ∷ [])) y ≡ None
  still z v c e u = value_then c.pairs ((z, v) ∷ []) y ∙ ap (then_by (value_in same_number ((z, v) ∷ [])) y) u.none ∙ ap (λ b. cond b (Some v) None) e

  narrowed_untouched : (z : Variable ℕ) (gs : List (Head ℕ)) (keep : List Bool) (c : Change Hint) → same_numbered z y ≡ false → Distinct gs → Untouched c → Untouched (narrowed x z gs keep c)
  narrowed_untouched z gs keep c e n u =
      let w = next_variable x c.cells (kept_type keep z.type) in
      let v = value x z gs (applied x w (kept keep gs)) in
      let cell = made x c.cells z (kept_type keep z.type) in
      let long : length (c.cells ++ cell ∷ []) ≡ length c.cells + 1 = length-append c.cells (cell ∷ []) in
      record {
        none = still z v c e u;
        absent = without_then y c.pairs ((z, v) ∷ []) u.absent (without_one y z v (value_avoids y x z w gs (kept keep gs) (distinct_names (kept keep gs) (kept_distinct keep gs n)) (new_is_other (length c.cells) w u.longer refl)));
        stays = λ h. holds_front (without z c.flexible) (w ∷ []) y (holds_without z y (λ s. false≢true (sym e ∙ (same_numbered-Decides z y).1 s)) c.flexible (u.stays h));
        longer = omega (arith, u.longer, long);
      }

  pattern_names : (z : Variable ℕ) (ts : Terms ℕ Hint) (hs : List (Head ℕ)) → pattern z.type ts ≡ Some hs → Distinct hs
  pattern_names z ts hs e = pattern_distinct (is_pattern z.type ts hs e)

  names_untouched : (names : List (Head ℕ)) (z : Variable ℕ) (o : Option (List (Head ℕ))) (c : Change Hint) → same_numbered z y ≡ false → ((hs : List (Head ℕ)) → o ≡ Some hs → Distinct hs) → Untouched c → Untouched (pruned_names x names z o c)
  names_untouched names z None c e n u = u
  names_untouched names z (Some bs) c e n u = go (list_all (among names) bs)
    where
      go : (b : Bool) → Untouched (cond b c (narrowed x z bs (map (among names) bs) c))
      go true = u
      go false = narrowed_untouched z bs (map (among names) bs) c e (n bs refl) u

  here_untouched : (names : List (Head ℕ)) (t : Term ℕ Hint) (c : Change Hint) → Avoids y t → Untouched c → Untouched (pruned_here x names t c)
  here_untouched names (spine (variable z) ts) c a u = go (holds c.flexible z)
    where
      go : (b : Bool) → Untouched (cond b (pruned_names x names z (pattern z.type ts) c) c)
      go true = names_untouched names z (pattern z.type ts) c ((or_parts (same_numbered z y) false a.0).0) (λ hs e. pattern_names z ts hs e) u
      go false = u
  here_untouched names (spine (constant d) ts) c a u = u
  here_untouched names (spine (logical d) ts) c a u = u
  here_untouched names (spine (nominal d) ts) c a u = u
  here_untouched names (spine (index d) ts) c a u = u
  here_untouched names (lam A z t) c a u = u

  mutual
    pruned_untouched : (vs : List (Variable ℕ)) (names : List (Head ℕ)) (t : Term ℕ Hint) (c : Change Hint) → Avoids y t → Untouched c → Untouched (pruned x vs names t c)
    pruned_untouched vs names (lam A z t) c a u = pruned_untouched vs (under names) t c a u
    pruned_untouched vs names (spine h ts) c a u = go (is_flexible vs h) (pruned_all_untouched vs names ts c a.1 u)
      where
        go : (b : Bool) → Untouched (pruned_all x vs names ts c) → Untouched (cond b (pruned_here x names (image same_number c.pairs (spine h ts)) c) (pruned_all x vs names ts c))
        go true rest = here_untouched names (image same_number c.pairs (spine h ts)) c (image_avoids y (value_in same_number c.pairs) u.absent (spine h ts) a) u
        go false rest = rest

    pruned_all_untouched : (vs : List (Variable ℕ)) (names : List (Head ℕ)) (ts : Terms ℕ Hint) (c : Change Hint) → AllAvoid y ts → Untouched c → Untouched (pruned_all x vs names ts c)
    pruned_all_untouched vs names no_terms c a u = u
    pruned_all_untouched vs names (term t ts) c a u = pruned_all_untouched vs names ts (pruned x vs names t c) a.1 (pruned_untouched vs names t c a.0 u)

  begun_untouched : (z : Variable ℕ) → same_numbered z y ≡ false → Untouched (begun x cells ys z)
  begun_untouched z e = record { none = refl; absent = λ u t q. absurd (let none_there : None ≡ Some t = q in cc); stays = λ h. holds_without z y (λ s. false≢true (sym e ∙ (same_numbered-Decides z y).1 s)) ys h; longer = omega arith }

  put_untouched : (z : Variable ℕ) (names : List (Head ℕ)) (t : Term ℕ Hint) (c : Change Hint) → same_numbered z y ≡ false → Avoids y t → Untouched c → Untouched (put_in x cells ys z names t c)
  put_untouched z names t c e a u = record {
    none = still z (value x z names (image same_number c.pairs t)) c e u;
    absent = without_then y c.pairs (one x z names (image same_number c.pairs t)) u.absent (without_one y z (value x z names (image same_number c.pairs t)) (abstracted_avoids y x z.type names (image same_number c.pairs t) (image_avoids y (value_in same_number c.pairs) u.absent t a)));
    stays = u.stays;
    longer = u.longer;
  }

  other_head : (z : Variable ℕ) (ts : Terms ℕ Hint) → Avoids y (spine (variable z) ts) → same_numbered z y ≡ false
  other_head z ts a = (or_parts (same_numbered z y) false a.0).0

  applied_avoids : (z : Variable ℕ) (ts : Terms ℕ Hint) (names : List (Head ℕ)) → IsPattern z.type ts names → Avoids y (spine (variable z) ts) → Avoids y (applied x z names)
  applied_avoids z ts names p a = avoids_if y (applied x z names) (ap (λ l. holds (z ∷ l) y) (pattern_rigid (name_terms_pattern x z.type names (pattern_distinct p) (pattern_length p))) ∙ a.0)

  joined_untouched : (v z : Variable ℕ) (names others : List (Head ℕ)) → Distinct names → same_numbered v y ≡ false → same_numbered z y ≡ false → Untouched (joined_at x cells ys v names z others)
  joined_untouched v z names others n e f =
      let keep = map (among others) names in
      let w = next_variable x cells (kept_type keep v.type) in
      let common = applied x w (kept keep names) in
      let cell = made x cells v (kept_type keep v.type) in
      let long : length (cells ++ cell ∷ []) ≡ length cells + 1 = length-append cells (cell ∷ []) in
      let new = new_is_other (length cells) w (omega arith) refl in
      let kept_are = distinct_names (kept keep names) (kept_distinct keep names n) in
      record {
        none = ap (λ b. cond b (Some (value x v names common)) (value_in same_number (one x z others common) y)) e ∙ ap (λ b. cond b (Some (value x z others common)) None) f;
        absent = λ u t q. go u t (same_numbered v u) q new kept_are;
        stays = λ h. holds_front (without z (without v ys)) (w ∷ []) y (holds_without z y (λ s. false≢true (sym f ∙ (same_numbered-Decides z y).1 s)) (without v ys) (holds_without v y (λ s. false≢true (sym e ∙ (same_numbered-Decides v y).1 s)) ys h));
        longer = omega (arith, long);
      }
    where
      go : (u : Variable ℕ) (t : Term ℕ Hint) → (b : Bool)
          → cond b (Some (value x v names (applied x (next_variable x cells (kept_type (map (among others) names) v.type)) (kept (map (among others) names) names)))) (value_in same_number (one x z others (applied x (next_variable x cells (kept_type (map (among others) names) v.type)) (kept (map (among others) names) names))) u) ≡ Some t
          → same_numbered (next_variable x cells (kept_type (map (among others) names) v.type)) y ≡ false → AreNames (kept (map (among others) names) names) → Avoids y t
      go u t true q new k =
          let equal : value x v names (applied x (next_variable x cells (kept_type (map (among others) names) v.type)) (kept (map (among others) names) names)) ≡ t = cc in
          subst (Avoids y) equal (value_avoids y x v (next_variable x cells (kept_type (map (among others) names) v.type)) names (kept (map (among others) names) names) k new)
      go u t false q new k = without_one y z (value x z others (applied x (next_variable x cells (kept_type (map (among others) names) v.type)) (kept (map (among others) names) names))) (value_avoids y x z (next_variable x cells (kept_type (map (among others) names) v.type)) others (kept (map (among others) names) names) k new) u t q

  -- WHAT DOESN'T STAND IN AN EQUATION IS LEFT ALONE
  pub untouched : {t u : Term ℕ Hint} {c : Change Hint} → Replaces x cells ys t u c → holds (variables t) y ≡ false → holds (variables u) y ≡ false → Untouched c
  untouched (is_solved {y = z} {ts = ts} {h = h} {us = us} {names = names} held r p hp) a b =
      let other = other_head z ts (avoids_if y (spine (variable z) ts) a) in
      let right = avoids_if y (spine h us) b in
      put_untouched z names (spine h us) (pruned x ys names (spine h us) (begun x cells ys z)) other right (pruned_untouched ys names (spine h us) (begun x cells ys z) right (begun_untouched z other))
  untouched (is_narrowed {y = z} {ts = ts} {names = names} {others = others} held p q) a b =
      narrowed_untouched z names (agreeing names others) (unchanged x cells ys) (other_head z ts (avoids_if y (spine (variable z) ts) a)) (pattern_distinct p)
      (record { none = refl; absent = λ u t e. absurd (let none_there : None ≡ Some t = e in cc); stays = λ h. h; longer = omega arith })
  untouched (is_put {y = v} {z = z} {ts = ts} {us = us} {names = names} {others = others} hv hz p q) a b =
      let other = other_head z us (avoids_if y (spine (variable z) us) b) in
      put_untouched z others (applied x v names) (begun x cells ys z) other (applied_avoids v ts names p (avoids_if y (spine (variable v) ts) a)) (begun_untouched z other)
  untouched (are_joined {y = v} {z = z} {ts = ts} {us = us} {names = names} {others = others} hv hz p q) a b =
      joined_untouched v z names others (pattern_distinct p) (other_head v ts (avoids_if y (spine (variable v) ts) a)) (other_head z us (avoids_if y (spine (variable z) us) b))
  untouched (the_other_way k) a b = untouched k b a

module _ {Hint : Type 0} (x : Hint) (cells : List (Cell Hint)) (ys : List (Variable ℕ)) where
  a_pattern : (z : Variable ℕ) (ts : Terms ℕ Hint) (names : List (Head ℕ)) → holds ys z ≡ true → IsPattern z.type ts names → has_patterns ys (spine (variable z) ts) ≡ true
  a_pattern z ts names h p = ap (λ b. cond b (is_some (pattern z.type ts)) (all_have_patterns ys ts)) h ∙ ap is_some (pattern_back p)

  -- BOTH SIDES HAVE PATTERNS ALONE, where something is replaced
  pub have_patterns : {t u : Term ℕ Hint} {c : Change Hint} → Replaces x cells ys t u c → (has_patterns ys t ≡ true) × (has_patterns ys u ≡ true)
  have_patterns (is_solved {y = z} {ts = ts} {names = names} held r p hp) = (a_pattern z ts names held p, hp)
  have_patterns (is_narrowed {y = z} {ts = ts} {us = us} {names = names} {others = others} held p q) = (a_pattern z ts names held p, a_pattern z us others held q)
  have_patterns (is_put {y = v} {z = z} {ts = ts} {us = us} {names = names} {others = others} hv hz p q) = (a_pattern v ts names hv p, a_pattern z us others hz q)
  have_patterns (are_joined {y = v} {z = z} {ts = ts} {us = us} {names = names} {others = others} hv hz p q) = (a_pattern v ts names hv p, a_pattern z us others hz q)
  have_patterns (the_other_way k) = let r = have_patterns k in (r.1, r.0)
