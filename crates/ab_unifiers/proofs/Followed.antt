-- Pruning is followed: what is taken away stands in no value that makes the sides the same.
use Rattle.std.proofs.Common.{◌≡◌, ℕ, suc, ◌+◌, ◌≤◌, inl, inr, List, [], ◌∷◌, ◌++◌, map, length, Bool, true, false, cond, ◌||◌, Option, Some, None, is_some, refl, sym, ◌∙◌, ap, subst, arith, length-append}
use Rattle.std.specs.List.{list_all}
use Rattle.std.proofs.lemmas.Bool.{false≢true, and_parts, or_cases, or_left, or_right, false_from_ne_true}
use Rattle.ab_term.specs.Types.{Ty, kind}
use Rattle.ab_term.specs.Terms.{Variable, Head, constant, logical, nominal, variable, index, Term, lam, spine, Terms, no_terms, term}
use Rattle.ab_term.specs.Typing.{Signature, HasType, TakeType, typed_lam, typed_spine, take_none, take_term}
use Rattle.ab_term.specs.Substitution.{reduce}
use Rattle.ab_term.specs.Translation.{forget, forget_all}
use Rattle.ab_term.specs.Variables.{variables, variables_of_all, put_for, image_by, image_all_by, Substitution, value_in, image, composition}
use Rattle.ab_term.specs.Sameness.{same_numbered, same_number}
use Rattle.ab_term.specs.Abstraction.{among, under, Only, OnlyAll, Distinct}
use Rattle.ab_term.proofs.Compositions.{then_by}
use Rattle.ab_term.proofs.Same.{same_numbered-Decides}
use Rattle.ab_term.proofs.Determined.{AreApart, NoIndex}
use Rattle.ab_unifiers.specs.Patterns.{pattern, value, applied, kept, kept_type}
use Rattle.ab_unifiers.specs.Replacements.{Change, without, holds, has_patterns, all_have_patterns, no_foreign, no_foreign_all, made, next_variable, one, narrowed, pruned_names, pruned_here, pruned, pruned_all}
use Rattle.ab_unifiers.proofs.Views.{IsPattern}
use Rattle.ab_unifiers.proofs.Falling.{map_length, holds_without}
use Rattle.ab_unifiers.proofs.Values.{pattern_named, forget_pattern}
use Rattle.ab_unifiers.proofs.Agreeing.{holds_front, holds_behind, holds_itself, image_pattern}
use Rattle.ab_unifiers.proofs.Readings.{pattern_back, pattern_distinct, kept_distinct}
use Rattle.ab_unifiers.proofs.Avoiding.{not_held, without_held, Avoids, value_avoids, image_avoids}
use Rattle.ab_unifiers.proofs.Ruling.{distinct_names}
use Rattle.ab_unifiers.proofs.Pruning.{value_then, Became, now_typed, narrow_safe}
use Rattle.ab_unifiers.proofs.Pruned.{Fine, AreTracked, pruned_fine, some_pattern}
use Rattle.ab_unifiers.proofs.Following.{Put, Fits, Follows, follows_on, follows_then, Known, AllKnown, KnownValues}
use Rattle.ab_unifiers.proofs.Putting.{both_only, shared, value_one, given_only, narrow_follows}
use Rattle.ab_unifiers.proofs.Apartness.{Scope, scope_under, pattern_apart, only_deeper, rigid_args}

module _ {Hint : Type 0} where
  pub known_one : (m : ℕ) (z : Variable ℕ) (v : Term ℕ Hint) → Known m v → KnownValues m ((z, v) ∷ [])
  known_one m z v k y l u t e = let r = value_one z v u t e in subst (Avoids y) r.1 (k y l)

  pub known_then : (m : ℕ) (s r : Substitution ℕ Hint) → KnownValues m s → KnownValues m r → KnownValues m (composition same_number s r)
  known_then m s r a b y l u t e = go (value_in same_number s u) refl (sym (value_then s r u) ∙ e)
    where
      go : (o : Option (Term ℕ Hint)) → value_in same_number s u ≡ o → then_by (value_in same_number r) u o ≡ Some t → Avoids y t
      go None f e = b y l u t e
      go (Some v) f e = let equal : image same_number r v ≡ t = cc in subst (Avoids y) equal (image_avoids y (value_in same_number r) (b y l) v (a y l u v f))

  pub known_value : (x : Hint) (n : ℕ) (A : Ty) (z : Variable ℕ) (gs hs : List (Head ℕ)) → Distinct hs → Known (suc n) (value x z gs (applied x (record { name = n; type = A }) hs))
  known_value x n A z gs hs d y l = value_avoids y x z (record { name = n; type = A }) gs hs (distinct_names hs d) (false_from_ne_true (same_numbered (record { name = n; type = A }) y) (λ e. let name : n ≡ y.name = ap (λ v. v.name) ((same_numbered-Decides (record { name = n; type = A }) y).0 e) in absurd (omega (arith, l, name))))

-- what f makes of a variable with names
pub image_own : {Hint : Type 0} (f : Put) (y : Variable ℕ) (v : Term ℕ (Unit {0})) {ts : Terms ℕ Hint} {hs : List (Head ℕ)} → f y ≡ Some v → IsPattern y.type ts hs → image_by f (forget (spine (variable y) ts)) ≡ reduce y.type v (forget_all ts)
image_own f y v {ts = ts} e p = ap (put_for y (f y)) (image_pattern f (forget_pattern p)) ∙ ap (λ o. put_for y o (forget_all ts)) e

module _ (sg : Signature) (others : List (Head ℕ)) (none : NoIndex others) {Hint : Type 0} (x : Hint) (ys : List (Variable ℕ)) (Tracked : Variable ℕ → Type 0) (Inv : Change Hint → Type 0)
    (keeps : (c : Change Hint) (z : Variable ℕ) (gs : List (Head ℕ)) (keep : List Bool) → holds c.flexible z ≡ true → Distinct gs → Inv c → Inv (narrowed x z gs keep c))
    (f : Put) (fits : Fits sg others ys f) (n : ℕ) (X : Variable ℕ) where
  -- what was put in so far is followed, with X still to be replaced
  pub record Gen (c : Change Hint) : Type 0 where
    pub follows : Follows sg others n (X ∷ c.flexible) c.pairs f
    pub known : KnownValues (length c.cells) c.pairs
    pub longer : n ≤ length c.cells

  at_names : (names : List (Head ℕ)) (G : List Ty) (y : Variable ℕ) (ts : Terms ℕ Hint) (hs : List (Head ℕ)) (k : List ℕ) (c : Change Hint) → Fine sg x ys Tracked Inv keeps c → Gen c → IsPattern y.type ts hs → AreApart hs others → TakeType sg G ts y.type (kind k) → Known n (spine (variable y) ts) → Only (names ++ others) (image_by f (forget (spine (variable y) ts))) → (b : Became sg x c y ts hs) → (t : Bool) → Gen (cond t c (narrowed x b.now b.names (map (among names) b.names) c))
  at_names names G y ts hs k c fine gen p a ds known o b true = gen
  at_names names G y ts hs k c fine gen p a ds known o b false =
      let r = now_typed sg x c fine.safe y ts hs G k ds b in
      let keep = map (among names) b.names in
      let m = length c.cells in
      let w : Variable ℕ = next_variable x c.cells (kept_type keep b.now.type) in
      let whole : HasType sg G (spine (variable y) ts) (kind k) = typed_spine refl ds in
      let g = gen.follows.next in
      let became : image_by g (forget (spine (variable b.now) b.args)) ≡ image_by f (forget (spine (variable y) ts)) = ap (λ t. image_by g (forget t)) (sym b.is) ∙ follows_on sg others fine.safe.typed gen.follows whole known in
      let named = pattern_named sg b.pattern r.2 in
      let flags : length keep ≡ length b.names = map_length (among names) b.names in
      let t : Term ℕ Hint = applied x w (kept keep b.names) in
      let safe = narrow_safe sg x G r.0 m b.now b.names keep named flags in
      let step = narrow_follows sg others none x g (X ∷ c.flexible) (X ∷ (without b.now c.flexible ++ w ∷ [])) gen.follows.fits m b.now keep
      (or_right (same_numbered X b.now) (holds c.flexible b.now) b.flexible) flags
      (or_right (same_numbered X w) (holds (without b.now c.flexible ++ w ∷ []) w) (holds_behind (without b.now c.flexible) (w ∷ []) w (holds_itself w)))
      (λ v e. elim (or_cases (same_numbered X v) (holds (without b.now c.flexible ++ w ∷ []) v) e) [ inl q ↦ inr (or_left (same_numbered X v) (holds c.flexible v) q) | inr q ↦ (elim (not_held (without b.now c.flexible) (w ∷ []) v q) [ inl i ↦ inr (or_right (same_numbered X v) (holds c.flexible v) (without_held b.now c.flexible v i)) | inr i ↦ (elim (or_cases (same_numbered w v) false i) [ inl j ↦ inl j | inr j ↦ absurd (false≢true j) ]) ]) ])
      (λ v q e. elim (or_cases (same_numbered X v) (holds c.flexible v) e) [ inl i ↦ or_left (same_numbered X v) (holds (without b.now c.flexible ++ w ∷ []) v) i | inr i ↦ or_right (same_numbered X v) (holds (without b.now c.flexible ++ w ∷ []) v) (holds_front (without b.now c.flexible) (w ∷ []) v (holds_without b.now v (λ j. false≢true (sym q ∙ (same_numbered-Decides b.now v).1 j)) c.flexible i)) ])
      b.pattern r.2 (λ h e. a h (b.fewer h e))
      (λ v e. both_only (b.names ++ others) (names ++ others) (kept keep b.names ++ others) (shared others b.names names) (reduce b.now.type v (forget_all b.args)) (given_only sg others none x b.pattern v (gen.follows.fits.has b.now v e)) (subst (Only (names ++ others)) (sym became ∙ image_own g b.now v e b.pattern) o)) in
      let long : length (c.cells ++ made x c.cells b.now (kept_type keep b.now.type) ∷ []) ≡ length c.cells + 1 = length-append c.cells (made x c.cells b.now (kept_type keep b.now.type) ∷ []) in
      let new_known : KnownValues (m + 1) (composition same_number c.pairs (one x b.now b.names t)) =
      known_then (m + 1) c.pairs (one x b.now b.names t) (λ v l. gen.known v (omega (arith, l))) (known_one (m + 1) b.now (value x b.now b.names t) (λ v l. known_value x m (kept_type keep b.now.type) b.now b.names (kept keep b.names) (kept_distinct keep b.names (pattern_distinct b.pattern)) v (omega (arith, l)))) in
      record {
        follows = follows_then sg others n m (X ∷ c.flexible) (X ∷ (without b.now c.flexible ++ w ∷ [])) c.pairs (one x b.now b.names t) f gen.longer fine.safe.typed safe.typed gen.known gen.follows step;
        known = subst (λ l. KnownValues l (composition same_number c.pairs (one x b.now b.names t))) (sym long) new_known;
        longer = omega (arith, gen.longer, long);
      }

  at_flexible : (names hs0 : List (Head ℕ)) → Scope others hs0 → (G : List Ty) (y : Variable ℕ) (ts : Terms ℕ Hint) (hs : List (Head ℕ)) (k : List ℕ) (c : Change Hint) → Fine sg x ys Tracked Inv keeps c → Gen c → Tracked y → IsPattern y.type ts hs → OnlyAll hs0 ts → TakeType sg G ts y.type (kind k) → Known n (spine (variable y) ts) → Only (names ++ others) (image_by f (forget (spine (variable y) ts)))
      → Gen (pruned_here x names (image same_number c.pairs (spine (variable y) ts)) c)
  at_flexible names hs0 s G y ts hs k c fine gen tracked p on ds known o =
      let b = fine.tracks y tracked G ts hs k p ds in
      let same_change : cond (list_all (among names) b.names) c (narrowed x b.now b.names (map (among names) b.names) c) ≡ pruned_here x names (image same_number c.pairs (spine (variable y) ts)) c =
      sym (ap (λ u. pruned_here x names u c) b.is ∙ ap (λ t. cond t (pruned_names x names b.now (pattern b.now.type b.args) c) c) b.flexible ∙ ap (λ o. pruned_names x names b.now o c) (pattern_back b.pattern)) in
      subst Gen same_change (at_names names G y ts hs k c fine gen p (pattern_apart sg others hs0 none s p on) ds known o b (list_all (among names) b.names))

  at_variable : (names hs0 : List (Head ℕ)) → Scope others hs0 → (G : List Ty) (y : Variable ℕ) (ts : Terms ℕ Hint) (k : List ℕ) (c : Change Hint) → Fine sg x ys Tracked Inv keeps c → Gen c → TakeType sg G ts y.type (kind k) → AreTracked sg x ys Tracked Inv keeps (y ∷ variables_of_all ts) → OnlyAll hs0 ts → Known n (spine (variable y) ts) → Only (names ++ others) (image_by f (forget (spine (variable y) ts))) → (b : Bool) → holds ys y ≡ b → cond b (is_some (pattern y.type ts)) (all_have_patterns ys ts) ≡ true → (b || no_foreign_all ys names ts) ≡ true → (holds ys y ≡ false → all_have_patterns ys ts ≡ true → no_foreign_all ys names ts ≡ true → Gen (pruned_all x ys names ts c))
      → Gen (cond b (pruned_here x names (image same_number c.pairs (spine (variable y) ts)) c) (pruned_all x ys names ts c))
  at_variable names hs0 s G y ts k c fine gen ds tracked on known o true e p q rest =
      let r = some_pattern sg x ys Tracked Inv keeps y.type ts p in
      at_flexible names hs0 s G y ts r.0 k c fine gen (tracked y (holds_front (y ∷ []) (variables_of_all ts) y (holds_itself y)) e) r.1 on ds known o
  at_variable names hs0 s G y ts k c fine gen ds tracked on known o false e p q rest = rest e p q

  mutual
    -- PRUNING IS FOLLOWED
    pub pruned_gen : (names hs0 : List (Head ℕ)) → Scope others hs0 → {G : List Ty} {A : Ty} (t : Term ℕ Hint) (c : Change Hint) → HasType sg G t A → Fine sg x ys Tracked Inv keeps c → Gen c → AreTracked sg x ys Tracked Inv keeps (variables t) → has_patterns ys t ≡ true → no_foreign ys names t ≡ true → Only hs0 t → Known n t → Only (names ++ others) (image_by f (forget t)) → Gen (pruned x ys names t c)
    pruned_gen names hs0 s (lam B y t) c (typed_lam d) fine gen tracked p q on known o = pruned_gen (under names) (under hs0) (scope_under others hs0 s) t c d fine gen tracked p q on known (only_deeper others names none (image_by f (forget t)) o)
    pruned_gen names hs0 s (spine (constant b) ts) c (typed_spine e ds) fine gen tracked p q on known o = pruned_all_gen names hs0 s ts c ds fine gen tracked p q on.1 (λ v l. (known v l).1) o.1
    pruned_gen names hs0 s (spine (logical b) ts) c (typed_spine e ds) fine gen tracked p q on known o = pruned_all_gen names hs0 s ts c ds fine gen tracked p q on.1 (λ v l. (known v l).1) o.1
    pruned_gen names hs0 s (spine (nominal b) ts) c (typed_spine e ds) fine gen tracked p q on known o = pruned_all_gen names hs0 s ts c ds fine gen tracked p (and_parts (among names (nominal b)) (no_foreign_all ys names ts) q).1 on.1 (λ v l. (known v l).1) o.1
    pruned_gen names hs0 s (spine (index b) ts) c (typed_spine e ds) fine gen tracked p q on known o = pruned_all_gen names hs0 s ts c ds fine gen tracked p (and_parts (among names (index b)) (no_foreign_all ys names ts) q).1 on.1 (λ v l. (known v l).1) o.1
    pruned_gen names hs0 s {G = G} (spine (variable y) ts) c (typed_spine {A = D} {k = k} e ds) fine gen tracked p q on known o =
        let same_type : D ≡ y.type = cc in
        at_variable names hs0 s G y ts k c fine gen (subst (λ E. TakeType sg G ts E (kind k)) same_type ds) tracked on.1 known o (holds ys y) refl p q
        (λ r p2 q2. pruned_all_gen names hs0 s ts c ds fine gen (λ v a b. tracked v (holds_behind (y ∷ []) (variables_of_all ts) v a) b) p2 q2 on.1 (λ v l. (known v l).1) (rigid_args sg others none ys f fits (names ++ others) (variable y) ts r o).1)

    pruned_all_gen : (names hs0 : List (Head ℕ)) → Scope others hs0 → {G : List Ty} {A B : Ty} (ts : Terms ℕ Hint) (c : Change Hint) → TakeType sg G ts A B → Fine sg x ys Tracked Inv keeps c → Gen c → AreTracked sg x ys Tracked Inv keeps (variables_of_all ts) → all_have_patterns ys ts ≡ true → no_foreign_all ys names ts ≡ true → OnlyAll hs0 ts → AllKnown n ts → OnlyAll (names ++ others) (image_all_by f (forget_all ts)) → Gen (pruned_all x ys names ts c)
    pruned_all_gen names hs0 s no_terms c take_none fine gen tracked p q on known o = gen
    pruned_all_gen names hs0 s (term t ts) c (take_term d ds) fine gen tracked p q on known o =
        let ps = and_parts (has_patterns ys t) (all_have_patterns ys ts) p in
        let qs = and_parts (no_foreign ys names t) (no_foreign_all ys names ts) q in
        let here : AreTracked sg x ys Tracked Inv keeps (variables t) = λ v a b. tracked v (holds_front (variables t) (variables_of_all ts) v a) b in
        let first = pruned_gen names hs0 s t c d fine gen here ps.0 qs.0 on.0 (λ v l. (known v l).0) o.0 in
        let first_fine = (pruned_fine sg x ys Tracked Inv keeps names t c d fine here ps.0 qs.0).0.fine in
        pruned_all_gen names hs0 s ts (pruned x ys names t c) ds first_fine first (λ v a b. tracked v (holds_behind (variables t) (variables_of_all ts) v a) b) ps.1 qs.1 on.1 (λ v l. (known v l).1) o.1
