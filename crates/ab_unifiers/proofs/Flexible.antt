-- The rules at flexible terms keep types, and what they put in makes the sides of the equation the same, past hints.
use Rattle.std.proofs.Common.{◌≡◌, ◌≢◌, ℕ, ◌+◌, ◌<◌, inl, inr, List, [], ◌∷◌, ◌++◌, map, length, Bool, true, false, cond, ◌&&◌, ◌||◌, not, Option, Some, None, refl, sym, ◌∙◌, ap, subst, arith, length-append}
use Rattle.std.specs.List.{list_all}
use Rattle.std.proofs.lemmas.Bool.{false≢true, and_parts, or_parts, or_cases, not-false, false_from_ne_true}
use Rattle.ab_term.specs.Types.{Ty, kind}
use Rattle.ab_term.specs.Terms.{Variable, Head, constant, logical, nominal, variable, index, Term, lam, spine, Terms}
use Rattle.ab_term.specs.Typing.{Signature, HasType, TakeType, typed_spine}
use Rattle.ab_term.specs.Substitution.{reduce}
use Rattle.ab_term.specs.Translation.{translate_head, forget}
use Rattle.ab_term.specs.Variables.{variables, put_for, value_in, image, composition}
use Rattle.ab_term.specs.Sameness.{same_numbered, same_number}
use Rattle.ab_term.specs.Abstraction.{among, Only, Distinct}
use Rattle.ab_term.proofs.Compositions.{then_by, image_typed, image-composition}
use Rattle.ab_term.proofs.Same.{same_numbered-Decides}
use Rattle.ab_term.proofs.Abstracting.{named_length}
use Rattle.ab_unifiers.specs.Patterns.{pattern, applied, value, kept, kept_type}
use Rattle.ab_unifiers.specs.Replacements.{Cell, Change, without, holds, is_flexible, has_patterns, occurs, no_foreign, made, next_variable, one, narrowed, pruned}
use Rattle.ab_unifiers.specs.Unification.{Equation, clash, replaced, equal_sides, bodies, rigid_heads, is_older, agreeing, begun, put_in, pattern_of, pattern_and_rigid, same_variable_at, one_variable, joined_at, two_at, two_variables, either_way, rule}
use Rattle.ab_unifiers.specs.Unifiers.{IsTypedEquation, AreKnown}
use Rattle.ab_unifiers.proofs.Views.{IsPattern, is_pattern}
use Rattle.ab_unifiers.proofs.Falling.{holds_without, older_holds, map_length}
use Rattle.ab_unifiers.proofs.Steps.{OnResult, on_or_else, on_cond}
use Rattle.ab_unifiers.proofs.Values.{pattern_named, applied_typed}
use Rattle.ab_unifiers.proofs.Agreeing.{image_pattern}
use Rattle.ab_unifiers.proofs.Readings.{pattern_distinct, applied_only, kept_among, kept_distinct, kept_named}
use Rattle.ab_unifiers.proofs.Pruning.{kept_pass, value_then, none_safe, both_safe, pair_safe, spine_args, narrow_safe, narrow_image}
use Rattle.ab_unifiers.proofs.Pruned.{Fine, pruned_fine, all_pass}
use Rattle.ab_unifiers.proofs.Avoiding.{not_held, without_held, Avoids, Without, value_avoids, image_avoids, avoids_if, image_avoided}
use Rattle.ab_unifiers.proofs.Ruling.{turned, equal_right, bodies_right, heads_right, image_none, pattern_applied, agreeing_kept, agreeing_long, Right, one_put, at_itself, at_another, different, known_less, known_more, distinct_names}

module _ (sg : Signature) {Hint : Type 0} (x : Hint) (cells : List (Cell Hint)) (ys : List (Variable ℕ)) (known : AreKnown cells ys) where
  -- what pruning keeps true of the variable that is solved for
  pub record Inv (y : Variable ℕ) (c : Change Hint) : Type 0 where
    pub still_known : AreKnown c.cells c.flexible
    pub none : value_in same_number c.pairs y ≡ None
    pub «without» : Without y (value_in same_number c.pairs)
    pub number : y.name < length c.cells
    pub gone : holds c.flexible y ≡ false

  pub inv_keeps : (y : Variable ℕ) (c : Change Hint) (z : Variable ℕ) (gs : List (Head ℕ)) (keep : List Bool) → holds c.flexible z ≡ true → Distinct gs → Inv y c → Inv y (narrowed x z gs keep c)
  inv_keeps y c z gs keep h d i =
      let w = next_variable x c.cells (kept_type keep z.type) in
      let cell = made x c.cells z (kept_type keep z.type) in
      let v = value x z gs (applied x w (kept keep gs)) in
      let more = one x z gs (applied x w (kept keep gs)) in
      let not_z : same_numbered z y ≡ false = false_from_ne_true (same_numbered z y) (λ e. false≢true (sym i.gone ∙ ap (holds c.flexible) (sym ((same_numbered-Decides z y).0 e)) ∙ h)) in
      let not_w : same_numbered w y ≡ false = false_from_ne_true (same_numbered w y) (λ e. let name : length c.cells ≡ y.name = ap (λ v. v.name) ((same_numbered-Decides w y).0 e) in absurd (omega (arith, name, i.number))) in
      let v_avoids = value_avoids y x z w gs (kept keep gs) (distinct_names (kept keep gs) (kept_distinct keep gs d)) not_w in
      record {
        still_known = known_more c.cells (without z c.flexible) cell (kept_type keep z.type) (known_less c.cells c.flexible z i.still_known);
        none = value_then c.pairs more y ∙ ap (then_by (value_in same_number more) y) i.none ∙ ap (λ b. cond b (Some v) None) not_z;
        «without» = λ u t e. avoid u (value_in same_number c.pairs u) refl t (sym (value_then c.pairs more u) ∙ e) (of_one z v v_avoids);
        number = (let longer : length (c.cells ++ cell ∷ []) ≡ length c.cells + 1 = length-append c.cells (cell ∷ []) in omega (arith, i.number, longer));
        gone = false_from_ne_true (holds (without z c.flexible ++ w ∷ []) y) (λ e. elim (not_held (without z c.flexible) (w ∷ []) y e) [ inl a ↦ false≢true (sym i.gone ∙ without_held z c.flexible y a) | inr a ↦ elim (or_cases (same_numbered w y) false a) [ inl b ↦ false≢true (sym not_w ∙ b) | inr b ↦ false≢true b ] ]);
      }
    where
      of_one : (z : Variable ℕ) (v : Term ℕ Hint) → Avoids y v → Without y (value_in same_number ((z, v) ∷ []))
      of_one z v a u t e = go (same_numbered z u) e
        where
          go : (b : Bool) → cond b (Some v) None ≡ Some t → Avoids y t
          go true f = let equal : v ≡ t = cc in subst (Avoids y) equal a
          go false f = absurd (cc)

      avoid : (u : Variable ℕ) (o : Option (Term ℕ Hint)) → value_in same_number c.pairs u ≡ o → (t : Term ℕ Hint) → then_by (value_in same_number (one x z gs (applied x (next_variable x c.cells (kept_type keep z.type)) (kept keep gs)))) u o ≡ Some t → Without y (value_in same_number (one x z gs (applied x (next_variable x c.cells (kept_type keep z.type)) (kept keep gs)))) → Avoids y t
      avoid u None f t e w = w u t e
      avoid u (Some r) f t e w =
          let more = one x z gs (applied x (next_variable x c.cells (kept_type keep z.type)) (kept keep gs)) in
          let equal : image same_number more r ≡ t = cc in
          subst (Avoids y) equal (image_avoids y (value_in same_number more) w r (i.«without» u r f))

  pub begun_fine : (y : Variable ℕ) → holds ys y ≡ true → Fine sg x ys (λ v. (holds ys v ≡ true) × (y ≢ v)) (Inv y) (inv_keeps y) (begun x cells ys y)
  begun_fine y h = record {
    safe = none_safe sg;
    tracks = λ v t G ts hs k p ds. record {
      now = v;
      args = ts;
      names = hs;
      is = image_none (spine (variable v) ts);
      flexible = holds_without y v t.1 ys t.0;
      pattern = p;
      fewer = λ g e. e;
    };
    inv = record {
      still_known = known_less cells ys y known;
      none = refl;
      «without» = λ u t e. absurd (let none : None ≡ Some t = e in cc);
      number = known y h;
      gone = false_from_ne_true (holds (without y ys) y) (λ e. without_itself y ys e);
    };
  }
    where
      without_itself : (y : Variable ℕ) (ys : List (Variable ℕ)) → holds (without y ys) y ≡ true → ⊥
      without_itself y [] e = false≢true e
      without_itself y (v ∷ vs) e = go (same_numbered v y) refl (without_itself y vs) e
        where
          go : (b : Bool) → same_numbered v y ≡ b → (holds (without y vs) y ≡ true → ⊥) → holds (cond (not b) (v ∷ without y vs) (without y vs)) y ≡ true → ⊥
          go true s rest e = rest e
          go false s rest e = elim (or_cases (same_numbered v y) (holds (without y vs) y) e) [ inl a ↦ false≢true (sym s ∙ a) | inr a ↦ rest a ]

  solved_for : (G : List Ty) (k : List ℕ) (y : Variable ℕ) (ts : Terms ℕ Hint) (names : List (Head ℕ)) (t : Term ℕ Hint) → holds ys y ≡ true → IsPattern y.type ts names → TakeType sg G ts y.type (kind k) → HasType sg G t (kind k) → has_patterns ys t ≡ true → occurs y t ≡ false → no_foreign ys names t ≡ true
      → Right sg cells ys (spine (variable y) ts) t (replaced (put_in x cells ys y names t (pruned x ys names t (begun x cells ys y))))
  solved_for G k y ts names t h p ds d hp oc nf =
      let c0 = begun x cells ys y in
      let c1 = pruned x ys names t c0 in
      let result = pruned_fine sg x ys (λ v. (holds ys v ≡ true) × (y ≢ v)) (Inv y) (inv_keeps y) names t c0 d (begun_fine y h) (λ v a b. (b, λ e. false≢true (sym oc ∙ subst (λ u. holds (variables t) u ≡ true) (sym e) a))) hp nf in
      let fine = result.0.fine in
      let t1 = image same_number c1.pairs t in
      let typed : HasType sg G t1 (kind k) = image_typed sg same_number c1.pairs fine.safe.typed d in
      let put = one_put sg x G k y ts names t1 p ds typed result.1 in
      let more = one x y names t1 in
      let whole : HasType sg G (spine (variable y) ts) (kind k) = typed_spine refl ds in
      let stays : image same_number c1.pairs (spine (variable y) ts) ≡ spine (variable y) ts =
      ap (put_for y (value_in same_number c1.pairs y)) (image_pattern (value_in same_number c1.pairs) p) ∙ ap (λ o. put_for y o ts) fine.inv.none in
      let left : image same_number (composition same_number c1.pairs more) (spine (variable y) ts) ≡ reduce y.type (value x y names t1) ts =
      image-composition sg same_number c1.pairs fine.safe.typed more put.0.typed whole ∙ ap (image same_number more) stays ∙ at_itself sg x y (value x y names t1) ts names [] p in
      let right : image same_number (composition same_number c1.pairs more) t ≡ t1 =
      image-composition sg same_number c1.pairs fine.safe.typed more put.0.typed d ∙ image_avoided y (value x y names t1) t1 (image_avoids y (value_in same_number c1.pairs) fine.inv.«without» t (avoids_if y t oc)) in
      (both_safe sg c1.pairs more fine.safe put.0, fine.inv.still_known, ap forget left ∙ put.1 ∙ sym (ap forget right))

  pattern_of_right : (G : List Ty) (k : List ℕ) (y : Variable ℕ) (ts : Terms ℕ Hint) (t : Term ℕ Hint) (o : Option (List (Head ℕ))) → pattern y.type ts ≡ o → holds ys y ≡ true → TakeType sg G ts y.type (kind k) → HasType sg G t (kind k) → OnResult (Right sg cells ys (spine (variable y) ts) t) (pattern_of x cells ys y t o)
  pattern_of_right G k y ts t None e h ds d = tt
  pattern_of_right G k y ts t (Some names) e h ds d =
      on_cond (Right sg cells ys (spine (variable y) ts) t) (has_patterns ys t) (Some (cond (occurs y t || not (no_foreign ys names t)) clash (replaced (put_in x cells ys y names t (pruned x ys names t (begun x cells ys y)))))) None (λ hp. go (occurs y t || not (no_foreign ys names t)) refl hp) (λ f. tt)
    where
      go : (b : Bool) → (occurs y t || not (no_foreign ys names t)) ≡ b → has_patterns ys t ≡ true → Right sg cells ys (spine (variable y) ts) t (cond b clash (replaced (put_in x cells ys y names t (pruned x ys names t (begun x cells ys y)))))
      go true f hp = tt
      go false f hp =
          let parts = or_parts (occurs y t) (not (no_foreign ys names t)) f in
          solved_for G k y ts names t h (is_pattern y.type ts names e) ds d hp parts.0 (not-false (no_foreign ys names t) parts.1)

  rigid_right : (G : List Ty) (T : Ty) (t u : Term ℕ Hint) → HasType sg G t T → HasType sg G u T → OnResult (Right sg cells ys t u) (pattern_and_rigid x cells ys t u)
  rigid_right G T (spine (variable y) ts) (spine h us) d e =
      let r = spine_args sg G y ts T d in
      on_cond (Right sg cells ys (spine (variable y) ts) (spine h us)) (holds ys y && not (is_flexible ys h)) (pattern_of x cells ys y (spine h us) (pattern y.type ts)) None
      (λ f. pattern_of_right G r.0 y ts (spine h us) (pattern y.type ts) refl ((and_parts (holds ys y) (not (is_flexible ys h)) f).0) r.2 (subst (λ C. HasType sg G (spine h us) C) r.1 e))
      (λ f. tt)
  rigid_right G T (spine (variable y) ts) (lam A z u) d e = tt
  rigid_right G T (spine (constant c) ts) u d e = tt
  rigid_right G T (spine (logical l) ts) u d e = tt
  rigid_right G T (spine (nominal a) ts) u d e = tt
  rigid_right G T (spine (index i) ts) u d e = tt
  rigid_right G T (lam A z t) u d e = tt

  -- one variable on both sides
  one_at_right : (G : List Ty) (k : List ℕ) (y z : Variable ℕ) (ts us : Terms ℕ Hint) (o q : Option (List (Head ℕ))) → pattern y.type ts ≡ o → pattern z.type us ≡ q → y ≡ z → TakeType sg G ts y.type (kind k) → TakeType sg G us z.type (kind k) → OnResult (Right sg cells ys (spine (variable y) ts) (spine (variable z) us)) (same_variable_at x cells ys y o q)
  one_at_right G k y z ts us None q e f s ds es = tt
  one_at_right G k y z ts us (Some names) None e f s ds es = tt
  one_at_right G k y z ts us (Some names) (Some others) e f s ds es =
      let keep = agreeing names others in
      let w = next_variable x cells (kept_type keep y.type) in
      let v = value x y names (applied x w (kept keep names)) in
      let p = is_pattern y.type ts names e in
      let second_typed : TakeType sg G us y.type (kind k) = subst (λ v. TakeType sg G us v.type (kind k)) (sym s) es in
      let r : IsPattern y.type us others = is_pattern y.type us others (ap (λ v. pattern v.type us) s ∙ f) in
      let n = pattern_named sg p ds in
      let m = pattern_named sg r second_typed in
      let lengths : length names ≡ length others = named_length k n ∙ sym (named_length k m) in
      let flags : length keep ≡ length names = agreeing_long names others lengths in
      let left = ap forget (at_itself sg x y v ts names [] p) ∙ narrow_image sg x G k (length cells) y names keep ts names (pattern_distinct p) refl flags p ds in
      let right = ap forget (at_itself sg x y v us others [] r) ∙ narrow_image sg x G k (length cells) y names keep us others (pattern_distinct p) lengths (flags ∙ lengths) r second_typed in
      let same_kept = ap (λ hs. forget (applied x w hs)) (agreeing_kept names others) in
      let turned = ap (λ v. forget (image same_number (one x y names (applied x w (kept keep names))) (spine (variable v) us))) (sym s) in (
        narrow_safe sg x G k (length cells) y names keep n flags,
        known_more cells (without y ys) (made x cells y (kept_type keep y.type)) (kept_type keep y.type) (known_less cells ys y known),
        left ∙ same_kept ∙ sym right ∙ sym turned,
      )

  one_right : (G : List Ty) (T : Ty) (t u : Term ℕ Hint) → HasType sg G t T → HasType sg G u T → OnResult (Right sg cells ys t u) (one_variable x cells ys t u)
  one_right G T (spine (variable y) ts) (spine (variable z) us) d e =
      let r = spine_args sg G y ts T d in
      let q = spine_args sg G z us (kind r.0) (subst (λ C. HasType sg G (spine (variable z) us) C) r.1 e) in
      let same_kind : TakeType sg G us z.type (kind r.0) = subst (λ C. TakeType sg G us z.type C) (sym q.1) q.2 in
      on_cond (Right sg cells ys (spine (variable y) ts) (spine (variable z) us)) (holds ys y && same_numbered y z) (same_variable_at x cells ys y (pattern y.type ts) (pattern z.type us)) None
      (λ f. one_at_right G r.0 y z ts us (pattern y.type ts) (pattern z.type us) refl refl ((same_numbered-Decides y z).0 ((and_parts (holds ys y) (same_numbered y z) f).1)) r.2 same_kind)
      (λ f. tt)
  one_right G T (spine (variable y) ts) (spine (constant c) us) d e = tt
  one_right G T (spine (variable y) ts) (spine (logical c) us) d e = tt
  one_right G T (spine (variable y) ts) (spine (nominal c) us) d e = tt
  one_right G T (spine (variable y) ts) (spine (index c) us) d e = tt
  one_right G T (spine (variable y) ts) (lam A z u) d e = tt
  one_right G T (spine (constant c) ts) u d e = tt
  one_right G T (spine (logical l) ts) u d e = tt
  one_right G T (spine (nominal a) ts) u d e = tt
  one_right G T (spine (index i) ts) u d e = tt
  one_right G T (lam A z t) u d e = tt

  -- z is given the pattern y names
  put_other : (G : List Ty) (k : List ℕ) (y : Variable ℕ) (ts : Terms ℕ Hint) (names : List (Head ℕ)) (z : Variable ℕ) (us : Terms ℕ Hint) (others : List (Head ℕ)) → y ≢ z → IsPattern y.type ts names → TakeType sg G ts y.type (kind k) → IsPattern z.type us others → TakeType sg G us z.type (kind k) → ((g : Head ℕ) → among names g ≡ true → among others g ≡ true)
      → Right sg cells ys (spine (variable y) ts) (spine (variable z) us) (replaced (put_in x cells ys z others (applied x y names) (begun x cells ys z)))
  put_other G k y ts names z us others n p ds r es f =
      let a = applied x y names in
      let a1 = image same_number [] a in
      let v = value x z others a1 in
      let typed : HasType sg G a1 (kind k) = subst (λ t. HasType sg G t (kind k)) (sym (image_none a)) (applied_typed sg x y k (pattern_named sg p ds)) in
      let only : Only others a1 = subst (Only others) (sym (image_none a)) (applied_only x y names others f) in
      let put = one_put sg x G k z us others a1 r es typed only in
      let left : image same_number ((z, v) ∷ []) (spine (variable y) ts) ≡ spine (variable y) ts =
      at_another sg x z y v ts names [] (different z y (λ e. n (sym e))) p ∙ image_none (spine (variable y) ts) in (
        put.0,
        known_less cells ys z known,
        ap forget left ∙ ap (spine (translate_head (λ v. v) (variable y))) (pattern_applied x p) ∙ sym (ap forget (image_none a)) ∙ sym (ap forget (at_itself sg x z v us others [] r) ∙ put.1),
      )

  joined_right : (G : List Ty) (k : List ℕ) (y : Variable ℕ) (ts : Terms ℕ Hint) (names : List (Head ℕ)) (z : Variable ℕ) (us : Terms ℕ Hint) (others : List (Head ℕ)) → y ≢ z → IsPattern y.type ts names → TakeType sg G ts y.type (kind k) → IsPattern z.type us others → TakeType sg G us z.type (kind k)
      → Right sg cells ys (spine (variable y) ts) (spine (variable z) us) (replaced (joined_at x cells ys y names z others))
  joined_right G k y ts names z us others n p ds r es =
      let keep = map (among others) names in
      let w = next_variable x cells (kept_type keep y.type) in
      let common = applied x w (kept keep names) in
      let typed : HasType sg G common (kind k) = applied_typed sg x w k (kept_named keep (map_length (among others) names) (pattern_named sg p ds)) in
      let first = one_put sg x G k y ts names common p ds typed (applied_only x w (kept keep names) names (kept_among keep names)) in
      let second = one_put sg x G k z us others common r es typed (applied_only x w (kept keep names) others (kept_pass others names)) in
      let v1 = value x y names common in
      let v2 = value x z others common in
      let left : image same_number ((y, v1) ∷ (z, v2) ∷ []) (spine (variable y) ts) ≡ reduce y.type v1 ts = at_itself sg x y v1 ts names ((z, v2) ∷ []) p in
      let right : image same_number ((y, v1) ∷ (z, v2) ∷ []) (spine (variable z) us) ≡ reduce z.type v2 us = at_another sg x y z v1 us others ((z, v2) ∷ []) (different y z n) r ∙ at_itself sg x z v2 us others [] r in (
        pair_safe sg y v1 ((z, v2) ∷ []) first.0 second.0,
        known_more cells (without z (without y ys)) (made x cells y (kept_type keep y.type)) (kept_type keep y.type) (known_less cells (without y ys) z (known_less cells ys y known)),
        ap forget left ∙ first.1 ∙ sym (ap forget right ∙ second.1),
      )

  two_at_right : (G : List Ty) (k : List ℕ) (y z : Variable ℕ) (ts us : Terms ℕ Hint) (o q : Option (List (Head ℕ))) → pattern y.type ts ≡ o → pattern z.type us ≡ q → y ≢ z → TakeType sg G ts y.type (kind k) → TakeType sg G us z.type (kind k) → OnResult (Right sg cells ys (spine (variable y) ts) (spine (variable z) us)) (two_at x cells ys y o z q)
  two_at_right G k y z ts us None q e f n ds es = tt
  two_at_right G k y z ts us (Some names) None e f n ds es = tt
  two_at_right G k y z ts us (Some names) (Some others) e f n ds es = go (list_all (among others) names) refl (list_all (among names) others) refl
    where
      p : IsPattern y.type ts names
      p = is_pattern y.type ts names e

      r : IsPattern z.type us others
      r = is_pattern z.type us others f

      go : (b : Bool) → list_all (among others) names ≡ b → (c : Bool) → list_all (among names) others ≡ c → Right sg cells ys (spine (variable y) ts) (spine (variable z) us) (replaced (cond b (put_in x cells ys z others (applied x y names) (begun x cells ys z)) (cond c (put_in x cells ys y names (applied x z others) (begun x cells ys y)) (joined_at x cells ys y names z others))))
      go true a c g = put_other G k y ts names z us others n p ds r es (λ h m. all_pass others names h a m)
      go false a true g = let other = put_other G k z us others y ts names (λ e. n (sym e)) r es p ds (λ h m. all_pass names others h g m) in (other.0, other.1, sym other.2)
      go false a false g = joined_right G k y ts names z us others n p ds r es

  two_right : (G : List Ty) (T : Ty) (t u : Term ℕ Hint) → HasType sg G t T → HasType sg G u T → OnResult (Right sg cells ys t u) (two_variables x cells ys t u)
  two_right G T (spine (variable y) ts) (spine (variable z) us) d e =
      let r = spine_args sg G y ts T d in
      let q = spine_args sg G z us (kind r.0) (subst (λ C. HasType sg G (spine (variable z) us) C) r.1 e) in
      let same_kind : TakeType sg G us z.type (kind r.0) = subst (λ C. TakeType sg G us z.type C) (sym q.1) q.2 in
      on_cond (Right sg cells ys (spine (variable y) ts) (spine (variable z) us)) (holds ys z && is_older ys y z) (two_at x cells ys y (pattern y.type ts) z (pattern z.type us)) None
      (λ f. two_at_right G r.0 y z ts us (pattern y.type ts) (pattern z.type us) refl refl ((older_holds ys y z ((and_parts (holds ys z) (is_older ys y z) f).1)).1) r.2 same_kind)
      (λ f. tt)
  two_right G T (spine (variable y) ts) (spine (constant c) us) d e = tt
  two_right G T (spine (variable y) ts) (spine (logical c) us) d e = tt
  two_right G T (spine (variable y) ts) (spine (nominal c) us) d e = tt
  two_right G T (spine (variable y) ts) (spine (index c) us) d e = tt
  two_right G T (spine (variable y) ts) (lam A z u) d e = tt
  two_right G T (spine (constant c) ts) u d e = tt
  two_right G T (spine (logical l) ts) u d e = tt
  two_right G T (spine (nominal a) ts) u d e = tt
  two_right G T (spine (index i) ts) u d e = tt
  two_right G T (lam A z t) u d e = tt

  -- THE RULE
  pub rule_right : (e : Equation Hint) → IsTypedEquation sg e → OnResult (Right sg cells ys e.left e.right) (rule x cells ys e)
  rule_right e typed =
      let G = typed.0 in
      let T = typed.1 in
      let P = Right sg cells ys e.left e.right in
      on_or_else P (equal_sides e) _ (equal_right sg cells ys e)
      (on_or_else P (bodies e.place e.left e.right) _ (bodies_right sg cells ys e.place G T e.left e.right typed.2 typed.3)
      (on_or_else P (rigid_heads ys e.place e.left e.right) _ (heads_right sg cells ys e.place G T e.left e.right typed.2 typed.3)
      (on_or_else P (either_way x cells ys (pattern_and_rigid x cells ys) e) _
      (on_or_else P (pattern_and_rigid x cells ys e.left e.right) (pattern_and_rigid x cells ys e.right e.left) (rigid_right G T e.left e.right typed.2 typed.3) (turned sg cells ys e.left e.right (pattern_and_rigid x cells ys e.right e.left) (rigid_right G T e.right e.left typed.3 typed.2)))
      (on_or_else P (one_variable x cells ys e.left e.right) _ (one_right G T e.left e.right typed.2 typed.3)
      (on_or_else P (two_variables x cells ys e.left e.right) (two_variables x cells ys e.right e.left) (two_right G T e.left e.right typed.2 typed.3) (turned sg cells ys e.left e.right (two_variables x cells ys e.right e.left) (two_right G T e.right e.left typed.3 typed.2)))))))
