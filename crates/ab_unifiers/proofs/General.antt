-- Each rule loses nothing: what makes the sides of its equation the same follows what it puts in.
use Rattle.std.proofs.Common.{◌≡◌, ◌≢◌, ℕ, ◌+◌, ◌<◌, ◌≤◌, ◌⊎◌, inl, inr, List, [], ◌∷◌, ◌++◌, map, length, Bool, true, false, cond, ◌&&◌, ◌||◌, not, Option, Some, None, refl, sym, ◌∙◌, ap, subst, arith, length-append}
use Rattle.std.specs.List.{list_all}
use Rattle.std.proofs.lemmas.Bool.{false≢true, and_parts, or_parts, or_cases, or_left, or_right, not-false, not-true, false_from_ne_true}
use Rattle.ab_term.specs.Types.{Ty, kind}
use Rattle.ab_term.specs.Terms.{Variable, Head, constant, logical, nominal, variable, index, Term, lam, spine, Terms, no_terms, term}
use Rattle.ab_term.specs.Typing.{Signature, HasType, TakeType, typed_spine}
use Rattle.ab_term.specs.Substitution.{reduce}
use Rattle.ab_term.specs.Translation.{translate_head, forget, forget_all}
use Rattle.ab_term.specs.Variables.{variables_of_head, variables, put_for, put_at, image_by, image_all_by, value_in, image}
use Rattle.ab_term.specs.Sameness.{same_numbered, same_head, same_number, same_term}
use Rattle.ab_term.specs.Abstraction.{among, under, Only, OnlyAll}
use Rattle.ab_term.specs.Sizes.{size}
use Rattle.ab_term.proofs.Translations.{translate_all_typed}
use Rattle.ab_term.proofs.Compositions.{image_typed}
use Rattle.ab_term.proofs.Same.{same_numbered-Decides, same_head-Decides}
use Rattle.ab_term.proofs.Abstracting.{named_length}
use Rattle.ab_term.proofs.Determined.{NoIndex}
use Rattle.ab_unifiers.specs.Patterns.{pattern, value, applied, kept, kept_type}
use Rattle.ab_unifiers.specs.Replacements.{Cell, Change, without, holds, is_flexible, has_patterns, occurs, no_foreign, made, next_variable, one, narrowed, pruned}
use Rattle.ab_unifiers.specs.Unification.{Equation, Result, clash, parts, replaced, paired, equal_sides, bodies, rigid_heads, is_older, agreeing, begun, unchanged, put_in, pattern_of, pattern_and_rigid, same_variable_at, one_variable, joined_at, two_at, two_variables, either_way, rule}
use Rattle.ab_unifiers.specs.Unifiers.{IsTypedEquation, AreKnown}
use Rattle.ab_unifiers.proofs.Views.{IsPattern, is_pattern}
use Rattle.ab_unifiers.proofs.Falling.{holds_without, older_holds}
use Rattle.ab_unifiers.proofs.Steps.{OnResult, on_or_else, on_cond}
use Rattle.ab_unifiers.proofs.Values.{pattern_named, applied_typed, forget_pattern}
use Rattle.ab_unifiers.proofs.Agreeing.{holds_front, holds_behind, holds_itself, image_pattern}
use Rattle.ab_unifiers.proofs.Readings.{pattern_distinct, applied_only, kept_distinct}
use Rattle.ab_unifiers.proofs.Avoiding.{not_held, without_held, head_avoids, Avoids, AllAvoid, avoids_if, image_avoids, value_avoids, abstracted_avoids}
use Rattle.ab_unifiers.proofs.Ruling.{one_put, image_none, agreeing_long, pattern_applied, distinct_names}
use Rattle.ab_unifiers.proofs.Pruning.{spine_args}
use Rattle.ab_unifiers.proofs.Pruned.{all_pass, pruned_fine}
use Rattle.ab_unifiers.proofs.Flexible.{Inv, inv_keeps, begun_fine}
use Rattle.ab_unifiers.proofs.Agreements.{agreeing_only}
use Rattle.ab_unifiers.proofs.Following.{Put, only_on, Fits, Follows, follows_none, follows_on, follows_then, Known, AllKnown, KnownValues}
use Rattle.ab_unifiers.proofs.Putting.{given_only, put_follows, narrow_follows, joined_follows}
use Rattle.ab_unifiers.proofs.Apartness.{Scope, scope_under, pattern_apart, no_foreign_if, occurs_larger}
use Rattle.ab_unifiers.proofs.Followed.{known_one, known_then, known_value, image_own, Gen, pruned_gen}

module _ (f g : Put) (X : Variable ℕ) (a : (y : Variable ℕ) → same_numbered X y ≡ false → f y ≡ g y) where
  head_but : (h : Head ℕ) (ts ss : Terms ℕ (Unit {0})) → holds (variables_of_head h) X ≡ false → ts ≡ ss → put_at f (translate_head (λ v. v) h) ts ≡ put_at g (translate_head (λ v. v) h) ss
  head_but (constant c) ts ss k e = ap (spine (constant c)) e
  head_but (logical l) ts ss k e = ap (spine (logical l)) e
  head_but (nominal n) ts ss k e = ap (spine (nominal n)) e
  head_but (variable y) ts ss k e = ap (put_for y (f y)) e ∙ ap (λ o. put_for y o ss) (a y (false_from_ne_true (same_numbered X y) (λ s. false≢true (sym k ∙ ap (λ z. holds (z ∷ []) X) (sym ((same_numbered-Decides X y).0 s)) ∙ holds_itself X))))
  head_but (index i) ts ss k e = ap (spine (index i)) e

module _ {Hint : Type 0} where
  -- both sides over names that the others don't meet, with variables below m
  pub record Scoped (others : List (Head ℕ)) (m : ℕ) (t u : Term ℕ Hint) : Type 0 where
    pub names : List (Head ℕ)
    pub scope : Scope others names
    pub left : Only names t
    pub right : Only names u
    pub left_known : Known m t
    pub right_known : Known m u

  abbrev pub AllScoped : List (Head ℕ) → ℕ → List (Equation Hint) → Type 0
  AllScoped others m [] = Unit {0}
  AllScoped others m (e ∷ es) = Scoped others m e.left e.right × AllScoped others m es

  abbrev pub Alike : Put → Term ℕ Hint → Term ℕ Hint → Type 0
  Alike f t u = image_by f (forget t) ≡ image_by f (forget u)

  abbrev pub AllAlike : Put → List (Equation Hint) → Type 0
  AllAlike f [] = Unit {0}
  AllAlike f (e ∷ es) = Alike f e.left e.right × AllAlike f es

  -- a variable that doesn't stand there doesn't matter
  module _ (f g : Put) (X : Variable ℕ) (a : (y : Variable ℕ) → same_numbered X y ≡ false → f y ≡ g y) where
    mutual
      agrees_but : (t : Term ℕ Hint) → Avoids X t → image_by f (forget t) ≡ image_by g (forget t)
      agrees_but (lam A x t) k = ap (lam A tt) (agrees_but t k)
      agrees_but (spine h ts) k = head_but f g X a h (image_all_by f (forget_all ts)) (image_all_by g (forget_all ts)) (head_avoids X h k.0) (all_agree_but ts k.1)

      all_agree_but : (ts : Terms ℕ Hint) → AllAvoid X ts → image_all_by f (forget_all ts) ≡ image_all_by g (forget_all ts)
      all_agree_but no_terms k = refl
      all_agree_but (term t ts) k = ap (λ s. term s (image_all_by f (forget_all ts))) (agrees_but t k.0) ∙ ap (term (image_by g (forget t))) (all_agree_but ts k.1)

turn_scoped : {Hint : Type 0} {others : List (Head ℕ)} {m : ℕ} {t u : Term ℕ Hint} → Scoped others m t u → Scoped others m u t
turn_scoped s = record { names = s.names; scope = s.scope; left = s.right; right = s.left; left_known = s.right_known; right_known = s.left_known }

module _ (sg : Signature) (others : List (Head ℕ)) (none : NoIndex others) {Hint : Type 0} (x : Hint) (cells : List (Cell Hint)) (ys : List (Variable ℕ)) (are_known : AreKnown cells ys) where
  -- WHAT A RULE GIVES FOR TWO TERMS IS MOST GENERAL
  abbrev pub General : Term ℕ Hint → Term ℕ Hint → Result Hint → Type 0
  General t u clash = (f : Put) → Fits sg others ys f → Alike f t u → ⊥
  General t u (parts es) = AllScoped others (length cells) es × ((f : Put) → Fits sg others ys f → Alike f t u → AllAlike f es)
  General t u (replaced c) = (f : Put) → Fits sg others ys f → Alike f t u → KnownValues (length c.cells) c.pairs × (length cells ≤ length c.cells) × Follows sg others (length cells) c.flexible c.pairs f

  turned : (t u : Term ℕ Hint) (o : Option (Result Hint)) → OnResult (General u t) o → OnResult (General t u) o
  turned t u None r = tt
  turned t u (Some clash) r = λ f a e. r f a (sym e)
  turned t u (Some (parts es)) r = (r.0, λ f a e. r.1 f a (sym e))
  turned t u (Some (replaced c)) r = λ f a e. r f a (sym e)

  equal_general : (e : Equation Hint) → OnResult (General e.left e.right) (equal_sides e)
  equal_general e = on_cond (General e.left e.right) (same_term e.left e.right) (Some (parts [])) None (λ q. (tt, λ f a b. tt)) (λ q. tt)

  bodies_general : (p : ℕ) (t u : Term ℕ Hint) → Scoped others (length cells) t u → OnResult (General t u) (bodies p t u)
  bodies_general p (lam A y t) (lam B z u) s = (
    (record { names = under s.names; scope = scope_under others s.names s.scope; left = s.left; right = s.right; left_known = s.left_known; right_known = s.right_known }, tt),
    λ f a e. ((let inner : image_by f (forget t) ≡ image_by f (forget u) = cc in inner), tt),
  )
  bodies_general p (lam A y t) (spine h us) s = tt
  bodies_general p (spine g ts) u s = tt

  rigid_put : (f : Put) → Fits sg others ys f → (h : Head ℕ) (ss : Terms ℕ (Unit {0})) → is_flexible ys h ≡ false → put_at f (translate_head (λ v. v) h) ss ≡ spine h ss
  rigid_put f fits (constant c) ss r = refl
  rigid_put f fits (logical l) ss r = refl
  rigid_put f fits (nominal a) ss r = refl
  rigid_put f fits (variable z) ss r = ap (λ o. put_for z o ss) (fits.none z r)
  rigid_put f fits (index i) ss r = refl

  paired_scoped : (p : ℕ) (names : List (Head ℕ)) → Scope others names → (ts us : Terms ℕ Hint) → OnlyAll names ts → OnlyAll names us → AllKnown (length cells) ts → AllKnown (length cells) us → AllScoped others (length cells) (paired p ts us)
  paired_scoped p names s no_terms us a b k l = tt
  paired_scoped p names s (term t ts) no_terms a b k l = tt
  paired_scoped p names s (term t ts) (term u us) a b k l =
      (record { names = names; scope = s; left = a.0; right = b.0; left_known = λ y q. (k y q).0; right_known = λ y q. (l y q).0 }, paired_scoped p names s ts us a.1 b.1 (λ y q. (k y q).1) (λ y q. (l y q).1))

  paired_alike : (f : Put) (p : ℕ) (ts us : Terms ℕ Hint) → image_all_by f (forget_all ts) ≡ image_all_by f (forget_all us) → AllAlike f (paired p ts us)
  paired_alike f p no_terms us e = tt
  paired_alike f p (term t ts) no_terms e = tt
  paired_alike f p (term t ts) (term u us) e =
      let first : image_by f (forget t) ≡ image_by f (forget u) = cc in
      let rest : image_all_by f (forget_all ts) ≡ image_all_by f (forget_all us) = cc in
      (first, paired_alike f p ts us rest)

  heads_general : (p : ℕ) (t u : Term ℕ Hint) → Scoped others (length cells) t u → OnResult (General t u) (rigid_heads ys p t u)
  heads_general p (lam A z t) u s = tt
  heads_general p (spine g ts) (lam B z u) s = tt
  heads_general p (spine g ts) (spine h us) s =
      on_cond (General (spine g ts) (spine h us)) (is_flexible ys g || is_flexible ys h) None (Some (cond (same_head g h) (parts (paired p ts us)) clash)) (λ e. tt)
      (λ e. let rs = or_parts (is_flexible ys g) (is_flexible ys h) e in go rs.0 rs.1 (same_head g h) refl)
    where
      spines : is_flexible ys g ≡ false → is_flexible ys h ≡ false → (f : Put) → Fits sg others ys f → Alike f (spine g ts) (spine h us) → spine g (image_all_by f (forget_all ts)) ≡ spine h (image_all_by f (forget_all us))
      spines r q f fits e = sym (rigid_put f fits g (image_all_by f (forget_all ts)) r) ∙ e ∙ rigid_put f fits h (image_all_by f (forget_all us)) q

      go : is_flexible ys g ≡ false → is_flexible ys h ≡ false → (b : Bool) → same_head g h ≡ b → General (spine g ts) (spine h us) (cond b (parts (paired p ts us)) clash)
      go r q true b = (
        paired_scoped p s.names s.scope ts us s.left.1 s.right.1 (λ y l. (s.left_known y l).1) (λ y l. (s.right_known y l).1),
        λ f fits e. paired_alike f p ts us (let both = spines r q f fits e in let args : image_all_by f (forget_all ts) ≡ image_all_by f (forget_all us) = cc in args),
      )
      go r q false b = λ f fits e. let both = spines r q f fits e in let heads : g ≡ h = cc in false≢true (sym b ∙ (same_head-Decides g h).1 heads)

  longer : (c : Cell Hint) → length (cells ++ c ∷ []) ≡ length cells + 1
  longer c = length-append cells (c ∷ [])

  -- 5. one variable on both sides
  one_general : (G : List Ty) (k : List ℕ) (y : Variable ℕ) (ts us : Terms ℕ Hint) (gs hs : List (Head ℕ)) → holds ys y ≡ true → IsPattern y.type ts gs → IsPattern y.type us hs → TakeType sg G ts y.type (kind k) → TakeType sg G us y.type (kind k) → Scoped others (length cells) (spine (variable y) ts) (spine (variable y) us)
      → General (spine (variable y) ts) (spine (variable y) us) (replaced (narrowed x y gs (agreeing gs hs) (unchanged x cells ys)))
  one_general G k y ts us gs hs h p q ds es s =
      let keep = agreeing gs hs in
      let n = length cells in
      let w : Variable ℕ = next_variable x cells (kept_type keep y.type) in
      let cell = made x cells y (kept_type keep y.type) in
      let first = named_length k (pattern_named sg p ds) in
      let second = named_length k (pattern_named sg q es) in
      let lengths : length gs ≡ length hs = first ∙ sym second in
      let gs_apart = pattern_apart sg others s.names none s.scope p s.left.1 in
      let hs_apart = pattern_apart sg others s.names none s.scope q s.right.1 in
      let plain_ds : TakeType sg G (forget_all ts) y.type (kind k) = translate_all_typed sg (λ v. v) (λ z. tt) ds in
      let plain_es : TakeType sg G (forget_all us) y.type (kind k) = translate_all_typed sg (λ v. v) (λ z. tt) es in
      λ f fits e. (
        subst (λ l. KnownValues l (one x y gs (applied x w (kept keep gs)))) (sym (longer cell)) (known_one (n + 1) y (value x y gs (applied x w (kept keep gs))) (λ v l. known_value x n (kept_type keep y.type) y gs (kept keep gs) (kept_distinct keep gs (pattern_distinct p)) v (omega (arith, l)))),
        (let long = longer cell in omega (arith, long)),
        narrow_follows sg others none x f ys (without y ys ++ w ∷ []) fits n y keep h (agreeing_long gs hs lengths)
            (holds_behind (without y ys) (w ∷ []) w (holds_itself w))
            (λ v i. from_new y w v i)
            (λ v i j. holds_front (without y ys) (w ∷ []) v (holds_without y v (λ r. false≢true (sym i ∙ (same_numbered-Decides y v).1 r)) ys j))
            p ds gs_apart
            (λ v own. agreeing_only sg others v (forget_pattern p) (forget_pattern q) plain_ds plain_es lengths gs_apart hs_apart (fits.typed y v own) (fits.has y v own) (sym (image_own f y v own p) ∙ e ∙ image_own f y v own q) (given_only sg others none x p v (fits.has y v own))),
      )
    where
      from_new : (y w v : Variable ℕ) → holds (without y ys ++ w ∷ []) v ≡ true → (same_numbered w v ≡ true) ⊎ (holds ys v ≡ true)
      from_new y w v i = elim (not_held (without y ys) (w ∷ []) v i) [ inl a ↦ inr (without_held y ys v a) | inr a ↦ elim (or_cases (same_numbered w v) false a) [ inl b ↦ inl b | inr b ↦ absurd (false≢true b) ] ]

  one_at_general : (G : List Ty) (k : List ℕ) (y z : Variable ℕ) (ts us : Terms ℕ Hint) (o q : Option (List (Head ℕ))) → pattern y.type ts ≡ o → pattern z.type us ≡ q → holds ys y ≡ true → y ≡ z → TakeType sg G ts y.type (kind k) → TakeType sg G us z.type (kind k) → Scoped others (length cells) (spine (variable y) ts) (spine (variable z) us) → OnResult (General (spine (variable y) ts) (spine (variable z) us)) (same_variable_at x cells ys y o q)
  one_at_general G k y z ts us None q e f h s ds es sc = tt
  one_at_general G k y z ts us (Some gs) None e f h s ds es sc = tt
  one_at_general G k y z ts us (Some gs) (Some hs) e f h s ds es sc =
      subst (λ v. General (spine (variable y) ts) (spine (variable v) us) (replaced (narrowed x y gs (agreeing gs hs) (unchanged x cells ys)))) s
      (one_general G k y ts us gs hs h (is_pattern y.type ts gs e) (is_pattern y.type us hs (ap (λ v. pattern v.type us) s ∙ f)) ds (subst (λ v. TakeType sg G us v.type (kind k)) (sym s) es) (subst (λ v. Scoped others (length cells) (spine (variable y) ts) (spine (variable v) us)) (sym s) sc))

  one_variable_general : (G : List Ty) (T : Ty) (t u : Term ℕ Hint) → HasType sg G t T → HasType sg G u T → Scoped others (length cells) t u → OnResult (General t u) (one_variable x cells ys t u)
  one_variable_general G T (spine (variable y) ts) (spine (variable z) us) d e sc =
      let r = spine_args sg G y ts T d in
      let q = spine_args sg G z us (kind r.0) (subst (λ C. HasType sg G (spine (variable z) us) C) r.1 e) in
      let same_kind : TakeType sg G us z.type (kind r.0) = subst (λ C. TakeType sg G us z.type C) (sym q.1) q.2 in
      on_cond (General (spine (variable y) ts) (spine (variable z) us)) (holds ys y && same_numbered y z) (same_variable_at x cells ys y (pattern y.type ts) (pattern z.type us)) None
      (λ f. let ps = and_parts (holds ys y) (same_numbered y z) f in one_at_general G r.0 y z ts us (pattern y.type ts) (pattern z.type us) refl refl ps.0 ((same_numbered-Decides y z).0 ps.1) r.2 same_kind sc)
      (λ f. tt)
  one_variable_general G T (spine (variable y) ts) (spine (constant c) us) d e sc = tt
  one_variable_general G T (spine (variable y) ts) (spine (logical c) us) d e sc = tt
  one_variable_general G T (spine (variable y) ts) (spine (nominal c) us) d e sc = tt
  one_variable_general G T (spine (variable y) ts) (spine (index c) us) d e sc = tt
  one_variable_general G T (spine (variable y) ts) (lam A z u) d e sc = tt
  one_variable_general G T (spine (constant c) ts) u d e sc = tt
  one_variable_general G T (spine (logical l) ts) u d e sc = tt
  one_variable_general G T (spine (nominal a) ts) u d e sc = tt
  one_variable_general G T (spine (index i) ts) u d e sc = tt
  one_variable_general G T (lam A z t) u d e sc = tt

  -- 6. z is given the pattern y names
  other_general : (G : List Ty) (k : List ℕ) (y : Variable ℕ) (ts : Terms ℕ Hint) (gs : List (Head ℕ)) (z : Variable ℕ) (us : Terms ℕ Hint) (hs : List (Head ℕ)) → y ≢ z → holds ys y ≡ true → holds ys z ≡ true → IsPattern y.type ts gs → TakeType sg G ts y.type (kind k) → IsPattern z.type us hs → TakeType sg G us z.type (kind k) → ((g : Head ℕ) → among gs g ≡ true → among hs g ≡ true) → Scoped others (length cells) (spine (variable y) ts) (spine (variable z) us)
      → General (spine (variable y) ts) (spine (variable z) us) (replaced (put_in x cells ys z hs (applied x y gs) (begun x cells ys z)))
  other_general G k y ts gs z us hs n hy hz p ds q es i s =
      let t : Term ℕ Hint = applied x y gs in
      let stays : image same_number [] t ≡ t = image_none t in
      let low : y.name < length cells = are_known y hy in
      let named = pattern_named sg p ds in
      let pairs_known : KnownValues (length cells) (one x z hs t) = known_one (length cells) z (value x z hs t) (λ v l. value_avoids v x z y hs gs (distinct_names gs (pattern_distinct p)) (false_from_ne_true (same_numbered y v) (λ e. let name : y.name ≡ v.name = ap (λ v. v.name) ((same_numbered-Decides y v).0 e) in absurd (omega (arith, l, name, low))))) in
      λ f fits e. (
        subst (λ u. KnownValues (length cells) (one x z hs u)) (sym stays) pairs_known,
        omega arith,
        subst (λ u. Follows sg others (length cells) (without z ys) (one x z hs u) f) (sym stays)
            (put_follows sg others none x f ys (without z ys) fits (length cells) z hz (λ v j. without_held z ys v j) (λ v a j. holds_without z v (λ r. false≢true (sym a ∙ (same_numbered-Decides z v).1 r)) ys j) q es (pattern_apart sg others s.names none s.scope q s.right.1) t (applied_typed sg x y k named) (applied_only x y gs hs i)
            (λ v own. becomes f e v own)),
      )
    where
      becomes : (f : Put) → Alike f (spine (variable y) ts) (spine (variable z) us) → (v : Term ℕ (Unit {0})) → f z ≡ Some v → image_by (only_on (without z ys) f) (forget (applied x y gs)) ≡ reduce z.type v (forget_all us)
      becomes f e v own =
          let g = only_on (without z ys) f in
          let past : forget (applied x y gs) ≡ forget (spine (variable y) ts) = ap (spine (variable y)) (sym (pattern_applied x p)) in
          ap (image_by g) past
          ∙ ap (put_for y (g y)) (image_pattern g (forget_pattern p))
          ∙ ap (λ b. put_for y (cond b (f y) None) (forget_all ts)) (holds_without z y (λ r. n (sym r)) ys hy)
          ∙ sym (ap (put_for y (f y)) (image_pattern f (forget_pattern p)))
          ∙ e ∙ image_own f z v own q

  joined_general : (G : List Ty) (k : List ℕ) (y : Variable ℕ) (ts : Terms ℕ Hint) (gs : List (Head ℕ)) (z : Variable ℕ) (us : Terms ℕ Hint) (hs : List (Head ℕ)) → y ≢ z → holds ys y ≡ true → holds ys z ≡ true → IsPattern y.type ts gs → TakeType sg G ts y.type (kind k) → IsPattern z.type us hs → TakeType sg G us z.type (kind k) → Scoped others (length cells) (spine (variable y) ts) (spine (variable z) us)
      → General (spine (variable y) ts) (spine (variable z) us) (replaced (joined_at x cells ys y gs z hs))
  joined_general G k y ts gs z us hs n hy hz p ds q es s =
      let keep = map (among hs) gs in
      let m = length cells in
      let A = kept_type keep y.type in
      let w : Variable ℕ = next_variable x cells A in
      let cell = made x cells y A in
      let t : Term ℕ Hint = applied x w (kept keep gs) in
      let distinct = kept_distinct keep gs (pattern_distinct p) in
      let first_known : Known (m + 1) (value x y gs t) = λ v l. known_value x m A y gs (kept keep gs) distinct v (omega (arith, l)) in
      let second_known : Known (m + 1) (value x z hs t) = λ v l. known_value x m A z hs (kept keep gs) distinct v (omega (arith, l)) in
      λ f fits e. (
        subst (λ l. KnownValues l (one x y gs t ++ one x z hs t)) (sym (longer cell)) (λ v l u r e. at_either v u r (value x y gs t) (value x z hs t) (first_known v l) (second_known v l) (same_numbered y u) e),
        (let long = longer cell in omega (arith, long)),
        joined_follows sg others none x f ys (without z (without y ys) ++ w ∷ []) fits m y z hy hz
            (holds_behind (without z (without y ys)) (w ∷ []) w (holds_itself w))
            (λ v i. elim (not_held (without z (without y ys)) (w ∷ []) v i) [ inl a ↦ inr (without_held y ys v (without_held z (without y ys) v a)) | inr a ↦ elim (or_cases (same_numbered w v) false a) [ inl b ↦ inl b | inr b ↦ absurd (false≢true b) ] ])
            (λ v a b j. holds_front (without z (without y ys)) (w ∷ []) v (holds_without z v (λ r. false≢true (sym b ∙ (same_numbered-Decides z v).1 r)) (without y ys) (holds_without y v (λ r. false≢true (sym a ∙ (same_numbered-Decides y v).1 r)) ys j)))
            p ds (pattern_apart sg others s.names none s.scope p s.left.1) q es (pattern_apart sg others s.names none s.scope q s.right.1)
            (λ v u fy fz. sym (image_own f y v fy p) ∙ e ∙ image_own f z u fz q),
      )
    where
      at_either : (v u : Variable ℕ) (r vy vz : Term ℕ Hint) → Avoids v vy → Avoids v vz → (b : Bool) → cond b (Some vy) (value_in same_number ((z, vz) ∷ []) u) ≡ Some r → Avoids v r
      at_either v u r vy vz a c true e = let equal : vy ≡ r = cc in subst (Avoids v) equal a
      at_either v u r vy vz a c false e = at_second (same_numbered z u) e
        where
          at_second : (b : Bool) → cond b (Some vz) None ≡ Some r → Avoids v r
          at_second true e = let equal : vz ≡ r = cc in subst (Avoids v) equal c
          at_second false e = absurd (cc)

  two_at_general : (G : List Ty) (k : List ℕ) (y z : Variable ℕ) (ts us : Terms ℕ Hint) (o q : Option (List (Head ℕ))) → pattern y.type ts ≡ o → pattern z.type us ≡ q → y ≢ z → holds ys y ≡ true → holds ys z ≡ true → TakeType sg G ts y.type (kind k) → TakeType sg G us z.type (kind k) → Scoped others (length cells) (spine (variable y) ts) (spine (variable z) us) → OnResult (General (spine (variable y) ts) (spine (variable z) us)) (two_at x cells ys y o z q)
  two_at_general G k y z ts us None q e f n hy hz ds es s = tt
  two_at_general G k y z ts us (Some gs) None e f n hy hz ds es s = tt
  two_at_general G k y z ts us (Some gs) (Some hs) e f n hy hz ds es s = go (list_all (among hs) gs) refl (list_all (among gs) hs) refl
    where
      p : IsPattern y.type ts gs
      p = is_pattern y.type ts gs e

      r : IsPattern z.type us hs
      r = is_pattern z.type us hs f

      go : (b : Bool) → list_all (among hs) gs ≡ b → (c : Bool) → list_all (among gs) hs ≡ c → General (spine (variable y) ts) (spine (variable z) us) (replaced (cond b (put_in x cells ys z hs (applied x y gs) (begun x cells ys z)) (cond c (put_in x cells ys y gs (applied x z hs) (begun x cells ys y)) (joined_at x cells ys y gs z hs))))
      go true a c g = other_general G k y ts gs z us hs n hy hz p ds r es (λ h m. all_pass hs gs h a m) s
      go false a true g = let other = other_general G k z us hs y ts gs (λ e. n (sym e)) hz hy r es p ds (λ h m. all_pass gs hs h g m) (turn_scoped s) in λ f fits e. other f fits (sym e)
      go false a false g = joined_general G k y ts gs z us hs n hy hz p ds r es s

  two_general : (G : List Ty) (T : Ty) (t u : Term ℕ Hint) → HasType sg G t T → HasType sg G u T → Scoped others (length cells) t u → OnResult (General t u) (two_variables x cells ys t u)
  two_general G T (spine (variable y) ts) (spine (variable z) us) d e sc =
      let r = spine_args sg G y ts T d in
      let q = spine_args sg G z us (kind r.0) (subst (λ C. HasType sg G (spine (variable z) us) C) r.1 e) in
      let same_kind : TakeType sg G us z.type (kind r.0) = subst (λ C. TakeType sg G us z.type C) (sym q.1) q.2 in
      on_cond (General (spine (variable y) ts) (spine (variable z) us)) (holds ys z && is_older ys y z) (two_at x cells ys y (pattern y.type ts) z (pattern z.type us)) None
      (λ f. let ps = and_parts (holds ys z) (is_older ys y z) f in let old = older_holds ys y z ps.1 in two_at_general G r.0 y z ts us (pattern y.type ts) (pattern z.type us) refl refl old.1 old.0 ps.0 r.2 same_kind sc)
      (λ f. tt)
  two_general G T (spine (variable y) ts) (spine (constant c) us) d e sc = tt
  two_general G T (spine (variable y) ts) (spine (logical c) us) d e sc = tt
  two_general G T (spine (variable y) ts) (spine (nominal c) us) d e sc = tt
  two_general G T (spine (variable y) ts) (spine (index c) us) d e sc = tt
  two_general G T (spine (variable y) ts) (lam A z u) d e sc = tt
  two_general G T (spine (constant c) ts) u d e sc = tt
  two_general G T (spine (logical l) ts) u d e sc = tt
  two_general G T (spine (nominal a) ts) u d e sc = tt
  two_general G T (spine (index i) ts) u d e sc = tt
  two_general G T (lam A z t) u d e sc = tt

  abbrev Prunes : Variable ℕ → (f : Put) → Fits sg others ys f → Change Hint → Type 0
  Prunes y f fits c = Gen sg others none x ys (λ v. (holds ys v ≡ true) × (y ≢ v)) (Inv sg x cells ys are_known y) (inv_keeps sg x cells ys are_known y) f fits (length cells) y c

  -- the same_numbered variables, y first
  front_fits : (y : Variable ℕ) → holds ys y ≡ true → (f : Put) → Fits sg others ys f → Fits sg others (y ∷ without y ys) f
  front_fits y h f fits = record { typed = fits.typed; has = fits.has; some = λ v e. fits.some v (up v (or_cases (same_numbered y v) (holds (without y ys) v) e)); none = λ v e. fits.none v (false_from_ne_true (holds ys v) (λ a. false≢true (sym e ∙ down v (same_numbered y v) refl a))) }
    where
      up : (v : Variable ℕ) → (same_numbered y v ≡ true) ⊎ (holds (without y ys) v ≡ true) → holds ys v ≡ true
      up v (inl s) = subst (λ w. holds ys w ≡ true) ((same_numbered-Decides y v).0 s) h
      up v (inr a) = without_held y ys v a

      down : (v : Variable ℕ) (b : Bool) → same_numbered y v ≡ b → holds ys v ≡ true → (same_numbered y v || holds (without y ys) v) ≡ true
      down v true s a = or_left (same_numbered y v) (holds (without y ys) v) s
      down v false s a = or_right (same_numbered y v) (holds (without y ys) v) (holds_without y v (λ r. false≢true (sym s ∙ (same_numbered-Decides y v).1 r)) ys a)

  -- the image of the rigid side has the pattern's names
  side_only : (G : List Ty) (k : List ℕ) (y : Variable ℕ) (ts : Terms ℕ Hint) (names : List (Head ℕ)) (t : Term ℕ Hint) → holds ys y ≡ true → IsPattern y.type ts names → (f : Put) → Fits sg others ys f → Alike f (spine (variable y) ts) t → Only (names ++ others) (image_by f (forget t))
  side_only G k y ts names t h p f fits e = let own = fits.some y h in subst (Only (names ++ others)) (sym (image_own f y own.0 own.1 p) ∙ e) (given_only sg others none x p own.0 (fits.has y own.0 own.1))

  -- 4. the variable is solved for
  solved_general : (G : List Ty) (k : List ℕ) (y : Variable ℕ) (ts : Terms ℕ Hint) (names : List (Head ℕ)) (t : Term ℕ Hint) → holds ys y ≡ true → IsPattern y.type ts names → TakeType sg G ts y.type (kind k) → HasType sg G t (kind k) → has_patterns ys t ≡ true → occurs y t ≡ false → no_foreign ys names t ≡ true → Scoped others (length cells) (spine (variable y) ts) t
      → General (spine (variable y) ts) t (replaced (put_in x cells ys y names t (pruned x ys names t (begun x cells ys y))))
  solved_general G k y ts names t h p ds d hp oc nf s f fits e =
      let n = length cells in
      let Tracked : Variable ℕ → Type 0 = λ v. (holds ys v ≡ true) × (y ≢ v) in
      let c0 = begun x cells ys y in
      let c1 = pruned x ys names t c0 in
      let tracked : (v : Variable ℕ) → holds (variables t) v ≡ true → holds ys v ≡ true → (holds ys v ≡ true) × (y ≢ v) = λ v a b. (b, λ e. false≢true (sym oc ∙ subst (λ u. holds (variables t) u ≡ true) (sym e) a)) in
      let fine0 = begun_fine sg x cells ys are_known y h in
      let result = pruned_fine sg x ys Tracked (Inv sg x cells ys are_known y) (inv_keeps sg x cells ys are_known y) names t c0 d fine0 tracked hp nf in
      let fine = result.0.fine in
      let t1 = image same_number c1.pairs t in
      let gen0 : Prunes y f fits c0 = record { follows = follows_none sg others n (y ∷ without y ys) f (front_fits y h f fits); known = λ v l u r q. absurd (let none_there : None ≡ Some r = q in cc); longer = omega arith } in
      let gen1 = pruned_gen sg others none x ys Tracked (Inv sg x cells ys are_known y) (inv_keeps sg x cells ys are_known y) f fits n y names s.names s.scope t c0 d fine0 gen0 tracked hp nf s.right s.right_known (side_only G k y ts names t h p f fits e) in
      let g = gen1.follows.next in
      let typed : HasType sg G t1 (kind k) = image_typed sg same_number c1.pairs fine.safe.typed d in
      let whole : HasType sg G (spine (variable y) ts) (kind k) = typed_spine refl ds in
      let stays : image same_number c1.pairs (spine (variable y) ts) ≡ spine (variable y) ts = ap (put_for y (value_in same_number c1.pairs y)) (image_pattern (value_in same_number c1.pairs) p) ∙ ap (λ o. put_for y o ts) fine.inv.none in
      let avoided : Avoids y t1 = image_avoids y (value_in same_number c1.pairs) fine.inv.«without» t (avoids_if y t oc) in
      let both : image_by g (forget t1) ≡ image_by g (forget (spine (variable y) ts)) =
      follows_on sg others fine.safe.typed gen1.follows d s.right_known ∙ sym e ∙ sym (follows_on sg others fine.safe.typed gen1.follows whole s.left_known) ∙ ap (λ u. image_by g (forget u)) stays in
      let rest = put_follows sg others none x g (y ∷ c1.flexible) c1.flexible gen1.follows.fits (length c1.cells) y (or_left (same_numbered y y) (holds c1.flexible y) ((same_numbered-Decides y y).1 refl))
      (λ v q. or_right (same_numbered y v) (holds c1.flexible v) q)
      (λ v a q. elim (or_cases (same_numbered y v) (holds c1.flexible v) q) [ inl b ↦ absurd (false≢true (sym a ∙ b)) | inr b ↦ b ])
      p ds (pattern_apart sg others s.names none s.scope p s.left.1) t1 typed result.1
      (λ v own. agrees_but (only_on c1.flexible g) g y (λ u a. only_same c1.flexible g y u gen1.follows.fits a (holds c1.flexible u) refl) t1 avoided ∙ both ∙ image_own g y v own p) in
      let value_safe : KnownValues (length c1.cells) (one x y names t1) = known_one (length c1.cells) y (value x y names t1) (λ v l. abstracted_avoids v x y.type names t1 (image_avoids v (value_in same_number c1.pairs) (gen1.known v l) t (s.right_known v (omega (arith, l, gen1.longer))))) in
      let put = one_put sg x G k y ts names t1 p ds typed result.1 in (
        known_then (length c1.cells) c1.pairs (one x y names t1) gen1.known value_safe,
        gen1.longer,
        follows_then sg others n (length c1.cells) (y ∷ c1.flexible) c1.flexible c1.pairs (one x y names t1) f gen1.longer fine.safe.typed put.0.typed gen1.known gen1.follows rest,
      )
    where
      only_same : (zs : List (Variable ℕ)) (g : Put) (y u : Variable ℕ) → Fits sg others (y ∷ zs) g → same_numbered y u ≡ false → (b : Bool) → holds zs u ≡ b → only_on zs g u ≡ g u
      only_same zs g y u fits a true h = ap (λ b. cond b (g u) None) h
      only_same zs g y u fits a false h = ap (λ b. cond b (g u) None) h ∙ sym (fits.none u (ap (λ b. b || holds zs u) a ∙ h))

  clash_general : (G : List Ty) (k : List ℕ) (y : Variable ℕ) (ts : Terms ℕ Hint) (names : List (Head ℕ)) (h : Head ℕ) (us : Terms ℕ Hint) → holds ys y ≡ true → is_flexible ys h ≡ false → IsPattern y.type ts names → TakeType sg G ts y.type (kind k) → HasType sg G (spine h us) (kind k) → has_patterns ys (spine h us) ≡ true → (occurs y (spine h us) || not (no_foreign ys names (spine h us))) ≡ true → Scoped others (length cells) (spine (variable y) ts) (spine h us)
      → General (spine (variable y) ts) (spine h us) clash
  clash_general G k y ts names h us held r p ds d hp bad s f fits e =
      let own = fits.some y held in
      elim (or_cases (occurs y (spine h us)) (not (no_foreign ys names (spine h us))) bad) [
        | inl oc ↦ (
            let larger = occurs_larger sg others ys f fits y own.0 own.1 held G k ts names p ds G h us d r hp oc in
            let equal : size (reduce y.type own.0 (forget_all ts)) ≡ size (image_by f (forget (spine h us))) = ap size (sym (image_own f y own.0 own.1 p) ∙ e) in
            absurd (omega (arith, larger, equal)))
        | inr nf ↦ false≢true (sym (not-true (no_foreign ys names (spine h us)) nf) ∙ no_foreign_if sg others none ys f fits s.names names s.scope (spine h us) s.right (side_only G k y ts names (spine h us) held p f fits e))
      ]

  pattern_of_general : (G : List Ty) (k : List ℕ) (y : Variable ℕ) (ts : Terms ℕ Hint) (h : Head ℕ) (us : Terms ℕ Hint) (o : Option (List (Head ℕ))) → pattern y.type ts ≡ o → holds ys y ≡ true → is_flexible ys h ≡ false → TakeType sg G ts y.type (kind k) → HasType sg G (spine h us) (kind k) → Scoped others (length cells) (spine (variable y) ts) (spine h us) → OnResult (General (spine (variable y) ts) (spine h us)) (pattern_of x cells ys y (spine h us) o)
  pattern_of_general G k y ts h us None e held r ds d s = tt
  pattern_of_general G k y ts h us (Some names) e held r ds d s =
      on_cond (General (spine (variable y) ts) (spine h us)) (has_patterns ys (spine h us)) (Some (cond (occurs y (spine h us) || not (no_foreign ys names (spine h us))) clash (replaced (put_in x cells ys y names (spine h us) (pruned x ys names (spine h us) (begun x cells ys y)))))) None (λ hp. go (occurs y (spine h us) || not (no_foreign ys names (spine h us))) refl hp) (λ f. tt)
    where
      go : (b : Bool) → (occurs y (spine h us) || not (no_foreign ys names (spine h us))) ≡ b → has_patterns ys (spine h us) ≡ true → General (spine (variable y) ts) (spine h us) (cond b clash (replaced (put_in x cells ys y names (spine h us) (pruned x ys names (spine h us) (begun x cells ys y)))))
      go true f hp = clash_general G k y ts names h us held r (is_pattern y.type ts names e) ds d hp f s
      go false f hp =
          let ps = or_parts (occurs y (spine h us)) (not (no_foreign ys names (spine h us))) f in
          solved_general G k y ts names (spine h us) held (is_pattern y.type ts names e) ds d hp ps.0 (not-false (no_foreign ys names (spine h us)) ps.1) s

  rigid_general : (G : List Ty) (T : Ty) (t u : Term ℕ Hint) → HasType sg G t T → HasType sg G u T → Scoped others (length cells) t u → OnResult (General t u) (pattern_and_rigid x cells ys t u)
  rigid_general G T (spine (variable y) ts) (spine h us) d e s =
      let r = spine_args sg G y ts T d in
      on_cond (General (spine (variable y) ts) (spine h us)) (holds ys y && not (is_flexible ys h)) (pattern_of x cells ys y (spine h us) (pattern y.type ts)) None
      (λ f. let ps = and_parts (holds ys y) (not (is_flexible ys h)) f in pattern_of_general G r.0 y ts h us (pattern y.type ts) refl ps.0 (not-true (is_flexible ys h) ps.1) r.2 (subst (λ C. HasType sg G (spine h us) C) r.1 e) s)
      (λ f. tt)
  rigid_general G T (spine (variable y) ts) (lam A z u) d e s = tt
  rigid_general G T (spine (constant c) ts) u d e s = tt
  rigid_general G T (spine (logical l) ts) u d e s = tt
  rigid_general G T (spine (nominal a) ts) u d e s = tt
  rigid_general G T (spine (index i) ts) u d e s = tt
  rigid_general G T (lam A z t) u d e s = tt

  -- THE RULE
  pub rule_general : (e : Equation Hint) → IsTypedEquation sg e → Scoped others (length cells) e.left e.right → OnResult (General e.left e.right) (rule x cells ys e)
  rule_general e typed s =
      let G = typed.0 in
      let T = typed.1 in
      let P = General e.left e.right in
      on_or_else P (equal_sides e) _ (equal_general e)
      (on_or_else P (bodies e.place e.left e.right) _ (bodies_general e.place e.left e.right s)
      (on_or_else P (rigid_heads ys e.place e.left e.right) _ (heads_general e.place e.left e.right s)
      (on_or_else P (either_way x cells ys (pattern_and_rigid x cells ys) e) _
      (on_or_else P (pattern_and_rigid x cells ys e.left e.right) (pattern_and_rigid x cells ys e.right e.left) (rigid_general G T e.left e.right typed.2 typed.3 s) (turned e.left e.right (pattern_and_rigid x cells ys e.right e.left) (rigid_general G T e.right e.left typed.3 typed.2 (turn_scoped s))))
      (on_or_else P (one_variable x cells ys e.left e.right) _ (one_variable_general G T e.left e.right typed.2 typed.3 s)
      (on_or_else P (two_variables x cells ys e.left e.right) (two_variables x cells ys e.right e.left) (two_general G T e.left e.right typed.2 typed.3 s) (turned e.left e.right (two_variables x cells ys e.right e.left) (two_general G T e.right e.left typed.3 typed.2 (turn_scoped s))))))))
