-- Each rule keeps types, and what it puts in makes the sides of its equation the same, past hints.
use Rattle.std.proofs.Common.{◌≡◌, ◌≢◌, ℕ, suc, ◌+◌, ◌<◌, ◌⊎◌, inl, inr, List, [], ◌∷◌, ◌++◌, length, Bool, true, false, cond, ◌||◌, Option, Some, None, refl, sym, ◌∙◌, ap, subst, arith, length-append}
use Rattle.std.proofs.lemmas.Bool.{false≢true, or_cases, false_from_ne_true}
use Rattle.ab_term.specs.Types.{Ty, kind, arrow}
use Rattle.ab_term.specs.Terms.{Variable, Head, constant, logical, nominal, variable, index, Term, lam, spine, Terms, term}
use Rattle.ab_term.specs.Typing.{Signature, head_type, HasType, TakeType, typed_lam, typed_spine, take_none, take_term}
use Rattle.ab_term.specs.Substitution.{reduce}
use Rattle.ab_term.specs.Expansion.{expansion}
use Rattle.ab_term.specs.Translation.{translate_head, forget, forget_all}
use Rattle.ab_term.specs.Variables.{put_for, put_at, Substitution, value_in, image, image_all}
use Rattle.ab_term.specs.Sameness.{same_numbered, same_head, same_number, same_term}
use Rattle.ab_term.specs.Abstraction.{name_terms, Only, Distinct}
use Rattle.ab_term.proofs.Translations.{translate-reduce, translate-expansion}
use Rattle.ab_term.proofs.Same.{same_numbered-Decides, same_head-Decides, same_term-Decides}
use Rattle.ab_term.proofs.Forgetting.{forget_head}
use Rattle.ab_term.proofs.Depends.{nothing, image_nothing}
use Rattle.ab_term.proofs.PastHints as past
use Rattle.ab_unifiers.specs.Patterns.{value, kept}
use Rattle.ab_unifiers.specs.Replacements.{Cell, without, holds, is_flexible, one}
use Rattle.ab_unifiers.specs.Unification.{Equation, Result, clash, parts, replaced, paired, equal_sides, bodies, rigid_heads, agreeing}
use Rattle.ab_unifiers.specs.Unifiers.{AreTyped, AreKnown, Unifies}
use Rattle.ab_unifiers.proofs.Views.{IsPattern, pattern_end, pattern_more}
use Rattle.ab_unifiers.proofs.Steps.{OnResult, on_cond}
use Rattle.ab_unifiers.proofs.Values.{pattern_named, value_typed, reduce_value}
use Rattle.ab_unifiers.proofs.Agreeing.{image_agrees, image_pattern}
use Rattle.ab_unifiers.proofs.Pruning.{Safe, one_safe}
use Rattle.ab_unifiers.proofs.Avoiding.{not_held, without_held, AreNames}

module _ {Hint : Type 0} where
  -- images look past hints
  pub image_past_hints : (q : Substitution ℕ Hint) (t u : Term ℕ Hint) → forget t ≡ forget u → forget (image same_number q t) ≡ forget (image same_number q u)
  image_past_hints q t u e = past.image_past_hints (value_in same_number q) (value_in same_number q) (λ y. refl) t u e

  pub image_none : (t : Term ℕ Hint) → image same_number [] t ≡ t
  image_none t = image_agrees (value_in same_number []) nothing t (λ y e. refl) ∙ image_nothing t

  put_at_past_hints : (f : Variable ℕ → Option (Term ℕ Hint)) (h : Head ℕ) (ts us : Terms ℕ Hint) → forget_all ts ≡ forget_all us → forget (put_at f h ts) ≡ forget (put_at f h us)
  put_at_past_hints f (constant c) ts us e = ap (spine (constant c)) e
  put_at_past_hints f (logical l) ts us e = ap (spine (logical l)) e
  put_at_past_hints f (nominal a) ts us e = ap (spine (nominal a)) e
  put_at_past_hints f (variable y) ts us e = go (f y)
    where
      go : (o : Option (Term ℕ Hint)) → forget (put_for y o ts) ≡ forget (put_for y o us)
      go None = ap (spine (translate_head (λ v. v) (variable y))) e
      go (Some v) = translate-reduce (λ v. v) (λ y. tt) y.type v ts ∙ ap (reduce y.type (forget v)) e ∙ sym (translate-reduce (λ v. v) (λ y. tt) y.type v us)
  put_at_past_hints f (index i) ts us e = ap (spine (index i)) e

  pub pattern_applied : (x : Hint) {A : Ty} {ts : Terms ℕ Hint} {hs : List (Head ℕ)} → IsPattern A ts hs → forget_all ts ≡ forget_all (name_terms x A hs)
  pattern_applied x pattern_end = refl
  pattern_applied x (pattern_more {A = A} {B = B} {t = t} {ts = ts} {h = h} {hs = hs} n d p) =
      ap (λ s. term s (forget_all ts)) (n.expansion ∙ ap (expansion tt A) (sym (forget_head h)) ∙ sym (translate-expansion (λ v. v) (λ y. tt) x A h))
      ∙ ap (term (forget (expansion x A h))) (pattern_applied x p)

kept_nothing : (bs : List Bool) → kept {X = Head ℕ} bs [] ≡ []
kept_nothing [] = refl
kept_nothing (b ∷ bs) = refl

pub agreeing_kept : (gs hs : List (Head ℕ)) → kept (agreeing gs hs) gs ≡ kept (agreeing gs hs) hs
agreeing_kept [] [] = refl
agreeing_kept [] (h ∷ hs) = sym (kept_nothing (agreeing [] hs)) ∙ agreeing_kept [] hs
agreeing_kept (g ∷ gs) [] = agreeing_kept gs [] ∙ kept_nothing (agreeing gs [])
agreeing_kept (g ∷ gs) (h ∷ hs) = go (same_head g h) refl (agreeing_kept gs hs)
  where
    go : (b : Bool) → same_head g h ≡ b → kept (agreeing gs hs) gs ≡ kept (agreeing gs hs) hs → cond b (g ∷ kept (agreeing gs hs) gs) (kept (agreeing gs hs) gs) ≡ cond b (h ∷ kept (agreeing gs hs) hs) (kept (agreeing gs hs) hs)
    go true e rest = ap (λ k. k ∷ kept (agreeing gs hs) gs) ((same_head-Decides g h).0 e) ∙ ap (λ l. h ∷ l) rest
    go false e rest = rest

pub agreeing_long : (gs hs : List (Head ℕ)) → length gs ≡ length hs → length (agreeing gs hs) ≡ length gs
agreeing_long [] [] l = refl
agreeing_long [] (h ∷ hs) l = absurd (omega (arith, l))
agreeing_long (g ∷ gs) [] l = absurd (omega (arith, l))
agreeing_long (g ∷ gs) (h ∷ hs) l = ap suc (agreeing_long gs hs (omega (arith, l)))

module _ (sg : Signature) {Hint : Type 0} where
  -- what a rule gives for two terms
  abbrev pub Right : List (Cell Hint) → List (Variable ℕ) → Term ℕ Hint → Term ℕ Hint → Result Hint → Type 0
  Right cells ys t u clash = Unit {0}
  Right cells ys t u (parts es) = AreTyped sg es × ((q : Substitution ℕ Hint) → Unifies q es → forget (image same_number q t) ≡ forget (image same_number q u))
  Right cells ys t u (replaced c) = Safe sg c.pairs × AreKnown c.cells c.flexible × (forget (image same_number c.pairs t) ≡ forget (image same_number c.pairs u))

  pub turned : (cells : List (Cell Hint)) (ys : List (Variable ℕ)) (t u : Term ℕ Hint) (o : Option (Result Hint)) → OnResult (Right cells ys u t) o → OnResult (Right cells ys t u) o
  turned cells ys t u None r = tt
  turned cells ys t u (Some clash) r = tt
  turned cells ys t u (Some (parts es)) r = (r.0, λ q s. sym (r.1 q s))
  turned cells ys t u (Some (replaced c)) r = (r.0, r.1, sym r.2)

  lam_body : (G : List Ty) (A : Ty) (x : Hint) (t : Term ℕ Hint) (T : Ty) → HasType sg G (lam A x t) T → (B : Ty) × (T ≡ arrow A B) × HasType sg (A ∷ G) t B
  lam_body G A x t T (typed_lam {B = B} d) = (B, refl, d)

  spine_parts : (G : List Ty) (h : Head ℕ) (ts : Terms ℕ Hint) (T : Ty) → HasType sg G (spine h ts) T → (D : Ty) × (k : List ℕ) × (head_type sg G h ≡ Some D) × (T ≡ kind k) × TakeType sg G ts D (kind k)
  spine_parts G h ts T (typed_spine {A = D} {k = k} e ds) = (D, k, e, refl, ds)

  pub equal_right : (cells : List (Cell Hint)) (ys : List (Variable ℕ)) (e : Equation Hint) → OnResult (Right cells ys e.left e.right) (equal_sides e)
  equal_right cells ys e = on_cond (Right cells ys e.left e.right) (same_term e.left e.right) (Some (parts [])) None (λ f. (tt, λ q s. image_past_hints q e.left e.right ((same_term-Decides e.left e.right).0 f))) (λ f. tt)

  pub bodies_right : (cells : List (Cell Hint)) (ys : List (Variable ℕ)) (p : ℕ) (G : List Ty) (T : Ty) (t u : Term ℕ Hint) → HasType sg G t T → HasType sg G u T → OnResult (Right cells ys t u) (bodies p t u)
  bodies_right cells ys p G T (lam A x t) (lam B y u) d e =
      let first = lam_body G A x t T d in
      let second = lam_body G B y u T e in
      let arrows : arrow A first.0 ≡ arrow B second.0 = sym first.1 ∙ second.1 in
      let from : A ≡ B = cc in
      let to : first.0 ≡ second.0 = cc in
      let body : HasType sg (A ∷ G) u first.0 = subst (λ C. HasType sg (A ∷ G) u C) (sym to) (subst (λ C. HasType sg (C ∷ G) u second.0) (sym from) second.2) in
      (((A ∷ G, first.0, first.2, body), tt), λ q s. ap (λ C. lam C tt (forget (image same_number q t))) from ∙ ap (lam B tt) s.0)
  bodies_right cells ys p G T (lam A x t) (spine h us) d e = tt
  bodies_right cells ys p G T (spine g ts) u d e = tt

  paired_typed : (p : ℕ) {G : List Ty} {D C E : Ty} {ts us : Terms ℕ Hint} → TakeType sg G ts D C → TakeType sg G us D E → AreTyped sg (paired p ts us)
  paired_typed p take_none e = tt
  paired_typed p (take_term d ds) take_none = tt
  paired_typed p {G = G} (take_term {A = A} d ds) (take_term e es) = ((G, A, d, e), paired_typed p ds es)

  paired_right : (q : Substitution ℕ Hint) (p : ℕ) (k l : List ℕ) {G : List Ty} {D C E : Ty} {ts us : Terms ℕ Hint} → C ≡ kind k → E ≡ kind l → TakeType sg G ts D C → TakeType sg G us D E → Unifies q (paired p ts us) → forget_all (image_all same_number q ts) ≡ forget_all (image_all same_number q us)
  paired_right q p k l c e take_none take_none s = refl
  paired_right q p k l c e (take_none {A = D}) (take_term {A = A} {B = B} d ds) s = absurd (let both : arrow A B ≡ kind k = c in cc)
  paired_right q p k l c e (take_term {A = A} {B = B} d ds) take_none s = absurd (let both : arrow A B ≡ kind l = e in cc)
  paired_right q p k l c e (take_term {t = t} {ts = ts} d ds) (take_term {t = u} {ts = us} f fs) s =
      ap (λ v. term v (forget_all (image_all same_number q ts))) s.0 ∙ ap (term (forget (image same_number q u))) (paired_right q p k l c e ds fs s.1)

  pub heads_right : (cells : List (Cell Hint)) (ys : List (Variable ℕ)) (p : ℕ) (G : List Ty) (T : Ty) (t u : Term ℕ Hint) → HasType sg G t T → HasType sg G u T → OnResult (Right cells ys t u) (rigid_heads ys p t u)
  heads_right cells ys p G T (lam A x t) u d e = tt
  heads_right cells ys p G T (spine g ts) (lam B y u) d e = tt
  heads_right cells ys p G T (spine g ts) (spine h us) d e =
      on_cond (Right cells ys (spine g ts) (spine h us)) (is_flexible ys g || is_flexible ys h) None (Some (cond (same_head g h) (parts (paired p ts us)) clash)) (λ f. tt) (λ f. go (same_head g h) refl)
    where
      go : (b : Bool) → same_head g h ≡ b → Right cells ys (spine g ts) (spine h us) (cond b (parts (paired p ts us)) clash)
      go true s =
          let equal : g ≡ h = (same_head-Decides g h).0 s in
          let first = spine_parts G g ts T d in
          let second = spine_parts G h us T e in
          let some : Some first.0 ≡ Some second.0 = sym first.2 ∙ ap (head_type sg G) equal ∙ second.2 in
          let types : first.0 ≡ second.0 = cc in
          let us_typed : TakeType sg G us first.0 (kind second.1) = subst (λ D. TakeType sg G us D (kind second.1)) (sym types) second.4 in (
            paired_typed p first.4 us_typed,
            λ q s.
                ap (λ k. forget (put_at (value_in same_number q) k (image_all same_number q ts))) equal
                ∙ put_at_past_hints (value_in same_number q) h (image_all same_number q ts) (image_all same_number q us) (paired_right q p first.1 second.1 refl refl first.4 us_typed s),
          )
      go false s = tt

module _ (sg : Signature) {Hint : Type 0} (x : Hint) where
  -- what one variable is given: closed and typed; and that variable with these names is the term
  pub one_put : (G : List Ty) (k : List ℕ) (z : Variable ℕ) (us : Terms ℕ Hint) (hs : List (Head ℕ)) (t : Term ℕ Hint) → IsPattern z.type us hs → TakeType sg G us z.type (kind k) → HasType sg G t (kind k) → Only hs t
      → Safe sg (one x z hs t) × (forget (reduce z.type (value x z hs t) us) ≡ forget t)
  one_put G k z us hs t p ds d o =
      let named = pattern_named sg p ds in
      let v = value_typed sg x z hs t G k named d o in
      (one_safe sg z (value x z hs t) v.0 v.1, reduce_value sg x t p named d)

  pub at_itself : (z : Variable ℕ) (v : Term ℕ Hint) (us : Terms ℕ Hint) (hs : List (Head ℕ)) (rest : Substitution ℕ Hint) → IsPattern z.type us hs → image same_number ((z, v) ∷ rest) (spine (variable z) us) ≡ reduce z.type v us
  at_itself z v us hs rest p =
      ap (put_for z (value_in same_number ((z, v) ∷ rest) z)) (image_pattern (value_in same_number ((z, v) ∷ rest)) p)
      ∙ ap (λ b. put_for z (cond b (Some v) (value_in same_number rest z)) us) ((same_numbered-Decides z z).1 refl)

  pub at_another : (z y : Variable ℕ) (v : Term ℕ Hint) (ts : Terms ℕ Hint) (hs : List (Head ℕ)) (rest : Substitution ℕ Hint) → same_numbered z y ≡ false → IsPattern y.type ts hs → image same_number ((z, v) ∷ rest) (spine (variable y) ts) ≡ image same_number rest (spine (variable y) ts)
  at_another z y v ts hs rest e p =
      ap (put_for y (value_in same_number ((z, v) ∷ rest) y)) (image_pattern (value_in same_number ((z, v) ∷ rest)) p)
      ∙ ap (λ b. put_for y (cond b (Some v) (value_in same_number rest y)) ts) e
      ∙ sym (ap (put_for y (value_in same_number rest y)) (image_pattern (value_in same_number rest) p))

pub different : (y z : Variable ℕ) → y ≢ z → same_numbered y z ≡ false
different y z n = false_from_ne_true (same_numbered y z) (λ e. n ((same_numbered-Decides y z).0 e))

module _ {Hint : Type 0} where
  pub known_less : (cells : List (Cell Hint)) (ys : List (Variable ℕ)) (y : Variable ℕ) → AreKnown cells ys → AreKnown cells (without y ys)
  known_less cells ys y k v h = k v (without_held y ys v h)

  pub known_more : (cells : List (Cell Hint)) (ys : List (Variable ℕ)) (c : Cell Hint) (A : Ty) → AreKnown cells ys → AreKnown (cells ++ c ∷ []) (ys ++ record { name = length cells; type = A } ∷ [])
  known_more cells ys c A k v h = go (not_held ys (record { name = length cells; type = A } ∷ []) v h)
    where
      longer : length (cells ++ c ∷ []) ≡ length cells + 1
      longer = length-append cells (c ∷ [])

      go : (holds ys v ≡ true) ⊎ (holds (record { name = length cells; type = A } ∷ []) v ≡ true) → v.name < length (cells ++ c ∷ [])
      go (inl a) = omega (arith, k v a, longer)
      go (inr a) = elim (or_cases (same_numbered (record { name = length cells; type = A }) v) false a) [ inl e ↦ (let same_name : length cells ≡ v.name = ap (λ v. v.name) ((same_numbered-Decides (record { name = length cells; type = A }) v).0 e) in omega (arith, longer, same_name)) | inr e ↦ absurd (false≢true e) ]

pub distinct_names : (hs : List (Head ℕ)) → Distinct hs → AreNames hs
distinct_names [] d = tt
distinct_names (h ∷ hs) d = (d.1, distinct_names hs d.2)
