-- Terms for the names of a row of binders, the others closed by `exists`: what this has to do with shifts, with
-- images, with hints, and with what is opened.
use Rattle.std.proofs.Common.{◌≡◌, ℕ, zero, suc, ◌+◌, List, [], ◌∷◌, length, Option, Some, None, refl, sym, ◌∙◌, ap, subst, arith}
use Rattle.ab_term.specs.Types.{Ty, prop}
use Rattle.ab_term.specs.Terms.{Variable, Term}
use Rattle.ab_term.specs.Typing.{Signature, HasType, typed_lam, typed_spine, take_none, take_term}
use Rattle.ab_term.specs.Substitution.{shift, substitute}
use Rattle.ab_term.specs.Translation.{forget}
use Rattle.ab_term.specs.Variables.{image_by}
use Rattle.ab_term.proofs.Closed.{closed_typed, closed_reach}
use Rattle.ab_term.proofs.Reaching.{shift-short}
use Rattle.ab_term.proofs.Preservation.{here, substitute_typed}
use Rattle.ab_term.proofs.Images.{IsTypedMap, image_by-substitute}
use Rattle.ab_term.proofs.Shifts.{substitute_by-shift, shift-substitute_high, shift-reduce}
use Rattle.ab_term.proofs.Translations.{translate-substitute, translate_typed}
use Rattle.ab_unifiers.specs.Replacements.{Cell}
use Rattle.ab_coverage.proofs.IndexedGoals.{for_some, full, lower}
use Rattle.ab_coverage.proofs.IndexedSpecClauses.{put_or, filled_in, context_of}
use Rattle.ab_coverage.proofs.Lowered.{lower-shift}
use Rattle.ab_coverage.proofs.Nearly.{Nearly, alike, inside, left_out, nearly-substitute, nearly-back}
use Rattle.ab_coverage.proofs.Opening.{full-substitute}

module _ {Hint : Type 0} where
  -- a name without a term is closed
  abbrev pub closing : Cell Hint → Term ℕ Hint → Term ℕ Hint
  closing b t = for_some b.type b.hint t

  abbrev pub closed_with : List (Cell Hint) → List (Option (Term ℕ Hint)) → Term ℕ Hint → Term ℕ Hint
  closed_with = filled_in closing

  -- a name without a term isn't there
  abbrev pub dropping : Cell Hint → Term ℕ Hint → Term ℕ Hint
  dropping b t = lower zero t

  abbrev pub dropped_with : List (Cell Hint) → List (Option (Term ℕ Hint)) → Term ℕ Hint → Term ℕ Hint
  dropped_with = filled_in dropping

  -- terms without free indices
  abbrev pub Unmoved : Option (Term ℕ Hint) → Type 0
  Unmoved None = Unit {0}
  Unmoved (Some u) = (j : ℕ) → shift j u ≡ u

  abbrev pub AllUnmoved : List (Cell Hint) → List (Option (Term ℕ Hint)) → Type 0
  AllUnmoved [] [] = Unit {0}
  AllUnmoved (b ∷ bs) (v ∷ vs) = Unmoved v × AllUnmoved bs vs
  AllUnmoved _ _ = ⊥

  put-shift : (b : Cell Hint) (v : Option (Term ℕ Hint)) → Unmoved v → (j : ℕ) (t : Term ℕ Hint) → put_or closing b v (shift (suc j) t) ≡ shift j (put_or closing b v t)
  put-shift b None m j t = refl
  put-shift b (Some u) m j t =
      sym (shift-substitute_high t _ u j zero (shift-reduce b.type) (omega arith) ∙ ap (λ w. substitute b.type w zero (shift (suc j) t)) (m j))

  -- a name outside of the binders
  pub closed-shift : (bs : List (Cell Hint)) (vs : List (Option (Term ℕ Hint))) → AllUnmoved bs vs → (j : ℕ) (t : Term ℕ Hint) → closed_with bs vs (shift (length bs + j) t) ≡ shift j (closed_with bs vs t)
  closed-shift [] [] m j t = ap (λ n. shift n t) (let e : 0 + j ≡ j = omega arith in e)
  closed-shift [] (v ∷ vs) m j t = absurd m
  closed-shift (b ∷ bs) [] m j t = absurd m
  closed-shift (b ∷ bs) (v ∷ vs) m j t =
      ap (put_or closing b v) (ap (λ n. closed_with bs vs (shift n t)) (let e : suc (length bs) + j ≡ length bs + suc j = omega arith in e) ∙ closed-shift bs vs m.1 (suc j) t)
      ∙ put-shift b v m.0 j (closed_with bs vs t)

  -- the nearest name outside of them
  pub closed-outer : (bs : List (Cell Hint)) (vs : List (Option (Term ℕ Hint))) → AllUnmoved bs vs → (t : Term ℕ Hint) → closed_with bs vs (shift (length bs) t) ≡ shift zero (closed_with bs vs t)
  closed-outer bs vs m t = ap (λ n. closed_with bs vs (shift n t)) (let e : length bs ≡ length bs + 0 = omega arith in e) ∙ closed-shift bs vs m zero t

  -- of two rows of terms: the same, or closed in the first alone, where the name doesn't stand in the formula
  abbrev pub NearOne : ℕ → Term ℕ Hint → Option (Term ℕ Hint) → Option (Term ℕ Hint) → Type 0
  NearOne k t None None = Unit {0}
  NearOne k t None (Some u) = (w : Term ℕ Hint) × (t ≡ shift k w)
  NearOne k t (Some u) (Some v) = u ≡ v
  NearOne k t (Some u) None = ⊥

  abbrev pub Near : Term ℕ Hint → List (Cell Hint) → List (Option (Term ℕ Hint)) → List (Option (Term ℕ Hint)) → Type 0
  Near t [] [] [] = Unit {0}
  Near t (b ∷ bs) (v ∷ vs) (w ∷ ws) = NearOne (length bs) t v w × Near t bs vs ws
  Near t _ _ _ = ⊥

  near_one : (b : Cell Hint) (bs : List (Cell Hint)) (v w : Option (Term ℕ Hint)) (vs ws : List (Option (Term ℕ Hint))) (t : Term ℕ Hint) → NearOne (length bs) t v w → AllUnmoved bs vs → AllUnmoved bs ws
      → Nearly (closed_with bs vs t) (closed_with bs ws t) → Nearly (put_or closing b v (closed_with bs vs t)) (put_or closing b w (closed_with bs ws t))
  near_one b bs None None vs ws t e m n near = inside near
  near_one b bs (Some u) (Some v) vs ws t e m n near = subst (λ z. Nearly (substitute b.type u zero (closed_with bs vs t)) (substitute b.type z zero (closed_with bs ws t))) e (nearly-substitute b.type u zero near)
  near_one b bs (Some u) None vs ws t e m n near = absurd e
  near_one b bs None (Some v) vs ws t e m n near =
      let one : closed_with bs vs t ≡ shift zero (closed_with bs vs e.0) = ap (closed_with bs vs) e.1 ∙ closed-outer bs vs m e.0 in
      let two : closed_with bs ws t ≡ shift zero (closed_with bs ws e.0) = ap (closed_with bs ws) e.1 ∙ closed-outer bs ws n e.0 in
      let inner : Nearly (shift zero (closed_with bs vs e.0)) (shift zero (closed_with bs ws e.0)) =
      subst (λ z. Nearly z (shift zero (closed_with bs ws e.0))) one (subst (Nearly (closed_with bs vs t)) two near) in
      let back : Nearly (closed_with bs vs e.0) (closed_with bs ws e.0) = nearly-back (closed_with bs vs e.0) (closed_with bs ws e.0) inner b.type in
      subst (λ z. Nearly (for_some b.type b.hint z) (substitute b.type v zero (closed_with bs ws t))) (sym one)
      (subst (Nearly (for_some b.type b.hint (shift zero (closed_with bs vs e.0)))) (sym (ap (substitute b.type v zero) two ∙ substitute_by-shift (closed_with bs ws e.0) _ v zero)) (left_out back))

  pub near : (bs : List (Cell Hint)) (vs ws : List (Option (Term ℕ Hint))) (t : Term ℕ Hint) → Near t bs vs ws → AllUnmoved bs vs → AllUnmoved bs ws → Nearly (closed_with bs vs t) (closed_with bs ws t)
  near [] [] [] t e m n = alike
  near [] [] (w ∷ ws) t e m n = absurd e
  near [] (v ∷ vs) ws t e m n = absurd m
  near (b ∷ bs) [] ws t e m n = absurd m
  near (b ∷ bs) (v ∷ vs) [] t e m n = absurd n
  near (b ∷ bs) (v ∷ vs) (w ∷ ws) t e m n = near_one b bs v w vs ws t e.0 m.1 n.1 (near bs vs ws t e.1 m.1 n.1)

  -- what is opened again afterwards depends only on the formula opened before
  full-put : (b : Cell Hint) (v : Option (Term ℕ Hint)) (t u : Term ℕ Hint) → full t ≡ full u → full (put_or closing b v t) ≡ full (put_or closing b v u)
  full-put b None t u e = ap (for_some b.type b.hint) e
  full-put b (Some w) t u e = full-substitute b.type t w zero ∙ ap (λ z. full (substitute b.type w zero z)) e ∙ sym (full-substitute b.type u w zero)

  pub full-closed : (bs : List (Cell Hint)) (vs : List (Option (Term ℕ Hint))) (t u : Term ℕ Hint) → full t ≡ full u → full (closed_with bs vs t) ≡ full (closed_with bs vs u)
  full-closed [] vs t u e = e
  full-closed (b ∷ bs) [] t u e = e
  full-closed (b ∷ bs) (v ∷ vs) t u e = full-put b v (closed_with bs vs t) (closed_with bs vs u) (full-closed bs vs t u e)

  -- in an atom a name without a term doesn't stand, and may as well have any
  abbrev pub DropsOne : ℕ → Term ℕ Hint → Option (Term ℕ Hint) → Option (Term ℕ Hint) → Type 0
  DropsOne k t v None = ⊥
  DropsOne k t None (Some u) = (w : Term ℕ Hint) × (t ≡ shift k w)
  DropsOne k t (Some u) (Some v) = u ≡ v

  abbrev pub Drops : Term ℕ Hint → List (Cell Hint) → List (Option (Term ℕ Hint)) → List (Option (Term ℕ Hint)) → Type 0
  Drops t [] [] [] = Unit {0}
  Drops t (b ∷ bs) (v ∷ vs) (w ∷ ws) = DropsOne (length bs) t v w × Drops t bs vs ws
  Drops t _ _ _ = ⊥

  drop_one : (b : Cell Hint) (bs : List (Cell Hint)) (v w : Option (Term ℕ Hint)) (ws : List (Option (Term ℕ Hint))) (t : Term ℕ Hint) → DropsOne (length bs) t v w → AllUnmoved bs ws
      → put_or dropping b v (closed_with bs ws t) ≡ put_or closing b w (closed_with bs ws t)
  drop_one b bs None None ws t e n = absurd e
  drop_one b bs (Some u) None ws t e n = absurd e
  drop_one b bs (Some u) (Some v) ws t e n = ap (λ z. substitute b.type z zero (closed_with bs ws t)) e
  drop_one b bs None (Some v) ws t e n =
      let two : closed_with bs ws t ≡ shift zero (closed_with bs ws e.0) = ap (closed_with bs ws) e.1 ∙ closed-outer bs ws n e.0 in
      ap (lower zero) two ∙ lower-shift zero (closed_with bs ws e.0) ∙ sym (ap (substitute b.type v zero) two ∙ substitute_by-shift (closed_with bs ws e.0) _ v zero)

  pub drops : (bs : List (Cell Hint)) (vs ws : List (Option (Term ℕ Hint))) (t : Term ℕ Hint) → Drops t bs vs ws → AllUnmoved bs ws → dropped_with bs vs t ≡ closed_with bs ws t
  drops [] [] [] t e n = refl
  drops [] [] (w ∷ ws) t e n = absurd e
  drops [] (v ∷ vs) ws t e n = absurd e
  drops (b ∷ bs) [] ws t e n = absurd e
  drops (b ∷ bs) (v ∷ vs) [] t e n = absurd e
  drops (b ∷ bs) (v ∷ vs) (w ∷ ws) t e n = ap (put_or dropping b v) (drops bs vs ws t e.1 n.1) ∙ drop_one b bs v w ws t e.0 n.1

  -- past hints
  put-forget : (b : Cell Hint) (v : Option (Term ℕ Hint)) (t u : Term ℕ Hint) → forget t ≡ forget u → forget (put_or closing b v t) ≡ forget (put_or closing b v u)
  put-forget b None t u e = ap (for_some b.type tt) e
  put-forget b (Some w) t u e = translate-substitute (λ v. v) (λ h. tt) b.type w zero t ∙ ap (substitute b.type (forget w) zero) e ∙ sym (translate-substitute (λ v. v) (λ h. tt) b.type w zero u)

  pub closed-forget : (bs : List (Cell Hint)) (vs : List (Option (Term ℕ Hint))) (t u : Term ℕ Hint) → forget t ≡ forget u → forget (closed_with bs vs t) ≡ forget (closed_with bs vs u)
  closed-forget [] vs t u e = e
  closed-forget (b ∷ bs) [] t u e = e
  closed-forget (b ∷ bs) (v ∷ vs) t u e = put-forget b v (closed_with bs vs t) (closed_with bs vs u) (closed-forget bs vs t u e)

module _ (sg : Signature) {Hint : Type 0} where
  -- closed terms of the binders' types; where one is closed by `exists` the whole is a formula
  abbrev pub TypedOne : Ty → Cell Hint → Option (Term ℕ Hint) → Type 0
  TypedOne D b None = D ≡ prop
  TypedOne D b (Some u) = HasType sg [] u b.type

  abbrev pub AllTyped : Ty → List (Cell Hint) → List (Option (Term ℕ Hint)) → Type 0
  AllTyped D [] [] = Unit {0}
  AllTyped D (b ∷ bs) (v ∷ vs) = TypedOne D b v × AllTyped D bs vs
  AllTyped D _ _ = ⊥

  unmoved : (u : Term ℕ Hint) {A : Ty} → HasType sg [] u A → (j : ℕ) → shift j u ≡ u
  unmoved u d j = let short = closed_reach sg d in shift-short u j (omega (arith, short))

  unmoved_one : (D : Ty) (b : Cell Hint) (v : Option (Term ℕ Hint)) → TypedOne D b v → Unmoved v
  unmoved_one D b None d = tt
  unmoved_one D b (Some u) d = unmoved u d

  pub all_unmoved : (D : Ty) (bs : List (Cell Hint)) (vs : List (Option (Term ℕ Hint))) → AllTyped D bs vs → AllUnmoved bs vs
  all_unmoved D [] [] d = tt
  all_unmoved D [] (v ∷ vs) d = absurd d
  all_unmoved D (b ∷ bs) [] d = absurd d
  all_unmoved D (b ∷ bs) (v ∷ vs) d = (unmoved_one D b v d.0, all_unmoved D bs vs d.1)

  put_typed : {D : Ty} {G : List Ty} (b : Cell Hint) (v : Option (Term ℕ Hint)) (t : Term ℕ Hint) → TypedOne D b v → HasType sg (b.type ∷ G) t D → HasType sg G (put_or closing b v t) D
  put_typed {G = G} b None t e d = subst (HasType sg G (for_some b.type b.hint t)) (sym e) (typed_spine refl (take_term (typed_lam (subst (HasType sg (b.type ∷ G) t) e d)) take_none))
  put_typed {G = G} b (Some u) t e d = substitute_typed sg (closed_typed sg G e) here d

  pub closed_with_typed : {D : Ty} {G : List Ty} (bs : List (Cell Hint)) (vs : List (Option (Term ℕ Hint))) (t : Term ℕ Hint) → AllTyped D bs vs → HasType sg (context_of bs G) t D → HasType sg G (closed_with bs vs t) D
  closed_with_typed [] [] t e d = d
  closed_with_typed [] (v ∷ vs) t e d = absurd e
  closed_with_typed (b ∷ bs) [] t e d = absurd e
  closed_with_typed {G = G} (b ∷ bs) (v ∷ vs) t e d = put_typed b v (closed_with bs vs t) e.0 (closed_with_typed {G = b.type ∷ G} bs vs t e.1 d)

  -- a map makes of the first terms the others
  module _ (f : Variable ℕ → Option (Term ℕ (Unit {0}))) (typed : IsTypedMap sg f) where
    abbrev pub MetOne : Option (Term ℕ Hint) → Option (Term ℕ Hint) → Type 0
    MetOne None None = Unit {0}
    MetOne (Some m) (Some w) = image_by f (forget m) ≡ forget w
    MetOne _ _ = ⊥

    abbrev pub Met : List (Option (Term ℕ Hint)) → List (Option (Term ℕ Hint)) → Type 0
    Met [] [] = Unit {0}
    Met (v ∷ vs) (w ∷ ws) = MetOne v w × Met vs ws
    Met _ _ = ⊥

    met_one : {D : Ty} {G : List Ty} (b : Cell Hint) (v w : Option (Term ℕ Hint)) (t u : Term ℕ Hint) → TypedOne D b v → MetOne v w → HasType sg (b.type ∷ G) t D → image_by f (forget t) ≡ forget u
        → image_by f (forget (put_or closing b v t)) ≡ forget (put_or closing b w u)
    met_one b None None t u d m e h = ap (for_some b.type tt) h
    met_one b None (Some w) t u d m e h = absurd m
    met_one b (Some v) None t u d m e h = absurd m
    met_one {G = G} b (Some v) (Some w) t u d m e h =
        ap (image_by f) (translate-substitute (λ v. v) (λ h. tt) b.type v zero t)
        ∙ image_by-substitute sg ℕ (Unit {0}) f typed here (translate_typed sg (λ v. v) (λ h. tt) (closed_typed sg G d)) (translate_typed sg (λ v. v) (λ h. tt) e)
        ∙ ap (λ z. substitute b.type z zero (image_by f (forget t))) m
        ∙ ap (substitute b.type (forget w) zero) h
        ∙ sym (translate-substitute (λ v. v) (λ h. tt) b.type w zero u)

    pub met-closed : (D : Ty) (G : List Ty) (bs : List (Cell Hint)) (vs ws : List (Option (Term ℕ Hint))) (t u : Term ℕ Hint) → AllTyped D bs vs → Met vs ws → HasType sg (context_of bs G) t D → image_by f (forget t) ≡ forget u
        → image_by f (forget (closed_with bs vs t)) ≡ forget (closed_with bs ws u)
    met-closed D G [] [] [] t u d m e h = h
    met-closed D G [] [] (w ∷ ws) t u d m e h = absurd m
    met-closed D G [] (v ∷ vs) ws t u d m e h = absurd d
    met-closed D G (b ∷ bs) [] ws t u d m e h = absurd d
    met-closed D G (b ∷ bs) (v ∷ vs) [] t u d m e h = absurd m
    met-closed D G (b ∷ bs) (v ∷ vs) (w ∷ ws) t u d m e h =
        met_one b v w (closed_with bs vs t) (closed_with bs ws u) d.0 m.0 (closed_with_typed {G = b.type ∷ G} bs vs t d.1 e) (met-closed D (b.type ∷ G) bs vs ws t u d.1 m.1 e h)
