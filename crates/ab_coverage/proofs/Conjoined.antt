-- Conjunctions of opened goals.
use Rattle.std.proofs.Common.{◌≡◌, ℕ, zero, List, [], ◌∷◌, map, Option, Some, refl, sym, ◌∙◌, ap, subst}
use Rattle.std.specs.Prelude.{All, codes}
use Rattle.std.proofs.lemmas.List.Elements.{All-head, All-tail}
use Rattle.ab_term.specs.Types.{Ty, prop, o, olist, arrow, arrows}
use Rattle.ab_term.specs.Logical.{Logical, logical_type, truth, conjunction, nabla, judgement, spec_universal, spec_implication, spec_conjunction}
use Rattle.ab_term.specs.Terms.{Variable, Head, logical, constant, Term, lam, spine, no_terms, term}
use Rattle.ab_term.specs.Typing.{Signature, HasType, typed_lam, typed_spine, take_none, take_term}
use Rattle.ab_term.specs.Translation.{forget}
use Rattle.ab_term.specs.Variables.{image_by}
use Rattle.ab_term.proofs.ClosedMaps.{IsClosedMap}
use Rattle.ab_term.proofs.Preservation.{here, shift_typed}
use Rattle.ab_term.proofs.Standing.{Has, shift_has}
use Rattle.ab_coverage.proofs.IndexedGoals.{judged, focused, both, open_goal, full}
use Rattle.ab_coverage.proofs.IndexedSpecClauses.{and_also, conjoined}
use Rattle.ab_coverage.proofs.Opening.{Opens, under_pi, assumed, parted, stays, opens, image-open, full-open, translate-open}

abbrev pub asked : {Hint : Type 0} → Term ℕ Hint → List (Term ℕ Hint) → Term ℕ Hint
asked L Gs = conjoined (map (open_goal L) Gs)

module _ {Hint : Type 0} where
  module _ (f : Variable ℕ → Option (Term ℕ Hint)) (closed : IsClosedMap f) (L : Term ℕ Hint) where
    more_image : (F : Term ℕ Hint) (Gs : List (Term ℕ Hint)) → full (image_by f (and_also F (map (open_goal L) Gs))) ≡ and_also (full (image_by f F)) (map (open_goal (image_by f L)) (map (image_by f) Gs))
    more_image F [] = refl
    more_image F (G ∷ Gs) = more_image (both F (open_goal L G)) Gs ∙ ap (λ H. and_also (both (full (image_by f F)) H) (map (open_goal (image_by f L)) (map (image_by f) Gs))) (image-open f closed L G)

    pub asked-image : (Gs : List (Term ℕ Hint)) → full (image_by f (asked L Gs)) ≡ asked (image_by f L) (map (image_by f) Gs)
    asked-image [] = refl
    asked-image (G ∷ Gs) = more_image (open_goal L G) Gs ∙ ap (λ H. and_also H (map (open_goal (image_by f L)) (map (image_by f) Gs))) (image-open f closed L G)

  module _ (L : Term ℕ Hint) where
    more_full : (F : Term ℕ Hint) (Gs : List (Term ℕ Hint)) → full (and_also F (map (open_goal L) Gs)) ≡ and_also (full F) (map (open_goal L) Gs)
    more_full F [] = refl
    more_full F (G ∷ Gs) = more_full (both F (open_goal L G)) Gs ∙ ap (λ H. and_also (both (full F) H) (map (open_goal L) Gs)) (full-open L G)

    pub asked-full : (Gs : List (Term ℕ Hint)) → full (asked L Gs) ≡ asked L Gs
    asked-full [] = refl
    asked-full (G ∷ Gs) = more_full (open_goal L G) Gs ∙ ap (λ H. and_also H (map (open_goal L) Gs)) (full-open L G)

    more_forget : (F : Term ℕ Hint) (Gs : List (Term ℕ Hint)) → forget (and_also F (map (open_goal L) Gs)) ≡ and_also (forget F) (map (open_goal (forget L)) (map forget Gs))
    more_forget F [] = refl
    more_forget F (G ∷ Gs) = more_forget (both F (open_goal L G)) Gs ∙ ap (λ H. and_also (both (forget F) H) (map (open_goal (forget L)) (map forget Gs))) (translate-open (λ v. v) (λ h. tt) G L)

    pub asked-forget : (Gs : List (Term ℕ Hint)) → forget (asked L Gs) ≡ asked (forget L) (map forget Gs)
    asked-forget [] = refl
    asked-forget (G ∷ Gs) = more_forget (open_goal L G) Gs ∙ ap (λ H. and_also H (map (open_goal (forget L)) (map forget Gs))) (translate-open (λ v. v) (λ h. tt) G L)

-- what a formula of the specification logic, and a judgement, has of types
module _ (sg : Signature) {Hint : Type 0} {G : List Ty} where
  pub two_typed : (l : Logical) (t u : Term ℕ Hint) → logical_type l ≡ arrows (o ∷ o ∷ []) o → HasType sg G (spine (logical l) (term t (term u no_terms))) o → HasType sg G t o × HasType sg G u o
  two_typed l t u is (typed_spine e (take_term {A = B} d (take_term {A = C} f take_none))) =
      let whole : Some (arrow B (arrow C o)) ≡ Some (arrow o (arrow o o)) = sym e ∙ ap Some is in
      let one : B ≡ o = cc in
      let two : C ≡ o = cc in
      (subst (HasType sg G t) one d, subst (HasType sg G u) two f)

  pub scope_typed : (A B : Ty) (x : Hint) (t : Term ℕ Hint) → HasType sg G (spine (logical (spec_universal A)) (term (lam B x t) no_terms)) o → (B ≡ A) × HasType sg (A ∷ G) t o
  scope_typed A B x t (typed_spine e (take_term (typed_lam {B = Y} d) take_none)) =
      let whole : Some (arrow (arrow B Y) o) ≡ Some (arrow (arrow A o) o) = sym e in
      let one : B ≡ A = cc in
      let two : Y ≡ o = cc in
      (one, subst (λ C. HasType sg (C ∷ G) t o) one (subst (HasType sg (B ∷ G) t) two d))

  pub judged_typed : (L K : Term ℕ Hint) → HasType sg G (judged L K) prop → HasType sg G L olist × HasType sg G K o
  judged_typed L K (typed_spine e (take_term {A = B} d (take_term {A = C} f take_none))) =
      let whole : Some (arrow B (arrow C prop)) ≡ Some (arrow olist (arrow o prop)) = sym e in
      let one : B ≡ olist = cc in
      let two : C ≡ o = cc in
      (subst (HasType sg G L) one d, subst (HasType sg G K) two f)

  pub focused_typed : (L F A : Term ℕ Hint) → HasType sg G (focused L F A) prop → HasType sg G L olist × HasType sg G F o × HasType sg G A o
  focused_typed L F A (typed_spine e (take_term {A = B} d (take_term {A = C} f (take_term {A = D} g take_none)))) =
      let whole : Some (arrow B (arrow C (arrow D prop))) ≡ Some (arrow olist (arrow o (arrow o prop))) = sym e in
      let one : B ≡ olist = cc in
      let two : C ≡ o = cc in
      let three : D ≡ o = cc in
      (subst (HasType sg G L) one d, subst (HasType sg G F) two f, subst (HasType sg G A) three g)

module _ (sg : Signature) (cons : sg (codes "::") ≡ Some (arrows (o ∷ olist ∷ []) olist)) {Hint : Type 0} where
  opens_typed : {L K F : Term ℕ Hint} → Opens L K F → (G : List Ty) → HasType sg G L olist → HasType sg G K o → HasType sg G F prop
  opens_typed (under_pi {A = A} {B = B} {x = x} {L = L} {G = K} {F = F} p) G l d =
      let parts = scope_typed sg A B x K d in
      let inner : HasType sg (A ∷ G) F prop = opens_typed p (A ∷ G) (shift_typed sg here l) parts.1 in
      typed_spine refl (take_term (typed_lam inner) take_none)
  opens_typed (assumed {L = L} {F = F} {G = K} p) G l d =
      let parts = two_typed sg spec_implication F K refl d in
      opens_typed p G (typed_spine cons (take_term parts.0 (take_term l take_none))) parts.1
  opens_typed (parted {F = F} {G = K} p q) G l d =
      let parts = two_typed sg spec_conjunction F K refl d in
      typed_spine refl (take_term (opens_typed p G l parts.0) (take_term (opens_typed q G l parts.1) take_none))
  opens_typed stays G l d = typed_spine refl (take_term l (take_term d take_none))

  pub open_typed : {G : List Ty} (L K : Term ℕ Hint) → HasType sg G L olist → HasType sg G K o → HasType sg G (open_goal L K) prop
  open_typed {G = G} L K l d = opens_typed (opens K L) G l d

  module _ {G : List Ty} (L : Term ℕ Hint) (l : HasType sg G L olist) where
    more_typed : (F : Term ℕ Hint) (Gs : List (Term ℕ Hint)) → HasType sg G F prop → All (λ K. HasType sg G K o) Gs → HasType sg G (and_also F (map (open_goal L) Gs)) prop
    more_typed F [] d all = d
    more_typed F (K ∷ Gs) d all = more_typed (both F (open_goal L K)) Gs (typed_spine refl (take_term d (take_term (open_typed L K l (All-head (λ K. HasType sg G K o) K Gs all)) take_none))) (All-tail (λ K. HasType sg G K o) K Gs all)

    pub asked_typed : (Gs : List (Term ℕ Hint)) → All (λ K. HasType sg G K o) Gs → HasType sg G (asked L Gs) prop
    asked_typed [] all = typed_spine refl take_none
    asked_typed (K ∷ Gs) all = more_typed (open_goal L K) Gs (open_typed L K l (All-head (λ K. HasType sg G K o) K Gs all)) (All-tail (λ K. HasType sg G K o) K Gs all)

-- which heads stand there
module _ {Hint : Type 0} (P : Head ℕ → Type 0) (logicals : (l : Logical) → P (logical l)) (constants : (c : List ℕ) → P (constant c)) where
  opens_has : {L K F : Term ℕ Hint} → Opens L K F → Has P L → Has P K → Has P F
  opens_has (under_pi {A = A} {L = L} p) l g = (logicals (nabla A), (opens_has p (shift_has P zero L l) g.1.0, tt))
  opens_has (assumed p) l g = opens_has p (constants (codes "::"), (g.1.0, (l, tt))) g.1.1.0
  opens_has (parted p q) l g = (logicals conjunction, (opens_has p l g.1.0, (opens_has q l g.1.1.0, tt)))
  opens_has stays l g = (logicals judgement, (l, (g, tt)))

  pub opens_over : (L K : Term ℕ Hint) → Has P L → Has P K → Has P (open_goal L K)
  opens_over L K l g = opens_has (opens K L) l g

  module _ (L : Term ℕ Hint) (l : Has P L) where
    more_has : (F : Term ℕ Hint) (Gs : List (Term ℕ Hint)) → Has P F → All (Has P) Gs → Has P (and_also F (map (open_goal L) Gs))
    more_has F [] d all = d
    more_has F (K ∷ Gs) d all = more_has (both F (open_goal L K)) Gs (logicals conjunction, (d, (opens_has (opens K L) l (All-head (Has P) K Gs all), tt))) (All-tail (Has P) K Gs all)

    pub asked_has : (Gs : List (Term ℕ Hint)) → All (Has P) Gs → Has P (asked L Gs)
    asked_has [] all = (logicals truth, tt)
    asked_has (K ∷ Gs) all = more_has (open_goal L K) Gs (opens_has (opens K L) l (All-head (Has P) K Gs all)) (All-tail (Has P) K Gs all)
