-- GOALS THAT OPEN THE SAME under a guess.
use Rattle.std.proofs.Common.{◌≡◌, ℕ, zero, List, [], ◌∷◌, map, Bool, true, false, not, None, refl, sym, ◌∙◌, ap, subst}
use Rattle.std.specs.Prelude.{All}
use Rattle.std.proofs.lemmas.Bool.{false≢true, and_parts}
use Rattle.std.proofs.lemmas.List.Elements.{All-head, All-tail}
use Rattle.ab_term.specs.Types.{Ty, arrow, o}
use Rattle.ab_term.specs.Logical.{spec_universal, spec_implication, spec_conjunction, nabla}
use Rattle.ab_term.specs.Terms.{Variable, Head, logical, variable, Term, lam, spine, Terms, no_terms, term, Read}
use Rattle.ab_term.specs.Typing.{Signature, HasType, TakeType, typed_spine, take_term}
use Rattle.ab_term.specs.Substitution.{shift}
use Rattle.ab_term.specs.Translation.{forget}
use Rattle.ab_term.specs.Variables.{image_by}
use Rattle.ab_term.proofs.ClosedMaps.{IsClosedMap, shift-image}
use Rattle.ab_unifiers.specs.Replacements.{holds}
use Rattle.ab_unifiers.proofs.Following.{Put}
use Rattle.ab_coverage.proofs.IndexedGoals.{in_front, both, judged, open_goal}
use Rattle.ab_coverage.proofs.IndexedSpecClauses.{and_also}
use Rattle.ab_coverage.proofs.Conjoined.{asked, two_typed, scope_typed}
use Rattle.ab_search_completeness.specs.Firm.{opens_firmly}
use Rattle.ab_search_completeness.proofs.Names.{head_stays}

not_true : (b : Bool) → not b ≡ true → b ≡ false
not_true true e = absurd (false≢true e)
not_true false e = refl

no_abstraction : {sg : Signature} {G : List Ty} {h : Head ℕ} {ts : Terms ℕ (List ℕ)} {A B : Ty} → HasType sg G (spine h ts) (arrow A B) → ⊥
no_abstraction d = elim d [ ]

-- `pi` is given an abstraction
pub no_scope : {sg : Signature} {G : List Ty} {A : Ty} {h : Head ℕ} {ts : Terms ℕ (List ℕ)} → HasType sg G (spine (logical (spec_universal A)) (term (spine h ts) no_terms)) o → ⊥
no_scope {sg = sg} {G = G} {A = A} {h = h} {ts = ts} (typed_spine e (take_term {A = X} {B = Y} d ds)) =
    let first : arrow A o ≡ X = cc in
    no_abstraction (subst (HasType sg G (spine h ts)) (sym first) d)

two_taken : {sg : Signature} {G : List Ty} {A C : Ty} {v : Read} {us : Terms ℕ (List ℕ)} → TakeType sg G (term v us) A C → (B : Ty) × (E : Ty) × (A ≡ arrow B E)
two_taken (take_term {A = B} {B = E} d ds) = (B, E, refl)

-- and nothing more
pub no_second : {sg : Signature} {G : List Ty} {A : Ty} {t u : Read} {us : Terms ℕ (List ℕ)} → HasType sg G (spine (logical (spec_universal A)) (term t (term u us))) o → ⊥
no_second (typed_spine e (take_term {B = Y} d ds)) =
    let r = two_taken ds in
    let same : o ≡ Y = cc in
    let bad : o ≡ arrow r.0 r.1 = same ∙ r.2 in
    cc

module _ (f : Put) (closed : IsClosedMap f) (ys : List (Variable ℕ)) (others : (y : Variable ℕ) → holds ys y ≡ false → f y ≡ None) where
  pub opens_same : (sg : Signature) (G : List Ty) (F : Read) (L : Term ℕ (Unit {0})) → HasType sg G F o → opens_firmly ys F ≡ true → image_by f (open_goal L (forget F)) ≡ open_goal (image_by f L) (image_by f (forget F))
  opens_same sg G (spine (logical (spec_universal A)) (term (lam B x F) no_terms)) L d e =
      ap (λ H. spine (logical (nabla A)) (term (lam A tt H) no_terms)) (opens_same sg (A ∷ G) F (shift zero L) (scope_typed sg A B x F d).1 e ∙ ap (λ K. open_goal K (image_by f (forget F))) (sym (shift-image f closed L zero)))
  opens_same sg G (spine (logical spec_implication) (term E (term F no_terms))) L d e = opens_same sg G F (in_front (forget E) L) (two_typed sg spec_implication E F refl d).1 e
  opens_same sg G (spine (logical spec_conjunction) (term E (term F no_terms))) L d e =
      let two = two_typed sg spec_conjunction E F refl d in
      let firm = and_parts (opens_firmly ys E) (opens_firmly ys F) e in
      ap (λ H. both H (image_by f (open_goal L (forget F)))) (opens_same sg G E L two.0 firm.0) ∙ ap (both (open_goal (image_by f L) (image_by f (forget E)))) (opens_same sg G F L two.1 firm.1)
  opens_same sg G (spine (logical (spec_universal A)) (term (spine h ts) no_terms)) L d e = absurd (no_scope d)
  opens_same sg G (spine (logical (spec_universal A)) (term t (term u us))) L d e = absurd (no_second d)
  opens_same sg G (spine (variable y) ts) L d e = ap (λ t. judged (image_by f L) t) refl ∙ sym (stays y ts (not_true (holds ys y) e))
    where
      stays : (y : Variable ℕ) (ts : Terms ℕ (List ℕ)) → holds ys y ≡ false → open_goal (image_by f L) (image_by f (forget (spine (variable y) ts))) ≡ judged (image_by f L) (image_by f (forget (spine (variable y) ts)))
      stays y ts n =
          let same = head_stays f closed ys others (variable y) _ n in
          ap (open_goal (image_by f L)) same ∙ ap (judged (image_by f L)) (sym same)
  opens_same sg G F L d e = refl

  more_same : (sg : Signature) (G : List Ty) (L F : Term ℕ (Unit {0})) (Gs : List Read) → All (λ K. HasType sg G K o) Gs → All (λ K. opens_firmly ys K ≡ true) Gs
      → image_by f (and_also F (map (open_goal L) (map forget Gs))) ≡ and_also (image_by f F) (map (open_goal (image_by f L)) (map (λ K. image_by f (forget K)) Gs))
  more_same sg G L F [] d e = refl
  more_same sg G L F (K ∷ Gs) d e =
      more_same sg G L (both F (open_goal L (forget K))) Gs (All-tail (λ K. HasType sg G K o) K Gs d) (All-tail (λ K. opens_firmly ys K ≡ true) K Gs e)
      ∙ ap (λ H. and_also (both (image_by f F) H) (map (open_goal (image_by f L)) (map (λ K. image_by f (forget K)) Gs))) (opens_same sg G K L (All-head (λ K. HasType sg G K o) K Gs d) (All-head (λ K. opens_firmly ys K ≡ true) K Gs e))

  -- WHAT IS ASKED FOR of goals that open the same
  pub asked_under : (sg : Signature) (G : List Ty) (L : Term ℕ (Unit {0})) (Gs : List Read) → All (λ K. HasType sg G K o) Gs → All (λ K. opens_firmly ys K ≡ true) Gs
      → image_by f (asked L (map forget Gs)) ≡ asked (image_by f L) (map (λ K. image_by f (forget K)) Gs)
  asked_under sg G L [] d e = refl
  asked_under sg G L (K ∷ Gs) d e =
      more_same sg G L (open_goal L (forget K)) Gs (All-tail (λ K. HasType sg G K o) K Gs d) (All-tail (λ K. opens_firmly ys K ≡ true) K Gs e)
      ∙ ap (λ H. and_also H (map (open_goal (image_by f L)) (map (λ K. image_by f (forget K)) Gs))) (opens_same sg G K L (All-head (λ K. HasType sg G K o) K Gs d) (All-head (λ K. opens_firmly ys K ≡ true) K Gs e))
