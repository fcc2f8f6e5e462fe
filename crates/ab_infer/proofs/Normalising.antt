-- The normal form of a well-typed term is canonical, and past hints it is the one by instances.
use Rattle.std.proofs.Common.{◌≡◌, ℕ, List, ◌∷◌, codes, refl, sym, ap, ◌∙◌, subst}
use Rattle.ab_term.specs.Types.{Ty, arrow}
use Rattle.ab_term.specs.Terms.{Term, lam, Terms, no_terms, term}
use Rattle.ab_term.specs.Typing.{Signature, HasType, TakeType, typed_lam, take_none, take_term}
use Rattle.ab_term.specs.Substitution.{reduce, instance}
use Rattle.ab_term.specs.Expansion.{expansion_of}
use Rattle.ab_term.specs.Translation.{translate_head, forget, forget_all, EqualPastHints}
use Rattle.ab_term.specs.Beta.{Plain}
use Rattle.ab_term.specs.Normal.{FitsType, fits_atom, fits_abstraction, fits_application, normal}
use Rattle.ab_term.specs.Normal as textbook
use Rattle.ab_term.proofs.Preservation.{instance_typed}
use Rattle.ab_term.proofs.Expansions.{expansion_of_typed, reduce-some, reduce-no_terms}
use Rattle.ab_term.proofs.Translations.{translate-instance, translate-expansion_of, translate-expansion, translate_typed, translate_all_typed}
use Rattle.ab_term.proofs.Normalising.{normal_typed}
use Rattle.ab_meaning.specs.Normal.{left_type, given_all, long_form, normal_given, normal_form}
use Rattle.ab_infer.proofs.Means.{left_none}

module _ (sg : Signature) where
  left_taken : (A : Ty) {G : List Ty} {ts : Terms ℕ (List ℕ)} {B : Ty} → TakeType sg G ts A B → left_type A ts ≡ B
  left_taken A take_none = left_none A
  left_taken (arrow A C) (take_term d ds) = left_taken C ds

  given_typed : (ts : Terms ℕ (List ℕ)) {t : Term ℕ (List ℕ)} {A B : Ty} {G : List Ty} → HasType sg G t A → TakeType sg G ts A B → HasType sg G (given_all t ts) B
  given_typed no_terms d take_none = d
  given_typed (term u us) d (take_term e es) = given_typed us (instance_typed sg d e) es

  pub normal_given_typed : {G : List Ty} {p : Plain ℕ (List ℕ)} {A B : Ty} (ts : Terms ℕ (List ℕ)) → FitsType sg G p A → TakeType sg G ts A B → HasType sg G (normal_given sg G p ts) B
  normal_given_typed {G = G} {A = A} {B = B} ts (fits_atom {h = h} e) ds =
      subst (λ o. HasType sg G (long_form o h ts) B) (sym e)
      (subst (λ C. HasType sg G (expansion_of (codes "x") C h ts) B) (sym (left_taken A ds)) (expansion_of_typed sg (codes "x") B G h A ts e ds))
  normal_given_typed ts (fits_abstraction f) ds = given_typed ts (typed_lam (normal_given_typed no_terms f take_none)) ds
  normal_given_typed {G = G} ts (fits_application {u = u} f g) ds = normal_given_typed (term (normal_form sg G u) ts) f (take_term (normal_given_typed no_terms g take_none) ds)

  -- a term that is given arguments reduces
  one_given : {G : List Ty} {t : Term ℕ (Unit {0})} {A B : Ty} (v : Term ℕ (Unit {0})) (vs : Terms ℕ (Unit {0})) → HasType sg G t (arrow A B) → reduce (arrow A B) t (term v vs) ≡ reduce B (instance t v) vs
  one_given v vs (typed_lam d) = refl

  given_past : (ts : Terms ℕ (List ℕ)) {t : Term ℕ (List ℕ)} {A B : Ty} {G : List Ty} → HasType sg G t A → TakeType sg G ts A B → forget (given_all t ts) ≡ reduce A (forget t) (forget_all ts)
  given_past no_terms {t = t} {A = A} d take_none = sym (reduce-no_terms A (forget t))
  given_past (term u us) {t = t} d (take_term {B = B} e es) =
      given_past us (instance_typed sg d e) es
      ∙ ap (λ w. reduce B w (forget_all us)) (translate-instance (λ v. v) (λ x. tt) t u)
      ∙ sym (one_given (forget u) (forget_all us) (translate_typed sg (λ v. v) (λ x. tt) d))

  past : {G : List Ty} {p : Plain ℕ (List ℕ)} {A B : Ty} (ts : Terms ℕ (List ℕ)) → FitsType sg G p A → TakeType sg G ts A B
      → forget (normal_given sg G p ts) ≡ reduce A (forget (normal sg (codes "x") G p)) (forget_all ts)
  past {G = G} {A = A} {B = B} ts (fits_atom {h = h} e) ds =
      ap (λ o. forget (long_form o h ts)) e
      ∙ ap (λ C. forget (expansion_of (codes "x") C h ts)) (left_taken A ds)
      ∙ translate-expansion_of (λ v. v) (λ x. tt) (codes "x") B h ts
      ∙ sym (reduce-some sg ℕ (translate_head (λ v. v) h) no_terms (translate_all_typed sg (λ v. v) (λ x. tt) ds))
      ∙ ap (λ w. reduce A w (forget_all ts)) (sym (translate-expansion (λ v. v) (λ x. tt) (codes "x") A h))
      ∙ ap (λ o. reduce A (forget (textbook.long_form sg (codes "x") h o)) (forget_all ts)) (sym e)
  past {G = G} ts (fits_abstraction {A = A} {B = C} {x = y} {t = t} f) ds =
      given_past ts (typed_lam (normal_given_typed no_terms f take_none)) ds
      ∙ ap (λ b. reduce (arrow A C) (lam A tt b) (forget_all ts))
      (past no_terms f take_none ∙ reduce-no_terms C (forget (normal sg (codes "x") (A ∷ G) t)))
  past {G = G} ts (fits_application {A = A} {B = C} {t = t} {u = u} f g) ds =
      past (term (normal_form sg G u) ts) f (take_term (normal_given_typed no_terms g take_none) ds)
      ∙ ap (λ v. reduce (arrow A C) (forget (normal sg (codes "x") G t)) (term v (forget_all ts)))
      (past no_terms g take_none ∙ reduce-no_terms A (forget (normal sg (codes "x") G u)))
      ∙ one_given (forget (normal sg (codes "x") G u)) (forget_all ts) (translate_typed sg (λ v. v) (λ x. tt) (normal_typed sg (codes "x") f))
      ∙ ap (λ w. reduce C w (forget_all ts)) (sym (translate-instance (λ v. v) (λ x. tt) (normal sg (codes "x") G t) (normal sg (codes "x") G u)))

  pub normal_form_typed : {G : List Ty} {p : Plain ℕ (List ℕ)} {A : Ty} → FitsType sg G p A → HasType sg G (normal_form sg G p) A
  normal_form_typed f = normal_given_typed no_terms f take_none

  pub normal_form_past_hints : {G : List Ty} {p : Plain ℕ (List ℕ)} {A : Ty} → FitsType sg G p A → EqualPastHints (normal_form sg G p) (normal sg (codes "x") G p)
  normal_form_past_hints {G = G} {p = p} {A = A} f = past no_terms f take_none ∙ reduce-no_terms A (forget (normal sg (codes "x") G p))
