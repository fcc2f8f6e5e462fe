-- Formulas and terms with other numbers are what they were: formulas, terms that fit, the same up to names.
use Rattle.std.specs.Prelude.{Contains}
use Rattle.std.proofs.Common.{◌≡◌, ℕ, List, [], ◌∷◌, ◌++◌, map, refl, sym, ◌∙◌, ap, subst, append_assoc}
use Rattle.std.proofs.lemmas.List.Elements.{All-contains}
use Rattle.ab_term.specs.Types.{Ty}
use Rattle.ab_term.specs.Terms.{Nominal, Head, constant, logical, nominal, variable, index, Term, lam, spine, Terms, no_terms, term, Read}
use Rattle.ab_term.specs.Names.{support, HasOneTypeEach, permute, moved_by, EqualUpToNames}
use Rattle.ab_term.specs.Translation.{translate_variable, translate_head, translate, translate_all, forget, EqualPastHints}
use Rattle.ab_term.specs.Typing.{Signature}
use Rattle.ab_term.specs.Variables.{variables}
use Rattle.ab_term.proofs.Lists.{Contains-map, Contains-from_map, All-from_contains}
use Rattle.ab_term.proofs.Translations.{translate-rename, translate_typed, support-translate, variables-translate}
use Rattle.ab_formulas.specs.Declarations.{Declarations, signature_in}
use Rattle.ab_formulas.specs.Formulas.{Place, a_formula, a_scope, a_marked, any, places_of, IsRigid, IsAtomic, StandsIn, AllStandIn, IsFormula}
use Rattle.ab_formulas.specs.GoalTerms as fitting
use Rattle.ab_formulas.specs.Marks.{MarksServe, MarksServeIn, marks_of, erased}
use Rattle.ab_formulas.specs.Sequents.{Variable, Sequent, HoldsOnly, Fits, in_terms, names_of, formulas_of}
use Rattle.ab_theory.specs.Contexts.{AllFit}
use Rattle.ab_effects.proofs.Following.{goal_names_moved}
use Rattle.ab_effects.proofs.Renumbered.{moved_variable, moved_goal}
use Rattle.ab_search_trees.proofs.MovedForms.{T, marks_same, erased_moved}
use Rattle.ab_renumbered_derivations.proofs.Contexts.{replacement_told}

-- TRANSLATED TWICE, hints and all
module _ {A B C H K M : Type 0} (f : A → B) (g : H → K) (e : B → C) (k : K → M) where
  head_twice : (h : Head A) → translate_head e (translate_head f h) ≡ translate_head (λ n. e (f n)) h
  head_twice (constant c) = refl
  head_twice (logical l) = refl
  head_twice (nominal a) = refl
  head_twice (variable x) = refl
  head_twice (index i) = refl

  mutual
    twice : (t : Term A H) → translate e k (translate f g t) ≡ translate (λ n. e (f n)) (λ x. k (g x)) t
    twice (lam A x t) = ap (lam A (k (g x))) (twice t)
    twice (spine h ts) = ap (λ q. spine q (translate_all e k (translate_all f g ts))) (head_twice h) ∙ ap (spine (translate_head (λ n. e (f n)) h)) (all_twice ts)

    all_twice : (ts : Terms A H) → translate_all e k (translate_all f g ts) ≡ translate_all (λ n. e (f n)) (λ x. k (g x)) ts
    all_twice no_terms = refl
    all_twice (term t ts) = ap (λ q. term q (translate_all e k (translate_all f g ts))) (twice t) ∙ ap (term (translate (λ n. e (f n)) (λ x. k (g x)) t)) (all_twice ts)

module _ (f : ℕ → ℕ) where
  -- A FORMULA

  rigid_told : (h : Head ℕ) → IsRigid h → IsRigid (translate_head f h)
  rigid_told (constant c) k = k
  rigid_told (logical l) k = k
  rigid_told (nominal a) k = k
  rigid_told (variable x) k = k
  rigid_told (index i) k = k

  places_same : (h : Head ℕ) → places_of h ≡ places_of (translate_head f h)
  places_same (constant c) = refl
  places_same (logical l) = refl
  places_same (nominal a) = refl
  places_same (variable x) = refl
  places_same (index i) = refl

  atomic_told : (h : Head ℕ) → IsAtomic h → IsAtomic (translate_head f h)
  atomic_told (constant c) k = k
  atomic_told (logical l) k = k
  atomic_told (nominal a) k = k
  atomic_told (variable x) k = k
  atomic_told (index i) k = k

  mutual
    stands_told : (p : Place) (t : Read) → StandsIn p t → StandsIn p (T f t)
    stands_told any t k = tt
    stands_told a_formula (lam A x t) k = k
    stands_told a_formula (spine h ts) k = (rigid_told h k.0, subst (λ p. AllStandIn p (translate_all f (λ h. h) ts)) (places_same h) (all_stand_told (places_of h) ts k.1))
    stands_told a_scope (lam A x t) k = stands_told a_formula t k
    stands_told a_scope (spine h ts) k = k
    stands_told a_marked (lam A x t) k = k
    stands_told a_marked (spine h ts) k = atomic_told h k

    all_stand_told : (p : Place) (ts : Terms ℕ (List ℕ)) → AllStandIn p ts → AllStandIn p (translate_all f (λ h. h) ts)
    all_stand_told p no_terms k = tt
    all_stand_told p (term t ts) k = (stands_told p t k.0, all_stand_told p ts k.1)

  pub formula_told : (sg : Signature) (F : Read) → IsFormula sg F → IsFormula sg (T f F)
  formula_told sg F is = record { typed = translate_typed sg f (λ h. h) is.typed; stands = stands_told a_formula F is.stands }

  -- THE SAME past hints, and up to names

  forget_moved : (t : Read) → forget (T f t) ≡ translate f (λ (x : Unit {0}). x) (forget t)
  forget_moved t = twice f (λ (x : List ℕ). x) (λ n. n) (λ x. tt) t ∙ sym (twice (λ n. n) (λ (x : List ℕ). tt) f (λ (x : Unit {0}). x) t)

  pub past_hints_moved : (t u : Read) → EqualPastHints t u → EqualPastHints (T f t) (T f u)
  past_hints_moved t u e = forget_moved t ∙ ap (translate f (λ (x : Unit {0}). x)) e ∙ sym (forget_moved u)

  up_to_names_moved : (t u : Read) → EqualUpToNames t u → EqualUpToNames (T f t) (T f u)
  up_to_names_moved t u (ps, is, e) =
      (ps, is, ap forget (sym (translate-rename f (λ (x : List ℕ). x) (moved_by ps) t)) ∙ past_hints_moved (permute ps t) u e)

  pub erased_same : (F C : Read) → EqualUpToNames (erased F) (erased C) → EqualUpToNames (erased (T f F)) (erased (T f C))
  erased_same F C e =
      subst (λ t. EqualUpToNames t (erased (T f C))) (erased_moved f F)
      (subst (EqualUpToNames (T f (erased F))) (erased_moved f C) (up_to_names_moved (erased F) (erased C) e))

  pub serve_same : (C F : Read) → MarksServeIn C F → MarksServeIn (T f C) (T f F)
  serve_same C F e =
      subst (λ m. MarksServe m (marks_of (T f F))) (sym (marks_same f C)) (subst (MarksServe (marks_of C)) (sym (marks_same f F)) e)

  -- A TERM FITS

  pub closed_moved : (xs : List Variable) (t : Read) → HoldsOnly xs t → HoldsOnly (map (moved_variable f) xs) (T f t)
  closed_moved xs t closed =
      All-from_contains (Contains (map in_terms (map (moved_variable f) xs))) (variables (T f t)) (λ y c.
      let v = Contains-from_map (translate_variable f) (variables t) y (subst (λ l. Contains l y) (variables-translate f (λ (x : List ℕ). x) t) c) in
      let x = Contains-from_map in_terms xs v.0 (All-contains (Contains (map in_terms xs)) (variables t) v.0 closed v.1) in
      subst (Contains (map in_terms (map (moved_variable f) xs))) (ap (translate_variable f) x.2 ∙ v.2)
      (Contains-map in_terms (map (moved_variable f) xs) (moved_variable f x.0) (Contains-map (moved_variable f) xs x.0 x.1)))

  -- beside other terms
  beside_moved : (sg : Signature) (xs : List Variable) (Fs Gs : List Read) (t : Read) (A : Ty) → names_of Gs ≡ names_of Fs → fitting.Fits sg (map in_terms xs) Fs t A → fitting.Fits sg (map in_terms (map (moved_variable f) xs)) Gs (T f t) A
  beside_moved sg xs Fs Gs t A same m = record {
    typed = translate_typed sg f (λ (x : List ℕ). x) m.typed;
    closed = closed_moved xs t m.closed;
    one_type = subst HasOneTypeEach (ap (λ l. l ++ support t) (sym same) ∙ ap (λ l. names_of Gs ++ l) (sym (support-translate f (λ (x : List ℕ). x) t))) m.one_type;
  }

  pub fits_moved : (D : Declarations) (s : Sequent) (t : Read) (A : Ty) → Fits D s t A → Fits D (moved_goal f s) (T f t) A
  fits_moved D s t A m = beside_moved (signature_in D) s.variables (formulas_of s) (formulas_of (moved_goal f s)) t A (goal_names_moved f s) m

  names_both : (Fs Gs Hs Ks : List Read) → names_of Gs ≡ names_of Fs → names_of Ks ≡ names_of Hs → names_of (Gs ++ Ks) ≡ names_of (Fs ++ Hs)
  names_both Fs Gs Hs Ks first second = names_append Gs Ks ∙ ap (λ l. l ++ names_of Ks) first ∙ ap (λ l. names_of Fs ++ l) second ∙ sym (names_append Fs Hs)
    where
      names_append : (Es Is : List Read) → names_of (Es ++ Is) ≡ names_of Es ++ names_of Is
      names_append [] Is = refl
      names_append (E ∷ Es) Is = ap (λ l. support E ++ l) (names_append Es Is) ∙ sym (append_assoc (support E) (names_of Es) (names_of Is))

  pub all_fit_moved : (D : Declarations) (s : Sequent) (before others : List Read) → names_of others ≡ names_of before → (rs : List (Nominal × Read)) → AllFit D s before rs → AllFit D (moved_goal f s) others (map (replacement_told f) rs)
  all_fit_moved D s before others same [] all = tt
  all_fit_moved D s before others same (r ∷ rs) all = (
    beside_moved (signature_in D) s.variables (formulas_of s ++ before) (formulas_of (moved_goal f s) ++ others) r.1 r.0.type
        (names_both (formulas_of s) (formulas_of (moved_goal f s)) before others (goal_names_moved f s) same) all.0,
    all_fit_moved D s (before ++ r.1 ∷ []) (others ++ T f r.1 ∷ [])
        (names_both before others (r.1 ∷ []) (T f r.1 ∷ []) same (ap (λ l. l ++ []) (support-translate f (λ (x : List ℕ). x) r.1))) rs all.1,
  )
