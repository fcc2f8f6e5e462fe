-- RULES WITH OTHER NUMBERS: where a step's rule leads from a goal to premises, the step with other numbers leads from the goal with other numbers to
-- the premises with these.
use Rattle.std.specs.Prelude.{All, AllPairs, Contains, bytes_eq, if◌then◌else◌}
use Rattle.std.proofs.Common.{◌≡◌, ◌≢◌, ◌⊎◌, ◌+◌, arith, inl, inr, ℕ, List, [], ◌∷◌, ◌++◌, map, length, drop, Bool, true, false, Some, option_map, codes, refl, sym, ◌∙◌, ap, subst, append-nil}
use Rattle.ab_term.specs.Types.{Ty, prop, olist}
use Rattle.ab_term.specs.Terms.{Nominal, Read}
use Rattle.ab_term.specs.Names.{support, IsOrderOf}
use Rattle.ab_term.specs.Sameness.{same_number}
use Rattle.ab_term.specs.Substitution.{instance}
use Rattle.ab_term.specs.Variables.{image}
use Rattle.ab_term.proofs.Lists.{Contains-none}
use Rattle.ab_term.proofs.ImageTranslations.{translate-image}
use Rattle.ab_term.proofs.Translations.{translate-instance, support-translate}
use Rattle.ab_unifiers.specs.Renumbering.{renumbered_pairs, IsRenumbering}
use Rattle.ab_unifiers.specs.Replacements.{Cell}
use Rattle.ab_unifiers.specs.Unification.{unified, apart, Solves}
use Rattle.ab_unifiers.specs.Unifiers.{given}
use Rattle.ab_unifiers.proofs.Changes.{agreeing}
use Rattle.ab_formulas.specs.BodyMarks.{MayBeAnalysed, MayBeUnfolded}
use Rattle.ab_formulas.specs.Declarations.{Declarations, signature_in}
use Rattle.ab_formulas.specs.Forms.{Form, form_of, truth_in, falsity_in, both_in, either_in, implies_in, equal_in, for_all_in, exists_in, nabla_in}
use Rattle.ab_formulas.specs.Marks.{plain, star_of, at_of, plus_of, hash_of}
use Rattle.ab_formulas.specs.NewNames.{Label, Names, IsNoVariable}
use Rattle.ab_formulas.proofs.GoalsAgreeing.{translate_agrees}
use Rattle.ab_formulas.specs.Sequents.{Hypothesis, Sequent, others, formula_of, in_terms, proving, assuming, without, over}
use Rattle.ab_theory.specs.Conjuncts.{conjuncts, with_parts}
use Rattle.ab_theory.specs.Contexts.{replace_constants, MayBeReplaced, is_within}
use Rattle.ab_theory.specs.Derivations.{debts_of}
use Rattle.ab_theory.specs.Equations.{Becomes, AreApart, made}
use Rattle.ab_theory.specs.Induction.{inductive_signs, coinductive_signs, marked_antecedents, marked_consequents}
use Rattle.ab_theory.specs.Judgements.{as_unfocused, marked_judgement}
use Rattle.ab_theory.specs.Levels.{next_level, inductive_level, coinductive_level}
use Rattle.ab_theory.specs.Row.{Row, Takes, labelled_each}
use Rattle.ab_theory.specs.Rules.{row, any_name, IsSupport, name_term, raised, applied}
use Rattle.ab_theory.specs.Splits.{cell_for, NeverArises}
use Rattle.ab_theory.specs.Steps as step
use Rattle.ab_theory.specs.Steps.{Step}
use Rattle.ab_theory.specs.Subjects.{Subject, sign_of, cases_by, conclusion_then}
use Rattle.ab_theory.proofs.Carried.{one_equation, becomes_arises, arises_becomes, never_apart}
use Rattle.ab_effects.proofs.Arising.{Follows, solved_moved, never_moved, arises_moved, made_answered, split_moved}
use Rattle.ab_effects.proofs.Following.{assuming_moved}
use Rattle.ab_effects.proofs.MovedSubjects.{moved_subject, subject_moved}
use Rattle.ab_effects.proofs.Namings.{HaveSameNames, no_variable}
use Rattle.ab_effects.proofs.Outcomes.{flexible_moved}
use Rattle.ab_effects.proofs.Renumbered.{moved_variable, moved_hypothesis, moved_goal}
use Rattle.ab_effects.proofs.SubjectsFollowing.{good_subject, cases_follow}
use Rattle.ab_search_trees.proofs.MovedForms.{T, form_renumbered, form_moved}
use Rattle.ab_derived_goals.specs.Derived.{AreSound}
use Rattle.ab_derived_goals.proofs.Introducing.{least_name_moved}
use Rattle.ab_derived_goals.proofs.Itself.{term_itself}
use Rattle.ab_derived_goals.proofs.Moving.{named_moved, names_moved, same_names, constant_moved, applied_moved, over_moved}
use Rattle.ab_renumbered_derivations.proofs.Contexts.{replacement_told, replaced_told, within_told, pair_told, unfocused_told, cut_moved, constants_told}
use Rattle.ab_renumbered_derivations.proofs.Formulas.{formula_told, past_hints_moved, erased_same, serve_same, fits_moved, all_fit_moved}
use Rattle.ab_renumbered_derivations.proofs.Remarked.{conjuncts_told, with_parts_told, level_told, inductive_signs_told, coinductive_signs_told, marked_antecedents_told, marked_consequents_told}
use Rattle.ab_renumbered_derivations.proofs.Unfolding.{way_moved}

abbrev Cells : Type 0
Cells = List (Cell (List ℕ))

module _ (f : ℕ → ℕ) where
  -- FORMS

  abbrev pair : Read × Read → Read × Read
  pair p = (T f p.0, T f p.1)

  abbrev scope : Ty × Read → Ty × Read
  scope q = (q.0, T f q.1)

  truth_form : (g : Form) → truth_in (form_renumbered f g) ≡ truth_in g
  truth_form Form.truth = refl
  truth_form g = refl

  falsity_form : (g : Form) → falsity_in (form_renumbered f g) ≡ falsity_in g
  falsity_form Form.falsity = refl
  falsity_form g = refl

  both_form : (g : Form) → both_in (form_renumbered f g) ≡ option_map pair (both_in g)
  both_form (Form.both A B) = refl
  both_form g = refl

  either_form : (g : Form) → either_in (form_renumbered f g) ≡ option_map pair (either_in g)
  either_form (Form.either A B) = refl
  either_form g = refl

  implies_form : (g : Form) → implies_in (form_renumbered f g) ≡ option_map pair (implies_in g)
  implies_form (Form.implies A B) = refl
  implies_form g = refl

  equal_form : (g : Form) → equal_in (form_renumbered f g) ≡ option_map pair (equal_in g)
  equal_form (Form.equal A t u) = refl
  equal_form g = refl

  for_all_form : (g : Form) → for_all_in (form_renumbered f g) ≡ option_map scope (for_all_in g)
  for_all_form (Form.for_all A t) = refl
  for_all_form g = refl

  exists_form : (g : Form) → exists_in (form_renumbered f g) ≡ option_map scope (exists_in g)
  exists_form (Form.exists A t) = refl
  exists_form g = refl

  nabla_form : (g : Form) → nabla_in (form_renumbered f g) ≡ option_map scope (nabla_in g)
  nabla_form (Form.nabla A t) = refl
  nabla_form g = refl

  -- HYPOTHESES

  found_moved : (s : Sequent) (H : List ℕ) (F : Read) → formula_of s H ≡ Some F → formula_of (moved_goal f s) H ≡ Some (T f F)
  found_moved s H F e = named_moved f s.hypotheses H ∙ ap (option_map (T f)) e

  others_moved : (hs : List Hypothesis) (H : List ℕ) → map (moved_hypothesis f) (others hs H) ≡ others (map (moved_hypothesis f) hs) H
  others_moved [] H = refl
  others_moved (h ∷ hs) H = go (bytes_eq h.name H) (others_moved hs H)
    where
      go : (b : Bool) → map (moved_hypothesis f) (others hs H) ≡ others (map (moved_hypothesis f) hs) H
          → map (moved_hypothesis f) (if b then others hs H else (h ∷ others hs H)) ≡ (if b then others (map (moved_hypothesis f) hs) H else (moved_hypothesis f h ∷ others (map (moved_hypothesis f) hs) H))
      go true e = e
      go false e = ap (λ l. moved_hypothesis f h ∷ l) e

  without_moved : (H : List ℕ) (s : Sequent) → moved_goal f (without H s) ≡ without H (moved_goal f s)
  without_moved H s = ap (λ (hs : List Hypothesis). record { variables = map (moved_variable f) s.variables; hypotheses = hs; conclusion = T f s.conclusion; counter = s.counter }) (others_moved s.hypotheses H)

  names_without : (l : Label) (H : List ℕ) (s v : Sequent) (x : List ℕ) → Names l (without H s) x v → Names l (without H (moved_goal f s)) x (moved_goal f v)
  names_without l H s v x n = subst (λ t. Names l t x (moved_goal f v)) (without_moved H s) (names_moved f l (without H s) v x n)

  names_assuming : (l : Label) (y : List ℕ) (A : Read) (s v : Sequent) (x : List ℕ) → Names l (assuming y A s) x v → Names l (assuming y (T f A) (moved_goal f s)) x (moved_goal f v)
  names_assuming l y A s v x n = subst (λ t. Names l t x (moved_goal f v)) (assuming_moved f y A s) (names_moved f l (assuming y A s) v x n)

  -- one premise
  one_moved : (ps : List Sequent) (s t : Sequent) → ps ≡ s ∷ [] → moved_goal f s ≡ t → map (moved_goal f) ps ≡ t ∷ []
  one_moved ps s t e m = ap (map (moved_goal f)) e ∙ ap (λ g. g ∷ []) m

  two_moved : (ps : List Sequent) (s t u v : Sequent) → ps ≡ s ∷ u ∷ [] → moved_goal f s ≡ t → moved_goal f u ≡ v → map (moved_goal f) ps ≡ t ∷ v ∷ []
  two_moved ps s t u v e m n = ap (map (moved_goal f)) e ∙ ap (λ g. g ∷ moved_goal f u ∷ []) m ∙ ap (λ g. t ∷ g ∷ []) n

  -- a hypothesis each
  each_moved : (ls : List Label) (Fs : List Read) (s : Sequent) (k j : Sequent → Row) (ps : List Sequent) → ((t : Sequent) → Takes (k t) ps → Takes (j (moved_goal f t)) (map (moved_goal f) ps))
      → Takes (labelled_each 3 ls Fs s k) ps → Takes (labelled_each 3 ls (map (T f) Fs) (moved_goal f s) j) (map (moved_goal f) ps)
  each_moved [] [] s k j ps same h = same s h
  each_moved [] (F ∷ Fs) s k j ps same h = absurd h.0
  each_moved (l ∷ ls) [] s k j ps same h = absurd h.0
  each_moved (l ∷ ls) (F ∷ Fs) s k j ps same (x, t, n, h) = (
    x,
    moved_goal f t,
    names_moved f l s t x n,
    subst (λ g. Takes (labelled_each 3 ls (map (T f) Fs) g j) (map (moved_goal f) ps)) (assuming_moved f x F t) (each_moved ls Fs (assuming x F t) k j ps same h),
  )

  -- the step
  abbrev pub moved_step : Step → Step
  moved_step (step.for_all_left H t l) = step.for_all_left H (T f t) l
  moved_step (step.exists_right t) = step.exists_right (T f t)
  moved_step (step.cut_formula F l) = step.cut_formula (T f F) l
  moved_step (step.spec_instance H rs l) = step.spec_instance H (map (replacement_told f) rs) l
  moved_step (step.spec_monotone H K l) = step.spec_monotone H (T f K) l
  moved_step s = s

  pub same_debts : (s : Step) → debts_of (moved_step s) ≡ debts_of s
  same_debts (step.for_all_left H t l) = refl
  same_debts (step.exists_right t) = refl
  same_debts (step.cut_formula F l) = refl
  same_debts (step.spec_instance H rs l) = refl
  same_debts (step.spec_monotone H K l) = refl
  same_debts s = refl

module _ (D : Declarations) (sound : AreSound D) (f : ℕ → ℕ) (cells most : Cells) (r : IsRenumbering f cells most) (s : Sequent) where
  abbrev u : Sequent
  u = moved_goal f s

  abbrev agree : (i j : ℕ) → same_number (f i) (f j) ≡ same_number i j
  agree = agreeing f r.different

  abbrev Next : Step → List Sequent → Type 0
  Next k ps = Takes (row D (any_name most) (moved_step f k) u) (map (moved_goal f) ps)

  -- the next number
  next_number : f (length cells) ≡ length most
  next_number =
      let before : length cells ≡ length cells + 0 = omega arith in
      let behind : length most + 0 ≡ length most = omega arith in
      ap f before ∙ r.behind 0 ∙ behind

  support_moved : (F : Read) (names : List Nominal) → IsSupport F names → IsSupport (T f F) names
  support_moved F names is = subst (IsOrderOf names) (sym (support-translate f (λ (y : List ℕ). y) F)) is

  -- a new variable
  over_next : (A : Ty) (t : Read) (name : List ℕ) (names : List Nominal) (k : Sequent)
      → moved_goal f (over (raised (length cells) name A names) k) ≡ over (raised (length most) name A names) (moved_goal f k)
  over_next A t name names k = over_moved f (raised (length cells) name A names) k ∙ ap (λ n. over (raised n name A names) (moved_goal f k)) next_number

  body_next : (A : Ty) (t : Read) (name : List ℕ) (names : List Nominal) → T f (instance t (applied (raised (length cells) name A names) names)) ≡ instance (T f t) (applied (raised (length most) name A names) names)
  body_next A t name names =
      translate-instance f (λ (y : List ℕ). y) t (applied (raised (length cells) name A names) names)
      ∙ ap (instance (T f t)) (applied_moved f (length cells) name A names ∙ ap (λ n. applied (raised n name A names) names) next_number)

  by_initial : (H : List ℕ) (ps : List Sequent) → Takes (row D (any_name cells) (step.initial H) s) ps → Next (step.initial H) ps
  by_initial H ps (F, e, (same, (serve, q))) = (T f F, found_moved f s H F e, (erased_same f F s.conclusion same, (serve_same f s.conclusion F serve, ap (map (moved_goal f)) q)))

  by_and_left : (H : List ℕ) (l m : Label) (ps : List Sequent) → Takes (row D (any_name cells) (step.and_left H l m) s) ps → Next (step.and_left H l m) ps
  by_and_left H l m ps (F, e, (p, e2, (L, a, n, (M, b, k, q)))) = (
    T f F,
    found_moved f s H F e,
    (
      pair f p,
      ap both_in (form_moved f F) ∙ both_form f (form_of F) ∙ ap (option_map (pair f)) e2,
      (L, moved_goal f a, names_without f l H s a L n, (M, moved_goal f b, names_assuming f m L p.0 a b M k, one_moved f ps (assuming M p.1 b) (assuming M (T f p.1) (moved_goal f b)) q (assuming_moved f M p.1 b))),
    ),
  )

  by_or_right : (b : Bool) (ps : List Sequent) → Takes (row D (any_name cells) (step.or_right b) s) ps → Next (step.or_right b) ps
  by_or_right b ps (p, e, q) = (
    pair f p,
    ap either_in (form_moved f s.conclusion) ∙ either_form f (form_of s.conclusion) ∙ ap (option_map (pair f)) e,
    one_moved f ps (proving (if b then p.0 else p.1) s) (proving (if b then T f p.0 else T f p.1) u) q (ap (λ F. proving F u) (side b)),
  )
    where
      side : (b : Bool) → T f (if b then p.0 else p.1) ≡ (if b then T f p.0 else T f p.1)
      side true = refl
      side false = refl

  by_or_left : (H : List ℕ) (l : Label) (ps : List Sequent) → Takes (row D (any_name cells) (step.or_left H l) s) ps → Next (step.or_left H l) ps
  by_or_left H l ps (F, e, (p, e2, (L, a, n, q))) = (
    T f F,
    found_moved f s H F e,
    (
      pair f p,
      ap either_in (form_moved f F) ∙ either_form f (form_of F) ∙ ap (option_map (pair f)) e2,
      (
        L,
        moved_goal f a,
        names_without f l H s a L n,
        two_moved f ps (assuming L p.0 a) (assuming L (T f p.0) (moved_goal f a)) (assuming L p.1 a) (assuming L (T f p.1) (moved_goal f a)) q (assuming_moved f L p.0 a) (assuming_moved f L p.1 a),
      ),
    ),
  )

  by_arrow_right : (l : Label) (ps : List Sequent) → Takes (row D (any_name cells) (step.arrow_right l) s) ps → Next (step.arrow_right l) ps
  by_arrow_right l ps (p, e, (L, a, n, q)) = (
    pair f p,
    ap implies_in (form_moved f s.conclusion) ∙ implies_form f (form_of s.conclusion) ∙ ap (option_map (pair f)) e,
    (
      L,
      moved_goal f a,
      names_moved f l s a L n,
      one_moved f ps (proving p.1 (assuming L p.0 a)) (proving (T f p.1) (assuming L (T f p.0) (moved_goal f a))) q (ap (proving (T f p.1)) (assuming_moved f L p.0 a)),
    ),
  )

  by_arrow_left : (H : List ℕ) (l : Label) (ps : List Sequent) → Takes (row D (any_name cells) (step.arrow_left H l) s) ps → Next (step.arrow_left H l) ps
  by_arrow_left H l ps (F, e, (p, e2, (L, a, n, q))) = (
    T f F,
    found_moved f s H F e,
    (
      pair f p,
      ap implies_in (form_moved f F) ∙ implies_form f (form_of F) ∙ ap (option_map (pair f)) e2,
      (L, moved_goal f a, names_moved f l s a L n, two_moved f ps (proving p.0 s) (proving (T f p.0) u) (assuming L p.1 a) (assuming L (T f p.1) (moved_goal f a)) q refl (assuming_moved f L p.1 a)),
    ),
  )

  by_for_all_right : (ps : List Sequent) → Takes (row D (any_name cells) step.for_all_right s) ps → Next step.for_all_right ps
  by_for_all_right ps (q, e, (p, (sup, new), is)) =
      let x = raised (length cells) p.1 q.0 p.0 in
      let y = raised (length most) p.1 q.0 p.0 in (
        scope f q,
        ap for_all_in (form_moved f s.conclusion) ∙ for_all_form f (form_of s.conclusion) ∙ ap (option_map (scope f)) e,
        (
          p,
          (support_moved s.conclusion p.0 sup, no_variable s u p.1 (same_names f s) new),
          one_moved f ps (proving (instance q.1 (applied x p.0)) (over x s)) (proving (instance (T f q.1) (applied y p.0)) (over y u)) is
              (ap (λ F. proving F (moved_goal f (over x s))) (body_next q.0 q.1 p.1 p.0) ∙ ap (proving (instance (T f q.1) (applied y p.0))) (over_next q.0 q.1 p.1 p.0 s)),
        ),
      )

  by_for_all_left : (H : List ℕ) (t : Read) (l : Label) (ps : List Sequent) → Takes (row D (any_name cells) (step.for_all_left H t l) s) ps → Next (step.for_all_left H t l) ps
  by_for_all_left H t l ps (F, e, (q, e2, (fits, (L, a, n, is)))) = (
    T f F,
    found_moved f s H F e,
    (
      scope f q,
      ap for_all_in (form_moved f F) ∙ for_all_form f (form_of F) ∙ ap (option_map (scope f)) e2,
      (
        fits_moved f D s t q.0 fits,
        (
          L,
          moved_goal f a,
          names_moved f l s a L n,
          one_moved f ps (assuming L (instance q.1 t) a) (assuming L (instance (T f q.1) (T f t)) (moved_goal f a)) is
              (assuming_moved f L (instance q.1 t) a ∙ ap (λ G. assuming L G (moved_goal f a)) (translate-instance f (λ (y : List ℕ). y) q.1 t)),
        ),
      ),
    ),
  )

  by_exists_right : (t : Read) (ps : List Sequent) → Takes (row D (any_name cells) (step.exists_right t) s) ps → Next (step.exists_right t) ps
  by_exists_right t ps (q, e, (fits, is)) = (
    scope f q,
    ap exists_in (form_moved f s.conclusion) ∙ exists_form f (form_of s.conclusion) ∙ ap (option_map (scope f)) e,
    (fits_moved f D s t q.0 fits, one_moved f ps (proving (instance q.1 t) s) (proving (instance (T f q.1) (T f t)) u) is (ap (λ G. proving G u) (translate-instance f (λ (y : List ℕ). y) q.1 t))),
  )

  by_exists_left : (H : List ℕ) (l : Label) (ps : List Sequent) → Takes (row D (any_name cells) (step.exists_left H l) s) ps → Next (step.exists_left H l) ps
  by_exists_left H l ps (F, e, (q, e2, (L, a, n, (p, (sup, new), is)))) =
      let x = raised (length cells) p.1 q.0 p.0 in
      let y = raised (length most) p.1 q.0 p.0 in (
        T f F,
        found_moved f s H F e,
        (
          scope f q,
          ap exists_in (form_moved f F) ∙ exists_form f (form_of F) ∙ ap (option_map (scope f)) e2,
          (
            L,
            moved_goal f a,
            names_without f l H s a L n,
            (
              p,
              (support_moved F p.0 sup, no_variable s u p.1 (same_names f s) new),
              one_moved f ps (assuming L (instance q.1 (applied x p.0)) (over x a)) (assuming L (instance (T f q.1) (applied y p.0)) (over y (moved_goal f a))) is
                  (assuming_moved f L (instance q.1 (applied x p.0)) (over x a)
                  ∙ ap (λ G. assuming L G (moved_goal f (over x a))) (body_next q.0 q.1 p.1 p.0)
                  ∙ ap (assuming L (instance (T f q.1) (applied y p.0))) (over_next q.0 q.1 p.1 p.0 a)),
            ),
          ),
        ),
      )

  by_nabla_right : (ps : List Sequent) → Takes (row D (any_name cells) step.nabla_right s) ps → Next step.nabla_right ps
  by_nabla_right ps (q, e, (n, least, is)) = (
    scope f q,
    ap nabla_in (form_moved f s.conclusion) ∙ nabla_form f (form_of s.conclusion) ∙ ap (option_map (scope f)) e,
    (
      n,
      least_name_moved f s s.conclusion q.0 n least,
      one_moved f ps (proving (instance q.1 (name_term (record { number = n; type = q.0 }))) s) (proving (instance (T f q.1) (name_term (record { number = n; type = q.0 }))) u) is
          (ap (λ G. proving G u) (constant_moved f q.1 (record { number = n; type = q.0 }))),
    ),
  )

  by_nabla_left : (H : List ℕ) (l : Label) (ps : List Sequent) → Takes (row D (any_name cells) (step.nabla_left H l) s) ps → Next (step.nabla_left H l) ps
  by_nabla_left H l ps (F, e, (q, e2, (L, a, m, (n, least, is)))) =
      let c : Nominal = record { number = n; type = q.0 } in (
        T f F,
        found_moved f s H F e,
        (
          scope f q,
          ap nabla_in (form_moved f F) ∙ nabla_form f (form_of F) ∙ ap (option_map (scope f)) e2,
          (
            L,
            moved_goal f a,
            names_without f l H s a L m,
            (
              n,
              least_name_moved f s F q.0 n least,
              one_moved f ps (assuming L (instance q.1 (name_term c)) a) (assuming L (instance (T f q.1) (name_term c)) (moved_goal f a)) is
                  (assuming_moved f L (instance q.1 (name_term c)) a ∙ ap (λ G. assuming L G (moved_goal f a)) (constant_moved f q.1 c)),
            ),
          ),
        ),
      )

  -- AN EQUATION is a case by itself
  equation_follows : (k : Sequent) (t v : Read) → Follows f (λ cs. one_equation cs k t v) (λ cs. one_equation cs (moved_goal f k) (T f t) (T f v))
  equation_follows k t v cs ds n = record {
    new = [];
    before_first = sym (append-nil cs);
    before_second = sym (append-nil ds);
    own = refl;
    equations = refl;
    flexible = flexible_moved f k.variables;
    goal = refl;
  }

  abbrev Outcome : Cells → Sequent → Read → Read → List Sequent → Type 0
  Outcome cs k t v ps = ((g : Sequent) × Becomes (λ j hint name. IsNoVariable j name) cs k t v g × (ps ≡ g ∷ [])) ⊎ (AreApart cs k t v × (ps ≡ []))

  by_names : (j k : Sequent) (hint name : List ℕ) → HaveSameNames j k → IsNoVariable j name → IsNoVariable k name
  by_names j k hint name same n = no_variable j k name same n

  apart_never : (cs : Cells) (k : Sequent) (t v : Read) → AreApart cs k t v → NeverArises (one_equation cs k t v)
  apart_never cs k t v a = subst (λ l. Solves (codes "x") (given (one_equation cs k t v).equations l (map in_terms k.variables)) apart) (sym (append-nil cs)) a

  outcome_moved : (k : Sequent) (t v : Read) (ps : List Sequent) → Outcome cells k t v ps → Outcome most (moved_goal f k) (T f t) (T f v) (map (moved_goal f) ps)
  outcome_moved k t v ps (inl (g, b, e)) =
      let N : Sequent → List ℕ → List ℕ → Type 0 = λ j hint name. IsNoVariable j name in
      let a = becomes_arises N cells k g t v b in
      let c = arises_moved f cells most r (one_equation cells k t v) (one_equation most (moved_goal f k) (T f t) (T f v)) (equation_follows k t v cells most r) N by_names (b.0 ++ map cell_for b.3.0) g a in
      inl (moved_goal f g, arises_becomes N most (moved_goal f k) (moved_goal f g) (T f t) (T f v) (most ++ c.0) c.2, ap (map (moved_goal f)) e)
  outcome_moved k t v ps (inr (a, e)) =
      inr (never_apart most (moved_goal f k) (T f t) (T f v) (never_moved f cells most r (one_equation cells k t v) (one_equation most (moved_goal f k) (T f t) (T f v)) (equation_follows k t v cells most r) (apart_never cells k t v a)), ap (map (moved_goal f)) e)

  by_equal_left : (H : List ℕ) (ps : List Sequent) → Takes (row D (any_name cells) (step.equal_left H) s) ps → Next (step.equal_left H) ps
  by_equal_left H ps (F, e, (p, e2, o)) = (
    T f F,
    found_moved f s H F e,
    (
      pair f p,
      ap equal_in (form_moved f F) ∙ equal_form f (form_of F) ∙ ap (option_map (pair f)) e2,
      subst (λ k. Outcome most k (T f p.0) (T f p.1) (map (moved_goal f) ps)) (without_moved f H s) (outcome_moved (without H s) p.0 p.1 ps o),
    ),
  )

  -- DEFINITIONS

  same_sign : (x : Subject) → sign_of (moved_subject f x) ≡ sign_of x
  same_sign (Subject.an_atom d) = refl
  same_sign (Subject.a_judgement j rs) = refl

  by_definition_left : (H : List ℕ) (l : Label) (ps : List Sequent) → Takes (row D (any_name cells) (step.definition_left H l) s) ps → Next (step.definition_left H l) ps
  by_definition_left H l ps (F, e, (x, e2, (may, (L, a, n, split)))) =
      let N : Sequent → List ℕ → List ℕ → Type 0 = λ j hint name. IsNoVariable j name in
      let good = good_subject D sound.definitions sound.programs F x e2 in (
        T f F,
        found_moved f s H F e,
        (
          moved_subject f x,
          subject_moved f D F ∙ ap (option_map (moved_subject f)) e2,
          (
            subst MayBeAnalysed (sym (same_sign x)) may,
            (L, moved_goal f a, names_without f l H s a L n, split_moved f N by_names cells most r (cases_by s a L x) (cases_by u (moved_goal f a) L (moved_subject f x)) (cases_follow f s a L x good) ps split),
          ),
        ),
      )

  by_definition_right : (i : ℕ) (ps : List Sequent) → Takes (row D (any_name cells) (step.definition_right i) s) ps → Next (step.definition_right i) ps
  by_definition_right i ps (x, e, (may, (w, at, (more, answer, solved, is)))) =
      let good = good_subject D sound.definitions sound.programs s.conclusion x e in
      let v = way_moved f agree s x i w good at in
      let c = w.case cells in
      let d = v.0.case most in
      let m = v.2.case cells most r in
      let others = (d.before ++ d.own) ++ drop (length (c.before ++ c.own)) more in
      let pairs = renumbered_pairs f answer in
      let body : T f (image same_number answer c.goal.conclusion) ≡ image same_number pairs d.goal.conclusion =
      translate-image f (λ (y : List ℕ). y) same_number same_number agree answer c.goal.conclusion ∙ ap (λ (g : Sequent). image same_number pairs g.conclusion) m.goal in
      let after : T f (conclusion_then c w.closed more answer) ≡ conclusion_then d v.0.closed others pairs =
      v.2.closes (made c.before more answer) (image same_number answer c.goal.conclusion)
      ∙ ap (λ ys. v.0.closed ys (T f (image same_number answer c.goal.conclusion))) (sym (made_answered f cells most r c d m more answer solved))
      ∙ ap (v.0.closed (made d.before others pairs)) body in (
        moved_subject f x,
        subject_moved f D s.conclusion ∙ ap (option_map (moved_subject f)) e,
        (
          subst MayBeUnfolded (sym (same_sign x)) may,
          (
            v.0,
            v.1,
            (
              others,
              pairs,
              solved_moved f cells most r c d m (unified more answer) solved,
              one_moved f ps (proving (conclusion_then c w.closed more answer) s) (proving (conclusion_then d v.0.closed others pairs) u) is (ap (λ G. proving G u) after),
            ),
          ),
        ),
      )

  -- INDUCTION

  by_induction : (ns : List ℕ) (ls : List Label) (ps : List Sequent) → Takes (row D (any_name cells) (step.induction ns ls) s) ps → Next (step.induction ns ls) ps
  by_induction ns ls ps (ms, e, (all, h)) =
      let Fs = conjuncts s.conclusion in
      let i = next_level inductive_level s in
      let same = conjuncts_told f s.conclusion in
      let level = level_told f inductive_level s in
      let stars : marked_antecedents ns (star_of (next_level inductive_level u)) (conjuncts u.conclusion) ≡ map (T f) (marked_antecedents ns (star_of i) Fs) =
      ap (λ n. marked_antecedents ns (star_of n) (conjuncts u.conclusion)) level ∙ ap (marked_antecedents ns (star_of i)) same ∙ marked_antecedents_told f ns (star_of i) Fs in
      let ats : marked_antecedents ns (at_of (next_level inductive_level u)) (conjuncts u.conclusion) ≡ map (T f) (marked_antecedents ns (at_of i) Fs) =
      ap (λ n. marked_antecedents ns (at_of n) (conjuncts u.conclusion)) level ∙ ap (marked_antecedents ns (at_of i)) same ∙ marked_antecedents_told f ns (at_of i) Fs in
      let C = with_parts (marked_antecedents ns (at_of i) Fs) s.conclusion in
      let conclusion : with_parts (marked_antecedents ns (at_of (next_level inductive_level u)) (conjuncts u.conclusion)) u.conclusion ≡ T f C =
      ap (λ Gs. with_parts Gs u.conclusion) ats ∙ with_parts_told f (marked_antecedents ns (at_of i) Fs) s.conclusion in
      let k : Sequent → Row = λ t. Row.leads (proving (with_parts (marked_antecedents ns (at_of (next_level inductive_level u)) (conjuncts u.conclusion)) u.conclusion) t ∷ []) in (
        ms,
        ap (inductive_signs D ns) same ∙ inductive_signs_told f D ns Fs ∙ e,
        (
          all,
          subst (λ Gs. Takes (labelled_each 3 ls Gs u k) (map (moved_goal f) ps)) (sym stars)
              (each_moved f ls (marked_antecedents ns (star_of i) Fs) s (λ t. Row.leads (proving C t ∷ [])) k ps
              (λ t q. one_moved f ps (proving C t) (proving (with_parts (marked_antecedents ns (at_of (next_level inductive_level u)) (conjuncts u.conclusion)) u.conclusion) (moved_goal f t)) q (ap (λ G. proving G (moved_goal f t)) (sym conclusion))) h),
        ),
      )

  by_coinduction : (ls : List Label) (ps : List Sequent) → Takes (row D (any_name cells) (step.coinduction ls) s) ps → Next (step.coinduction ls) ps
  by_coinduction ls ps (ms, e, (all, h)) =
      let Fs = conjuncts s.conclusion in
      let i = next_level coinductive_level s in
      let same = conjuncts_told f s.conclusion in
      let level = level_told f coinductive_level s in
      let pluses : marked_consequents (plus_of (next_level coinductive_level u)) (conjuncts u.conclusion) ≡ map (T f) (marked_consequents (plus_of i) Fs) =
      ap (λ n. marked_consequents (plus_of n) (conjuncts u.conclusion)) level ∙ ap (marked_consequents (plus_of i)) same ∙ marked_consequents_told f (plus_of i) Fs in
      let hashes : marked_consequents (hash_of (next_level coinductive_level u)) (conjuncts u.conclusion) ≡ map (T f) (marked_consequents (hash_of i) Fs) =
      ap (λ n. marked_consequents (hash_of n) (conjuncts u.conclusion)) level ∙ ap (marked_consequents (hash_of i)) same ∙ marked_consequents_told f (hash_of i) Fs in
      let C = with_parts (marked_consequents (hash_of i) Fs) s.conclusion in
      let conclusion : with_parts (marked_consequents (hash_of (next_level coinductive_level u)) (conjuncts u.conclusion)) u.conclusion ≡ T f C =
      ap (λ Gs. with_parts Gs u.conclusion) hashes ∙ with_parts_told f (marked_consequents (hash_of i) Fs) s.conclusion in
      let k : Sequent → Row = λ t. Row.leads (proving (with_parts (marked_consequents (hash_of (next_level coinductive_level u)) (conjuncts u.conclusion)) u.conclusion) t ∷ []) in (
        ms,
        ap (coinductive_signs D) same ∙ coinductive_signs_told f D Fs ∙ e,
        (
          all,
          subst (λ Gs. Takes (labelled_each 3 ls Gs u k) (map (moved_goal f) ps)) (sym pluses)
              (each_moved f ls (marked_consequents (plus_of i) Fs) s (λ t. Row.leads (proving C t ∷ [])) k ps
              (λ t q. one_moved f ps (proving C t) (proving (with_parts (marked_consequents (hash_of (next_level coinductive_level u)) (conjuncts u.conclusion)) u.conclusion) (moved_goal f t)) q (ap (λ G. proving G (moved_goal f t)) (sym conclusion))) h),
        ),
      )

  -- CUTS

  by_cut : (F : Read) (l : Label) (ps : List Sequent) → Takes (row D (any_name cells) (step.cut_formula F l) s) ps → Next (step.cut_formula F l) ps
  by_cut F l ps ((fits, formula), (L, a, n, q)) = (
    (fits_moved f D s F prop fits, formula_told f (signature_in D) F formula),
    (L, moved_goal f a, names_moved f l s a L n, two_moved f ps (proving F s) (proving (T f F) u) (assuming L F a) (assuming L (T f F) (moved_goal f a)) q refl (assuming_moved f L F a)),
  )

  by_theorem : (n : List ℕ) (l : Label) (ps : List Sequent) → Takes (row D (any_name cells) (step.use_theorem n l) s) ps → Next (step.use_theorem n l) ps
  by_theorem n l ps (F, e, (L, a, k, q)) =
      let sentence = sound.sentences n F e in
      let own : T f F ≡ F =
      translate_agrees f (λ i. i) (λ (x : List ℕ). x) F (λ y c. absurd (Contains-none y (subst (λ l. Contains l y) sentence.closed c))) ∙ term_itself F in
      (F, e, (L, moved_goal f a, names_moved f l s a L k, one_moved f ps (assuming L F a) (assuming L F (moved_goal f a)) q (assuming_moved f L F a ∙ ap (λ G. assuming L G (moved_goal f a)) own)))

  judged : (L G : Read) → T f (marked_judgement plain L G) ≡ marked_judgement plain (T f L) (T f G)
  judged L G = refl

  unfocused_moved : (F : Read) (p : Read × Read) → as_unfocused F ≡ Some p → as_unfocused (T f F) ≡ Some (pair_told f p)
  unfocused_moved F p e = unfocused_told f F ∙ ap (option_map (pair_told f)) e

  by_spec_cut : (H K : List ℕ) (l : Label) (ps : List Sequent) → Takes (row D (any_name cells) (step.spec_cut H K l) s) ps → Next (step.spec_cut H K l) ps
  by_spec_cut H K l ps (F, eF, (G, eG, (p, ep, (q, eq, (L, eL, (x, a, n, is)))))) = (
    T f F,
    found_moved f s H F eF,
    (
      T f G,
      found_moved f s K G eG,
      (
        pair_told f p,
        unfocused_moved F p ep,
        (
          pair_told f q,
          unfocused_moved G q eq,
          (
            T f L,
            cut_moved f agree p.0 q.1 q.0 ∙ ap (option_map (T f)) eL,
            (x, moved_goal f a, names_moved f l s a x n, one_moved f ps (assuming x (marked_judgement plain L p.1) a) (assuming x (marked_judgement plain (T f L) (T f p.1)) (moved_goal f a)) is (assuming_moved f x (marked_judgement plain L p.1) a)),
          ),
        ),
      ),
    ),
  )

  by_spec_instance : (H : List ℕ) (rs : List (Nominal × Read)) (l : Label) (ps : List Sequent) → Takes (row D (any_name cells) (step.spec_instance H rs l) s) ps → Next (step.spec_instance H rs l) ps
  by_spec_instance H rs l ps (F, e, (p, e2, (may, (fit, (x, a, n, is))))) =
      let G = marked_judgement plain p.0 p.1 in
      let others = map (replacement_told f) rs in
      let names : List (Nominal × Read) → List Nominal = map (λ (r : Nominal × Read). r.0) in
      let may_too : MayBeReplaced (T f G) (names others) = record {
        differ = subst (AllPairs (λ a b. a ≢ b)) (sym (constants_told f rs)) may.differ;
        there =
            subst (All (Contains (support (T f G)))) (sym (constants_told f rs))
            (subst (λ ns. All (Contains ns) (names rs)) (sym (support-translate f (λ (y : List ℕ). y) G)) may.there);
      } in (
        T f F,
        found_moved f s H F e,
        (
          pair_told f p,
          unfocused_moved F p e2,
          (
            may_too,
            (
              all_fit_moved f D s [] [] refl rs fit,
              (
                x,
                moved_goal f a,
                names_moved f l s a x n,
                one_moved f ps (assuming x (replace_constants rs G) a) (assuming x (replace_constants others (T f G)) (moved_goal f a)) is
                    (assuming_moved f x (replace_constants rs G) a ∙ ap (λ E. assuming x E (moved_goal f a)) (replaced_told f rs G)),
              ),
            ),
          ),
        ),
      )

  by_spec_monotone : (H : List ℕ) (K : Read) (l : Label) (ps : List Sequent) → Takes (row D (any_name cells) (step.spec_monotone H K l) s) ps → Next (step.spec_monotone H K l) ps
  by_spec_monotone H K l ps (F, e, (p, e2, (fits, (x, a, n, is)))) = (
    T f F,
    found_moved f s H F e,
    (
      pair_told f p,
      unfocused_moved F p e2,
      (
        fits_moved f D s K olist fits,
        (
          x,
          moved_goal f a,
          names_moved f l s a x n,
          two_moved f ps (proving (is_within p.0 K) s) (proving (is_within (T f p.0) (T f K)) u) (assuming x (marked_judgement plain K p.1) a) (assuming x (marked_judgement plain (T f K) (T f p.1)) (moved_goal f a)) is
              (ap (λ G. proving G u) (within_told f p.0 K)) (assuming_moved f x (marked_judgement plain K p.1) a),
        ),
      ),
    ),
  )

  -- EACH RULE
  pub rule_moved : (k : Step) (ps : List Sequent) → Takes (row D (any_name cells) k s) ps → Next k ps
  rule_moved (step.initial H) ps h = by_initial H ps h
  rule_moved step.true_right ps h = (h.0, ap truth_in (form_moved f s.conclusion) ∙ truth_form f (form_of s.conclusion) ∙ h.1, ap (map (moved_goal f)) h.2)
  rule_moved (step.false_left H) ps (F, e, (t, e2, q)) = (T f F, found_moved f s H F e, (t, ap falsity_in (form_moved f F) ∙ falsity_form f (form_of F) ∙ e2, ap (map (moved_goal f)) q))
  rule_moved step.and_right ps h = (pair f h.0, ap both_in (form_moved f s.conclusion) ∙ both_form f (form_of s.conclusion) ∙ ap (option_map (pair f)) h.1, ap (map (moved_goal f)) h.2)
  rule_moved (step.and_left H l m) ps h = by_and_left H l m ps h
  rule_moved (step.or_right b) ps h = by_or_right b ps h
  rule_moved (step.or_left H l) ps h = by_or_left H l ps h
  rule_moved (step.arrow_right l) ps h = by_arrow_right l ps h
  rule_moved (step.arrow_left H l) ps h = by_arrow_left H l ps h
  rule_moved step.for_all_right ps h = by_for_all_right ps h
  rule_moved (step.for_all_left H t l) ps h = by_for_all_left H t l ps h
  rule_moved (step.exists_right t) ps h = by_exists_right t ps h
  rule_moved (step.exists_left H l) ps h = by_exists_left H l ps h
  rule_moved step.nabla_right ps h = by_nabla_right ps h
  rule_moved (step.nabla_left H l) ps h = by_nabla_left H l ps h
  rule_moved step.equal_right ps (p, e, (same, q)) =
      (pair f p, ap equal_in (form_moved f s.conclusion) ∙ equal_form f (form_of s.conclusion) ∙ ap (option_map (pair f)) e, (past_hints_moved f p.0 p.1 same, ap (map (moved_goal f)) q))
  rule_moved (step.equal_left H) ps h = by_equal_left H ps h
  rule_moved (step.definition_right i) ps h = by_definition_right i ps h
  rule_moved (step.definition_left H l) ps h = by_definition_left H l ps h
  rule_moved (step.induction ns ls) ps h = by_induction ns ls ps h
  rule_moved (step.coinduction ls) ps h = by_coinduction ls ps h
  rule_moved (step.cut_formula F l) ps h = by_cut F l ps h
  rule_moved (step.use_theorem n l) ps h = by_theorem n l ps h
  rule_moved (step.weaken H) ps (F, e, q) = (T f F, found_moved f s H F e, one_moved f ps (without H s) (without H u) q (without_moved f H s))
  rule_moved (step.spec_cut H K l) ps h = by_spec_cut H K l ps h
  rule_moved (step.spec_instance H rs l) ps h = by_spec_instance H rs l ps h
  rule_moved (step.spec_monotone H K l) ps h = by_spec_monotone H K l ps h
  rule_moved step.skip ps h = ap (map (moved_goal f)) h
