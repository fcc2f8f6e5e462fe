-- The marks of formulas with other numbers, and what induction and coinduction make of such formulas.
use Rattle.std.proofs.Common.{◌≡◌, ℕ, zero, suc, List, [], ◌∷◌, ◌++◌, map, Bool, true, false, Option, Some, None, option_map, refl, ◌∙◌, ap}
use Rattle.ab_term.specs.Logical as plain
use Rattle.ab_term.specs.Logical.{universal, implication}
use Rattle.ab_term.specs.Terms.{Head, constant, logical, nominal, variable, index, lam, spine, Terms, no_terms, term, Read}
use Rattle.ab_term.specs.Translation.{translate_head, translate_all}
use Rattle.ab_formulas.specs.Declarations.{Declarations}
use Rattle.ab_formulas.specs.Forms as form
use Rattle.ab_formulas.specs.Forms.{Form, form_of}
use Rattle.ab_formulas.specs.Marks as marks
use Rattle.ab_formulas.specs.Marks.{Sign, star_of, at_of, plus_of, hash_of, Marks, marks_of_head, marked, Making, by_head, by_scope, by_parts, by_mark, making_of, marks_made, marks_of, marks_of_all}
use Rattle.ab_formulas.specs.Sequents.{Hypothesis, Sequent, formulas}
use Rattle.ab_formulas.specs.BodyMarks.{with_mark}
use Rattle.ab_theory.specs.Atoms.{Defined, defined_atom}
use Rattle.ab_theory.specs.Judgements.{judgement_as, judgement_in, as_judgement}
use Rattle.ab_theory.specs.Induction.{matrix, antecedent, consequent, defined_so, judgement_or, sign_in, inductive_at, coinductive_in, sign_and, inductive_signs, coinductive_signs, in_matrix, in_antecedent, in_consequent, marked_antecedent, marked_consequent, marked_antecedents, marked_consequents}
use Rattle.ab_theory.specs.Levels.{signs_in, signs_of_all, greatest, next_level}
use Rattle.ab_effects.proofs.Following.{moved_atom}
use Rattle.ab_effects.proofs.MovedSubjects.{atom_moved}
use Rattle.ab_determinism.proofs.Renumbered.{renumber, renumber_hypothesis, renumbered}
use Rattle.ab_determinism.proofs.Retold.{form_told, form_retold}

module _ (f : ℕ → ℕ) where
  abbrev all : Terms ℕ (List ℕ) → Terms ℕ (List ℕ)
  all = translate_all f (λ h. h)

  -- MARKS

  making_told : (h : Head ℕ) → making_of (translate_head f h) ≡ making_of h
  making_told (constant c) = refl
  making_told (logical l) = refl
  making_told (nominal a) = refl
  making_told (variable x) = refl
  making_told (index i) = refl

  head_told : (m : Sign) (h : Head ℕ) → marks_of_head m (translate_head f h) ≡ marks_of_head m h
  head_told m (constant c) = refl
  head_told m (logical l) = refl
  head_told m (nominal a) = refl
  head_told m (variable x) = refl
  head_told m (index i) = refl

  marked_told : (m : Sign) (t : Read) → marked m (renumber f t) ≡ marked m t
  marked_told m (lam A x t) = refl
  marked_told m (spine h ts) = head_told m h

  made_told : (k : Making) (h : Head ℕ) (ts : Terms ℕ (List ℕ)) (ms : List Marks) → marks_made k (translate_head f h) (all ts) ms ≡ marks_made k h ts ms
  made_told by_head h ts ms = head_told marks.plain h
  made_told (by_mark m) h no_terms ms = refl
  made_told (by_mark m) h (term t ts) ms = marked_told m t
  made_told by_scope h ts [] = refl
  made_told by_scope h ts (m ∷ []) = refl
  made_told by_scope h ts (m ∷ n ∷ ms) = refl
  made_told by_parts h ts [] = refl
  made_told by_parts h ts (m ∷ []) = refl
  made_told by_parts h ts (m ∷ n ∷ []) = refl
  made_told by_parts h ts (m ∷ n ∷ k ∷ ms) = refl

  mutual
    pub marks_told : (t : Read) → marks_of (renumber f t) ≡ marks_of t
    marks_told (lam A x t) = marks_told t
    marks_told (spine h ts) =
        ap (λ k. marks_made k (translate_head f h) (all ts) (marks_of_all (all ts))) (making_told h)
        ∙ ap (marks_made (making_of h) (translate_head f h) (all ts)) (all_marks_told ts)
        ∙ made_told (making_of h) h ts (marks_of_all ts)

    all_marks_told : (ts : Terms ℕ (List ℕ)) → marks_of_all (all ts) ≡ marks_of_all ts
    all_marks_told no_terms = refl
    all_marks_told (term t ts) = ap (λ m. m ∷ marks_of_all (all ts)) (marks_told t) ∙ ap (λ ms. marks_of t ∷ ms) (all_marks_told ts)

  -- LEVELS

  signs_told : (hs : List Hypothesis) → signs_of_all (formulas (map (renumber_hypothesis f) hs)) ≡ signs_of_all (formulas hs)
  signs_told [] = refl
  signs_told (h ∷ hs) =
      ap (λ m. signs_in m ++ signs_of_all (formulas (map (renumber_hypothesis f) hs))) (marks_told h.formula)
      ∙ ap (λ ms. signs_in (marks_of h.formula) ++ ms) (signs_told hs)

  pub level_told : (level : Sign → ℕ) (s : Sequent) → next_level level (renumbered f s) ≡ next_level level s
  level_told level s =
      ap (λ m. suc (greatest level (signs_in m ++ signs_of_all (formulas (map (renumber_hypothesis f) s.hypotheses))))) (marks_told s.conclusion)
      ∙ ap (λ ms. suc (greatest level (signs_in (marks_of s.conclusion) ++ ms))) (signs_told s.hypotheses)

  -- PLACES

  pub mark_told : (m : Sign) (t : Read) → with_mark m (renumber f t) ≡ renumber f (with_mark m t)
  mark_told marks.plain t = refl
  mark_told (star_of i) t = refl
  mark_told (at_of i) t = refl
  mark_told (plus_of i) t = refl
  mark_told (hash_of i) t = refl

  matrix_told : (F : Read) → matrix (renumber f F) ≡ renumber f (matrix F)
  matrix_told (spine (logical (universal A)) (term (lam B x t) no_terms)) = matrix_told t
  matrix_told (spine (logical (plain.nabla A)) (term (lam B x t) no_terms)) = matrix_told t
  matrix_told F = refl

  antecedent_told : (n : ℕ) (F : Read) → antecedent n (renumber f F) ≡ option_map (renumber f) (antecedent n F)
  antecedent_told (suc zero) (spine (logical implication) (term A (term B no_terms))) = refl
  antecedent_told (suc (suc n)) (spine (logical implication) (term A (term B no_terms))) = antecedent_told (suc n) B
  antecedent_told n F = refl

  consequent_told : (F : Read) → consequent (renumber f F) ≡ renumber f (consequent F)
  consequent_told (spine (logical implication) (term A (term B no_terms))) = consequent_told B
  consequent_told F = refl

  so_told : (b : Bool) (o : Option Defined) → defined_so b (option_map (moved_atom f) o) ≡ defined_so b o
  so_told b None = refl
  so_told true (Some d) = refl
  so_told false (Some d) = refl

  judged_told : (m : Sign) (t : Read) (o : Option Sign) → judgement_or (judgement_as m (renumber f t)) o ≡ judgement_or (judgement_as m t) o
  judged_told m (spine (logical plain.judgement) (term L (term G no_terms))) o = refl
  judged_told m (spine (logical plain.focused_judgement) (term L (term F (term A no_terms)))) o = refl
  judged_told m t o = refl

  judged_in : (g : Form) (F : Read) (o : Option Sign) → judgement_or (judgement_in (form_told f g) (renumber f F)) o ≡ judgement_or (judgement_in g F) o
  judged_in (form.marked m A) F o = judged_told m A o
  judged_in form.other F o = judged_told marks.plain F o
  judged_in form.truth F o = refl
  judged_in form.falsity F o = refl
  judged_in (form.both A B) F o = refl
  judged_in (form.either A B) F o = refl
  judged_in (form.implies A B) F o = refl
  judged_in (form.equal A t u) F o = refl
  judged_in (form.for_all A t) F o = refl
  judged_in (form.exists A t) F o = refl
  judged_in (form.nabla A t) F o = refl

  in_told : (D : Declarations) (o : Option Read) → sign_in D (option_map (renumber f) o) ≡ sign_in D o
  in_told D None = refl
  in_told D (Some A) =
      ap (λ g. judgement_or (judgement_in g (renumber f A)) (defined_so true (defined_atom D (renumber f A)))) (form_retold f A)
      ∙ judged_in (form_of A) A (defined_so true (defined_atom D (renumber f A)))
      ∙ ap (λ d. judgement_or (as_judgement A) (defined_so true d)) (atom_moved f D A)
      ∙ ap (judgement_or (as_judgement A)) (so_told true (defined_atom D A))

  inductive_told : (D : Declarations) (n : ℕ) (F : Read) → inductive_at D n (renumber f F) ≡ inductive_at D n F
  inductive_told D n F = ap (λ G. sign_in D (antecedent n G)) (matrix_told F) ∙ ap (sign_in D) (antecedent_told n (matrix F)) ∙ in_told D (antecedent n (matrix F))

  coinductive_told : (D : Declarations) (F : Read) → coinductive_in D (renumber f F) ≡ coinductive_in D F
  coinductive_told D F =
      ap (λ G. defined_so false (defined_atom D (consequent G))) (matrix_told F)
      ∙ ap (λ G. defined_so false (defined_atom D G)) (consequent_told (matrix F))
      ∙ ap (defined_so false) (atom_moved f D (consequent (matrix F)))
      ∙ so_told false (defined_atom D (consequent (matrix F)))

  pub inductive_signs_told : (D : Declarations) (ns : List ℕ) (Fs : List Read) → inductive_signs D ns (map (renumber f) Fs) ≡ inductive_signs D ns Fs
  inductive_signs_told D [] [] = refl
  inductive_signs_told D (n ∷ ns) (F ∷ Fs) =
      ap (λ o. sign_and o (inductive_signs D ns (map (renumber f) Fs))) (inductive_told D n F) ∙ ap (sign_and (inductive_at D n F)) (inductive_signs_told D ns Fs)
  inductive_signs_told D [] (F ∷ Fs) = refl
  inductive_signs_told D (n ∷ ns) [] = refl

  pub coinductive_signs_told : (D : Declarations) (Fs : List Read) → coinductive_signs D (map (renumber f) Fs) ≡ coinductive_signs D Fs
  coinductive_signs_told D [] = refl
  coinductive_signs_told D (F ∷ Fs) =
      ap (λ o. sign_and o (coinductive_signs D (map (renumber f) Fs))) (coinductive_told D F) ∙ ap (sign_and (coinductive_in D F)) (coinductive_signs_told D Fs)

  -- WITH A MARK

  in_matrix_told : (g : Read → Read) → ((F : Read) → g (renumber f F) ≡ renumber f (g F)) → (F : Read) → in_matrix g (renumber f F) ≡ renumber f (in_matrix g F)
  in_matrix_told g told (spine (logical (universal A)) (term (lam B x t) no_terms)) = ap (λ b. spine (logical (universal A)) (term (lam B x b) no_terms)) (in_matrix_told g told t)
  in_matrix_told g told (spine (logical (plain.nabla A)) (term (lam B x t) no_terms)) = ap (λ b. spine (logical (plain.nabla A)) (term (lam B x b) no_terms)) (in_matrix_told g told t)
  in_matrix_told g told F = told F

  in_antecedent_told : (m : Sign) (n : ℕ) (F : Read) → in_antecedent (with_mark m) n (renumber f F) ≡ renumber f (in_antecedent (with_mark m) n F)
  in_antecedent_told m (suc zero) (spine (logical implication) (term A (term B no_terms))) = ap (λ C. spine (logical implication) (term C (term (renumber f B) no_terms))) (mark_told m A)
  in_antecedent_told m (suc (suc n)) (spine (logical implication) (term A (term B no_terms))) = ap (λ C. spine (logical implication) (term (renumber f A) (term C no_terms))) (in_antecedent_told m (suc n) B)
  in_antecedent_told m n F = refl

  in_consequent_told : (m : Sign) (F : Read) → in_consequent (with_mark m) (renumber f F) ≡ renumber f (in_consequent (with_mark m) F)
  in_consequent_told m (spine (logical implication) (term A (term B no_terms))) = ap (λ C. spine (logical implication) (term (renumber f A) (term C no_terms))) (in_consequent_told m B)
  in_consequent_told m F = mark_told m F

  marked_antecedent_told : (n : ℕ) (m : Sign) (F : Read) → marked_antecedent n m (renumber f F) ≡ renumber f (marked_antecedent n m F)
  marked_antecedent_told n m F = in_matrix_told (in_antecedent (with_mark m) n) (in_antecedent_told m n) F

  marked_consequent_told : (m : Sign) (F : Read) → marked_consequent m (renumber f F) ≡ renumber f (marked_consequent m F)
  marked_consequent_told m F = in_matrix_told (in_consequent (with_mark m)) (in_consequent_told m) F

  pub marked_antecedents_told : (ns : List ℕ) (m : Sign) (Fs : List Read) → marked_antecedents ns m (map (renumber f) Fs) ≡ map (renumber f) (marked_antecedents ns m Fs)
  marked_antecedents_told (n ∷ ns) m (F ∷ Fs) =
      ap (λ G. G ∷ marked_antecedents ns m (map (renumber f) Fs)) (marked_antecedent_told n m F) ∙ ap (λ Gs. renumber f (marked_antecedent n m F) ∷ Gs) (marked_antecedents_told ns m Fs)
  marked_antecedents_told [] m Fs = refl
  marked_antecedents_told (n ∷ ns) m [] = refl

  pub marked_consequents_told : (m : Sign) (Fs : List Read) → marked_consequents m (map (renumber f) Fs) ≡ map (renumber f) (marked_consequents m Fs)
  marked_consequents_told m [] = refl
  marked_consequents_told m (F ∷ Fs) =
      ap (λ G. G ∷ marked_consequents m (map (renumber f) Fs)) (marked_consequent_told m F) ∙ ap (λ Gs. renumber f (marked_consequent m F) ∷ Gs) (marked_consequents_told m Fs)
