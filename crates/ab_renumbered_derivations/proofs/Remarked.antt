-- What induction and coinduction make of formulas with other numbers.
use Rattle.std.proofs.Common.{◌≡◌, ℕ, zero, suc, List, [], ◌∷◌, ◌++◌, map, length, drop, Bool, true, false, Option, Some, None, option_map, refl, sym, ◌∙◌, ap}
use Rattle.std.proofs.lemmas.List.{length-map, drop-map}
use Rattle.ab_term.specs.Logical as plain
use Rattle.ab_term.specs.Logical.{universal, implication, conjunction}
use Rattle.ab_term.specs.Terms.{logical, lam, spine, no_terms, term, Read}
use Rattle.ab_term.proofs.Translations.{map-append}
use Rattle.ab_formulas.specs.Declarations.{Declarations}
use Rattle.ab_formulas.specs.Forms as form
use Rattle.ab_formulas.specs.Forms.{Form, form_of}
use Rattle.ab_formulas.specs.Marks as marks
use Rattle.ab_formulas.specs.Marks.{Sign, star_of, at_of, plus_of, hash_of, marks_of}
use Rattle.ab_formulas.specs.Sequents.{Hypothesis, Sequent, formulas}
use Rattle.ab_formulas.specs.BodyMarks.{with_mark}
use Rattle.ab_theory.specs.Atoms.{Defined, defined_atom}
use Rattle.ab_theory.specs.Conjuncts.{conjuncts, with_parts}
use Rattle.ab_theory.specs.Judgements.{judgement_as, judgement_in, as_judgement}
use Rattle.ab_theory.specs.Induction.{matrix, antecedent, consequent, defined_so, judgement_or, sign_in, inductive_at, coinductive_in, sign_and, inductive_signs, coinductive_signs, in_matrix, in_antecedent, in_consequent, marked_antecedent, marked_consequent, marked_antecedents, marked_consequents}
use Rattle.ab_theory.specs.Levels.{signs_in, signs_of_all, greatest, next_level}
use Rattle.ab_effects.proofs.Following.{moved_atom}
use Rattle.ab_effects.proofs.Renumbered.{moved_hypothesis, moved_goal}
use Rattle.ab_search_trees.proofs.MovedForms.{T, form_renumbered, form_moved, marks_same, atom_moved}

module _ (f : ℕ → ℕ) where
  -- PARTS

  pub conjuncts_told : (F : Read) → conjuncts (T f F) ≡ map (T f) (conjuncts F)
  conjuncts_told (spine (logical conjunction) (term A (term B no_terms))) =
      ap (λ l. l ++ conjuncts (T f B)) (conjuncts_told A) ∙ ap (λ l. map (T f) (conjuncts A) ++ l) (conjuncts_told B) ∙ sym (map-append (T f) (conjuncts A) (conjuncts B))
  conjuncts_told F = refl

  pub with_parts_told : (Gs : List Read) (F : Read) → with_parts (map (T f) Gs) (T f F) ≡ T f (with_parts Gs F)
  with_parts_told Gs (spine (logical conjunction) (term A (term B no_terms))) =
      let n = length (conjuncts A) in
      let same : length (conjuncts (T f A)) ≡ n = ap length (conjuncts_told A) ∙ length-map (conjuncts A) (T f) in
      let left : with_parts (map (T f) Gs) (T f A) ≡ T f (with_parts Gs A) = with_parts_told Gs A in
      let right : with_parts (drop (length (conjuncts (T f A))) (map (T f) Gs)) (T f B) ≡ T f (with_parts (drop n Gs) B) =
      ap (λ k. with_parts (drop k (map (T f) Gs)) (T f B)) same ∙ ap (λ Hs. with_parts Hs (T f B)) (drop-map (T f) n Gs) ∙ with_parts_told (drop n Gs) B in
      ap (λ C. spine (logical conjunction) (term C (term (with_parts (drop (length (conjuncts (T f A))) (map (T f) Gs)) (T f B)) no_terms))) left
      ∙ ap (λ C. spine (logical conjunction) (term (T f (with_parts Gs A)) (term C no_terms))) right
  with_parts_told (G ∷ Gs) F = refl
  with_parts_told [] F = refl

  -- LEVELS

  signs_told : (hs : List Hypothesis) → signs_of_all (formulas (map (moved_hypothesis f) hs)) ≡ signs_of_all (formulas hs)
  signs_told [] = refl
  signs_told (h ∷ hs) =
      ap (λ m. signs_in m ++ signs_of_all (formulas (map (moved_hypothesis f) hs))) (marks_same f h.formula)
      ∙ ap (λ ms. signs_in (marks_of h.formula) ++ ms) (signs_told hs)

  pub level_told : (level : Sign → ℕ) (s : Sequent) → next_level level (moved_goal f s) ≡ next_level level s
  level_told level s =
      ap (λ m. suc (greatest level (signs_in m ++ signs_of_all (formulas (map (moved_hypothesis f) s.hypotheses))))) (marks_same f s.conclusion)
      ∙ ap (λ ms. suc (greatest level (signs_in (marks_of s.conclusion) ++ ms))) (signs_told s.hypotheses)

  -- PLACES

  pub mark_told : (m : Sign) (t : Read) → with_mark m (T f t) ≡ T f (with_mark m t)
  mark_told marks.plain t = refl
  mark_told (star_of i) t = refl
  mark_told (at_of i) t = refl
  mark_told (plus_of i) t = refl
  mark_told (hash_of i) t = refl

  matrix_told : (F : Read) → matrix (T f F) ≡ T f (matrix F)
  matrix_told (spine (logical (universal A)) (term (lam B x t) no_terms)) = matrix_told t
  matrix_told (spine (logical (plain.nabla A)) (term (lam B x t) no_terms)) = matrix_told t
  matrix_told F = refl

  antecedent_told : (n : ℕ) (F : Read) → antecedent n (T f F) ≡ option_map (T f) (antecedent n F)
  antecedent_told (suc zero) (spine (logical implication) (term A (term B no_terms))) = refl
  antecedent_told (suc (suc n)) (spine (logical implication) (term A (term B no_terms))) = antecedent_told (suc n) B
  antecedent_told n F = refl

  consequent_told : (F : Read) → consequent (T f F) ≡ T f (consequent F)
  consequent_told (spine (logical implication) (term A (term B no_terms))) = consequent_told B
  consequent_told F = refl

  so_told : (b : Bool) (o : Option Defined) → defined_so b (option_map (moved_atom f) o) ≡ defined_so b o
  so_told b None = refl
  so_told true (Some d) = refl
  so_told false (Some d) = refl

  judged_told : (m : Sign) (t : Read) (o : Option Sign) → judgement_or (judgement_as m (T f t)) o ≡ judgement_or (judgement_as m t) o
  judged_told m (spine (logical plain.judgement) (term L (term G no_terms))) o = refl
  judged_told m (spine (logical plain.focused_judgement) (term L (term F (term A no_terms)))) o = refl
  judged_told m t o = refl

  judged_in : (g : Form) (F : Read) (o : Option Sign) → judgement_or (judgement_in (form_renumbered f g) (T f F)) o ≡ judgement_or (judgement_in g F) o
  judged_in (form.marked m A) F o = judged_told m A o
  judged_in form.other F o = judged_told marks.plain F o
  judged_in form.truth F o = refl
  judged_in form.falsity F o = refl
  judged_in (form.both A B) F o = refl
  judged_in (form.either A B) F o = refl
  judged_in (form.implies A B) F o = refl
  judged_in (form.equal A t u) F o = refl
  judged_in (form.for_all A t) F o = refl
  judged_in (form.exists A t) F o = refl
  judged_in (form.nabla A t) F o = refl

  in_told : (D : Declarations) (o : Option Read) → sign_in D (option_map (T f) o) ≡ sign_in D o
  in_told D None = refl
  in_told D (Some A) =
      ap (λ g. judgement_or (judgement_in g (T f A)) (defined_so true (defined_atom D (T f A)))) (form_moved f A)
      ∙ judged_in (form_of A) A (defined_so true (defined_atom D (T f A)))
      ∙ ap (λ d. judgement_or (as_judgement A) (defined_so true d)) (atom_moved f D A)
      ∙ ap (judgement_or (as_judgement A)) (so_told true (defined_atom D A))

  inductive_told : (D : Declarations) (n : ℕ) (F : Read) → inductive_at D n (T f F) ≡ inductive_at D n F
  inductive_told D n F = ap (λ G. sign_in D (antecedent n G)) (matrix_told F) ∙ ap (sign_in D) (antecedent_told n (matrix F)) ∙ in_told D (antecedent n (matrix F))

  coinductive_told : (D : Declarations) (F : Read) → coinductive_in D (T f F) ≡ coinductive_in D F
  coinductive_told D F =
      ap (λ G. defined_so false (defined_atom D (consequent G))) (matrix_told F)
      ∙ ap (λ G. defined_so false (defined_atom D G)) (consequent_told (matrix F))
      ∙ ap (defined_so false) (atom_moved f D (consequent (matrix F)))
      ∙ so_told false (defined_atom D (consequent (matrix F)))

  pub inductive_signs_told : (D : Declarations) (ns : List ℕ) (Fs : List Read) → inductive_signs D ns (map (T f) Fs) ≡ inductive_signs D ns Fs
  inductive_signs_told D [] [] = refl
  inductive_signs_told D (n ∷ ns) (F ∷ Fs) =
      ap (λ o. sign_and o (inductive_signs D ns (map (T f) Fs))) (inductive_told D n F) ∙ ap (sign_and (inductive_at D n F)) (inductive_signs_told D ns Fs)
  inductive_signs_told D [] (F ∷ Fs) = refl
  inductive_signs_told D (n ∷ ns) [] = refl

  pub coinductive_signs_told : (D : Declarations) (Fs : List Read) → coinductive_signs D (map (T f) Fs) ≡ coinductive_signs D Fs
  coinductive_signs_told D [] = refl
  coinductive_signs_told D (F ∷ Fs) =
      ap (λ o. sign_and o (coinductive_signs D (map (T f) Fs))) (coinductive_told D F) ∙ ap (sign_and (coinductive_in D F)) (coinductive_signs_told D Fs)

  -- WITH A MARK

  in_matrix_told : (g : Read → Read) → ((F : Read) → g (T f F) ≡ T f (g F)) → (F : Read) → in_matrix g (T f F) ≡ T f (in_matrix g F)
  in_matrix_told g told (spine (logical (universal A)) (term (lam B x t) no_terms)) = ap (λ b. spine (logical (universal A)) (term (lam B x b) no_terms)) (in_matrix_told g told t)
  in_matrix_told g told (spine (logical (plain.nabla A)) (term (lam B x t) no_terms)) = ap (λ b. spine (logical (plain.nabla A)) (term (lam B x b) no_terms)) (in_matrix_told g told t)
  in_matrix_told g told F = told F

  in_antecedent_told : (m : Sign) (n : ℕ) (F : Read) → in_antecedent (with_mark m) n (T f F) ≡ T f (in_antecedent (with_mark m) n F)
  in_antecedent_told m (suc zero) (spine (logical implication) (term A (term B no_terms))) = ap (λ C. spine (logical implication) (term C (term (T f B) no_terms))) (mark_told m A)
  in_antecedent_told m (suc (suc n)) (spine (logical implication) (term A (term B no_terms))) = ap (λ C. spine (logical implication) (term (T f A) (term C no_terms))) (in_antecedent_told m (suc n) B)
  in_antecedent_told m n F = refl

  in_consequent_told : (m : Sign) (F : Read) → in_consequent (with_mark m) (T f F) ≡ T f (in_consequent (with_mark m) F)
  in_consequent_told m (spine (logical implication) (term A (term B no_terms))) = ap (λ C. spine (logical implication) (term (T f A) (term C no_terms))) (in_consequent_told m B)
  in_consequent_told m F = mark_told m F

  marked_antecedent_told : (n : ℕ) (m : Sign) (F : Read) → marked_antecedent n m (T f F) ≡ T f (marked_antecedent n m F)
  marked_antecedent_told n m F = in_matrix_told (in_antecedent (with_mark m) n) (in_antecedent_told m n) F

  marked_consequent_told : (m : Sign) (F : Read) → marked_consequent m (T f F) ≡ T f (marked_consequent m F)
  marked_consequent_told m F = in_matrix_told (in_consequent (with_mark m)) (in_consequent_told m) F

  pub marked_antecedents_told : (ns : List ℕ) (m : Sign) (Fs : List Read) → marked_antecedents ns m (map (T f) Fs) ≡ map (T f) (marked_antecedents ns m Fs)
  marked_antecedents_told (n ∷ ns) m (F ∷ Fs) =
      ap (λ G. G ∷ marked_antecedents ns m (map (T f) Fs)) (marked_antecedent_told n m F) ∙ ap (λ Gs. T f (marked_antecedent n m F) ∷ Gs) (marked_antecedents_told ns m Fs)
  marked_antecedents_told [] m Fs = refl
  marked_antecedents_told (n ∷ ns) m [] = refl

  pub marked_consequents_told : (m : Sign) (Fs : List Read) → marked_consequents m (map (T f) Fs) ≡ map (T f) (marked_consequents m Fs)
  marked_consequents_told m [] = refl
  marked_consequents_told m (F ∷ Fs) =
      ap (λ G. G ∷ marked_consequents m (map (T f) Fs)) (marked_consequent_told m F) ∙ ap (λ Gs. T f (marked_consequent m F) ∷ Gs) (marked_consequents_told m Fs)
