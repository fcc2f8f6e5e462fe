-- Goals and formulas with other numbers for their variables: how they are looked up, taken apart and put together.
use Rattle.std.specs.Prelude.{length, drop, if◌then◌else◌, is_some, bytes_eq, ◌||◌}
use Rattle.std.specs.List.{list_any}
use Rattle.std.proofs.Common.{◌≡◌, ℕ, List, [], ◌∷◌, ◌++◌, map, true, false, Option, Some, None, option_map, refl, sym, ◌∙◌, ap}
use Rattle.std.proofs.lemmas.List.{length-map, drop-map}
use Rattle.ab_term.specs.Types.{Ty}
use Rattle.ab_term.specs.Logical as plain
use Rattle.ab_term.specs.Logical.{Logical, conjunction}
use Rattle.ab_term.specs.Terms as tree
use Rattle.ab_term.specs.Terms.{constant, logical, nominal, variable, index, lam, spine, Terms, no_terms, term, Read}
use Rattle.ab_term.proofs.Translations.{map-append}
use Rattle.ab_formulas.specs.Forms as form
use Rattle.ab_formulas.specs.Forms.{Form, form_of, form_alone, form_with, form_between, both_in, either_in, exists_in, as_both, as_either, as_exists}
use Rattle.ab_formulas.specs.NewNames.{Label, auto, given}
use Rattle.ab_formulas.specs.Sequents as numbered
use Rattle.ab_formulas.specs.Sequents.{Variable, Hypothesis, Sequent, formula_of, others, without, proving}
use Rattle.ab_formulas.specs.NamedGoals as shown
use Rattle.ab_formulas.specs.NamedGoals.{Named, Goal, name_in, with_names, variable_named, hypothesis_named, named}
use Rattle.ab_effects.specs.ProofCommands.{is_used, clashing, clashing_names, missing, cleared}
use Rattle.ab_theory.specs.Conjuncts.{conjuncts, with_parts}
use Rattle.ab_effects.specs.Introductions.{taken_off}
use Rattle.ab_meaning.specs.Refusals.{Refusal, clash, no_hypothesis}
use Rattle.ab_determinism.proofs.Renumbered.{renumber, renumber_variable, renumber_hypothesis, renumbered, names_kept}

module _ (f : ℕ → ℕ) where
  abbrev two : Read × Read → Read × Read
  two p = (renumber f p.0, renumber f p.1)

  abbrev scope : Ty × Read → Ty × Read
  scope q = (q.0, renumber f q.1)

  -- FORMS

  abbrev pub form_told : Form → Form
  form_told form.truth = form.truth
  form_told form.falsity = form.falsity
  form_told (form.both A B) = form.both (renumber f A) (renumber f B)
  form_told (form.either A B) = form.either (renumber f A) (renumber f B)
  form_told (form.implies A B) = form.implies (renumber f A) (renumber f B)
  form_told (form.equal A t u) = form.equal A (renumber f t) (renumber f u)
  form_told (form.for_all A t) = form.for_all A (renumber f t)
  form_told (form.exists A t) = form.exists A (renumber f t)
  form_told (form.nabla A t) = form.nabla A (renumber f t)
  form_told (form.marked m t) = form.marked m (renumber f t)
  form_told form.other = form.other

  alone_told : (l : Logical) → form_alone l ≡ form_told (form_alone l)
  alone_told plain.truth = refl
  alone_told plain.falsity = refl
  alone_told _ = refl

  with_told : (l : Logical) (t : Read) → form_with l (renumber f t) ≡ form_told (form_with l t)
  with_told (plain.universal A) t = refl
  with_told (plain.existential A) t = refl
  with_told (plain.nabla A) t = refl
  with_told (plain.star i) t = refl
  with_told (plain.at_sign i) t = refl
  with_told (plain.plus i) t = refl
  with_told (plain.hash i) t = refl
  with_told _ t = refl

  between_told : (l : Logical) (t u : Read) → form_between l (renumber f t) (renumber f u) ≡ form_told (form_between l t u)
  between_told plain.conjunction t u = refl
  between_told plain.disjunction t u = refl
  between_told plain.implication t u = refl
  between_told (plain.equality A) t u = refl
  between_told _ t u = refl

  pub form_retold : (F : Read) → form_of (renumber f F) ≡ form_told (form_of F)
  form_retold (lam A x t) = refl
  form_retold (spine (logical l) no_terms) = alone_told l
  form_retold (spine (logical l) (term t no_terms)) = with_told l t
  form_retold (spine (logical l) (term t (term u no_terms))) = between_told l t u
  form_retold (spine (logical l) (term t (term u (term v ts)))) = refl
  form_retold (spine (constant c) ts) = refl
  form_retold (spine (nominal a) ts) = refl
  form_retold (spine (variable x) ts) = refl
  form_retold (spine (index i) ts) = refl

  both_told : (g : Form) → both_in (form_told g) ≡ option_map two (both_in g)
  both_told (form.both A B) = refl
  both_told _ = refl

  either_told : (g : Form) → either_in (form_told g) ≡ option_map two (either_in g)
  either_told (form.either A B) = refl
  either_told _ = refl

  exists_told : (g : Form) → exists_in (form_told g) ≡ option_map scope (exists_in g)
  exists_told (form.exists A t) = refl
  exists_told _ = refl

  off_told : (g : Form) → taken_off (form_told g) ≡ taken_off g
  off_told (form.for_all A t) = refl
  off_told (form.nabla A t) = refl
  off_told (form.implies A B) = refl
  off_told _ = refl

  pub as_both_told : (F : Read) → as_both (renumber f F) ≡ option_map two (as_both F)
  as_both_told F = ap both_in (form_retold F) ∙ both_told (form_of F)

  pub as_either_told : (F : Read) → as_either (renumber f F) ≡ option_map two (as_either F)
  as_either_told F = ap either_in (form_retold F) ∙ either_told (form_of F)

  pub as_exists_told : (F : Read) → as_exists (renumber f F) ≡ option_map scope (as_exists F)
  as_exists_told F = ap exists_in (form_retold F) ∙ exists_told (form_of F)

  pub taken_off_told : (F : Read) → taken_off (form_of (renumber f F)) ≡ option_map (λ o. o) (taken_off (form_of F))
  taken_off_told F = ap taken_off (form_retold F) ∙ off_told (form_of F) ∙ whole (taken_off (form_of F))
    where
      whole : (o : Option (Unit {0})) → o ≡ option_map (λ o. o) o
      whole None = refl
      whole (Some t) = refl

  -- PARTS

  pub conjuncts_told : (F : Read) → conjuncts (renumber f F) ≡ map (renumber f) (conjuncts F)
  conjuncts_told (spine (logical conjunction) (term A (term B no_terms))) =
      ap (λ l. l ++ conjuncts (renumber f B)) (conjuncts_told A) ∙ ap (λ l. map (renumber f) (conjuncts A) ++ l) (conjuncts_told B) ∙ sym (map-append (renumber f) (conjuncts A) (conjuncts B))
  conjuncts_told F = refl

  pub with_parts_told : (Gs : List Read) (F : Read) → with_parts (map (renumber f) Gs) (renumber f F) ≡ renumber f (with_parts Gs F)
  with_parts_told Gs (spine (logical conjunction) (term A (term B no_terms))) =
      let n = length (conjuncts A) in
      let same : length (conjuncts (renumber f A)) ≡ n = ap length (conjuncts_told A) ∙ length-map (conjuncts A) (renumber f) in
      let left : with_parts (map (renumber f) Gs) (renumber f A) ≡ renumber f (with_parts Gs A) = with_parts_told Gs A in
      let right : with_parts (drop (length (conjuncts (renumber f A))) (map (renumber f) Gs)) (renumber f B) ≡ renumber f (with_parts (drop n Gs) B) =
      ap (λ k. with_parts (drop k (map (renumber f) Gs)) (renumber f B)) same ∙ ap (λ Hs. with_parts Hs (renumber f B)) (drop-map (renumber f) n Gs) ∙ with_parts_told (drop n Gs) B in
      ap (λ C. spine (logical conjunction) (term C (term (with_parts (drop (length (conjuncts (renumber f A))) (map (renumber f) Gs)) (renumber f B)) no_terms))) left
      ∙ ap (λ C. spine (logical conjunction) (term (renumber f (with_parts Gs A)) (term C no_terms))) right
  with_parts_told (G ∷ Gs) F = refl
  with_parts_told [] F = refl

  -- HYPOTHESES

  named_told : (hs : List Hypothesis) (H : List ℕ) → numbered.named (map (renumber_hypothesis f) hs) H ≡ option_map (renumber f) (numbered.named hs H)
  named_told [] H = refl
  named_told (h ∷ hs) H =
      elim (bytes_eq h.name H) as (λ b. (if b then Some (renumber f h.formula) else numbered.named (map (renumber_hypothesis f) hs) H) ≡ option_map (renumber f) (if b then Some h.formula else numbered.named hs H))
      [ true ↦ refl | false ↦ named_told hs H ]

  pub formula_told : (s : Sequent) (H : List ℕ) → formula_of (renumbered f s) H ≡ option_map (renumber f) (formula_of s H)
  formula_told s H = named_told s.hypotheses H

  used_told : (s : Sequent) (x : List ℕ) → is_used (renumbered f s) x ≡ is_used s x
  used_told s x = ap is_some (formula_told s x) ∙ same (formula_of s x)
    where
      same : (o : Option Read) → is_some (option_map (renumber f) o) ≡ is_some o
      same None = refl
      same (Some F) = refl

  pub clashing_told : (l : Label) (s : Sequent) → clashing l (renumbered f s) ≡ clashing l s
  clashing_told auto s = refl
  clashing_told (given x) s = ap (λ b. if b then Some (clash x) else None) (used_told s x)

  pub clashing_names_told : (before xs : List (List ℕ)) (s : Sequent) → clashing_names before xs (renumbered f s) ≡ clashing_names before xs s
  clashing_names_told before [] s = refl
  clashing_names_told before (x ∷ xs) s =
      ap (λ b. if b || list_any (λ y. bytes_eq y x) before then Some (clash x) else clashing_names (before ++ x ∷ []) xs (renumbered f s)) (used_told s x)
      ∙ ap (λ (o : Option Refusal). if is_used s x || list_any (λ y. bytes_eq y x) before then Some (clash x) else o) (clashing_names_told (before ++ x ∷ []) xs s)

  pub missing_told : (Hs : List (List ℕ)) (s : Sequent) → missing Hs (renumbered f s) ≡ missing Hs s
  missing_told [] s = refl
  missing_told (H ∷ Hs) s =
      ap (λ b. if b then missing Hs (renumbered f s) else Some (no_hypothesis H)) (used_told s H)
      ∙ ap (λ (o : Option Refusal). if is_used s H then o else Some (no_hypothesis H)) (missing_told Hs s)

  others_told : (hs : List Hypothesis) (H : List ℕ) → others (map (renumber_hypothesis f) hs) H ≡ map (renumber_hypothesis f) (others hs H)
  others_told [] H = refl
  others_told (h ∷ hs) H =
      elim (bytes_eq h.name H) as (λ b. (if b then others (map (renumber_hypothesis f) hs) H else (renumber_hypothesis f h ∷ others (map (renumber_hypothesis f) hs) H)) ≡ map (renumber_hypothesis f) (if b then others hs H else (h ∷ others hs H)))
      [ true ↦ others_told hs H | false ↦ ap (λ l. renumber_hypothesis f h ∷ l) (others_told hs H) ]

  pub without_told : (H : List ℕ) (s : Sequent) → without H (renumbered f s) ≡ renumbered f (without H s)
  without_told H s = ap (λ hs. with_hypotheses hs) (others_told s.hypotheses H)
    where
      with_hypotheses : List Hypothesis → Sequent
      with_hypotheses hs = record { variables = map (renumber_variable f) s.variables; hypotheses = hs; conclusion = renumber f s.conclusion; counter = s.counter }

  pub cleared_told : (Hs : List (List ℕ)) (s : Sequent) → cleared Hs (renumbered f s) ≡ renumbered f (cleared Hs s)
  cleared_told [] s = refl
  cleared_told (H ∷ Hs) s = ap (cleared Hs) (without_told H s) ∙ cleared_told Hs (without H s)

  pub cleared_variables : (Hs : List (List ℕ)) (s : Sequent) → (cleared Hs s).variables ≡ s.variables
  cleared_variables [] s = refl
  cleared_variables (H ∷ Hs) s = cleared_variables Hs (without H s)

  -- WITH NAMES FOR NUMBERS

  -- each number is named as before
  abbrev pub KeepsNames : List Variable → Type 0
  KeepsNames xs = (n : ℕ) → name_in (map (renumber_variable f) xs) (f n) ≡ name_in xs n

  module _ (s : Sequent) (names : KeepsNames s.variables) where
    pub formula_named : (F : Read) → with_names s.variables F ≡ with_names (map (renumber_variable f) s.variables) (renumber f F)
    formula_named F = sym (names_kept s (renumbered f s) (record { by = f; is = refl; names = names }) F)

    variables_named : (xs : List Variable) → map variable_named (map (renumber_variable f) xs) ≡ map variable_named xs
    variables_named [] = refl
    variables_named (x ∷ xs) = ap (λ l. variable_named x ∷ l) (variables_named xs)

    hypotheses_named : (hs : List Hypothesis) → map (hypothesis_named (map (renumber_variable f) s.variables)) (map (renumber_hypothesis f) hs) ≡ map (hypothesis_named s.variables) hs
    hypotheses_named [] = refl
    hypotheses_named (h ∷ hs) =
        ap (λ F. hypothesis_by F ∷ map (hypothesis_named (map (renumber_variable f) s.variables)) (map (renumber_hypothesis f) hs)) (sym (formula_named h.formula))
        ∙ ap (λ l. hypothesis_named s.variables h ∷ l) (hypotheses_named hs)
      where
        hypothesis_by : Named → shown.Hypothesis
        hypothesis_by F = record { name = h.name; formula = F }

    pub goal_named : named s ≡ named (renumbered f s)
    goal_named =
        sym (ap (λ vs. goal_by vs (named (renumbered f s)).hypotheses (named (renumbered f s)).conclusion) (variables_named s.variables)
        ∙ ap (λ hs. goal_by (map variable_named s.variables) hs (named (renumbered f s)).conclusion) (hypotheses_named s.hypotheses)
        ∙ ap (λ F. goal_by (map variable_named s.variables) (map (hypothesis_named s.variables) s.hypotheses) F) (sym (formula_named s.conclusion)))
      where
        goal_by : List (tree.Variable (List ℕ)) → List shown.Hypothesis → Named → Goal
        goal_by vs hs F = record { variables = vs; hypotheses = hs; conclusion = F; counter = s.counter }
