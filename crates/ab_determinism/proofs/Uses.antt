-- What a choice of constants makes of a formula that is used, with other numbers: the same, with these numbers.
use Rattle.std.specs.Prelude.{codes, filter, not, ◌&&◌}
use Rattle.std.proofs.Common.{◌≡◌, ℕ, suc, ◌+◌, List, [], ◌∷◌, ◌++◌, map, length, Bool, cond, Option, Some, None, option_map, refl, sym, ◌∙◌, ap, arith, append-nil}
use Rattle.ab_term.specs.Types.{Ty, kind, arrow}
use Rattle.ab_term.specs.Terms as tree
use Rattle.ab_term.specs.Terms.{Nominal, nominal, variable, lam, spine, Terms, no_terms, term, Read}
use Rattle.ab_term.specs.Names.{support}
use Rattle.ab_term.specs.Abstraction.{over, name_terms, given_names}
use Rattle.ab_term.specs.Expansion.{expansion, expansion_of}
use Rattle.ab_term.specs.Translation.{translate_variable, translate_all}
use Rattle.ab_term.proofs.Translations.{map-append, translate-instance, translate-expansion, translate-expansion_of, support-translate}
use Rattle.ab_unifiers.specs.Replacements.{Cell}
use Rattle.ab_unifiers.specs.Clauses.{numbered, name_term}
use Rattle.ab_unifiers.specs.Choices.{is_in, in_order, outside, choices}
use Rattle.ab_formulas.specs.Marks.{erased}
use Rattle.ab_formulas.specs.Sequents.{Sequent, goal_names, proving}
use Rattle.ab_unifiers.specs.Renumbering.{renumbered_equation, IsRenumbering}
use Rattle.ab_effects.proofs.Renumbered.{translate_twice, moved_goal}
use Rattle.ab_effects.proofs.Following.{goal_names_moved}
use Rattle.ab_effects.proofs.Arising.{Moves}
use Rattle.ab_theory.specs.Pieces.{Part, variable_for, given_term, constant_for, antecedent}
use Rattle.ab_theory.specs.Uses.{with_term, left_side, right_side, implied, Use, and_variable, and_antecedent, and_outside, cell_over, used, types_chosen, given_constants, use_by, choices_for, Aim, equations, equation_behind, awaiting, use_case}
use Rattle.ab_determinism.proofs.Pieces.{T, part_moved, erased_moved}

filter_same : {X : Type 0} (p q : X → Bool) → ((x : X) → p x ≡ q x) → (xs : List X) → filter p xs ≡ filter q xs
filter_same p q same [] = refl
filter_same p q same (x ∷ xs) =
    ap (λ b. cond b (x ∷ filter p xs) (filter p xs)) (same x) ∙ ap (λ l. cond (q x) (x ∷ l) l) (filter_same p q same xs)

module _ (f : ℕ → ℕ) where
  abbrev GoOn : ℕ → ℕ → Type 0
  GoOn n m = (k : ℕ) → f (n + k) ≡ m + k

  one_on : (n m : ℕ) → GoOn n m → GoOn (suc n) (suc m)
  one_on n m on k =
      let before : suc n + k ≡ n + suc k = omega arith in
      let behind : m + suc k ≡ suc m + k = omega arith in
      ap f before ∙ on (suc k) ∙ behind

  at_once : (n m : ℕ) → GoOn n m → f n ≡ m
  at_once n m on =
      let before : n ≡ n + 0 = omega arith in
      let behind : m + 0 ≡ m = omega arith in
      ap f before ∙ on 0 ∙ behind

  -- PARTS OF A FORMULA

  with_term_moved : (F u : Read) → with_term (T f F) (T f u) ≡ T f (with_term F u)
  with_term_moved (lam A x t) u = refl
  with_term_moved (spine h no_terms) u = refl
  with_term_moved (spine h (term t no_terms)) u = sym (translate-instance f (λ x. x) t u)
  with_term_moved (spine h (term t (term v vs))) u = refl

  left_side_moved : (F : Read) → left_side (T f F) ≡ T f (left_side F)
  left_side_moved (lam A x t) = refl
  left_side_moved (spine h no_terms) = refl
  left_side_moved (spine h (term A no_terms)) = refl
  left_side_moved (spine h (term A (term B no_terms))) = refl
  left_side_moved (spine h (term A (term B (term C ts)))) = refl

  right_side_moved : (F : Read) → right_side (T f F) ≡ T f (right_side F)
  right_side_moved (lam A x t) = refl
  right_side_moved (spine h no_terms) = refl
  right_side_moved (spine h (term A no_terms)) = refl
  right_side_moved (spine h (term A (term B no_terms))) = refl
  right_side_moved (spine h (term A (term B (term C ts)))) = refl

  name_terms_moved : (A : Ty) (ns : List Nominal) → translate_all f (λ x. x) (name_terms (codes "x") A (map nominal ns)) ≡ name_terms (codes "x") A (map nominal ns)
  name_terms_moved A [] = refl
  name_terms_moved (kind k) (a ∷ ns) = refl
  name_terms_moved (arrow A B) (a ∷ ns) =
      ap (λ t. term t (translate_all f (λ x. x) (name_terms (codes "x") B (map nominal ns)))) (translate-expansion f (λ x. x) (codes "x") A (nominal a))
      ∙ ap (term (expansion (codes "x") A (nominal a))) (name_terms_moved B ns)

  given_names_moved : (z : tree.Variable ℕ) (ns : List Nominal) (A : Ty) → T f (given_names (codes "x") z ns A) ≡ given_names (codes "x") (translate_variable f z) ns A
  given_names_moved z ns A =
      translate-expansion_of f (λ x. x) (codes "x") A (variable z) (name_terms (codes "x") z.type (map nominal ns))
      ∙ ap (expansion_of (codes "x") A (variable (translate_variable f z))) (name_terms_moved z.type ns)

  name_term_moved : (a : Nominal) → T f (name_term (codes "x") a) ≡ name_term (codes "x") a
  name_term_moved a = translate-expansion f (λ x. x) (codes "x") a.type (nominal a)

  support_moved : (F : Read) → support (T f F) ≡ support F
  support_moved F = support-translate f (λ (x : List ℕ). x) F

  -- THE USE

  abbrev use_moved : Use → Use
  use_moved u = record { variables = u.variables; antecedents = map (T f) u.antecedents; result = T f u.result; outside = u.outside }

  used_moved : (held : List Nominal) (n m : ℕ) (ps : List Part) (names : List Nominal) (F : Read) → GoOn n m → used held m (map (part_moved f) ps) names (T f F) ≡ use_moved (used held n ps names F)
  used_moved held n m [] names F on = refl
  used_moved held n m (variable_for x A ∷ ps) names F on =
      let free = outside held names in
      let u = given_names (codes "x") (record { name = n; type = over free A }) free A in
      let number : given_names (codes "x") (record { name = m; type = over free A }) free A ≡ T f u =
      ap (λ i. given_names (codes "x") (record { name = i; type = over free A }) free A) (sym (at_once n m on)) ∙ sym (given_names_moved (record { name = n; type = over free A }) free A) in
      ap (λ v. and_variable (cell_over free x A) (used held (suc m) (map (part_moved f) ps) names (with_term (T f F) v))) number
      ∙ ap (λ G. and_variable (cell_over free x A) (used held (suc m) (map (part_moved f) ps) names G)) (with_term_moved F u)
      ∙ ap (and_variable (cell_over free x A)) (used_moved held (suc n) (suc m) ps names (with_term F u) (one_on n m on))
  used_moved held n m (given_term t ∷ ps) names F on = ap (used held m (map (part_moved f) ps) names) (with_term_moved F t) ∙ used_moved held n m ps names (with_term F t) on
  used_moved held n m (constant_for A ∷ ps) [] F on = refl
  used_moved held n m (constant_for A ∷ ps) (a ∷ names) F on =
      let u = name_term (codes "x") a in
      ap (λ l. and_outside (not (is_in l a)) (used held m (map (part_moved f) ps) names (with_term (T f F) u))) (support_moved F)
      ∙ ap (λ v. and_outside (not (is_in (support F) a)) (used held m (map (part_moved f) ps) names (with_term (T f F) v))) (sym (name_term_moved a))
      ∙ ap (λ G. and_outside (not (is_in (support F) a)) (used held m (map (part_moved f) ps) names G)) (with_term_moved F u)
      ∙ ap (and_outside (not (is_in (support F) a))) (used_moved held n m ps names (with_term F u) on)
  used_moved held n m (antecedent ∷ ps) names F on =
      ap (λ A. and_antecedent A (used held m (map (part_moved f) ps) names (right_side (T f F)))) (left_side_moved F)
      ∙ ap (λ G. and_antecedent (T f (left_side F)) (used held m (map (part_moved f) ps) names G)) (right_side_moved F)
      ∙ ap (and_antecedent (T f (left_side F))) (used_moved held n m ps names (right_side F) on)

  types_moved : (ps : List Part) → types_chosen (map (part_moved f) ps) ≡ types_chosen ps
  types_moved [] = refl
  types_moved (constant_for A ∷ ps) = ap (λ l. A ∷ l) (types_moved ps)
  types_moved (variable_for x A ∷ ps) = types_moved ps
  types_moved (given_term t ∷ ps) = types_moved ps
  types_moved (antecedent ∷ ps) = types_moved ps

  constants_moved : (ps : List Part) → given_constants (map (part_moved f) ps) ≡ given_constants ps
  constants_moved [] = refl
  constants_moved (given_term t ∷ ps) = ap (λ l. l ++ given_constants (map (part_moved f) ps)) (support_moved t) ∙ ap (λ l. support t ++ l) (constants_moved ps)
  constants_moved (variable_for x A ∷ ps) = constants_moved ps
  constants_moved (constant_for A ∷ ps) = constants_moved ps
  constants_moved (antecedent ∷ ps) = constants_moved ps

-- all numbers are one
abbrev unnumbered : Read → Read
unnumbered = T (λ i. 0)

unnumbered_with : (F G u v : Read) → unnumbered F ≡ unnumbered G → unnumbered u ≡ unnumbered v → unnumbered (with_term F u) ≡ unnumbered (with_term G v)
unnumbered_with F G u v same also =
    sym (with_term_moved (λ i. 0) F u) ∙ ap (λ H. with_term H (unnumbered u)) same ∙ ap (with_term (unnumbered G)) also ∙ with_term_moved (λ i. 0) G v

module _ (f : ℕ → ℕ) where
  -- whether the constants stand outside depends on no number
  outside_same : (held : List Nominal) (n m : ℕ) (ps : List Part) (names : List Nominal) (F G : Read) → unnumbered F ≡ unnumbered G → (used held n ps names F).outside ≡ (used held m (map (part_moved f) ps) names G).outside
  outside_same held n m [] names F G same = refl
  outside_same held n m (variable_for x A ∷ ps) names F G same =
      let free = outside held names in
      let u = given_names (codes "x") (record { name = n; type = over free A }) free A in
      let v = given_names (codes "x") (record { name = m; type = over free A }) free A in
      outside_same held (suc n) (suc m) ps names (with_term F u) (with_term G v)
      (unnumbered_with F G u v same (given_names_moved (λ i. 0) (record { name = n; type = over free A }) free A ∙ sym (given_names_moved (λ i. 0) (record { name = m; type = over free A }) free A)))
  outside_same held n m (given_term t ∷ ps) names F G same =
      outside_same held n m ps names (with_term F t) (with_term G (T f t)) (unnumbered_with F G t (T f t) same (sym (translate_twice (λ i. 0) f t)))
  outside_same held n m (constant_for A ∷ ps) [] F G same = refl
  outside_same held n m (constant_for A ∷ ps) (a ∷ names) F G same =
      let u = name_term (codes "x") a in
      let names_same : support F ≡ support G = sym (support_moved (λ i. 0) F) ∙ ap support same ∙ support_moved (λ i. 0) G in
      ap (λ l. not (is_in l a) && (used held n ps names (with_term F u)).outside) names_same
      ∙ ap (λ b. not (is_in (support G) a) && b) (outside_same held n m ps names (with_term F u) (with_term G u) (unnumbered_with F G u u same refl))
  outside_same held n m (antecedent ∷ ps) names F G same =
      outside_same held n m ps names (right_side F) (right_side G) (sym (right_side_moved (λ i. 0) F) ∙ ap right_side same ∙ right_side_moved (λ i. 0) G)

  abbrev choices_by : List Nominal → List Ty → List Nominal → List Part → Read → List (List Nominal)
  choices_by held As more ps F = filter (λ names. (used (in_order held) 0 ps names F).outside) (choices As (in_order held) (held ++ more))

  -- THE CHOICES are the same
  pub choices_moved : (s : Sequent) (ps : List Part) (F : Read) → choices_for (moved_goal f s) (map (part_moved f) ps) (T f F) ≡ choices_for s ps F
  choices_moved s ps F =
      let qs = map (part_moved f) ps in
      let held = goal_names s in
      ap (λ l. choices_by l (types_chosen qs) (given_constants qs) qs (T f F)) (goal_names_moved f s)
      ∙ ap (λ As. choices_by held As (given_constants qs) qs (T f F)) (types_moved f ps)
      ∙ ap (λ l. choices_by held (types_chosen ps) l qs (T f F)) (constants_moved f ps)
      ∙ filter_same (λ names. (used (in_order held) 0 qs names (T f F)).outside) (λ names. (used (in_order held) 0 ps names F).outside)
      (λ names. sym (outside_same (in_order held) 0 0 ps names F (T f F) (sym (translate_twice (λ i. 0) f F))))
      (choices (types_chosen ps) (in_order held) (held ++ given_constants ps))

  abbrev pub aim_moved : Aim → Aim
  aim_moved a = record { hypotheses = map (option_map (T f)) a.hypotheses; conclusion = option_map (T f) a.conclusion }

  equations_moved : (p : ℕ) (hs : List (Option Read)) (As : List Read) → map (renumbered_equation f) (equations p hs As) ≡ equations p (map (option_map (T f)) hs) (map (T f) As)
  equations_moved p [] As = refl
  equations_moved p (None ∷ hs) [] = refl
  equations_moved p (Some G ∷ hs) [] = refl
  equations_moved p (None ∷ hs) (A ∷ As) = equations_moved p hs As
  equations_moved p (Some G ∷ hs) (A ∷ As) =
      ap (λ l. record { place = p; left = l; right = T f (erased G) } ∷ map (renumbered_equation f) (equations (suc p) hs As)) (sym (erased_moved f A))
      ∙ ap (λ r. record { place = p; left = erased (T f A); right = r } ∷ map (renumbered_equation f) (equations (suc p) hs As)) (sym (erased_moved f G))
      ∙ ap (λ l. record { place = p; left = erased (T f A); right = erased (T f G) } ∷ l) (equations_moved (suc p) hs As)

  behind_moved : (o : Option Read) (R : Read) → map (renumbered_equation f) (equation_behind o R) ≡ equation_behind (option_map (T f) o) (T f R)
  behind_moved None R = refl
  behind_moved (Some C) R =
      ap (λ l. record { place = 0; left = l; right = T f (erased C) } ∷ []) (sym (erased_moved f R)) ∙ ap (λ r. record { place = 0; left = erased (T f R); right = r } ∷ []) (sym (erased_moved f C))

  awaiting_moved : (hs : List (Option Read)) (As : List Read) (R : Read) → T f (awaiting hs As R) ≡ awaiting (map (option_map (T f)) hs) (map (T f) As) (T f R)
  awaiting_moved [] As R = refl
  awaiting_moved (None ∷ hs) [] R = refl
  awaiting_moved (Some G ∷ hs) [] R = refl
  awaiting_moved (None ∷ hs) (A ∷ As) R = ap (implied (T f A)) (awaiting_moved hs As R)
  awaiting_moved (Some G ∷ hs) (A ∷ As) R = awaiting_moved hs As R

  variables_moved : (n m : ℕ) (cs : List (Cell (List ℕ))) → GoOn f n m → map (translate_variable f) (numbered n cs) ≡ numbered m cs
  variables_moved n m [] on = refl
  variables_moved n m (c ∷ cs) on =
      ap (λ i. record { name = i; type = c.type } ∷ map (translate_variable f) (numbered (suc n) cs)) (at_once f n m on)
      ∙ ap (λ l. record { name = m; type = c.type } ∷ l) (variables_moved (suc n) (suc m) cs (one_on f n m on))

  -- THE CASE OF A CHOICE, with other numbers
  pub use_case_moves : (cells others : List (Cell (List ℕ))) → IsRenumbering f cells others → (s : Sequent) (ps : List Part) (aim : Aim) (F : Read) (names : List Nominal)
      → Moves f cells others (use_case cells s ps aim F names) (use_case others (moved_goal f s) (map (part_moved f) ps) (aim_moved aim) (T f F) names)
  use_case_moves cells others r s ps aim F names =
      let u : Use = use_by s (length cells) ps F names in
      let v : Use = use_by (moved_goal f s) (length others) (map (part_moved f) ps) (T f F) names in
      let hs = map (option_map (T f)) aim.hypotheses in
      let both : v ≡ use_moved f u =
      ap (λ l. used (in_order l) (length others) (map (part_moved f) ps) names (T f F)) (goal_names_moved f s)
      ∙ used_moved f (in_order (goal_names s)) (length cells) (length others) ps names F r.behind in
      record {
        new = [];
        before_first = sym (append-nil cells);
        before_second = sym (append-nil others);
        own = ap (λ (w : Use). w.variables) both;
        equations =
            map-append (renumbered_equation f) (equations 0 aim.hypotheses u.antecedents) (equation_behind aim.conclusion u.result)
            ∙ ap (λ l. l ++ map (renumbered_equation f) (equation_behind aim.conclusion u.result)) (equations_moved 0 aim.hypotheses u.antecedents)
            ∙ ap (λ l. equations 0 hs (map (T f) u.antecedents) ++ l) (behind_moved aim.conclusion u.result)
            ∙ ap (λ (w : Use). equations 0 hs w.antecedents ++ equation_behind (option_map (T f) aim.conclusion) w.result) (sym both);
        flexible = variables_moved (length cells) (length others) u.variables r.behind ∙ ap (λ (w : Use). numbered (length others) w.variables) (sym both);
        goal =
            ap (λ G. proving G (moved_goal f s)) (awaiting_moved aim.hypotheses u.antecedents u.result)
            ∙ ap (λ (w : Use). proving (awaiting hs w.antecedents w.result) (moved_goal f s)) (sym both);
      }
