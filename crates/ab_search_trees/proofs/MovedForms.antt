-- What a search sees of a formula, with other numbers for variables: its form, its marks, the atom or judgement that it is.
use Rattle.std.specs.List.{list_any}
use Rattle.std.specs.Option.{option_map}
use Rattle.std.proofs.Common.{◌≡◌, ℕ, zero, List, [], ◌∷◌, map, Bool, true, false, cond, ◌||◌, Option, Some, None, refl, sym, ◌∙◌, ap}
use Rattle.ab_term.specs.Logical as plain
use Rattle.ab_term.specs.Logical.{Logical}
use Rattle.ab_term.specs.Terms as tree
use Rattle.ab_term.specs.Terms.{Head, constant, logical, nominal, variable, index, lam, spine, Terms, no_terms, term, Read}
use Rattle.ab_term.specs.Translation.{translate_variable, translate_head, translate_all}
use Rattle.ab_term.specs.Sameness.{same_number}
use Rattle.ab_term.proofs.Translations.{translate-shift}
use Rattle.ab_unifiers.specs.Renumbering.{renumbered}
use Rattle.ab_unifiers.proofs.Tests.{flexible_moved}
use Rattle.ab_formulas.specs.Declarations.{Declarations, Block, block_in}
use Rattle.ab_formulas.specs.Programs.{program_in}
use Rattle.ab_formulas.specs.Forms.{Form, truth, falsity, both, either, implies, equal, for_all, exists, nabla, marked, other, form_alone, form_with, form_between, form_given, form_of}
use Rattle.ab_formulas.specs.Marks as marks
use Rattle.ab_formulas.specs.Marks.{Sign, Marks, Making, by_head, by_scope, by_parts, by_mark, marks_of_head, making_of, marks_made, marks_of, marks_of_all, unmarked, erased, erased_all}
use Rattle.ab_theory.specs.Atoms.{defined_as, defined_form, defined_atom}
use Rattle.ab_theory.specs.Judgements.{Judgement, judgement_as, judgement_in, as_judgement}
use Rattle.ab_theory.specs.Opening.{Kind, kind_of_head, kind_of}
use Rattle.ab_theory.specs.Parts.{Part, parts_of}
use Rattle.ab_theory.specs.SpecRules.{SpecRule, rules_of}
use Rattle.ab_effects.specs.Judgements.{renumbered_judgement, renumbered_part, renumbered_rule}
use Rattle.ab_effects.proofs.Following.{moved_atom}
use Rattle.ab_effects.proofs.MovedParts.{parts_moved}
use Rattle.ab_effects.proofs.SameRules.{rules_moved}
use Rattle.ab_search_trees.specs.Judgements.{judged, layer_of, opened_once, hides_head, hides, is_blind, opens_by_layers, known, search_rules}

module _ (f : ℕ → ℕ) where
  abbrev pub T : Read → Read
  T = renumbered f

  abbrev pub Ts : Terms ℕ (List ℕ) → Terms ℕ (List ℕ)
  Ts = translate_all f (λ x. x)

  -- THE FORM

  abbrev pub form_renumbered : Form → Form
  form_renumbered truth = truth
  form_renumbered falsity = falsity
  form_renumbered (both A B) = both (T A) (T B)
  form_renumbered (either A B) = either (T A) (T B)
  form_renumbered (implies A B) = implies (T A) (T B)
  form_renumbered (equal A t u) = equal A (T t) (T u)
  form_renumbered (for_all A F) = for_all A (T F)
  form_renumbered (exists A F) = exists A (T F)
  form_renumbered (nabla A F) = nabla A (T F)
  form_renumbered (marked m A) = marked m (T A)
  form_renumbered other = other

  alone_moved : (l : Logical) → form_alone l ≡ form_renumbered (form_alone l)
  alone_moved plain.truth = refl
  alone_moved plain.falsity = refl
  alone_moved _ = refl

  with_moved : (l : Logical) (t : Read) → form_with l (T t) ≡ form_renumbered (form_with l t)
  with_moved (plain.universal A) t = refl
  with_moved (plain.existential A) t = refl
  with_moved (plain.nabla A) t = refl
  with_moved (plain.star i) t = refl
  with_moved (plain.at_sign i) t = refl
  with_moved (plain.plus i) t = refl
  with_moved (plain.hash i) t = refl
  with_moved _ t = refl

  between_moved : (l : Logical) (t u : Read) → form_between l (T t) (T u) ≡ form_renumbered (form_between l t u)
  between_moved plain.conjunction t u = refl
  between_moved plain.disjunction t u = refl
  between_moved plain.implication t u = refl
  between_moved (plain.equality A) t u = refl
  between_moved _ t u = refl

  given_moved : (l : Logical) (ts : Terms ℕ (List ℕ)) → form_given l (Ts ts) ≡ form_renumbered (form_given l ts)
  given_moved l no_terms = alone_moved l
  given_moved l (term t no_terms) = with_moved l t
  given_moved l (term t (term u no_terms)) = between_moved l t u
  given_moved l (term t (term u (term v ts))) = refl

  pub form_moved : (C : Read) → form_of (T C) ≡ form_renumbered (form_of C)
  form_moved (lam A x t) = refl
  form_moved (spine (constant c) ts) = refl
  form_moved (spine (nominal a) ts) = refl
  form_moved (spine (variable y) ts) = refl
  form_moved (spine (index i) ts) = refl
  form_moved (spine (logical l) ts) = given_moved l ts

  -- MARKS

  making_same : (h : Head ℕ) → making_of (translate_head f h) ≡ making_of h
  making_same (constant c) = refl
  making_same (logical l) = refl
  making_same (nominal a) = refl
  making_same (variable x) = refl
  making_same (index i) = refl

  head_marks : (m : Sign) (h : Head ℕ) → marks_of_head m (translate_head f h) ≡ marks_of_head m h
  head_marks m (constant c) = refl
  head_marks m (logical l) = refl
  head_marks m (nominal a) = refl
  head_marks m (variable x) = refl
  head_marks m (index i) = refl

  marked_same : (m : Sign) (t : Read) → marks.marked m (T t) ≡ marks.marked m t
  marked_same m (lam A x t) = refl
  marked_same m (spine h ts) = head_marks m h

  made_same : (k : Making) (h : Head ℕ) (ts : Terms ℕ (List ℕ)) (ms : List Marks) → marks_made k (translate_head f h) (Ts ts) ms ≡ marks_made k h ts ms
  made_same by_head h ts ms = head_marks marks.plain h
  made_same (by_mark m) h no_terms ms = refl
  made_same (by_mark m) h (term t ts) ms = marked_same m t
  made_same by_scope h ts [] = refl
  made_same by_scope h ts (m ∷ []) = refl
  made_same by_scope h ts (m ∷ n ∷ ms) = refl
  made_same by_parts h ts [] = refl
  made_same by_parts h ts (m ∷ []) = refl
  made_same by_parts h ts (m ∷ n ∷ []) = refl
  made_same by_parts h ts (m ∷ n ∷ o ∷ ms) = refl

  mutual
    pub marks_same : (t : Read) → marks_of (T t) ≡ marks_of t
    marks_same (lam A x t) = marks_same t
    marks_same (spine h ts) =
        ap (λ k. marks_made k (translate_head f h) (Ts ts) (marks_of_all (Ts ts))) (making_same h)
        ∙ ap (marks_made (making_of h) (translate_head f h) (Ts ts)) (all_marks_same ts)
        ∙ made_same (making_of h) h ts (marks_of_all ts)

    all_marks_same : (ts : Terms ℕ (List ℕ)) → marks_of_all (Ts ts) ≡ marks_of_all ts
    all_marks_same no_terms = refl
    all_marks_same (term t ts) = ap (λ m. m ∷ marks_of_all (Ts ts)) (marks_same t) ∙ ap (λ ms. marks_of t ∷ ms) (all_marks_same ts)

  unmarked_moved : (k : Making) (h : Head ℕ) (ts us : Terms ℕ (List ℕ)) → T (unmarked k h ts us) ≡ unmarked k (translate_head f h) (Ts ts) (Ts us)
  unmarked_moved by_head h ts us = refl
  unmarked_moved by_scope h ts us = refl
  unmarked_moved by_parts h ts us = refl
  unmarked_moved (by_mark m) h no_terms us = refl
  unmarked_moved (by_mark m) h (term t ts) us = refl

  mutual
    pub erased_moved : (t : Read) → T (erased t) ≡ erased (T t)
    erased_moved (lam A x t) = ap (lam A x) (erased_moved t)
    erased_moved (spine h ts) =
        unmarked_moved (making_of h) h ts (erased_all ts)
        ∙ ap (unmarked (making_of h) (translate_head f h) (Ts ts)) (all_erased_moved ts)
        ∙ ap (λ k. unmarked k (translate_head f h) (Ts ts) (erased_all (Ts ts))) (sym (making_same h))

    all_erased_moved : (ts : Terms ℕ (List ℕ)) → Ts (erased_all ts) ≡ erased_all (Ts ts)
    all_erased_moved no_terms = refl
    all_erased_moved (term t ts) = ap (λ u. term u (Ts (erased_all ts))) (erased_moved t) ∙ ap (term (erased (T t))) (all_erased_moved ts)

  -- THE DEFINED ATOM that it is

  as_moved : (D : Declarations) (m : Sign) (C : Read) → defined_as D m (T C) ≡ option_map (moved_atom f) (defined_as D m C)
  as_moved D m (lam A x t) = refl
  as_moved D m (spine (logical l) ts) = refl
  as_moved D m (spine (nominal a) ts) = refl
  as_moved D m (spine (variable y) ts) = refl
  as_moved D m (spine (index i) ts) = refl
  as_moved D m (spine (constant p) ts) = go (block_in D p)
    where
      go : (o : Option Block)
          → option_map (λ b. record { sign = m; predicate = p; arguments = Ts ts; block = b }) o ≡ option_map (moved_atom f) (option_map (λ b. record { sign = m; predicate = p; arguments = ts; block = b }) o)
      go None = refl
      go (Some b) = refl

  by_form_moved : (D : Declarations) (k : Form) (C : Read) → defined_form D (form_renumbered k) (T C) ≡ option_map (moved_atom f) (defined_form D k C)
  by_form_moved D (marked m A) C = as_moved D m A
  by_form_moved D other C = as_moved D marks.plain C
  by_form_moved D _ C = refl

  pub atom_moved : (D : Declarations) (C : Read) → defined_atom D (T C) ≡ option_map (moved_atom f) (defined_atom D C)
  atom_moved D C = ap (λ k. defined_form D k (T C)) (form_moved C) ∙ by_form_moved D (form_of C) C

  -- THE JUDGEMENT that it is

  judged_moved : (m : Sign) (C : Read) → judgement_as m (T C) ≡ option_map (renumbered_judgement f) (judgement_as m C)
  judged_moved m (spine (logical plain.judgement) (term L (term G no_terms))) = refl
  judged_moved m (spine (logical plain.focused_judgement) (term L (term F (term A no_terms)))) = refl
  judged_moved m _ = refl

  in_moved : (k : Form) (C : Read) → judgement_in (form_renumbered k) (T C) ≡ option_map (renumbered_judgement f) (judgement_in k C)
  in_moved (marked m t) C = judged_moved m t
  in_moved other C = judged_moved marks.plain C
  in_moved _ C = refl

  pub judgement_moved : (C : Read) → as_judgement (T C) ≡ option_map (renumbered_judgement f) (as_judgement C)
  judgement_moved C = ap (λ k. judgement_in k (T C)) (form_moved C) ∙ in_moved (form_of C) C

  -- ONE LAYER

  layer_moved : (L G : Read) → layer_of (T L) (T G) ≡ option_map T (layer_of L G)
  layer_moved L (spine (logical plain.spec_conjunction) (term F (term G no_terms))) = refl
  layer_moved L (spine (logical plain.spec_implication) (term F (term G no_terms))) = refl
  layer_moved L (spine (logical (plain.spec_universal A)) (term (lam B x G) no_terms)) =
      ap (λ K. Some (spine (logical (plain.nabla A)) (term (lam A x (judged K (T G))) no_terms))) (sym (translate-shift f (λ (x : List ℕ). x) L zero))
  layer_moved L _ = refl

  pub opened_moved : (C : Read) → opened_once (T C) ≡ option_map T (opened_once C)
  opened_moved (spine (logical plain.judgement) (term L (term G no_terms))) = layer_moved L G
  opened_moved _ = refl

  -- THE RULES of a search

  kind_head_same : (h : Head ℕ) → kind_of_head (translate_head f h) ≡ kind_of_head h
  kind_head_same (constant c) = refl
  kind_head_same (nominal a) = refl
  kind_head_same (logical l) = refl
  kind_head_same (variable y) = refl
  kind_head_same (index i) = refl

  kind_same : (t : Read) → kind_of (T t) ≡ kind_of t
  kind_same (lam A x t) = refl
  kind_same (spine h ts) = kind_head_same h

  layers_same : (o : Option Read) (k : Kind) → opens_by_layers (option_map T o) k ≡ opens_by_layers o k
  layers_same None k = refl
  layers_same (Some F) k = refl

  known_moved : (o : Option (List SpecRule)) → known (option_map (map (renumbered_rule f)) o) ≡ map (renumbered_rule f) (known o)
  known_moved None = refl
  known_moved (Some rs) = refl

  unless_moved : (b : Bool) (rs : List SpecRule) → cond b [] (map (renumbered_rule f) rs) ≡ map (renumbered_rule f) (cond b [] rs)
  unless_moved true rs = refl
  unless_moved false rs = refl

  pub search_rules_moved : (D : Declarations) (j : Judgement) → search_rules D (renumbered_judgement f j) ≡ map (renumbered_rule f) (search_rules D j)
  search_rules_moved D j =
      let cs = program_in D in
      ap (λ k. cond (opens_by_layers (option_map T j.focus) k) [] (known (rules_of cs (renumbered_judgement f j)))) (kind_same j.goal)
      ∙ ap (λ b. cond b [] (known (rules_of cs (renumbered_judgement f j)))) (layers_same j.focus (kind_of j.goal))
      ∙ ap (λ o. cond (opens_by_layers j.focus (kind_of j.goal)) [] (known o)) (rules_moved f cs j)
      ∙ ap (cond (opens_by_layers j.focus (kind_of j.goal)) []) (known_moved (rules_of cs j))
      ∙ unless_moved (opens_by_layers j.focus (kind_of j.goal)) (known (rules_of cs j))

  -- WHERE THE SEARCH IS BLIND
  module _ (agree : (i j : ℕ) → same_number (f i) (f j) ≡ same_number i j) (ys : List (tree.Variable ℕ)) where
    abbrev Vs : List (tree.Variable ℕ)
    Vs = map (translate_variable f) ys

    head_hidden : (t : Read) → hides_head Vs (T t) ≡ hides_head ys t
    head_hidden (lam A x t) = refl
    head_hidden (spine h ts) = flexible_moved f agree ys h

    any_hidden : (ps : List Part) → list_any (λ (p : Part). hides_head Vs p.atom) (map (renumbered_part f) ps) ≡ list_any (λ (p : Part). hides_head ys p.atom) ps
    any_hidden [] = refl
    any_hidden (p ∷ ps) =
        ap (λ b. b || list_any (λ (q : Part). hides_head Vs q.atom) (map (renumbered_part f) ps)) (head_hidden p.atom)
        ∙ ap (λ b. hides_head ys p.atom || b) (any_hidden ps)

    hidden : (C : Read) → hides Vs (T C) ≡ hides ys C
    hidden (spine (logical plain.judgement) (term L (term G no_terms))) = head_hidden G
    hidden (spine (logical plain.focused_judgement) (term L (term F (term A no_terms)))) =
        ap (λ ps. list_any (λ (p : Part). hides_head Vs p.atom) ps || hides_head Vs (T A)) (sym (parts_moved f F))
        ∙ ap (λ b. b || hides_head Vs (T A)) (any_hidden (parts_of F))
        ∙ ap (λ b. list_any (λ (p : Part). hides_head ys p.atom) (parts_of F) || b) (head_hidden A)
    hidden _ = refl

    pub blind_same : (C : Read) → is_blind Vs (T C) ≡ is_blind ys C
    blind_same (spine (logical (plain.hash i)) (term F no_terms)) = hidden F
    blind_same C = hidden C
