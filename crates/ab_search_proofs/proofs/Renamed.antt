-- What the rules see of a formula, with other nominal constants: its form, its marks, that it is a formula.
use Rattle.std.proofs.Common.{◌≡◌, ℕ, List, [], ◌∷◌, refl, sym, ◌∙◌, ap}
use Rattle.ab_term.specs.Logical as plain
use Rattle.ab_term.specs.Logical.{Logical}
use Rattle.ab_term.specs.Terms.{Nominal, Head, constant, logical, nominal, variable, index, lam, spine, Terms, no_terms, term, Read}
use Rattle.ab_term.specs.Names.{rename_head, rename, rename_all}
use Rattle.ab_formulas.specs.Formulas.{Place, a_formula, a_scope, a_marked, any, places_of, IsRigid, IsAtomic, StandsIn, AllStandIn}
use Rattle.ab_formulas.specs.Forms.{Form, truth, falsity, both, either, implies, equal, for_all, exists, nabla, marked, other, form_alone, form_with, form_between, form_given, form_of}
use Rattle.ab_formulas.specs.Marks as marks
use Rattle.ab_formulas.specs.Marks.{Sign, Marks, Making, by_head, by_scope, by_parts, by_mark, marks_of_head, making_of, marks_made, marks_of, marks_of_all, unmarked, erased, erased_all}

module _ (m : Nominal → Nominal) where
  -- THE FORM

  abbrev pub form_renamed : Form → Form
  form_renamed truth = truth
  form_renamed falsity = falsity
  form_renamed (both A B) = both (rename m A) (rename m B)
  form_renamed (either A B) = either (rename m A) (rename m B)
  form_renamed (implies A B) = implies (rename m A) (rename m B)
  form_renamed (equal A t u) = equal A (rename m t) (rename m u)
  form_renamed (for_all A F) = for_all A (rename m F)
  form_renamed (exists A F) = exists A (rename m F)
  form_renamed (nabla A F) = nabla A (rename m F)
  form_renamed (marked k A) = marked k (rename m A)
  form_renamed other = other

  alone_renamed : (l : Logical) → form_alone l ≡ form_renamed (form_alone l)
  alone_renamed plain.truth = refl
  alone_renamed plain.falsity = refl
  alone_renamed _ = refl

  with_renamed : (l : Logical) (t : Read) → form_with l (rename m t) ≡ form_renamed (form_with l t)
  with_renamed (plain.universal A) t = refl
  with_renamed (plain.existential A) t = refl
  with_renamed (plain.nabla A) t = refl
  with_renamed (plain.star i) t = refl
  with_renamed (plain.at_sign i) t = refl
  with_renamed (plain.plus i) t = refl
  with_renamed (plain.hash i) t = refl
  with_renamed _ t = refl

  between_renamed : (l : Logical) (t u : Read) → form_between l (rename m t) (rename m u) ≡ form_renamed (form_between l t u)
  between_renamed plain.conjunction t u = refl
  between_renamed plain.disjunction t u = refl
  between_renamed plain.implication t u = refl
  between_renamed (plain.equality A) t u = refl
  between_renamed _ t u = refl

  given_renamed : (l : Logical) (ts : Terms ℕ (List ℕ)) → form_given l (rename_all m ts) ≡ form_renamed (form_given l ts)
  given_renamed l no_terms = alone_renamed l
  given_renamed l (term t no_terms) = with_renamed l t
  given_renamed l (term t (term u no_terms)) = between_renamed l t u
  given_renamed l (term t (term u (term v ts))) = refl

  pub form_of-rename : (C : Read) → form_of (rename m C) ≡ form_renamed (form_of C)
  form_of-rename (lam A x t) = refl
  form_of-rename (spine (constant c) ts) = refl
  form_of-rename (spine (nominal a) ts) = refl
  form_of-rename (spine (variable y) ts) = refl
  form_of-rename (spine (index i) ts) = refl
  form_of-rename (spine (logical l) ts) = given_renamed l ts

  -- MARKS

  making_same : (h : Head ℕ) → making_of (rename_head m h) ≡ making_of h
  making_same (constant c) = refl
  making_same (logical l) = refl
  making_same (nominal a) = refl
  making_same (variable x) = refl
  making_same (index i) = refl

  head_marks : (k : Sign) (h : Head ℕ) → marks_of_head k (rename_head m h) ≡ marks_of_head k h
  head_marks k (constant c) = refl
  head_marks k (logical l) = refl
  head_marks k (nominal a) = refl
  head_marks k (variable x) = refl
  head_marks k (index i) = refl

  marked_same : (k : Sign) (t : Read) → marks.marked k (rename m t) ≡ marks.marked k t
  marked_same k (lam A x t) = refl
  marked_same k (spine h ts) = head_marks k h

  made_same : (k : Making) (h : Head ℕ) (ts : Terms ℕ (List ℕ)) (ms : List Marks) → marks_made k (rename_head m h) (rename_all m ts) ms ≡ marks_made k h ts ms
  made_same by_head h ts ms = head_marks marks.plain h
  made_same (by_mark k) h no_terms ms = refl
  made_same (by_mark k) h (term t ts) ms = marked_same k t
  made_same by_scope h ts [] = refl
  made_same by_scope h ts (k ∷ []) = refl
  made_same by_scope h ts (k ∷ n ∷ ms) = refl
  made_same by_parts h ts [] = refl
  made_same by_parts h ts (k ∷ []) = refl
  made_same by_parts h ts (k ∷ n ∷ []) = refl
  made_same by_parts h ts (k ∷ n ∷ o ∷ ms) = refl

  mutual
    pub marks_of-rename : (t : Read) → marks_of (rename m t) ≡ marks_of t
    marks_of-rename (lam A x t) = marks_of-rename t
    marks_of-rename (spine h ts) =
        ap (λ k. marks_made k (rename_head m h) (rename_all m ts) (marks_of_all (rename_all m ts))) (making_same h)
        ∙ ap (marks_made (making_of h) (rename_head m h) (rename_all m ts)) (all_marks_same ts)
        ∙ made_same (making_of h) h ts (marks_of_all ts)

    all_marks_same : (ts : Terms ℕ (List ℕ)) → marks_of_all (rename_all m ts) ≡ marks_of_all ts
    all_marks_same no_terms = refl
    all_marks_same (term t ts) = ap (λ k. k ∷ marks_of_all (rename_all m ts)) (marks_of-rename t) ∙ ap (λ ms. marks_of t ∷ ms) (all_marks_same ts)

  unmarked_renamed : (k : Making) (h : Head ℕ) (ts us : Terms ℕ (List ℕ)) → rename m (unmarked k h ts us) ≡ unmarked k (rename_head m h) (rename_all m ts) (rename_all m us)
  unmarked_renamed by_head h ts us = refl
  unmarked_renamed by_scope h ts us = refl
  unmarked_renamed by_parts h ts us = refl
  unmarked_renamed (by_mark k) h no_terms us = refl
  unmarked_renamed (by_mark k) h (term t ts) us = refl

  mutual
    pub rename-erased : (t : Read) → rename m (erased t) ≡ erased (rename m t)
    rename-erased (lam A x t) = ap (lam A x) (rename-erased t)
    rename-erased (spine h ts) =
        unmarked_renamed (making_of h) h ts (erased_all ts)
        ∙ ap (unmarked (making_of h) (rename_head m h) (rename_all m ts)) (rename_all-erased ts)
        ∙ ap (λ k. unmarked k (rename_head m h) (rename_all m ts) (erased_all (rename_all m ts))) (sym (making_same h))

    rename_all-erased : (ts : Terms ℕ (List ℕ)) → rename_all m (erased_all ts) ≡ erased_all (rename_all m ts)
    rename_all-erased no_terms = refl
    rename_all-erased (term t ts) = ap (λ u. term u (rename_all m (erased_all ts))) (rename-erased t) ∙ ap (term (erased (rename m t))) (rename_all-erased ts)

  -- IT STAYS A FORMULA

  rigid_renamed : (h : Head ℕ) → IsRigid h → IsRigid (rename_head m h)
  rigid_renamed (constant c) i = tt
  rigid_renamed (logical l) i = tt
  rigid_renamed (nominal a) i = tt
  rigid_renamed (variable y) i = i
  rigid_renamed (index k) i = i

  atomic_renamed : (h : Head ℕ) → IsAtomic h → IsAtomic (rename_head m h)
  atomic_renamed (constant c) i = tt
  atomic_renamed (logical l) i = i
  atomic_renamed (nominal a) i = tt
  atomic_renamed (variable y) i = i
  atomic_renamed (index k) i = i

  places_renamed : (h : Head ℕ) → places_of (rename_head m h) ≡ places_of h
  places_renamed (constant c) = refl
  places_renamed (logical l) = refl
  places_renamed (nominal a) = refl
  places_renamed (variable y) = refl
  places_renamed (index k) = refl

  mutual
    pub rename_stands : (p : Place) (t : Read) → StandsIn p t → StandsIn p (rename m t)
    rename_stands any t s = tt
    rename_stands a_formula (lam A x t) s = s
    rename_stands a_formula (spine h ts) s = (rigid_renamed h s.0, rw (places_renamed h) (rename_all_stand (places_of h) ts s.1))
    rename_stands a_scope (lam A x t) s = rename_stands a_formula t s
    rename_stands a_scope (spine h ts) s = s
    rename_stands a_marked (lam A x t) s = s
    rename_stands a_marked (spine h ts) s = atomic_renamed h s

    rename_all_stand : (p : Place) (ts : Terms ℕ (List ℕ)) → AllStandIn p ts → AllStandIn p (rename_all m ts)
    rename_all_stand p no_terms s = tt
    rename_all_stand p (term t ts) s = (rename_stands p t s.0, rename_all_stand p ts s.1)
