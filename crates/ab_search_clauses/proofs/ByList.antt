-- A JUDGEMENT BY THE LIST, on the path of an answer: where the list isn't empty in the end, some formula of it comes into focus wherever the judgement stands.
use Rattle.std.proofs.Common.{◌≡◌, ℕ, zero, List, [], map, codes, Bool, true, false, cond, if◌then◌else◌, Option, Some, None, option_map, refl, sym, ◌∙◌, ap, subst}
use Rattle.std.specs.Prelude.{Contains}
use Rattle.std.specs.List.{list_any}
use Rattle.ab_term.specs.Types.{o}
use Rattle.ab_term.specs.Logical.{judgement, focused_judgement, existential}
use Rattle.ab_term.specs.Terms as tree
use Rattle.ab_term.specs.Terms.{constant, logical, nominal, variable, index, lam, spine, no_terms, term, Read}
use Rattle.ab_term.specs.Typing.{Signature}
use Rattle.ab_term.specs.Substitution.{shift}
use Rattle.ab_term.specs.Variables.{Substitution, value_in, image, IsTyped}
use Rattle.ab_term.specs.Sameness.{same_number}
use Rattle.ab_term.proofs.Compositions.{map_typed}
use Rattle.ab_term.proofs.Images.{shift-image_by}
use Rattle.ab_term.proofs.Lists.{Contains-none, Contains-from_map}
use Rattle.ab_unifiers.specs.Member.{HasMember, in_the_list}
use Rattle.ab_formulas.specs.BodyMarks.{mark_above, with_mark}
use Rattle.ab_formulas.specs.Declarations.{Declarations, signature_in}
use Rattle.ab_formulas.specs.Forms.{Form, truth, falsity, both, either, implies, equal, for_all, exists, nabla, marked, other, form_of}
use Rattle.ab_formulas.specs.Formulas.{a_formula, StandsIn, IsFormula}
use Rattle.ab_formulas.specs.GoalTerms.{HoldsOnly}
use Rattle.ab_formulas.specs.Marks.{Sign, plain}
use Rattle.ab_formulas.specs.Programs.{Program, program_in}
use Rattle.ab_formulas.proofs.Images.{image_formula}
use Rattle.ab_theory.specs.Judgements.{Judgement, judgement_as, judgement_in, as_judgement}
use Rattle.ab_theory.specs.Opening as opening
use Rattle.ab_theory.specs.Opening.{Kind, compound, atomic, undetermined, kind_of, is_undetermined}
use Rattle.ab_theory.specs.Parts.{Part, parts_of}
use Rattle.ab_theory.specs.SpecRules.{SpecRule, by_list, by_part, is_nil, rules_unfocused, rules_in_focus, rules_for, some_item}
use Rattle.ab_search_trees.specs.Judgements.{opens_by_layers, known, search_rules}
use Rattle.ab_search_trees.specs.Ways.{unfolds, demanded}
use Rattle.ab_search_trees.proofs.Images.{form_under, form_image}
use Rattle.ab_search_proofs.specs.Proved.{IsByRule}
use Rattle.ab_search_proofs.proofs.Opening.{listing}
use Rattle.ab_search_clauses.proofs.Atoms.{may_unfold, mark_under}

-- A JUDGEMENT under a substitution
module _ (r : Substitution ℕ (List ℕ)) where
  abbrev under : Read → Read
  under = image same_number r

  abbrev pub judged_under : Judgement → Judgement
  judged_under j = record { sign = j.sign; context = image same_number r j.context; focus = option_map (image same_number r) j.focus; goal = image same_number r j.goal }

  some_under : {j k : Judgement} (o : Option Judgement) → Some j ≡ Some k → o ≡ Some (judged_under j) → o ≡ Some (judged_under k)
  some_under {j = j} {k = k} o e q = let same : j ≡ k = cc in q ∙ ap (λ i. Some (judged_under i)) same

  as_under : (m : Sign) (F : Read) (j : Judgement) → judgement_as m F ≡ Some j → judgement_as m (image same_number r F) ≡ Some (judged_under j)
  as_under m (spine (logical judgement) (term L (term G no_terms))) j e = some_under (judgement_as m (spine (logical judgement) (term (under L) (term (under G) no_terms)))) e refl
  as_under m (spine (logical focused_judgement) (term L (term F (term A no_terms)))) j e = some_under (judgement_as m (spine (logical focused_judgement) (term (under L) (term (under F) (term (under A) no_terms))))) e refl
  as_under m _ j e = absurd (cc)

  in_under : (k : Form) (C : Read) (j : Judgement) → judgement_in k C ≡ Some j → judgement_in (form_under r k) (image same_number r C) ≡ Some (judged_under j)
  in_under (marked m A) C j e = as_under m A j e
  in_under other C j e = as_under plain C j e
  in_under truth C j e = absurd (cc)
  in_under falsity C j e = absurd (cc)
  in_under (both A B) C j e = absurd (cc)
  in_under (either A B) C j e = absurd (cc)
  in_under (implies A B) C j e = absurd (cc)
  in_under (equal A t u) C j e = absurd (cc)
  in_under (for_all A F) C j e = absurd (cc)
  in_under (exists A F) C j e = absurd (cc)
  in_under (nabla A F) C j e = absurd (cc)

  pub judgement_image : (C : Read) (j : Judgement) → StandsIn a_formula C → as_judgement C ≡ Some j → as_judgement (image same_number r C) ≡ Some (judged_under j)
  judgement_image C j stands e = ap (λ k. judgement_in k (image same_number r C)) (form_image r C stands) ∙ in_under (form_of C) C j e

  atomic_under : (G : Read) → kind_of G ≡ atomic → kind_of (image same_number r G) ≡ atomic
  atomic_under (lam A x t) e = absurd (cc)
  atomic_under (spine (constant c) ts) e = refl
  atomic_under (spine (nominal a) ts) e = refl
  atomic_under (spine (logical l) ts) e = absurd (cc)
  atomic_under (spine (variable y) ts) e = absurd (cc)
  atomic_under (spine (index i) ts) e = absurd (cc)

  -- what the rule leaves
  item_under : (sg : Signature) → IsTyped sg r → (m : Sign) (L A : Read) → image same_number r (some_item m L A) ≡ some_item m (image same_number r L) (image same_number r A)
  item_under sg typed m L A =
      let F : Read = spine (index zero) no_terms in
      let shifted : (t : Read) → image same_number r (shift zero t) ≡ shift zero (image same_number r t) = λ t. sym (shift-image_by sg ℕ (List ℕ) (value_in same_number r) (map_typed sg same_number r typed) t zero) in
      let focus : Read → Read → Read = λ K B. spine (logical focused_judgement) (term K (term F (term B no_terms))) in
      let whole : Read → Read → Read = λ M K. spine (logical (existential o)) (term (lam o (codes "F") (opening.both M (spine (constant (codes "member")) (in_the_list F K)))) no_terms) in
      ap (λ M. whole M (image same_number r (shift zero L))) (mark_under (image same_number r) (λ l u. refl) m (focus (shift zero L) (shift zero A)))
      ∙ ap (λ K. whole (with_mark m (focus K (image same_number r (shift zero A)))) K) (shifted L)
      ∙ ap (λ B. whole (with_mark m (focus (shift zero (image same_number r L)) B)) (shift zero (image same_number r L))) (shifted A)

-- where a rule by the list is among those of a search, nothing is in focus and the goal is an atom
module _ (D : Declarations) (j : Judgement) where
  abbrev cs : Program
  cs = program_in D

  -- the rules by what is in focus, and by the goal's kind
  abbrev rules_at : Option Read → Kind → List SpecRule
  rules_at None k = cond (opens_by_layers None k) [] (known (rules_unfocused (program_in D) j.context j.goal k))
  rules_at (Some F) k = cond (opens_by_layers (Some F) k) [] (known (rules_in_focus (parts_of F) k))

  rules_are : search_rules D j ≡ rules_at j.focus (kind_of j.goal)
  rules_are = go j.focus
    where
      go : (o : Option Read) → cond (opens_by_layers o (kind_of j.goal)) [] (known (rules_for (program_in D) o j.context j.goal)) ≡ rules_at o (kind_of j.goal)
      go None = refl
      go (Some F) = refl

  of_parts : (ps : List Part) → Contains (map by_part ps) by_list → ⊥
  of_parts ps m = let from = Contains-from_map by_part ps by_list m in cc

  in_focus : (b : Bool) (ps : List Part) → Contains (known (if b then None else Some (map by_part ps))) by_list → ⊥
  in_focus true ps m = Contains-none by_list m
  in_focus false ps m = of_parts ps m

  pub listed_so : Contains (search_rules D j) by_list → (j.focus ≡ None) × (kind_of j.goal ≡ atomic)
  listed_so m = go j.focus refl (kind_of j.goal) refl (subst (λ l. Contains l by_list) rules_are m)
    where
      go : (f : Option Read) → j.focus ≡ f → (k : Kind) → kind_of j.goal ≡ k → Contains (rules_at f k) by_list → (j.focus ≡ None) × (kind_of j.goal ≡ atomic)
      go None e compound q m = absurd (Contains-none by_list m)
      go None e atomic q m = (e, q)
      go None e undetermined q m = absurd (Contains-none by_list m)
      go (Some F) e compound q m = absurd (in_focus (list_any (λ (p : Part). is_undetermined (kind_of p.atom)) (parts_of F)) (parts_of F) m)
      go (Some F) e atomic q m = absurd (in_focus (list_any (λ (p : Part). is_undetermined (kind_of p.atom)) (parts_of F)) (parts_of F) m)
      go (Some F) e undetermined q m = absurd (Contains-none by_list m)

-- EVIDENCE
pub list_evidence : (D : Declarations) → HasMember (signature_in D) → (C : Read) → IsFormula (signature_in D) C → (j : Judgement) → as_judgement C ≡ Some j → unfolds j.sign ≡ true → Contains (search_rules D j) by_list
    → (ys : List (tree.Variable ℕ)) (r : Substitution ℕ (List ℕ)) → IsTyped (signature_in D) r → HoldsOnly ys (image same_number r C) → is_nil (image same_number r j.context) ≡ false
    → (n : ℕ) → IsByRule D ys (image same_number r C) [] (image same_number r (demanded n j by_list).body)
list_evidence D has C formula j is may there ys r typed scoped some n =
    let so = listed_so D j there in
    subst (IsByRule D ys (image same_number r C) []) (sym (item_under r (signature_in D) typed (mark_above j.sign) j.context j.goal))
    (listing D has ys (image same_number r C) (image_formula (signature_in D) r typed C formula) scoped (judged_under r j) (judgement_image r C j formula.stands is) (may_unfold j.sign may) (ap (option_map (image same_number r)) so.0)
    (atomic_under r j.goal so.1) some)
