-- What comes of judgements is typed, and formulas.
use Rattle.std.proofs.Common.{◌≡◌, ℕ, zero, List, [], ◌∷◌, refl, sym, ◌∙◌, subst, Some, codes}
use Rattle.ab_term.specs.Types.{Ty, kind, arrow, arrows, o, olist, prop}
use Rattle.ab_term.specs.Logical.{nabla, judgement, spec_universal, spec_implication, spec_conjunction}
use Rattle.ab_term.specs.Terms.{Head, logical, lam, spine, no_terms, term, Read}
use Rattle.ab_term.specs.Typing.{Signature, head_type, HasType, TakeType, typed_lam, typed_spine, take_none, take_term}
use Rattle.ab_term.specs.Substitution.{shift}
use Rattle.ab_term.proofs.Preservation.{here, shift_typed}
use Rattle.ab_unifiers.specs.Member.{before}
use Rattle.ab_formulas.specs.Marks.{Sign, plain, star_of, at_of, plus_of, hash_of}
use Rattle.ab_formulas.specs.Formulas.{IsFormulaUnder}
use Rattle.ab_theory.specs.Judgements.{marked_judgement}
use Rattle.ab_theory.specs.Opening.{open_goal, both}

module _ (sg : Signature) (cons : sg (codes "::") ≡ Some (arrows (o ∷ olist ∷ []) olist)) where
  abbrev IsOne : List Ty → Read → Type 0
  IsOne G F = IsFormulaUnder sg G F

  two_given : {G : List Ty} {A B : Ty} {k : List ℕ} {t u : Read} → HasType sg G t A → HasType sg G u B → TakeType sg {Var = ℕ} {Hint = List ℕ} G (term t (term u no_terms)) (arrow A (arrow B (kind k))) (kind k)
  two_given d e = take_term d (take_term e take_none)

  judgement_typed : {G : List Ty} {L A : Read} → HasType sg G L olist → HasType sg G A o → HasType sg G (spine (logical judgement) (term L (term A no_terms))) prop
  judgement_typed d e = typed_spine refl (two_given d e)

  pub judged_formula : (m : Sign) {G : List Ty} {L A : Read} → HasType sg G L olist → HasType sg G A o → IsOne G (marked_judgement m L A)
  judged_formula plain d e = record { typed = judgement_typed d e; stands = (tt, (tt, (tt, tt))) }
  judged_formula (star_of i) d e = record { typed = typed_spine refl (take_term (judgement_typed d e) take_none); stands = (tt, (tt, tt)) }
  judged_formula (at_of i) d e = record { typed = typed_spine refl (take_term (judgement_typed d e) take_none); stands = (tt, (tt, tt)) }
  judged_formula (plus_of i) d e = record { typed = typed_spine refl (take_term (judgement_typed d e) take_none); stands = (tt, (tt, tt)) }
  judged_formula (hash_of i) d e = record { typed = typed_spine refl (take_term (judgement_typed d e) take_none); stands = (tt, (tt, tt)) }

  both_formula : {G : List Ty} {E F : Read} → IsOne G E → IsOne G F → IsOne G (both E F)
  both_formula a b = record { typed = typed_spine refl (two_given a.typed b.typed); stands = (tt, (a.stands, (b.stands, tt))) }

  nabla_formula : {G : List Ty} {A : Ty} {x : List ℕ} {F : Read} → IsOne (A ∷ G) F → IsOne G (spine (logical (nabla A)) (term (lam A x F) no_terms))
  nabla_formula a = record { typed = typed_spine refl (take_term (typed_lam a.typed) take_none); stands = (tt, (a.stands, tt)) }

  scope_of : {G : List Ty} {A B : Ty} {x : List ℕ} {g : Read} → HasType sg G (spine (logical (spec_universal A)) (term (lam B x g) no_terms)) o → HasType sg (A ∷ G) g o
  scope_of {G = G} {A = A} {g = g} (typed_spine {A = C} e (take_term {A = D} {B = E} (typed_lam {A = F} {B = Y} d) take_none)) =
      let whole : arrow (arrow A o) o ≡ C = cc in
      let domain : A ≡ F = cc in
      let range : o ≡ Y = cc in
      let there : HasType sg {Var = ℕ} {Hint = List ℕ} (F ∷ G) g o = subst (HasType sg {Var = ℕ} {Hint = List ℕ} (F ∷ G) g) (sym range) d in
      subst (λ Z. HasType sg {Var = ℕ} {Hint = List ℕ} (Z ∷ G) g o) (sym domain) there

  sides_of : {G : List Ty} {l : Head ℕ} {F g : Read} → head_type sg G l ≡ Some (arrows (o ∷ o ∷ []) o) → HasType sg G (spine l (term F (term g no_terms))) o → HasType sg G F o × HasType sg G g o
  sides_of {G = G} {F = F} {g = g} h (typed_spine {A = C} e (take_term {A = D} d (take_term {A = E} b take_none))) =
      let whole : Some C ≡ Some (arrows (o ∷ o ∷ []) o) = sym e ∙ h in
      let first : D ≡ o = cc in
      let second : E ≡ o = cc in
      (subst (HasType sg {Var = ℕ} {Hint = List ℕ} G F) first d, subst (HasType sg {Var = ℕ} {Hint = List ℕ} G g) second b)

  before_typed : {G : List Ty} {F L : Read} → HasType sg G F o → HasType sg G L olist → HasType sg G (before F L) olist
  before_typed d e = typed_spine cons (two_given d e)

  -- A GOAL, OPENED, IS A FORMULA
  pub opened_formula : (m : Sign) (G : List Ty) (L g : Read) → HasType sg G L olist → HasType sg G g o → IsOne G (open_goal m L g)
  opened_formula m G L (spine (logical (spec_universal A)) (term (lam B x g) no_terms)) d e = nabla_formula (opened_formula m (A ∷ G) (shift zero L) g (shift_typed sg here d) (scope_of e))
  opened_formula m G L (spine (logical spec_implication) (term F (term g no_terms))) d e = let s = sides_of refl e in opened_formula m G (before F L) g (before_typed s.0 d) s.1
  opened_formula m G L (spine (logical spec_conjunction) (term F (term g no_terms))) d e = let s = sides_of refl e in both_formula (opened_formula m G L F d s.0) (opened_formula m G L g d s.1)
  opened_formula m G L g d e = judged_formula m d e
