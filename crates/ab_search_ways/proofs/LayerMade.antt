-- A judgement with a layer opened.
use Rattle.std.proofs.Common.{◌≡◌, ℕ, zero, ◌≤◌, List, [], ◌∷◌, map, length, slice_index_or, Option, Some, None, sym, ◌∙◌, ap, refl, subst, arith}
use Rattle.std.specs.Prelude.{IfSome}
use Rattle.ab_term.specs.Types.{Ty, arrows, prop, olist, o}
use Rattle.ab_term.specs.Logical.{judgement, nabla, spec_universal}
use Rattle.ab_term.specs.Terms.{logical, lam, spine, Read, term, no_terms, terms_of}
use Rattle.ab_term.specs.Reach.{reach}
use Rattle.ab_term.specs.Typing.{Signature, HasType, typed_spine, take_none, take_term}
use Rattle.ab_term.proofs.Closed.{reach_within}
use Rattle.ab_term.proofs.Reaching.{shift-short}
use Rattle.ab_search_trees.specs.Judgements.{judged, layer_of}

module _ {X : Type 0} (f : X → Read) where
  -- a judgement of two terms
  pub two_judged : (d : X) (ts : List X) → length ts ≡ 2 → spine (logical judgement) (terms_of (map f ts)) ≡ judged (f (slice_index_or ts 0 d)) (f (slice_index_or ts 1 d))
  two_judged d [] e = absurd (omega (arith, e))
  two_judged d (t ∷ []) e = absurd (omega (arith, e))
  two_judged d (t ∷ u ∷ []) e = refl
  two_judged d (t ∷ u ∷ v ∷ ts) e = absurd (omega (arith, e))

pub if_some : {X : Type 0} {P Q : X → Type 0} (m : Option X) → ((x : X) → P x → Q x) → IfSome m P → IfSome m Q
if_some None f h = h
if_some (Some x) f h = f x h

module _ (sg : Signature) where
  pub list_typed : (L G F : Read) → F ≡ judged L G → HasType sg [] F prop → HasType sg [] L olist
  list_typed L G F e d = go (subst (λ (t : Read). HasType sg [] t prop) e d)
    where
      go : HasType sg [] (judged L G) prop → HasType sg [] L olist
      go (typed_spine {A = C} h (take_term {A = D} u (take_term {A = E} b take_none))) =
          let whole : Some C ≡ Some (arrows (olist ∷ o ∷ []) prop) = sym h in
          let first : D ≡ olist = cc in
          subst (HasType sg {Var = ℕ} {Hint = List ℕ} [] L) first u

  -- what stands under a binder, beside a list in which no bound name stands
  pub under_nabla : (A B : Ty) (x : List ℕ) (L G a under inner r : Read) → HasType sg [] L olist → a ≡ lam B x G → inner ≡ judged L G → under ≡ lam A x inner → r ≡ spine (logical (nabla A)) (term under no_terms)
      → Some r ≡ layer_of L (spine (logical (spec_universal A)) (term a no_terms))
  under_nabla A B x L G a under inner r typed is judge abstracts made =
      ap Some (made ∙ ap (λ u. spine (logical (nabla A)) (term u no_terms)) (abstracts ∙ ap (lam A x) (judge ∙ ap (λ l. judged l G) (sym (shift-short L zero short)))))
      ∙ sym (ap (λ t. layer_of L (spine (logical (spec_universal A)) (term t no_terms))) is)
    where
      short : reach L ≤ 0
      short = reach_within sg typed
