-- WHAT GIVES A FORMULA still does with other hints: layers open past hints.
use Rattle.std.proofs.Common.{◌≡◌, ℕ, zero, List, [], ◌∷◌, codes, Some, refl, sym, ◌∙◌, ap, subst}
use Rattle.ab_term.specs.Types.{Ty, arrow, prop}
use Rattle.ab_term.specs.Logical as plain
use Rattle.ab_term.specs.Terms as tree
use Rattle.ab_term.specs.Terms.{constant, logical, Term, lam, spine, Terms, no_terms, term, Read}
use Rattle.ab_term.specs.Typing.{Signature, HasType, typed_lam, typed_spine, take_none, take_term}
use Rattle.ab_term.specs.Substitution.{shift, instance}
use Rattle.ab_term.specs.Translation.{forget}
use Rattle.ab_term.proofs.PastHints.{shift_past_hints, instance_past_hints}
use Rattle.ab_term.proofs.Preservation.{here, shift_typed, instance_typed}
use Rattle.ab_unifiers.specs.Member.{HasMember, before}
use Rattle.ab_formulas.specs.Declarations.{Declarations, signature_in}
use Rattle.ab_formulas.specs.Formulas.{a_formula, a_scope, StandsIn, IsFormula}
use Rattle.ab_formulas.specs.Forms.{exists, form_of}
use Rattle.ab_formulas.proofs.Scopes.{instance_stands}
use Rattle.ab_theory.specs.Opening.{both}
use Rattle.ab_search_trees.specs.Judgements.{judged, layer_of, opened_once}
use Rattle.ab_search_trees.proofs.Forms.{begins_logical, one_more, no_more, abstraction}
use Rattle.ab_search_proofs.proofs.Connectives.{same_option}
use Rattle.ab_search_proofs.proofs.OpenedAlike.{arguments_of, first_of, rest_of, body_of}
use Rattle.ab_search_layers.specs.Layered.{OpensTo, it_stays, a_layer, in_both, in_nabla, in_exists, Gives, it_opens, but_for_hints, of_a_term, of_each_term, of_any_term}
use Rattle.ab_search_layers.proofs.Giving.{is_exists}
use Rattle.ab_search_layers.proofs.Opens.{layer}

-- THE SAME SHAPE past hints
record IsOne (C : Read) (l : plain.Logical) (t : Read) : Type 0 where
  part : Read
  whole : C ≡ spine (logical l) (term part no_terms)
  same : forget part ≡ forget t

record IsTwo (C : Read) (l : plain.Logical) (t u : Read) : Type 0 where
  first : Read
  second : Read
  whole : C ≡ spine (logical l) (term first (term second no_terms))
  same : forget first ≡ forget t
  same_too : forget second ≡ forget u

as_one : (C : Read) (l : plain.Logical) (t : Read) → forget C ≡ forget (spine (logical l) (term t no_terms)) → IsOne C l t
as_one C l t e =
    let b = begins_logical l (term (forget t) no_terms) C (sym e) in
    let one = one_more b.0 b.2 in
    record { part = one.0; whole = b.1 ∙ ap (spine (logical l)) (one.2 ∙ ap (term one.0) (no_more one.4)); same = sym one.3 }

as_two : (C : Read) (l : plain.Logical) (t u : Read) → forget C ≡ forget (spine (logical l) (term t (term u no_terms))) → IsTwo C l t u
as_two C l t u e =
    let b = begins_logical l (term (forget t) (term (forget u) no_terms)) C (sym e) in
    let one = one_more b.0 b.2 in
    let two = one_more one.1 one.4 in
    record { first = one.0; second = two.0; whole = b.1 ∙ ap (spine (logical l)) (one.2 ∙ ap (term one.0) (two.2 ∙ ap (term two.0) (no_more two.4))); same = sym one.3; same_too = sym two.3 }

record IsScope (t : Read) (A : Ty) (F : Read) : Type 0 where
  hint : List ℕ
  body : Read
  whole : t ≡ lam A hint body
  same : forget body ≡ forget F

as_scope : (t : Read) (A : Ty) (x : List ℕ) (F : Read) → forget t ≡ forget (lam A x F) → IsScope t A F
as_scope t A x F e = let a = abstraction t (sym e) in record { hint = a.0; body = a.1; whole = a.2; same = sym a.3 }

two_same : (l : plain.Logical) (A B C E : Read) → forget A ≡ forget C → forget B ≡ forget E → forget (spine (logical l) (term A (term B no_terms))) ≡ forget (spine (logical l) (term C (term E no_terms)))
two_same l A B C E a b = ap (λ t. spine (logical l) (term t (term (forget B) no_terms))) a ∙ ap (λ t. spine (logical l) (term (forget C) (term t no_terms))) b

-- A LAYER
layer_back : (L G M H F : Read) → forget L ≡ forget M → forget G ≡ forget H → layer_of M H ≡ Some F → (K : Read) × (layer_of L G ≡ Some K) × (forget K ≡ forget F)
layer_back L G M (spine (logical plain.spec_conjunction) (term A (term B no_terms))) F l e q =
    let k = as_two G plain.spec_conjunction A B e in (
      both (judged L k.first) (judged L k.second),
      ap (layer_of L) k.whole,
      two_same plain.conjunction (judged L k.first) (judged L k.second) (judged M A) (judged M B) (two_same plain.judgement L k.first M A l k.same) (two_same plain.judgement L k.second M B l k.same_too)
          ∙ ap forget (same_option q),
    )
layer_back L G M (spine (logical plain.spec_implication) (term A (term B no_terms))) F l e q =
    let k = as_two G plain.spec_implication A B e in (
      judged (before k.first L) k.second,
      ap (layer_of L) k.whole,
      two_same plain.judgement (before k.first L) k.second (before A M) B (ap (λ t. spine (constant (codes "::")) (term t (term (forget L) no_terms))) k.same ∙ ap (λ t. spine (constant (codes "::")) (term (forget A) (term t no_terms))) l) k.same_too
          ∙ ap forget (same_option q),
    )
layer_back L G M (spine (logical (plain.spec_universal A)) (term (lam B x H) no_terms)) F l e q =
    let k = as_one G (plain.spec_universal A) (lam B x H) e in
    let s = as_scope k.part B x H k.same in (
      spine (logical (plain.nabla A)) (term (lam A s.hint (judged (shift zero L) s.body)) no_terms),
      ap (layer_of L) (k.whole ∙ ap (λ t. spine (logical (plain.spec_universal A)) (term t no_terms)) s.whole),
      ap (λ t. spine (logical (plain.nabla A)) (term (lam A tt t) no_terms)) (two_same plain.judgement (shift zero L) s.body (shift zero M) H (shift_past_hints zero L M l) s.same)
          ∙ ap forget (same_option q),
    )
layer_back L G M _ F l e q = absurd (cc)

-- IT OPENS, with other hints
pub opens_back : {C E : Read} → OpensTo C E → (B : Read) → forget B ≡ forget C → (K : Read) × OpensTo B K × (forget K ≡ forget E)
opens_back it_stays B e = (B, it_stays, e)
opens_back (a_layer {F = C} {G = F} q o) B e =
    let k = layer C F q in
    let two = as_two B plain.judgement k.context k.goal (e ∙ ap forget k.is) in
    let below = layer_back two.first two.second k.context k.goal F two.same two.same_too (sym (ap opened_once k.is) ∙ q) in
    let rest = opens_back o below.0 below.2 in
    (rest.0, a_layer (ap opened_once two.whole ∙ below.1) rest.1, rest.2)
opens_back (in_both {A = A} {B = F} {C = C} {E = E} a b) B e =
    let two = as_two B plain.conjunction A F e in
    let one = opens_back a two.first two.same in
    let other = opens_back b two.second two.same_too in
    (both one.0 other.0, subst (λ t. OpensTo t (both one.0 other.0)) (sym two.whole) (in_both one.1 other.1), two_same plain.conjunction one.0 other.0 C E one.2 other.2)
opens_back (in_nabla {A = A} {B = D} {x = x} {F = F} {G = G} o) B e =
    let one = as_one B (plain.nabla A) (lam D x F) e in
    let s = as_scope one.part D x F one.same in
    let rest = opens_back o s.body s.same in (
      spine (logical (plain.nabla A)) (term (lam D s.hint rest.0) no_terms),
      subst (λ t. OpensTo t (spine (logical (plain.nabla A)) (term (lam D s.hint rest.0) no_terms))) (sym (one.whole ∙ ap (λ t. spine (logical (plain.nabla A)) (term t no_terms)) s.whole)) (in_nabla rest.1),
      ap (λ t. spine (logical (plain.nabla A)) (term (lam D tt t) no_terms)) rest.2,
    )
opens_back (in_exists {A = A} {B = D} {x = x} {F = F} {G = G} o) B e =
    let one = as_one B (plain.existential A) (lam D x F) e in
    let s = as_scope one.part D x F one.same in
    let rest = opens_back o s.body s.same in (
      spine (logical (plain.existential A)) (term (lam D s.hint rest.0) no_terms),
      subst (λ t. OpensTo t (spine (logical (plain.existential A)) (term (lam D s.hint rest.0) no_terms))) (sym (one.whole ∙ ap (λ t. spine (logical (plain.existential A)) (term t no_terms)) s.whole)) (in_exists rest.1),
      ap (λ t. spine (logical (plain.existential A)) (term (lam D tt t) no_terms)) rest.2,
    )

-- WHAT A FORMULA OPENS TO is one
layer_stands : (L G F : Read) → layer_of L G ≡ Some F → StandsIn a_formula F
layer_stands L (spine (logical plain.spec_conjunction) (term A (term B no_terms))) F q = subst (StandsIn a_formula) (same_option q) (tt, ((tt, (tt, (tt, tt))), ((tt, (tt, (tt, tt))), tt)))
layer_stands L (spine (logical plain.spec_implication) (term A (term B no_terms))) F q = subst (StandsIn a_formula) (same_option q) (tt, (tt, (tt, tt)))
layer_stands L (spine (logical (plain.spec_universal A)) (term (lam B x G) no_terms)) F q = subst (StandsIn a_formula) (same_option q) (tt, ((tt, (tt, (tt, tt))), tt))
layer_stands L _ F q = absurd (cc)

stands_on : {C E : Read} → OpensTo C E → StandsIn a_formula C → StandsIn a_formula E
stands_on it_stays s = s
stands_on (a_layer {F = C} {G = F} q o) s = let k = layer C F q in stands_on o (layer_stands k.context k.goal F (sym (ap opened_once k.is) ∙ q))
stands_on (in_both a b) s = (tt, (stands_on a s.1.0, (stands_on b s.1.1.0, tt)))
stands_on (in_nabla o) s = (tt, (stands_on o s.1.0, tt))
stands_on (in_exists o) s = (tt, (stands_on o s.1.0, tt))

module _ (sg : Signature) (has : HasMember sg) where
  same_domain : {Γ : List Ty} {A B C : Ty} {x : List ℕ} {t : Read} → HasType sg Γ (lam C x t) (arrow A B) → C ≡ A
  same_domain (typed_lam d) = refl

  layer_typed : (Γ : List Ty) (L G F : Read) → HasType sg Γ (judged L G) prop → layer_of L G ≡ Some F → HasType sg Γ F prop
  layer_typed Γ L (spine (logical plain.spec_conjunction) (term A (term B no_terms))) F d q =
      let ds = arguments_of sg plain.judgement d in
      let l = first_of sg ds in
      let g = arguments_of sg plain.spec_conjunction (first_of sg (rest_of sg ds)) in
      subst (λ t. HasType sg Γ t prop) (same_option q) (typed_spine refl (take_term (typed_spine refl (take_term l (take_term (first_of sg g) take_none))) (take_term (typed_spine refl (take_term l (take_term (first_of sg (rest_of sg g)) take_none))) take_none)))
  layer_typed Γ L (spine (logical plain.spec_implication) (term A (term B no_terms))) F d q =
      let ds = arguments_of sg plain.judgement d in
      let l = first_of sg ds in
      let g = arguments_of sg plain.spec_implication (first_of sg (rest_of sg ds)) in
      subst (λ t. HasType sg Γ t prop) (same_option q) (typed_spine refl (take_term (typed_spine has.cons (take_term (first_of sg g) (take_term l take_none))) (take_term (first_of sg (rest_of sg g)) take_none)))
  layer_typed Γ L (spine (logical (plain.spec_universal A)) (term (lam B x G) no_terms)) F d q =
      let ds = arguments_of sg plain.judgement d in
      let l = first_of sg ds in
      let g = body_of sg (first_of sg (arguments_of sg (plain.spec_universal A) (first_of sg (rest_of sg ds)))) in
      subst (λ t. HasType sg Γ t prop) (same_option q) (typed_spine refl (take_term (typed_lam (typed_spine refl (take_term (shift_typed sg here l) (take_term g take_none)))) take_none))
  layer_typed Γ L _ F d q = absurd (cc)

  typed_on : {C E : Read} → OpensTo C E → (Γ : List Ty) → HasType sg Γ C prop → HasType sg Γ E prop
  typed_on it_stays Γ d = d
  typed_on (a_layer {F = C} {G = F} q o) Γ d = let k = layer C F q in typed_on o Γ (layer_typed Γ k.context k.goal F (subst (λ t. HasType sg Γ t prop) k.is d) (sym (ap opened_once k.is) ∙ q))
  typed_on (in_both a b) Γ d = let ds = arguments_of sg plain.conjunction d in typed_spine refl (take_term (typed_on a Γ (first_of sg ds)) (take_term (typed_on b Γ (first_of sg (rest_of sg ds))) take_none))
  typed_on (in_nabla {A = A} {B = B} {x = x} {G = G} o) Γ d =
      let s = first_of sg (arguments_of sg (plain.nabla A) d) in
      subst (λ K. HasType sg Γ (spine (logical (plain.nabla A)) (term (lam K x G) no_terms)) prop) (sym (same_domain s)) (typed_spine refl (take_term (typed_lam (typed_on o (A ∷ Γ) (body_of sg s))) take_none))
  typed_on (in_exists {A = A} {B = B} {x = x} {G = G} o) Γ d =
      let s = first_of sg (arguments_of sg (plain.existential A) d) in
      subst (λ K. HasType sg Γ (spine (logical (plain.existential A)) (term (lam K x G) no_terms)) prop) (sym (same_domain s)) (typed_spine refl (take_term (typed_lam (typed_on o (A ∷ Γ) (body_of sg s))) take_none))

module _ (D : Declarations) (has : HasMember (signature_in D)) (ys : List (tree.Variable ℕ)) where
  abbrev sg : Signature
  sg = signature_in D

  -- `exists`, with other hints
  record IsLikewise (C : Read) (A : Ty) (R : Read) : Type 0 where
    scope : Read
    here : form_of C ≡ exists A scope
    same : forget scope ≡ forget R
    put : (t : Read) → HasType sg [] t A → IsFormula sg (instance scope t)

  likewise : (C B : Read) (A : Ty) (R : Read) → IsFormula sg C → forget C ≡ forget B → form_of B ≡ exists A R → StandsIn a_formula B → IsLikewise C A R
  likewise C B A R f e h s =
      let x = is_exists B A R h s in
      let one = as_one C (plain.existential A) (lam x.type x.hint x.body) (e ∙ ap forget x.whole) in
      let scope_stands : StandsIn a_scope one.part = (subst (StandsIn a_formula) one.whole f.stands).1.0 in
      let scope_typed = first_of sg (arguments_of sg (plain.existential A) (subst (λ t. HasType sg [] t prop) one.whole f.typed)) in
      record {
        scope = one.part;
        here = ap form_of one.whole;
        same = one.same ∙ ap forget (sym x.scope);
        put = λ t d. record { typed = instance_typed sg scope_typed d; stands = instance_stands one.part t scope_stands };
      }

  -- WHAT GIVES IT, with other hints
  pub gives_past_hints : {C B : Read} → Gives D ys C B → StandsIn a_formula C → (K : Read) → IsFormula sg K → forget K ≡ forget C → Gives D ys K B
  gives_past_hints (it_opens o) s K f e =
      let r = opens_back o K e in
      but_for_hints (record { typed = typed_on sg has r.1 [] f.typed; stands = stands_on r.1 f.stands }) r.2 (it_opens r.1)
  gives_past_hints (but_for_hints g q rest) s K f e = but_for_hints g q (gives_past_hints rest s K f e)
  gives_past_hints (of_a_term t h d known rest) s K f e = of_a_term t h d known (gives_past_hints rest s K f e)
  gives_past_hints {C = C} (of_each_term {R = R} {S = S} {A = A} g h k each) s K f e =
      let l = likewise K C A R f e h g.stands in
      of_each_term f l.here k (λ t d. gives_past_hints (each t d) (put_stands C A R h g.stands t) (instance l.scope t) (l.put t d) (instance_past_hints l.scope t R t l.same refl))
    where
      put_stands : (C : Read) (A : Ty) (R : Read) → form_of C ≡ exists A R → StandsIn a_formula C → (t : Read) → StandsIn a_formula (instance R t)
      put_stands C A R h s t = let x = is_exists C A R h s in instance_stands R t (subst (StandsIn a_scope) (sym x.scope) (subst (StandsIn a_formula) x.whole s).1.0)
  gives_past_hints {C = C} (of_any_term {R = R} {A = A} g h any) s K f e =
      let l = likewise K C A R f e h g.stands in
      of_any_term f l.here (λ t d. gives_past_hints (any t d) (put_stands C A R h g.stands t) (instance l.scope t) (l.put t d) (instance_past_hints l.scope t R t l.same refl))
    where
      put_stands : (C : Read) (A : Ty) (R : Read) → form_of C ≡ exists A R → StandsIn a_formula C → (t : Read) → StandsIn a_formula (instance R t)
      put_stands C A R h s t = let x = is_exists C A R h s in instance_stands R t (subst (StandsIn a_scope) (sym x.scope) (subst (StandsIn a_formula) x.whole s).1.0)
