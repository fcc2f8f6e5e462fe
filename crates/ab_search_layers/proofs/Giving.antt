-- WHAT IS SHOWN GIVES what a rule leaves: terms are put in at `exists` first.
use Rattle.std.specs.Prelude.{All, ◌⊎◌, Contains}
use Rattle.std.proofs.Common.{◌≡◌, inl, inr, ℕ, zero, List, [], ◌∷◌, map, refl, sym, ◌∙◌, ap, subst, arith}
use Rattle.std.proofs.lemmas.List.Elements.{All-weaker}
use Rattle.ab_term.specs.Types.{Ty}
use Rattle.ab_term.specs.Logical as plain
use Rattle.ab_term.specs.Logical.{Logical}
use Rattle.ab_term.specs.Terms as tree
use Rattle.ab_term.specs.Terms.{constant, logical, nominal, variable, index, lam, spine, Terms, no_terms, term, Read}
use Rattle.ab_term.specs.Typing.{HasType}
use Rattle.ab_term.specs.Substitution.{instance}
use Rattle.ab_term.specs.Names.{rename, moved_by}
use Rattle.ab_term.specs.Translation.{forget}
use Rattle.ab_term.specs.Variables.{variables, image, image_by}
use Rattle.ab_term.specs.Sameness.{same_number}
use Rattle.ab_term.proofs.PastHints.{variables_past_hints}
use Rattle.ab_term.proofs.Translations.{translate-rename}
use Rattle.ab_term.proofs.Lists.{Contains-there}
use Rattle.ab_unifiers.proofs.Following.{plain as plain_map, image_plain}
use Rattle.ab_unifiers.specs.Member.{HasMember}
use Rattle.ab_formulas.specs.Declarations.{Declarations, HaveSentences, HaveDefinitions, signature_in}
use Rattle.ab_formulas.specs.Formulas.{a_formula, a_scope, StandsIn, IsFormula}
use Rattle.ab_formulas.specs.Forms.{exists, form_of, form_alone, form_with, form_between}
use Rattle.ab_formulas.specs.GoalTerms.{HoldsOnly}
use Rattle.ab_formulas.specs.Programs.{HavePrograms}
use Rattle.ab_formulas.proofs.Scopes.{instance_stands}
use Rattle.ab_theory.specs.Steps.{exists_right}
use Rattle.ab_search_proofs.specs.Likeness.{StandIn, replaced, replacing, IsLike, AreLike}
use Rattle.ab_search_proofs.proofs.Derived.{after, one_premise}
use Rattle.ab_search_proofs.proofs.Witnesses.{term_step}
use Rattle.ab_search_layers.specs.Layered.{OpensTo, it_stays, a_layer, in_both, in_nabla, in_exists, Gives, it_opens, but_for_hints, of_a_term, of_each_term, of_any_term}
use Rattle.ab_search_layers.proofs.Faced.{faced}
use Rattle.ab_search_layers.proofs.Meeting.{typed_are_fine, meets}
use Rattle.ab_search_layers.proofs.Opens.{layer}
use Rattle.ab_search_layers.proofs.Suiting.{IsLeaf, at_leaf, leaf_exists, leaf_put}
use Rattle.ab_search_layers.proofs.Through.{Derived, exists_left_through}

-- both begin with `exists`
pub record IsWithEach (D : Declarations) (ys : List (tree.Variable ℕ)) (C E : Read) : Type 0 where
  pub type : Ty
  pub scope : Read
  pub scope_there : Read
  pub here : form_of C ≡ exists type scope
  pub there : form_of E ≡ exists type scope_there
  pub each : (t : Read) → HasType (signature_in D) [] t type → Gives D ys (instance scope t) (instance scope_there t)

-- the first alone does
pub record IsByAny (D : Declarations) (ys : List (tree.Variable ℕ)) (C E : Read) : Type 0 where
  pub type : Ty
  pub scope : Read
  pub here : form_of C ≡ exists type scope
  pub any : (t : Read) → HasType (signature_in D) [] t type → Gives D ys (instance scope t) E

-- past the terms: it opens, or it is of such a form
abbrev pub IsPastTerms : Declarations → List (tree.Variable ℕ) → Read → Read → Type 0
IsPastTerms D ys C E = OpensTo C E ⊎ (IsWithEach D ys C E ⊎ IsByAny D ys C E)

-- what is of that form
pub record IsExists (C : Read) (A : Ty) (R : Read) : Type 0 where
  pub type : Ty
  pub hint : List ℕ
  pub body : Read
  pub scope : R ≡ lam type hint body
  pub whole : C ≡ spine (logical (plain.existential A)) (term (lam type hint body) no_terms)

exists_scope : (C : Read) (A B : Ty) (R t : Read) → C ≡ spine (logical (plain.existential B)) (term t no_terms) → exists B t ≡ exists A R → StandsIn a_formula C → IsExists C A R
exists_scope C A B R (spine h ts) w e s = absurd (subst (StandsIn a_formula) w s).1.0
exists_scope C A B R (lam D x F) w e s =
    let type : B ≡ A = cc in
    let scope : lam D x F ≡ R = cc in
    record { type = D; hint = x; body = F; scope = sym scope; whole = w ∙ ap (λ k. spine (logical (plain.existential k)) (term (lam D x F) no_terms)) type }

alone_never : (l : Logical) (A : Ty) (R : Read) → form_alone l ≡ exists A R → ⊥
alone_never plain.truth A R e = cc
alone_never plain.falsity A R e = cc
alone_never _ A R e = cc

between_never : (l : Logical) (t u : Read) (A : Ty) (R : Read) → form_between l t u ≡ exists A R → ⊥
between_never plain.conjunction t u A R e = cc
between_never plain.disjunction t u A R e = cc
between_never plain.implication t u A R e = cc
between_never (plain.equality B) t u A R e = cc
between_never _ t u A R e = cc

with_is : (l : Logical) (t : Read) (A : Ty) (R : Read) → form_with l t ≡ exists A R → (B : Ty) × (l ≡ plain.existential B) × (exists B t ≡ exists A R)
with_is (plain.existential B) t A R e = (B, refl, e)
with_is (plain.universal B) t A R e = absurd (cc)
with_is (plain.nabla B) t A R e = absurd (cc)
with_is (plain.star i) t A R e = absurd (cc)
with_is (plain.at_sign i) t A R e = absurd (cc)
with_is (plain.plus i) t A R e = absurd (cc)
with_is (plain.hash i) t A R e = absurd (cc)
with_is _ t A R e = absurd (cc)

pub is_exists : (C : Read) (A : Ty) (R : Read) → form_of C ≡ exists A R → StandsIn a_formula C → IsExists C A R
is_exists (lam B x t) A R e s = absurd s
is_exists (spine (constant c) ts) A R e s = absurd (cc)
is_exists (spine (nominal a) ts) A R e s = absurd (cc)
is_exists (spine (variable y) ts) A R e s = absurd (cc)
is_exists (spine (index i) ts) A R e s = absurd (cc)
is_exists (spine (logical l) no_terms) A R e s = absurd (alone_never l A R e)
is_exists (spine (logical l) (term t (term u no_terms))) A R e s = absurd (between_never l t u A R e)
is_exists (spine (logical l) (term t (term u (term v ts)))) A R e s = absurd (cc)
is_exists (spine (logical l) (term t no_terms)) A R e s = let k = with_is l t A R e in exists_scope (spine (logical l) (term t no_terms)) A k.0 R t (ap (λ z. spine (logical z) (term t no_terms)) k.1) k.2 s

-- WHAT GIVES A FORMULA stands as one
pub opens_stands : {C E : Read} → OpensTo C E → StandsIn a_formula E → StandsIn a_formula C
opens_stands it_stays s = s
opens_stands (a_layer {F = C} {G = F} q o) s = subst (StandsIn a_formula) (sym (layer C F q).is) (tt, (tt, (tt, tt)))
opens_stands (in_both a b) s = (tt, (opens_stands a s.1.0, (opens_stands b s.1.1.0, tt)))
opens_stands (in_nabla o) s = (tt, (opens_stands o s.1.0, tt))
opens_stands (in_exists o) s = (tt, (opens_stands o s.1.0, tt))

pub gives_stands : (D : Declarations) (ys : List (tree.Variable ℕ)) {C E : Read} → Gives D ys C E → StandsIn a_formula E → StandsIn a_formula C
gives_stands D ys (it_opens o) s = opens_stands o s
gives_stands D ys (but_for_hints formula e g) s = gives_stands D ys g formula.stands
gives_stands D ys (of_a_term {B = E} {S = S} {A = A} t e typed known g) s =
    let x = is_exists E A S e s in
    let scope : StandsIn a_scope S = subst (StandsIn a_scope) (sym x.scope) (subst (StandsIn a_formula) x.whole s).1.0 in
    gives_stands D ys g (instance_stands S t scope)
gives_stands D ys (of_each_term formula h k each) s = formula.stands
gives_stands D ys (of_any_term formula h any) s = formula.stands

-- WHAT IS LIKE A FORMULA is like one that is the same past hints
like_past_hints : (D : Declarations) (vs : List StandIn) (K E G : Read) → IsFormula (signature_in D) K → forget K ≡ forget E → IsLike D vs E G → IsLike D vs K G
like_past_hints D vs K E G formula e l =
    let r = replacing vs in
    let ps = (l.same).0 in
    let m = moved_by ps in
    record {
      formula = formula;
      known = subst (All (Contains (map replaced vs))) (variables_past_hints E K (sym e)) l.known;
      same = (
        ps,
        (l.same).1,
        translate-rename (λ v. v) (λ x. tt) m (image same_number r K)
            ∙ ap (rename m) (image_plain r K ∙ ap (image_by (plain_map r)) e ∙ sym (image_plain r E))
            ∙ sym (translate-rename (λ v. v) (λ x. tt) m (image same_number r E))
            ∙ (l.same).2,
      );
    }

module _ (D : Declarations) (sentences : HaveSentences D) (definitions : HaveDefinitions D) (programs : HavePrograms D) (has : HasMember (signature_in D)) where
  abbrev Goal : List StandIn → List Read → Read → Type 0
  Goal vs Hs C = Derived D sentences definitions programs has vs Hs C

  -- BUT FOR HINTS
  same_past_hints : (vs : List StandIn) (Hs : List Read) (K E : Read) → IsFormula (signature_in D) K → forget K ≡ forget E → Goal vs Hs K → Goal vs Hs E
  same_past_hints vs Hs K E formula e next s is l = next s is (record { variables = l.variables; hypotheses = l.hypotheses; conclusion = like_past_hints D vs K E s.conclusion formula e l.conclusion })

  -- A TERM at `exists`
  pub put_in : (vs : List StandIn) (Hs : List Read) (E S t : Read) (A : Ty) → form_of E ≡ exists A S → HasType (signature_in D) [] t A → HoldsOnly (map replaced vs) t → Goal vs Hs (instance S t) → Goal vs Hs E
  put_in vs Hs E S t A e typed known next s is l =
      let w = term_step D vs Hs E s is l A S t e typed known in
      after D sentences definitions programs has (AreLike D vs Hs (instance S t ∷ [])) (exists_right w.0) s is refl w.1 (one_premise D sentences definitions programs has vs Hs (instance S t) next)

  -- FIRST THE TERMS
  pub terms_first : (ys : List (tree.Variable ℕ)) (vs : List StandIn) (Hs : List Read) (C E : Read) → map replaced vs ≡ ys → Gives D ys C E → ((K : Read) → IsPastTerms D ys C K → Goal vs Hs K) → Goal vs Hs E
  terms_first ys vs Hs C E q (it_opens o) base = base E (inl o)
  terms_first ys vs Hs C E q (but_for_hints {K = K} formula e g) base = same_past_hints vs Hs K E formula e (terms_first ys vs Hs C K q g base)
  terms_first ys vs Hs C E q (of_a_term {S = S} {A = A} t e typed known g) base = put_in vs Hs E S t A e typed (subst (λ ks. HoldsOnly ks t) (sym q) known) (terms_first ys vs Hs C (instance S t) q g base)
  terms_first ys vs Hs C E q (of_each_term {R = R} {S = S} {A = A} formula h k each) base = base E (inr (inl (record { type = A; scope = R; scope_there = S; here = h; there = k; each = each })))
  terms_first ys vs Hs C E q (of_any_term {R = R} {A = A} formula h any) base = base E (inr (inr (record { type = A; scope = R; here = h; any = any })))

  -- OF A HYPOTHESIS
  pub leaf_given : (ys : List (tree.Variable ℕ)) (H C E : Read) → Gives D ys C E → IsLeaf H C → (vs : List StandIn) → ((y : tree.Variable ℕ) → Contains ys y → Contains (map replaced vs) y) → (Hs : List Read) → Contains Hs H → Goal vs Hs E
  leaf_given ys H C E (it_opens o) l vs known Hs m = λ s is g.
      let k = meets o (typed_are_fine (signature_in D) E g.conclusion.formula.typed) in
      faced D sentences definitions programs has k.0 (omega arith) k.1 (at_leaf l) vs Hs m s is g
  leaf_given ys H C E (but_for_hints {K = K} formula e g) l vs known Hs m = same_past_hints vs Hs K E formula e (leaf_given ys H C K g l vs known Hs m)
  leaf_given ys H C E (of_a_term {S = S} {A = A} t e typed holds g) l vs known Hs m =
      put_in vs Hs E S t A e typed (All-weaker (Contains ys) (Contains (map replaced vs)) known (variables t) holds) (leaf_given ys H C (instance S t) g l vs known Hs m)
  leaf_given ys H C E (of_each_term {R = R} {S = S} {A = A} formula h k each) l vs known Hs m =
      let x = is_exists C A R h l.stands_there in
      let p = leaf_exists A x.type x.hint H x.body (subst (IsLeaf H) x.whole l) in
      exists_left_through D sentences definitions programs has vs Hs (spine (logical (plain.existential A)) (term (lam x.type p.0 p.1) no_terms)) E (lam x.type p.0 p.1) A refl (subst (Contains Hs) p.2 m)
      (λ t free typed w holds Rs c.
      let one : IsLeaf (instance (lam x.type p.0 p.1) t) (instance R t) = subst (λ z. IsLeaf (instance (lam x.type p.0 p.1) t) (instance z t)) (sym x.scope) (leaf_put x.type t zero p.3) in
      put_in (w ∷ vs) Rs E S t A k typed holds (leaf_given ys (instance (lam x.type p.0 p.1) t) (instance R t) (instance S t) (each t typed) one (w ∷ vs) (λ y n. Contains-there (replaced w) (map replaced vs) y (known y n)) Rs c))
  leaf_given ys H C E (of_any_term {R = R} {A = A} formula h any) l vs known Hs m =
      let x = is_exists C A R h l.stands_there in
      let p = leaf_exists A x.type x.hint H x.body (subst (IsLeaf H) x.whole l) in
      exists_left_through D sentences definitions programs has vs Hs (spine (logical (plain.existential A)) (term (lam x.type p.0 p.1) no_terms)) E (lam x.type p.0 p.1) A refl (subst (Contains Hs) p.2 m)
      (λ t free typed w holds Rs c.
      let one : IsLeaf (instance (lam x.type p.0 p.1) t) (instance R t) = subst (λ z. IsLeaf (instance (lam x.type p.0 p.1) t) (instance z t)) (sym x.scope) (leaf_put x.type t zero p.3) in
      leaf_given ys (instance (lam x.type p.0 p.1) t) (instance R t) E (any t typed) one (w ∷ vs) (λ y n. Contains-there (replaced w) (map replaced vs) y (known y n)) Rs c)
