-- A HYPOTHESIS SUITS A FORMULA: past hints and marks it is the same, and its marks serve wherever judgements were opened.
use Rattle.std.proofs.Common.{◌≡◌, ℕ, zero, suc, ◌+◌, List, refl, sym, ◌∙◌, ap, subst}
use Rattle.ab_term.specs.Types.{Ty}
use Rattle.ab_term.specs.Logical as plain
use Rattle.ab_term.specs.Logical.{Logical}
use Rattle.ab_term.specs.Terms.{constant, logical, nominal, variable, index, lam, spine, Terms, no_terms, term, Read}
use Rattle.ab_term.specs.Translation.{forget, forget_all}
use Rattle.ab_term.specs.Substitution.{shift, substitute}
use Rattle.ab_term.proofs.Translations.{translate-substitute}
use Rattle.ab_formulas.specs.Formulas.{a_formula, a_scope, a_marked, places_of_constant, IsAtomic, StandsIn, AllStandIn}
use Rattle.ab_formulas.specs.Marks as marks
use Rattle.ab_formulas.specs.Marks.{Sign, star_of, at_of, plus_of, hash_of, Serves, Marks, at_atom, at_judgement, Agree, MarksServe, MarksServeIn, marks_of, erased, erased_all}
use Rattle.ab_theory.specs.Opening as opening
use Rattle.ab_search_layers.proofs.Putting.{keeps}

-- AS ONE: the whole closes what it suits
pub record IsLeaf (B X : Read) : Type 0 where
  pub stands : StandsIn a_formula B
  pub stands_there : StandsIn a_formula X
  pub same : forget (erased B) ≡ forget (erased X)
  pub serve : MarksServeIn X B

pub data Suits : ℕ → Read → Read → Type 0 where
  at_leaf : {B X : Read} → IsLeaf B X → Suits zero B X
  both_suit : {m n : ℕ} {A B C E : Read} → Suits m A C → Suits n B E → Suits (suc (m + n)) (opening.both A B) (opening.both C E)
  suits_under : {n : ℕ} {A B : Ty} {x y : List ℕ} {F G : Read} → Suits n F G → Suits (suc n) (spine (logical (plain.nabla A)) (term (lam B x F) no_terms)) (spine (logical (plain.nabla A)) (term (lam B y G) no_terms))

serves_itself : (m : Sign) → Serves m m
serves_itself marks.plain = tt
serves_itself (star_of i) = refl
serves_itself (at_of i) = refl
serves_itself (plus_of i) = refl
serves_itself (hash_of i) = refl

agree_serve : (a b : Marks) → Agree a b → MarksServe a b
agree_serve (at_atom m) (at_atom n) e = subst (Serves m) e (serves_itself m)
agree_serve (at_judgement m) (at_judgement n) e = subst (Serves m) e (serves_itself m)
agree_serve a b e = e

-- PARTS of a whole

-- heads that stay where marks are taken away
abbrev IsInner : Logical → Type 0
IsInner plain.conjunction = Unit {0}
IsInner (plain.nabla A) = Unit {0}
IsInner (plain.existential A) = Unit {0}
IsInner l = ⊥

never_atomic : (k : Logical) → IsInner k → IsAtomic (logical k) → ⊥
never_atomic plain.conjunction i a = a
never_atomic (plain.nabla A) i a = a
never_atomic (plain.existential A) i a = a
never_atomic k i a = i

module _ (k : Logical) (i : IsInner k) (vs : Terms ℕ (Unit {0})) where
  abbrev Inner : Read → Type 0
  Inner B = (ts : Terms ℕ (List ℕ)) × (B ≡ spine (logical k) ts) × (vs ≡ forget_all (erased_all ts)) × AllStandIn (places_of_constant k) ts

  marked_never : (t : Read) → StandsIn a_marked t → forget t ≡ spine (logical k) vs → ⊥
  marked_never (lam A x t) s e = s
  marked_never (spine (variable y) ts) s e = s
  marked_never (spine (index j) ts) s e = s
  marked_never (spine (constant c) ts) s e = cc
  marked_never (spine (nominal a) ts) s e = cc
  marked_never (spine (logical l) ts) s e = let same : l ≡ k = cc in never_atomic k i (subst (λ z. IsAtomic (logical z)) same s)

  kept : (l : Logical) (ts : Terms ℕ (List ℕ)) → AllStandIn (places_of_constant l) ts → spine (logical l) (forget_all (erased_all ts)) ≡ spine (logical k) vs → Inner (spine (logical l) ts)
  kept l ts s e =
      let same : l ≡ k = cc in
      let rest : vs ≡ forget_all (erased_all ts) = cc in
      (ts, ap (λ z. spine (logical z) ts) same, rest, subst (λ z. AllStandIn (places_of_constant z) ts) same s)

  -- another head
  never : {X : Type 0} (l : Logical) (us : Terms ℕ (Unit {0})) → (IsInner l → ⊥) → spine (logical l) us ≡ spine (logical k) vs → X
  never l us n e = let same : l ≡ k = cc in absurd (n (subst IsInner (sym same) i))

  inner_logical : (l : Logical) (ts : Terms ℕ (List ℕ)) → AllStandIn (places_of_constant l) ts → forget (erased (spine (logical l) ts)) ≡ spine (logical k) vs → Inner (spine (logical l) ts)
  inner_logical plain.conjunction ts s e = kept plain.conjunction ts s e
  inner_logical plain.disjunction ts s e = kept plain.disjunction ts s e
  inner_logical plain.implication ts s e = kept plain.implication ts s e
  inner_logical (plain.universal A) ts s e = kept (plain.universal A) ts s e
  inner_logical (plain.existential A) ts s e = kept (plain.existential A) ts s e
  inner_logical (plain.nabla A) ts s e = kept (plain.nabla A) ts s e
  inner_logical (plain.star j) no_terms s e = never (plain.star j) no_terms (λ z. z) e
  inner_logical (plain.star j) (term t ts) s e = absurd (marked_never t s.0 e)
  inner_logical (plain.at_sign j) no_terms s e = never (plain.at_sign j) no_terms (λ z. z) e
  inner_logical (plain.at_sign j) (term t ts) s e = absurd (marked_never t s.0 e)
  inner_logical (plain.plus j) no_terms s e = never (plain.plus j) no_terms (λ z. z) e
  inner_logical (plain.plus j) (term t ts) s e = absurd (marked_never t s.0 e)
  inner_logical (plain.hash j) no_terms s e = never (plain.hash j) no_terms (λ z. z) e
  inner_logical (plain.hash j) (term t ts) s e = absurd (marked_never t s.0 e)
  inner_logical l ts s e = never l (forget_all ts) (λ z. z) e

  inner : (B : Read) → StandsIn a_formula B → forget (erased B) ≡ spine (logical k) vs → Inner B
  inner (lam A x t) s e = absurd s
  inner (spine (variable y) ts) s e = absurd s.0
  inner (spine (index j) ts) s e = absurd s.0
  inner (spine (constant c) ts) s e = absurd (cc)
  inner (spine (nominal a) ts) s e = absurd (cc)
  inner (spine (logical l) ts) s e = inner_logical l ts s.1 e

pub leaf_both : (B X Y : Read) → IsLeaf B (opening.both X Y) → (E : Read) × (F : Read) × (B ≡ opening.both E F) × IsLeaf E X × IsLeaf F Y
leaf_both B X Y l =
    let i = inner plain.conjunction tt (term (forget (erased X)) (term (forget (erased Y)) no_terms)) B l.stands l.same in
    go i.0 i.1 i.2 i.3
  where
    go : (ts : Terms ℕ (List ℕ)) → B ≡ spine (logical plain.conjunction) ts → term (forget (erased X)) (term (forget (erased Y)) no_terms) ≡ forget_all (erased_all ts) → AllStandIn a_formula ts → (E : Read) × (F : Read) × (B ≡ opening.both E F) × IsLeaf E X × IsLeaf F Y
    go no_terms e q s = absurd (cc)
    go (term E no_terms) e q s = absurd (let rest : term (forget (erased Y)) no_terms ≡ no_terms = cc in cc)
    go (term E (term F (term G ts))) e q s = absurd (let rest : term (forget (erased Y)) no_terms ≡ term (forget (erased F)) (term (forget (erased G)) (forget_all (erased_all ts))) = cc in let more : no_terms ≡ term (forget (erased G)) (forget_all (erased_all ts)) = cc in cc)
    go (term E (term F no_terms)) e q s =
        let first : forget (erased X) ≡ forget (erased E) = cc in
        let second : forget (erased Y) ≡ forget (erased F) = cc in
        let serve : MarksServeIn (opening.both X Y) (opening.both E F) = subst (MarksServeIn (opening.both X Y)) e l.serve in (
          E,
          F,
          e,
          record { stands = s.0; stands_there = l.stands_there.1.0; same = sym first; serve = agree_serve (marks_of X) (marks_of E) serve.0 },
          record { stands = s.1.0; stands_there = l.stands_there.1.1.0; same = sym second; serve = agree_serve (marks_of Y) (marks_of F) serve.1 },
        )

-- what a quantifier is given
module _ (q : Logical) (below : (x y : List ℕ) (A : Ty) (F G : Read) → MarksServeIn (spine (logical q) (term (lam A x F) no_terms)) (spine (logical q) (term (lam A y G) no_terms)) → Agree (marks_of F) (marks_of G))
    (A : Ty) (x : List ℕ) (B X : Read) (l : IsLeaf B (spine (logical q) (term (lam A x X) no_terms))) (there : StandsIn a_formula X) where
  abbrev Scope : Type 0
  Scope = (y : List ℕ) × (F : Read) × (B ≡ spine (logical q) (term (lam A y F) no_terms)) × IsLeaf F X

  scope_leaf : (ts : Terms ℕ (List ℕ)) → B ≡ spine (logical q) ts → term (lam A tt (forget (erased X))) no_terms ≡ forget_all (erased_all ts) → AllStandIn a_scope ts → Scope
  scope_leaf no_terms e k s = absurd (cc)
  scope_leaf (term t (term v ts)) e k s = absurd (let rest : no_terms ≡ term (forget (erased v)) (forget_all (erased_all ts)) = cc in cc)
  scope_leaf (term (spine h us) no_terms) e k s = absurd s.0
  scope_leaf (term (lam C y F) no_terms) e k s =
      let whole : lam A tt (forget (erased X)) ≡ lam C tt (forget (erased F)) = cc in
      let type : A ≡ C = cc in
      let body : forget (erased X) ≡ forget (erased F) = cc in
      let is : B ≡ spine (logical q) (term (lam A y F) no_terms) = e ∙ ap (λ D. spine (logical q) (term (lam D y F) no_terms)) (sym type) in
      let serve = below x y A X F (subst (MarksServeIn (spine (logical q) (term (lam A x X) no_terms))) is l.serve) in
      (y, F, is, record { stands = s.0; stands_there = there; same = sym body; serve = agree_serve (marks_of X) (marks_of F) serve })

pub leaf_nabla : (C A : Ty) (x : List ℕ) (B X : Read) → IsLeaf B (spine (logical (plain.nabla C)) (term (lam A x X) no_terms)) → (y : List ℕ) × (F : Read) × (B ≡ spine (logical (plain.nabla C)) (term (lam A y F) no_terms)) × IsLeaf F X
leaf_nabla C A x B X l =
    let i = inner (plain.nabla C) tt (term (lam A tt (forget (erased X))) no_terms) B l.stands l.same in
    scope_leaf (plain.nabla C) (λ x y A F G s. s) A x B X l l.stands_there.1.0 i.0 i.1 i.2 i.3

pub leaf_exists : (C A : Ty) (x : List ℕ) (B X : Read) → IsLeaf B (spine (logical (plain.existential C)) (term (lam A x X) no_terms)) → (y : List ℕ) × (F : Read) × (B ≡ spine (logical (plain.existential C)) (term (lam A y F) no_terms)) × IsLeaf F X
leaf_exists C A x B X l =
    let i = inner (plain.existential C) tt (term (lam A tt (forget (erased X))) no_terms) B l.stands l.same in
    scope_leaf (plain.existential C) (λ x y A F G s. s) A x B X l l.stands_there.1.0 i.0 i.1 i.2 i.3

-- TERMS ARE PUT IN
module _ (A : Ty) where
  pub leaf_put : (u : Read) (k : ℕ) {B X : Read} → IsLeaf B X → IsLeaf (substitute A u k B) (substitute A u k X)
  leaf_put u k {B} {X} l =
      let b = keeps A u k B l.stands in
      let c = keeps A u k X l.stands_there in
      record {
        stands = b.stands;
        stands_there = c.stands;
        same = ap forget b.unmarked
            ∙ translate-substitute (λ v. v) (λ z. tt) A u k (erased B)
            ∙ ap (substitute A (forget u) k) l.same
            ∙ sym (translate-substitute (λ v. v) (λ z. tt) A u k (erased X))
            ∙ sym (ap forget c.unmarked);
        serve = subst (λ m. MarksServe m (marks_of (substitute A u k B))) (sym c.marks) (subst (MarksServe (marks_of X)) (sym b.marks) l.serve);
      }

  pub suits_put : (u : Read) (k : ℕ) {n : ℕ} {B X : Read} → Suits n B X → Suits n (substitute A u k B) (substitute A u k X)
  suits_put u k (at_leaf l) = at_leaf (leaf_put u k l)
  suits_put u k (both_suit a b) = both_suit (suits_put u k a) (suits_put u k b)
  suits_put u k (suits_under s) = suits_under (suits_put (shift zero u) (suc k) s)
