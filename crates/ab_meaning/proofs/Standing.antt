-- A term of the type of formulas in which quantifiers bind names that are no formulas, and no mark stands, is a formula.
use Rattle.std.specs.Prelude.{◌≡◌, ℕ, zero, suc, List, [], ◌∷◌, ◌++◌, Option, Some, None, codes}
use Rattle.std.proofs.Common.{refl, sym, ◌∙◌, ap, subst}
use Rattle.ab_term.specs.Types.{Ty, kind, arrow, prop}
use Rattle.ab_term.specs.Logical.{Logical, truth, falsity, conjunction, disjunction, implication, equality, universal, existential, nabla, judgement, focused_judgement, star, at_sign, plus, hash, spec_universal, spec_implication, spec_conjunction, logical_type}
use Rattle.ab_term.specs.Terms.{Head, constant, logical, nominal, variable, index, lam, spine, Terms, no_terms, term, Read}
use Rattle.ab_term.specs.Typing.{Signature, type_at, head_type, HasType, TakeType, typed_lam, typed_spine, take_none, take_term}
use Rattle.ab_term.specs.Names.{support, support_of_all}
use Rattle.ab_term.specs.Variables.{variables, variables_of_all}
use Rattle.ab_term.proofs.Standing.{Has, AllHave}
use Rattle.ab_meaning.specs.Types.{PropFree}
use Rattle.ab_meaning.specs.ResolvedNames.{Binding, quantified, pi, binding_head}
use Rattle.ab_grammar.specs.declared.Quant.TheVariants.{Forall, Exists, Nabla}
use Rattle.ab_formulas.specs.Formulas.{a_formula, any, places_of, StandsIn, AllStandIn, IsSentence}
use Rattle.ab_meaning.proofs.Heads.{Admits}

-- quantifiers over what holds no formula, and no marks
abbrev pub IsBare : Logical → Type 0
IsBare (universal A) = PropFree A
IsBare (existential A) = PropFree A
IsBare (nabla A) = PropFree A
IsBare (star i) = ⊥
IsBare (at_sign i) = ⊥
IsBare (plus i) = ⊥
IsBare (hash i) = ⊥
IsBare _ = Unit {0}

-- a head that speaks of no goal
abbrev pub IsDeclared : Head ℕ → Type 0
IsDeclared (constant c) = Unit {0}
IsDeclared (logical l) = IsBare l
IsDeclared (nominal a) = ⊥
IsDeclared (variable y) = ⊥
IsDeclared (index i) = Unit {0}

pub admits_declared : Admits IsDeclared
admits_declared = record {
  equations = λ A. tt;
  binders = binders;
}
  where
    binders : (q : Binding) (A : Ty) → PropFree A → IsBare (binding_head q A)
    binders (quantified Forall) A f = f
    binders (quantified Exists) A f = f
    binders (quantified Nabla) A f = f
    binders pi A f = tt

mutual
  pub no_variables : (t : Read) → Has IsDeclared t → variables t ≡ []
  no_variables (lam A x t) p = no_variables t p
  no_variables (spine (constant c) ts) p = no_variables_in ts p.1
  no_variables (spine (logical l) ts) p = no_variables_in ts p.1
  no_variables (spine (nominal a) ts) p = absurd p.0
  no_variables (spine (variable y) ts) p = absurd p.0
  no_variables (spine (index i) ts) p = no_variables_in ts p.1

  no_variables_in : (ts : Terms ℕ (List ℕ)) → AllHave IsDeclared ts → variables_of_all ts ≡ []
  no_variables_in no_terms p = refl
  no_variables_in (term t ts) p = ap (λ xs. xs ++ variables_of_all ts) (no_variables t p.0) ∙ no_variables_in ts p.1

mutual
  pub no_nominals : (t : Read) → Has IsDeclared t → support t ≡ []
  no_nominals (lam A x t) p = no_nominals t p
  no_nominals (spine (constant c) ts) p = no_nominals_in ts p.1
  no_nominals (spine (logical l) ts) p = no_nominals_in ts p.1
  no_nominals (spine (nominal a) ts) p = absurd p.0
  no_nominals (spine (variable y) ts) p = absurd p.0
  no_nominals (spine (index i) ts) p = no_nominals_in ts p.1

  no_nominals_in : (ts : Terms ℕ (List ℕ)) → AllHave IsDeclared ts → support_of_all ts ≡ []
  no_nominals_in no_terms p = refl
  no_nominals_in (term t ts) p = ap (λ xs. xs ++ support_of_all ts) (no_nominals t p.0) ∙ no_nominals_in ts p.1

-- anything may stand where terms may
any_stand : (ts : Terms ℕ (List ℕ)) → AllStandIn any ts
any_stand no_terms = tt
any_stand (term t ts) = (tt, any_stand ts)

-- types of bound names in which no formula stands
abbrev AllFree : List Ty → Type 0
AllFree [] = Unit {0}
AllFree (A ∷ G) = PropFree A × AllFree G

free_at : (G : List Ty) (i : ℕ) (A : Ty) → AllFree G → type_at G i ≡ Some A → PropFree A
free_at [] i A f e = let bad : None ≡ Some A = e in absurd (cc)
free_at (B ∷ G) zero A f e = let same : B ≡ A = cc in subst PropFree same f.0
free_at (B ∷ G) (suc i) A f e = free_at G i A f.1 e

module _ (sg : Signature) where
  lam_body : (G : List Ty) (A B C : Ty) (x : List ℕ) (t : Read) → HasType sg G (lam A x t) (arrow B C) → HasType sg (B ∷ G) t C
  lam_body G A B C x t (typed_lam d) = d

  lam_no_kind : (G : List Ty) (A : Ty) (k x : List ℕ) (t : Read) → HasType sg G (lam A x t) (kind k) → ⊥
  lam_no_kind G A k x t d = elim d [ ]

  spine_no_arrow : (G : List Ty) (h : Head ℕ) (ts : Terms ℕ (List ℕ)) (A B : Ty) → HasType sg G (spine h ts) (arrow A B) → ⊥
  spine_no_arrow G h ts A B d = elim d [ ]

  spine_parts : (G : List Ty) (h : Head ℕ) (ts : Terms ℕ (List ℕ)) (A : Ty) (k : List ℕ) → head_type sg G h ≡ Some A → HasType sg G (spine h ts) (kind k) → TakeType sg G ts A (kind k)
  spine_parts G h ts A k e (typed_spine {A = C} f ds) = subst (λ D. TakeType sg G ts D (kind k)) (let both : Some C ≡ Some A = sym f ∙ e in cc) ds

  -- what is given its arguments is no formula then
  never : {G : List Ty} {ts : Terms ℕ (List ℕ)} {A B : Ty} → PropFree A → TakeType sg G ts A B → PropFree B
  never f take_none = f
  never f (take_term d ds) = never f.1 ds

  no_index_at : (G : List Ty) (i : ℕ) (ts : Terms ℕ (List ℕ)) (o : Option Ty) → type_at G i ≡ o → AllFree G → HasType sg G (spine (index i) ts) prop → ⊥
  no_index_at G i ts (Some A) e f d = never (free_at G i A f e) (spine_parts G (index i) ts A (codes "prop") e d) refl
  no_index_at G i ts None e f (typed_spine {A = A} h ds) = let bad : None ≡ Some A = sym e ∙ h in absurd (cc)

  no_index : (G : List Ty) (i : ℕ) (ts : Terms ℕ (List ℕ)) → AllFree G → HasType sg G (spine (index i) ts) prop → ⊥
  no_index G i ts f d = no_index_at G i ts (type_at G i) refl f d

  -- what a connective takes
  abbrev TwoTyped : List Ty → Terms ℕ (List ℕ) → Type 0
  TwoTyped G (term t (term u no_terms)) = HasType sg G t prop × HasType sg G u prop
  TwoTyped G _ = ⊥

  two_typed : {G : List Ty} {ts : Terms ℕ (List ℕ)} → TakeType sg G ts (arrow prop (arrow prop prop)) prop → TwoTyped G ts
  two_typed (take_term d (take_term e take_none)) = (d, e)

  -- what a quantifier takes
  abbrev OneTyped : List Ty → Ty → Terms ℕ (List ℕ) → Type 0
  OneTyped G A (term t no_terms) = HasType sg G t (arrow A prop)
  OneTyped G A _ = ⊥

  one_typed : {G : List Ty} {A : Ty} {ts : Terms ℕ (List ℕ)} → TakeType sg G ts (arrow (arrow A prop) prop) prop → OneTyped G A ts
  one_typed (take_term d take_none) = d

  mutual
    -- at the type of formulas it may stand where a formula may
    pub stands : (G : List Ty) (t : Read) → AllFree G → HasType sg G t prop → Has IsDeclared t → StandsIn a_formula t
    stands G (lam A x t) f d p = absurd (lam_no_kind G A (codes "prop") x t d)
    stands G (spine (constant c) ts) f d p = (tt, any_stand ts)
    stands G (spine (nominal a) ts) f d p = absurd p.0
    stands G (spine (variable y) ts) f d p = absurd p.0
    stands G (spine (index i) ts) f d p = absurd (no_index G i ts f d)
    stands G (spine (logical l) ts) f d p = (tt, parts_stand G l ts f (spine_parts G (logical l) ts (logical_type l) (codes "prop") refl d) p.0 p.1)

    parts_stand : (G : List Ty) (l : Logical) (ts : Terms ℕ (List ℕ)) → AllFree G → TakeType sg G ts (logical_type l) prop → IsBare l → AllHave IsDeclared ts → AllStandIn (places_of (logical l)) ts
    parts_stand G truth ts f d b p = any_stand ts
    parts_stand G falsity ts f d b p = any_stand ts
    parts_stand G conjunction no_terms f d b p = absurd (two_typed d)
    parts_stand G conjunction (term t no_terms) f d b p = absurd (two_typed d)
    parts_stand G conjunction (term t (term u no_terms)) f d b p = (stands G t f (two_typed d).0 p.0, (stands G u f (two_typed d).1 p.1.0, tt))
    parts_stand G conjunction (term t (term u (term v ts))) f d b p = absurd (two_typed d)
    parts_stand G disjunction no_terms f d b p = absurd (two_typed d)
    parts_stand G disjunction (term t no_terms) f d b p = absurd (two_typed d)
    parts_stand G disjunction (term t (term u no_terms)) f d b p = (stands G t f (two_typed d).0 p.0, (stands G u f (two_typed d).1 p.1.0, tt))
    parts_stand G disjunction (term t (term u (term v ts))) f d b p = absurd (two_typed d)
    parts_stand G implication no_terms f d b p = absurd (two_typed d)
    parts_stand G implication (term t no_terms) f d b p = absurd (two_typed d)
    parts_stand G implication (term t (term u no_terms)) f d b p = (stands G t f (two_typed d).0 p.0, (stands G u f (two_typed d).1 p.1.0, tt))
    parts_stand G implication (term t (term u (term v ts))) f d b p = absurd (two_typed d)
    parts_stand G (equality A) ts f d b p = any_stand ts
    parts_stand G (universal A) no_terms f d b p = absurd (one_typed {A = A} d)
    parts_stand G (universal A) (term (lam B x t) no_terms) f d b p = (stands (A ∷ G) t (b, f) (lam_body G B A prop x t (one_typed {A = A} d)) p.0, tt)
    parts_stand G (universal A) (term (spine h us) no_terms) f d b p = absurd (spine_no_arrow G h us A prop (one_typed {A = A} d))
    parts_stand G (universal A) (term (lam B x t) (term u ts)) f d b p = absurd (one_typed {A = A} d)
    parts_stand G (universal A) (term (spine h us) (term u ts)) f d b p = absurd (one_typed {A = A} d)
    parts_stand G (existential A) no_terms f d b p = absurd (one_typed {A = A} d)
    parts_stand G (existential A) (term (lam B x t) no_terms) f d b p = (stands (A ∷ G) t (b, f) (lam_body G B A prop x t (one_typed {A = A} d)) p.0, tt)
    parts_stand G (existential A) (term (spine h us) no_terms) f d b p = absurd (spine_no_arrow G h us A prop (one_typed {A = A} d))
    parts_stand G (existential A) (term (lam B x t) (term u ts)) f d b p = absurd (one_typed {A = A} d)
    parts_stand G (existential A) (term (spine h us) (term u ts)) f d b p = absurd (one_typed {A = A} d)
    parts_stand G (nabla A) no_terms f d b p = absurd (one_typed {A = A} d)
    parts_stand G (nabla A) (term (lam B x t) no_terms) f d b p = (stands (A ∷ G) t (b, f) (lam_body G B A prop x t (one_typed {A = A} d)) p.0, tt)
    parts_stand G (nabla A) (term (spine h us) no_terms) f d b p = absurd (spine_no_arrow G h us A prop (one_typed {A = A} d))
    parts_stand G (nabla A) (term (lam B x t) (term u ts)) f d b p = absurd (one_typed {A = A} d)
    parts_stand G (nabla A) (term (spine h us) (term u ts)) f d b p = absurd (one_typed {A = A} d)
    parts_stand G judgement ts f d b p = any_stand ts
    parts_stand G focused_judgement ts f d b p = any_stand ts
    parts_stand G (star i) ts f d b p = absurd b
    parts_stand G (at_sign i) ts f d b p = absurd b
    parts_stand G (plus i) ts f d b p = absurd b
    parts_stand G (hash i) ts f d b p = absurd b
    parts_stand G (spec_universal A) ts f d b p = any_stand ts
    parts_stand G spec_implication ts f d b p = any_stand ts
    parts_stand G spec_conjunction ts f d b p = any_stand ts

  pub sentence : (t : Read) → HasType sg [] t prop → Has IsDeclared t → IsSentence sg t
  sentence t d p = record { formula = record { typed = d; stands = stands [] t tt d p }; closed = no_variables t p; nameless = no_nominals t p }
