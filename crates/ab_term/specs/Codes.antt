-- What a model whose value is a list of these types or terms needs: each as a tree of numbers, one to one.
use Rattle.std.specs.Prelude.{◌≡◌, ℕ, List, [], ◌∷◌, get_or, refl}
use Rattle.std.proofs.Common.{ap}
use base.Stored.{Gv, gnil, gnum, gcons}
use Rattle.std.specs.Coded.{Coded, code_by, coded×, coded_ℕ, coded_list}
use Rattle.ab_term.specs.Types.{Ty, kind, arrow, prop}
use Rattle.ab_term.specs.Logical.{Logical, truth, falsity, conjunction, disjunction, implication, equality, universal, existential, nabla, judgement, focused_judgement, star, at_sign, plus, hash, spec_universal, spec_implication, spec_conjunction}
use Rattle.ab_term.specs.Terms.{Nominal, Variable, Head, constant, logical, nominal, variable, index, Term, lam, spine, Terms, no_terms, term}

abbrev names_code : Coded (List ℕ)
names_code = coded_list coded_ℕ

abbrev of_type : Ty → Gv
of_type (kind n) = gcons (gnum 0) (names_code.code n)
of_type (arrow A B) = gcons (gnum 1) (gcons (of_type A) (of_type B))

pub type_inj : (A B : Ty) → of_type A ≡ of_type B → A ≡ B
type_inj (kind n) (kind m) p = ap kind (names_code.inj n m (cc))
type_inj (kind n) (arrow C D) p = cc
type_inj (arrow A B) (kind n) p = cc
type_inj (arrow A B) (arrow C D) p =
    let e : A ≡ C = type_inj A C (cc) in
    let f : B ≡ D = type_inj B D (cc) in
    cc

abbrev pub coded_type : Coded Ty
coded_type = record { code = of_type; inj = type_inj }

-- a place in the list of all logical constants, and what the constant holds
abbrev pub LogicalParts : Type 0
LogicalParts = ℕ × (Ty × ℕ)

abbrev pub to_parts : Logical → LogicalParts
to_parts truth = (0, (prop, 0))
to_parts falsity = (1, (prop, 0))
to_parts conjunction = (2, (prop, 0))
to_parts disjunction = (3, (prop, 0))
to_parts implication = (4, (prop, 0))
to_parts (equality A) = (5, (A, 0))
to_parts (universal A) = (6, (A, 0))
to_parts (existential A) = (7, (A, 0))
to_parts (nabla A) = (8, (A, 0))
to_parts judgement = (9, (prop, 0))
to_parts focused_judgement = (10, (prop, 0))
to_parts (star i) = (11, (prop, i))
to_parts (at_sign i) = (12, (prop, i))
to_parts (plus i) = (13, (prop, i))
to_parts (hash i) = (14, (prop, i))
to_parts (spec_universal A) = (15, (A, 0))
to_parts spec_implication = (16, (prop, 0))
to_parts spec_conjunction = (17, (prop, 0))

abbrev all_logical : Ty → ℕ → List Logical
all_logical A i = truth ∷ falsity ∷ conjunction ∷ disjunction ∷ implication ∷ equality A ∷ universal A ∷ existential A ∷ nabla A ∷ judgement ∷ focused_judgement ∷ star i ∷ at_sign i ∷ plus i ∷ hash i ∷ spec_universal A ∷ spec_implication ∷ spec_conjunction ∷ []

abbrev pub from_parts : LogicalParts → Logical
from_parts p = get_or (all_logical p.1.0 p.1.1) p.0 truth

pub from_to_parts : (l : Logical) → from_parts (to_parts l) ≡ l
from_to_parts truth = refl
from_to_parts falsity = refl
from_to_parts conjunction = refl
from_to_parts disjunction = refl
from_to_parts implication = refl
from_to_parts (equality A) = refl
from_to_parts (universal A) = refl
from_to_parts (existential A) = refl
from_to_parts (nabla A) = refl
from_to_parts judgement = refl
from_to_parts focused_judgement = refl
from_to_parts (star i) = refl
from_to_parts (at_sign i) = refl
from_to_parts (plus i) = refl
from_to_parts (hash i) = refl
from_to_parts (spec_universal A) = refl
from_to_parts spec_implication = refl
from_to_parts spec_conjunction = refl

abbrev pub coded_logical : Coded Logical
coded_logical = code_by LogicalParts (coded× coded_ℕ (coded× coded_type coded_ℕ)) to_parts from_parts from_to_parts

abbrev pub coded_nominal : Coded Nominal
coded_nominal = code_by (ℕ × Ty) (coded× coded_ℕ coded_type) (λ a. (a.number, a.type)) (λ p. record { number = p.0; type = p.1 }) (λ a. refl)

module _ {Var : Type 0} (names : Coded Var) where
  abbrev pub coded_variable : Coded (Variable Var)
  coded_variable = code_by (Var × Ty) (coded× names coded_type) (λ x. (x.name, x.type)) (λ p. record { name = p.0; type = p.1 }) (λ x. refl)

  abbrev of_head : Head Var → Gv
  of_head (constant c) = gcons (gnum 0) (names_code.code c)
  of_head (logical l) = gcons (gnum 1) (coded_logical.code l)
  of_head (nominal a) = gcons (gnum 2) (coded_nominal.code a)
  of_head (variable x) = gcons (gnum 3) (coded_variable.code x)
  of_head (index i) = gcons (gnum 4) (gnum i)

  pub head_inj : (h g : Head Var) → of_head h ≡ of_head g → h ≡ g
  head_inj (constant c) (constant d) p = ap constant (names_code.inj c d (cc))
  head_inj (constant c) (logical m) p = cc
  head_inj (constant c) (nominal b) p = cc
  head_inj (constant c) (variable y) p = cc
  head_inj (constant c) (index j) p = cc
  head_inj (logical l) (constant d) p = cc
  head_inj (logical l) (logical m) p = ap logical (coded_logical.inj l m (cc))
  head_inj (logical l) (nominal b) p = cc
  head_inj (logical l) (variable y) p = cc
  head_inj (logical l) (index j) p = cc
  head_inj (nominal a) (constant d) p = cc
  head_inj (nominal a) (logical m) p = cc
  head_inj (nominal a) (nominal b) p = ap nominal (coded_nominal.inj a b (cc))
  head_inj (nominal a) (variable y) p = cc
  head_inj (nominal a) (index j) p = cc
  head_inj (variable x) (constant d) p = cc
  head_inj (variable x) (logical m) p = cc
  head_inj (variable x) (nominal b) p = cc
  head_inj (variable x) (variable y) p = ap variable (coded_variable.inj x y (cc))
  head_inj (variable x) (index j) p = cc
  head_inj (index i) (constant d) p = cc
  head_inj (index i) (logical m) p = cc
  head_inj (index i) (nominal b) p = cc
  head_inj (index i) (variable y) p = cc
  head_inj (index i) (index j) p = cc

  abbrev pub coded_head : Coded (Head Var)
  coded_head = record { code = of_head; inj = head_inj }

module _ {Var Hint : Type 0} (names : Coded Var) (hints : Coded Hint) where
  abbrev mutual
    of_term : Term Var Hint → Gv
    of_term (lam A x t) = gcons (gnum 0) (gcons (of_type A) (gcons (hints.code x) (of_term t)))
    of_term (spine h ts) = gcons (gnum 1) (gcons ((coded_head names).code h) (of_terms ts))

    of_terms : Terms Var Hint → Gv
    of_terms no_terms = gnil
    of_terms (term t ts) = gcons (of_term t) (of_terms ts)

  mutual
    pub term_inj : (t s : Term Var Hint) → of_term t ≡ of_term s → t ≡ s
    term_inj (lam A x t) (lam B y s) p =
        let e : A ≡ B = type_inj A B (cc) in
        let f : x ≡ y = hints.inj x y (cc) in
        let g : t ≡ s = term_inj t s (cc) in
        cc
    term_inj (lam A x t) (spine h ts) p = cc
    term_inj (spine h ts) (lam B y s) p = cc
    term_inj (spine h ts) (spine g ss) p =
        let e : h ≡ g = (coded_head names).inj h g (cc) in
        let f : ts ≡ ss = terms_inj ts ss (cc) in
        cc

    terms_inj : (ts ss : Terms Var Hint) → of_terms ts ≡ of_terms ss → ts ≡ ss
    terms_inj no_terms no_terms p = cc
    terms_inj no_terms (term s ss) p = cc
    terms_inj (term t ts) no_terms p = cc
    terms_inj (term t ts) (term s ss) p =
        let e : t ≡ s = term_inj t s (cc) in
        let f : ts ≡ ss = terms_inj ts ss (cc) in
        cc

  abbrev pub coded_term : Coded (Term Var Hint)
  coded_term = record { code = of_term; inj = term_inj }
