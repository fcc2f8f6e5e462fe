-- The tests of sameness decide equality, of terms once their hints are forgotten.
use Rattle.std.proofs.Common.{◌≡◌, ℕ, true, ◌&&◌, refl, sym, ◌∙◌, ap}
use Rattle.std.specs.Prelude.{Decides, ◌==◌}
use Rattle.std.specs.Cmp.{unsigned_Decides}
use Rattle.std.proofs.lemmas.Bool.{and_parts, and_from}
use Rattle.std.proofs.lemmas.Slice.Eq.{bytes_eq-Decides}
use Rattle.ab_term.specs.Types.{same_type}
use Rattle.ab_term.specs.Logical.{Logical}
use Rattle.ab_term.specs.Terms.{Variable, Head, constant, logical, nominal, variable, index, Term, lam, spine, Terms, no_terms, term}
use Rattle.ab_term.specs.Translation.{translate_head, forget, forget_all}
use Rattle.ab_term.proofs.Comparisons.{same_type-Decides, same_nominal-Decides}
use Rattle.ab_term.specs.Codes.{LogicalParts, to_parts, from_parts, from_to_parts}
use Rattle.ab_term.specs.Sameness.{same_parts, same_logical, same_numbered, same_head, same_term, same_terms}
use Rattle.ab_term.proofs.Forgetting.{forget_head}

parts_same : (p q : LogicalParts) → same_parts p q ≡ true → p ≡ q
parts_same p q e =
    let first = and_parts (p.0 == q.0) (same_type p.1.0 q.1.0 && (p.1.1 == q.1.1)) e in
    let rest = and_parts (same_type p.1.0 q.1.0) (p.1.1 == q.1.1) first.1 in
    let places : p.0 ≡ q.0 = (unsigned_Decides p.0 q.0).0 first.0 in
    let types : p.1.0 ≡ q.1.0 = (same_type-Decides p.1.0 q.1.0).0 rest.0 in
    let levels : p.1.1 ≡ q.1.1 = (unsigned_Decides p.1.1 q.1.1).0 rest.1 in
    λ i. (places i, (types i, levels i))

parts_itself : (p : LogicalParts) → same_parts p p ≡ true
parts_itself p = and_from (p.0 == p.0) (same_type p.1.0 p.1.0 && (p.1.1 == p.1.1)) ((unsigned_Decides p.0 p.0).1 refl) (and_from (same_type p.1.0 p.1.0) (p.1.1 == p.1.1) ((same_type-Decides p.1.0 p.1.0).1 refl) ((unsigned_Decides p.1.1 p.1.1).1 refl))

logical_same : (l m : Logical) → same_logical l m ≡ true → l ≡ m
logical_same l m e = sym (from_to_parts l) ∙ ap from_parts (parts_same (to_parts l) (to_parts m) e) ∙ from_to_parts m

pub same_logical-Decides : (l m : Logical) → Decides (same_logical l m) (l ≡ m)
same_logical-Decides l m = (logical_same l m, λ e. ap (same_logical l) (sym e) ∙ parts_itself (to_parts l))

variable_same : (y z : Variable ℕ) → same_numbered y z ≡ true → y ≡ z
variable_same y z e =
    let parts = and_parts (y.name == z.name) (same_type y.type z.type) e in
    let names : y.name ≡ z.name = (unsigned_Decides y.name z.name).0 parts.0 in
    let types : y.type ≡ z.type = (same_type-Decides y.type z.type).0 parts.1 in
    λ i. record { name = names i; type = types i }

variable_itself : (y : Variable ℕ) → same_numbered y y ≡ true
variable_itself y = and_from (y.name == y.name) (same_type y.type y.type) ((unsigned_Decides y.name y.name).1 refl) ((same_type-Decides y.type y.type).1 refl)

pub same_numbered-Decides : (y z : Variable ℕ) → Decides (same_numbered y z) (y ≡ z)
same_numbered-Decides y z = (variable_same y z, λ e. ap (same_numbered y) (sym e) ∙ variable_itself y)

head_same : (g h : Head ℕ) → same_head g h ≡ true → g ≡ h
head_same (constant c) (constant d) e = ap constant ((bytes_eq-Decides c d).0 e)
head_same (logical l) (logical m) e = ap logical (logical_same l m e)
head_same (nominal a) (nominal b) e = ap nominal ((same_nominal-Decides a b).0 e)
head_same (variable y) (variable z) e = ap variable (variable_same y z e)
head_same (index i) (index j) e = ap index ((unsigned_Decides i j).0 e)
head_same _ _ e = absurd (cc)

pub head_itself : (h : Head ℕ) → same_head h h ≡ true
head_itself (constant c) = (bytes_eq-Decides c c).1 refl
head_itself (logical l) = parts_itself (to_parts l)
head_itself (nominal a) = (same_nominal-Decides a a).1 refl
head_itself (variable y) = variable_itself y
head_itself (index i) = (unsigned_Decides i i).1 refl

pub same_head-Decides : (g h : Head ℕ) → Decides (same_head g h) (g ≡ h)
same_head-Decides g h = (head_same g h, λ e. ap (same_head g) (sym e) ∙ head_itself g)

module _ {Hint : Type 0} where
  mutual
    term_same : (t u : Term ℕ Hint) → same_term t u ≡ true → forget t ≡ forget u
    term_same (lam A x t) (lam B y u) e =
        let parts = and_parts (same_type A B) (same_term t u) e in
        ap (λ C. lam C tt (forget t)) ((same_type-Decides A B).0 parts.0) ∙ ap (lam B tt) (term_same t u parts.1)
    term_same (lam A x t) (spine h us) e = absurd (cc)
    term_same (spine h ts) (lam B y u) e = absurd (cc)
    term_same (spine g ts) (spine h us) e =
        let parts = and_parts (same_head g h) (same_terms ts us) e in
        ap (λ k. spine (translate_head (λ v. v) k) (forget_all ts)) (head_same g h parts.0) ∙ ap (spine (translate_head (λ v. v) h)) (terms_same ts us parts.1)

    terms_same : (ts us : Terms ℕ Hint) → same_terms ts us ≡ true → forget_all ts ≡ forget_all us
    terms_same no_terms no_terms e = refl
    terms_same no_terms (term u us) e = absurd (cc)
    terms_same (term t ts) no_terms e = absurd (cc)
    terms_same (term t ts) (term u us) e =
        let parts = and_parts (same_term t u) (same_terms ts us) e in
        ap (λ s. term s (forget_all ts)) (term_same t u parts.0) ∙ ap (term (forget u)) (terms_same ts us parts.1)

  mutual
    term_itself : (t : Term ℕ Hint) → same_term t t ≡ true
    term_itself (lam A x t) = and_from (same_type A A) (same_term t t) ((same_type-Decides A A).1 refl) (term_itself t)
    term_itself (spine h ts) = and_from (same_head h h) (same_terms ts ts) (head_itself h) (terms_itself ts)

    terms_itself : (ts : Terms ℕ Hint) → same_terms ts ts ≡ true
    terms_itself no_terms = refl
    terms_itself (term t ts) = and_from (same_term t t) (same_terms ts ts) (term_itself t) (terms_itself ts)

  mutual
    -- the test looks past hints
    forgotten : (t u : Term ℕ Hint) → same_term t u ≡ same_term (forget t) (forget u)
    forgotten (lam A x t) (lam B y u) = ap (λ b. same_type A B && b) (forgotten t u)
    forgotten (lam A x t) (spine h us) = refl
    forgotten (spine h ts) (lam B y u) = refl
    forgotten (spine g ts) (spine h us) =
        ap (λ k. same_head k h && same_terms ts us) (sym (forget_head g))
        ∙ ap (λ k. same_head (translate_head (λ v. v) g) k && same_terms ts us) (sym (forget_head h))
        ∙ ap (λ b. same_head (translate_head (λ v. v) g) (translate_head (λ v. v) h) && b) (all_forgotten ts us)

    all_forgotten : (ts us : Terms ℕ Hint) → same_terms ts us ≡ same_terms (forget_all ts) (forget_all us)
    all_forgotten no_terms no_terms = refl
    all_forgotten no_terms (term u us) = refl
    all_forgotten (term t ts) no_terms = refl
    all_forgotten (term t ts) (term u us) = ap (λ b. b && same_terms ts us) (forgotten t u) ∙ ap (λ b. same_term (forget t) (forget u) && b) (all_forgotten ts us)

module _ {Hint : Type 0} where
  pub same_term-Decides : (t u : Term ℕ Hint) → Decides (same_term t u) (forget t ≡ forget u)
  same_term-Decides t u = (term_same t u, λ e. forgotten t u ∙ ap (λ s. same_term s (forget u)) e ∙ term_itself (forget u))

  pub same_terms-Decides : (ts us : Terms ℕ Hint) → Decides (same_terms ts us) (forget_all ts ≡ forget_all us)
  same_terms-Decides ts us = (terms_same ts us, λ e. all_forgotten ts us ∙ ap (λ s. same_terms s (forget_all us)) e ∙ terms_itself (forget_all us))
