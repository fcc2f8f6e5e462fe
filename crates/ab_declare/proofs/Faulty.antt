-- With other numbers for its variables, a clause has the same faults.
use Rattle.std.proofs.Common.{◌≡◌, ◌↔◌, ℕ, suc, List, ◌++◌, refl, sym, ap, ◌∙◌, subst}
use Rattle.ab_term.specs.Logical.{truth, falsity, conjunction, disjunction, implication, equality, universal, existential, nabla, judgement, focused_judgement, star, at_sign, plus, hash, spec_universal, spec_implication, spec_conjunction}
use Rattle.ab_term.specs.Terms.{Variable, Head, constant, logical, nominal, variable, index, lam, spine, Terms, no_terms, term, Read}
use Rattle.ab_term.specs.Translation.{translate_head, translate_all}
use Rattle.ab_formulas.specs.Clauses.{Clause}
use Rattle.ab_formulas.specs.Heads.{Place, in_the_atom, under_a_variable, IsNoPrefixName, KeepsNames, AllKeepNames, IsHeadOf}
use Rattle.ab_formulas.specs.Stratification.{Part, everywhere, left_of_arrows, own_constant, part_of_first, constants, constants_of_all, AvoidAll, IsFirstOf}
use Rattle.ab_formulas.specs.Faults.{Fault, IsRight, HasFault, in_head, in_body}
use Rattle.ab_declare.proofs.Renumbered.{T, moved_clause}

module _ (f : ℕ → ℕ) where
  abbrev H : Head ℕ → Head ℕ
  H = translate_head f

  abbrev Ts : Terms ℕ (List ℕ) → Terms ℕ (List ℕ)
  Ts = translate_all f (λ x. x)

  -- HEADS

  no_prefix_name : (p : Place) (k : ℕ) (y : Variable ℕ) → IsNoPrefixName p k (variable y)
  no_prefix_name in_the_atom k y = tt
  no_prefix_name under_a_variable k y = tt

  mutual
    keeps_moved : (p : Place) (k : ℕ) (t : Read) → KeepsNames p k (T f t) ↔ KeepsNames p k t
    keeps_moved p k (lam A x t) = keeps_moved p (suc k) t
    keeps_moved p k (spine (constant c) ts) = let r = all_keep_moved p k ts in (λ h. (h.0, r.0 h.1), λ h. (h.0, r.1 h.1))
    keeps_moved p k (spine (logical l) ts) = let r = all_keep_moved p k ts in (λ h. (h.0, r.0 h.1), λ h. (h.0, r.1 h.1))
    keeps_moved p k (spine (nominal a) ts) = let r = all_keep_moved p k ts in (λ h. (h.0, r.0 h.1), λ h. (h.0, r.1 h.1))
    keeps_moved p k (spine (index i) ts) = let r = all_keep_moved p k ts in (λ h. (h.0, r.0 h.1), λ h. (h.0, r.1 h.1))
    keeps_moved p k (spine (variable y) ts) =
        let r = all_keep_moved under_a_variable k ts in
        (λ h. (no_prefix_name p k y, r.0 h.1), λ h. (no_prefix_name p k (record { name = f y.name; type = y.type }), r.1 h.1))

    all_keep_moved : (p : Place) (k : ℕ) (ts : Terms ℕ (List ℕ)) → AllKeepNames p k (Ts ts) ↔ AllKeepNames p k ts
    all_keep_moved p k no_terms = (λ h. h, λ h. h)
    all_keep_moved p k (term t ts) =
        let a = keeps_moved p k t in
        let r = all_keep_moved p k ts in
        (λ h. (a.0 h.0, r.0 h.1), λ h. (a.1 h.0, r.1 h.1))

  module _ (ps : List (List ℕ)) where
    head_moved : (t : Read) → IsHeadOf ps (T f t) ↔ IsHeadOf ps t
    head_moved (lam A x t) = (λ h. h, λ h. h)
    head_moved (spine (constant c) ts) = let r = all_keep_moved in_the_atom 0 ts in (λ h. (h.0, r.0 h.1), λ h. (h.0, r.1 h.1))
    head_moved (spine (nominal a) ts) = (λ h. h, λ h. h)
    head_moved (spine (variable y) ts) = (λ h. h, λ h. h)
    head_moved (spine (index i) ts) = (λ h. h, λ h. h)
    head_moved (spine (logical truth) ts) = (λ h. h, λ h. h)
    head_moved (spine (logical falsity) ts) = (λ h. h, λ h. h)
    head_moved (spine (logical conjunction) ts) = (λ h. h, λ h. h)
    head_moved (spine (logical disjunction) ts) = (λ h. h, λ h. h)
    head_moved (spine (logical implication) ts) = (λ h. h, λ h. h)
    head_moved (spine (logical (equality A)) ts) = (λ h. h, λ h. h)
    head_moved (spine (logical (universal A)) ts) = (λ h. h, λ h. h)
    head_moved (spine (logical (existential A)) ts) = (λ h. h, λ h. h)
    head_moved (spine (logical judgement) ts) = (λ h. h, λ h. h)
    head_moved (spine (logical focused_judgement) ts) = (λ h. h, λ h. h)
    head_moved (spine (logical (star i)) ts) = (λ h. h, λ h. h)
    head_moved (spine (logical (at_sign i)) ts) = (λ h. h, λ h. h)
    head_moved (spine (logical (plus i)) ts) = (λ h. h, λ h. h)
    head_moved (spine (logical (hash i)) ts) = (λ h. h, λ h. h)
    head_moved (spine (logical (spec_universal A)) ts) = (λ h. h, λ h. h)
    head_moved (spine (logical spec_implication) ts) = (λ h. h, λ h. h)
    head_moved (spine (logical spec_conjunction) ts) = (λ h. h, λ h. h)
    head_moved (spine (logical (nabla A)) no_terms) = (λ h. h, λ h. h)
    head_moved (spine (logical (nabla A)) (term (spine g us) ts)) = (λ h. h, λ h. h)
    head_moved (spine (logical (nabla A)) (term (lam B x t) (term u us))) = (λ h. h, λ h. h)
    head_moved (spine (logical (nabla A)) (term (lam B x t) no_terms)) = head_moved t

  -- BODIES

  own_moved : (p : Part) (h : Head ℕ) → own_constant p (H h) ≡ own_constant p h
  own_moved everywhere (constant c) = refl
  own_moved everywhere (logical l) = refl
  own_moved everywhere (nominal a) = refl
  own_moved everywhere (variable y) = refl
  own_moved everywhere (index i) = refl
  own_moved left_of_arrows h = refl

  part_moved : (p : Part) (h : Head ℕ) → part_of_first p (H h) ≡ part_of_first p h
  part_moved p (constant c) = refl
  part_moved p (logical l) = refl
  part_moved p (nominal a) = refl
  part_moved p (variable y) = refl
  part_moved p (index i) = refl

  mutual
    constants_moved : (p : Part) (t : Read) → constants p (T f t) ≡ constants p t
    constants_moved p (lam A x t) = constants_moved p t
    constants_moved p (spine h ts) =
        ap (λ l. l ++ constants_of_all (part_of_first p (H h)) p (Ts ts)) (own_moved p h)
        ∙ (ap (λ q. own_constant p h ++ constants_of_all q p (Ts ts)) (part_moved p h)
        ∙ ap (λ l. own_constant p h ++ l) (all_constants_moved (part_of_first p h) p ts))

    all_constants_moved : (first others : Part) (ts : Terms ℕ (List ℕ)) → constants_of_all first others (Ts ts) ≡ constants_of_all first others ts
    all_constants_moved first others no_terms = refl
    all_constants_moved first others (term t ts) =
        ap (λ l. l ++ constants_of_all others others (Ts ts)) (constants_moved first t)
        ∙ ap (λ l. constants first t ++ l) (all_constants_moved others others ts)

  -- CLAUSES

  module _ (ps : List (List ℕ)) where
    pub right_moved : (c : Clause) → IsRight ps (moved_clause f c) ↔ IsRight ps c
    right_moved c =
        let h = head_moved ps c.head in
        let e = constants_moved left_of_arrows c.body in
        (λ r. record { head = h.0 r.head; body = subst (AvoidAll ps) e r.body }, λ r. record { head = h.1 r.head; body = subst (AvoidAll ps) (sym e) r.body })

    pub fault_moved : (number : ℕ) (c : Clause) (z : Fault) → HasFault ps number (moved_clause f c) z ↔ HasFault ps number c z
    fault_moved number c z = (forth z, back z)
      where
        forth : (z : Fault) → HasFault ps number (moved_clause f c) z → HasFault ps number c z
        forth z (in_head n) = in_head (λ h. n ((head_moved ps c.head).1 h))
        forth z (in_body {p = p} h i) = in_body ((head_moved ps c.head).0 h) (subst (λ names. IsFirstOf ps names p) (constants_moved left_of_arrows c.body) i)

        back : (z : Fault) → HasFault ps number c z → HasFault ps number (moved_clause f c) z
        back z (in_head n) = in_head (λ h. n ((head_moved ps c.head).0 h))
        back z (in_body {p = p} h i) = in_body ((head_moved ps c.head).1 h) (subst (λ names. IsFirstOf ps names p) (sym (constants_moved left_of_arrows c.body)) i)
