-- A formula without its marks is of the type that it was.
use Rattle.std.specs.Prelude.{◌≡◌, ℕ, List, Some}
use Rattle.std.proofs.Common.{refl, ◌∙◌, subst}
use Rattle.ab_term.specs.Types.{Ty, kind, arrow, prop}
use Rattle.ab_term.specs.Terms.{Head, constant, logical, nominal, variable, index, Terms, no_terms, term, Read}
use Rattle.ab_term.specs.Logical.{Logical, logical_type, truth, falsity, conjunction, disjunction, implication, equality, universal, existential, nabla, judgement, focused_judgement, star, at_sign, plus, hash, spec_universal, spec_implication, spec_conjunction}
use Rattle.ab_term.specs.Typing.{Signature, HasType, typed_lam, typed_spine, TakeType, take_none, take_term, head_type}
use Rattle.ab_formulas.specs.Marks.{Sign, Making, by_head, by_scope, by_parts, by_mark, making_of, making_of_constant, unmarked, erased, erased_all}

level_type : (l : Logical) (m : Sign) → making_of_constant l ≡ by_mark m → logical_type l ≡ arrow prop prop
level_type truth m e = absurd (cc)
level_type falsity m e = absurd (cc)
level_type conjunction m e = absurd (cc)
level_type disjunction m e = absurd (cc)
level_type implication m e = absurd (cc)
level_type (equality A) m e = absurd (cc)
level_type (universal A) m e = absurd (cc)
level_type (existential A) m e = absurd (cc)
level_type (nabla A) m e = absurd (cc)
level_type judgement m e = absurd (cc)
level_type focused_judgement m e = absurd (cc)
level_type (star i) m e = refl
level_type (at_sign i) m e = refl
level_type (plus i) m e = refl
level_type (hash i) m e = refl
level_type (spec_universal A) m e = absurd (cc)
level_type spec_implication m e = absurd (cc)
level_type spec_conjunction m e = absurd (cc)

module _ (sg : Signature) where
  -- a head that is a mark takes a formula and makes one
  mark_type : (G : List Ty) (h : Head ℕ) (m : Sign) (A : Ty) → making_of h ≡ by_mark m → head_type sg G h ≡ Some A → A ≡ arrow prop prop
  mark_type G (constant c) m A e t = absurd (cc)
  mark_type G (logical l) m A e t = let same : A ≡ logical_type l = cc in same ∙ level_type l m e
  mark_type G (nominal a) m A e t = absurd (cc)
  mark_type G (variable y) m A e t = absurd (cc)
  mark_type G (index i) m A e t = absurd (cc)

  first_typed : {G : List Ty} {t : Read} {ts : Terms ℕ (List ℕ)} {A : Ty} {k : List ℕ} → A ≡ arrow prop prop → TakeType sg G (term t ts) A (kind k) → HasType sg G t (kind k)
  first_typed {G} {t} {k = k} e (take_term {A = B} d take_none) = let same : B ≡ kind k = cc in subst (λ C. HasType sg G t C) same d
  first_typed e (take_term d (take_term f ds)) = absurd (cc)

  inside : {G : List Ty} {A : Ty} {k : List ℕ} (mk : Making) (h : Head ℕ) (ts us : Terms ℕ (List ℕ)) → head_type sg G h ≡ Some A → ((m : Sign) → mk ≡ by_mark m → A ≡ arrow prop prop)
      → TakeType sg G ts A (kind k) → TakeType sg G us A (kind k) → HasType sg G (unmarked mk h ts us) (kind k)
  inside by_head h ts us e by d f = typed_spine e d
  inside by_scope h ts us e by d f = typed_spine e f
  inside by_parts h ts us e by d f = typed_spine e f
  inside (by_mark m) h no_terms us e by d f = typed_spine e f
  inside (by_mark m) h (term t ts) us e by d f = first_typed (by m refl) d

  mutual
    pub erased_typed : {G : List Ty} {t : Read} {A : Ty} → HasType sg G t A → HasType sg G (erased t) A
    erased_typed (typed_lam d) = typed_lam (erased_typed d)
    erased_typed {G} (typed_spine {A = A} {h = h} {ts = ts} e d) = inside (making_of h) h ts (erased_all ts) e (λ m by. mark_type G h m A by e) d (all_typed d)

    all_typed : {G : List Ty} {ts : Terms ℕ (List ℕ)} {A B : Ty} → TakeType sg G ts A B → TakeType sg G (erased_all ts) A B
    all_typed take_none = take_none
    all_typed (take_term d ds) = take_term (erased_typed d) (all_typed ds)
