-- The parts of a formula: by what the formula is, and that they may stand where it may, and it with others.
use Rattle.std.specs.Prelude.{All, Contains, length, drop}
use Rattle.std.proofs.Common.{◌≡◌, inl, inr, List, [], ◌∷◌, ◌++◌, map, Some, None, refl, ap}
use Rattle.std.proofs.lemmas.List.Elements.{All-head, All-cons, All-nil, All-append, All-drop, Contains-append_cases}
use Rattle.ab_term.specs.Names.{support}
use Rattle.ab_term.specs.Typing.{Signature, typed_spine, take_none, take_term}
use Rattle.ab_term.specs.Variables.{variables}
use Rattle.ab_term.proofs.Lists.{Contains-none}
use Rattle.ab_term.specs.Logical as plain
use Rattle.ab_term.specs.Logical.{Logical}
use Rattle.ab_term.specs.Terms.{Nominal, constant, logical, nominal, variable, index, lam, spine, no_terms, term, Read}
use Rattle.ab_formulas.specs.Forms.{form_alone, form_with, form_between, both_in, as_both}
use Rattle.ab_formulas.specs.Sequents.{Variable}
use Rattle.ab_theory.specs.Conjuncts.{conjuncts, with_parts}
use Rattle.ab_theory.proofs.RulesParts.{named_in, MayStand, both_may}

both_alone : (l : Logical) (p : Read × Read) → both_in (form_alone l) ≡ Some p → ⊥
both_alone plain.truth p e = absurd (cc)
both_alone plain.falsity p e = absurd (cc)
both_alone l p e = absurd (cc)

both_with : (l : Logical) (t : Read) (p : Read × Read) → both_in (form_with l t) ≡ Some p → ⊥
both_with (plain.universal A) t p e = absurd (cc)
both_with (plain.existential A) t p e = absurd (cc)
both_with (plain.nabla A) t p e = absurd (cc)
both_with (plain.star i) t p e = absurd (cc)
both_with (plain.at_sign i) t p e = absurd (cc)
both_with (plain.plus i) t p e = absurd (cc)
both_with (plain.hash i) t p e = absurd (cc)
both_with l t p e = absurd (cc)

both_between : (l : Logical) (t u A B : Read) → both_in (form_between l t u) ≡ Some (A, B) → conjuncts (spine (logical l) (term t (term u no_terms))) ≡ conjuncts A ++ conjuncts B
both_between plain.conjunction t u A B e =
    let pairs : (t, u) ≡ (A, B) = cc in
    ap (λ (p : Read × Read). conjuncts p.0 ++ conjuncts p.1) pairs
both_between plain.disjunction t u A B e = absurd (cc)
both_between plain.implication t u A B e = absurd (cc)
both_between (plain.equality X) t u A B e = absurd (cc)
both_between l t u A B e = absurd (cc)

pub both_conjuncts : (F A B : Read) → as_both F ≡ Some (A, B) → conjuncts F ≡ conjuncts A ++ conjuncts B
both_conjuncts (lam X x t) A B e = absurd (cc)
both_conjuncts (spine (logical l) no_terms) A B e = absurd (both_alone l (A, B) e)
both_conjuncts (spine (logical l) (term t no_terms)) A B e = absurd (both_with l t (A, B) e)
both_conjuncts (spine (logical l) (term t (term u no_terms))) A B e = both_between l t u A B e
both_conjuncts (spine (logical l) (term t (term u (term v ts)))) A B e = absurd (cc)
both_conjuncts (spine (constant c) ts) A B e = absurd (cc)
both_conjuncts (spine (nominal a) ts) A B e = absurd (cc)
both_conjuncts (spine (variable y) ts) A B e = absurd (cc)
both_conjuncts (spine (index i) ts) A B e = absurd (cc)

pub alone_conjuncts : (F : Read) → as_both F ≡ None → conjuncts F ≡ F ∷ []
alone_conjuncts (spine (logical plain.conjunction) (term A (term B no_terms))) e = absurd (cc)
alone_conjuncts F e = refl

module _ (sg : Signature) (xs : List Variable) (N : List Nominal) where
  abbrev May : Read → Type 0
  May F = MayStand sg xs N F

  conjunction_may : (A B : Read) → May A → May B → May (spine (logical plain.conjunction) (term A (term B no_terms)))
  conjunction_may A B a b = record {
    formula = record { typed = typed_spine refl (take_term a.formula.typed (take_term b.formula.typed take_none)); stands = (tt, (a.formula.stands, (b.formula.stands, tt))) };
    closed = All-append (Contains (map named_in xs)) (variables A) (variables B ++ []) a.closed (All-append (Contains (map named_in xs)) (variables B) [] b.closed (All-nil (Contains (map named_in xs))));
    names = λ x c. elim (Contains-append_cases (support A) (support B ++ []) x c) [
      | inl there ↦ a.names x there
      | inr there ↦ elim (Contains-append_cases (support B) [] x there) [ inl in_second ↦ b.names x in_second | inr none ↦ absurd (Contains-none x none) ]
    ];
  }

  -- THE PARTS may stand where the formula may
  pub parts_may : (F : Read) → May F → All May (conjuncts F)
  parts_may (spine (logical plain.conjunction) (term A (term B no_terms))) may =
      let both = both_may sg xs N (spine (logical plain.conjunction) (term A (term B no_terms))) (A, B) may refl in
      All-append May (conjuncts A) (conjuncts B) (parts_may A both.0) (parts_may B both.1)
  parts_may F may = All-cons May F [] may (All-nil May)

  -- so may THE FORMULA WITH OTHER PARTS that may
  pub with_parts_may : (Gs : List Read) (F : Read) → All May Gs → May F → May (with_parts Gs F)
  with_parts_may Gs (spine (logical plain.conjunction) (term A (term B no_terms))) all may =
      let both = both_may sg xs N (spine (logical plain.conjunction) (term A (term B no_terms))) (A, B) may refl in
      let rest = drop (length (conjuncts A)) Gs in
      conjunction_may (with_parts Gs A) (with_parts rest B) (with_parts_may Gs A all both.0) (with_parts_may rest B (All-drop May (length (conjuncts A)) Gs all) both.1)
  with_parts_may (G ∷ Gs) F all may = All-head May G Gs all
  with_parts_may [] F all may = may
