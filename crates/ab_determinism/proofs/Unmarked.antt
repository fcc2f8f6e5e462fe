-- A formula without its marks is of the type that it was, and holds no other variables.
use Rattle.std.specs.Prelude.{Contains}
use Rattle.std.proofs.Common.{◌≡◌, inl, inr, ℕ, List, ◌++◌, map, Some, refl, ◌∙◌, subst}
use Rattle.std.proofs.lemmas.List.Elements.{All-contains, Contains-append_left, Contains-append_right, Contains-append_cases}
use Rattle.ab_term.specs.Types.{Ty, kind, arrow, prop}
use Rattle.ab_term.specs.Terms.{Variable, Head, constant, logical, nominal, variable, index, lam, spine, Terms, no_terms, term, Read}
use Rattle.ab_term.specs.Logical.{Logical, logical_type, truth, falsity, conjunction, disjunction, implication, equality, universal, existential, nabla, judgement, focused_judgement, star, at_sign, plus, hash, spec_universal, spec_implication, spec_conjunction}
use Rattle.ab_term.specs.Typing.{Signature, HasType, typed_lam, typed_spine, TakeType, take_none, take_term, head_type}
use Rattle.ab_term.specs.Variables.{variables_of_head, variables, variables_of_all}
use Rattle.ab_term.proofs.Lists.{All-from_contains}
use Rattle.ab_formulas.specs.Marks.{Sign, Making, by_head, by_scope, by_parts, by_mark, making_of, making_of_constant, unmarked, erased, erased_all}
use Rattle.ab_formulas.specs.Sequents as sequent
use Rattle.ab_formulas.specs.Sequents.{HoldsOnly, in_terms}

-- ITS TYPE

level_type : (l : Logical) (m : Sign) → making_of_constant l ≡ by_mark m → logical_type l ≡ arrow prop prop
level_type truth m e = absurd (cc)
level_type falsity m e = absurd (cc)
level_type conjunction m e = absurd (cc)
level_type disjunction m e = absurd (cc)
level_type implication m e = absurd (cc)
level_type (equality A) m e = absurd (cc)
level_type (universal A) m e = absurd (cc)
level_type (existential A) m e = absurd (cc)
level_type (nabla A) m e = absurd (cc)
level_type judgement m e = absurd (cc)
level_type focused_judgement m e = absurd (cc)
level_type (star i) m e = refl
level_type (at_sign i) m e = refl
level_type (plus i) m e = refl
level_type (hash i) m e = refl
level_type (spec_universal A) m e = absurd (cc)
level_type spec_implication m e = absurd (cc)
level_type spec_conjunction m e = absurd (cc)

module _ (sg : Signature) where
  -- a head that is a mark takes a formula and makes one
  mark_type : (G : List Ty) (h : Head ℕ) (m : Sign) (A : Ty) → making_of h ≡ by_mark m → head_type sg G h ≡ Some A → A ≡ arrow prop prop
  mark_type G (constant c) m A e t = absurd (cc)
  mark_type G (logical l) m A e t = let same : A ≡ logical_type l = cc in same ∙ level_type l m e
  mark_type G (nominal a) m A e t = absurd (cc)
  mark_type G (variable y) m A e t = absurd (cc)
  mark_type G (index i) m A e t = absurd (cc)

  first_typed : {G : List Ty} {t : Read} {ts : Terms ℕ (List ℕ)} {A : Ty} {k : List ℕ} → A ≡ arrow prop prop → TakeType sg G (term t ts) A (kind k) → HasType sg G t (kind k)
  first_typed {G} {t} {k = k} e (take_term {A = B} d take_none) = let same : B ≡ kind k = cc in subst (λ C. HasType sg G t C) same d
  first_typed e (take_term d (take_term f ds)) = absurd (cc)

  inside : {G : List Ty} {A : Ty} {k : List ℕ} (mk : Making) (h : Head ℕ) (ts us : Terms ℕ (List ℕ)) → head_type sg G h ≡ Some A → ((m : Sign) → mk ≡ by_mark m → A ≡ arrow prop prop)
      → TakeType sg G ts A (kind k) → TakeType sg G us A (kind k) → HasType sg G (unmarked mk h ts us) (kind k)
  inside by_head h ts us e by d f = typed_spine e d
  inside by_scope h ts us e by d f = typed_spine e f
  inside by_parts h ts us e by d f = typed_spine e f
  inside (by_mark m) h no_terms us e by d f = typed_spine e f
  inside (by_mark m) h (term t ts) us e by d f = first_typed (by m refl) d

  mutual
    pub erased_typed : {G : List Ty} {t : Read} {A : Ty} → HasType sg G t A → HasType sg G (erased t) A
    erased_typed (typed_lam d) = typed_lam (erased_typed d)
    erased_typed {G} (typed_spine {A = A} {h = h} {ts = ts} e d) = inside (making_of h) h ts (erased_all ts) e (λ m by. mark_type G h m A by e) d (all_typed d)

    all_typed : {G : List Ty} {ts : Terms ℕ (List ℕ)} {A B : Ty} → TakeType sg G ts A B → TakeType sg G (erased_all ts) A B
    all_typed take_none = take_none
    all_typed (take_term d ds) = take_term (erased_typed d) (all_typed ds)

-- ITS VARIABLES

beside_head : (h : Head ℕ) (ts us : Terms ℕ (List ℕ)) → ((y : Variable ℕ) → Contains (variables_of_all us) y → Contains (variables_of_all ts) y)
    → (y : Variable ℕ) → Contains (variables (spine h us)) y → Contains (variables (spine h ts)) y
beside_head h ts us within y m = elim (Contains-append_cases (variables_of_head h) (variables_of_all us) y m) [
  | inl c ↦ Contains-append_left (variables_of_head h) (variables_of_all ts) y c
  | inr c ↦ Contains-append_right (variables_of_head h) (variables_of_all ts) y (within y c)
]

inside_within : (mk : Making) (h : Head ℕ) (ts us : Terms ℕ (List ℕ)) → ((y : Variable ℕ) → Contains (variables_of_all us) y → Contains (variables_of_all ts) y)
    → (y : Variable ℕ) → Contains (variables (unmarked mk h ts us)) y → Contains (variables (spine h ts)) y
inside_within by_head h ts us within y m = m
inside_within by_scope h ts us within y m = beside_head h ts us within y m
inside_within by_parts h ts us within y m = beside_head h ts us within y m
inside_within (by_mark k) h no_terms us within y m = beside_head h no_terms us within y m
inside_within (by_mark k) h (term t ts) us within y m =
    Contains-append_right (variables_of_head h) (variables t ++ variables_of_all ts) y (Contains-append_left (variables t) (variables_of_all ts) y m)

mutual
  erased_within : (t : Read) (y : Variable ℕ) → Contains (variables (erased t)) y → Contains (variables t) y
  erased_within (lam A x t) y m = erased_within t y m
  erased_within (spine h ts) y m = inside_within (making_of h) h ts (erased_all ts) (all_within ts) y m

  all_within : (ts : Terms ℕ (List ℕ)) (y : Variable ℕ) → Contains (variables_of_all (erased_all ts)) y → Contains (variables_of_all ts) y
  all_within no_terms y m = m
  all_within (term t ts) y m = elim (Contains-append_cases (variables (erased t)) (variables_of_all (erased_all ts)) y m) [
    | inl c ↦ Contains-append_left (variables t) (variables_of_all ts) y (erased_within t y c)
    | inr c ↦ Contains-append_right (variables t) (variables_of_all ts) y (all_within ts y c)
  ]

pub erased_closed : (xs : List sequent.Variable) (t : Read) → HoldsOnly xs t → HoldsOnly xs (erased t)
erased_closed xs t closed = All-from_contains (Contains (map in_terms xs)) (variables (erased t)) (λ y m. All-contains (Contains (map in_terms xs)) (variables t) y closed (erased_within t y m))
