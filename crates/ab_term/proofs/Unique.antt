-- A term has one type at most, and keeps it when constants are added.
use Rattle.std.proofs.Common.{◌≡◌, List, Some, refl, sym, ◌∙◌, ap}
use Rattle.ab_term.specs.Types.{Ty, kind, arrow}
use Rattle.ab_term.specs.Terms.{Head, constant, logical, nominal, variable, index, Term, Terms, no_terms, term}
use Rattle.ab_term.specs.Typing.{Signature, IsExtendedBy, head_type, HasType, TakeType, typed_lam, typed_spine, take_none, take_term}

-- what arguments leave of a type
abbrev left_of : {Var Hint : Type 0} → Terms Var Hint → Ty → Ty
left_of no_terms A = A
left_of (term t ts) (kind k) = kind k
left_of (term t ts) (arrow A B) = left_of ts B

left_by : (sg : Signature) {Var Hint : Type 0} {G : List Ty} {ts : Terms Var Hint} {A B : Ty} → TakeType sg G ts A B → left_of ts A ≡ B
left_by sg take_none = refl
left_by sg (take_term d ds) = left_by sg ds

module _ (sg : Signature) {Var Hint : Type 0} where
  pub one_type : {G : List Ty} {t : Term Var Hint} {A B : Ty} → HasType sg G t A → HasType sg G t B → A ≡ B
  one_type (typed_lam {A = A} d) (typed_lam e) = ap (arrow A) (one_type d e)
  one_type (typed_spine {A = A} {ts = ts} e ds) (typed_spine {A = B} f es) =
      let same : A ≡ B = (let both : Some A ≡ Some B = sym e ∙ f in cc) in
      sym (left_by sg ds) ∙ ap (left_of ts) same ∙ left_by sg es

module _ (sg sg2 : Signature) (more : IsExtendedBy sg sg2) {Var : Type 0} where
  head_type-more : (G : List Ty) (h : Head Var) (A : Ty) → head_type sg G h ≡ Some A → head_type sg2 G h ≡ Some A
  head_type-more G (constant c) A e = more c A e
  head_type-more G (logical l) A e = e
  head_type-more G (nominal a) A e = e
  head_type-more G (variable x) A e = e
  head_type-more G (index i) A e = e

module _ (sg sg2 : Signature) (more : IsExtendedBy sg sg2) {Var Hint : Type 0} where
  mutual
    pub more_typed : {G : List Ty} {t : Term Var Hint} {A : Ty} → HasType sg G t A → HasType sg2 G t A
    more_typed (typed_lam d) = typed_lam (more_typed d)
    more_typed {G = G} (typed_spine {A = A} {h = h} e ds) = typed_spine (head_type-more sg sg2 more G h A e) (all_more_typed ds)

    all_more_typed : {G : List Ty} {ts : Terms Var Hint} {A B : Ty} → TakeType sg G ts A B → TakeType sg2 G ts A B
    all_more_typed take_none = take_none
    all_more_typed (take_term d ds) = take_term (more_typed d) (all_more_typed ds)
