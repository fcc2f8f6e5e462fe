-- Hereditary substitution keeps the type, and so always gives a canonical term.
use Rattle.std.proofs.Common.{◌≡◌, ℕ, zero, suc, List, [], ◌∷◌, Option, Some, None, option_map, refl, sym, ◌∙◌}
use Rattle.ab_term.specs.Types.{Ty, kind, arrow}
use Rattle.ab_term.specs.Terms.{Head, constant, logical, nominal, variable, index, Term, Terms, terms_of}
use Rattle.ab_term.specs.Typing.{Signature, type_at, head_type, HasType, TakeType, typed_lam, typed_spine, take_none, take_term}
use Rattle.ab_term.specs.Substitution.{shift_index, shift_head, shift, shift_all, lower_index, lower_head, put, substitute_by, substitute_all_by, reduce, substitute, instance, instance_by_all}

-- the second context has the type at k besides
pub data Insert : ℕ → Ty → List Ty → List Ty → Type 0 where
  here : {A : Ty} {G : List Ty} → Insert zero A G (A ∷ G)
  there : {k : ℕ} {A B : Ty} {G H : List Ty} → Insert k A G H → Insert (suc k) A (B ∷ G) (B ∷ H)

pub type_at-shift : {k : ℕ} {A : Ty} {G H : List Ty} → Insert k A G H → (i : ℕ) → type_at H (shift_index k i) ≡ type_at G i
type_at-shift here i = refl
type_at-shift (there p) zero = refl
type_at-shift (there p) (suc i) = type_at-shift p i

abbrev left_at : Ty → List Ty → Option ℕ → Option Ty
left_at A G None = Some A
left_at A G (Some i) = type_at G i

left_at_suc : (A B : Ty) (G : List Ty) (o : Option ℕ) → left_at A G o ≡ left_at A (B ∷ G) (option_map suc o)
left_at_suc A B G None = refl
left_at_suc A B G (Some i) = refl

type_at-lower : {k : ℕ} {A : Ty} {G H : List Ty} → Insert k A G H → (i : ℕ) → type_at H i ≡ left_at A G (lower_index k i)
type_at-lower here zero = refl
type_at-lower here (suc i) = refl
type_at-lower (there p) zero = refl
type_at-lower (there {k = k} {A = A} {B = B} {G = G} p) (suc i) = type_at-lower p i ∙ left_at_suc A B G (lower_index k i)

module _ (sg : Signature) {Var : Type 0} where
  pub head_type-shift : {k : ℕ} {A : Ty} {G H : List Ty} → Insert k A G H → (h : Head Var) → head_type sg H (shift_head k h) ≡ head_type sg G h
  head_type-shift p (constant c) = refl
  head_type-shift p (logical l) = refl
  head_type-shift p (nominal a) = refl
  head_type-shift p (variable x) = refl
  head_type-shift p (index i) = type_at-shift p i

  -- the type of a head, or of what is put in for it
  abbrev pub left_type : Ty → List Ty → Option (Head Var) → Option Ty
  left_type A G None = Some A
  left_type A G (Some h) = head_type sg G h

left_type_index : (sg : Signature) (Var : Type 0) (A : Ty) (G : List Ty) (o : Option ℕ) → left_at A G o ≡ left_type sg {Var = Var} A G (option_map index o)
left_type_index sg Var A G None = refl
left_type_index sg Var A G (Some i) = refl

module _ (sg : Signature) {Var : Type 0} where
  pub head_type-lower : {k : ℕ} {A : Ty} {G H : List Ty} → Insert k A G H → (h : Head Var) → head_type sg H h ≡ left_type sg A G (lower_head k h)
  head_type-lower p (constant c) = refl
  head_type-lower p (logical l) = refl
  head_type-lower p (nominal a) = refl
  head_type-lower p (variable x) = refl
  head_type-lower {k = k} {A = A} {G = G} p (index i) = type_at-lower p i ∙ left_type_index sg Var A G (lower_index k i)

module _ (sg : Signature) {Var Hint : Type 0} where
  mutual
    pub shift_typed : {k : ℕ} {A B : Ty} {G H : List Ty} {t : Term Var Hint} → Insert k A G H → HasType sg G t B → HasType sg H (shift k t) B
    shift_typed p (typed_lam d) = typed_lam (shift_typed (there p) d)
    shift_typed p (typed_spine {h = h} e ds) = typed_spine (head_type-shift sg p h ∙ e) (shift_all_typed p ds)

    pub shift_all_typed : {k : ℕ} {A B C : Ty} {G H : List Ty} {ts : Terms Var Hint} → Insert k A G H → TakeType sg G ts B C → TakeType sg H (shift_all k ts) B C
    shift_all_typed p take_none = take_none
    shift_all_typed p (take_term d ds) = take_term (shift_typed p d) (shift_all_typed p ds)

  -- a term of the type A may be applied to arguments for it, and types are kept
  abbrev pub Applies : Ty → (Term Var Hint → Terms Var Hint → Term Var Hint) → Type 0
  Applies A apply = (G : List Ty) (u : Term Var Hint) (ts : Terms Var Hint) (c : List ℕ) → HasType sg G u A → TakeType sg G ts A (kind c) → HasType sg G (apply u ts) (kind c)

  put_typed : (A : Ty) (apply : Term Var Hint → Terms Var Hint → Term Var Hint) → Applies A apply → (G : List Ty) (u : Term Var Hint) → HasType sg G u A → (h : Option (Head Var)) (B : Ty) (ts : Terms Var Hint) (c : List ℕ) → left_type sg A G h ≡ Some B → TakeType sg G ts B (kind c) → HasType sg G (put apply u h ts) (kind c)
  put_typed A apply ok G u d None B ts c e ds = let same : B ≡ A = cc in ok G u ts c d (rw same at ds)
  put_typed A apply ok G u d (Some h) B ts c e ds = typed_spine e ds

  mutual
    pub substitute_by_typed : {k : ℕ} {A B : Ty} {G H : List Ty} {t : Term Var Hint} {apply : Term Var Hint → Terms Var Hint → Term Var Hint} {u : Term Var Hint} → Applies A apply → HasType sg G u A → Insert k A G H → HasType sg H t B → HasType sg G (substitute_by apply u k t) B
    substitute_by_typed ok d p (typed_lam e) = typed_lam (substitute_by_typed ok (shift_typed here d) (there p) e)
    substitute_by_typed {k = k} {A = A} {G = G} {apply = apply} {u = u} ok d p (typed_spine {h = h} {k = c} e ds) =
        put_typed A apply ok G u d (lower_head k h) _ _ c (sym (head_type-lower sg p h) ∙ e) (substitute_all_by_typed ok d p ds)

    pub substitute_all_by_typed : {k : ℕ} {A B C : Ty} {G H : List Ty} {ts : Terms Var Hint} {apply : Term Var Hint → Terms Var Hint → Term Var Hint} {u : Term Var Hint} → Applies A apply → HasType sg G u A → Insert k A G H → TakeType sg H ts B C → TakeType sg G (substitute_all_by apply u k ts) B C
    substitute_all_by_typed ok d p take_none = take_none
    substitute_all_by_typed ok d p (take_term e es) = take_term (substitute_by_typed ok d p e) (substitute_all_by_typed ok d p es)

  pub reduce_typed : (A : Ty) → Applies A (reduce A)
  reduce_typed (kind c) G u _ _ d take_none = d
  reduce_typed (arrow A B) G _ _ c (typed_lam d) (take_term e es) = reduce_typed B G _ _ c (substitute_by_typed (reduce_typed A) e here d) es

  -- the theorem
  pub substitute_typed : {k : ℕ} {A B : Ty} {G H : List Ty} {t u : Term Var Hint} → HasType sg G u A → Insert k A G H → HasType sg H t B → HasType sg G (substitute A u k t) B
  substitute_typed {A = A} d p e = substitute_by_typed (reduce_typed A) d p e

  pub instance_typed : {A B : Ty} {G : List Ty} {t u : Term Var Hint} → HasType sg G t (arrow A B) → HasType sg G u A → HasType sg G (instance t u) B
  instance_typed (typed_lam d) e = substitute_typed e here d

  pub instance_by_all_typed : (us : List (Term Var Hint)) {A B : Ty} {G : List Ty} {t : Term Var Hint} → HasType sg G t A → TakeType sg G (terms_of us) A B → HasType sg G (instance_by_all t us) B
  instance_by_all_typed [] d take_none = d
  instance_by_all_typed (u ∷ us) d (take_term e es) = instance_by_all_typed us (instance_typed d e) es
