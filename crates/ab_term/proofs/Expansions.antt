-- The eta-long form of a head has the head's type; given arguments, it is the head with these arguments; what is
-- put in for it is what is put in. The last two are laws of terms without hints, since the form has hints of its own.
use Rattle.std.proofs.Common.{◌≡◌, ℕ, zero, suc, ◌⊎◌, inl, inr, List, ◌∷◌, Some, None, option_map, refl, sym, ◌∙◌, subst, ap, arith}
use Rattle.ab_term.specs.Types.{Ty, kind, arrow, IsFirstOrder}
use Rattle.ab_term.specs.Terms.{Head, constant, logical, nominal, variable, index, Term, lam, spine, Terms, no_terms, term, joined, with_last}
use Rattle.ab_term.specs.Typing.{Signature, type_at, head_type, HasType, TakeType, typed_lam, typed_spine, take_none, take_term}
use Rattle.ab_term.specs.Substitution.{shift_index, shift_head, shift, shift_all, lower_index, lower_head, put, substitute_by, substitute_all_by, reduce, substitute, substitute_all}
use Rattle.ab_term.specs.Expansion.{expansion_of, expansion}
use Rattle.ab_term.proofs.Preservation.{here, shift_typed, shift_all_typed, substitute_typed}
use Rattle.ab_term.proofs.Shifts.{shift_head-shift_head, lower_head-shift_head, lower_head-shift_low, substitute_all_by-shift, shift_all-shift_all, ShiftsThrough, shift_all-substitute_low, shift-reduce}

pub lower_index-same : (k : ℕ) → lower_index k k ≡ None
lower_index-same zero = refl
lower_index-same (suc k) = ap (option_map suc) (lower_index-same k)

-- where the index k is put in place of itself
index_in_place : (k i : ℕ) → (lower_index k (shift_index (suc k) i) ≡ Some i) ⊎ ((i ≡ k) × (lower_index k (shift_index (suc k) i) ≡ None))
index_in_place zero zero = inr (refl, refl)
index_in_place zero (suc i) = inl refl
index_in_place (suc k) zero = inl refl
index_in_place (suc k) (suc i) = go (index_in_place k i)
  where
    go : (lower_index k (shift_index (suc k) i) ≡ Some i) ⊎ ((i ≡ k) × (lower_index k (shift_index (suc k) i) ≡ None)) → (lower_index (suc k) (shift_index (suc (suc k)) (suc i)) ≡ Some (suc i)) ⊎ ((suc i ≡ suc k) × (lower_index (suc k) (shift_index (suc (suc k)) (suc i)) ≡ None))
    go (inl e) = inl (ap (option_map suc) e)
    go (inr e) = inr (ap suc e.0, ap (option_map suc) e.1)

module _ {Var Hint : Type 0} where
  joined-with_last : (ts : Terms Var Hint) (t : Term Var Hint) (us : Terms Var Hint) → joined (with_last ts t) us ≡ joined ts (term t us)
  joined-with_last no_terms t us = refl
  joined-with_last (term s ts) t us = ap (term s) (joined-with_last ts t us)

  shift_all-with_last : (j : ℕ) (ts : Terms Var Hint) (t : Term Var Hint) → shift_all j (with_last ts t) ≡ with_last (shift_all j ts) (shift j t)
  shift_all-with_last j no_terms t = refl
  shift_all-with_last j (term s ts) t = ap (term (shift j s)) (shift_all-with_last j ts t)

  substitute_all_by-with_last : (r : Term Var Hint → Terms Var Hint → Term Var Hint) (u : Term Var Hint) (k : ℕ) (ts : Terms Var Hint) (t : Term Var Hint) → substitute_all_by r u k (with_last ts t) ≡ with_last (substitute_all_by r u k ts) (substitute_by r u k t)
  substitute_all_by-with_last r u k no_terms t = refl
  substitute_all_by-with_last r u k (term s ts) t = ap (term (substitute_by r u k s)) (substitute_all_by-with_last r u k ts t)

  pub reduce-no_terms : (A : Ty) (u : Term Var Hint) → reduce A u no_terms ≡ u
  reduce-no_terms (kind c) u = refl
  reduce-no_terms (arrow A B) (lam C x t) = refl
  reduce-no_terms (arrow A B) (spine h ts) = refl

  joined-no_terms : (ts : Terms Var Hint) → joined ts no_terms ≡ ts
  joined-no_terms no_terms = refl
  joined-no_terms (term t ts) = ap (term t) (joined-no_terms ts)

module _ {Var Hint : Type 0} (x : Hint) where
  pub shift-expansion_of : (B : Ty) (j : ℕ) (h : Head Var) (ts : Terms Var Hint) → shift j (expansion_of x B h ts) ≡ expansion_of x B (shift_head j h) (shift_all j ts)
  shift-expansion_of (kind c) j h ts = refl
  shift-expansion_of (arrow B C) j h ts = ap (lam B x)
      (shift-expansion_of C (suc j) (shift_head zero h) (with_last (shift_all zero ts) (expansion x B (index zero)))
      ∙ ap (λ g. expansion_of x C g (shift_all (suc j) (with_last (shift_all zero ts) (expansion x B (index zero))))) (shift_head-shift_head zero j h (omega arith))
      ∙ ap (expansion_of x C (shift_head zero (shift_head j h)))
      (shift_all-with_last (suc j) (shift_all zero ts) (expansion x B (index zero))
      ∙ ap (λ l. with_last l (shift (suc j) (expansion x B (index zero)))) (shift_all-shift_all ts zero j (omega arith))
      ∙ ap (with_last (shift_all zero (shift_all j ts))) (shift-expansion_of B (suc j) (index zero) no_terms)))

  pub substitute_by-expansion_of : (B : Ty) (r : Term Var Hint → Terms Var Hint → Term Var Hint) → ShiftsThrough r → (u : Term Var Hint) (k : ℕ) (h g : Head Var) (ts : Terms Var Hint) → lower_head k h ≡ Some g → substitute_by r u k (expansion_of x B h ts) ≡ expansion_of x B g (substitute_all_by r u k ts)
  substitute_by-expansion_of (kind c) r through u k h g ts e = ap (λ o. put r u o (substitute_all_by r u k ts)) e
  substitute_by-expansion_of (arrow B C) r through u k h g ts e = ap (lam B x)
      (substitute_by-expansion_of C r through (shift zero u) (suc k) (shift_head zero h) (shift_head zero g) (with_last (shift_all zero ts) (expansion x B (index zero))) (lower_head-shift_low zero k h (omega arith) ∙ ap (option_map (shift_head zero)) e)
      ∙ ap (expansion_of x C (shift_head zero g))
      (substitute_all_by-with_last r (shift zero u) (suc k) (shift_all zero ts) (expansion x B (index zero))
      ∙ ap (λ l. with_last l (substitute_by r (shift zero u) (suc k) (expansion x B (index zero)))) (sym (shift_all-substitute_low ts r u zero k through (omega arith)))
      ∙ ap (with_last (shift_all zero (substitute_all_by r u k ts))) (substitute_by-expansion_of B r through (shift zero u) (suc k) (index zero) (index zero) no_terms refl)))

module _ (sg : Signature) {Var Hint : Type 0} where
  pub take_last : {G : List Ty} {ts : Terms Var Hint} {t : Term Var Hint} {A B C : Ty} → TakeType sg G ts A (arrow B C) → HasType sg G t B → TakeType sg G (with_last ts t) A C
  take_last take_none d = take_term d take_none
  take_last (take_term e es) d = take_term e (take_last es d)

  -- a term that is applied to some of its arguments
  pub reduce_taken : {A B : Ty} {G : List Ty} {v : Term Var Hint} {ts : Terms Var Hint} → HasType sg G v A → TakeType sg G ts A B → HasType sg G (reduce A v ts) B
  reduce_taken {A = A} {G = G} {v = v} d take_none = subst (λ w. HasType sg G w A) (sym (reduce-no_terms A v)) d
  reduce_taken (typed_lam d) (take_term e es) = reduce_taken (substitute_typed sg e here d) es

  reduce-with_last : {A B : Ty} {G : List Ty} {v : Term Var Hint} (t : Term Var Hint) {ts : Terms Var Hint} → HasType sg G v A → TakeType sg G ts A B → reduce A v (with_last ts t) ≡ reduce B (reduce A v ts) (term t no_terms)
  reduce-with_last {A = A} {v = v} t d take_none = sym (ap (λ w. reduce A w (term t no_terms)) (reduce-no_terms A v))
  reduce-with_last t (typed_lam d) (take_term e es) = reduce-with_last t (substitute_typed sg e here d) es

module _ (sg : Signature) {Var : Type 0} where
  head_type-shift_here : (D : Ty) (G : List Ty) (h : Head Var) → head_type sg (D ∷ G) (shift_head zero h) ≡ head_type sg G h
  head_type-shift_here D G (constant c) = refl
  head_type-shift_here D G (logical l) = refl
  head_type-shift_here D G (nominal a) = refl
  head_type-shift_here D G (variable y) = refl
  head_type-shift_here D G (index i) = refl

module _ (sg : Signature) {Var Hint : Type 0} (x : Hint) where
  pub expansion_of_typed : (B : Ty) (G : List Ty) (h : Head Var) (A : Ty) (ts : Terms Var Hint) → head_type sg G h ≡ Some A → TakeType sg G ts A B → HasType sg G (expansion_of x B h ts) B
  expansion_of_typed (kind c) G h A ts e ds = typed_spine e ds
  expansion_of_typed (arrow B C) G h A ts e ds =
      typed_lam (expansion_of_typed C (B ∷ G) (shift_head zero h) A _ (head_type-shift_here sg B G h ∙ e) (take_last sg (shift_all_typed sg here ds) (expansion_of_typed B (B ∷ G) (index zero) B no_terms refl take_none)))

  -- a head's expansion has the head's type
  pub expansion_typed : (A : Ty) (G : List Ty) (h : Head Var) → head_type sg G h ≡ Some A → HasType sg G (expansion x A h) A
  expansion_typed A G h e = expansion_of_typed A G h A no_terms e take_none

module _ (sg : Signature) (Var : Type 0) where
  -- the expansion of a head, applied, is the head applied
  abbrev pub Applied : Ty → Type 0
  Applied A = (G : List Ty) (h : Head Var) (done ts : Terms Var (Unit {0})) (c : List ℕ) → TakeType sg G ts A (kind c) → reduce A (expansion_of tt A h done) ts ≡ spine h (joined done ts)

  rename_spine : (B : Ty) → Applied B → (G : List Ty) (k : ℕ) → type_at G k ≡ Some B → (h : Head Var) (D : Ty) (ts : Terms Var (Unit {0})) (c : List ℕ) → head_type sg G h ≡ Some D → TakeType sg G ts D (kind c)
      → substitute_all B (expansion tt B (index k)) k (shift_all (suc k) ts) ≡ ts → substitute B (expansion tt B (index k)) k (shift (suc k) (spine h ts)) ≡ spine h ts
  rename_spine B app G k at (constant x) D ts c e ds ih = ap (spine (constant x)) ih
  rename_spine B app G k at (logical l) D ts c e ds ih = ap (spine (logical l)) ih
  rename_spine B app G k at (nominal a) D ts c e ds ih = ap (spine (nominal a)) ih
  rename_spine B app G k at (variable y) D ts c e ds ih = ap (spine (variable y)) ih
  rename_spine B app G k at (index i) D ts c e ds ih = go (index_in_place k i)
    where
      go : (lower_index k (shift_index (suc k) i) ≡ Some i) ⊎ ((i ≡ k) × (lower_index k (shift_index (suc k) i) ≡ None)) → substitute B (expansion tt B (index k)) k (shift (suc k) (spine (index i) ts)) ≡ spine (index i) ts
      go (inl o) = ap (λ o. put (reduce B) (expansion tt B (index k)) (option_map index o) (substitute_all B (expansion tt B (index k)) k (shift_all (suc k) ts))) o ∙ ap (spine (index i)) ih
      go (inr o) =
          let some : Some D ≡ Some B = sym e ∙ ap (type_at G) o.0 ∙ at in
          let same : D ≡ B = cc in
          ap (λ o. put (reduce B) (expansion tt B (index k)) (option_map index o) (substitute_all B (expansion tt B (index k)) k (shift_all (suc k) ts))) o.1
          ∙ ap (reduce B (expansion tt B (index k))) ih
          ∙ app G (index k) no_terms ts c (subst (λ E. TakeType sg G ts E (kind c)) same ds)
          ∙ ap (λ n. spine (index n) ts) (sym o.0)

  mutual
    rename_by : {B D : Ty} {G : List Ty} (k : ℕ) {t : Term Var (Unit {0})} → Applied B → type_at G k ≡ Some B → HasType sg G t D → substitute B (expansion tt B (index k)) k (shift (suc k) t) ≡ t
    rename_by {B = B} k app at (typed_lam {A = A} {x = y} {t = t} d) =
        ap (lam A y) (ap (λ w. substitute B w (suc k) (shift (suc (suc k)) t)) (shift-expansion_of tt B zero (index k) no_terms) ∙ rename_by (suc k) app at d)
    rename_by {B = B} {G = G} k app at (typed_spine {A = A} {h = h} {ts = ts} {k = c} e ds) = rename_spine B app G k at h A ts c e ds (rename_all_by k app at ds)

    rename_all_by : {B D : Ty} {c : List ℕ} {G : List Ty} (k : ℕ) {ts : Terms Var (Unit {0})} → Applied B → type_at G k ≡ Some B → TakeType sg G ts D (kind c) → substitute_all B (expansion tt B (index k)) k (shift_all (suc k) ts) ≡ ts
    rename_all_by k app at take_none = refl
    rename_all_by {B = B} k app at (take_term {t = t} {ts = ts} d ds) =
        ap (λ s. term s (substitute_all B (expansion tt B (index k)) k (shift_all (suc k) ts))) (rename_by k app at d) ∙ ap (term t) (rename_all_by k app at ds)

  -- what is put in place of a name's expansion is what is put in, with the arguments
  abbrev pub Full : Ty → Type 0
  Full B = (A : Ty) (G : List Ty) (v : Term Var (Unit {0})) (k : ℕ) (xs ys : Terms Var (Unit {0})) → HasType sg G v A → TakeType sg G ys A B → substitute_all A v k xs ≡ ys → substitute A v k (expansion_of tt B (index k) xs) ≡ reduce A v ys

  full_kind : (c : List ℕ) → Full (kind c)
  full_kind c A G v k xs ys d ds e = ap (λ o. put (reduce A) v (option_map index o) (substitute_all A v k xs)) (lower_index-same k) ∙ ap (reduce A v) e

  pub by_lam : (A B C : Ty) → Applied B → {G : List Ty} {v : Term Var (Unit {0})} {ys : Terms Var (Unit {0})} {w : Term Var (Unit {0})} → HasType sg G v A → TakeType sg G ys A (arrow B C) → reduce A v ys ≡ w → HasType sg G w (arrow B C)
      → lam B tt (reduce A (shift zero v) (with_last (shift_all zero ys) (expansion tt B (index zero)))) ≡ w
  by_lam A B C app {G = G} {v = v} {ys = ys} d ds e (typed_lam {t = t} f) = ap (lam B tt)
      (reduce-with_last sg (expansion tt B (index zero)) (let up_d : HasType sg (B ∷ G) (shift zero v) A = shift_typed sg here d in up_d) (shift_all_typed sg here ds)
      ∙ ap (λ w. reduce (arrow B C) w (term (expansion tt B (index zero)) no_terms)) (sym (shift-reduce A zero v ys) ∙ ap (shift zero) e)
      ∙ reduce-no_terms C (substitute B (expansion tt B (index zero)) zero (shift (suc zero) t))
      ∙ rename_by zero app refl f)

  full_arrow : (B C : Ty) → Applied B → Full C → Full (arrow B C)
  full_arrow B C app more A G v k xs ys d ds e =
      ap (lam B tt) (more A (B ∷ G) (shift zero v) (suc k) (with_last (shift_all zero xs) (expansion tt B (index zero))) (with_last (shift_all zero ys) (expansion tt B (index zero)))
      (shift_typed sg here d) (take_last sg (shift_all_typed sg here ds) (expansion_typed sg tt B (B ∷ G) (index zero) refl))
      (substitute_all_by-with_last (reduce A) (shift zero v) (suc k) (shift_all zero xs) (expansion tt B (index zero))
      ∙ ap (λ l. with_last l (substitute A (shift zero v) (suc k) (expansion tt B (index zero)))) (sym (shift_all-substitute_low xs (reduce A) v zero k (shift-reduce A) (omega arith)) ∙ ap (shift_all zero) e)
      ∙ ap (with_last (shift_all zero ys)) (substitute_by-expansion_of tt B (reduce A) (shift-reduce A) (shift zero v) (suc k) (index zero) (index zero) no_terms refl)))
      ∙ by_lam A B C app d ds refl (reduce_taken sg d ds)

  applied_arrow : (B C : Ty) → Full B → Applied C → Applied (arrow B C)
  applied_arrow B C full more G h done _ c (take_term {t = v} {ts = vs} d ds) =
      ap (λ w. reduce C w vs) (substitute_by-expansion_of tt C (reduce B) (shift-reduce B) v zero (shift_head zero h) h (with_last (shift_all zero done) (expansion tt B (index zero))) (lower_head-shift_head zero h))
      ∙ ap (λ l. reduce C (expansion_of tt C h l) vs)
      (substitute_all_by-with_last (reduce B) v zero (shift_all zero done) (expansion tt B (index zero))
      ∙ ap (λ l. with_last l (substitute B v zero (expansion tt B (index zero)))) (substitute_all_by-shift done (reduce B) v zero)
      ∙ ap (with_last done) (full B G v zero no_terms no_terms d take_none refl ∙ reduce-no_terms B v))
      ∙ more G h (with_last done v) vs c ds
      ∙ ap (spine h) (joined-with_last done v vs)

  applied_kind : (c : List ℕ) → Applied (kind c)
  applied_kind c G h done _ _ take_none = ap (spine h) (sym (joined-no_terms done))

  both : (A : Ty) → Applied A × Full A
  both (kind c) = (applied_kind c, full_kind c)
  both (arrow B C) = (applied_arrow B C (both B).1 (both C).0, full_arrow B C (both B).0 (both C).1)

  -- the three laws
  pub reduce-expansion_of : (A : Ty) → Applied A
  reduce-expansion_of A = (both A).0

  pub substitute-expansion : {A : Ty} {G : List Ty} {v : Term Var (Unit {0})} → HasType sg G v A → substitute A v zero (expansion tt A (index zero)) ≡ v
  substitute-expansion {A = A} {G = G} {v = v} d = (both A).1 A G v zero no_terms no_terms d take_none refl ∙ reduce-no_terms A v

  pub substitute-own_name : {B D : Ty} {G : List Ty} (k : ℕ) {t : Term Var (Unit {0})} → type_at G k ≡ Some B → HasType sg G t D → substitute B (expansion tt B (index k)) k (shift (suc k) t) ≡ t
  substitute-own_name {B = B} k at d = rename_by k (reduce-expansion_of B) at d

  -- given some arguments, it is the form of what is left
  pub reduce-some : {A B : Ty} {G : List Ty} (h : Head Var) (done : Terms Var (Unit {0})) {ts : Terms Var (Unit {0})} → TakeType sg G ts A B → reduce A (expansion_of tt A h done) ts ≡ expansion_of tt B h (joined done ts)
  reduce-some {A = A} h done take_none = reduce-no_terms A (expansion_of tt A h done) ∙ ap (expansion_of tt A h) (sym (joined-no_terms done))
  reduce-some {B = D} {G = G} h done (take_term {A = B} {B = C} {t = v} {ts = vs} d ds) =
      ap (λ w. reduce C w vs) (substitute_by-expansion_of tt C (reduce B) (shift-reduce B) v zero (shift_head zero h) h (with_last (shift_all zero done) (expansion tt B (index zero))) (lower_head-shift_head zero h))
      ∙ ap (λ l. reduce C (expansion_of tt C h l) vs)
      (substitute_all_by-with_last (reduce B) v zero (shift_all zero done) (expansion tt B (index zero))
      ∙ ap (λ l. with_last l (substitute B v zero (expansion tt B (index zero)))) (substitute_all_by-shift done (reduce B) v zero)
      ∙ ap (with_last done) (substitute-expansion d))
      ∙ reduce-some h (with_last done v) ds
      ∙ ap (expansion_of tt D h) (joined-with_last done v vs)

module _ (sg : Signature) {Var Hint : Type 0} (x : Hint) where
  -- at a type all of whose arguments are of kinds, with hints
  pub reduce-first_order : {A : Ty} {G : List Ty} (h : Head Var) (done : Terms Var Hint) {ts : Terms Var Hint} {c : List ℕ} → TakeType sg G ts A (kind c) → IsFirstOrder A → reduce A (expansion_of x A h done) ts ≡ spine h (joined done ts)
  reduce-first_order h done take_none f = ap (spine h) (sym (joined-no_terms done))
  reduce-first_order h done (take_term {A = kind k} {B = C} {t = v} {ts = vs} d ds) f =
      ap (λ w. reduce C w vs) (substitute_by-expansion_of x C (reduce (kind k)) (shift-reduce (kind k)) v zero (shift_head zero h) h (with_last (shift_all zero done) (spine (index zero) no_terms)) (lower_head-shift_head zero h))
      ∙ ap (λ l. reduce C (expansion_of x C h l) vs)
      (substitute_all_by-with_last (reduce (kind k)) v zero (shift_all zero done) (spine (index zero) no_terms)
      ∙ ap (λ l. with_last l v) (substitute_all_by-shift done (reduce (kind k)) v zero))
      ∙ reduce-first_order h (with_last done v) ds f
      ∙ ap (spine h) (joined-with_last done v vs)
  reduce-first_order h done (take_term {A = arrow A B} d ds) f = absurd f
