-- Two hereditary substitutions commute.
use Rattle.std.proofs.Common.{◌≡◌, ℕ, zero, suc, ◌+◌, ◌≤◌, List, ◌∷◌, Option, Some, None, option_map, refl, sym, ◌∙◌, ap, arith}
use Rattle.ab_term.specs.Types.{Ty, kind, arrow}
use Rattle.ab_term.specs.Terms.{Head, constant, logical, nominal, variable, index, Term, lam, spine, Terms, term}
use Rattle.ab_term.specs.Typing.{Signature, head_type, HasType, TakeType, typed_lam, typed_spine, take_none, take_term}
use Rattle.ab_term.specs.Substitution.{shift, lower_index, lower_head, put, reduce, substitute, substitute_all}
use Rattle.ab_term.proofs.Preservation.{Insert, here, there, shift_typed, reduce_typed, substitute_by_typed, substitute_all_by_typed, left_type, head_type-lower}
use Rattle.ab_term.proofs.Shifts.{shift-shift, substitute_by-shift, shift-substitute_low, shift-reduce}

-- what becomes of an index under the substitution at k and then at j, and at j + 1 and then at k
data TwoIndices (k j i : ℕ) : Type 0 where
  inner_at : (m : ℕ) → lower_index k i ≡ None → lower_index (suc j) i ≡ Some m → lower_index k m ≡ None → TwoIndices k j i
  outer_at : (m : ℕ) → lower_index k i ≡ Some m → lower_index j m ≡ None → lower_index (suc j) i ≡ None → TwoIndices k j i
  neither_at : (m n p : ℕ) → lower_index k i ≡ Some m → lower_index j m ≡ Some p → lower_index (suc j) i ≡ Some n → lower_index k n ≡ Some p → TwoIndices k j i

at_zero : (j i : ℕ) (o : Option ℕ) → lower_index j i ≡ o → TwoIndices zero j (suc i)
at_zero j i None e = outer_at i refl e (ap (option_map suc) e)
at_zero j i (Some p) e = neither_at i (suc p) p refl e (ap (option_map suc) e) refl

at_suc : (k j i : ℕ) → TwoIndices k j i → TwoIndices (suc k) (suc j) (suc i)
at_suc k j i (inner_at m a b c) = inner_at (suc m) (ap (option_map suc) a) (ap (option_map suc) b) (ap (option_map suc) c)
at_suc k j i (outer_at m a b c) = outer_at (suc m) (ap (option_map suc) a) (ap (option_map suc) b) (ap (option_map suc) c)
at_suc k j i (neither_at m n p a b c d) = neither_at (suc m) (suc n) (suc p) (ap (option_map suc) a) (ap (option_map suc) b) (ap (option_map suc) c) (ap (option_map suc) d)

two_indices : (k j i : ℕ) → k ≤ j → TwoIndices k j i
two_indices zero j zero l = inner_at zero refl refl refl
two_indices zero j (suc i) l = at_zero j i (lower_index j i) refl
two_indices (suc k) zero i l = absurd (omega arith)
two_indices (suc k) (suc j) zero l = neither_at zero zero zero refl refl refl refl
two_indices (suc k) (suc j) (suc i) l = at_suc k j i (two_indices k j i (omega arith))

-- the same of a head
data TwoHeads (Var : Type 0) (k j : ℕ) (h : Head Var) : Type 0 where
  inner : (m : Head Var) → lower_head k h ≡ None → lower_head (suc j) h ≡ Some m → lower_head k m ≡ None → TwoHeads Var k j h
  outer : (m : Head Var) → lower_head k h ≡ Some m → lower_head j m ≡ None → lower_head (suc j) h ≡ None → TwoHeads Var k j h
  neither : (m n p : Head Var) → lower_head k h ≡ Some m → lower_head j m ≡ Some p → lower_head (suc j) h ≡ Some n → lower_head k n ≡ Some p → TwoHeads Var k j h

of_indices : (Var : Type 0) (k j i : ℕ) → TwoIndices k j i → TwoHeads Var k j (index i)
of_indices Var k j i (inner_at m a b c) = inner (index m) (ap (option_map index) a) (ap (option_map index) b) (ap (option_map index) c)
of_indices Var k j i (outer_at m a b c) = outer (index m) (ap (option_map index) a) (ap (option_map index) b) (ap (option_map index) c)
of_indices Var k j i (neither_at m n p a b c d) = neither (index m) (index n) (index p) (ap (option_map index) a) (ap (option_map index) b) (ap (option_map index) c) (ap (option_map index) d)

two_heads : {Var : Type 0} (k j : ℕ) (h : Head Var) → k ≤ j → TwoHeads Var k j h
two_heads k j (constant c) l = neither (constant c) (constant c) (constant c) refl refl refl refl
two_heads k j (logical m) l = neither (logical m) (logical m) (logical m) refl refl refl refl
two_heads k j (nominal a) l = neither (nominal a) (nominal a) (nominal a) refl refl refl refl
two_heads k j (variable x) l = neither (variable x) (variable x) (variable x) refl refl refl refl
two_heads {Var = Var} k j (index i) l = of_indices Var k j i (two_indices k j i l)

-- G; with B at j: H; with A at k: G2; with both: K
pub record Square (k j : ℕ) (A B : Ty) (G H G2 K : List Ty) : Type 0 where
  pub below : k ≤ j
  pub v_in_u : Insert j B G H
  pub u_in_all : Insert k A H K
  pub u_in_v : Insert k A G G2
  pub v_in_all : Insert (suc j) B G2 K

under : {k j : ℕ} {A B C : Ty} {G H G2 K : List Ty} → Square k j A B G H G2 K → Square (suc k) (suc j) A B (C ∷ G) (C ∷ H) (C ∷ G2) (C ∷ K)
under s = record { below = omega (arith, s.below); v_in_u = there s.v_in_u; u_in_all = there s.u_in_all; u_in_v = there s.u_in_v; v_in_all = there s.v_in_all }

square : {j : ℕ} {A B : Ty} {G H : List Ty} → Insert j B G H → Square zero j A B G H (A ∷ G) (A ∷ H)
square p = record { below = omega arith; v_in_u = p; u_in_all = here; u_in_v = here; v_in_all = there p }

size : Ty → ℕ
size (kind c) = 1
size (arrow A B) = size A + size B + 1

module _ (sg : Signature) (Var Hint : Type 0) where
  -- substitution for a name of B goes through the application of a term of A
  abbrev pub Through : Ty → Ty → Type 0
  Through A B = (j : ℕ) (G H : List Ty) (v u : Term Var Hint) (ts : Terms Var Hint) (c : List ℕ) → Insert j B G H → HasType sg G v B → HasType sg H u A → TakeType sg H ts A (kind c)
      → substitute B v j (reduce A u ts) ≡ reduce A (substitute B v j u) (substitute_all B v j ts)

  spine_commutes : (A B : Ty) → Through A B → Through B A → (k j : ℕ) (G H G2 K : List Ty) (v u : Term Var Hint) (h : Head Var) (ts : Terms Var Hint) (D : Ty) (c : List ℕ)
      → Square k j A B G H G2 K → HasType sg G v B → HasType sg H u A → head_type sg K h ≡ Some D → TakeType sg K ts D (kind c)
      → substitute_all B v j (substitute_all A u k ts) ≡ substitute_all A (substitute B v j u) k (substitute_all B (shift k v) (suc j) ts)
      → TwoHeads Var k j h
      → substitute B v j (substitute A u k (spine h ts)) ≡ substitute A (substitute B v j u) k (substitute B (shift k v) (suc j) (spine h ts))
  spine_commutes A B ab ba k j G H G2 K v u h ts D c s dv du e ds ih (inner m a b d) =
      let same : Some D ≡ Some A = sym e ∙ head_type-lower sg s.u_in_all h ∙ ap (left_type sg A H) a in
      let is : D ≡ A = cc in
      let args : TakeType sg H (substitute_all A u k ts) A (kind c) = substitute_all_by_typed sg (reduce_typed sg A) du s.u_in_all (rw is at ds) in
      ap (λ o. substitute B v j (put (reduce A) u o (substitute_all A u k ts))) a
      ∙ ab j G H v u (substitute_all A u k ts) c s.v_in_u dv du args
      ∙ ap (reduce A (substitute B v j u)) ih
      ∙ sym (ap (λ o. put (reduce A) (substitute B v j u) o (substitute_all A (substitute B v j u) k (substitute_all B (shift k v) (suc j) ts))) d)
      ∙ sym (ap (λ o. substitute A (substitute B v j u) k (put (reduce B) (shift k v) o (substitute_all B (shift k v) (suc j) ts))) b)
  spine_commutes A B ab ba k j G H G2 K v u h ts D c s dv du e ds ih (outer m a b d) =
      let same : Some D ≡ Some B = sym e ∙ head_type-lower sg s.v_in_all h ∙ ap (left_type sg B G2) d in
      let is : D ≡ B = cc in
      let dv2 : HasType sg G2 (shift k v) B = shift_typed sg s.u_in_v dv in
      let args : TakeType sg G2 (substitute_all B (shift k v) (suc j) ts) B (kind c) = substitute_all_by_typed sg (reduce_typed sg B) dv2 s.v_in_all (rw is at ds) in
      let u2 : HasType sg G (substitute B v j u) A = substitute_by_typed sg (reduce_typed sg B) dv s.v_in_u du in
      ap (λ o. substitute B v j (put (reduce A) u o (substitute_all A u k ts))) a
      ∙ ap (λ o. put (reduce B) v o (substitute_all B v j (substitute_all A u k ts))) b
      ∙ ap (reduce B v) ih
      ∙ ap (λ w. reduce B w (substitute_all A (substitute B v j u) k (substitute_all B (shift k v) (suc j) ts))) (sym (substitute_by-shift v (reduce A) (substitute B v j u) k))
      ∙ sym (ba k G G2 (substitute B v j u) (shift k v) (substitute_all B (shift k v) (suc j) ts) c s.u_in_v u2 dv2 args)
      ∙ sym (ap (λ o. substitute A (substitute B v j u) k (put (reduce B) (shift k v) o (substitute_all B (shift k v) (suc j) ts))) d)
  spine_commutes A B ab ba k j G H G2 K v u h ts D c s dv du e ds ih (neither m n p a b d f) =
      ap (λ o. substitute B v j (put (reduce A) u o (substitute_all A u k ts))) a
      ∙ ap (λ o. put (reduce B) v o (substitute_all B v j (substitute_all A u k ts))) b
      ∙ ap (spine p) ih
      ∙ sym (ap (λ o. put (reduce A) (substitute B v j u) o (substitute_all A (substitute B v j u) k (substitute_all B (shift k v) (suc j) ts))) f)
      ∙ sym (ap (λ o. substitute A (substitute B v j u) k (put (reduce B) (shift k v) o (substitute_all B (shift k v) (suc j) ts))) d)

  mutual
    commutes_by : {k j : ℕ} {A B C : Ty} {G H G2 K : List Ty} {t v u : Term Var Hint} → Through A B → Through B A → Square k j A B G H G2 K → HasType sg G v B → HasType sg H u A → HasType sg K t C
        → substitute B v j (substitute A u k t) ≡ substitute A (substitute B v j u) k (substitute B (shift k v) (suc j) t)
    commutes_by {k = k} {j = j} {A = A} {B = B} {v = v} {u = u} ab ba s dv du (typed_lam {A = D} {x = x} {t = t} d) =
        ap (lam D x) (commutes_by ab ba (under s) (shift_typed sg here dv) (shift_typed sg here du) d
        ∙ ap (λ w. substitute A w (suc k) (substitute B (shift (suc k) (shift zero v)) (suc (suc j)) t)) (sym (shift-substitute_low u (reduce B) v zero j (shift-reduce B) (omega arith)))
        ∙ ap (λ w. substitute A (shift zero (substitute B v j u)) (suc k) (substitute B w (suc (suc j)) t)) (shift-shift v zero k (omega arith)))
    commutes_by {k = k} {j = j} {A = A} {B = B} {G = G} {H = H} {G2 = G2} {K = K} {v = v} {u = u} ab ba s dv du (typed_spine {A = D} {h = h} {ts = ts} {k = c} e ds) =
        spine_commutes A B ab ba k j G H G2 K v u h ts D c s dv du e ds (all_commute_by ab ba s dv du ds) (two_heads k j h s.below)

    all_commute_by : {k j : ℕ} {A B C D : Ty} {G H G2 K : List Ty} {ts : Terms Var Hint} {v u : Term Var Hint} → Through A B → Through B A → Square k j A B G H G2 K → HasType sg G v B → HasType sg H u A → TakeType sg K ts C D
        → substitute_all B v j (substitute_all A u k ts) ≡ substitute_all A (substitute B v j u) k (substitute_all B (shift k v) (suc j) ts)
    all_commute_by ab ba s dv du take_none = refl
    all_commute_by {k = k} {j = j} {A = A} {B = B} {v = v} {u = u} ab ba s dv du (take_term {t = t} {ts = ts} d ds) =
        ap (λ w. term w (substitute_all B v j (substitute_all A u k ts))) (commutes_by ab ba s dv du d)
        ∙ ap (term (substitute A (substitute B v j u) k (substitute B (shift k v) (suc j) t))) (all_commute_by ab ba s dv du ds)

  -- one step down the type
  through_arrow : (A1 A2 B : Ty) → Through A1 B → Through B A1 → Through A2 B → Through (arrow A1 A2) B
  through_arrow A1 A2 B ab ba more j G H v _ _ c p dv (typed_lam {t = t} d) (take_term {t = w} {ts = ws} e es) =
      more j G H v (substitute A1 w zero t) ws c p dv (substitute_by_typed sg (reduce_typed sg A1) e here d) es
      ∙ ap (λ s. reduce A2 s (substitute_all B v j ws)) (commutes_by ab ba (square p) dv e d)

  through_kind : (c : List ℕ) (B : Ty) → Through (kind c) B
  through_kind c B j G H v u _ _ p dv du take_none = refl

  through_within : (n : ℕ) (A B : Ty) → size A + size B ≤ n → Through A B
  unfolding size
  through_within n (kind c) B l = through_kind c B
  through_within zero (arrow A1 A2) B l = absurd (omega arith)
  through_within (suc n) (arrow A1 A2) B l =
      through_arrow A1 A2 B (through_within n A1 B (omega arith)) (through_within n B A1 (omega arith)) (through_within n A2 B (omega arith))

  pub through : (A B : Ty) → Through A B
  through A B = through_within (size A + size B) A B (omega arith)

  -- the law
  pub commutes : {k j : ℕ} {A B C : Ty} {G H G2 K : List Ty} {t v u : Term Var Hint} → Square k j A B G H G2 K → HasType sg G v B → HasType sg H u A → HasType sg K t C
      → substitute B v j (substitute A u k t) ≡ substitute A (substitute B v j u) k (substitute B (shift k v) (suc j) t)
  commutes {A = A} {B = B} s dv du d = commutes_by (through A B) (through B A) s dv du d
