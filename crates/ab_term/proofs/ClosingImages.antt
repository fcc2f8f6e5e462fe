-- Closing a head that doesn't stand in a closed term changes nothing; so images go through, and what is closed is gone.
use Rattle.std.proofs.Common.{◌≡◌, ◌≢◌, ℕ, zero, suc, ◌≤◌, List, [], ◌∷◌, Bool, true, false, cond, Option, Some, None, refl, sym, ◌∙◌, ap, subst, arith}
use Rattle.std.specs.Prelude.{Contains}
use Rattle.std.specs.Cmp.{unsigned_Decides}
use Rattle.std.proofs.lemmas.Bool.{false≢true, false_from_ne_true}
use Rattle.ab_term.specs.Types.{Ty, kind, arrow}
use Rattle.ab_term.specs.Terms.{Nominal, Variable, Head, constant, logical, nominal, variable, index, Term, lam, spine, Terms, no_terms, term}
use Rattle.ab_term.specs.Substitution.{shift_index, shift_head, reduce}
use Rattle.ab_term.specs.Names.{support}
use Rattle.ab_term.specs.Variables.{variables, put_for, put_at, image_by, image_all_by}
use Rattle.ab_term.specs.Reach.{head_reach, reach, reach_of_all}
use Rattle.ab_term.specs.Sameness.{same_head}
use Rattle.ab_term.specs.Abstraction.{IsAbsent, close_head, close, close_all, abstracted}
use Rattle.ab_term.proofs.Same.{same_head-Decides}
use Rattle.ab_term.proofs.Standing.{HeadHas, Has, AllHave, has_more}
use Rattle.ab_term.proofs.Stands.{Either, has, has_names, has_variables}
use Rattle.ab_term.proofs.ClosedMaps.{IsClosedMap}
use Rattle.ab_term.proofs.ClosingThrough.{shift_index-below, close-reduce}

-- another head
abbrev pub Other : Head ℕ → Head ℕ → Type 0
Other h g = same_head g h ≡ false

-- bound names from n on
abbrev pub From : ℕ → Head ℕ → Type 0
From n (index i) = n ≤ i
From n _ = Unit {0}

from_zero : (h : Head ℕ) → From zero h
from_zero (constant c) = tt
from_zero (logical l) = tt
from_zero (nominal a) = tt
from_zero (variable y) = tt
from_zero (index i) = omega arith

other_under : (h g : Head ℕ) → HeadHas (Other h) g → HeadHas (Other (shift_head zero h)) g
other_under (constant c) g p = p
other_under (logical l) g p = p
other_under (nominal a) g p = p
other_under (variable y) g p = p
other_under (index i) (constant d) p = refl
other_under (index i) (logical m) p = refl
other_under (index i) (nominal b) p = refl
other_under (index i) (variable z) p = refl
other_under (index i) (index j) p = tt

from_under : (n : ℕ) (h : Head ℕ) → From n h → From (suc n) (shift_head zero h)
from_under n (constant c) l = tt
from_under n (logical m) l = tt
from_under n (nominal a) l = tt
from_under n (variable y) l = tt
from_under n (index i) l = omega (arith, l)

same_index : (j i : ℕ) → same_head (index j) (index i) ≡ true → j ≡ i
same_index j i e = (unsigned_Decides j i).0 e

close_head_absent : (k n : ℕ) (h g : Head ℕ) → n ≤ k → From n h → HeadHas (Other h) g → head_reach g ≤ n → close_head k h g ≡ g
close_head_absent k n h (constant c) l f p r = ap (λ b. cond b (index k) (constant c)) p
close_head_absent k n h (logical m) l f p r = ap (λ b. cond b (index k) (logical m)) p
close_head_absent k n h (nominal a) l f p r = ap (λ b. cond b (index k) (nominal a)) p
close_head_absent k n h (variable y) l f p r = ap (λ b. cond b (index k) (variable y)) p
close_head_absent k n h (index j) l f p r = ap (λ b. cond b (index k) (index (shift_index k j))) (false_from_ne_true (same_head (index j) h) (other h f)) ∙ ap index (shift_index-below k j (omega (arith, l, r)))
  where
    other : (h : Head ℕ) → From n h → same_head (index j) h ≡ true → ⊥
    other (constant c) f e = false≢true e
    other (logical m) f e = false≢true e
    other (nominal a) f e = false≢true e
    other (variable y) f e = false≢true e
    other (index i) f e = let same : j ≡ i = same_index j i e in absurd (omega (arith, f, r, same))

module _ {Hint : Type 0} where
  mutual
    pub close_absent : (k n : ℕ) (h : Head ℕ) (t : Term ℕ Hint) → n ≤ k → From n h → Has (Other h) t → reach t ≤ n → close k h t ≡ t
    close_absent k n h (lam A x t) l f p r =
        ap (lam A x) (close_absent (suc k) (suc n) (shift_head zero h) t (omega (arith, l)) (from_under n h f) (has_more (Other h) (Other (shift_head zero h)) (other_under h) t p) (omega (arith, r)))
    close_absent k n h (spine g ts) l f p r =
        ap (λ i. spine i (close_all k h ts)) (close_head_absent k n h g l f p.0 (omega (arith, r)))
        ∙ ap (spine g) (close_all_absent k n h ts l f p.1 (omega (arith, r)))

    close_all_absent : (k n : ℕ) (h : Head ℕ) (ts : Terms ℕ Hint) → n ≤ k → From n h → AllHave (Other h) ts → reach_of_all ts ≤ n → close_all k h ts ≡ ts
    close_all_absent k n h no_terms l f p r = refl
    close_all_absent k n h (term t ts) l f p r =
        ap (λ s. term s (close_all k h ts)) (close_absent k n h t l f p.0 (omega (arith, r))) ∙ ap (term t) (close_all_absent k n h ts l f p.1 (omega (arith, r)))

-- the heads of a term are others, where this one doesn't stand in it
abbrev NotName : Nominal → Nominal → Type 0
NotName a b = b ≢ a

abbrev NotVariable : Variable ℕ → Variable ℕ → Type 0
NotVariable y z = z ≢ y

other_name : (a : Nominal) (g : Head ℕ) → HeadHas (Either {Var = ℕ} (NotName a) (λ y. Unit {0})) g → HeadHas (Other (nominal a)) g
other_name a (constant c) p = refl
other_name a (logical l) p = refl
other_name a (nominal b) p = false_from_ne_true (same_head (nominal b) (nominal a)) (λ e. p (let same : nominal b ≡ nominal a = (same_head-Decides (nominal b) (nominal a)).0 e in cc))
other_name a (variable y) p = refl
other_name a (index i) p = tt

other_variable : (y : Variable ℕ) (g : Head ℕ) → HeadHas (Either (λ a. Unit {0}) (NotVariable y)) g → HeadHas (Other (variable y)) g
other_variable y (constant c) p = refl
other_variable y (logical l) p = refl
other_variable y (nominal b) p = refl
other_variable y (variable z) p = false_from_ne_true (same_head (variable z) (variable y)) (λ e. p (let same : variable z ≡ variable y = (same_head-Decides (variable z) (variable y)).0 e in cc))
other_variable y (index i) p = tt

other_index : (i : ℕ) (g : Head ℕ) → HeadHas (Either {Var = ℕ} (λ a. Unit {0}) (λ y. Unit {0})) g → HeadHas (Other (index i)) g
other_index i (constant c) p = refl
other_index i (logical l) p = refl
other_index i (nominal b) p = refl
other_index i (variable z) p = refl
other_index i (index j) p = tt

module _ {Hint : Type 0} where
  absent_has : (h : Head ℕ) (u : Term ℕ Hint) → IsAbsent h u → Has (Other h) u
  absent_has (constant c) u a = absurd a
  absent_has (logical l) u a = absurd a
  absent_has (nominal b) u a = has_more (Either {Var = ℕ} (NotName b) (λ y. Unit {0})) (Other (nominal b)) (other_name b) u (has (NotName b) (λ y. Unit {0}) u (λ d m e. a (subst (Contains (support u)) e m)) (λ y m. tt))
  absent_has (variable y) u a = has_more (Either (λ b. Unit {0}) (NotVariable y)) (Other (variable y)) (other_variable y) u (has (λ b. Unit {0}) (NotVariable y) u (λ d m. tt) (λ z m e. a (subst (Contains (variables u)) e m)))
  absent_has (index i) u a = has_more (Either {Var = ℕ} (λ b. Unit {0}) (λ y. Unit {0})) (Other (index i)) (other_index i) u (has (λ b. Unit {0}) (λ y. Unit {0}) u (λ d m. tt) (λ z m. tt))

  -- A CLOSED TERM in which the head doesn't stand stays
  pub close_closed : (k : ℕ) (h : Head ℕ) (u : Term ℕ Hint) → reach u ≤ 0 → IsAbsent h u → close k h u ≡ u
  close_closed k h u r a = close_absent k zero h u (omega arith) (from_zero h) (absent_has h u a) r

-- what is put in for a variable other than the head, which doesn't stand in it
abbrev pub LeavesAlone : {Hint : Type 0} → Head ℕ → (Variable ℕ → Option (Term ℕ Hint)) → Type 0
LeavesAlone {Hint = Hint} h f = (y : Variable ℕ) (u : Term ℕ Hint) → f y ≡ Some u → (same_head (variable y) h ≡ false) × IsAbsent h u

module _ {Hint : Type 0} (f : Variable ℕ → Option (Term ℕ Hint)) (closed : IsClosedMap f) where
  leaves_under : (h : Head ℕ) → LeavesAlone h f → LeavesAlone (shift_head zero h) f
  leaves_under (constant c) l y u e = l y u e
  leaves_under (logical m) l y u e = l y u e
  leaves_under (nominal a) l y u e = l y u e
  leaves_under (variable y) l z u e = l z u e
  leaves_under (index i) l y u e = (refl, tt)

  put_for_close : (k : ℕ) (h : Head ℕ) → LeavesAlone h f → (y : Variable ℕ) (o : Option (Term ℕ Hint)) → f y ≡ o → (ts ss : Terms ℕ Hint) → close_all k h ts ≡ ss → close k h (put_for y o ts) ≡ put_at f (close_head k h (variable y)) ss
  put_for_close k h l y None e ts ss s = ap (spine (close_head k h (variable y))) s ∙ sym (go (same_head (variable y) h))
    where
      go : (b : Bool) → put_at f (cond b (index k) (variable y)) ss ≡ spine (cond b (index k) (variable y)) ss
      go true = refl
      go false = ap (λ o. put_for y o ss) e
  put_for_close k h l y (Some u) e ts ss s =
      let known = l y u e in
      close-reduce y.type k h u ts
      ∙ ap (λ v. reduce y.type v (close_all k h ts)) (close_closed k h u (closed y u e) known.1)
      ∙ ap (reduce y.type u) s
      ∙ sym (ap (λ b. put_at f (cond b (index k) (variable y)) ss) known.0 ∙ ap (λ o. put_for y o ss) e)

  put_same : (k : ℕ) (h g : Head ℕ) (ss : Terms ℕ Hint) → (b : Bool) → ((ts : Terms ℕ Hint) → put_at f (shift_head k g) ts ≡ spine (shift_head k g) ts) → spine (cond b (index k) (shift_head k g)) ss ≡ put_at f (cond b (index k) (shift_head k g)) ss
  put_same k h g ss true n = refl
  put_same k h g ss false n = sym (n ss)

  put_at_close : (k : ℕ) (h : Head ℕ) → LeavesAlone h f → (g : Head ℕ) (ts ss : Terms ℕ Hint) → close_all k h ts ≡ ss → close k h (put_at f g ts) ≡ put_at f (close_head k h g) ss
  put_at_close k h l (constant c) ts ss s = ap (spine (close_head k h (constant c))) s ∙ put_same k h (constant c) ss (same_head (constant c) h) (λ ts. refl)
  put_at_close k h l (logical c) ts ss s = ap (spine (close_head k h (logical c))) s ∙ put_same k h (logical c) ss (same_head (logical c) h) (λ ts. refl)
  put_at_close k h l (nominal c) ts ss s = ap (spine (close_head k h (nominal c))) s ∙ put_same k h (nominal c) ss (same_head (nominal c) h) (λ ts. refl)
  put_at_close k h l (variable y) ts ss s = put_for_close k h l y (f y) refl ts ss s
  put_at_close k h l (index i) ts ss s = ap (spine (close_head k h (index i))) s ∙ put_same k h (index i) ss (same_head (index i) h) (λ ts. refl)

  mutual
    -- AN IMAGE GOES THROUGH
    pub close-image : (k : ℕ) (h : Head ℕ) → LeavesAlone h f → (t : Term ℕ Hint) → close k h (image_by f t) ≡ image_by f (close k h t)
    close-image k h l (lam A x t) = ap (lam A x) (close-image (suc k) (shift_head zero h) (leaves_under h l) t)
    close-image k h l (spine g ts) = put_at_close k h l g (image_all_by f ts) (image_all_by f (close_all k h ts)) (close_all-image k h l ts)

    close_all-image : (k : ℕ) (h : Head ℕ) → LeavesAlone h f → (ts : Terms ℕ Hint) → close_all k h (image_all_by f ts) ≡ image_all_by f (close_all k h ts)
    close_all-image k h l no_terms = refl
    close_all-image k h l (term t ts) = ap (λ s. term s (close_all k h (image_all_by f ts))) (close-image k h l t) ∙ ap (term (image_by f (close k h t))) (close_all-image k h l ts)

abbrev pub AllLeftAlone : {Hint : Type 0} → List (Head ℕ) → (Variable ℕ → Option (Term ℕ Hint)) → Type 0
AllLeftAlone [] f = Unit {0}
AllLeftAlone (h ∷ hs) f = LeavesAlone h f × AllLeftAlone hs f

module _ {Hint : Type 0} (f : Variable ℕ → Option (Term ℕ Hint)) (closed : IsClosedMap f) (x : Hint) where
  pub image-abstracted : (A : Ty) (hs : List (Head ℕ)) → AllLeftAlone hs f → (t : Term ℕ Hint) → image_by f (abstracted x A hs t) ≡ abstracted x A hs (image_by f t)
  image-abstracted A [] l t = refl
  image-abstracted (kind k) (h ∷ hs) l t = refl
  image-abstracted (arrow A B) (h ∷ hs) l t =
      ap (lam A x) (sym (close-image f closed zero h l.0 (abstracted x B hs t)) ∙ ap (close zero h) (image-abstracted B hs l.1 t))

-- what stands in a closed term
module _ (P Q : Head ℕ → Type 0) where
  abbrev pub CloseKeeps : Head ℕ → Type 0
  CloseKeeps h = (g : Head ℕ) → same_head g h ≡ false → HeadHas P g → HeadHas Q g

  shifted_has : (k : ℕ) (g : Head ℕ) → HeadHas Q g → HeadHas Q (shift_head k g)
  shifted_has k (constant c) p = p
  shifted_has k (logical l) p = p
  shifted_has k (nominal a) p = p
  shifted_has k (variable y) p = p
  shifted_has k (index i) p = tt

  keeps_under : (h : Head ℕ) → CloseKeeps h → CloseKeeps (shift_head zero h)
  keeps_under (constant c) f g e p = f g e p
  keeps_under (logical l) f g e p = f g e p
  keeps_under (nominal a) f g e p = f g e p
  keeps_under (variable y) f g e p = f g e p
  keeps_under (index i) f (constant c) e p = f (constant c) refl p
  keeps_under (index i) f (logical l) e p = f (logical l) refl p
  keeps_under (index i) f (nominal a) e p = f (nominal a) refl p
  keeps_under (index i) f (variable y) e p = f (variable y) refl p
  keeps_under (index i) f (index j) e p = tt

  close_head_has : (k : ℕ) (h : Head ℕ) → CloseKeeps h → (g : Head ℕ) → HeadHas P g → HeadHas Q (close_head k h g)
  close_head_has k h f g p = go (same_head g h) refl
    where
      go : (b : Bool) → same_head g h ≡ b → HeadHas Q (cond b (index k) (shift_head k g))
      go true e = tt
      go false e = shifted_has k g (f g e p)

module _ {Hint : Type 0} (P Q : Head ℕ → Type 0) where
  mutual
    pub close_has : (k : ℕ) (h : Head ℕ) → CloseKeeps P Q h → (t : Term ℕ Hint) → Has P t → Has Q (close k h t)
    close_has k h f (lam A x t) p = close_has (suc k) (shift_head zero h) (keeps_under P Q h f) t p
    close_has k h f (spine g ts) p = (close_head_has P Q k h f g p.0, close_all_has k h f ts p.1)

    close_all_has : (k : ℕ) (h : Head ℕ) → CloseKeeps P Q h → (ts : Terms ℕ Hint) → AllHave P ts → AllHave Q (close_all k h ts)
    close_all_has k h f no_terms p = tt
    close_all_has k h f (term t ts) p = (close_has k h f t p.0, close_all_has k h f ts p.1)

module _ {Hint : Type 0} (k : ℕ) (h : Head ℕ) (t : Term ℕ Hint) where
  abbrev Before : Head ℕ → Type 0
  Before = Either (λ a. Contains (support t) a) (λ y. Contains (variables t) y)

  abbrev After : Head ℕ → Type 0
  After = Either (λ a. Contains (support t) a × (nominal a ≢ h)) (λ y. Contains (variables t) y × (variable y ≢ h))

  -- what stands after closing stood before, and is another head
  keeps : CloseKeeps Before After h
  keeps (constant c) e p = tt
  keeps (logical l) e p = tt
  keeps (nominal a) e p = (p, λ q. false≢true (sym e ∙ (same_head-Decides (nominal a) h).1 q))
  keeps (variable y) e p = (p, λ q. false≢true (sym e ∙ (same_head-Decides (variable y) h).1 q))
  keeps (index i) e p = tt

  closed_has : Has After (close k h t)
  closed_has = close_has Before After k h keeps t (has _ _ t (λ a m. m) (λ y m. m))

  pub support-close : (a : Nominal) → Contains (support (close k h t)) a → Contains (support t) a × (nominal a ≢ h)
  support-close = has_names _ _ (close k h t) closed_has

  pub variables-close : (y : Variable ℕ) → Contains (variables (close k h t)) y → Contains (variables t) y × (variable y ≢ h)
  variables-close = has_variables _ _ (close k h t) closed_has
