-- Which names stand in a term, free: what is put together of terms has no others.
use Rattle.std.proofs.Common.{◌≡◌, ℕ, zero, suc, ◌<◌, ◌≤◌, ◌⊎◌, inl, inr, List, [], ◌∷◌, ◌++◌, map, Bool, true, false, cond, ◌||◌, Option, Some, None, option_map, refl, sym, ◌∙◌, ap, arith}
use Rattle.std.proofs.lemmas.Bool.{false≢true, or_right, false_from_ne_true}
use Rattle.ab_term.specs.Types.{Ty, kind, arrow}
use Rattle.ab_term.specs.Terms.{Variable, Head, constant, logical, nominal, variable, index, Term, lam, spine, Terms, no_terms, term, with_last}
use Rattle.ab_term.specs.Substitution.{shift_head, shift, shift_all, lower_head, put, substitute_by, substitute_all_by, reduce}
use Rattle.ab_term.specs.Expansion.{expansion_of, expansion}
use Rattle.ab_term.specs.Variables.{put_for, put_at, image_by, image_all_by}
use Rattle.ab_term.specs.Reach.{head_reach, reach, reach_of_all}
use Rattle.ab_term.proofs.Shifts.{shift_head-shift_head, lower_head-shift_head, lower_head-shift_low}
use Rattle.ab_term.specs.Sameness.{same_head}
use Rattle.ab_term.specs.Abstraction.{among, under, may_stand, Only, OnlyAll, close_head, close, close_all}
use Rattle.ab_term.proofs.Same.{same_head-Decides, head_itself}

-- a head is the innermost name, or one from outside
pub head_cases : (g : Head ℕ) → (g ≡ index zero) ⊎ ((h : Head ℕ) × (g ≡ shift_head zero h))
head_cases (constant c) = inr (constant c, refl)
head_cases (logical l) = inr (logical l, refl)
head_cases (nominal a) = inr (nominal a, refl)
head_cases (variable y) = inr (variable y, refl)
head_cases (index zero) = inl refl
head_cases (index (suc i)) = inr (index i, refl)

not_innermost : (h : Head ℕ) → index zero ≡ shift_head zero h → ⊥
not_innermost (constant c) e = cc
not_innermost (logical l) e = cc
not_innermost (nominal a) e = cc
not_innermost (variable y) e = cc
not_innermost (index i) e = let both : zero ≡ suc i = cc in omega (arith, both)

pub shift_head-one : (g h : Head ℕ) → shift_head zero g ≡ shift_head zero h → g ≡ h
shift_head-one g h e = let both : Some g ≡ Some h = sym (lower_head-shift_head zero g) ∙ ap (lower_head zero) e ∙ lower_head-shift_head zero h in cc

pub same_innermost : (h : Head ℕ) → same_head (index zero) (shift_head zero h) ≡ false
same_innermost h = false_from_ne_true (same_head (index zero) (shift_head zero h)) (λ e. not_innermost h ((same_head-Decides (index zero) (shift_head zero h)).0 e))

pub same_head-shift : (g h : Head ℕ) → same_head (shift_head zero g) (shift_head zero h) ≡ same_head g h
same_head-shift g h = go (same_head g h) refl
  where
    go : (b : Bool) → same_head g h ≡ b → same_head (shift_head zero g) (shift_head zero h) ≡ b
    go true e = (same_head-Decides (shift_head zero g) (shift_head zero h)).1 (ap (shift_head zero) ((same_head-Decides g h).0 e))
    go false e = false_from_ne_true (same_head (shift_head zero g) (shift_head zero h)) (λ f. false≢true (sym e ∙ (same_head-Decides g h).1 (shift_head-one g h ((same_head-Decides (shift_head zero g) (shift_head zero h)).0 f))))

among-shift : (hs : List (Head ℕ)) (g : Head ℕ) → among (map (shift_head zero) hs) (shift_head zero g) ≡ among hs g
among-shift [] g = refl
among-shift (h ∷ hs) g = ap (λ b. b || among (map (shift_head zero) hs) (shift_head zero g)) (same_head-shift h g) ∙ ap (λ b. same_head h g || b) (among-shift hs g)

pub among-under : (hs : List (Head ℕ)) (g : Head ℕ) → among (under hs) (shift_head zero g) ≡ among hs g
among-under hs g = ap (λ b. b || among (map (shift_head zero) hs) (shift_head zero g)) (same_innermost g) ∙ among-shift hs g

pub may_stand-under : (hs : List (Head ℕ)) (g : Head ℕ) → may_stand (under hs) (shift_head zero g) ≡ may_stand hs g
may_stand-under hs (constant c) = refl
may_stand-under hs (logical l) = refl
may_stand-under hs (nominal a) = among-under hs (nominal a)
may_stand-under hs (variable y) = refl
may_stand-under hs (index i) = among-under hs (index i)

pub innermost_stands : (hs : List (Head ℕ)) → may_stand (under hs) (index zero) ≡ true
innermost_stands hs = ap (λ b. b || among (map (shift_head zero) hs) (index zero)) (head_itself (index zero))

-- a name that may stand among more may stand among all
pub among_stands : (hs : List (Head ℕ)) (g : Head ℕ) → among hs g ≡ true → may_stand hs g ≡ true
among_stands hs (constant c) e = refl
among_stands hs (logical l) e = refl
among_stands hs (nominal a) e = e
among_stands hs (variable y) e = refl
among_stands hs (index i) e = e

-- f sends what may stand on the left to what may stand on the right
abbrev pub Sends : List (Head ℕ) → List (Head ℕ) → (Head ℕ → Head ℕ) → Type 0
Sends ns ms f = (g : Head ℕ) → may_stand ns g ≡ true → may_stand ms (f g) ≡ true

pub sends_under : (ns ms : List (Head ℕ)) (f more : Head ℕ → Head ℕ) → more (index zero) ≡ index zero → ((g : Head ℕ) → more (shift_head zero g) ≡ shift_head zero (f g)) → Sends ns ms f → Sends (under ns) (under ms) more
sends_under ns ms f more inner outer sends g e = go (head_cases g)
  where
    go : (g ≡ index zero) ⊎ ((h : Head ℕ) × (g ≡ shift_head zero h)) → may_stand (under ms) (more g) ≡ true
    go (inl p) = ap (λ k. may_stand (under ms) (more k)) p ∙ ap (may_stand (under ms)) inner ∙ innermost_stands ms
    go (inr p) =
        let h = p.0 in
        let before : may_stand ns h ≡ true = sym (may_stand-under ns h) ∙ ap (may_stand (under ns)) (sym p.1) ∙ e in
        ap (λ k. may_stand (under ms) (more k)) p.1 ∙ ap (may_stand (under ms)) (outer h) ∙ may_stand-under ms (f h) ∙ sends h before

module _ {Hint : Type 0} where
  mutual
    pub include : (ns ms : List (Head ℕ)) → Sends ns ms (λ g. g) → (t : Term ℕ Hint) → Only ns t → Only ms t
    include ns ms s (lam A x t) o = include (under ns) (under ms) (sends_under ns ms (λ g. g) (λ g. g) refl (λ g. refl) s) t o
    include ns ms s (spine h ts) o = (s h o.0, include_all ns ms s ts o.1)

    pub include_all : (ns ms : List (Head ℕ)) → Sends ns ms (λ g. g) → (ts : Terms ℕ Hint) → OnlyAll ns ts → OnlyAll ms ts
    include_all ns ms s no_terms o = tt
    include_all ns ms s (term t ts) o = (include ns ms s t o.0, include_all ns ms s ts o.1)

  mutual
    pub shift_only : (ns ms : List (Head ℕ)) (k : ℕ) → Sends ns ms (shift_head k) → (t : Term ℕ Hint) → Only ns t → Only ms (shift k t)
    shift_only ns ms k s (lam A x t) o = shift_only (under ns) (under ms) (suc k) (sends_under ns ms (shift_head k) (shift_head (suc k)) refl (λ g. shift_head-shift_head zero k g (omega arith)) s) t o
    shift_only ns ms k s (spine h ts) o = (s h o.0, shift_all_only ns ms k s ts o.1)

    pub shift_all_only : (ns ms : List (Head ℕ)) (k : ℕ) → Sends ns ms (shift_head k) → (ts : Terms ℕ Hint) → OnlyAll ns ts → OnlyAll ms (shift_all k ts)
    shift_all_only ns ms k s no_terms o = tt
    shift_all_only ns ms k s (term t ts) o = (shift_only ns ms k s t o.0, shift_all_only ns ms k s ts o.1)

sends_shift : (ns : List (Head ℕ)) → Sends ns (under ns) (shift_head zero)
sends_shift ns g e = may_stand-under ns g ∙ e

pub close_head-inner : (k : ℕ) (h : Head ℕ) → close_head (suc k) (shift_head zero h) (index zero) ≡ index zero
close_head-inner k h = ap (λ b. cond b (index (suc k)) (index zero)) (same_innermost h)

pub close_head-outer : (k : ℕ) (h g : Head ℕ) → close_head (suc k) (shift_head zero h) (shift_head zero g) ≡ shift_head zero (close_head k h g)
close_head-outer k h g = ap (λ b. cond b (index (suc k)) (shift_head (suc k) (shift_head zero g))) (same_head-shift g h) ∙ go (same_head g h)
  where
    go : (b : Bool) → cond b (index (suc k)) (shift_head (suc k) (shift_head zero g)) ≡ shift_head zero (cond b (index k) (shift_head k g))
    go true = refl
    go false = shift_head-shift_head zero k g (omega arith)

module _ {Hint : Type 0} where
  mutual
    pub close_only : (ns ms : List (Head ℕ)) (k : ℕ) (h : Head ℕ) → Sends ns ms (close_head k h) → (t : Term ℕ Hint) → Only ns t → Only ms (close k h t)
    close_only ns ms k h s (lam A x t) o = close_only (under ns) (under ms) (suc k) (shift_head zero h) (sends_under ns ms (close_head k h) (close_head (suc k) (shift_head zero h)) (close_head-inner k h) (close_head-outer k h) s) t o
    close_only ns ms k h s (spine g ts) o = (s g o.0, close_all_only ns ms k h s ts o.1)

    pub close_all_only : (ns ms : List (Head ℕ)) (k : ℕ) (h : Head ℕ) → Sends ns ms (close_head k h) → (ts : Terms ℕ Hint) → OnlyAll ns ts → OnlyAll ms (close_all k h ts)
    close_all_only ns ms k h s no_terms o = tt
    close_all_only ns ms k h s (term t ts) o = (close_only ns ms k h s t o.0, close_all_only ns ms k h s ts o.1)

-- a binder that goes
abbrev pub Lowers : ℕ → List (Head ℕ) → List (Head ℕ) → Type 0
Lowers k ns ms = (g h : Head ℕ) → may_stand ns g ≡ true → lower_head k g ≡ Some h → may_stand ms h ≡ true

lowers_under : (k : ℕ) (ns ms : List (Head ℕ)) → Lowers k ns ms → Lowers (suc k) (under ns) (under ms)
lowers_under k ns ms l g h e f = go (head_cases g)
  where
    through : (o : Option (Head ℕ)) → option_map (shift_head zero) o ≡ Some h → ((j : Head ℕ) → o ≡ Some j → may_stand ms j ≡ true) → may_stand (under ms) h ≡ true
    through None p known = absurd (cc)
    through (Some j) p known = let same : shift_head zero j ≡ h = cc in ap (may_stand (under ms)) (sym same) ∙ may_stand-under ms j ∙ known j refl

    go : (g ≡ index zero) ⊎ ((j : Head ℕ) × (g ≡ shift_head zero j)) → may_stand (under ms) h ≡ true
    go (inl p) = let same : Some (index zero) ≡ Some h = sym (ap (lower_head (suc k)) p) ∙ f in let one : index zero ≡ h = cc in ap (may_stand (under ms)) (sym one) ∙ innermost_stands ms
    go (inr p) =
        let before : may_stand ns p.0 ≡ true = sym (may_stand-under ns p.0) ∙ ap (may_stand (under ns)) (sym p.1) ∙ e in
        through (lower_head k p.0) (sym (lower_head-shift_low zero k p.0 (omega arith)) ∙ sym (ap (lower_head (suc k)) p.1) ∙ f) (λ j q. l p.0 j before q)

pub lowers_here : (ns : List (Head ℕ)) → Lowers zero (under ns) ns
lowers_here ns g h e f = go (head_cases g)
  where
    go : (g ≡ index zero) ⊎ ((j : Head ℕ) × (g ≡ shift_head zero j)) → may_stand ns h ≡ true
    go (inl p) = absurd (let none : None ≡ Some h = sym (ap (lower_head zero) p) ∙ f in cc)
    go (inr p) =
        let some : Some p.0 ≡ Some h = sym (lower_head-shift_head zero p.0) ∙ sym (ap (lower_head zero) p.1) ∙ f in
        let same : p.0 ≡ h = cc in
        ap (may_stand ns) (sym same) ∙ sym (may_stand-under ns p.0) ∙ ap (may_stand (under ns)) (sym p.1) ∙ e

pub nothing_sends : (ms : List (Head ℕ)) → Sends [] ms (λ g. g)
nothing_sends ms (constant c) e = refl
nothing_sends ms (logical l) e = refl
nothing_sends ms (nominal a) e = absurd (false≢true e)
nothing_sends ms (variable y) e = refl
nothing_sends ms (index i) e = absurd (false≢true e)

-- bound names below k
abbrev pub Below : ℕ → List (Head ℕ) → Type 0
Below k ns = (i : ℕ) → may_stand ns (index i) ≡ true → i < k

below_under : (k : ℕ) (ns : List (Head ℕ)) → Below k ns → Below (suc k) (under ns)
below_under k ns b zero e = omega arith
below_under k ns b (suc i) e = omega (arith, b i (sym (may_stand-under ns (index i)) ∙ e))

head_within : (k : ℕ) (ns : List (Head ℕ)) → Below k ns → (h : Head ℕ) → may_stand ns h ≡ true → head_reach h ≤ k
head_within k ns b (constant c) e = omega arith
head_within k ns b (logical l) e = omega arith
head_within k ns b (nominal a) e = omega arith
head_within k ns b (variable y) e = omega arith
head_within k ns b (index i) e = omega (arith, b i e)

pub among-append : (hs ms : List (Head ℕ)) (g : Head ℕ) → among (hs ++ ms) g ≡ true → (among hs g ≡ true) ⊎ (among ms g ≡ true)
among-append [] ms g e = inr e
among-append (h ∷ hs) ms g e = go (same_head h g) (among-append hs ms g) e
  where
    go : (b : Bool) → (among (hs ++ ms) g ≡ true → (among hs g ≡ true) ⊎ (among ms g ≡ true)) → (b || among (hs ++ ms) g) ≡ true → ((b || among hs g) ≡ true) ⊎ (among ms g ≡ true)
    go true rest f = inl refl
    go false rest f = rest f

pub among_front : (hs ms : List (Head ℕ)) (g : Head ℕ) → among hs g ≡ true → among (hs ++ ms) g ≡ true
among_front [] ms g e = absurd (false≢true e)
among_front (h ∷ hs) ms g e = go (same_head h g) (among_front hs ms g) e
  where
    go : (b : Bool) → (among hs g ≡ true → among (hs ++ ms) g ≡ true) → (b || among hs g) ≡ true → (b || among (hs ++ ms) g) ≡ true
    go true rest f = refl
    go false rest f = rest f

pub among_behind : (hs ms : List (Head ℕ)) (g : Head ℕ) → among ms g ≡ true → among (hs ++ ms) g ≡ true
among_behind [] ms g e = e
among_behind (h ∷ hs) ms g e = or_right (same_head h g) (among (hs ++ ms) g) (among_behind hs ms g e)

module _ {Hint : Type 0} where
  abbrev pub KeepsOnly : (Term ℕ Hint → Terms ℕ Hint → Term ℕ Hint) → Type 0
  KeepsOnly r = (ms : List (Head ℕ)) (u : Term ℕ Hint) (ts : Terms ℕ Hint) → Only ms u → OnlyAll ms ts → Only ms (r u ts)

  put_only : (r : Term ℕ Hint → Terms ℕ Hint → Term ℕ Hint) → KeepsOnly r → (ms : List (Head ℕ)) (v : Term ℕ Hint) (o : Option (Head ℕ)) (ts : Terms ℕ Hint) → Only ms v → ((h : Head ℕ) → o ≡ Some h → may_stand ms h ≡ true) → OnlyAll ms ts → Only ms (put r v o ts)
  put_only r keeps ms v None ts ov known os = keeps ms v ts ov os
  put_only r keeps ms v (Some h) ts ov known os = (known h refl, os)

  mutual
    pub substitute_by_only : (r : Term ℕ Hint → Terms ℕ Hint → Term ℕ Hint) → KeepsOnly r → (k : ℕ) (ns ms : List (Head ℕ)) → Lowers k ns ms → (v t : Term ℕ Hint) → Only ms v → Only ns t → Only ms (substitute_by r v k t)
    substitute_by_only r keeps k ns ms l v (lam A x t) ov o = substitute_by_only r keeps (suc k) (under ns) (under ms) (lowers_under k ns ms l) (shift zero v) t (shift_only ms (under ms) zero (sends_shift ms) v ov) o
    substitute_by_only r keeps k ns ms l v (spine g ts) ov o = put_only r keeps ms v (lower_head k g) (substitute_all_by r v k ts) ov (λ h e. l g h o.0 e) (substitute_all_by_only r keeps k ns ms l v ts ov o.1)

    substitute_all_by_only : (r : Term ℕ Hint → Terms ℕ Hint → Term ℕ Hint) → KeepsOnly r → (k : ℕ) (ns ms : List (Head ℕ)) → Lowers k ns ms → (v : Term ℕ Hint) (ts : Terms ℕ Hint) → Only ms v → OnlyAll ns ts → OnlyAll ms (substitute_all_by r v k ts)
    substitute_all_by_only r keeps k ns ms l v no_terms ov o = tt
    substitute_all_by_only r keeps k ns ms l v (term t ts) ov o = (substitute_by_only r keeps k ns ms l v t ov o.0, substitute_all_by_only r keeps k ns ms l v ts ov o.1)

  -- a hereditary substitution brings in no other names
  pub reduce_only : (A : Ty) → KeepsOnly (reduce A)
  reduce_only (kind c) ms u ts ou os = ou
  reduce_only (arrow A B) ms (lam C x t) (term v vs) ou os = reduce_only B ms (substitute_by (reduce A) v zero t) vs (substitute_by_only (reduce A) (reduce_only A) zero (under ms) ms (lowers_here ms) v t os.0 ou) os.1
  reduce_only (arrow A B) ms (lam C x t) no_terms ou os = ou
  reduce_only (arrow A B) ms (spine h ts) us ou os = ou

  -- what f puts in has no free names
  abbrev pub Nameless : (Variable ℕ → Option (Term ℕ Hint)) → Type 0
  Nameless f = (y : Variable ℕ) (u : Term ℕ Hint) → f y ≡ Some u → Only [] u

  pub put_for_only : (f : Variable ℕ → Option (Term ℕ Hint)) → Nameless f → (ms : List (Head ℕ)) (y : Variable ℕ) (o : Option (Term ℕ Hint)) → f y ≡ o → (ts : Terms ℕ Hint) → OnlyAll ms ts → Only ms (put_for y o ts)
  put_for_only f n ms y None e ts os = (refl, os)
  put_for_only f n ms y (Some u) e ts os = reduce_only y.type ms u ts (include [] ms (nothing_sends ms) u (n y u e)) os

  pub put_at_only : (f : Variable ℕ → Option (Term ℕ Hint)) → Nameless f → (ms : List (Head ℕ)) (h : Head ℕ) (ts : Terms ℕ Hint) → may_stand ms h ≡ true → OnlyAll ms ts → Only ms (put_at f h ts)
  put_at_only f n ms (constant c) ts e os = (e, os)
  put_at_only f n ms (logical l) ts e os = (e, os)
  put_at_only f n ms (nominal a) ts e os = (e, os)
  put_at_only f n ms (variable y) ts e os = put_for_only f n ms y (f y) refl ts os
  put_at_only f n ms (index i) ts e os = (e, os)

  mutual
    pub image_by_only : (f : Variable ℕ → Option (Term ℕ Hint)) → Nameless f → (ms : List (Head ℕ)) (t : Term ℕ Hint) → Only ms t → Only ms (image_by f t)
    image_by_only f n ms (lam A x t) o = image_by_only f n (under ms) t o
    image_by_only f n ms (spine h ts) o = put_at_only f n ms h (image_all_by f ts) o.0 (image_all_by_only f n ms ts o.1)

    pub image_all_by_only : (f : Variable ℕ → Option (Term ℕ Hint)) → Nameless f → (ms : List (Head ℕ)) (ts : Terms ℕ Hint) → OnlyAll ms ts → OnlyAll ms (image_all_by f ts)
    image_all_by_only f n ms no_terms o = tt
    image_all_by_only f n ms (term t ts) o = (image_by_only f n ms t o.0, image_all_by_only f n ms ts o.1)

  mutual
    pub only_reach : (k : ℕ) (ns : List (Head ℕ)) → Below k ns → (t : Term ℕ Hint) → Only ns t → reach t ≤ k
    only_reach k ns b (lam A x t) o = omega (arith, only_reach (suc k) (under ns) (below_under k ns b) t o)
    only_reach k ns b (spine h ts) o = omega (arith, head_within k ns b h o.0, only_reach_of_all k ns b ts o.1)

    only_reach_of_all : (k : ℕ) (ns : List (Head ℕ)) → Below k ns → (ts : Terms ℕ Hint) → OnlyAll ns ts → reach_of_all ts ≤ k
    only_reach_of_all k ns b no_terms o = omega arith
    only_reach_of_all k ns b (term t ts) o = omega (arith, only_reach k ns b t o.0, only_reach_of_all k ns b ts o.1)

  with_last_only : (ms : List (Head ℕ)) (ts : Terms ℕ Hint) (t : Term ℕ Hint) → OnlyAll ms ts → Only ms t → OnlyAll ms (with_last ts t)
  with_last_only ms no_terms t os o = (o, tt)
  with_last_only ms (term s ts) t os o = (os.0, with_last_only ms ts t os.1 o)

  pub expansion_of_only : (x : Hint) (A : Ty) (ms : List (Head ℕ)) (h : Head ℕ) (ts : Terms ℕ Hint) → may_stand ms h ≡ true → OnlyAll ms ts → Only ms (expansion_of x A h ts)
  expansion_of_only x (kind c) ms h ts e os = (e, os)
  expansion_of_only x (arrow A B) ms h ts e os =
      expansion_of_only x B (under ms) (shift_head zero h) (with_last (shift_all zero ts) (expansion x A (index zero))) (may_stand-under ms h ∙ e)
      (with_last_only (under ms) (shift_all zero ts) (expansion x A (index zero)) (shift_all_only ms (under ms) zero (sends_shift ms) ts os) (expansion_of_only x A (under ms) (index zero) no_terms (innermost_stands ms) tt))

  pub expansion_only : (x : Hint) (A : Ty) (ms : List (Head ℕ)) (h : Head ℕ) → may_stand ms h ≡ true → Only ms (expansion x A h)
  expansion_only x A ms h e = expansion_of_only x A ms h no_terms e tt
