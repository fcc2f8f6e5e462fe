-- A bound name that becomes a variable: what this has to do with closing, with shifts, with what stands in a term, and
-- with hereditary substitution of the variable's own form.
use Rattle.std.proofs.Common.{◌≡◌, ℕ, suc, ◌≤◌, List, Bool, true, false, cond, ◌&&◌, ◌||◌, Option, Some, None, option_map, refl, sym, ◌∙◌, ap, arith}
use Rattle.std.proofs.lemmas.Bool.{or_parts}
use Rattle.std.proofs.lemmas.List.Folds.{list_any-append}
use Rattle.ab_term.specs.Types.{Ty}
use Rattle.ab_term.specs.Terms.{Variable, Head, constant, logical, nominal, variable, index, Term, lam, spine, Terms, no_terms, term}
use Rattle.ab_term.specs.Typing.{Signature, head_type, HasType, TakeType, typed_lam, typed_spine, take_none, take_term}
use Rattle.ab_term.specs.Substitution.{shift_head, shift, shift_all, lower_index, lower_head, substitute}
use Rattle.ab_term.specs.Expansion.{expansion}
use Rattle.ab_term.specs.Variables.{variables_of_head, variables, variables_of_all}
use Rattle.ab_term.specs.Sameness.{same_numbered}
use Rattle.ab_term.specs.Abstraction.{close_head, close, close_all}
use Rattle.ab_term.proofs.Closing.{substitute-close}
use Rattle.ab_term.proofs.ClosingThrough.{shift_index-from, shift_index-below}
use Rattle.ab_term.proofs.Expansions.{lower_index-same}
use Rattle.ab_term.proofs.Lowering.{lower_head-some, lower_head-none}
use Rattle.ab_term.proofs.Preservation.{Insert, there, head_type-lower, left_type}
use Rattle.ab_term.proofs.Reaching.{lower_index-below}
use Rattle.ab_term.proofs.Same.{same_numbered-Decides}
use Rattle.ab_term.proofs.Shifts.{lower_head-shift_head, lower_head-shift_low, shift_head-shift_head}
use Rattle.ab_unifiers.specs.Replacements.{holds, occurs}
use Rattle.ab_coverage.proofs.IndexedGoals.{is_binder_at, stands, stands_all}

-- the variable in the place of the binder's name
abbrev pub entered_head : Variable ℕ → Option (Head ℕ) → Head ℕ
entered_head y None = variable y
entered_head y (Some h) = h

module _ {Hint : Type 0} where
  abbrev mutual
    pub enter : ℕ → Variable ℕ → Term ℕ Hint → Term ℕ Hint
    enter k y (lam A x t) = lam A x (enter (suc k) y t)
    enter k y (spine h ts) = spine (entered_head y (lower_head k h)) (enter_all k y ts)

    pub enter_all : ℕ → Variable ℕ → Terms ℕ Hint → Terms ℕ Hint
    enter_all k y no_terms = no_terms
    enter_all k y (term t ts) = term (enter k y t) (enter_all k y ts)

same_itself : (y : Variable ℕ) → same_numbered y y ≡ true
same_itself y = (same_numbered-Decides y y).1 refl

pub or_none : (b : Bool) → (b || false) ≡ b
or_none true = refl
or_none false = refl

-- closed again, it is the binder's name
closed_head : (k : ℕ) (y : Variable ℕ) (h : Head ℕ) → holds (variables_of_head h) y ≡ false → close_head k (variable y) (entered_head y (lower_head k h)) ≡ h
closed_head k y (constant c) e = refl
closed_head k y (logical l) e = refl
closed_head k y (nominal a) e = refl
closed_head k y (variable z) e = ap (λ b. cond b (index k) (variable z)) (sym (or_none (same_numbered z y)) ∙ e)
closed_head k y (index i) e = go (lower_index k i) refl
  where
    go : (o : Option ℕ) → lower_index k i ≡ o → close_head k (variable y) (entered_head y (option_map index o)) ≡ index i
    go None q = ap (λ b. cond b (index k) (variable y)) (same_itself y) ∙ sym (lower_head-none k (index i) (ap (option_map index) q))
    go (Some j) q = sym (lower_head-some k (index i) (index j) (ap (option_map index) q))

module _ {Hint : Type 0} where
  mutual
    pub close-enter : (k : ℕ) (y : Variable ℕ) (t : Term ℕ Hint) → occurs y t ≡ false → close k (variable y) (enter k y t) ≡ t
    close-enter k y (lam A x t) e = ap (lam A x) (close-enter (suc k) y t e)
    close-enter k y (spine h ts) e =
        let parts = or_parts (holds (variables_of_head h) y) (holds (variables_of_all ts) y) (sym (list_any-append (λ z. same_numbered z y) (variables_of_head h) (variables_of_all ts)) ∙ e) in
        ap (λ g. spine g (close_all k (variable y) (enter_all k y ts))) (closed_head k y h parts.0) ∙ ap (spine h) (close_all-enter k y ts parts.1)

    pub close_all-enter : (k : ℕ) (y : Variable ℕ) (ts : Terms ℕ Hint) → holds (variables_of_all ts) y ≡ false → close_all k (variable y) (enter_all k y ts) ≡ ts
    close_all-enter k y no_terms e = refl
    close_all-enter k y (term t ts) e =
        let parts = or_parts (holds (variables t) y) (holds (variables_of_all ts) y) (sym (list_any-append (λ z. same_numbered z y) (variables t) (variables_of_all ts)) ∙ e) in
        ap (λ u. term u (close_all k (variable y) (enter_all k y ts))) (close-enter k y t parts.0) ∙ ap (term t) (close_all-enter k y ts parts.1)

-- and the other way round
opened_head : (k : ℕ) (y : Variable ℕ) (h : Head ℕ) → entered_head y (lower_head k (close_head k (variable y) h)) ≡ h
opened_head k y (constant c) = refl
opened_head k y (logical l) = refl
opened_head k y (nominal a) = refl
opened_head k y (index i) = ap (entered_head y) (lower_head-shift_head k (index i))
opened_head k y (variable z) = go (same_numbered z y) refl
  where
    go : (b : Bool) → same_numbered z y ≡ b → entered_head y (lower_head k (cond b (index k) (variable z))) ≡ variable z
    go true q = ap (λ o. entered_head y (option_map index o)) (lower_index-same k) ∙ ap variable (sym ((same_numbered-Decides z y).0 q))
    go false q = refl

module _ {Hint : Type 0} where
  mutual
    pub enter-close : (k : ℕ) (y : Variable ℕ) (t : Term ℕ Hint) → enter k y (close k (variable y) t) ≡ t
    enter-close k y (lam A x t) = ap (lam A x) (enter-close (suc k) y t)
    enter-close k y (spine h ts) = ap (λ g. spine g (enter_all k y (close_all k (variable y) ts))) (opened_head k y h) ∙ ap (spine h) (enter_all-close k y ts)

    pub enter_all-close : (k : ℕ) (y : Variable ℕ) (ts : Terms ℕ Hint) → enter_all k y (close_all k (variable y) ts) ≡ ts
    enter_all-close k y no_terms = refl
    enter_all-close k y (term t ts) = ap (λ u. term u (enter_all k y (close_all k (variable y) ts))) (enter-close k y t) ∙ ap (term t) (enter_all-close k y ts)

-- another variable that is closed further out
other_head : (j k : ℕ) (y z : Variable ℕ) (h : Head ℕ) → j ≤ k → same_numbered y z ≡ false → close_head j (variable z) (entered_head y (lower_head k h)) ≡ entered_head y (lower_head (suc k) (close_head j (variable z) h))
other_head j k y z (constant c) l n = refl
other_head j k y z (logical m) l n = refl
other_head j k y z (nominal a) l n = refl
other_head j k y z (variable w) l n = go (same_numbered w z)
  where
    go : (b : Bool) → cond b (index j) (variable w) ≡ entered_head y (lower_head (suc k) (cond b (index j) (variable w)))
    go true = ap (λ o. entered_head y (option_map index o)) (sym (lower_index-below (suc k) j (omega (arith, l))))
    go false = refl
other_head j k y z (index i) l n = go (lower_index k i) ∙ ap (entered_head y) (sym (lower_head-shift_low j k (index i) l))
  where
    go : (o : Option ℕ) → close_head j (variable z) (entered_head y (option_map index o)) ≡ entered_head y (option_map (shift_head j) (option_map index o))
    go None = ap (λ b. cond b (index j) (variable y)) n
    go (Some m) = refl

module _ {Hint : Type 0} where
  mutual
    pub close-enter_other : (j k : ℕ) (y z : Variable ℕ) (t : Term ℕ Hint) → j ≤ k → same_numbered y z ≡ false → close j (variable z) (enter k y t) ≡ enter (suc k) y (close j (variable z) t)
    close-enter_other j k y z (lam A x t) l n = ap (lam A x) (close-enter_other (suc j) (suc k) y z t (omega (arith, l)) n)
    close-enter_other j k y z (spine h ts) l n =
        ap (λ g. spine g (close_all j (variable z) (enter_all k y ts))) (other_head j k y z h l n)
        ∙ ap (spine (entered_head y (lower_head (suc k) (close_head j (variable z) h)))) (close_all-enter_other j k y z ts l n)

    pub close_all-enter_other : (j k : ℕ) (y z : Variable ℕ) (ts : Terms ℕ Hint) → j ≤ k → same_numbered y z ≡ false → close_all j (variable z) (enter_all k y ts) ≡ enter_all (suc k) y (close_all j (variable z) ts)
    close_all-enter_other j k y z no_terms l n = refl
    close_all-enter_other j k y z (term t ts) l n =
        ap (λ u. term u (close_all j (variable z) (enter_all k y ts))) (close-enter_other j k y z t l n)
        ∙ ap (term (enter (suc k) y (close j (variable z) t))) (close_all-enter_other j k y z ts l n)

-- which variables stand there then: this one where the binder's name stood
which : (b p q r s : Bool) → (((b && p) || q) || ((b && r) || s)) ≡ ((b && (p || r)) || (q || s))
which false p q r s = refl
which true true q r s = refl
which true false true true s = refl
which true false true false s = refl
which true false false r s = refl

head_occurs : (k : ℕ) (y z : Variable ℕ) (h : Head ℕ) → holds (variables_of_head (entered_head y (lower_head k h))) z ≡ ((same_numbered y z && is_binder_at (lower_head k h)) || holds (variables_of_head h) z)
head_occurs k y z (constant c) = sym (no_binder (same_numbered y z))
  where
    no_binder : (b : Bool) → ((b && false) || false) ≡ false
    no_binder true = refl
    no_binder false = refl
head_occurs k y z (logical l) = sym (no_binder (same_numbered y z))
  where
    no_binder : (b : Bool) → ((b && false) || false) ≡ false
    no_binder true = refl
    no_binder false = refl
head_occurs k y z (nominal a) = sym (no_binder (same_numbered y z))
  where
    no_binder : (b : Bool) → ((b && false) || false) ≡ false
    no_binder true = refl
    no_binder false = refl
head_occurs k y z (variable w) = go (same_numbered y z) (same_numbered w z || false)
  where
    go : (b c : Bool) → c ≡ ((b && false) || c)
    go true c = refl
    go false c = refl
head_occurs k y z (index i) = go (lower_index k i) (same_numbered y z)
  where
    go : (o : Option ℕ) (b : Bool) → holds (variables_of_head (entered_head y (option_map index o))) z ≡ ((same_numbered y z && is_binder_at (option_map {U = Head ℕ} index o)) || false)
    go None b = by (same_numbered y z)
      where
        by : (c : Bool) → (c || false) ≡ ((c && true) || false)
        by true = refl
        by false = refl
    go (Some m) b = by (same_numbered y z)
      where
        by : (c : Bool) → false ≡ ((c && false) || false)
        by true = refl
        by false = refl

none_of : (b : Bool) → false ≡ ((b && false) || false)
none_of true = refl
none_of false = refl

module _ {Hint : Type 0} where
  mutual
    pub occurs-enter : (k : ℕ) (y z : Variable ℕ) (t : Term ℕ Hint) → occurs z (enter k y t) ≡ ((same_numbered y z && stands k t) || occurs z t)
    occurs-enter k y z (lam A x t) = occurs-enter (suc k) y z t
    occurs-enter k y z (spine h ts) =
        list_any-append (λ w. same_numbered w z) (variables_of_head (entered_head y (lower_head k h))) (variables_of_all (enter_all k y ts))
        ∙ ap (λ b. b || holds (variables_of_all (enter_all k y ts)) z) (head_occurs k y z h)
        ∙ ap (λ b. ((same_numbered y z && is_binder_at (lower_head k h)) || holds (variables_of_head h) z) || b) (all_occur-enter k y z ts)
        ∙ which (same_numbered y z) (is_binder_at (lower_head k h)) (holds (variables_of_head h) z) (stands_all k ts) (holds (variables_of_all ts) z)
        ∙ ap (λ b. (same_numbered y z && (is_binder_at (lower_head k h) || stands_all k ts)) || b) (sym (list_any-append (λ w. same_numbered w z) (variables_of_head h) (variables_of_all ts)))

    all_occur-enter : (k : ℕ) (y z : Variable ℕ) (ts : Terms ℕ Hint) → holds (variables_of_all (enter_all k y ts)) z ≡ ((same_numbered y z && stands_all k ts) || holds (variables_of_all ts) z)
    all_occur-enter k y z no_terms = none_of (same_numbered y z)
    all_occur-enter k y z (term t ts) =
        list_any-append (λ w. same_numbered w z) (variables (enter k y t)) (variables_of_all (enter_all k y ts))
        ∙ ap (λ b. b || holds (variables_of_all (enter_all k y ts)) z) (occurs-enter k y z t)
        ∙ ap (λ b. ((same_numbered y z && stands k t) || occurs z t) || b) (all_occur-enter k y z ts)
        ∙ which (same_numbered y z) (stands k t) (occurs z t) (stands_all k ts) (holds (variables_of_all ts) z)
        ∙ ap (λ b. (same_numbered y z && (stands k t || stands_all k ts)) || b) (sym (list_any-append (λ w. same_numbered w z) (variables t) (variables_of_all ts)))

  pub occurs-enter_other : (k : ℕ) (y z : Variable ℕ) (t : Term ℕ Hint) → same_numbered y z ≡ false → occurs z (enter k y t) ≡ occurs z t
  occurs-enter_other k y z t n = occurs-enter k y z t ∙ ap (λ b. (b && stands k t) || occurs z t) n

  pub occurs-enter_itself : (k : ℕ) (y : Variable ℕ) (t : Term ℕ Hint) → occurs y t ≡ false → occurs y (enter k y t) ≡ stands k t
  occurs-enter_itself k y t e = occurs-enter k y y t ∙ ap (λ b. (b && stands k t) || occurs y t) (same_itself y) ∙ ap (λ b. stands k t || b) e ∙ or_none (stands k t)

-- a name from further out stands where it stood
mapped_binder : (j : ℕ) (o : Option (Head ℕ)) → is_binder_at (option_map (shift_head j) o) ≡ is_binder_at o
mapped_binder j None = refl
mapped_binder j (Some h) = refl

head_stands : (j k : ℕ) (y : Variable ℕ) (h : Head ℕ) → k ≤ j → is_binder_at (lower_head j (entered_head y (lower_head k h))) ≡ is_binder_at (lower_head (suc j) h)
head_stands j k y h l = go (lower_head k h) refl
  where
    go : (o : Option (Head ℕ)) → lower_head k h ≡ o → is_binder_at (lower_head j (entered_head y o)) ≡ is_binder_at (lower_head (suc j) h)
    go None q = sym (ap (λ g. is_binder_at (lower_head (suc j) g)) (lower_head-none k h q) ∙ ap (λ o. is_binder_at (option_map {U = Head ℕ} index o)) (lower_index-below (suc j) k (omega (arith, l))))
    go (Some g) q = sym (ap (λ f. is_binder_at (lower_head (suc j) f)) (lower_head-some k h g q) ∙ ap is_binder_at (lower_head-shift_low k j g l) ∙ mapped_binder k (lower_head j g))

module _ {Hint : Type 0} where
  mutual
    pub stands-enter : (j k : ℕ) (y : Variable ℕ) (t : Term ℕ Hint) → k ≤ j → stands j (enter k y t) ≡ stands (suc j) t
    stands-enter j k y (lam A x t) l = stands-enter (suc j) (suc k) y t (omega (arith, l))
    stands-enter j k y (spine h ts) l = ap (λ b. b || stands_all j (enter_all k y ts)) (head_stands j k y h l) ∙ ap (λ b. is_binder_at (lower_head (suc j) h) || b) (stands_all-enter j k y ts l)

    stands_all-enter : (j k : ℕ) (y : Variable ℕ) (ts : Terms ℕ Hint) → k ≤ j → stands_all j (enter_all k y ts) ≡ stands_all (suc j) ts
    stands_all-enter j k y no_terms l = refl
    stands_all-enter j k y (term t ts) l = ap (λ b. b || stands_all j (enter_all k y ts)) (stands-enter j k y t l) ∙ ap (λ b. stands (suc j) t || b) (stands_all-enter j k y ts l)

-- through shifts
shifted_head : (j k : ℕ) (y : Variable ℕ) (h : Head ℕ) → j ≤ k → entered_head y (lower_head (suc k) (shift_head j h)) ≡ shift_head j (entered_head y (lower_head k h))
shifted_head j k y h l = ap (entered_head y) (lower_head-shift_low j k h l) ∙ go (lower_head k h)
  where
    go : (o : Option (Head ℕ)) → entered_head y (option_map (shift_head j) o) ≡ shift_head j (entered_head y o)
    go None = refl
    go (Some g) = refl

module _ {Hint : Type 0} where
  mutual
    pub enter-shift : (j k : ℕ) (y : Variable ℕ) (t : Term ℕ Hint) → j ≤ k → enter (suc k) y (shift j t) ≡ shift j (enter k y t)
    enter-shift j k y (lam A x t) l = ap (lam A x) (enter-shift (suc j) (suc k) y t (omega (arith, l)))
    enter-shift j k y (spine h ts) l = ap (λ g. spine g (enter_all (suc k) y (shift_all j ts))) (shifted_head j k y h l) ∙ ap (spine (shift_head j (entered_head y (lower_head k h)))) (enter_all-shift j k y ts l)

    enter_all-shift : (j k : ℕ) (y : Variable ℕ) (ts : Terms ℕ Hint) → j ≤ k → enter_all (suc k) y (shift_all j ts) ≡ shift_all j (enter_all k y ts)
    enter_all-shift j k y no_terms l = refl
    enter_all-shift j k y (term t ts) l = ap (λ u. term u (enter_all (suc k) y (shift_all j ts))) (enter-shift j k y t l) ∙ ap (term (shift j (enter k y t))) (enter_all-shift j k y ts l)

  mutual
    pub enter-shifted : (k : ℕ) (y : Variable ℕ) (t : Term ℕ Hint) → enter k y (shift k t) ≡ t
    enter-shifted k y (lam A x t) = ap (lam A x) (enter-shifted (suc k) y t)
    enter-shifted k y (spine h ts) = ap (λ o. spine (entered_head y o) (enter_all k y (shift_all k ts))) (lower_head-shift_head k h) ∙ ap (spine h) (enter_all-shifted k y ts)

    enter_all-shifted : (k : ℕ) (y : Variable ℕ) (ts : Terms ℕ Hint) → enter_all k y (shift_all k ts) ≡ ts
    enter_all-shifted k y no_terms = refl
    enter_all-shifted k y (term t ts) = ap (λ u. term u (enter_all k y (shift_all k ts))) (enter-shifted k y t) ∙ ap (term t) (enter_all-shifted k y ts)

-- two names, in either order
two_heads : (j k : ℕ) (y z : Variable ℕ) (h : Head ℕ) → j ≤ k → entered_head z (lower_head j (entered_head y (lower_head (suc k) h))) ≡ entered_head y (lower_head k (entered_head z (lower_head j h)))
two_heads j k y z h l = outer (lower_head (suc k) h) refl
  where
    inner : (g : Head ℕ) → lower_head (suc k) h ≡ Some g → (o : Option (Head ℕ)) → lower_head j g ≡ o → entered_head z o ≡ entered_head y (lower_head k (entered_head z (lower_head j h)))
    inner g q None r = sym (
        ap (λ f. entered_head y (lower_head k (entered_head z (lower_head j f)))) (lower_head-some (suc k) h g q ∙ ap (shift_head (suc k)) (lower_head-none j g r) ∙ ap index (shift_index-below (suc k) j (omega (arith, l))))
        ∙ ap (λ o. entered_head y (lower_head k (entered_head z (option_map index o)))) (lower_index-same j))
    inner g q (Some f) r = sym (
        ap (λ e. entered_head y (lower_head k (entered_head z (lower_head j e)))) (lower_head-some (suc k) h g q ∙ ap (shift_head (suc k)) (lower_head-some j g f r) ∙ shift_head-shift_head j k f l)
        ∙ ap (λ o. entered_head y (lower_head k (entered_head z o))) (lower_head-shift_head j (shift_head k f))
        ∙ ap (entered_head y) (lower_head-shift_head k f))

    outer : (o : Option (Head ℕ)) → lower_head (suc k) h ≡ o → entered_head z (lower_head j (entered_head y o)) ≡ entered_head y (lower_head k (entered_head z (lower_head j h)))
    outer None q = sym (
        ap (λ f. entered_head y (lower_head k (entered_head z (lower_head j f)))) (lower_head-none (suc k) h q ∙ ap index (sym (shift_index-from j k l)))
        ∙ ap (λ o. entered_head y (lower_head k (entered_head z o))) (lower_head-shift_head j (index k))
        ∙ ap (λ o. entered_head y (option_map index o)) (lower_index-same k))
    outer (Some g) q = inner g q (lower_head j g) refl

module _ {Hint : Type 0} where
  mutual
    pub enter-enter : (j k : ℕ) (y z : Variable ℕ) (t : Term ℕ Hint) → j ≤ k → enter j z (enter (suc k) y t) ≡ enter k y (enter j z t)
    enter-enter j k y z (lam A x t) l = ap (lam A x) (enter-enter (suc j) (suc k) y z t (omega (arith, l)))
    enter-enter j k y z (spine h ts) l =
        ap (λ g. spine g (enter_all j z (enter_all (suc k) y ts))) (two_heads j k y z h l)
        ∙ ap (spine (entered_head y (lower_head k (entered_head z (lower_head j h))))) (enter_all-enter j k y z ts l)

    enter_all-enter : (j k : ℕ) (y z : Variable ℕ) (ts : Terms ℕ Hint) → j ≤ k → enter_all j z (enter_all (suc k) y ts) ≡ enter_all k y (enter_all j z ts)
    enter_all-enter j k y z no_terms l = refl
    enter_all-enter j k y z (term t ts) l = ap (λ u. term u (enter_all j z (enter_all (suc k) y ts))) (enter-enter j k y z t l) ∙ ap (term (enter k y (enter j z t))) (enter_all-enter j k y z ts l)

module _ (sg : Signature) where
  entered_type : (A : Ty) (G : List Ty) (y : Variable ℕ) → y.type ≡ A → (o : Option (Head ℕ)) → head_type sg G (entered_head y o) ≡ left_type sg A G o
  entered_type A G y e None = ap Some e
  entered_type A G y e (Some h) = refl

  module _ {Hint : Type 0} where
    mutual
      pub enter_typed : {k : ℕ} {A B : Ty} {G H : List Ty} {t : Term ℕ Hint} (y : Variable ℕ) → y.type ≡ A → Insert k A G H → HasType sg H t B → HasType sg G (enter k y t) B
      enter_typed y e i (typed_lam d) = typed_lam (enter_typed y e (there i) d)
      enter_typed {k = k} {A = A} {G = G} y e i (typed_spine {h = h} f ds) = typed_spine (entered_type A G y e (lower_head k h) ∙ sym (head_type-lower sg i h) ∙ f) (enter_all_typed y e i ds)

      enter_all_typed : {k : ℕ} {A B C : Ty} {G H : List Ty} {ts : Terms ℕ Hint} (y : Variable ℕ) → y.type ≡ A → Insert k A G H → TakeType sg H ts B C → TakeType sg G (enter_all k y ts) B C
      enter_all_typed y e i take_none = take_none
      enter_all_typed y e i (take_term d ds) = take_term (enter_typed y e i d) (enter_all_typed y e i ds)

  -- the variable's own form is put in
  pub substitute-enter : {k : ℕ} {B : Ty} {G H : List Ty} {t : Term ℕ (Unit {0})} (y : Variable ℕ) → Insert k y.type G H → HasType sg H t B → occurs y t ≡ false → substitute y.type (expansion tt y.type (variable y)) k t ≡ enter k y t
  substitute-enter {k = k} {t = t} y i d e =
      ap (substitute y.type (expansion tt y.type (variable y)) k) (sym (close-enter k y t e))
      ∙ substitute-close sg k (variable y) refl (enter_typed y refl i d)
