-- Where a foreign name or the variable itself stands in the term, nothing makes the two the same.
use Rattle.std.proofs.Common.{◌≡◌, ℕ, zero, suc, ◌<◌, ◌≤◌, ◌⊎◌, inl, inr, List, [], ◌∷◌, ◌++◌, length, Bool, true, false, cond, ◌&&◌, ◌||◌, Option, Some, None, is_some, refl, sym, ◌∙◌, ap, subst, arith}
use Rattle.std.proofs.lemmas.Bool.{false≢true, and_parts, and_from, or_cases, false_from_ne_true}
use Rattle.ab_term.specs.Types.{Ty, kind, arrow}
use Rattle.ab_term.specs.Terms.{Nominal, Variable, Head, constant, logical, nominal, variable, index, Term, lam, spine, Terms, no_terms, term}
use Rattle.ab_term.specs.Typing.{Signature, HasType, TakeType, typed_lam, typed_spine, take_term}
use Rattle.ab_term.specs.Substitution.{shift_head, reduce}
use Rattle.ab_term.specs.Expansion.{expansion_of}
use Rattle.ab_term.specs.Translation.{translate_head, forget, forget_all}
use Rattle.ab_term.specs.Variables.{variables_of_head, variables, variables_of_all, put_for, put_at, image_by, image_all_by}
use Rattle.ab_term.specs.Sameness.{same_numbered, same_head}
use Rattle.ab_term.specs.Abstraction.{among, under, is_name, name_terms, may_stand, Only, OnlyAll}
use Rattle.ab_term.specs.Sizes.{size, sizes}
use Rattle.ab_term.proofs.Translations.{translate_all_typed}
use Rattle.ab_term.proofs.Closed.{closed_typed}
use Rattle.ab_term.proofs.Same.{same_numbered-Decides, same_head-Decides}
use Rattle.ab_term.proofs.Only.{head_cases, among-under, may_stand-under, innermost_stands, include, Sends, among-append, among_front, among_behind}
use Rattle.ab_term.proofs.Abstracting.{named_length, forget_only}
use Rattle.ab_term.proofs.Determined.{AreApart, NoIndex}
use Rattle.ab_term.proofs.Sizing.{size-given}
use Rattle.ab_unifiers.specs.Patterns.{pattern}
use Rattle.ab_unifiers.specs.Replacements.{holds, is_flexible, has_patterns, all_have_patterns, no_foreign, no_foreign_all}
use Rattle.ab_unifiers.proofs.Views.{IsPattern, pattern_end, pattern_more, is_pattern}
use Rattle.ab_unifiers.proofs.Values.{pattern_terms, pattern_named, forget_pattern}
use Rattle.ab_unifiers.proofs.Agreeing.{pattern_rigid, image_pattern}
use Rattle.ab_unifiers.proofs.Avoiding.{not_held}
use Rattle.ab_unifiers.proofs.Following.{Put, Fits}

-- no nominal constant of the first is one of the others
abbrev pub Scope : List (Head ℕ) → List (Head ℕ) → Type 0
Scope others hs = (a : Nominal) → among hs (nominal a) ≡ true → among others (nominal a) ≡ false

pub scope_under : (others hs : List (Head ℕ)) → Scope others hs → Scope others (under hs)
scope_under others hs s a e = s a (sym (among-under hs (nominal a)) ∙ e)

expansion_of_back : (A : Ty) (ms : List (Head ℕ)) (h : Head ℕ) (ts : Terms ℕ (Unit {0})) → Only ms (expansion_of tt A h ts) → may_stand ms h ≡ true
expansion_of_back (kind c) ms h ts o = o.0
expansion_of_back (arrow A B) ms h ts o = sym (may_stand-under ms h) ∙ expansion_of_back B (under ms) (shift_head zero h) _ o

name_apart : (others hs : List (Head ℕ)) → NoIndex others → Scope others hs → (h : Head ℕ) → is_name h ≡ true → may_stand hs h ≡ true → among others h ≡ false
name_apart others hs n s (constant c) e m = absurd (false≢true e)
name_apart others hs n s (logical l) e m = absurd (false≢true e)
name_apart others hs n s (nominal a) e m = s a m
name_apart others hs n s (variable y) e m = absurd (false≢true e)
name_apart others hs n s (index i) e m = n i

module _ (sg : Signature) {Hint : Type 0} where
  -- the names of a pattern in scope
  pub pattern_apart : (others hs : List (Head ℕ)) → NoIndex others → Scope others hs → {A : Ty} {ts : Terms ℕ Hint} {gs : List (Head ℕ)} → IsPattern A ts gs → OnlyAll hs ts → AreApart gs others
  pattern_apart others hs n s pattern_end o g e = absurd (false≢true e)
  pattern_apart others hs n s (pattern_more {A = A} {t = t} {h = h} {hs = gs} m d p) o g e =
      elim (or_cases (same_head h g) (among gs g) e) [ inl q ↦ ap (among others) (sym ((same_head-Decides h g).0 q)) ∙ name_apart others hs n s h m.name (expansion_of_back A hs h no_terms (subst (Only hs) m.expansion (forget_only hs t o.0))) | inr q ↦ pattern_apart others hs n s p o.1 g q ]

-- the others are the same_numbered under a binder
append_under : (others names : List (Head ℕ)) → NoIndex others → Sends (under (names ++ others)) (under names ++ others) (λ g. g)
append_under others names n g e = go (head_cases g)
  where
    listed : (h : Head ℕ) → among (names ++ others) h ≡ true → is_name h ≡ true → among (under names ++ others) (shift_head zero h) ≡ true
    listed (constant c) a m = absurd (false≢true m)
    listed (logical l) a m = absurd (false≢true m)
    listed (nominal b) a m = elim (among-append names others (nominal b) a) [ inl p ↦ among_front (under names) others (nominal b) (among-under names (nominal b) ∙ p) | inr p ↦ among_behind (under names) others (nominal b) p ]
    listed (variable y) a m = absurd (false≢true m)
    listed (index i) a m = elim (among-append names others (index i) a) [ inl p ↦ among_front (under names) others (shift_head zero (index i)) (among-under names (index i) ∙ p) | inr p ↦ absurd (false≢true (sym (n i) ∙ p)) ]

    from : (h : Head ℕ) → may_stand (names ++ others) h ≡ true → may_stand (under names ++ others) (shift_head zero h) ≡ true
    from (constant c) a = refl
    from (logical l) a = refl
    from (nominal b) a = listed (nominal b) a refl
    from (variable y) a = refl
    from (index i) a = listed (index i) a refl

    go : (g ≡ index zero) ⊎ ((h : Head ℕ) × (g ≡ shift_head zero h)) → may_stand (under names ++ others) g ≡ true
    go (inl p) = ap (may_stand (under names ++ others)) p ∙ among_front (under names) others (index zero) (innermost_stands names)
    go (inr p) = ap (may_stand (under names ++ others)) p.1 ∙ from p.0 (sym (may_stand-under (names ++ others) p.0) ∙ ap (may_stand (under (names ++ others))) (sym p.1) ∙ e)

pub only_deeper : (others names : List (Head ℕ)) → NoIndex others → (t : Term ℕ (Unit {0})) → Only (under (names ++ others)) t → Only (under names ++ others) t
only_deeper others names n t o = include (under (names ++ others)) (under names ++ others) (append_under others names n) t o

no_other : (others : List (Head ℕ)) → NoIndex others → (hs names : List (Head ℕ)) → Scope others hs → (h : Head ℕ) → may_stand hs h ≡ true → may_stand (names ++ others) h ≡ true → may_stand names h ≡ true
no_other others none hs names s (constant c) a b = refl
no_other others none hs names s (logical l) a b = refl
no_other others none hs names s (nominal n) a b = elim (among-append names others (nominal n) b) [ inl p ↦ p | inr p ↦ absurd (false≢true (sym (s n a) ∙ p)) ]
no_other others none hs names s (variable y) a b = refl
no_other others none hs names s (index i) a b = elim (among-append names others (index i) b) [ inl p ↦ p | inr p ↦ absurd (false≢true (sym (none i) ∙ p)) ]

module _ (sg : Signature) (others : List (Head ℕ)) (none : NoIndex others) (ys : List (Variable ℕ)) (f : Put) (fits : Fits sg others ys f) {Hint : Type 0} where
  -- what stays of a rigid term's arguments
  pub rigid_args : (names : List (Head ℕ)) (h : Head ℕ) (ts : Terms ℕ Hint) → is_flexible ys h ≡ false → Only names (image_by f (forget (spine h ts))) → (may_stand names h ≡ true) × OnlyAll names (image_all_by f (forget_all ts))
  rigid_args names (constant c) ts r o = o
  rigid_args names (logical l) ts r o = o
  rigid_args names (nominal a) ts r o = o
  rigid_args names (variable y) ts r o = (refl, (subst (Only names) (ap (λ p. put_for y p (image_all_by f (forget_all ts))) (fits.none y r)) o).1)
  rigid_args names (index i) ts r o = o

  mutual
    -- A FOREIGN NAME STAYS
    pub no_foreign_if : (hs names : List (Head ℕ)) → Scope others hs → (t : Term ℕ Hint) → Only hs t → Only (names ++ others) (image_by f (forget t)) → no_foreign ys names t ≡ true
    no_foreign_if hs names s (lam A x t) o q = no_foreign_if (under hs) (under names) (scope_under others hs s) t o (only_deeper others names none (image_by f (forget t)) q)
    no_foreign_if hs names s (spine h ts) o q = go (is_flexible ys h) refl (λ r. no_foreign_all_if hs names s ts o.1 (rigid_args (names ++ others) h ts r q).1)
      where
        go : (b : Bool) → is_flexible ys h ≡ b → (is_flexible ys h ≡ false → no_foreign_all ys names ts ≡ true) → (b || (may_stand names h && no_foreign_all ys names ts)) ≡ true
        go true r rest = refl
        go false r rest = and_from (may_stand names h) (no_foreign_all ys names ts) (no_other others none hs names s h o.0 (rigid_args (names ++ others) h ts r q).0) (rest r)

    no_foreign_all_if : (hs names : List (Head ℕ)) → Scope others hs → (ts : Terms ℕ Hint) → OnlyAll hs ts → OnlyAll (names ++ others) (image_all_by f (forget_all ts)) → no_foreign_all ys names ts ≡ true
    no_foreign_all_if hs names s no_terms o q = refl
    no_foreign_all_if hs names s (term t ts) o q = and_from (no_foreign ys names t) (no_foreign_all ys names ts) (no_foreign_if hs names s t o.0 q.0) (no_foreign_all_if hs names s ts o.1 q.1)

-- names for names keep sizes
module _ (sg : Signature) where
  -- one value with names is of one size
  pub one_size : {G H : List Ty} {A : Ty} {c d : List ℕ} {ts us : Terms ℕ (Unit {0})} {gs hs : List (Head ℕ)} (v : Term ℕ (Unit {0})) → IsPattern A ts gs → IsPattern A us hs → TakeType sg G ts A (kind c) → TakeType sg H us A (kind d) → HasType sg [] v A → size (reduce A v ts) ≡ size (reduce A v us)
  one_size {G = G} {H = H} {A = A} {c = c} {d = d} {gs = gs} {hs = hs} v p q ds es dv =
      let n = pattern_named sg p ds in
      let m = pattern_named sg q es in
      let first = size-given sg v n (closed_typed sg G dv) in
      let second = size-given sg v m (closed_typed sg H dv) in
      let many : length gs ≡ length hs = named_length c n ∙ sym (named_length d m) in
      ap (λ s. size (reduce A v s)) (pattern_terms p)
      ∙ (let same : size (reduce A v (name_terms tt A gs)) ≡ size (reduce A v (name_terms tt A hs)) = omega (arith, first, second, many) in same)
      ∙ sym (ap (λ s. size (reduce A v s)) (pattern_terms q))

module _ (sg : Signature) (others : List (Head ℕ)) (ys : List (Variable ℕ)) (f : Put) (fits : Fits sg others ys f) {Hint : Type 0}
    (y : Variable ℕ) (v : Term ℕ (Unit {0})) (own : f y ≡ Some v) (held : holds ys y ≡ true) (G : List Ty) (k : List ℕ) (us : Terms ℕ Hint) (hs : List (Head ℕ)) (q : IsPattern y.type us hs) (es : TakeType sg G us y.type (kind k)) where
  abbrev least : ℕ
  least = size (reduce y.type v (forget_all us))

  v_typed : HasType sg [] v y.type
  v_typed = fits.typed y v own

  put_size : (h : Head ℕ) (ss : Terms ℕ (Unit {0})) → is_flexible ys h ≡ false → size (put_at f (translate_head (λ v. v) h) ss) ≡ suc (sizes ss)
  put_size (constant c) ss r = refl
  put_size (logical l) ss r = refl
  put_size (nominal a) ss r = refl
  put_size (variable z) ss r = ap (λ o. size (put_for z o ss)) (fits.none z r)
  put_size (index i) ss r = refl

  -- the variable itself, with names
  at_own : (H : List Ty) (c : List ℕ) (z : Variable ℕ) (ts : Terms ℕ Hint) (gs : List (Head ℕ)) → IsPattern z.type ts gs → TakeType sg H ts z.type (kind c) → holds (z ∷ variables_of_all ts) y ≡ true → least ≤ size (image_by f (forget (spine (variable z) ts)))
  at_own H c z ts gs p ds e = elim (or_cases (same_numbered z y) (holds (variables_of_all ts) y) e) [ inl s ↦ here_size ((same_numbered-Decides z y).0 s) | inr s ↦ absurd (false≢true (sym (ap (λ l. holds l y) (pattern_rigid p)) ∙ s)) ]
    where
      here_size : z ≡ y → least ≤ size (image_by f (forget (spine (variable z) ts)))
      here_size s =
          let p2 : IsPattern y.type ts gs = subst (λ w. IsPattern w.type ts gs) s p in
          let ds2 : TakeType sg H ts y.type (kind c) = subst (λ w. TakeType sg H ts w.type (kind c)) s ds in
          let is : size (image_by f (forget (spine (variable z) ts))) ≡ size (reduce y.type v (forget_all ts)) =
          ap (λ w. size (image_by f (forget (spine (variable w) ts)))) s ∙ ap (λ ss. size (put_for y (f y) ss)) (image_pattern f (forget_pattern p2)) ∙ ap (λ o. size (put_for y o (forget_all ts))) own in
          let equal : size (reduce y.type v (forget_all us)) ≡ size (reduce y.type v (forget_all ts)) = one_size sg v (forget_pattern q) (forget_pattern p2) (translate_all_typed sg (λ v. v) (λ x. tt) es) (translate_all_typed sg (λ v. v) (λ x. tt) ds2) v_typed in
          omega (arith, is, equal)

  at_spine : (H : List Ty) (c : List ℕ) (D : Ty) (h : Head ℕ) (ts : Terms ℕ Hint) → is_flexible ys h ≡ false → (holds (variables_of_all ts) y ≡ true → least ≤ sizes (image_all_by f (forget_all ts))) → holds (variables_of_head h ++ variables_of_all ts) y ≡ true → holds (variables_of_head h) y ≡ false → least < size (image_by f (forget (spine h ts)))
  at_spine H c D h ts r rest e n =
      let is = put_size h (image_all_by f (forget_all ts)) r in
      let inside : holds (variables_of_all ts) y ≡ true = elim (not_held (variables_of_head h) (variables_of_all ts) y e) [ inl a ↦ absurd (false≢true (sym n ∙ a)) | inr a ↦ a ] in
      omega (arith, is, rest inside)

  not_flexible : (z : Variable ℕ) → holds ys z ≡ false → holds (z ∷ []) y ≡ false
  not_flexible z r = false_from_ne_true (holds (z ∷ []) y) (λ e. elim (or_cases (same_numbered z y) false e) [ inl s ↦ false≢true (sym r ∙ ap (holds ys) ((same_numbered-Decides z y).0 s) ∙ held) | inr s ↦ false≢true s ])

  at_variable : (H : List Ty) (c : List ℕ) (z : Variable ℕ) (ts : Terms ℕ Hint) → TakeType sg H ts z.type (kind c) → (b : Bool) → holds ys z ≡ b → cond b (is_some (pattern z.type ts)) (all_have_patterns ys ts) ≡ true → (all_have_patterns ys ts ≡ true → holds (variables_of_all ts) y ≡ true → least ≤ sizes (image_all_by f (forget_all ts))) → holds (z ∷ variables_of_all ts) y ≡ true → least ≤ size (image_by f (forget (spine (variable z) ts)))
  at_variable H c z ts ds true r p rest e = go (pattern z.type ts) refl p
    where
      go : (o : Option (List (Head ℕ))) → pattern z.type ts ≡ o → is_some o ≡ true → least ≤ size (image_by f (forget (spine (variable z) ts)))
      go None g p = absurd (false≢true p)
      go (Some gs) g p = at_own H c z ts gs (is_pattern z.type ts gs g) ds e
  at_variable H c z ts ds false r p rest e = omega (arith, at_spine H c z.type (variable z) ts r (rest p) e (not_flexible z r))

  mutual
    -- WHERE THE VARIABLE STANDS the image is at least as large as the variable's
    occurs_size : (H : List Ty) {B : Ty} (t : Term ℕ Hint) → HasType sg H t B → has_patterns ys t ≡ true → holds (variables t) y ≡ true → least ≤ size (image_by f (forget t))
    occurs_size H (lam A x t) (typed_lam d) p e = omega (arith, occurs_size (A ∷ H) t d p e)
    occurs_size H (spine (constant c) ts) (typed_spine {A = D} {k = j} a ds) p e = omega (arith, at_spine H j D (constant c) ts refl (occurs_sizes H ts ds p) e refl)
    occurs_size H (spine (logical c) ts) (typed_spine {A = D} {k = j} a ds) p e = omega (arith, at_spine H j D (logical c) ts refl (occurs_sizes H ts ds p) e refl)
    occurs_size H (spine (nominal c) ts) (typed_spine {A = D} {k = j} a ds) p e = omega (arith, at_spine H j D (nominal c) ts refl (occurs_sizes H ts ds p) e refl)
    occurs_size H (spine (index c) ts) (typed_spine {A = D} {k = j} a ds) p e = omega (arith, at_spine H j D (index c) ts refl (occurs_sizes H ts ds p) e refl)
    occurs_size H (spine (variable z) ts) (typed_spine {A = D} {k = j} a ds) p e =
        let same_type : D ≡ z.type = cc in
        at_variable H j z ts (subst (λ E. TakeType sg H ts E (kind j)) same_type ds) (holds ys z) refl p (λ p. occurs_sizes H ts ds p) e

    occurs_sizes : (H : List Ty) {B C : Ty} (ts : Terms ℕ Hint) → TakeType sg H ts B C → all_have_patterns ys ts ≡ true → holds (variables_of_all ts) y ≡ true → least ≤ sizes (image_all_by f (forget_all ts))
    occurs_sizes H no_terms ds p e = absurd (false≢true e)
    occurs_sizes H (term t ts) (take_term d ds) p e =
        let ps = and_parts (has_patterns ys t) (all_have_patterns ys ts) p in
        elim (not_held (variables t) (variables_of_all ts) y e) [ inl a ↦ omega (arith, occurs_size H t d ps.0 a) | inr a ↦ omega (arith, occurs_sizes H ts ds ps.1 a) ]

  -- IN A RIGID TERM it is larger
  pub occurs_larger : (H : List Ty) {B : Ty} (h : Head ℕ) (ts : Terms ℕ Hint) → HasType sg H (spine h ts) B → is_flexible ys h ≡ false → has_patterns ys (spine h ts) ≡ true → holds (variables (spine h ts)) y ≡ true → least < size (image_by f (forget (spine h ts)))
  occurs_larger H (constant c) ts (typed_spine {A = D} {k = j} a ds) r p e = at_spine H j D (constant c) ts refl (occurs_sizes H ts ds p) e refl
  occurs_larger H (logical c) ts (typed_spine {A = D} {k = j} a ds) r p e = at_spine H j D (logical c) ts refl (occurs_sizes H ts ds p) e refl
  occurs_larger H (nominal c) ts (typed_spine {A = D} {k = j} a ds) r p e = at_spine H j D (nominal c) ts refl (occurs_sizes H ts ds p) e refl
  occurs_larger H (index c) ts (typed_spine {A = D} {k = j} a ds) r p e = at_spine H j D (index c) ts refl (occurs_sizes H ts ds p) e refl
  occurs_larger H (variable z) ts (typed_spine {A = D} {k = j} a ds) r p e =
      at_spine H j D (variable z) ts r (occurs_sizes H ts ds (sym (ap (λ b. cond b (is_some (pattern z.type ts)) (all_have_patterns ys ts)) r) ∙ p)) e (not_flexible z r)
