-- What a term and names give alike with other names stands only at the places where the names agree.
use Rattle.std.proofs.Common.{◌≡◌, ℕ, zero, suc, ◌≤◌, ◌⊎◌, inl, inr, List, [], ◌∷◌, ◌++◌, length, Bool, true, false, cond, ◌||◌, Some, None, option_map, refl, sym, ◌∙◌, ap, arith}
use Rattle.std.proofs.lemmas.Bool.{false≢true, or_cases, false_from_ne_true}
use Rattle.ab_term.specs.Types.{Ty, kind, arrow, arity}
use Rattle.ab_term.specs.Terms.{Head, constant, logical, nominal, variable, index, Term, lam, spine, Terms, no_terms, term}
use Rattle.ab_term.specs.Typing.{Signature, HasType, TakeType}
use Rattle.ab_term.specs.Substitution.{shift_head, lower_head, reduce}
use Rattle.ab_term.specs.Sameness.{same_head}
use Rattle.ab_term.specs.Abstraction.{among, under, close_head, close, close_all, abstracted, may_stand, Only, OnlyAll, Distinct}
use Rattle.ab_term.proofs.Expansions.{lower_index-same}
use Rattle.ab_term.proofs.Shifts.{lower_head-shift_head}
use Rattle.ab_term.proofs.Closed.{closed_typed}
use Rattle.ab_term.proofs.Same.{same_head-Decides}
use Rattle.ab_term.proofs.Only.{head_cases, shift_head-one, may_stand-under, innermost_stands, close_head-inner, close_head-outer, among-append, among_front, among_behind, among_stands}
use Rattle.ab_term.proofs.Determined.{AreApart, abstracted-reduce}
use Rattle.ab_unifiers.specs.Patterns.{kept}
use Rattle.ab_unifiers.specs.Unification.{agreeing}
use Rattle.ab_unifiers.proofs.Views.{IsPattern, pattern_length}
use Rattle.ab_unifiers.proofs.Values.{pattern_terms, pattern_named}
use Rattle.ab_unifiers.proofs.Narrowing.{deeper, shift_by, same_head-shift_by, shift_head-shift_by, renamed, renamed_other, skeleton, close-skeleton}
use Rattle.ab_unifiers.proofs.Readings.{pattern_distinct}

-- what happens to a head, under one more binder
abbrev lift : (Head ℕ → Head ℕ) → Head ℕ → Head ℕ
lift f (constant c) = shift_head zero (f (constant c))
lift f (logical l) = shift_head zero (f (logical l))
lift f (nominal a) = shift_head zero (f (nominal a))
lift f (variable y) = shift_head zero (f (variable y))
lift f (index zero) = index zero
lift f (index (suc i)) = shift_head zero (f (index i))

lift-shift : (f : Head ℕ → Head ℕ) (g : Head ℕ) → lift f (shift_head zero g) ≡ shift_head zero (f g)
lift-shift f (constant c) = refl
lift-shift f (logical l) = refl
lift-shift f (nominal a) = refl
lift-shift f (variable y) = refl
lift-shift f (index i) = refl

-- a map that acts so is the lifted one
is_lift : (f more : Head ℕ → Head ℕ) → more (index zero) ≡ index zero → ((g : Head ℕ) → more (shift_head zero g) ≡ shift_head zero (f g)) → more ≡ lift f
is_lift f more inner outer = λ i g. each g (head_cases g) i
  where
    each : (g : Head ℕ) → (g ≡ index zero) ⊎ ((h : Head ℕ) × (g ≡ shift_head zero h)) → more g ≡ lift f g
    each g (inl p) = ap more p ∙ inner ∙ ap (lift f) (sym p)
    each g (inr p) = ap more p.1 ∙ outer p.0 ∙ sym (lift-shift f p.0) ∙ ap (lift f) (sym p.1)

module _ {Hint : Type 0} where
  abbrev mutual
    mapped : (Head ℕ → Head ℕ) → Term ℕ Hint → Term ℕ Hint
    mapped f (lam A x t) = lam A x (mapped (lift f) t)
    mapped f (spine h ts) = spine (f h) (all_mapped f ts)

    all_mapped : (Head ℕ → Head ℕ) → Terms ℕ Hint → Terms ℕ Hint
    all_mapped f no_terms = no_terms
    all_mapped f (term t ts) = term (mapped f t) (all_mapped f ts)

  mutual
    close-mapped : (k : ℕ) (h : Head ℕ) (t : Term ℕ Hint) → close k h t ≡ mapped (close_head k h) t
    close-mapped k h (lam A x t) = ap (lam A x) (close-mapped (suc k) (shift_head zero h) t ∙ ap (λ f. mapped f t) (is_lift (close_head k h) (close_head (suc k) (shift_head zero h)) (close_head-inner k h) (close_head-outer k h)))
    close-mapped k h (spine g ts) = ap (spine (close_head k h g)) (close_all-mapped k h ts)

    close_all-mapped : (k : ℕ) (h : Head ℕ) (ts : Terms ℕ Hint) → close_all k h ts ≡ all_mapped (close_head k h) ts
    close_all-mapped k h no_terms = refl
    close_all-mapped k h (term t ts) = ap (λ s. term s (close_all k h ts)) (close-mapped k h t) ∙ ap (term (mapped (close_head k h) t)) (close_all-mapped k h ts)

  mutual
    mapped-mapped : (f g : Head ℕ → Head ℕ) (t : Term ℕ Hint) → mapped f (mapped g t) ≡ mapped (λ h. f (g h)) t
    mapped-mapped f g (lam A x t) = ap (lam A x) (mapped-mapped (lift f) (lift g) t ∙ ap (λ m. mapped m t) (is_lift (λ h. f (g h)) (λ h. lift f (lift g h)) refl (λ h. ap (lift f) (lift-shift g h) ∙ lift-shift f (g h))))
    mapped-mapped f g (spine h ts) = ap (spine (f (g h))) (all_mapped-mapped f g ts)

    all_mapped-mapped : (f g : Head ℕ → Head ℕ) (ts : Terms ℕ Hint) → all_mapped f (all_mapped g ts) ≡ all_mapped (λ h. f (g h)) ts
    all_mapped-mapped f g no_terms = refl
    all_mapped-mapped f g (term t ts) = ap (λ s. term s (all_mapped f (all_mapped g ts))) (mapped-mapped f g t) ∙ ap (term (mapped (λ h. f (g h)) t)) (all_mapped-mapped f g ts)

  mutual
    mapped-nothing : (t : Term ℕ Hint) → mapped (λ h. h) t ≡ t
    mapped-nothing (lam A x t) = ap (lam A x) (ap (λ m. mapped m t) (sym (is_lift (λ h. h) (λ h. h) refl (λ h. refl))) ∙ mapped-nothing t)
    mapped-nothing (spine h ts) = ap (spine h) (all_mapped-nothing ts)

    all_mapped-nothing : (ts : Terms ℕ Hint) → all_mapped (λ h. h) ts ≡ ts
    all_mapped-nothing no_terms = refl
    all_mapped-nothing (term t ts) = ap (λ s. term s (all_mapped (λ h. h) ts)) (mapped-nothing t) ∙ ap (term t) (all_mapped-nothing ts)

  -- abstracted over names is: each head renamed, below the abstractions
  abstracted-mapped : (x : Hint) (A : Ty) (hs : List (Head ℕ)) (t : Term ℕ Hint) → length hs ≤ arity A → abstracted x A hs t ≡ skeleton x A (length hs) (mapped (renamed hs) t)
  abstracted-mapped x A [] t l = sym (mapped-nothing t)
  abstracted-mapped x (kind c) (h ∷ hs) t l = absurd (omega (arith, l))
  abstracted-mapped x (arrow A B) (h ∷ hs) t l =
      let d = deeper (length hs) zero in
      let g = shift_by (length hs) h in
      ap (lam A x)
      (ap (close zero h) (abstracted-mapped x B hs t (omega (arith, l)))
      ∙ close-skeleton x B (length hs) zero h (mapped (renamed hs) t) (omega (arith, l))
      ∙ ap (skeleton x B (length hs)) (close-mapped d g (mapped (renamed hs) t) ∙ mapped-mapped (close_head d g) (renamed hs) t))

  skeleton-one : (x : Hint) (A : Ty) (n : ℕ) (t u : Term ℕ Hint) → n ≤ arity A → skeleton x A n t ≡ skeleton x A n u → t ≡ u
  skeleton-one x A zero t u l e = e
  skeleton-one x (kind c) (suc n) t u l e = absurd (omega (arith, l))
  skeleton-one x (arrow A B) (suc n) t u l e = let inner : skeleton x B n t ≡ skeleton x B n u = cc in skeleton-one x B n t u (omega (arith, l)) inner

-- which heads can stand in a term that two maps send to one
abbrev Meet : (Head ℕ → Head ℕ) → (Head ℕ → Head ℕ) → List (Head ℕ) → List (Head ℕ) → Type 0
Meet f g ns ms = (h : Head ℕ) → may_stand ns h ≡ true → f h ≡ g h → may_stand ms h ≡ true

meet_under : (f g : Head ℕ → Head ℕ) (ns ms : List (Head ℕ)) → Meet f g ns ms → (h : Head ℕ) → (h ≡ index zero) ⊎ ((j : Head ℕ) × (h ≡ shift_head zero j)) → may_stand (under ns) h ≡ true → lift f h ≡ lift g h → may_stand (under ms) h ≡ true
meet_under f g ns ms m h (inl p) s e = ap (may_stand (under ms)) p ∙ innermost_stands ms
meet_under f g ns ms m h (inr p) s e =
    let j = p.0 in
    ap (may_stand (under ms)) p.1 ∙ may_stand-under ms j
    ∙ m j (sym (may_stand-under ns j) ∙ ap (may_stand (under ns)) (sym p.1) ∙ s)
    (shift_head-one (f j) (g j) (sym (lift-shift f j) ∙ ap (lift f) (sym p.1) ∙ e ∙ ap (lift g) p.1 ∙ lift-shift g j))

module _ {Hint : Type 0} where
  mutual
    meet_only : (f g : Head ℕ → Head ℕ) (ns ms : List (Head ℕ)) → Meet f g ns ms → (t : Term ℕ Hint) → mapped f t ≡ mapped g t → Only ns t → Only ms t
    meet_only f g ns ms m (lam A x t) e o =
        let inner : mapped (lift f) t ≡ mapped (lift g) t = cc in
        meet_only (lift f) (lift g) (under ns) (under ms) (λ h s q. meet_under f g ns ms m h (head_cases h) s q) t inner o
    meet_only f g ns ms m (spine h ts) e o =
        let heads : f h ≡ g h = cc in
        let rest : all_mapped f ts ≡ all_mapped g ts = cc in
        (m h o.0 heads, all_meet_only f g ns ms m ts rest o.1)

    all_meet_only : (f g : Head ℕ → Head ℕ) (ns ms : List (Head ℕ)) → Meet f g ns ms → (ts : Terms ℕ Hint) → all_mapped f ts ≡ all_mapped g ts → OnlyAll ns ts → OnlyAll ms ts
    all_meet_only f g ns ms m no_terms e o = tt
    all_meet_only f g ns ms m (term t ts) e o =
        let first : mapped f t ≡ mapped g t = cc in
        let rest : all_mapped f ts ≡ all_mapped g ts = cc in
        (meet_only f g ns ms m t first o.0, all_meet_only f g ns ms m ts rest o.1)

shift_head-back : (k : ℕ) (g h : Head ℕ) → shift_head k g ≡ shift_head k h → g ≡ h
shift_head-back k g h e = let both : Some g ≡ Some h = sym (lower_head-shift_head k g) ∙ ap (lower_head k) e ∙ lower_head-shift_head k h in cc

own_place : (k : ℕ) (h : Head ℕ) → index k ≡ shift_head k h → ⊥
own_place k h e = let both : None ≡ Some h = sym (ap (option_map index) (lower_index-same k)) ∙ ap (lower_head k) e ∙ lower_head-shift_head k h in cc

shift_by-back : (n : ℕ) (g h : Head ℕ) → shift_by n g ≡ shift_by n h → g ≡ h
shift_by-back n g h e = (same_head-Decides g h).0 (sym (same_head-shift_by n g h) ∙ (same_head-Decides (shift_by n g) (shift_by n h)).1 e)

-- what is renamed as a name from outside is one
renamed_outside : (gs : List (Head ℕ)) (g k : Head ℕ) → renamed gs g ≡ shift_by (length gs) k → among gs g ≡ false
renamed_outside [] g k e = refl
renamed_outside (h ∷ hs) g k e = go (same_head (renamed hs g) (shift_by n h)) refl (e ∙ sym (shift_head-shift_by n zero k)) (renamed_outside hs g k)
  where
    n : ℕ
    n = length hs

    go : (b : Bool) → same_head (renamed hs g) (shift_by n h) ≡ b → cond b (index (deeper n zero)) (shift_head (deeper n zero) (renamed hs g)) ≡ shift_head (deeper n zero) (shift_by n k) → (renamed hs g ≡ shift_by n k → among hs g ≡ false) → (same_head h g || among hs g) ≡ false
    go true s e rest = absurd (own_place (deeper n zero) (shift_by n k) e)
    go false s e rest =
        let outside : among hs g ≡ false = rest (shift_head-back (deeper n zero) (renamed hs g) (shift_by n k) e) in
        let other : same_head h g ≡ false = false_from_ne_true (same_head h g) (λ q. false≢true (sym s ∙ (same_head-Decides (renamed hs g) (shift_by n h)).1 (renamed_other hs g outside ∙ ap (shift_by n) (sym ((same_head-Decides h g).0 q))))) in
        ap (λ b. b || among hs g) other ∙ outside

-- a name with one place in both lists
agree_place : (gs hs : List (Head ℕ)) (g : Head ℕ) → length gs ≡ length hs → Distinct gs → among gs g ≡ true → renamed gs g ≡ renamed hs g → among (kept (agreeing gs hs) gs) g ≡ true
agree_place [] hs g l d a e = absurd (false≢true a)
agree_place (j ∷ gs) [] g l d a e = absurd (omega (arith, l))
agree_place (j ∷ gs) (h ∷ hs) g l d a e =
    go (same_head (renamed gs g) (shift_by n j)) refl (same_head (renamed hs g) (shift_by n h)) refl
    (e ∙ ap (λ m. close_head (deeper m zero) (shift_by m h) (renamed hs g)) (sym lengths))
    (λ b q. agree_place gs hs g lengths d.2 b q)
  where
    n : ℕ
    n = length gs

    lengths : length gs ≡ length hs
    lengths = omega (arith, l)

    deep : ℕ
    deep = deeper n zero

    last : (b : Bool) → among (kept (agreeing gs hs) gs) g ≡ true → among (cond b (j ∷ kept (agreeing gs hs) gs) (kept (agreeing gs hs) gs)) g ≡ true
    last true q = among_behind (j ∷ []) (kept (agreeing gs hs) gs) g q
    last false q = q

    go : (b : Bool) → same_head (renamed gs g) (shift_by n j) ≡ b → (c : Bool) → same_head (renamed hs g) (shift_by n h) ≡ c → cond b (index deep) (shift_head deep (renamed gs g)) ≡ cond c (index deep) (shift_head deep (renamed hs g)) → (among gs g ≡ true → renamed gs g ≡ renamed hs g → among (kept (agreeing gs hs) gs) g ≡ true) → among (cond (same_head j h) (j ∷ kept (agreeing gs hs) gs) (kept (agreeing gs hs) gs)) g ≡ true
    go true s true r q rest =
        let first : renamed gs g ≡ shift_by n j = (same_head-Decides (renamed gs g) (shift_by n j)).0 s in
        let second : renamed hs g ≡ shift_by n h = (same_head-Decides (renamed hs g) (shift_by n h)).0 r in
        let not_first : among gs g ≡ false = renamed_outside gs g j first in
        let not_second : among hs g ≡ false = renamed_outside hs g h (second ∙ ap (λ m. shift_by m h) lengths) in
        let g_first : j ≡ g = elim (or_cases (same_head j g) (among gs g) a) [ inl p ↦ (same_head-Decides j g).0 p | inr p ↦ absurd (false≢true (sym not_first ∙ p)) ] in
        let g_second : g ≡ h = shift_by-back n g h (ap (λ m. shift_by m g) lengths ∙ sym (renamed_other hs g not_second) ∙ second) in
        ap (λ b. among (cond b (j ∷ kept (agreeing gs hs) gs) (kept (agreeing gs hs) gs)) g) ((same_head-Decides j h).1 (g_first ∙ g_second))
        ∙ among_front (j ∷ []) (kept (agreeing gs hs) gs) g (ap (λ b. b || false) ((same_head-Decides j g).1 g_first))
    go true s false r q rest = absurd (own_place deep (renamed hs g) q)
    go false s true r q rest = absurd (own_place deep (renamed gs g) (sym q))
    go false s false r q rest =
        let inside : among gs g ≡ true = elim (or_cases (same_head j g) (among gs g) a) [ inl p ↦ absurd (false≢true (sym s ∙ (same_head-Decides (renamed gs g) (shift_by n j)).1 (ap (renamed gs) (sym ((same_head-Decides j g).0 p)) ∙ renamed_other gs j d.0))) | inr p ↦ p ] in
        last (same_head j h) (rest inside (shift_head-back deep (renamed gs g) (renamed hs g) q))

pub stand_cases : (ms : List (Head ℕ)) (g : Head ℕ) → (among ms g ≡ true) ⊎ ((ns : List (Head ℕ)) → may_stand ns g ≡ true) → may_stand ms g ≡ true
stand_cases ms g (inl a) = among_stands ms g a
stand_cases ms g (inr f) = f ms

-- what may stand is listed, or is no name
pub listed_or : (ns : List (Head ℕ)) (g : Head ℕ) → may_stand ns g ≡ true → (among ns g ≡ true) ⊎ ((ms : List (Head ℕ)) → may_stand ms g ≡ true)
listed_or ns (constant c) e = inr (λ ms. refl)
listed_or ns (logical l) e = inr (λ ms. refl)
listed_or ns (nominal a) e = inl e
listed_or ns (variable y) e = inr (λ ms. refl)
listed_or ns (index i) e = inl e

module _ (sg : Signature) (others : List (Head ℕ)) where
  -- THE SAME VALUE WITH OTHER NAMES
  pub agreeing_only : {G : List Ty} {A : Ty} {c : List ℕ} {ts us : Terms ℕ (Unit {0})} {gs hs : List (Head ℕ)} (v : Term ℕ (Unit {0})) → IsPattern A ts gs → IsPattern A us hs → TakeType sg G ts A (kind c) → TakeType sg G us A (kind c) → length gs ≡ length hs → AreApart gs others → AreApart hs others → HasType sg [] v A → Only others v → reduce A v ts ≡ reduce A v us → Only (gs ++ others) (reduce A v ts) → Only (kept (agreeing gs hs) gs ++ others) (reduce A v ts)
  agreeing_only {G = G} {A = A} {ts = ts} {us = us} {gs = gs} {hs = hs} v p q ds es l a b d o e whole =
      let R = reduce A v ts in
      let first : abstracted tt A gs R ≡ v = ap (λ s. abstracted tt A gs (reduce A v s)) (pattern_terms p) ∙ abstracted-reduce sg others v (pattern_named sg p ds) (pattern_distinct p) (closed_typed sg G d) o a in
      let second : abstracted tt A hs R ≡ v = ap (abstracted tt A hs) e ∙ ap (λ s. abstracted tt A hs (reduce A v s)) (pattern_terms q) ∙ abstracted-reduce sg others v (pattern_named sg q es) (pattern_distinct q) (closed_typed sg G d) o b in
      let meeting : mapped (renamed gs) R ≡ mapped (renamed hs) R =
      skeleton-one tt A (length gs) (mapped (renamed gs) R) (mapped (renamed hs) R) (pattern_length p)
      (sym (abstracted-mapped tt A gs R (pattern_length p)) ∙ first ∙ sym second ∙ abstracted-mapped tt A hs R (pattern_length q) ∙ ap (λ n. skeleton tt A n (mapped (renamed hs) R)) (sym l)) in
      meet_only (renamed gs) (renamed hs) (gs ++ others) (kept (agreeing gs hs) gs ++ others)
      (λ g s r. elim (listed_or (gs ++ others) g s) [ inl t ↦ among_stands (kept (agreeing gs hs) gs ++ others) g (elim (among-append gs others g t) [ inl m ↦ among_front (kept (agreeing gs hs) gs) others g (agree_place gs hs g l (pattern_distinct p) m r) | inr m ↦ among_behind (kept (agreeing gs hs) gs) others g m ]) | inr t ↦ t (kept (agreeing gs hs) gs ++ others) ])
      R meeting whole
