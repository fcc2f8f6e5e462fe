-- What is abstracted is determined: a term given names that don't stand in it, and abstracted over them again, is the
-- term. So two that agree, given such names, are one.
use Rattle.std.proofs.Common.{◌≡◌, ℕ, zero, suc, List, [], ◌∷◌, ◌++◌, length, true, false, cond, ◌||◌, Option, Some, None, refl, sym, ◌∙◌, ap, subst, arith}
use Rattle.std.proofs.lemmas.Bool.{false≢true, false_from_ne_true}
use Rattle.ab_term.specs.Types.{Ty, kind, arity}
use Rattle.ab_term.specs.Terms.{Variable, Head, constant, logical, nominal, variable, index, Term, lam, spine, Terms, no_terms, term}
use Rattle.ab_term.specs.Typing.{Signature, head_type, HasType, TakeType, typed_lam, typed_spine, take_none, take_term}
use Rattle.ab_term.specs.Substitution.{shift_head, lower_head, put, reduce, substitute, substitute_all}
use Rattle.ab_term.specs.Expansion.{expansion}
use Rattle.ab_term.specs.Translation.{forget, EqualPastHints}
use Rattle.ab_term.specs.Variables.{put_for, put_at, image_by, image_all_by}
use Rattle.ab_term.specs.Sameness.{same_head}
use Rattle.ab_term.specs.Abstraction.{among, under, is_name, may_stand, Only, OnlyAll, Distinct, Named, named_none, named_more, close, close_all, abstracted, name_terms}
use Rattle.ab_term.proofs.Preservation.{Insert, here, there, head_type-shift, reduce_typed, substitute_typed, substitute_all_by_typed}
use Rattle.ab_term.proofs.Expansions.{shift-expansion_of, reduce-expansion_of, reduce-no_terms, expansion_typed}
use Rattle.ab_term.proofs.Shifts.{shift_head-shift_head}
use Rattle.ab_term.proofs.Closed.{closed_typed}
use Rattle.ab_term.proofs.Translations.{translate-reduce, translate_typed}
use Rattle.ab_term.proofs.Same.{same_head-Decides, head_itself}
use Rattle.ab_term.proofs.Lowering.{lower_head-some, lower_head-none}
use Rattle.ab_term.proofs.Strengthening.{front_typed}
use Rattle.ab_term.proofs.Closing.{type_at-insert, abstracted_typed, forget-abstracted}
use Rattle.ab_term.proofs.Hinted.{forget-names}
use Rattle.ab_term.proofs.Only.{among-under, Sends, include, lowers_here, substitute_by_only, reduce_only, expansion_only, only_reach, among_stands, among_behind, among_front}
use Rattle.ab_term.proofs.Abstracting.{sends_among, abstracted_only, named_length, name_terms_only, only_past_hints, forget_only}

-- none of the first stands among the second
abbrev pub AreApart : List (Head ℕ) → List (Head ℕ) → Type 0
AreApart hs ns = (h : Head ℕ) → among hs h ≡ true → among ns h ≡ false

shift_name : (k : ℕ) (h : Head ℕ) → is_name h ≡ true → is_name (shift_head k h) ≡ true
shift_name k (constant c) e = e
shift_name k (logical l) e = e
shift_name k (nominal a) e = e
shift_name k (variable y) e = e
shift_name k (index i) e = e

-- a name stands only where it is listed
pub name_among : (ns : List (Head ℕ)) (h : Head ℕ) → is_name h ≡ true → may_stand ns h ≡ true → among ns h ≡ true
name_among ns (constant c) n e = absurd (false≢true n)
name_among ns (logical l) n e = absurd (false≢true n)
name_among ns (nominal a) n e = e
name_among ns (variable y) n e = absurd (false≢true n)
name_among ns (index i) n e = e

wider : (h : Head ℕ) (ns : List (Head ℕ)) → Sends ns (h ∷ ns) (λ g. g)
wider h ns = sends_among ns (h ∷ ns) (λ g e. among_behind (h ∷ []) ns g e)

module _ (sg : Signature) where
  opened_head : (A : Ty) (k : ℕ) (h g : Head ℕ) (G H : List Ty) (D : Ty) (ts ss : Terms ℕ (Unit {0})) (c : List ℕ) → head_type sg G h ≡ Some A → Insert k A G H → head_type sg H g ≡ Some D → (g ≡ index k → TakeType sg G ss D (kind c)) → close_all k h ss ≡ ts → (g ≡ shift_head k h → ⊥)
      → close k h (put (reduce A) (expansion tt A h) (lower_head k g) ss) ≡ spine g ts
  opened_head A k h g G H D ts ss c e p f ds s other = go (lower_head k g) refl
    where
      go : (o : Option (Head ℕ)) → lower_head k g ≡ o → close k h (put (reduce A) (expansion tt A h) o ss) ≡ spine g ts
      go None q =
          let equal : g ≡ index k = lower_head-none k g q in
          let some : Some D ≡ Some A = sym f ∙ ap (head_type sg H) equal ∙ type_at-insert p in
          let same : D ≡ A = cc in
          ap (close k h) (reduce-expansion_of sg ℕ A G h no_terms ss c (subst (λ E. TakeType sg G ss E (kind c)) same (ds equal)))
          ∙ ap (λ b. spine (cond b (index k) (shift_head k h)) (close_all k h ss)) (head_itself h)
          ∙ ap (spine (index k)) s
          ∙ ap (λ j. spine j ts) (sym equal)
      go (Some j) q =
          let equal : g ≡ shift_head k j = lower_head-some k g j q in
          let not_h : same_head j h ≡ false = false_from_ne_true (same_head j h) (λ b. other (equal ∙ ap (shift_head k) ((same_head-Decides j h).0 b))) in
          ap (λ b. spine (cond b (index k) (shift_head k j)) (close_all k h ss)) not_h
          ∙ ap (spine (shift_head k j)) s
          ∙ ap (λ i. spine i ts) (sym equal)

  left_take : {A D : Ty} {k : ℕ} {G H : List Ty} (h : Head ℕ) (c : List ℕ) (ts : Terms ℕ (Unit {0})) → head_type sg G h ≡ Some A → Insert k A G H → TakeType sg H ts D (kind c) → TakeType sg G (substitute_all A (expansion tt A h) k ts) D (kind c)
  left_take {A = A} {G = G} h c ts e p ds = substitute_all_by_typed sg (reduce_typed sg A) (expansion_typed sg tt A G h e) p ds

  mutual
    -- a name that doesn't stand in the term, put in for a bound one, and bound again
    pub close-substitute : {A B : Ty} {k : ℕ} {G H : List Ty} (h : Head ℕ) (ns : List (Head ℕ)) {t : Term ℕ (Unit {0})} → is_name h ≡ true → head_type sg G h ≡ Some A → Insert k A G H → HasType sg H t B → Only ns t → among ns (shift_head k h) ≡ false → close k h (substitute A (expansion tt A h) k t) ≡ t
    close-substitute {A = A} {k = k} {G = G} h ns n e p (typed_lam {A = D} {x = y} {t = t} d) o a =
        ap (lam D y)
        (ap (λ w. close (suc k) (shift_head zero h) (substitute A w (suc k) t)) (shift-expansion_of tt A zero h no_terms)
        ∙ close-substitute (shift_head zero h) (under ns) (shift_name zero h n) (head_type-shift sg here h ∙ e) (there p) d o
        (ap (among (under ns)) (shift_head-shift_head zero k h (omega arith)) ∙ among-under ns (shift_head k h) ∙ a))
    close-substitute {A = A} {k = k} {G = G} {H = H} h ns n e p (typed_spine {A = D} {h = g} {ts = ts} {k = c} f ds) o a =
        opened_head A k h g G H D ts (substitute_all A (expansion tt A h) k ts) c e p f (λ q. left_take h c ts e p ds)
        (close_all-substitute h ns n e p ds o.1 a)
        (λ q. false≢true (sym a ∙ ap (among ns) (sym q) ∙ name_among ns g (subst (λ i. is_name i ≡ true) (sym q) (shift_name k h n)) o.0))

    close_all-substitute : {A B C : Ty} {k : ℕ} {G H : List Ty} (h : Head ℕ) (ns : List (Head ℕ)) {ts : Terms ℕ (Unit {0})} → is_name h ≡ true → head_type sg G h ≡ Some A → Insert k A G H → TakeType sg H ts B C → OnlyAll ns ts → among ns (shift_head k h) ≡ false → close_all k h (substitute_all A (expansion tt A h) k ts) ≡ ts
    close_all-substitute h ns n e p take_none o a = refl
    close_all-substitute {A = A} {k = k} h ns n e p (take_term {t = t} {ts = ts} d ds) o a =
        ap (λ s. term s (close_all k h (substitute_all A (expansion tt A h) k ts))) (close-substitute h ns n e p d o.0 a) ∙ ap (term t) (close_all-substitute h ns n e p ds o.1 a)

  not_one : (h g : Head ℕ) (hs : List (Head ℕ)) → among hs h ≡ false → among hs g ≡ true → same_head h g ≡ false
  not_one h g hs a b = false_from_ne_true (same_head h g) (λ e. false≢true (sym a ∙ ap (among hs) ((same_head-Decides h g).0 e) ∙ b))

  -- given names that don't stand in it, and abstracted over them again
  pub abstracted-reduce : {G : List Ty} {A C : Ty} {hs : List (Head ℕ)} (ns : List (Head ℕ)) (v : Term ℕ (Unit {0})) → Named sg G hs A C → Distinct hs → HasType sg G v A → Only ns v → AreApart hs ns → abstracted tt A hs (reduce A v (name_terms tt A hs)) ≡ v
  abstracted-reduce ns v (named_none {A = A}) d t o a = reduce-no_terms A v
  abstracted-reduce {G = G} ns _ (named_more {A = A} {B = B} {h = h} {hs = hs} e n) d (typed_lam {t = t} f) o a =
      let own : among ns h ≡ false = a h (among_front (h ∷ []) hs h (ap (λ b. b || false) (head_itself h))) in
      let inner : Term ℕ (Unit {0}) = substitute A (expansion tt A h) zero t in
      let standing : may_stand (h ∷ ns) h ≡ true = among_stands (h ∷ ns) h (ap (λ b. b || among ns h) (head_itself h)) in
      let inner_only : Only (h ∷ ns) inner = substitute_by_only (reduce A) (reduce_only A) zero (under ns) (h ∷ ns) (λ g j p q. wider h ns j (lowers_here ns g j p q)) (expansion tt A h) t (expansion_only tt A (h ∷ ns) h standing) o in
      let rest = abstracted-reduce (h ∷ ns) inner n d.2 (substitute_typed sg (expansion_typed sg tt A G h e) here f) inner_only
      (λ g b. ap (λ q. q || among ns g) (not_one h g hs d.0 b) ∙ a g (among_behind (h ∷ []) hs g b)) in
      ap (λ w. lam A tt (close zero h w)) rest
      ∙ ap (lam A tt) (close-substitute h (under ns) d.1 e here f o (among-under ns h ∙ own))

-- no bound name
abbrev pub NoIndex : List (Head ℕ) → Type 0
NoIndex ns = (i : ℕ) → among ns (index i) ≡ false

pub sends_deeper : (others ms : List (Head ℕ)) → NoIndex others → Sends others ms (λ g. g) → Sends others (under ms) (λ g. g)
sends_deeper others ms n s (constant c) e = refl
sends_deeper others ms n s (logical l) e = refl
sends_deeper others ms n s (nominal a) e = among-under ms (nominal a) ∙ s (nominal a) e
sends_deeper others ms n s (variable y) e = refl
sends_deeper others ms n s (index i) e = absurd (false≢true (sym (n i) ∙ e))

-- what is put in has only these free names
abbrev pub PutsOnly : List (Head ℕ) → (Variable ℕ → Option (Term ℕ (Unit {0}))) → Type 0
PutsOnly others f = (y : Variable ℕ) (u : Term ℕ (Unit {0})) → f y ≡ Some u → Only others u

module _ (others : List (Head ℕ)) (none : NoIndex others) (f : Variable ℕ → Option (Term ℕ (Unit {0}))) (has : PutsOnly others f) where
  put_for_has : (ms : List (Head ℕ)) → Sends others ms (λ g. g) → (y : Variable ℕ) (o : Option (Term ℕ (Unit {0}))) → f y ≡ o → (ts : Terms ℕ (Unit {0})) → OnlyAll ms ts → Only ms (put_for y o ts)
  put_for_has ms s y None e ts os = (refl, os)
  put_for_has ms s y (Some u) e ts os = reduce_only y.type ms u ts (include others ms s u (has y u e)) os

  put_at_has : (ms : List (Head ℕ)) → Sends others ms (λ g. g) → (h : Head ℕ) (ts : Terms ℕ (Unit {0})) → may_stand ms h ≡ true → OnlyAll ms ts → Only ms (put_at f h ts)
  put_at_has ms s (constant c) ts e os = (e, os)
  put_at_has ms s (logical l) ts e os = (e, os)
  put_at_has ms s (nominal a) ts e os = (e, os)
  put_at_has ms s (variable y) ts e os = put_for_has ms s y (f y) refl ts os
  put_at_has ms s (index i) ts e os = (e, os)

  mutual
    pub image_has : (ms : List (Head ℕ)) → Sends others ms (λ g. g) → (t : Term ℕ (Unit {0})) → Only ms t → Only ms (image_by f t)
    image_has ms s (lam A x t) o = image_has (under ms) (sends_deeper others ms none s) t o
    image_has ms s (spine h ts) o = put_at_has ms s h (image_all_by f ts) o.0 (image_all_has ms s ts o.1)

    image_all_has : (ms : List (Head ℕ)) → Sends others ms (λ g. g) → (ts : Terms ℕ (Unit {0})) → OnlyAll ms ts → OnlyAll ms (image_all_by f ts)
    image_all_has ms s no_terms o = tt
    image_all_has ms s (term t ts) o = (image_has ms s t o.0, image_all_has ms s ts o.1)

module _ (sg : Signature) (others : List (Head ℕ)) (none : NoIndex others) where
  -- a term over names and others, abstracted over the names
  pub closed_value : {G : List Ty} {A : Ty} {c : List ℕ} (hs : List (Head ℕ)) (t : Term ℕ (Unit {0})) → Named sg G hs A (kind c) → HasType sg G t (kind c) → Only (hs ++ others) t → HasType sg [] (abstracted tt A hs t) A × Only others (abstracted tt A hs t)
  closed_value {G = G} {A = A} {c = c} hs t n d o =
      let long : length hs ≡ arity A = named_length c n in
      let clean : Only others (abstracted tt A hs t) = abstracted_only tt A hs others t (omega (arith, long)) o in
      let short = only_reach 0 others (λ i e. absurd (false≢true (sym (none i) ∙ e))) (abstracted tt A hs t) clean in
      (front_typed sg [] G (abstracted tt A hs t) short (abstracted_typed sg tt n d), clean)

module _ (sg : Signature) (others : List (Head ℕ)) where
  -- two values that agree, given the names
  pub one_value : {G : List Ty} {A C : Ty} {hs : List (Head ℕ)} (v w : Term ℕ (Unit {0})) → Named sg G hs A C → Distinct hs → AreApart hs others → HasType sg [] v A → Only others v → HasType sg [] w A → Only others w → reduce A v (name_terms tt A hs) ≡ reduce A w (name_terms tt A hs) → v ≡ w
  one_value {G = G} {A = A} {hs = hs} v w named d a dv ov dw ow e =
      sym (abstracted-reduce sg others v named d (closed_typed sg G dv) ov a)
      ∙ ap (abstracted tt A hs) e
      ∙ abstracted-reduce sg others w named d (closed_typed sg G dw) ow a

module _ (sg : Signature) {Hint : Type 0} (x : Hint) where
  -- the one closed term without names that is t, given the names
  pub inverse_unique : {G : List Ty} {A C : Ty} {hs : List (Head ℕ)} (v t : Term ℕ Hint) → Named sg G hs A C → Distinct hs → HasType sg [] v A → Only [] v → EqualPastHints (reduce A v (name_terms x A hs)) t → EqualPastHints v (abstracted x A hs t)
  inverse_unique {G = G} {A = A} {hs = hs} v t n d dv ov e =
      sym (abstracted-reduce sg [] (forget v) n d (translate_typed sg (λ v. v) (λ y. tt) (closed_typed sg G dv)) (forget_only [] v ov) (λ h m. refl))
      ∙ ap (abstracted tt A hs)
      (ap (reduce A (forget v)) (sym (forget-names x A hs)) ∙ sym (translate-reduce (λ v. v) (λ y. tt) A v (name_terms x A hs)) ∙ e)
      ∙ sym (forget-abstracted x A hs t)

module _ {Hint : Type 0} (x : Hint) where
  -- there is one only where no foreign name stands in t
  pub inverse_only : (A : Ty) (hs : List (Head ℕ)) (v t : Term ℕ Hint) → Only [] v → EqualPastHints (reduce A v (name_terms x A hs)) t → Only hs t
  inverse_only A hs v t ov e =
      only_past_hints hs (reduce A v (name_terms x A hs)) t e
      (reduce_only A hs v (name_terms x A hs) (include [] hs (sends_among [] hs (λ g m. absurd (false≢true m))) v ov) (name_terms_only x A hs hs (λ g m. m)))
