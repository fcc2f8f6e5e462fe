-- A problem as it is given: its unifiers, and the answer.
use Rattle.std.proofs.Common.{◌≡◌, ℕ, zero, suc, ◌<◌, ◌⊎◌, inl, inr, List, [], ◌∷◌, ◌++◌, map, length, Bool, true, false, cond, ◌||◌, Option, Some, None, option_map, refl, sym, ◌∙◌, ap, subst, arith}
use Rattle.std.specs.Prelude.{All, Contains}
use Rattle.std.proofs.lemmas.Bool.{false≢true, or_cases, false_from_ne_true}
use Rattle.std.proofs.lemmas.List.Elements.{All-cons, All-nil, All-head, All-tail, All-weaker}
use Rattle.ab_term.specs.Types.{Ty, kind}
use Rattle.ab_term.specs.Terms.{Nominal, Variable, Head, constant, logical, nominal, variable, index, Term, lam, spine, Terms, no_terms, term}
use Rattle.ab_term.specs.Typing.{Signature, head_type, HasType, TakeType, typed_lam, typed_spine, take_none, take_term}
use Rattle.ab_term.specs.Expansion.{expansion}
use Rattle.ab_term.specs.Names.{support_of_head, support, support_of_all}
use Rattle.ab_term.specs.Translation.{translate_head, translate, translate_all, forget, forget_all}
use Rattle.ab_term.specs.Variables.{variables, put_for, put_at, image_by, image_all_by, Substitution, value_in, image, IsTyped, IsClean}
use Rattle.ab_term.specs.Sameness.{same_numbered, same_head, same_number}
use Rattle.ab_term.specs.Abstraction.{among, under, may_stand, Only, OnlyAll}
use Rattle.ab_term.proofs.Comparisons.{same_nominal-Decides}
use Rattle.ab_term.proofs.Closed.{type_at-below}
use Rattle.ab_term.proofs.Lists.{Contains-here, Contains-there}
use Rattle.ab_term.proofs.Expansions.{expansion_typed, reduce-expansion_of}
use Rattle.ab_term.proofs.Translations.{map-append, translate_typed}
use Rattle.ab_term.proofs.Images.{IsTypedMap, image_all_by_typed}
use Rattle.ab_term.proofs.Compositions.{map_typed, image-composition}
use Rattle.ab_term.proofs.Same.{same_numbered-Decides, same_head-Decides}
use Rattle.ab_term.proofs.Forgetting.{forget_head}
use Rattle.ab_term.proofs.Only.{among-under, innermost_stands, expansion_only, among-append, among_front, among_behind}
use Rattle.ab_term.proofs.Determined.{NoIndex}
use Rattle.ab_term.proofs.Abstracting.{forget_only}
use Rattle.ab_unifiers.specs.Replacements.{Cell, holds}
use Rattle.ab_unifiers.specs.Unification.{Equation, unified, apart, Solves}
use Rattle.ab_unifiers.specs.Unifiers.{AreTyped, AreKnown, Unifies, given, keys, IsOver, AreOver, sides, IsUnifier, IsInstance}
use Rattle.ab_unifiers.proofs.Avoiding.{avoids_if}
use Rattle.ab_unifiers.proofs.Problems.{problem, answer_typed}
use Rattle.ab_unifiers.proofs.Following.{Put, Fits, follows_none, follows_on, plain, image_plain, plain_typed, Known}
use Rattle.ab_unifiers.proofs.General.{AllScoped, AllAlike}
use Rattle.ab_unifiers.proofs.Most.{Run, most}

-- nominal constants as names
abbrev heads : List Nominal → List (Head ℕ)
heads = map nominal

no_index_heads : (ns : List Nominal) (i : ℕ) → among (heads ns) (index i) ≡ false
no_index_heads [] i = refl
no_index_heads (a ∷ ns) i = no_index_heads ns i

listed : (P : Nominal → Type 0) (ns : List Nominal) → All P ns → (a : Nominal) → among (heads ns) (nominal a) ≡ true → P a
listed P [] all a e = absurd (false≢true e)
listed P (b ∷ ns) all a e = elim (or_cases (same_head (nominal b) (nominal a)) (among (heads ns) (nominal a)) e) [ inl s ↦ (let equal : b ≡ a = (same_nominal-Decides b a).0 s in subst P equal (All-head P b ns all)) | inr m ↦ listed P ns (All-tail P b ns all) a m ]

contained : (ns : List Nominal) (a : Nominal) → among (heads ns) (nominal a) ≡ true → Contains ns a
contained [] a e = absurd (false≢true e)
contained (b ∷ ns) a e = elim (or_cases (same_head (nominal b) (nominal a)) (among (heads ns) (nominal a)) e) [ inl s ↦ (let equal : b ≡ a = (same_nominal-Decides b a).0 s in subst (λ c. Contains (b ∷ ns) c) equal (Contains-here b ns)) | inr m ↦ Contains-there b ns a (contained ns a m) ]

front_name : (ns ms : List Nominal) (a : Nominal) → among (heads ns) (nominal a) ≡ true → among (heads (ns ++ ms)) (nominal a) ≡ true
front_name ns ms a e = ap (λ l. among l (nominal a)) (map-append nominal ns ms) ∙ among_front (heads ns) (heads ms) (nominal a) e

behind_name : (ns ms : List Nominal) (a : Nominal) → among (heads ms) (nominal a) ≡ true → among (heads (ns ++ ms)) (nominal a) ≡ true
behind_name ns ms a e = ap (λ l. among l (nominal a)) (map-append nominal ns ms) ∙ among_behind (heads ns) (heads ms) (nominal a) e

own_name : (a : Nominal) → among (heads (a ∷ [])) (nominal a) ≡ true
own_name a = ap (λ b. b || false) ((same_head-Decides (nominal a) (nominal a)).1 refl)

deeper_index : (ms : List (Head ℕ)) (n : ℕ) → ((i : ℕ) → i < n → among ms (index i) ≡ true) → (i : ℕ) → i < suc n → among (under ms) (index i) ≡ true
deeper_index ms n f zero l = innermost_stands ms
deeper_index ms n f (suc i) l = among-under ms (index i) ∙ f i (omega (arith, l))

module _ (sg : Signature) where
  stands : (ms : List (Head ℕ)) (G : List Ty) (h : Head ℕ) (D : Ty) → head_type sg G h ≡ Some D → ((i : ℕ) → i < length G → among ms (index i) ≡ true) → ((a : Nominal) → among (heads (support_of_head h)) (nominal a) ≡ true → among ms (nominal a) ≡ true) → may_stand ms h ≡ true
  stands ms G (constant c) D e f g = refl
  stands ms G (logical l) D e f g = refl
  stands ms G (nominal a) D e f g = g a (own_name a)
  stands ms G (variable y) D e f g = refl
  stands ms G (index i) D e f g = f i (type_at-below G i D e)

module _ (sg : Signature) {Hint : Type 0} where
  mutual
    support_only : (ms : List (Head ℕ)) (G : List Ty) {A : Ty} (t : Term ℕ Hint) → HasType sg G t A → ((i : ℕ) → i < length G → among ms (index i) ≡ true) → ((a : Nominal) → among (heads (support t)) (nominal a) ≡ true → among ms (nominal a) ≡ true) → Only ms t
    support_only ms G (lam B x t) (typed_lam d) f g = support_only (under ms) (B ∷ G) t d (deeper_index ms (length G) f) (λ a e. among-under ms (nominal a) ∙ g a e)
    support_only ms G (spine h ts) (typed_spine {A = D} e ds) f g =
        (stands sg ms G h D e f (λ a m. g a (front_name (support_of_head h) (support_of_all ts) a m)), support_all_only ms G ts ds f (λ a m. g a (behind_name (support_of_head h) (support_of_all ts) a m)))

    support_all_only : (ms : List (Head ℕ)) (G : List Ty) {A B : Ty} (ts : Terms ℕ Hint) → TakeType sg G ts A B → ((i : ℕ) → i < length G → among ms (index i) ≡ true) → ((a : Nominal) → among (heads (support_of_all ts)) (nominal a) ≡ true → among ms (nominal a) ≡ true) → OnlyAll ms ts
    support_all_only ms G no_terms take_none f g = tt
    support_all_only ms G (term t ts) (take_term d ds) f g =
        (support_only ms G t d f (λ a m. g a (front_name (support t) (support_of_all ts) a m)), support_all_only ms G ts ds f (λ a m. g a (behind_name (support t) (support_of_all ts) a m)))

-- the bound names of a context
abbrev indices : ℕ → List (Head ℕ)
indices zero = []
indices (suc n) = under (indices n)

has_index : (n i : ℕ) → i < n → among (indices n) (index i) ≡ true
has_index zero i l = absurd (omega (arith, l))
has_index (suc n) zero l = innermost_stands (indices n)
has_index (suc n) (suc i) l = among-under (indices n) (index i) ∙ has_index n i (omega (arith, l))

no_nominal : (n : ℕ) (a : Nominal) → among (indices n) (nominal a) ≡ false
no_nominal zero a = refl
no_nominal (suc n) a = among-under (indices n) (nominal a) ∙ no_nominal n a

module _ {Hint : Type 0} where
  -- the nominal constants of what is put in
  abbrev names_of : Substitution ℕ Hint → List (Head ℕ)
  names_of [] = []
  names_of (p ∷ u) = heads (support p.1) ++ names_of u

  no_index : (u : Substitution ℕ Hint) → NoIndex (names_of u)
  no_index [] i = refl
  no_index (p ∷ u) i = false_from_ne_true (among (heads (support p.1) ++ names_of u) (index i)) (λ e. elim (among-append (heads (support p.1)) (names_of u) (index i) e) [ inl a ↦ false≢true (sym (no_index_heads (support p.1) i) ∙ a) | inr a ↦ false≢true (sym (no_index u i) ∙ a) ])

  value_names : (u : Substitution ℕ Hint) (y : Variable ℕ) (v : Term ℕ Hint) → value_in same_number u y ≡ Some v → (a : Nominal) → among (heads (support v)) (nominal a) ≡ true → among (names_of u) (nominal a) ≡ true
  value_names [] y v e a m = absurd (cc)
  value_names (p ∷ u) y v e a m = go (same_numbered p.0 y) e (value_names u y v)
    where
      go : (b : Bool) → cond b (Some p.1) (value_in same_number u y) ≡ Some v → (value_in same_number u y ≡ Some v → (a : Nominal) → among (heads (support v)) (nominal a) ≡ true → among (names_of u) (nominal a) ≡ true) → among (heads (support p.1) ++ names_of u) (nominal a) ≡ true
      go true f rest = let equal : p.1 ≡ v = cc in among_front (heads (support p.1)) (names_of u) (nominal a) (ap (λ t. among (heads (support t)) (nominal a)) equal ∙ m)
      go false f rest = among_behind (heads (support p.1)) (names_of u) (nominal a) (rest f a m)

  clean_first : (u : Substitution ℕ Hint) (t : Term ℕ Hint) (ts : List (Term ℕ Hint)) → IsClean u (t ∷ ts) → (a : Nominal) → among (names_of u) (nominal a) ≡ true → among (heads (support t)) (nominal a) ≡ true → ⊥
  clean_first [] t ts c a m k = false≢true m
  clean_first (p ∷ u) t ts c a m k =
      let P : Variable ℕ × Term ℕ Hint → Type 0 = λ p. All (λ t. All (λ a. ¬ (Contains (support t) a)) (support p.1)) (t ∷ ts) in
      elim (among-append (heads (support p.1)) (names_of u) (nominal a) m) [
        | inl i ↦ listed (λ a. ¬ (Contains (support t) a)) (support p.1) (All-head (λ t. All (λ a. ¬ (Contains (support t) a)) (support p.1)) t ts (All-head P p u c)) a i (contained (support t) a k)
        | inr i ↦ clean_first u t ts (All-tail P p u c) a i k
      ]

  clean_rest : (u : Substitution ℕ Hint) (t : Term ℕ Hint) (ts : List (Term ℕ Hint)) → IsClean u (t ∷ ts) → IsClean u ts
  clean_rest u t ts c = All-weaker (λ p. All (λ t. All (λ a. ¬ (Contains (support t) a)) (support p.1)) (t ∷ ts)) (λ p. All (λ t. All (λ a. ¬ (Contains (support t) a)) (support p.1)) ts) (λ p d. All-tail (λ t. All (λ a. ¬ (Contains (support t) a)) (support p.1)) t ts d) u c

  over_known : (cells : List (Cell Hint)) (t : Term ℕ Hint) → IsOver cells t → Known (length cells) t
  over_known cells t o y l = avoids_if y t (false_from_ne_true (holds (variables t) y) (λ e. let low = o y e in absurd (omega (arith, l, low))))

module _ (sg : Signature) {Hint : Type 0} (cells : List (Cell Hint)) (u : Substitution ℕ Hint) where
  all_scoped : (es : List (Equation Hint)) → AreTyped sg es → AreOver cells es → IsClean u (sides es) → AllScoped (names_of u) (length cells) es
  all_scoped [] d o c = tt
  all_scoped (e ∷ es) d o c =
      let n = length d.0.0 in
      let ls = heads (support e.left) in
      let rs = heads (support e.right) in
      let later = clean_rest u e.left (e.right ∷ sides es) c in (
        record {
          names = indices n ++ (ls ++ rs);
          scope = λ a m. false_from_ne_true (among (names_of u) (nominal a)) (λ k. elim (among-append (indices n) (ls ++ rs) (nominal a) m) [ inl i ↦ false≢true (sym (no_nominal n a) ∙ i) | inr i ↦ (elim (among-append ls rs (nominal a) i) [ inl j ↦ clean_first u e.left (e.right ∷ sides es) c a k j | inr j ↦ clean_first u e.right (sides es) later a k j ]) ]);
          left = support_only sg (indices n ++ (ls ++ rs)) d.0.0 e.left d.0.2 (λ i l. among_front (indices n) (ls ++ rs) (index i) (has_index n i l)) (λ a m. among_behind (indices n) (ls ++ rs) (nominal a) (among_front ls rs (nominal a) m));
          right = support_only sg (indices n ++ (ls ++ rs)) d.0.0 e.right d.0.3 (λ i l. among_front (indices n) (ls ++ rs) (index i) (has_index n i l)) (λ a m. among_behind (indices n) (ls ++ rs) (nominal a) (among_behind ls rs (nominal a) m));
          left_known = over_known cells e.left o.0;
          right_known = over_known cells e.right o.1;
        },
        all_scoped es d.1 o.2 (clean_rest u e.right (sides es) later),
      )

-- a hint for each binder
module _ {Hint : Type 0} (x : Hint) where
  abbrev dress : Term ℕ (Unit {0}) → Term ℕ Hint
  dress = translate (λ v. v) (λ y. x)

  mutual
    forget-dress : (t : Term ℕ (Unit {0})) → forget (dress t) ≡ t
    forget-dress (lam A y t) = ap (lam A tt) (forget-dress t)
    forget-dress (spine h ts) = ap (λ g. spine g (forget_all (translate_all (λ v. v) (λ y. x) ts))) (forget_head (translate_head (λ v. v) h) ∙ forget_head h) ∙ ap (spine h) (forget_all-dress ts)

    forget_all-dress : (ts : Terms ℕ (Unit {0})) → forget_all (translate_all (λ v. v) (λ y. x) ts) ≡ ts
    forget_all-dress no_terms = refl
    forget_all-dress (term t ts) = ap (λ s. term s (forget_all (translate_all (λ v. v) (λ y. x) ts))) (forget-dress t) ∙ ap (term t) (forget_all-dress ts)

  abbrev or_own : Variable ℕ → Option (Term ℕ (Unit {0})) → Term ℕ (Unit {0})
  or_own y None = expansion tt y.type (variable y)
  or_own y (Some v) = v

  -- a map on listed variables, as pairs
  abbrev written : List (Variable ℕ) → Put → Substitution ℕ Hint
  written [] f = []
  written (z ∷ zs) f = (z, dress (or_own z (f z))) ∷ written zs f

  written_value : (zs : List (Variable ℕ)) (f : Put) (y : Variable ℕ) → plain (written zs f) y ≡ cond (holds zs y) (Some (or_own y (f y))) None
  written_value [] f y = refl
  written_value (z ∷ zs) f y = go (same_numbered z y) refl (written_value zs f y)
    where
      go : (b : Bool) → same_numbered z y ≡ b → plain (written zs f) y ≡ cond (holds zs y) (Some (or_own y (f y))) None → option_map forget (cond b (Some (dress (or_own z (f z)))) (value_in same_number (written zs f) y)) ≡ cond (b || holds zs y) (Some (or_own y (f y))) None
      go true s rest = ap Some (forget-dress (or_own z (f z)) ∙ ap (λ v. or_own v (f v)) ((same_numbered-Decides z y).0 s))
      go false s rest = rest

  module _ (sg : Signature) where
    or_own_typed : (f : Put) → IsTypedMap sg f → (y : Variable ℕ) → HasType sg [] (or_own y (f y)) y.type
    or_own_typed f typed y = go (f y) refl
      where
        go : (o : Option (Term ℕ (Unit {0}))) → f y ≡ o → HasType sg [] (or_own y o) y.type
        go None e = expansion_typed sg tt y.type [] (variable y) refl
        go (Some v) e = typed y v e

    written_typed : (zs : List (Variable ℕ)) (f : Put) → IsTypedMap sg f → IsTyped sg (written zs f)
    written_typed [] f typed = All-nil (λ p. HasType sg [] p.1 p.0.type)
    written_typed (z ∷ zs) f typed = All-cons (λ p. HasType sg [] p.1 p.0.type) (z, dress (or_own z (f z))) (written zs f) (translate_typed sg (λ v. v) (λ y. x) (or_own_typed f typed z)) (written_typed zs f typed)

    -- as it was
    written_is : (others : List (Head ℕ)) (zs : List (Variable ℕ)) (f : Put) → Fits sg others zs f → (y : Variable ℕ) → plain (written zs f) y ≡ f y
    written_is others zs f fits y = written_value zs f y ∙ go (holds zs y) refl
      where
        go : (b : Bool) → holds zs y ≡ b → cond b (Some (or_own y (f y))) None ≡ f y
        go true h = let own = fits.some y h in ap (λ o. Some (or_own y o)) own.1 ∙ sym own.1
        go false h = sym (fits.none y h)

    -- the same_numbered on terms, where a variable's own form is put in for it
    module _ (f g : Put) (g_typed : IsTypedMap sg g) (alike : (y : Variable ℕ) → (f y ≡ g y) ⊎ ((f y ≡ Some (expansion tt y.type (variable y))) × (g y ≡ None))) where
      own_head : (G : List Ty) (h : Head ℕ) (D : Ty) (ts ss : Terms ℕ (Unit {0})) (c : List ℕ) → head_type sg G h ≡ Some D → TakeType sg G ss D (kind c) → ts ≡ ss → put_at f h ts ≡ put_at g h ss
      own_head G (constant b) D ts ss c e ds q = ap (spine (constant b)) q
      own_head G (logical b) D ts ss c e ds q = ap (spine (logical b)) q
      own_head G (nominal b) D ts ss c e ds q = ap (spine (nominal b)) q
      own_head G (index b) D ts ss c e ds q = ap (spine (index b)) q
      own_head G (variable y) D ts ss c e ds q =
          let equal : D ≡ y.type = cc in
          elim (alike y) [
            | inl a ↦ ap (put_for y (f y)) q ∙ ap (λ o. put_for y o ss) a
            | inr a ↦ ap (put_for y (f y)) q ∙ ap (λ o. put_for y o ss) a.0 ∙ reduce-expansion_of sg ℕ y.type G (variable y) no_terms ss c (subst (λ E. TakeType sg G ss E (kind c)) equal ds) ∙ sym (ap (λ o. put_for y o ss) a.1)
          ]

      mutual
        own_same : {G : List Ty} {A : Ty} (t : Term ℕ (Unit {0})) → HasType sg G t A → image_by f t ≡ image_by g t
        own_same (lam B y t) (typed_lam d) = ap (lam B y) (own_same t d)
        own_same {G = G} (spine h ts) (typed_spine {A = D} {k = c} e ds) = own_head G h D (image_all_by f ts) (image_all_by g ts) c e (image_all_by_typed sg ℕ (Unit {0}) g g_typed ds) (all_own_same ts ds)

        all_own_same : {G : List Ty} {A B : Ty} (ts : Terms ℕ (Unit {0})) → TakeType sg G ts A B → image_all_by f ts ≡ image_all_by g ts
        all_own_same no_terms take_none = refl
        all_own_same (term t ts) (take_term d ds) = ap (λ s. term s (image_all_by f ts)) (own_same t d) ∙ ap (term (image_by g t)) (all_own_same ts ds)

module _ (sg : Signature) {Hint : Type 0} (x : Hint) (es : List (Equation Hint)) (cells : List (Cell Hint)) (ys : List (Variable ℕ)) (typed : AreTyped sg es) (known : AreKnown cells ys) (over : AreOver cells es) (u : Substitution ℕ Hint) (unifier : IsUnifier sg ys es u) where
  -- the unifier on all flexible variables
  abbrev whole : Put
  whole y = cond (holds ys y) (Some (or_own x y (plain u y))) None

  whole_alike : (y : Variable ℕ) → (whole y ≡ plain u y) ⊎ ((whole y ≡ Some (expansion tt y.type (variable y))) × (plain u y ≡ None))
  whole_alike y = go (holds ys y) refl (value_in same_number u y) refl
    where
      held : (s : Substitution ℕ Hint) (v : Term ℕ Hint) → value_in same_number s y ≡ Some v → holds (keys s) y ≡ true
      held [] v e = absurd (cc)
      held (p ∷ s) v e = step (same_numbered p.0 y) e (held s v)
        where
          step : (b : Bool) → cond b (Some p.1) (value_in same_number s y) ≡ Some v → (value_in same_number s y ≡ Some v → holds (keys s) y ≡ true) → (b || holds (keys s) y) ≡ true
          step true e rest = refl
          step false e rest = rest e

      go : (b : Bool) → holds ys y ≡ b → (o : Option (Term ℕ Hint)) → value_in same_number u y ≡ o → (cond b (Some (or_own x y (option_map forget o))) None ≡ option_map forget o) ⊎ ((cond b (Some (or_own x y (option_map forget o))) None ≡ Some (expansion tt y.type (variable y))) × (option_map forget o ≡ None))
      go true h None e = inr (refl, refl)
      go true h (Some v) e = inl refl
      go false h None e = inl refl
      go false h (Some v) e = absurd (false≢true (sym h ∙ unifier.within y (held u v e)))

  value_only : (y : Variable ℕ) (o : Option (Term ℕ Hint)) → value_in same_number u y ≡ o → Only (names_of u) (or_own x y (option_map forget o))
  value_only y None e = expansion_only tt y.type (names_of u) (variable y) refl
  value_only y (Some v) e = forget_only (names_of u) v (support_only sg (names_of u) [] v (map_typed sg same_number u unifier.typed y v e) (λ i l. absurd (omega (arith, l))) (value_names u y v e))

  whole_fits : Fits sg (names_of u) ys whole
  whole_fits = record {
    typed = λ y v e. at_typed y v (holds ys y) e;
    has = λ y v e. at_only y v (holds ys y) e;
    some = λ y h. (or_own x y (plain u y), ap (λ b. cond b (Some (or_own x y (plain u y))) None) h);
    none = λ y h. ap (λ b. cond b (Some (or_own x y (plain u y))) None) h;
  }
    where
      at_typed : (y : Variable ℕ) (v : Term ℕ (Unit {0})) (b : Bool) → cond b (Some (or_own x y (plain u y))) None ≡ Some v → HasType sg [] v y.type
      at_typed y v true e = let equal : or_own x y (plain u y) ≡ v = cc in subst (λ t. HasType sg [] t y.type) equal (or_own_typed x sg (plain u) (plain_typed sg u unifier.typed) y)
      at_typed y v false e = absurd (cc)

      at_only : (y : Variable ℕ) (v : Term ℕ (Unit {0})) (b : Bool) → cond b (Some (or_own x y (plain u y))) None ≡ Some v → Only (names_of u) v
      at_only y v true e = let equal : or_own x y (plain u y) ≡ v = cc in subst (Only (names_of u)) equal (value_only y (value_in same_number u y) refl)
      at_only y v false e = absurd (cc)

  whole_image : {G : List Ty} {A : Ty} (t : Term ℕ Hint) → HasType sg G t A → image_by whole (forget t) ≡ forget (image same_number u t)
  whole_image t d = own_same x sg whole (plain u) (plain_typed sg u unifier.typed) whole_alike (forget t) (translate_typed sg (λ v. v) (λ y. tt) d) ∙ sym (image_plain u t)

  all_alike : (fs : List (Equation Hint)) → AreTyped sg fs → Unifies u fs → AllAlike whole fs
  all_alike [] d s = tt
  all_alike (e ∷ fs) d s = (whole_image e.left d.0.2 ∙ s.0 ∙ sym (whole_image e.right d.0.3), all_alike fs d.1 s.1)

  start : Run sg (names_of u) (no_index u) x (length cells) whole (given es cells ys)
  start = record {
    problem = problem sg x es cells ys typed known;
    scoped = all_scoped sg cells u es typed over unifier.clean;
    follows = follows_none sg (names_of u) (length cells) ys whole whole_fits;
    alike = all_alike es typed unifier.unifies;
    values_known = λ y l v t e. absurd (let there : None ≡ Some t = e in cc);
    longer = omega arith;
  }

  -- APART: there is no unifier
  pub apart_none : Solves x (given es cells ys) apart → ⊥
  apart_none p = most sg (names_of u) (no_index u) x (length cells) whole (given es cells ys) apart start p

  -- UNIFIED: the unifier is the answer and then another
  pub most_general : (more : List (Cell Hint)) (s : Substitution ℕ Hint) → Solves x (given es cells ys) (unified more s) → IsInstance sg cells s u
  most_general more s p =
      let m = most sg (names_of u) (no_index u) x (length cells) whole (given es cells ys) (unified more s) start p in
      let f = m.1.next in
      let r : Substitution ℕ Hint = written x m.0 f in
      let r_typed = written_typed x sg m.0 f m.1.fits.typed in
      let s_typed = answer_typed sg x es cells ys typed known more s p in
      let is : plain r ≡ f = λ i y. written_is x sg (names_of u) m.0 f m.1.fits y i in (
        r,
        r_typed,
        λ names t A d o.
            sym (whole_image t d)
            ∙ sym (follows_on sg (names_of u) s_typed m.1 d (over_known cells t o))
            ∙ sym (ap (λ g. image_by g (forget (image same_number s t))) is)
            ∙ sym (image_plain r (image same_number s t))
            ∙ sym (ap forget (image-composition sg same_number s s_typed r r_typed d)),
      )
