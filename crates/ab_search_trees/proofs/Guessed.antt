-- A guess of terms without nominal constants, against the answer: the guess is the answer and then another such guess.
use Rattle.std.proofs.Common.{◌≡◌, ℕ, zero, suc, ◌<◌, inl, inr, List, [], ◌∷◌, ◌++◌, map, length, true, false, ◌||◌, Some, None, refl, ◌∙◌, ap, subst, arith}
use Rattle.std.specs.Prelude.{All, Contains}
use Rattle.std.proofs.lemmas.Bool.{false≢true, or_cases, false_from_ne_true}
use Rattle.std.proofs.lemmas.List.Elements.{All-head, All-tail}
use Rattle.ab_term.specs.Types.{Ty}
use Rattle.ab_term.specs.Terms.{Nominal, Variable, Head, constant, logical, nominal, variable, index, Term, lam, spine, Terms, no_terms, term}
use Rattle.ab_term.specs.Typing.{Signature, head_type, HasType, TakeType, typed_lam, typed_spine, take_none, take_term}
use Rattle.ab_term.specs.Names.{support_of_head, support, support_of_all}
use Rattle.ab_term.specs.Variables.{variables}
use Rattle.ab_term.specs.Sameness.{same_head}
use Rattle.ab_term.specs.Abstraction.{among, under, may_stand, Only, OnlyAll}
use Rattle.ab_term.proofs.Comparisons.{same_nominal-Decides}
use Rattle.ab_term.proofs.Closed.{type_at-below}
use Rattle.ab_term.proofs.Lists.{Contains-here, Contains-there}
use Rattle.ab_term.proofs.Translations.{map-append}
use Rattle.ab_term.proofs.Same.{same_head-Decides}
use Rattle.ab_term.proofs.Only.{among-under, innermost_stands, among_front, among_behind}
use Rattle.ab_term.proofs.Determined.{NoIndex}
use Rattle.ab_unifiers.specs.Replacements.{Cell, holds}
use Rattle.ab_unifiers.specs.Unification.{Equation, Solves, Answer}
use Rattle.ab_unifiers.specs.Unifiers.{AreTyped, AreKnown, given, IsOver, AreOver}
use Rattle.ab_unifiers.proofs.Avoiding.{avoids_if}
use Rattle.ab_unifiers.proofs.Most.{Most, Run, most}
use Rattle.ab_unifiers.proofs.Problems.{problem}
use Rattle.ab_unifiers.proofs.Following.{Put, Fits, follows_none, Known}
use Rattle.ab_unifiers.proofs.General.{AllScoped, AllAlike}

-- nominal constants as names
abbrev pub heads : List Nominal → List (Head ℕ)
heads = map nominal

no_index_heads : (ns : List Nominal) (i : ℕ) → among (heads ns) (index i) ≡ false
no_index_heads [] i = refl
no_index_heads (a ∷ ns) i = no_index_heads ns i

listed : (P : Nominal → Type 0) (ns : List Nominal) → All P ns → (a : Nominal) → among (heads ns) (nominal a) ≡ true → P a
listed P [] all a e = absurd (false≢true e)
listed P (b ∷ ns) all a e = elim (or_cases (same_head (nominal b) (nominal a)) (among (heads ns) (nominal a)) e) [ inl s ↦ (let equal : b ≡ a = (same_nominal-Decides b a).0 s in subst P equal (All-head P b ns all)) | inr m ↦ listed P ns (All-tail P b ns all) a m ]

pub contained : (ns : List Nominal) (a : Nominal) → among (heads ns) (nominal a) ≡ true → Contains ns a
contained [] a e = absurd (false≢true e)
contained (b ∷ ns) a e = elim (or_cases (same_head (nominal b) (nominal a)) (among (heads ns) (nominal a)) e) [ inl s ↦ (let equal : b ≡ a = (same_nominal-Decides b a).0 s in subst (λ c. Contains (b ∷ ns) c) equal (Contains-here b ns)) | inr m ↦ Contains-there b ns a (contained ns a m) ]

front_name : (ns ms : List Nominal) (a : Nominal) → among (heads ns) (nominal a) ≡ true → among (heads (ns ++ ms)) (nominal a) ≡ true
front_name ns ms a e = ap (λ l. among l (nominal a)) (map-append nominal ns ms) ∙ among_front (heads ns) (heads ms) (nominal a) e

behind_name : (ns ms : List Nominal) (a : Nominal) → among (heads ms) (nominal a) ≡ true → among (heads (ns ++ ms)) (nominal a) ≡ true
behind_name ns ms a e = ap (λ l. among l (nominal a)) (map-append nominal ns ms) ∙ among_behind (heads ns) (heads ms) (nominal a) e

own_name : (a : Nominal) → among (heads (a ∷ [])) (nominal a) ≡ true
own_name a = ap (λ b. b || false) ((same_head-Decides (nominal a) (nominal a)).1 refl)

deeper_index : (ms : List (Head ℕ)) (n : ℕ) → ((i : ℕ) → i < n → among ms (index i) ≡ true) → (i : ℕ) → i < suc n → among (under ms) (index i) ≡ true
deeper_index ms n f zero l = innermost_stands ms
deeper_index ms n f (suc i) l = among-under ms (index i) ∙ f i (omega (arith, l))

module _ (sg : Signature) where
  stands : (ms : List (Head ℕ)) (G : List Ty) (h : Head ℕ) (D : Ty) → head_type sg G h ≡ Some D → ((i : ℕ) → i < length G → among ms (index i) ≡ true) → ((a : Nominal) → among (heads (support_of_head h)) (nominal a) ≡ true → among ms (nominal a) ≡ true) → may_stand ms h ≡ true
  stands ms G (constant c) D e f g = refl
  stands ms G (logical l) D e f g = refl
  stands ms G (nominal a) D e f g = g a (own_name a)
  stands ms G (variable y) D e f g = refl
  stands ms G (index i) D e f g = f i (type_at-below G i D e)

module _ (sg : Signature) {Hint : Type 0} where
  mutual
    pub support_only : (ms : List (Head ℕ)) (G : List Ty) {A : Ty} (t : Term ℕ Hint) → HasType sg G t A → ((i : ℕ) → i < length G → among ms (index i) ≡ true) → ((a : Nominal) → among (heads (support t)) (nominal a) ≡ true → among ms (nominal a) ≡ true) → Only ms t
    support_only ms G (lam B x t) (typed_lam d) f g = support_only (under ms) (B ∷ G) t d (deeper_index ms (length G) f) (λ a e. among-under ms (nominal a) ∙ g a e)
    support_only ms G (spine h ts) (typed_spine {A = D} e ds) f g =
        (stands sg ms G h D e f (λ a m. g a (front_name (support_of_head h) (support_of_all ts) a m)), support_all_only ms G ts ds f (λ a m. g a (behind_name (support_of_head h) (support_of_all ts) a m)))

    support_all_only : (ms : List (Head ℕ)) (G : List Ty) {A B : Ty} (ts : Terms ℕ Hint) → TakeType sg G ts A B → ((i : ℕ) → i < length G → among ms (index i) ≡ true) → ((a : Nominal) → among (heads (support_of_all ts)) (nominal a) ≡ true → among ms (nominal a) ≡ true) → OnlyAll ms ts
    support_all_only ms G no_terms take_none f g = tt
    support_all_only ms G (term t ts) (take_term d ds) f g =
        (support_only ms G t d f (λ a m. g a (front_name (support t) (support_of_all ts) a m)), support_all_only ms G ts ds f (λ a m. g a (behind_name (support t) (support_of_all ts) a m)))

-- the bound names of a context
abbrev indices : ℕ → List (Head ℕ)
indices zero = []
indices (suc n) = under (indices n)

has_index : (n i : ℕ) → i < n → among (indices n) (index i) ≡ true
has_index zero i l = absurd (omega (arith, l))
has_index (suc n) zero l = innermost_stands (indices n)
has_index (suc n) (suc i) l = among-under (indices n) (index i) ∙ has_index n i (omega (arith, l))

pub no_names : NoIndex []
no_names i = refl

module _ {Hint : Type 0} where
  pub over_known : (cells : List (Cell Hint)) (t : Term ℕ Hint) → IsOver cells t → Known (length cells) t
  over_known cells t o y l = avoids_if y t (false_from_ne_true (holds (variables t) y) (λ e. let low = o y e in absurd (omega (arith, l, low))))

module _ (sg : Signature) {Hint : Type 0} (cells : List (Cell Hint)) where
  all_scoped : (es : List (Equation Hint)) → AreTyped sg es → AreOver cells es → AllScoped [] (length cells) es
  all_scoped [] d o = tt
  all_scoped (e ∷ es) d o =
      let n = length d.0.0 in
      let ls = heads (support e.left) in
      let rs = heads (support e.right) in (
        record {
          names = indices n ++ (ls ++ rs);
          scope = λ a m. refl;
          left = support_only sg (indices n ++ (ls ++ rs)) d.0.0 e.left d.0.2 (λ i l. among_front (indices n) (ls ++ rs) (index i) (has_index n i l)) (λ a m. among_behind (indices n) (ls ++ rs) (nominal a) (among_front ls rs (nominal a) m));
          right = support_only sg (indices n ++ (ls ++ rs)) d.0.0 e.right d.0.3 (λ i l. among_front (indices n) (ls ++ rs) (index i) (has_index n i l)) (λ a m. among_behind (indices n) (ls ++ rs) (nominal a) (among_behind ls rs (nominal a) m));
          left_known = over_known cells e.left o.0;
          right_known = over_known cells e.right o.1;
        },
        all_scoped es d.1 o.2,
      )

-- THE GUESS f of what may be replaced makes the sides the same: so there is an answer or an equation outside the patterns,
-- and f is the answer and then another guess
module _ (sg : Signature) {Hint : Type 0} (x : Hint) (es : List (Equation Hint)) (cells : List (Cell Hint)) (ys : List (Variable ℕ)) (typed : AreTyped sg es) (known : AreKnown cells ys) (over : AreOver cells es) (f : Put) (fits : Fits sg [] ys f) (alike : AllAlike f es) where
  start : Run sg [] no_names x (length cells) f (given es cells ys)
  start = record {
    problem = problem sg x es cells ys typed known;
    scoped = all_scoped sg cells es typed over;
    follows = follows_none sg [] (length cells) ys f fits;
    alike = alike;
    values_known = λ y l v t e. absurd (let there : None ≡ Some t = e in cc);
    longer = omega arith;
  }

  pub lifts : (a : Answer Hint) → Solves x (given es cells ys) a → Most sg [] no_names x (length cells) f a
  lifts a p = most sg [] no_names x (length cells) f (given es cells ys) a start p
