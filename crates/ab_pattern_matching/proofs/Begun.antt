-- A problem as it is given, with a guess that makes all sides the same and holds none of their constants.
use Rattle.std.proofs.Common.{◌≡◌, ◌⊎◌, inl, inr, ℕ, zero, suc, ◌<◌, List, [], ◌∷◌, ◌++◌, map, length, true, false, Some, None, refl, sym, ◌∙◌, ap, subst, arith}
use Rattle.std.specs.Prelude.{Contains}
use Rattle.std.proofs.lemmas.Bool.{false≢true, or_left, or_right, false_from_ne_true}
use Rattle.ab_term.specs.Terms.{Nominal, Variable, Head, nominal, index}
use Rattle.ab_term.specs.Typing.{Signature}
use Rattle.ab_term.specs.Names.{support}
use Rattle.ab_term.specs.Sameness.{same_head}
use Rattle.ab_term.specs.Abstraction.{among, under}
use Rattle.ab_term.proofs.Determined.{NoIndex}
use Rattle.ab_term.proofs.Lists.{Contains-none, Contains-cases}
use Rattle.ab_term.proofs.Same.{same_head-Decides}
use Rattle.ab_term.proofs.Stands.{either}
use Rattle.ab_term.proofs.Only.{among-under, among-append, innermost_stands, among_front, among_behind}
use Rattle.ab_unifiers.specs.Replacements.{Cell}
use Rattle.ab_unifiers.specs.Unification.{Equation, Answer, Solves}
use Rattle.ab_unifiers.specs.Unifiers.{given, IsTypedEquation, AreTyped, AreKnown, IsOver, AreOver}
use Rattle.ab_unifiers.proofs.Following.{Fits, follows_none}
use Rattle.ab_unifiers.proofs.General.{Scoped, AllScoped, AllAlike}
use Rattle.ab_unifiers.proofs.Most.{Most, most}
use Rattle.ab_unifiers.proofs.Problems.{problem}
use Rattle.ab_search_trees.specs.Lifting.{Guess, IsGuessFor, MakesEqual}
use Rattle.ab_search_trees.proofs.Guessed.{contained, support_only, over_known}
use Rattle.ab_pattern_matching.specs.Reading.{IsGuessOver, HoldNoneOf}
use Rattle.ab_pattern_matching.proofs.Going.{every_typed, every_scoped, every_alike, Going}

-- the bound names of a context
abbrev bound_names : ℕ → List (Head ℕ)
bound_names zero = []
bound_names (suc n) = under (bound_names n)

is_bound : (n i : ℕ) → i < n → among (bound_names n) (index i) ≡ true
is_bound zero i l = absurd (omega (arith, l))
is_bound (suc n) zero l = innermost_stands (bound_names n)
is_bound (suc n) (suc i) l = among-under (bound_names n) (index i) ∙ is_bound n i (omega (arith, l))

no_bound_nominal : (n : ℕ) (a : Nominal) → among (bound_names n) (nominal a) ≡ false
no_bound_nominal zero a = refl
no_bound_nominal (suc n) a = among-under (bound_names n) (nominal a) ∙ no_bound_nominal n a

-- constants as names
pub no_index_among : (ns : List Nominal) → NoIndex (map nominal ns)
no_index_among [] i = refl
no_index_among (a ∷ ns) i = no_index_among ns i

listed_name : (ns : List Nominal) (a : Nominal) → Contains ns a → among (map nominal ns) (nominal a) ≡ true
listed_name [] a m = absurd (Contains-none a m)
listed_name (b ∷ ns) a m = either (λ e. or_left (same_head (nominal b) (nominal a)) (among (map nominal ns) (nominal a)) ((same_head-Decides (nominal b) (nominal a)).1 (ap nominal e))) (λ n. or_right (same_head (nominal b) (nominal a)) (among (map nominal ns) (nominal a)) (listed_name ns a n)) (Contains-cases b ns a m)

-- names that stand on one of two sides
both_names : (n : ℕ) (ls rs : List Nominal) (a : Nominal) → among (bound_names n ++ (map nominal ls ++ map nominal rs)) (nominal a) ≡ true → Contains ls a ⊎ Contains rs a
both_names n ls rs a m = elim (among-append (bound_names n) (map nominal ls ++ map nominal rs) (nominal a) m) [
  | inl i ↦ absurd (false≢true (sym (no_bound_nominal n a) ∙ i))
  | inr i ↦ (elim (among-append (map nominal ls) (map nominal rs) (nominal a) i) [ inl j ↦ inl (contained ls a j) | inr j ↦ inr (contained rs a j) ])
]

module _ (sg : Signature) {Hint : Type 0} (cells : List (Cell Hint)) (ns : List Nominal) where
  -- over the names of both sides
  given_scoped : (e : Equation Hint) → IsTypedEquation sg e → IsOver cells e.left → IsOver cells e.right → ((a : Nominal) → Contains ns a → ¬ (Contains (support e.left) a) × ¬ (Contains (support e.right) a)) → Scoped (map nominal ns) (length cells) e.left e.right
  given_scoped e d o p clean =
      let bs = bound_names (length d.0) in
      let ls = map nominal (support e.left) in
      let rs = map nominal (support e.right) in
      record {
        names = bs ++ (ls ++ rs);
        scope = λ a m. false_from_ne_true (among (map nominal ns) (nominal a)) (λ k. let c = clean a (contained ns a k) in elim (both_names (length d.0) (support e.left) (support e.right) a m) [ inl i ↦ c.0 i | inr i ↦ c.1 i ]);
        left = support_only sg (bs ++ (ls ++ rs)) d.0 e.left d.2 (λ i l. among_front bs (ls ++ rs) (index i) (is_bound (length d.0) i l)) (λ a m. among_behind bs (ls ++ rs) (nominal a) (among_front ls rs (nominal a) m));
        right = support_only sg (bs ++ (ls ++ rs)) d.0 e.right d.3 (λ i l. among_front bs (ls ++ rs) (index i) (is_bound (length d.0) i l)) (λ a m. among_behind bs (ls ++ rs) (nominal a) (among_behind ls rs (nominal a) m));
        left_known = over_known cells e.left o;
        right_known = over_known cells e.right p;
      }

  pub all_given_scoped : (es : List (Equation Hint)) → AreTyped sg es → AreOver cells es → HoldNoneOf ns es → AllScoped (map nominal ns) (length cells) es
  all_given_scoped [] d o c = tt
  all_given_scoped (e ∷ es) d o c = (given_scoped e d.0 o.0 o.1 c.0, all_given_scoped es d.1 o.2 c.1)

pub guess_over : (sg : Signature) (ys : List (Variable ℕ)) (f : Guess) → IsGuessFor sg ys f → IsGuessOver sg ys [] f
guess_over sg ys f guess = record { typed = guess.typed; held = λ y v e a m. subst (λ l. Contains l a) (guess.nameless y v e) m; some = guess.some; none = guess.none }

pub guess_fits : (sg : Signature) (ys : List (Variable ℕ)) (ns : List Nominal) (f : Guess) → IsGuessOver sg ys ns f → Fits sg (map nominal ns) ys f
guess_fits sg ys ns f guess = record {
  typed = guess.typed;
  has = λ y v e. support_only sg (map nominal ns) [] v (guess.typed y v e) (λ i l. absurd (omega (arith, l))) (λ a m. listed_name ns a (guess.held y v e a (contained (support v) a m)));
  some = guess.some;
  none = guess.none;
}

module _ {Hint : Type 0} where
  pub given_alike : (f : Guess) (es : List (Equation Hint)) → MakesEqual f es → AllAlike f es
  given_alike f [] m = tt
  given_alike f (e ∷ es) m = (m.0, given_alike f es m.1)

  pub none_held : (es : List (Equation Hint)) → HoldNoneOf [] es
  none_held [] = tt
  none_held (e ∷ es) = (λ a m. absurd (Contains-none a m), none_held es)

module _ (sg : Signature) {Hint : Type 0} (x : Hint) (es : List (Equation Hint)) (cells : List (Cell Hint)) (ys : List (Variable ℕ)) (ns : List Nominal) (f : Guess) (typed : AreTyped sg es) (known : AreKnown cells ys) (over : AreOver cells es) (clean : HoldNoneOf ns es)
    (fits : Fits sg (map nominal ns) ys f) (alike : AllAlike f es) where
  pub begins : Going sg (map nominal ns) (no_index_among ns) x (given es cells ys) f
  begins = record { typed = every_typed sg es typed; known = known; scoped = every_scoped (map nominal ns) (length cells) es (all_given_scoped sg cells ns es typed over clean); fits = fits; alike = every_alike f es alike }

  -- the sides aren't apart
  pub not_apart : (a : Answer Hint) → Solves x (given es cells ys) a → Most sg (map nominal ns) (no_index_among ns) x (length cells) f a
  not_apart a p = most sg (map nominal ns) (no_index_among ns) x (length cells) f (given es cells ys) a
      (record {
        problem = problem sg x es cells ys typed known;
        scoped = all_given_scoped sg cells ns es typed over clean;
        follows = follows_none sg (map nominal ns) (length cells) ys f fits;
        alike = alike;
        values_known = λ y l v t e. absurd (let there : None ≡ Some t = e in cc);
        longer = omega arith;
      }) p
