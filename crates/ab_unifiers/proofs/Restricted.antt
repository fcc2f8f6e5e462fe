-- The answer, cut down to the problem's flexible variables, is a most general unifier.
use Rattle.std.proofs.Common.{◌≡◌, inl, inr, ℕ, ◌<◌, List, [], ◌∷◌, length, Bool, true, false, cond, ◌||◌, Option, Some, None, refl, sym, ◌∙◌, ap, subst, arith}
use Rattle.std.specs.Prelude.{All, Contains}
use Rattle.std.proofs.lemmas.Bool.{false≢true, or_cases, false_from_ne_true}
use Rattle.std.proofs.lemmas.List.Elements.{All-cons, All-nil, All-head, All-tail}
use Rattle.ab_term.specs.Terms.{Variable, Term}
use Rattle.ab_term.specs.Typing.{Signature, HasType}
use Rattle.ab_term.specs.Translation.{forget}
use Rattle.ab_term.specs.Names.{support}
use Rattle.ab_term.specs.Variables.{Substitution, value_in, image, IsTyped, IsClean}
use Rattle.ab_term.specs.Sameness.{same_numbered, same_number}
use Rattle.ab_term.proofs.Lists.{All-from_contains}
use Rattle.ab_term.proofs.Same.{same_numbered-Decides}
use Rattle.ab_term.proofs.Compositions.{image-composition}
use Rattle.ab_unifiers.specs.Replacements.{Cell, holds}
use Rattle.ab_unifiers.specs.Unification.{Equation, unified, Solves}
use Rattle.ab_unifiers.specs.Unifiers.{AreTyped, AreKnown, IsOver, AreOver, sides, Unifies, given, keys, AreDifferent, restricted, IsMostGeneral}
use Rattle.ab_unifiers.proofs.Agreeing.{image_agrees}
use Rattle.ab_unifiers.proofs.Problems.{answer_typed, answer_clean, answer_unifies}
use Rattle.ab_unifiers.proofs.Once.{answer_once}
use Rattle.ab_unifiers.proofs.Given.{most_general}

module _ {Hint : Type 0} (ys : List (Variable ℕ)) where
  value_restricted : (s : Substitution ℕ Hint) (y : Variable ℕ) → value_in same_number (restricted ys s) y ≡ cond (holds ys y) (value_in same_number s y) None
  value_restricted [] y = go (holds ys y)
    where
      go : (b : Bool) → value_in {Hint = Hint} same_number [] y ≡ cond b (value_in same_number [] y) None
      go true = refl
      go false = refl
  value_restricted (p ∷ s) y = go (same_numbered p.0 y) refl (holds ys p.0) refl (value_restricted s y)
    where
      go : (b : Bool) → same_numbered p.0 y ≡ b → (c : Bool) → holds ys p.0 ≡ c → value_in same_number (restricted ys s) y ≡ cond (holds ys y) (value_in same_number s y) None
          → value_in same_number (cond c (p ∷ restricted ys s) (restricted ys s)) y ≡ cond (holds ys y) (cond b (Some p.1) (value_in same_number s y)) None
      go true e true h rest =
          let own : holds ys y ≡ true = ap (holds ys) (sym ((same_numbered-Decides p.0 y).0 e)) ∙ h in
          ap (λ b. cond b (Some p.1) (value_in same_number (restricted ys s) y)) e ∙ ap (λ b. cond b (Some p.1) None) (sym own)
      go true e false h rest =
          let own : holds ys y ≡ false = ap (holds ys) (sym ((same_numbered-Decides p.0 y).0 e)) ∙ h in
          rest ∙ ap (λ b. cond b (value_in same_number s y) None) own ∙ ap (λ b. cond b (Some p.1) None) (sym own)
      go false e true h rest = ap (λ b. cond b (Some p.1) (value_in same_number (restricted ys s) y)) e ∙ rest
      go false e false h rest = rest

  restricted_keys : (s : Substitution ℕ Hint) (y : Variable ℕ) → holds (keys (restricted ys s)) y ≡ true → holds ys y ≡ true
  restricted_keys [] y e = absurd (false≢true e)
  restricted_keys (p ∷ s) y e = go (holds ys p.0) refl e (restricted_keys s y)
    where
      go : (c : Bool) → holds ys p.0 ≡ c → holds (keys (cond c (p ∷ restricted ys s) (restricted ys s))) y ≡ true → (holds (keys (restricted ys s)) y ≡ true → holds ys y ≡ true) → holds ys y ≡ true
      go true h e rest = elim (or_cases (same_numbered p.0 y) (holds (keys (restricted ys s)) y) e) [ inl m ↦ ap (holds ys) (sym ((same_numbered-Decides p.0 y).0 m)) ∙ h | inr m ↦ rest m ]
      go false h e rest = rest e

  restricted_all : (P : Variable ℕ × Term ℕ Hint → Type 0) (s : Substitution ℕ Hint) → All P s → All P (restricted ys s)
  restricted_all P [] all = all
  restricted_all P (p ∷ s) all = go (holds ys p.0) (restricted_all P s (All-tail P p s all))
    where
      go : (c : Bool) → All P (restricted ys s) → All P (cond c (p ∷ restricted ys s) (restricted ys s))
      go true rest = All-cons P p (restricted ys s) (All-head P p s all) rest
      go false rest = rest

module _ {Hint : Type 0} where
  pub key_held : (s : Substitution ℕ Hint) (y : Variable ℕ) (v : Term ℕ Hint) → value_in same_number s y ≡ Some v → holds (keys s) y ≡ true
  key_held [] y v e = absurd (cc)
  key_held (p ∷ s) y v e = step (same_numbered p.0 y) e (key_held s y v)
    where
      step : (b : Bool) → cond b (Some p.1) (value_in same_number s y) ≡ Some v → (value_in same_number s y ≡ Some v → holds (keys s) y ≡ true) → (b || holds (keys s) y) ≡ true
      step true e rest = refl
      step false e rest = rest e

  -- where no variable has two values, what holds of each value holds of each pair
  each_pair : (Q : Term ℕ Hint → Type 0) (s : Substitution ℕ Hint) → AreDifferent (keys s) → ((y : Variable ℕ) (v : Term ℕ Hint) → value_in same_number s y ≡ Some v → Q v) → All (λ p. Q p.1) s
  each_pair Q [] d f = All-nil (λ p. Q p.1)
  each_pair Q (p ∷ s) d f = All-cons (λ p. Q p.1) p s (f p.0 p.1 (ap (λ b. cond b (Some p.1) (value_in same_number s p.0)) ((same_numbered-Decides p.0 p.0).1 refl))) (each_pair Q s d.1 (λ y v e. f y v (later y v e)))
    where
      later : (y : Variable ℕ) (v : Term ℕ Hint) → value_in same_number s y ≡ Some v → cond (same_numbered p.0 y) (Some p.1) (value_in same_number s y) ≡ Some v
      later y v e =
          let other : same_numbered p.0 y ≡ false = false_from_ne_true (same_numbered p.0 y) (λ q. false≢true (sym d.0 ∙ ap (holds (keys s)) ((same_numbered-Decides p.0 y).0 q) ∙ key_held s y v e)) in
          ap (λ b. cond b (Some p.1) (value_in same_number s y)) other ∙ e

  -- no nominal constant stands in any value
  clean_restricted : (ys : List (Variable ℕ)) (s : Substitution ℕ Hint) (ts : List (Term ℕ Hint)) → All (λ p. support p.1 ≡ []) s → IsClean (restricted ys s) ts
  clean_restricted ys s ts all = restricted_all ys (λ p. All (λ t. All (λ a. ¬ (Contains (support t) a)) (support p.1)) ts) s (weaker s all)
    where
      weaker : (s : Substitution ℕ Hint) → All (λ p. support p.1 ≡ []) s → All (λ p. All (λ t. All (λ a. ¬ (Contains (support t) a)) (support p.1)) ts) s
      weaker [] all = All-nil (λ p. All (λ t. All (λ a. ¬ (Contains (support t) a)) (support p.1)) ts)
      weaker (p ∷ s) all =
          All-cons (λ p. All (λ t. All (λ a. ¬ (Contains (support t) a)) (support p.1)) ts) p s
          (All-from_contains (λ t. All (λ a. ¬ (Contains (support t) a)) (support p.1)) ts
          (λ t m. subst (All (λ a. ¬ (Contains (support t) a))) (sym (All-head (λ p. support p.1 ≡ []) p s all)) (All-nil (λ a. ¬ (Contains (support t) a)))))
          (weaker s (All-tail (λ p. support p.1 ≡ []) p s all))

module _ (sg : Signature) {Hint : Type 0} (x : Hint) (es : List (Equation Hint)) (cells : List (Cell Hint)) (ys : List (Variable ℕ)) (typed : AreTyped sg es) (known : AreKnown cells ys) (over : AreOver cells es) (more : List (Cell Hint)) (s : Substitution ℕ Hint) (solves : Solves x (given es cells ys) (unified more s)) where
  -- on the problem's own variables nothing is lost
  same_value : (y : Variable ℕ) → y.name < length cells → value_in same_number (restricted ys s) y ≡ value_in same_number s y
  same_value y low = value_restricted ys s y ∙ go (holds ys y) refl (value_in same_number s y) refl
    where
      go : (b : Bool) → holds ys y ≡ b → (o : Option (Term ℕ Hint)) → value_in same_number s y ≡ o → cond b o None ≡ o
      go true h o e = refl
      go false h None e = refl
      go false h (Some v) e = elim ((answer_once x es cells ys known more s solves).1 y (key_held s y v e)) [ inl a ↦ absurd (false≢true (sym h ∙ a)) | inr a ↦ absurd (omega (arith, a.0, low)) ]

  pub image-restricted : (t : Term ℕ Hint) → IsOver cells t → image same_number (restricted ys s) t ≡ image same_number s t
  image-restricted t o = image_agrees (value_in same_number (restricted ys s)) (value_in same_number s) t (λ y m. same_value y (o y m))

  restricted_typed : IsTyped sg (restricted ys s)
  restricted_typed = restricted_all ys (λ p. HasType sg [] p.1 p.0.type) s (answer_typed sg x es cells ys typed known more s solves)

  unifies_restricted : (fs : List (Equation Hint)) → AreOver cells fs → Unifies s fs → Unifies (restricted ys s) fs
  unifies_restricted [] o u = tt
  unifies_restricted (e ∷ fs) o u = (ap forget (image-restricted e.left o.0) ∙ u.0 ∙ sym (ap forget (image-restricted e.right o.1)), unifies_restricted fs o.2 u.1)

  pub restricted_general : IsMostGeneral sg cells ys es (restricted ys s)
  restricted_general = record {
    unifier = record {
      typed = restricted_typed;
      clean = clean_restricted ys s (sides es) (each_pair (λ v. support v ≡ []) s (answer_once x es cells ys known more s solves).0 (answer_clean sg x es cells ys typed known more s solves));
      within = restricted_keys ys s;
      unifies = unifies_restricted es over (answer_unifies sg x es cells ys typed known more s solves);
    };
    general = λ u unifier.
        let m = most_general sg x es cells ys typed known over u unifier more s solves in (
          m.0,
          m.1,
          λ names t A d o.
              m.2 names t A d o
              ∙ ap forget
              (image-composition sg same_number s (answer_typed sg x es cells ys typed known more s solves) m.0 m.1 d
              ∙ ap (image same_number m.0) (sym (image-restricted t o))
              ∙ sym (image-composition sg same_number (restricted ys s) restricted_typed m.0 m.1 d)),
        );
  }
