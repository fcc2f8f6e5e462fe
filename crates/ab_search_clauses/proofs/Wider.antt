-- READ OFF IN TURN AMONG MORE VARIABLES, which stand in no right side.
use Rattle.std.proofs.Common.{◌≡◌, ℕ, List, [], ◌∷◌, filter, Bool, true, false, cond, ◌||◌, Some, None, is_some, refl, sym, ◌∙◌, ap}
use Rattle.std.proofs.lemmas.Bool.{false≢true, false_from_ne_true}
use Rattle.ab_term.specs.Terms.{Variable, constant, logical, nominal, variable, index, lam, spine, Terms, no_terms, term}
use Rattle.ab_term.specs.Translation.{forget}
use Rattle.ab_term.specs.Variables.{variables, variables_of_all, image_by}
use Rattle.ab_term.proofs.Same.{same_numbered-Decides}
use Rattle.ab_unifiers.specs.Patterns.{pattern}
use Rattle.ab_unifiers.specs.Replacements.{holds}
use Rattle.ab_unifiers.specs.Unification.{Equation}
use Rattle.ab_unifiers.specs.Clauses.{Within}
use Rattle.ab_unifiers.proofs.Agreeing.{holds_front, holds_behind, image_agrees}
use Rattle.ab_unifiers.proofs.Variables as stand
use Rattle.ab_search_trees.specs.Lifting.{Guess}
use Rattle.ab_search_trees.proofs.Lifts.{filter_from, filter_held}
use Rattle.ab_pattern_matching.specs.Reading.{can_read, can_read_one, but, Every, ReadInTurn, NoneRead, NoneMatters}
use Rattle.ab_pattern_matching.specs.Raising.{Bare}
use Rattle.ab_pattern_matching.proofs.TwoWays.{test_from}

-- what can be read off a term depends on its own variables alone
module _ (us vs : List (Variable ℕ)) where
  abbrev Agree : List (Variable ℕ) → Type 0
  Agree ys = (y : Variable ℕ) → holds ys y ≡ true → holds us y ≡ holds vs y

  mutual
    read_agrees : (t : Bare) → Agree (variables t) → can_read us t ≡ can_read vs t
    read_agrees (lam A x t) a = read_agrees t a
    read_agrees (spine (constant c) ts) a = read_all ts a
    read_agrees (spine (logical l) ts) a = read_all ts a
    read_agrees (spine (nominal c) ts) a = read_all ts a
    read_agrees (spine (index i) ts) a = read_all ts a
    read_agrees (spine (variable y) ts) a =
        ap (λ b. cond b (is_some (pattern y.type ts)) (can_read_one us ts)) (a y (holds_front (y ∷ []) (variables_of_all ts) y (ap (λ b. b || false) ((same_numbered-Decides y y).1 refl))))
        ∙ ap (cond (holds vs y) (is_some (pattern y.type ts))) (read_all ts (λ z h. a z (holds_behind (y ∷ []) (variables_of_all ts) z h)))

    read_all : (ts : Terms ℕ (Unit {0})) → Agree (variables_of_all ts) → can_read_one us ts ≡ can_read_one vs ts
    read_all no_terms a = refl
    read_all (term t ts) a =
        ap (λ b. b || can_read_one us ts) (read_agrees t (λ z h. a z (holds_front (variables t) (variables_of_all ts) z h)))
        ∙ ap (λ b. can_read vs t || b) (read_all ts (λ z h. a z (holds_behind (variables t) (variables_of_all ts) z h)))

module _ (few many : List (Variable ℕ)) (g : Guess) (values : (y : Variable ℕ) (v : Bare) → g y ≡ Some v → (z : Variable ℕ) → holds (variables v) z ≡ true → holds many z ≡ false) where
  -- of the many only the few stand there
  abbrev pub AreFew : {Hint : Type 0} → List (Equation Hint) → Type 0
  AreFew = Every (λ e. (y : Variable ℕ) → holds (variables (forget e.right)) y ≡ true → holds many y ≡ true → holds few y ≡ true)

  module _ (us : List (Variable ℕ)) (within : Within us many) where
    abbrev those : List (Variable ℕ)
    those = filter (holds few) us

    those_in : Within (filter (holds few) us) few
    those_in y h = test_from (holds few) us y h

    same_held : (y : Variable ℕ) → (holds many y ≡ true → holds few y ≡ true) → holds us y ≡ holds (filter (holds few) us) y
    same_held y f = go (holds us y) refl
      where
        go : (b : Bool) → holds us y ≡ b → holds us y ≡ holds (filter (holds few) us) y
        go true h = h ∙ sym (filter_held (holds few) us y h (f (within y h)))
        go false h = h ∙ sym (false_from_ne_true (holds (filter (holds few) us) y) (λ k. false≢true (sym h ∙ filter_from (holds few) us y k)))

    but_same : (t : Bare) → ((y : Variable ℕ) → holds (variables t) y ≡ true → holds many y ≡ true → holds few y ≡ true) → image_by (but us g) t ≡ image_by (but (filter (holds few) us) g) t
    but_same t k = image_agrees (but us g) (but (filter (holds few) us) g) t (λ y m. ap (λ b. cond b None (g y)) (same_held y (k y m)))

    -- what stands there then
    few_then : (t : Bare) → ((y : Variable ℕ) → holds (variables t) y ≡ true → holds many y ≡ true → holds few y ≡ true) → (vs : List (Variable ℕ)) → (y : Variable ℕ) → holds (variables (image_by (but vs g) t)) y ≡ true → holds many y ≡ true → holds few y ≡ true
    few_then t k vs = stand.has_held (λ y. holds many y ≡ true → holds few y ≡ true) (image_by (but vs g) t)
        (stand.image_by_has (λ y. holds many y ≡ true → holds few y ≡ true) (λ y. holds many y ≡ true → holds few y ≡ true) (but vs g) (λ y v e. value y v (holds vs y) e) (λ y e p. p) t
        (stand.held_has (λ y. holds many y ≡ true → holds few y ≡ true) t k))
      where
        value : (y : Variable ℕ) (v : Bare) (b : Bool) → cond b None (g y) ≡ Some v → stand.Has (λ z. holds many z ≡ true → holds few z ≡ true) v
        value y v true e = absurd (cc)
        value y v false e = stand.held_has (λ z. holds many z ≡ true → holds few z ≡ true) v (λ z m h. absurd (false≢true (sym (values y v e z m) ∙ h)))

    none_read : {Hint : Type 0} (es : List (Equation Hint)) → AreFew es → NoneRead us g es → NoneRead (filter (holds few) us) g es
    none_read [] a n = tt
    none_read (e ∷ es) a n =
        let t = forget e.right in (
          ap (can_read (filter (holds few) us)) (sym (but_same t a.0))
              ∙ sym (read_agrees us (filter (holds few) us) (image_by (but us g) t) (λ y m. same_held y (few_then t a.0 us y m)))
              ∙ n.0,
          none_read es a.1 n.1,
        )

    none_matters : {Hint : Type 0} (es : List (Equation Hint)) → AreFew es → NoneMatters (filter (holds few) us) g es → NoneMatters us g es
    none_matters [] a n = tt
    none_matters (e ∷ es) a n = (but_same (forget e.right) a.0 ∙ n.0, none_matters es a.1 n.1)

  -- IN TURN among the many
  pub wider_turn : {Hint : Type 0} (es : List (Equation Hint)) → AreFew es → ReadInTurn few g es → ReadInTurn many g es
  wider_turn es a turn us w n = none_matters us w es a (turn (filter (holds few) us) (those_in us w) (none_read us w es a n))
