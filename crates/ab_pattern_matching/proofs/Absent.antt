-- What can be read off a term and off its parts, with terms put in for other variables.
use Rattle.std.proofs.Common.{◌≡◌, inl, inr, ℕ, List, [], ◌∷◌, ◌++◌, Bool, true, false, cond, Option, Some, None, is_some, refl, sym, ◌∙◌, ap, subst}
use Rattle.std.proofs.lemmas.Bool.{false≢true, and_parts, or_parts, or_from, or_left, false_from_ne_true}
use Rattle.ab_term.specs.Terms.{Variable, Head, constant, logical, nominal, variable, index, Term, lam, spine, Terms, no_terms, term}
use Rattle.ab_term.specs.Translation.{translate_head, forget, forget_all}
use Rattle.ab_term.specs.Variables.{variables_of_head, variables, variables_of_all, put_for, put_at, image_by, image_all_by}
use Rattle.ab_term.specs.Sameness.{same_numbered}
use Rattle.ab_term.proofs.Same.{same_numbered-Decides}
use Rattle.ab_term.proofs.PastHints.{variables-forget}
use Rattle.ab_unifiers.specs.Patterns.{pattern}
use Rattle.ab_unifiers.specs.Replacements.{holds, is_flexible, has_patterns, all_have_patterns, patterns_at}
use Rattle.ab_unifiers.specs.Clauses.{Within}
use Rattle.ab_unifiers.proofs.Agreeing.{holds_front, holds_behind, image_agrees, image_pattern, pattern_rigid}
use Rattle.ab_unifiers.proofs.Avoiding.{not_held}
use Rattle.ab_unifiers.proofs.Readings.{pattern_back}
use Rattle.ab_unifiers.proofs.Values.{forget_pattern}
use Rattle.ab_unifiers.proofs.Views.{is_pattern}
use Rattle.ab_search_trees.specs.Lifting.{Guess}
use Rattle.ab_pattern_matching.specs.Reading.{read_at, can_read, can_read_one, HasNoneOf, but}

-- what the variables don't stand in
pub no_front : (vs ws : List (Variable ℕ)) (y : Variable ℕ) → holds (vs ++ ws) y ≡ false → holds vs y ≡ false
no_front vs ws y e = false_from_ne_true (holds vs y) (λ f. false≢true (sym e ∙ holds_front vs ws y f))

pub no_behind : (vs ws : List (Variable ℕ)) (y : Variable ℕ) → holds (vs ++ ws) y ≡ false → holds ws y ≡ false
no_behind vs ws y e = false_from_ne_true (holds ws y) (λ f. false≢true (sym e ∙ holds_behind vs ws y f))

pub no_both : (vs ws : List (Variable ℕ)) (y : Variable ℕ) → holds vs y ≡ false → holds ws y ≡ false → holds (vs ++ ws) y ≡ false
no_both vs ws y e f = false_from_ne_true (holds (vs ++ ws) y) (λ g. elim (not_held vs ws y g) [ inl a ↦ false≢true (sym e ∙ a) | inr a ↦ false≢true (sym f ∙ a) ])

-- of two variables that are the same both are held or none
held_same : (us : List (Variable ℕ)) (y z : Variable ℕ) → same_numbered z y ≡ true → holds us y ≡ true → holds us z ≡ true
held_same us y z s h = subst (λ v. holds us v ≡ true) (sym ((same_numbered-Decides z y).0 s)) h

head_alone : (us : List (Variable ℕ)) (z : Variable ℕ) → holds us z ≡ false → (y : Variable ℕ) → holds us y ≡ true → holds (z ∷ []) y ≡ false
head_alone us z e y h = or_from (same_numbered z y) false (false_from_ne_true (same_numbered z y) (λ s. false≢true (sym e ∙ held_same us y z s h))) refl

module _ {Hint : Type 0} (us : List (Variable ℕ)) where
  -- what none of them stands in, none can be read off
  mutual
    pub none_there : (t : Term ℕ Hint) → HasNoneOf us t → can_read us t ≡ false
    none_there (lam A x t) n = none_there t n
    none_there (spine h ts) n = at h (none_of_all ts (λ y e. no_behind (variables_of_head h) (variables_of_all ts) y (n y e))) (λ y e. no_front (variables_of_head h) (variables_of_all ts) y (n y e))
      where
        at : (h : Head ℕ) → can_read_one us ts ≡ false → ((y : Variable ℕ) → holds us y ≡ true → holds (variables_of_head h) y ≡ false) → read_at us h ts (can_read_one us ts) ≡ false
        at (constant c) r m = r
        at (logical l) r m = r
        at (nominal a) r m = r
        at (variable z) r m = go (holds us z) refl
          where
            go : (b : Bool) → holds us z ≡ b → cond b (is_some (pattern z.type ts)) (can_read_one us ts) ≡ false
            go true e = absurd (false≢true (sym (m z e) ∙ or_left (same_numbered z z) false ((same_numbered-Decides z z).1 refl)))
            go false e = r
        at (index i) r m = r

    none_of_all : (ts : Terms ℕ Hint) → ((y : Variable ℕ) → holds us y ≡ true → holds (variables_of_all ts) y ≡ false) → can_read_one us ts ≡ false
    none_of_all no_terms n = refl
    none_of_all (term t ts) n = or_from (can_read us t) (can_read_one us ts) (none_there t (λ y e. no_front (variables t) (variables_of_all ts) y (n y e))) (none_of_all ts (λ y e. no_behind (variables t) (variables_of_all ts) y (n y e)))

-- a guess for no more than some variables, and of these some are left out
module _ (ys us : List (Variable ℕ)) (f : Guess) (none : (y : Variable ℕ) → holds ys y ≡ false → f y ≡ None) where
  pub but_none : (y : Variable ℕ) → holds ys y ≡ false → but us f y ≡ None
  but_none y e = go (holds us y)
    where
      go : (b : Bool) → cond b None (f y) ≡ None
      go true = refl
      go false = none y e

  pub rigid_stays : (g : Guess) → ((y : Variable ℕ) → holds ys y ≡ false → g y ≡ None) → (h : Head ℕ) (ss : Terms ℕ (Unit {0})) → is_flexible ys h ≡ false → put_at g (translate_head (λ v. v) h) ss ≡ spine h ss
  rigid_stays g n (constant c) ss r = refl
  rigid_stays g n (logical l) ss r = refl
  rigid_stays g n (nominal a) ss r = refl
  rigid_stays g n (variable z) ss r = ap (λ o. put_for z o ss) (n z r)
  rigid_stays g n (index i) ss r = refl

  module _ (within : Within us ys) where
    not_among : (z : Variable ℕ) → holds ys z ≡ false → holds us z ≡ false
    not_among z e = false_from_ne_true (holds us z) (λ h. false≢true (sym e ∙ within z h))

    rigid_read : (h : Head ℕ) (ss : Terms ℕ (Unit {0})) → is_flexible ys h ≡ false → can_read us (spine h ss) ≡ can_read_one us ss
    rigid_read (constant c) ss r = refl
    rigid_read (logical l) ss r = refl
    rigid_read (nominal a) ss r = refl
    rigid_read (variable z) ss r = ap (λ b. cond b (is_some (pattern z.type ss)) (can_read_one us ss)) (not_among z r)
    rigid_read (index i) ss r = refl

    -- off a rigid term is read what is read off its arguments
    pub rigid_image_read : {Hint : Type 0} (h : Head ℕ) (ts : Terms ℕ Hint) → is_flexible ys h ≡ false → can_read us (image_by (but us f) (forget (spine h ts))) ≡ can_read_one us (image_all_by (but us f) (forget_all ts))
    rigid_image_read h ts r = ap (can_read us) (rigid_stays (but us f) but_none h (image_all_by (but us f) (forget_all ts)) r) ∙ rigid_read h (image_all_by (but us f) (forget_all ts)) r

    module _ {Hint : Type 0} where
      at_variable : (z : Variable ℕ) (ts : Terms ℕ Hint) → patterns_at ys (variable z) ts (all_have_patterns ys ts) ≡ true → can_read us (image_by (but us f) (forget (spine (variable z) ts))) ≡ false
          → (all_have_patterns ys ts ≡ true → can_read_one us (image_all_by (but us f) (forget_all ts)) ≡ false → (y : Variable ℕ) → holds us y ≡ true → holds (variables_of_all ts) y ≡ false)
          → HasNoneOf us (spine (variable z) ts)
      at_variable z ts p r rest = go (holds ys z) refl
        where
          -- a pattern of one of them would be read
          patterned : (names : List (Head ℕ)) → pattern z.type ts ≡ Some names → (b : Bool) → holds us z ≡ b → HasNoneOf us (spine (variable z) ts)
          patterned names e true h =
              let q = is_pattern z.type ts names e in
              let stays : image_by (but us f) (forget (spine (variable z) ts)) ≡ spine (variable z) (forget_all ts) =
              ap (put_for z (but us f z)) (image_pattern (but us f) (forget_pattern q)) ∙ ap (λ b. put_for z (cond b None (f z)) (forget_all ts)) h in
              let seen : can_read us (spine (variable z) (forget_all ts)) ≡ true = ap (λ b. cond b (is_some (pattern z.type (forget_all ts))) (can_read_one us (forget_all ts))) h ∙ ap is_some (pattern_back (forget_pattern q)) in
              absurd (false≢true (sym r ∙ ap (can_read us) stays ∙ seen))
          patterned names e false h = λ y u. no_both (z ∷ []) (variables_of_all ts) y (head_alone us z h y u) (ap (λ l. holds l y) (pattern_rigid (is_pattern z.type ts names e)))

          some : (o : Option (List (Head ℕ))) → pattern z.type ts ≡ o → is_some o ≡ true → HasNoneOf us (spine (variable z) ts)
          some None e s = absurd (false≢true s)
          some (Some names) e s = patterned names e (holds us z) refl

          go : (b : Bool) → holds ys z ≡ b → HasNoneOf us (spine (variable z) ts)
          go true h = some (pattern z.type ts) refl (ap (λ b. cond b (is_some (pattern z.type ts)) (all_have_patterns ys ts)) (sym h) ∙ p)
          go false h = λ y u. no_both (z ∷ []) (variables_of_all ts) y (head_alone us z (not_among z h) y u) (rest (ap (λ b. cond b (is_some (pattern z.type ts)) (all_have_patterns ys ts)) (sym h) ∙ p) (sym (rigid_image_read (variable z) ts h) ∙ r) y u)

      -- WHERE ALL IS PATTERNS, what can't be read off doesn't stand there
      mutual
        pub unread_absent : (t : Term ℕ Hint) → has_patterns ys t ≡ true → can_read us (image_by (but us f) (forget t)) ≡ false → HasNoneOf us t
        unread_absent (lam A x t) p r = unread_absent t p r
        unread_absent (spine (constant c) ts) p r = unread_all_absent ts p r
        unread_absent (spine (logical l) ts) p r = unread_all_absent ts p r
        unread_absent (spine (nominal a) ts) p r = unread_all_absent ts p r
        unread_absent (spine (variable z) ts) p r = at_variable z ts p r (λ q s. unread_all_absent ts q s)
        unread_absent (spine (index i) ts) p r = unread_all_absent ts p r

        unread_all_absent : (ts : Terms ℕ Hint) → all_have_patterns ys ts ≡ true → can_read_one us (image_all_by (but us f) (forget_all ts)) ≡ false → (y : Variable ℕ) → holds us y ≡ true → holds (variables_of_all ts) y ≡ false
        unread_all_absent no_terms p r y u = refl
        unread_all_absent (term t ts) p r y u =
            let ps = and_parts (has_patterns ys t) (all_have_patterns ys ts) p in
            let rs = or_parts (can_read us (image_by (but us f) (forget t))) (can_read_one us (image_all_by (but us f) (forget_all ts))) r in
            no_both (variables t) (variables_of_all ts) y (unread_absent t ps.0 rs.0 y u) (unread_all_absent ts ps.1 rs.1 y u)

-- a term that none of them stands in doesn't depend on them
pub absent_alike : {Hint : Type 0} (us : List (Variable ℕ)) (f : Guess) (t : Term ℕ Hint) → HasNoneOf us t → image_by (but us f) (forget t) ≡ image_by f (forget t)
absent_alike us f t n = image_agrees (but us f) f (forget t) (λ y m. ap (λ b. cond b None (f y)) (false_from_ne_true (holds us y) (λ u. false≢true (sym (n y u) ∙ ap (λ l. holds l y) (sym (variables-forget t)) ∙ m))))
