-- READING GOES THROUGH what is put in: where some variables become others, and what is put in for the rest keeps what can be read off its
-- arguments, then what can be read off a term can be read off what becomes of it.
use Rattle.std.proofs.Common.{◌≡◌, inl, inr, ℕ, List, [], ◌∷◌, ◌++◌, Bool, true, false, cond, Option, Some, None, is_some, refl, sym, ◌∙◌, ap, subst}
use Rattle.std.proofs.lemmas.Bool.{false≢true, or_cases, or_left, or_right}
use Rattle.ab_term.specs.Types.{Ty, kind}
use Rattle.ab_term.specs.Terms.{Variable, Head, constant, logical, nominal, variable, index, spine, Terms, no_terms}
use Rattle.ab_term.specs.Typing.{Signature, HasType, TakeType, typed_lam, typed_spine, take_none, take_term}
use Rattle.ab_term.specs.Substitution.{reduce}
use Rattle.ab_term.specs.Variables.{variables, variables_of_all, put_for, image_by, image_all_by}
use Rattle.ab_term.specs.Sameness.{same_numbered}
use Rattle.ab_term.proofs.Expansions.{reduce-expansion_of}
use Rattle.ab_term.proofs.Images.{IsTypedMap, image_all_by_typed}
use Rattle.ab_term.proofs.Same.{same_numbered-Decides}
use Rattle.ab_unifiers.specs.Patterns.{pattern}
use Rattle.ab_unifiers.specs.Replacements.{holds}
use Rattle.ab_unifiers.proofs.Agreeing.{holds_front, holds_behind, image_pattern}
use Rattle.ab_unifiers.proofs.Past.{bare_own}
use Rattle.ab_unifiers.proofs.Views.{is_pattern}
use Rattle.ab_search_trees.specs.Lifting.{Guess}
use Rattle.ab_pattern_matching.specs.Reading.{can_read, can_read_one}
use Rattle.ab_pattern_matching.specs.Raising.{Bare}

-- the term of that type, given arguments, keeps what can be read off them
abbrev pub Passes : Signature → List (Variable ℕ) → Ty → Bare → Type 0
Passes sg us A v = (G : List Ty) (c : List ℕ) (ts : Terms ℕ (Unit {0})) → TakeType sg G ts A (kind c) → can_read_one us ts ≡ true → can_read us (reduce A v ts) ≡ true

module _ (sg : Signature) (firsts seconds : List (Variable ℕ)) (f : Guess) (typed : IsTypedMap sg f)
    (moved : (y : Variable ℕ) → holds firsts y ≡ true → (z : Variable ℕ) × (z.type ≡ y.type) × (holds seconds z ≡ true) × (f y ≡ Some (bare_own z))) where
  -- a variable of the term is one of the first, or something is put in for it that keeps what can be read
  abbrev pub Known : List (Variable ℕ) → Type 0
  Known ys = (y : Variable ℕ) → holds ys y ≡ true → holds firsts y ≡ false → (v : Bare) × (f y ≡ Some v) × Passes sg seconds y.type v

  known_front : (ys zs : List (Variable ℕ)) → Known (ys ++ zs) → Known ys
  known_front ys zs k y h n = k y (holds_front ys zs y h) n

  known_behind : (ys zs : List (Variable ℕ)) → Known (ys ++ zs) → Known zs
  known_behind ys zs k y h n = k y (holds_behind ys zs y h) n

  -- one of the first, given names
  one_moved : (G : List Ty) (c : List ℕ) (y z : Variable ℕ) (ts : Terms ℕ (Unit {0})) → z.type ≡ y.type → holds seconds z ≡ true → TakeType sg G ts y.type (kind c) → is_some (pattern y.type ts) ≡ true → can_read seconds (reduce y.type (bare_own z) (image_all_by f ts)) ≡ true
  one_moved G c y z ts e h ds r = go (pattern y.type ts) refl r
    where
      go : (o : Option (List (Head ℕ))) → pattern y.type ts ≡ o → is_some o ≡ true → can_read seconds (reduce y.type (bare_own z) (image_all_by f ts)) ≡ true
      go None q s = absurd (false≢true s)
      go (Some hs) q s =
          ap (λ l. can_read seconds (reduce y.type (bare_own z) l)) (image_pattern f (is_pattern y.type ts hs q))
          ∙ ap (λ A. can_read seconds (reduce A (bare_own z) ts)) (sym e)
          ∙ ap (can_read seconds) (reduce-expansion_of sg ℕ z.type G (variable z) no_terms ts c (subst (λ A. TakeType sg G ts A (kind c)) (sym e) ds))
          ∙ ap (λ b. cond b (is_some (pattern z.type ts)) (can_read_one seconds ts)) h
          ∙ ap (λ A. is_some (pattern A ts)) e
          ∙ r

  at_variable : (G : List Ty) (c : List ℕ) (y : Variable ℕ) (ts : Terms ℕ (Unit {0})) → TakeType sg G ts y.type (kind c) → Known (variables (spine (variable y) ts))
      → (can_read_one firsts ts ≡ true → can_read_one seconds (image_all_by f ts) ≡ true) → can_read firsts (spine (variable y) ts) ≡ true → can_read seconds (image_by f (spine (variable y) ts)) ≡ true
  at_variable G c y ts ds k rest r = go (holds firsts y) refl
    where
      go : (b : Bool) → holds firsts y ≡ b → can_read seconds (put_for y (f y) (image_all_by f ts)) ≡ true
      go true h =
          let m = moved y h in
          ap (λ o. can_read seconds (put_for y o (image_all_by f ts))) m.3
          ∙ one_moved G c y m.0 ts m.1 m.2 ds (sym (ap (λ b. cond b (is_some (pattern y.type ts)) (can_read_one firsts ts)) h) ∙ r)
      go false h =
          let m = k y (or_left (same_numbered y y) (holds (variables_of_all ts) y) ((same_numbered-Decides y y).1 refl)) h in
          ap (λ o. can_read seconds (put_for y o (image_all_by f ts))) m.1
          ∙ m.2 G c (image_all_by f ts) (image_all_by_typed sg ℕ (Unit {0}) f typed ds) (rest (sym (ap (λ b. cond b (is_some (pattern y.type ts)) (can_read_one firsts ts)) h) ∙ r))

  mutual
    pub read_through : {G : List Ty} {t : Bare} {A : Ty} → HasType sg G t A → Known (variables t) → can_read firsts t ≡ true → can_read seconds (image_by f t) ≡ true
    read_through (typed_lam d) k r = read_through d k r
    read_through (typed_spine {h = constant b} e ds) k r = read_one_through ds k r
    read_through (typed_spine {h = logical l} e ds) k r = read_one_through ds k r
    read_through (typed_spine {h = nominal a} e ds) k r = read_one_through ds k r
    read_through (typed_spine {h = index i} e ds) k r = read_one_through ds k r
    read_through {G = G} (typed_spine {A = D} {h = variable y} {ts = ts} {k = c} e ds) k r =
        let same : D ≡ y.type = cc in
        at_variable G c y ts (subst (λ A. TakeType sg G ts A (kind c)) same ds) k (λ q. read_one_through ds (known_behind (y ∷ []) (variables_of_all ts) k) q) r

    read_one_through : {G : List Ty} {ts : Terms ℕ (Unit {0})} {A B : Ty} → TakeType sg G ts A B → Known (variables_of_all ts) → can_read_one firsts ts ≡ true → can_read_one seconds (image_all_by f ts) ≡ true
    read_one_through take_none k r = absurd (false≢true r)
    read_one_through (take_term {t = t} {ts = ts} d ds) k r = elim (or_cases (can_read firsts t) (can_read_one firsts ts) r) [
      | inl a ↦ or_left (can_read seconds (image_by f t)) (can_read_one seconds (image_all_by f ts)) (read_through d (known_front (variables t) (variables_of_all ts) k) a)
      | inr a ↦ or_right (can_read seconds (image_by f t)) (can_read_one seconds (image_all_by f ts)) (read_one_through ds (known_behind (variables t) (variables_of_all ts) k) a)
    ]
