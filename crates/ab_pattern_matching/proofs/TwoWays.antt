-- TWO WAYS OF RAISING ONE PROBLEM: what is read off in turn in the first is so in the second.
use Rattle.std.proofs.Common.{◌≡◌, ◌⊎◌, inl, inr, ℕ, List, [], ◌∷◌, ◌++◌, map, filter, Bool, true, false, cond, Some, None, option_map, refl, sym, ◌∙◌, ap, subst}
use Rattle.std.specs.Prelude.{Contains}
use Rattle.std.proofs.lemmas.Bool.{false≢true, or_cases, or_left, or_right, false_from_ne_true}
use Rattle.ab_term.specs.Types.{Ty}
use Rattle.ab_term.specs.Terms.{Nominal, Variable, Head, constant, logical, nominal, variable, index, lam, spine, Terms, no_terms, term}
use Rattle.ab_term.specs.Typing.{Signature, HasType}
use Rattle.ab_term.specs.Names.{moved_by, rename_head, rename, rename_all, permute, support}
use Rattle.ab_term.specs.Translation.{forget}
use Rattle.ab_term.specs.Variables.{variables_of_head, variables, variables_of_all, image_by}
use Rattle.ab_term.specs.Sameness.{same_numbered}
use Rattle.ab_term.specs.Abstraction.{over, name_terms}
use Rattle.ab_term.proofs.Compositions.{then_by, image_composed}
use Rattle.ab_term.proofs.Depends.{image_unmoved}
use Rattle.ab_term.proofs.Hinted.{given_typed}
use Rattle.ab_term.proofs.Images.{IsTypedMap, image_by_typed}
use Rattle.ab_term.proofs.Lists.{Contains-none, Contains-here, Contains-there}
use Rattle.ab_term.proofs.Permutations.{swapped, one_to_one}
use Rattle.ab_term.proofs.Renamings.{rename-image_by, rename_typed}
use Rattle.ab_term.proofs.Same.{same_numbered-Decides}
use Rattle.ab_unifiers.specs.Replacements.{holds}
use Rattle.ab_unifiers.specs.Unification.{Equation}
use Rattle.ab_unifiers.specs.Clauses.{Each, Within}
use Rattle.ab_unifiers.proofs.Agreeing.{contains_holds, image_agrees}
use Rattle.ab_unifiers.proofs.Constants as constants
use Rattle.ab_unifiers.proofs.General.{AllAlike}
use Rattle.ab_unifiers.proofs.Variables as stand
use Rattle.ab_search_trees.specs.Lifting.{Guess}
use Rattle.ab_search_trees.proofs.Lifts.{filter_held, filter_from}
use Rattle.ab_pattern_matching.specs.Reading.{can_read, HasNoneOf, but, NoneRead, NoneMatters, ReadInTurn, LeftsWithout}
use Rattle.ab_pattern_matching.specs.Raising.{Bare, Raising, raised, raised_term, raising, AreRaised, IsApart, AreRaisings}
use Rattle.ab_pattern_matching.proofs.Going.{but_typed}
use Rattle.ab_pattern_matching.proofs.Parts.{image_still}
use Rattle.ab_pattern_matching.proofs.Raised.{raising_typed, raised_stays, raised_absent, read_too}

-- WHAT BECOMES OF LISTS OF VARIABLES
pub held_map : (g : Variable ℕ → Variable ℕ) (ws : List (Variable ℕ)) (w : Variable ℕ) → holds ws w ≡ true → holds (map g ws) (g w) ≡ true
held_map g [] w h = h
held_map g (v ∷ ws) w h = elim (or_cases (same_numbered v w) (holds ws w) h) [
  | inl s ↦ or_left (same_numbered (g v) (g w)) (holds (map g ws) (g w)) ((same_numbered-Decides (g v) (g w)).1 (ap g ((same_numbered-Decides v w).0 s)))
  | inr i ↦ or_right (same_numbered (g v) (g w)) (holds (map g ws) (g w)) (held_map g ws w i)
]

pub map_held : (g : Variable ℕ → Variable ℕ) (ws : List (Variable ℕ)) (y : Variable ℕ) → holds (map g ws) y ≡ true → (w : Variable ℕ) × (holds ws w ≡ true) × (g w ≡ y)
map_held g [] y h = absurd (false≢true h)
map_held g (v ∷ ws) y h = elim (or_cases (same_numbered (g v) y) (holds (map g ws) y) h) [
  | inl s ↦ (v, or_left (same_numbered v v) (holds ws v) ((same_numbered-Decides v v).1 refl), (same_numbered-Decides (g v) y).0 s)
  | inr i ↦ (let r = map_held g ws y i in (r.0, or_right (same_numbered v r.0) (holds ws r.0) r.1, r.2))
]

pub test_from : (test : Variable ℕ → Bool) (ys : List (Variable ℕ)) (y : Variable ℕ) → holds (filter test ys) y ≡ true → test y ≡ true
test_from test [] y h = absurd (false≢true h)
test_from test (z ∷ ys) y h = go (test z) refl h (λ i. test_from test ys y i)
  where
    go : (b : Bool) → test z ≡ b → holds (cond b (z ∷ filter test ys) (filter test ys)) y ≡ true → (holds (filter test ys) y ≡ true → test y ≡ true) → test y ≡ true
    go true t h rest = elim (or_cases (same_numbered z y) (holds (filter test ys) y) h) [ inl s ↦ sym (ap test ((same_numbered-Decides z y).0 s)) ∙ t | inr i ↦ rest i ]
    go false t h rest = rest h

pub filtered : (test : Variable ℕ → Bool) (ys : List (Variable ℕ)) (y : Variable ℕ) → holds ys y ≡ true → test y ≡ holds (filter test ys) y
filtered test ys y h = go (test y) refl
  where
    go : (b : Bool) → test y ≡ b → test y ≡ holds (filter test ys) y
    go true t = t ∙ sym (filter_held test ys y h t)
    go false t = t ∙ sym (false_from_ne_true (holds (filter test ys) y) (λ i. false≢true (sym t ∙ test_from test ys y i)))

-- renamed constants are no variables
head_same : (m : Nominal → Nominal) (h : Head ℕ) → variables_of_head (rename_head m h) ≡ variables_of_head h
head_same m (constant c) = refl
head_same m (logical l) = refl
head_same m (nominal a) = refl
head_same m (variable y) = refl
head_same m (index i) = refl

mutual
  pub variables_same : (m : Nominal → Nominal) (t : Bare) → variables (rename m t) ≡ variables t
  variables_same m (lam A x t) = variables_same m t
  variables_same m (spine h ts) = ap (λ l. l ++ variables_of_all (rename_all m ts)) (head_same m h) ∙ ap (λ l. variables_of_head h ++ l) (all_variables_same m ts)

  all_variables_same : (m : Nominal → Nominal) (ts : Terms ℕ (Unit {0})) → variables_of_all (rename_all m ts) ≡ variables_of_all ts
  all_variables_same m no_terms = refl
  all_variables_same m (term t ts) = ap (λ l. l ++ variables_of_all (rename_all m ts)) (variables_same m t) ∙ ap (λ l. variables t ++ l) (all_variables_same m ts)

-- a raised term holds the new variable alone
pub only_raised : (r : Raising) (w y : Variable ℕ) → holds (variables (raised_term r w)) y ≡ true → y ≡ raised r w
only_raised r w y h = stand.has_held (λ z. z ≡ raised r w) (raised_term r w)
    (stand.expansion_of_has (λ z. z ≡ raised r w) tt w.type (variable (raised r w)) (name_terms tt (over r.constants w.type) (map nominal r.constants)) refl (stand.name_terms_have (λ z. z ≡ raised r w) tt (over r.constants w.type) r.constants)) y h

-- ONE WAY OF RAISING, with terms for all but some of the raised variables
module _ (sg : Signature) (ws : List (Variable ℕ)) (r : Raising) (f : Guess) (typed : IsTypedMap sg f) where
  -- what is put in for a variable, through the raised one
  abbrev pub value_of : Guess
  value_of y = cond (holds ws y) (Some (image_by f (raised_term r y))) None

  pub value_typed : IsTypedMap sg value_of
  value_typed y u e = go (holds ws y) e
    where
      go : (b : Bool) → cond b (Some (image_by f (raised_term r y))) None ≡ Some u → HasType sg [] u y.type
      go true e = let same : image_by f (raised_term r y) ≡ u = cc in subst (λ t. HasType sg [] t y.type) same (image_by_typed sg ℕ (Unit {0}) f typed (given_typed sg tt [] (raised r y) r.constants y.type refl))
      go false e = absurd (cc)

  module _ (us vs : List (Variable ℕ)) (within : Within vs ws) (alike : (w : Variable ℕ) → holds ws w ≡ true → holds us (raised r w) ≡ holds vs w) (stays : (w : Variable ℕ) → holds ws w ≡ true → HasNoneOf vs (image_by f (raised_term r w))) where
    at_variable : (y : Variable ℕ) → (holds ws y ≡ false → but us f y ≡ None) → then_by (but us f) y (raising r ws y) ≡ then_by (raising r vs) y (but vs value_of y)
    at_variable y out = go (holds ws y) refl (holds vs y) refl
      where
        go : (b : Bool) → holds ws y ≡ b → (c : Bool) → holds vs y ≡ c → then_by (but us f) y (cond b (Some (raised_term r y)) None) ≡ then_by (raising r vs) y (cond c None (cond b (Some (image_by f (raised_term r y))) None))
        go true h true i =
            ap Some (image_unmoved (but us f) (raised_term r y) (λ z m. ap (but us f) (only_raised r y z (contains_holds (variables (raised_term r y)) z m)) ∙ ap (λ b. cond b None (f (raised r y))) (alike y h ∙ i)))
            ∙ sym (ap (λ b. cond b (Some (raised_term r y)) None) i)
        go true h false i =
            ap Some
            (image_agrees (but us f) f (raised_term r y) (λ z m. let same = only_raised r y z m in ap (but us f) same ∙ ap (λ b. cond b None (f (raised r y))) (alike y h ∙ i) ∙ ap f (sym same))
            ∙ sym (raised_stays sg r vs (image_by f (raised_term r y)) (stays y h)))
        go false h true i = absurd (false≢true (sym h ∙ within y i))
        go false h false i = out h ∙ sym (ap (λ b. cond b (Some (raised_term r y)) None) i)

    pub in_steps : {G : List Ty} {t : Bare} {A : Ty} → HasType sg G t A → ((y : Variable ℕ) → holds (variables t) y ≡ true → holds ws y ≡ false → but us f y ≡ None) → image_by (but us f) (image_by (raising r ws) t) ≡ image_by (raising r vs) (image_by (but vs value_of) t)
    in_steps {t = t} d out =
        image_composed sg ℕ (Unit {0}) (raising r ws) (but us f) (raising_typed sg r ws) (but_typed sg us f typed) d
        ∙ image_agrees (λ y. then_by (but us f) y (raising r ws y)) (λ y. then_by (raising r vs) y (but vs value_of y)) t (λ y m. at_variable y (out y m))
        ∙ sym (image_composed sg ℕ (Unit {0}) (but vs value_of) (raising r vs) (but_typed sg vs value_of value_typed) (raising_typed sg r vs) d)

  -- with terms for all of them
  pub all_in : {G : List Ty} {t : Bare} {A : Ty} → HasType sg G t A → ((y : Variable ℕ) → holds (variables t) y ≡ true → holds ws y ≡ false → f y ≡ None) → image_by f (image_by (raising r ws) t) ≡ image_by value_of t
  all_in {t = t} d out =
      in_steps [] [] (λ y h. absurd (false≢true h)) (λ w h. refl) (λ w h y i. absurd (false≢true i)) d out
      ∙ raised_stays sg r [] (image_by value_of t) (λ y h. absurd (false≢true h))

-- ONE TERM, RAISED IN TWO WAYS
module _ (sg : Signature) (ws : List (Variable ℕ)) (ts : List Bare) (r s : Raising) (f g : Guess) (ps : List (Nominal × Nominal)) (two : AreRaisings sg ws ts r s f ps)
    (f_typed : IsTypedMap sg f) (f_nameless : (y : Variable ℕ) (v : Bare) → f y ≡ Some v → support v ≡ []) (agree : (w : Variable ℕ) → holds ws w ≡ true → image_by g (raised_term s w) ≡ permute ps (image_by f (raised_term r w))) (g_typed : IsTypedMap sg g) (g_none : (y : Variable ℕ) → holds (map (raised s) ws) y ≡ false → g y ≡ None) where
  abbrev first_value : Guess
  first_value = value_of sg ws r f f_typed

  abbrev second_value : Guess
  second_value = value_of sg ws s g g_typed

  value_apart : (w : Variable ℕ) → holds ws w ≡ true → (vs : List (Variable ℕ)) → Within vs ws → HasNoneOf vs (image_by f (raised_term r w))
  value_apart w h vs within y i = false_from_ne_true (holds (variables (image_by f (raised_term r w))) y) (λ m. false≢true (sym (two.values w h y m).itself ∙ within y i))

  second_apart : (w : Variable ℕ) → holds ws w ≡ true → (vs : List (Variable ℕ)) → Within vs ws → HasNoneOf vs (image_by g (raised_term s w))
  second_apart w h vs within y i = ap (λ t. holds (variables t) y) (agree w h) ∙ ap (λ l. holds l y) (variables_same (moved_by ps) (image_by f (raised_term r w))) ∙ value_apart w h vs within y i

  -- what is put in second is what is put in first, its constants renamed
  values_renamed : (vs : List (Variable ℕ)) (t : Bare) → rename (moved_by ps) (image_by (but vs first_value) t) ≡ image_by (but vs second_value) (rename (moved_by ps) t)
  values_renamed vs t = rename-image_by (moved_by ps) (but vs first_value) t ∙ ap (λ h. image_by h (rename (moved_by ps) t)) (λ i y. at y i)
    where
      at : (y : Variable ℕ) → option_map (rename (moved_by ps)) (but vs first_value y) ≡ but vs second_value y
      at y = go (holds vs y) (holds ws y) refl
        where
          go : (b c : Bool) → holds ws y ≡ c → option_map (rename (moved_by ps)) (cond b None (cond c (Some (image_by f (raised_term r y))) None)) ≡ cond b None (cond c (Some (image_by g (raised_term s y))) None)
          go true c h = refl
          go false true h = ap Some (sym (agree y h))
          go false false h = refl

  out_first : (t : Bare) → Contains ts t → (us : List (Variable ℕ)) (y : Variable ℕ) → holds (variables t) y ≡ true → holds ws y ≡ false → but us f y ≡ None
  out_first t there us y m h = elim (two.standing t there y m) [ inl a ↦ absurd (false≢true (sym h ∙ a)) | inr a ↦ go (holds us y) a.1 ]
    where
      go : (b : Bool) → f y ≡ None → cond b None (f y) ≡ None
      go true e = refl
      go false e = e

  out_second : (t : Bare) → Contains ts t → (us : List (Variable ℕ)) (y : Variable ℕ) → holds (variables (rename (moved_by ps) t)) y ≡ true → holds ws y ≡ false → but us g y ≡ None
  out_second t there us y m h = elim (two.standing t there y (ap (λ l. holds l y) (sym (variables_same (moved_by ps) t)) ∙ m)) [ inl a ↦ absurd (false≢true (sym h ∙ a)) | inr a ↦ go (holds us y) (g_none y a.0.second) ]
    where
      go : (b : Bool) → g y ≡ None → cond b None (g y) ≡ None
      go true e = refl
      go false e = e

  -- what stands there, once terms are put in for all but some
  stands_in : (vs : List (Variable ℕ)) → Within vs ws → (t : Bare) → Contains ts t → (y : Variable ℕ) → holds (variables (image_by (but vs first_value) t)) y ≡ true → (holds vs y ≡ true) ⊎ IsApart ws r s y
  stands_in vs within t there = stand.has_held Q (image_by (but vs first_value) t)
      (stand.image_by_has P Q (but vs first_value) (λ y u e. value y u (holds vs y) (holds ws y) refl e) (λ y e p. kept y (holds vs y) refl e p) t (stand.held_has P t (λ y m. before y (two.standing t there y m))))
    where
      P : Variable ℕ → Type 0
      P y = (holds ws y ≡ true) ⊎ IsApart ws r s y

      Q : Variable ℕ → Type 0
      Q y = (holds vs y ≡ true) ⊎ IsApart ws r s y

      before : (y : Variable ℕ) → (holds ws y ≡ true) ⊎ (IsApart ws r s y × (f y ≡ None)) → (holds ws y ≡ true) ⊎ IsApart ws r s y
      before y (inl a) = inl a
      before y (inr a) = inr a.0

      value : (y : Variable ℕ) (u : Bare) (b c : Bool) → holds ws y ≡ c → cond b None (cond c (Some (image_by f (raised_term r y))) None) ≡ Some u → stand.Has (λ z. (holds vs z ≡ true) ⊎ IsApart ws r s z) u
      value y u true c h e = absurd (cc)
      value y u false true h e = let same : image_by f (raised_term r y) ≡ u = cc in subst (stand.Has (λ z. (holds vs z ≡ true) ⊎ IsApart ws r s z)) same (stand.held_has (λ z. (holds vs z ≡ true) ⊎ IsApart ws r s z) (image_by f (raised_term r y)) (λ z m. inr (two.values y h z m)))
      value y u false false h e = absurd (cc)

      kept : (y : Variable ℕ) (b : Bool) → holds vs y ≡ b → cond b None (value_of sg ws r f f_typed y) ≡ None → (holds ws y ≡ true) ⊎ IsApart ws r s y → (holds vs y ≡ true) ⊎ IsApart ws r s y
      kept y true h e p = inl h
      kept y false h e (inl a) = absurd (let some : Some (image_by f (raised_term r y)) ≡ None = sym (ap (λ b. cond b (Some (image_by f (raised_term r y))) None) a) ∙ e in cc)
      kept y false h e (inr a) = inr a

  constants_in : (vs : List (Variable ℕ)) (t : Bare) → Contains ts t → (a : Nominal) → Contains (support (image_by (but vs first_value) t)) a → Contains r.constants a ⊎ ¬ (Contains s.constants (moved_by ps a))
  constants_in vs t there = constants.has_support K (image_by (but vs first_value) t) (constants.image_by_has K (but vs first_value) (λ y u e. value y u (holds vs y) (holds ws y) e) t (constants.support_has K t (two.constants t there)))
    where
      K : Nominal → Type 0
      K a = Contains r.constants a ⊎ ¬ (Contains s.constants (moved_by ps a))

      inner : (y : Variable ℕ) → constants.Has (λ a. Contains r.constants a ⊎ ¬ (Contains s.constants (moved_by ps a))) (image_by f (raised_term r y))
      inner y = constants.image_by_has (λ a. Contains r.constants a ⊎ ¬ (Contains s.constants (moved_by ps a))) f
          (λ z u e. constants.support_has (λ a. Contains r.constants a ⊎ ¬ (Contains s.constants (moved_by ps a))) u (λ a m. absurd (Contains-none a (subst (λ l. Contains l a) (f_nameless z u e) m))))
          (raised_term r y)
          (constants.expansion_of_has (λ a. Contains r.constants a ⊎ ¬ (Contains s.constants (moved_by ps a))) tt y.type (variable (raised r y)) (name_terms tt (over r.constants y.type) (map nominal r.constants)) tt
          (constants.name_terms_have (λ a. Contains r.constants a ⊎ ¬ (Contains s.constants (moved_by ps a))) tt (over r.constants y.type) r.constants (λ a m. inl m)))

      value : (y : Variable ℕ) (u : Bare) (b c : Bool) → cond b None (cond c (Some (image_by f (raised_term r y))) None) ≡ Some u → constants.Has (λ a. Contains r.constants a ⊎ ¬ (Contains s.constants (moved_by ps a))) u
      value y u true c e = absurd (cc)
      value y u false true e = let same : image_by f (raised_term r y) ≡ u = cc in subst (constants.Has (λ a. Contains r.constants a ⊎ ¬ (Contains s.constants (moved_by ps a)))) same (inner y)
      value y u false false e = absurd (cc)

  -- SOME OF THE SECOND'S VARIABLES, and those of which they become
  module _ (seconds : List (Variable ℕ)) (seconds_in : Within seconds (map (raised s) ws)) where
    abbrev chosen : List (Variable ℕ)
    chosen = filter (λ w. holds seconds (raised s w)) ws

    abbrev pub firsts : List (Variable ℕ)
    firsts = map (raised r) (filter (λ w. holds seconds (raised s w)) ws)

    chosen_in : Within (filter (λ w. holds seconds (raised s w)) ws) ws
    chosen_in y h = filter_from (λ w. holds seconds (raised s w)) ws y h

    pub firsts_in : Within (map (raised r) (filter (λ w. holds seconds (raised s w)) ws)) (map (raised r) ws)
    firsts_in y h = let at = map_held (raised r) (filter (λ w. holds seconds (raised s w)) ws) y h in subst (λ v. holds (map (raised r) ws) v ≡ true) at.2 (held_map (raised r) ws at.0 (chosen_in at.0 at.1))

    second_alike : (w : Variable ℕ) → holds ws w ≡ true → holds seconds (raised s w) ≡ holds (filter (λ w. holds seconds (raised s w)) ws) w
    second_alike w h = filtered (λ w. holds seconds (raised s w)) ws w h

    first_alike : (w : Variable ℕ) → holds ws w ≡ true → holds (map (raised r) (filter (λ w. holds seconds (raised s w)) ws)) (raised r w) ≡ holds (filter (λ w. holds seconds (raised s w)) ws) w
    first_alike w h = go (holds chosen w) refl
      where
        go : (b : Bool) → holds (filter (λ w. holds seconds (raised s w)) ws) w ≡ b → holds (map (raised r) (filter (λ w. holds seconds (raised s w)) ws)) (raised r w) ≡ holds (filter (λ w. holds seconds (raised s w)) ws) w
        go true i = held_map (raised r) chosen w i ∙ sym i
        go false i = false_from_ne_true (holds (map (raised r) chosen) (raised r w)) (λ m.
            let at = map_held (raised r) chosen (raised r w) m in
            let same : at.0 ≡ w = two.numbers at.0 w (chosen_in at.0 at.1) h (inl (ap (λ v. v.name) at.2)) in
            false≢true (sym i ∙ subst (λ v. holds chosen v ≡ true) same at.1)) ∙ sym i

    module _ (t : Bare) (there : Contains ts t) (u v : Bare) (first : u ≡ image_by (raising r ws) t) (second : v ≡ image_by (raising s ws) (rename (moved_by ps) t)) where
      d : HasType sg (two.typed t there).0 t (two.typed t there).1
      d = (two.typed t there).2

      d2 : HasType sg (two.typed t there).0 (rename (moved_by ps) t) (two.typed t there).1
      d2 = rename_typed sg (moved_by ps) (one_to_one ps two.permutation).keeps (two.typed t there).2

      in_first : image_by (but firsts f) u ≡ image_by (raising r chosen) (image_by (but chosen first_value) t)
      in_first = ap (image_by (but firsts f)) first ∙ in_steps sg ws r f f_typed firsts chosen chosen_in first_alike (λ w h. value_apart w h chosen chosen_in) d (out_first t there firsts)

      pub first_whole : image_by f u ≡ image_by first_value t
      first_whole = ap (image_by f) first ∙ all_in sg ws r f f_typed d (out_first t there [])

      in_second : image_by (but seconds g) v ≡ image_by (raising s chosen) (rename (moved_by ps) (image_by (but chosen first_value) t))
      in_second =
          ap (image_by (but seconds g)) second
          ∙ in_steps sg ws s g g_typed seconds chosen chosen_in second_alike (λ w h. second_apart w h chosen chosen_in) d2 (out_second t there seconds)
          ∙ ap (image_by (raising s chosen)) (sym (values_renamed chosen t))

      pub second_whole : image_by g v ≡ rename (moved_by ps) (image_by first_value t)
      second_whole = ap (image_by g) second ∙ all_in sg ws s g g_typed d2 (out_second t there []) ∙ sym (values_renamed [] t)

      typed_in : HasType sg (two.typed t there).0 (image_by (but chosen first_value) t) (two.typed t there).1
      typed_in = image_by_typed sg ℕ (Unit {0}) (but chosen first_value) (but_typed sg chosen first_value (value_typed sg ws r f f_typed)) d

      apart_held : (y : Variable ℕ) → IsApart ws r s y → (holds firsts y ≡ false) × (holds seconds y ≡ false)
      apart_held y a = (false_from_ne_true (holds firsts y) (λ m. false≢true (sym a.first ∙ firsts_in y m)), false_from_ne_true (holds seconds y) (λ m. false≢true (sym a.second ∙ seconds_in y m)))

      -- what can't be read off the second can't be read off the first
      pub unread_first : can_read seconds (image_by (but seconds g) v) ≡ false → can_read firsts (image_by (but firsts f) u) ≡ false
      unread_first e = false_from_ne_true (can_read firsts (image_by (but firsts f) u)) (λ c.
          false≢true (sym e ∙ ap (can_read seconds) in_second ∙
          read_too sg r s chosen firsts seconds (moved_by ps) (moved_by (swapped ps)) (one_to_one ps two.permutation) two.different
          (λ w h. first_alike w (chosen_in w h) ∙ h) (λ w h. second_alike w (chosen_in w h) ∙ h) typed_in
          (λ y m. kept y (stands_in chosen chosen_in t there y m), constants_in chosen t there)
          (ap (can_read firsts) (sym in_first) ∙ c)))
        where
          kept : (y : Variable ℕ) → (holds (filter (λ w. holds seconds (raised s w)) ws) y ≡ true) ⊎ IsApart ws r s y → (holds (filter (λ w. holds seconds (raised s w)) ws) y ≡ true) ⊎ ((holds (map (raised r) (filter (λ w. holds seconds (raised s w)) ws)) y ≡ false) × (holds seconds y ≡ false))
          kept y (inl a) = inl a
          kept y (inr a) = inr (apart_held y a)

      -- what doesn't matter to the first doesn't to the second
      pub matterless_second : image_by (but firsts f) u ≡ image_by f u → image_by (but seconds g) v ≡ image_by g v
      matterless_second e =
          in_second
          ∙ raised_stays sg s chosen (rename (moved_by ps) (image_by (but chosen first_value) t)) (λ y h. ap (λ l. holds l y) (variables_same (moved_by ps) (image_by (but chosen first_value) t)) ∙ absent y h)
          ∙ ap (rename (moved_by ps)) whole
          ∙ sym second_whole
        where
          same : image_by (raising r (filter (λ w. holds seconds (raised s w)) ws)) (image_by (but (filter (λ w. holds seconds (raised s w)) ws) (value_of sg ws r f f_typed)) t) ≡ image_by (value_of sg ws r f f_typed) t
          same = sym in_first ∙ e ∙ first_whole

          absent : HasNoneOf (filter (λ w. holds seconds (raised s w)) ws) (image_by (but (filter (λ w. holds seconds (raised s w)) ws) (value_of sg ws r f f_typed)) t)
          absent = raised_absent sg r chosen typed_in (λ w h. ap (λ k. holds (variables k) (raised r w)) same ∙ false_from_ne_true (holds (variables (image_by first_value t)) (raised r w)) (λ m. gone w h (stands_in [] (λ y i. absurd (false≢true i)) t there (raised r w) m)))
            where
              gone : (w : Variable ℕ) → holds (filter (λ w. holds seconds (raised s w)) ws) w ≡ true → (holds [] (raised r w) ≡ true) ⊎ IsApart ws r s (raised r w) → ⊥
              gone w h (inl a) = false≢true a
              gone w h (inr a) = false≢true (sym a.first ∙ held_map (raised r) ws w (chosen_in w h))

          whole : image_by (but (filter (λ w. holds seconds (raised s w)) ws) (value_of sg ws r f f_typed)) t ≡ image_by (value_of sg ws r f f_typed) t
          whole = sym (raised_stays sg r chosen (image_by (but chosen first_value) t) absent) ∙ same

    -- of all equations
    all_unread : {Hint : Type 0} (rest : List Bare) → ((t : Bare) → Contains rest t → Contains ts t) → (es ds : List (Equation Hint)) → AreRaised r ws rest es → AreRaised s ws (map (permute ps) rest) ds → NoneRead seconds g ds → NoneRead firsts f es
    all_unread [] there [] [] a b n = tt
    all_unread [] there [] (d ∷ ds) a b n = absurd b
    all_unread [] there (e ∷ es) ds a b n = absurd a
    all_unread (t ∷ rest) there [] ds a b n = absurd a
    all_unread (t ∷ rest) there (e ∷ es) [] a b n = absurd b
    all_unread (t ∷ rest) there (e ∷ es) (d ∷ ds) a b n = (
      unread_first t (there t (Contains-here t rest)) (forget e.right) (forget d.right) a.0 b.0 n.0,
      all_unread rest (λ u m. there u (Contains-there t rest u m)) es ds a.1 b.1 n.1,
    )

    all_matterless : {Hint : Type 0} (rest : List Bare) → ((t : Bare) → Contains rest t → Contains ts t) → (es ds : List (Equation Hint)) → AreRaised r ws rest es → AreRaised s ws (map (permute ps) rest) ds → NoneMatters firsts f es → NoneMatters seconds g ds
    all_matterless [] there [] [] a b n = tt
    all_matterless [] there [] (d ∷ ds) a b n = absurd b
    all_matterless [] there (e ∷ es) ds a b n = absurd a
    all_matterless (t ∷ rest) there [] ds a b n = absurd a
    all_matterless (t ∷ rest) there (e ∷ es) [] a b n = absurd b
    all_matterless (t ∷ rest) there (e ∷ es) (d ∷ ds) a b n = (
      matterless_second t (there t (Contains-here t rest)) (forget e.right) (forget d.right) a.0 b.0 n.0,
      all_matterless rest (λ u m. there u (Contains-there t rest u m)) es ds a.1 b.1 n.1,
    )

  -- WHAT IS READ OFF IN TURN in the first is so in the second
  pub turn_second : {Hint : Type 0} (es ds : List (Equation Hint)) → AreRaised r ws ts es → AreRaised s ws (map (permute ps) ts) ds → ReadInTurn (map (raised r) ws) f es → ReadInTurn (map (raised s) ws) g ds
  turn_second es ds a b turn us w n = all_matterless us w ts (λ t m. m) es ds a b (turn (firsts us w) (firsts_in us w) (all_unread us w ts (λ t m. m) es ds a b n))

  -- the sides are the same in the second, where they are in the first
  pub second_alike_sides : {Hint : Type 0} (rest : List Bare) → ((t : Bare) → Contains rest t → Contains ts t) → (es ds : List (Equation Hint)) → AreRaised r ws rest es → AreRaised s ws (map (permute ps) rest) ds
      → Each (λ (e d : Equation Hint). forget d.left ≡ permute ps (image_by f (forget e.left))) es ds → LeftsWithout (map (raised s) ws) ds → AllAlike f es → AllAlike g ds
  second_alike_sides [] there [] [] a b c l k = tt
  second_alike_sides [] there [] (d ∷ ds) a b c l k = absurd b
  second_alike_sides [] there (e ∷ es) ds a b c l k = absurd a
  second_alike_sides (t ∷ rest) there [] ds a b c l k = absurd a
  second_alike_sides (t ∷ rest) there (e ∷ es) [] a b c l k = absurd b
  second_alike_sides (t ∷ rest) there (e ∷ es) (d ∷ ds) a b c l k = (
    image_still (map (raised s) ws) g g_none d.left l.0
        ∙ c.0
        ∙ ap (permute ps) (k.0 ∙ first_whole [] (λ y h. absurd (false≢true h)) t (there t (Contains-here t rest)) (forget e.right) (forget d.right) a.0 b.0)
        ∙ sym (second_whole [] (λ y h. absurd (false≢true h)) t (there t (Contains-here t rest)) (forget e.right) (forget d.right) a.0 b.0),
    second_alike_sides rest (λ u m. there u (Contains-there t rest u m)) es ds a.1 b.1 c.1 l.1 k.1,
  )
