-- READ OFF IN TURN, ONCE MORE: with other numbers for the variables, and with terms put in for what the guess leaves open.
use Rattle.std.proofs.Common.{◌≡◌, ◌⊎◌, inl, inr, ℕ, List, [], ◌∷◌, map, filter, Bool, true, false, cond, Option, Some, None, refl, sym, ◌∙◌, ap, subst}
use Rattle.std.specs.Prelude.{Contains}
use Rattle.std.proofs.lemmas.Bool.{false≢true, false_from_ne_true}
use Rattle.ab_term.specs.Types.{Ty}
use Rattle.ab_term.specs.Terms.{Nominal, Variable, nominal, variable, no_terms, term}
use Rattle.ab_term.specs.Typing.{Signature, HasType}
use Rattle.ab_term.specs.Translation.{forget}
use Rattle.ab_term.specs.Variables.{variables, image_by, image_all_by}
use Rattle.ab_term.specs.Abstraction.{over, name_terms}
use Rattle.ab_term.specs.Expansion.{expansion}
use Rattle.ab_term.proofs.Compositions.{then_by, image_composed}
use Rattle.ab_term.proofs.Depends.{image_unmoved}
use Rattle.ab_term.proofs.Expansions.{expansion_typed, reduce-some}
use Rattle.ab_term.proofs.Hinted.{name_terms_typed, named_over}
use Rattle.ab_term.proofs.Images.{IsTypedMap, image_by_typed}
use Rattle.ab_term.proofs.Lists.{Contains-here, Contains-there}
use Rattle.ab_term.proofs.OwnExpansion.{own_by, image_by-expansion_of}
use Rattle.ab_unifiers.specs.Replacements.{holds}
use Rattle.ab_unifiers.specs.Unification.{Equation}
use Rattle.ab_unifiers.specs.Clauses.{Within}
use Rattle.ab_unifiers.proofs.Agreeing.{contains_holds, image_agrees}
use Rattle.ab_unifiers.proofs.Past.{bare_own}
use Rattle.ab_unifiers.proofs.Variables as stand
use Rattle.ab_search_trees.specs.Lifting.{Guess}
use Rattle.ab_search_trees.proofs.Lifts.{filter_from}
use Rattle.ab_pattern_matching.specs.Reading.{can_read, but, NoneRead, NoneMatters, ReadInTurn}
use Rattle.ab_pattern_matching.specs.Raising.{Bare, Raising, raised, raised_term, raising, AreRaised}
use Rattle.ab_pattern_matching.proofs.Going.{but_typed}
use Rattle.ab_pattern_matching.proofs.Raised.{raising_typed}
use Rattle.ab_pattern_matching.proofs.TwoWays.{held_map, map_held, test_from, filtered, only_raised, value_of, all_in}
use Rattle.ab_search_clauses.proofs.Keeping.{Passes, Known, read_through}

pub then_typed : (sg : Signature) (f g : Guess) → IsTypedMap sg f → IsTypedMap sg g → IsTypedMap sg (λ y. then_by g y (f y))
then_typed sg f g a b y v e = go (f y) refl e
  where
    go : (o : Option Bare) → f y ≡ o → then_by g y o ≡ Some v → HasType sg [] v y.type
    go None q r = b y v r
    go (Some u) q r = let same : image_by g u ≡ v = cc in subst (λ t. HasType sg [] t y.type) same (image_by_typed sg ℕ (Unit {0}) g b (a y u q))

names_stay : (sg : Signature) (f : Guess) → IsTypedMap sg f → (ns : List Nominal) (A : Ty) → image_all_by f (name_terms tt (over ns A) (map nominal ns)) ≡ name_terms tt (over ns A) (map nominal ns)
names_stay sg f typed [] A = refl
names_stay sg f typed (a ∷ ns) A =
    ap (λ t. term t (image_all_by f (name_terms tt (over ns A) (map nominal ns)))) (image_by-expansion_of sg ℕ (Unit {0}) f typed tt a.type (nominal a) no_terms tt)
    ∙ ap (term (expansion tt a.type (nominal a))) (names_stay sg f typed ns A)

module _ (sg : Signature) (ws : List (Variable ℕ)) (constants : List Nominal) (before after move : ℕ → ℕ) (moves : (w : Variable ℕ) → holds ws w ≡ true → move (before w.name) ≡ after w.name)
    (once : (v w : Variable ℕ) → holds ws v ≡ true → holds ws w ≡ true → before v.name ≡ before w.name → v ≡ w)
    (h g fill : Guess) (h_typed : IsTypedMap sg h) (g_typed : IsTypedMap sg g) (fill_typed : IsTypedMap sg fill) where
  abbrev pub first : Raising
  first = record { number = before; constants = constants }

  abbrev pub second : Raising
  second = record { number = after; constants = constants }

  -- what is put in later for a variable that the first guess leaves open
  abbrev pub IsFilled : Variable ℕ → Type 0
  IsFilled y = (holds (map (raised first) ws) y ≡ false) × ((v : Bare) × (fill y ≡ Some v) × ((us : List (Variable ℕ)) → Within us (map (raised second) ws) → Passes sg us y.type v))

  module _ (agree : (w : Variable ℕ) → holds ws w ≡ true → image_by g (raised_term second w) ≡ image_by fill (image_by h (raised_term first w)))
      (values : (w : Variable ℕ) → holds ws w ≡ true → (y : Variable ℕ) → holds (variables (image_by h (raised_term first w))) y ≡ true → IsFilled y) where
    -- ANOTHER VARIABLE of a term: it isn't raised and there is no guess for it, and what is put in for it later stays then
    pub record IsOther (y : Variable ℕ) : Type 0 where
      pub unraised : holds ws y ≡ false
      pub unguessed : h y ≡ None
      pub filled : IsFilled y
      pub settled : (z : Variable ℕ) → holds (variables filled.1.0) z ≡ true → (holds ws z ≡ false) × (g z ≡ None)

    -- each variable of the term is raised, or another
    abbrev pub IsOver : Bare → Type 0
    IsOver t = (y : Variable ℕ) → holds (variables t) y ≡ true → (holds ws y ≡ true) ⊎ IsOther y

    -- the term, with what is put in later for the others
    abbrev pub settled_term : Bare → Bare
    settled_term = image_by (but ws fill)

    others_typed : IsTypedMap sg (but ws fill)
    others_typed = but_typed sg ws fill fill_typed

    but_none : (us : List (Variable ℕ)) (f : Guess) (y : Variable ℕ) → f y ≡ None → but us f y ≡ None
    but_none us f y e = go (holds us y)
      where
        go : (b : Bool) → cond b None (f y) ≡ None
        go true = refl
        go false = e

    -- what is put in for another stays
    other_stays : (y : Variable ℕ) (o : IsOther y) (f : Guess) → ((z : Variable ℕ) → g z ≡ None → f z ≡ None) → then_by f y (then_by (raising second ws) y (but ws fill y)) ≡ fill y
    other_stays y o f none =
        let v = o.filled.1.0 in
        ap (λ b. then_by f y (then_by (raising second ws) y (cond b None (fill y)))) o.unraised
        ∙ ap (λ k. then_by f y (then_by (raising second ws) y k)) o.filled.1.1
        ∙ ap (λ t. Some (image_by f t)) (image_unmoved (raising second ws) v (λ z m. ap (λ b. cond b (Some (raised_term second z)) None) (o.settled z (contains_holds (variables v) z m)).0))
        ∙ ap Some (image_unmoved f v (λ z m. none z (o.settled z (contains_holds (variables v) z m)).1))
        ∙ sym o.filled.1.1

    unguessed_then : (y : Variable ℕ) (o : IsOther y) (f : Guess) → f y ≡ None → then_by f y (raising first ws y) ≡ None
    unguessed_then y o f e = ap (λ b. then_by f y (cond b (Some (raised_term first y)) None)) o.unraised ∙ e

    -- with terms for all of them
    whole : {G : List Ty} {t : Bare} {A : Ty} → HasType sg G t A → IsOver t → image_by g (image_by (raising second ws) (settled_term t)) ≡ image_by fill (image_by h (image_by (raising first ws) t))
    whole {t = t} d own =
        ap (image_by g) (image_composed sg ℕ (Unit {0}) (but ws fill) (raising second ws) others_typed (raising_typed sg second ws) d)
        ∙ image_composed sg ℕ (Unit {0}) (λ y. then_by (raising second ws) y (but ws fill y)) g (then_typed sg (but ws fill) (raising second ws) others_typed (raising_typed sg second ws)) g_typed d
        ∙ image_agrees (λ y. then_by g y (then_by (raising second ws) y (but ws fill y))) (λ y. then_by fill y (then_by h y (raising first ws y))) t (λ y m. at y (own y m))
        ∙ sym (image_composed sg ℕ (Unit {0}) (λ y. then_by h y (raising first ws y)) fill (then_typed sg (raising first ws) h (raising_typed sg first ws) h_typed) fill_typed d)
        ∙ sym (ap (image_by fill) (image_composed sg ℕ (Unit {0}) (raising first ws) h (raising_typed sg first ws) h_typed d))
      where
        at : (y : Variable ℕ) → (holds ws y ≡ true) ⊎ IsOther y → then_by g y (then_by (raising second ws) y (but ws fill y)) ≡ then_by fill y (then_by h y (raising first ws y))
        at y (inl i) =
            ap (λ b. then_by g y (then_by (raising second ws) y (cond b None (fill y)))) i
            ∙ ap (λ b. then_by g y (cond b (Some (raised_term second y)) None)) i ∙ ap Some (agree y i) ∙ sym (ap (λ b. then_by fill y (then_by h y (cond b (Some (raised_term first y)) None))) i)
        at y (inr o) = other_stays y o g (λ z e. e) ∙ sym (ap (then_by fill y) (unguessed_then y o h o.unguessed))

    -- what stands in a value
    good : {G : List Ty} {t : Bare} {A : Ty} → HasType sg G t A → IsOver t → (y : Variable ℕ) → holds (variables (image_by h (image_by (raising first ws) t))) y ≡ true → IsFilled y
    good {t = t} d own = stand.has_held IsFilled (image_by h (image_by (raising first ws) t))
        (subst (stand.Has IsFilled) (sym (all_in sg ws first h h_typed d (λ y m n. elim (own y m) [ inl i ↦ absurd (false≢true (sym n ∙ i)) | inr o ↦ o.unguessed ])))
        (stand.image_by_has (λ y. (holds ws y ≡ true) ⊎ IsOther y) IsFilled (value_of sg ws first h h_typed) (λ y v e. value y v (holds ws y) refl e)
        (λ y e p. elim p [ inl i ↦ absurd (let some : Some (image_by h (raised_term first y)) ≡ None = sym (ap (λ b. cond b (Some (image_by h (raised_term first y))) None) i) ∙ e in cc) | inr o ↦ o.filled ]) t
        (stand.held_has (λ y. (holds ws y ≡ true) ⊎ IsOther y) t own)))
      where
        value : (y : Variable ℕ) (v : Bare) (b : Bool) → holds ws y ≡ b → cond b (Some (image_by h (raised_term first y))) None ≡ Some v → stand.Has IsFilled v
        value y v true i e = let same : image_by h (raised_term first y) ≡ v = cc in subst (stand.Has IsFilled) same (stand.held_has IsFilled (image_by h (raised_term first y)) (values y i))
        value y v false i e = absurd (cc)

    module _ (us : List (Variable ℕ)) (within : Within us (map (raised second) ws)) where
      abbrev chosen : List (Variable ℕ)
      chosen = filter (λ w. holds us (raised second w)) ws

      abbrev firsts : List (Variable ℕ)
      firsts = map (raised first) (filter (λ w. holds us (raised second w)) ws)

      chosen_in : (w : Variable ℕ) → holds (filter (λ w. holds us (raised second w)) ws) w ≡ true → holds ws w ≡ true
      chosen_in w i = filter_from (λ w. holds us (raised second w)) ws w i

      firsts_in : Within (map (raised first) (filter (λ w. holds us (raised second w)) ws)) (map (raised first) ws)
      firsts_in y i = let at = map_held (raised first) chosen y i in subst (λ v. holds (map (raised first) ws) v ≡ true) at.2 (held_map (raised first) ws at.0 (chosen_in at.0 at.1))

      alike : (w : Variable ℕ) → holds ws w ≡ true → holds (map (raised first) (filter (λ w. holds us (raised second w)) ws)) (raised first w) ≡ holds us (raised second w)
      alike w i = go (holds chosen w) refl ∙ sym (filtered (λ w. holds us (raised second w)) ws w i)
        where
          go : (b : Bool) → holds (filter (λ w. holds us (raised second w)) ws) w ≡ b → holds (map (raised first) (filter (λ w. holds us (raised second w)) ws)) (raised first w) ≡ holds (filter (λ w. holds us (raised second w)) ws) w
          go true j = held_map (raised first) chosen w j ∙ sym j
          go false j = false_from_ne_true (holds (map (raised first) chosen) (raised first w)) (λ m.
              let at = map_held (raised first) chosen (raised first w) m in
              let same : at.0 ≡ w = once at.0 w (chosen_in at.0 at.1) i (ap (λ v. v.name) at.2) in
              false≢true (sym j ∙ subst (λ v. holds chosen v ≡ true) same at.1)) ∙ sym j

      -- the variables move, and the rest is filled
      abbrev moved : Variable ℕ → Variable ℕ
      moved y = record { name = move y.name; type = y.type }

      abbrev through : Guess
      through y = cond (holds (map (raised first) (filter (λ w. holds us (raised second w)) ws)) y) (Some (bare_own (record { name = move y.name; type = y.type }))) (fill y)

      through_typed : IsTypedMap sg through
      through_typed y v e = go (holds firsts y) e
        where
          go : (b : Bool) → cond b (Some (bare_own (record { name = move y.name; type = y.type }))) (fill y) ≡ Some v → HasType sg [] v y.type
          go true e = let same : bare_own (moved y) ≡ v = cc in subst (λ t. HasType sg [] t y.type) same (expansion_typed sg tt y.type [] (variable (moved y)) refl)
          go false e = fill_typed y v e

      is_moved : (w : Variable ℕ) → holds ws w ≡ true → moved (raised first w) ≡ raised second w
      is_moved w i = ap (λ k. record { name = k; type = over constants w.type }) (moves w i)

      -- on one of them
      point : (w : Variable ℕ) → holds ws w ≡ true → image_by (but us g) (raised_term second w) ≡ image_by through (image_by (but firsts h) (raised_term first w))
      point w i = go (holds us (raised second w)) refl
        where
          go : (b : Bool) → holds us (raised second w) ≡ b → image_by (but us g) (raised_term second w) ≡ image_by through (image_by (but firsts h) (raised_term first w))
          go true j =
              let one = alike w i ∙ j in
              image_unmoved (but us g) (raised_term second w) (λ z m. ap (but us g) (only_raised second w z (contains_holds (variables (raised_term second w)) z m)) ∙ ap (λ b. cond b None (g (raised second w))) j)
              ∙ sym (reduce-some sg ℕ (variable (raised second w)) no_terms (name_terms_typed sg tt (named_over sg [] constants w.type)))
              ∙ sym (own_by sg ℕ through through_typed (raised first w) (bare_own (raised second w)) (ap (λ b. cond b (Some (bare_own (moved (raised first w)))) (fill (raised first w))) one ∙ ap (λ z. Some (bare_own z)) (is_moved w i)) w.type []
              (name_terms tt (over constants w.type) (map nominal constants)) (name_terms tt (over constants w.type) (map nominal constants)) (name_terms_typed sg tt (named_over sg [] constants w.type)) (names_stay sg through through_typed constants w.type))
              ∙ sym (ap (image_by through) (image_unmoved (but firsts h) (raised_term first w) (λ z m. ap (but firsts h) (only_raised first w z (contains_holds (variables (raised_term first w)) z m)) ∙ ap (λ b. cond b None (h (raised first w))) one)))
          go false j =
              let one = alike w i ∙ j in
              image_agrees (but us g) g (raised_term second w) (λ z m. let same = only_raised second w z m in ap (but us g) same ∙ ap (λ b. cond b None (g (raised second w))) j ∙ ap g (sym same))
              ∙ agree w i
              ∙ sym (image_agrees through fill (image_by h (raised_term first w)) (λ z m. ap (λ b. cond b (Some (bare_own (moved z))) (fill z)) (false_from_ne_true (holds firsts z) (λ f. false≢true (sym (values w i z m).0 ∙ firsts_in z f)))))
              ∙ sym (ap (image_by through) (image_agrees (but firsts h) h (raised_term first w) (λ z m. let same = only_raised first w z m in ap (but firsts h) same ∙ ap (λ b. cond b None (h (raised first w))) one ∙ ap h (sym same))))

      are_moved : (y : Variable ℕ) → holds (map (raised first) (filter (λ w. holds us (raised second w)) ws)) y ≡ true → (z : Variable ℕ) × (z.type ≡ y.type) × (holds us z ≡ true) × (through y ≡ Some (bare_own z))
      are_moved y i =
          let at = map_held (raised first) chosen y i in (
            moved y,
            refl,
            subst (λ v. holds us (moved v) ≡ true) at.2 (ap (holds us) (is_moved at.0 (chosen_in at.0 at.1)) ∙ test_from (λ w. holds us (raised second w)) ws at.0 at.1),
            ap (λ b. cond b (Some (bare_own (moved y))) (fill y)) i,
          )

      -- one of the others, with terms put in
      at_other : (y : Variable ℕ) (o : IsOther y) → then_by (but us g) y (then_by (raising second ws) y (but ws fill y)) ≡ then_by through y (then_by (but firsts h) y (raising first ws y))
      at_other y o =
          other_stays y o (but us g) (λ z e. but_none us g z e)
          ∙ sym (ap (λ b. cond b (Some (bare_own (record { name = move y.name; type = y.type }))) (fill y)) (false_from_ne_true (holds firsts y) (λ f. false≢true (sym o.filled.0 ∙ firsts_in y f))))
          ∙ sym (ap (then_by through y) (unguessed_then y o (but firsts h) (but_none firsts h y o.unguessed)))

      module _ {G : List Ty} {t : Bare} {A : Ty} (d : HasType sg G t A) (own : IsOver t) (u v : Bare) (is_first : u ≡ image_by (raising first ws) t) (is_second : v ≡ image_by (raising second ws) (settled_term t)) where
        in_steps : image_by (but us g) v ≡ image_by through (image_by (but firsts h) u)
        in_steps =
            ap (image_by (but us g)) is_second
            ∙ ap (image_by (but us g)) (image_composed sg ℕ (Unit {0}) (but ws fill) (raising second ws) others_typed (raising_typed sg second ws) d)
            ∙ image_composed sg ℕ (Unit {0}) (λ y. then_by (raising second ws) y (but ws fill y)) (but us g) (then_typed sg (but ws fill) (raising second ws) others_typed (raising_typed sg second ws)) (but_typed sg us g g_typed) d
            ∙ image_agrees (λ y. then_by (but us g) y (then_by (raising second ws) y (but ws fill y))) (λ y. then_by through y (then_by (but firsts h) y (raising first ws y))) t (λ y m. at y (own y m))
            ∙ sym (image_composed sg ℕ (Unit {0}) (λ y. then_by (but firsts h) y (raising first ws y)) through (then_typed sg (raising first ws) (but firsts h) (raising_typed sg first ws) (but_typed sg firsts h h_typed)) through_typed d)
            ∙ sym (ap (image_by through) (image_composed sg ℕ (Unit {0}) (raising first ws) (but firsts h) (raising_typed sg first ws) (but_typed sg firsts h h_typed) d))
            ∙ ap (λ k. image_by through (image_by (but firsts h) k)) (sym is_first)
          where
            at : (y : Variable ℕ) → (holds ws y ≡ true) ⊎ IsOther y → then_by (but us g) y (then_by (raising second ws) y (but ws fill y)) ≡ then_by through y (then_by (but firsts h) y (raising first ws y))
            at y (inl i) =
                ap (λ b. then_by (but us g) y (then_by (raising second ws) y (cond b None (fill y)))) i
                ∙ ap (λ b. then_by (but us g) y (cond b (Some (raised_term second y)) None)) i ∙ ap Some (point y i) ∙ sym (ap (λ b. then_by through y (then_by (but firsts h) y (cond b (Some (raised_term first y)) None))) i)
            at y (inr o) = at_other y o

        -- the variables before
        abbrev Stands : Variable ℕ → Type 0
        Stands y = (holds (map (raised first) (filter (λ w. holds us (raised second w)) ws)) y ≡ true) ⊎ IsFilled y

        stands : (y : Variable ℕ) → holds (variables (image_by (but firsts h) u)) y ≡ true → (holds (map (raised first) (filter (λ w. holds us (raised second w)) ws)) y ≡ true) ⊎ IsFilled y
        stands = stand.has_held Stands (image_by (but firsts h) u)
            (subst (λ k. stand.Has Stands (image_by (but firsts h) k)) (sym is_first)
            (subst (stand.Has Stands) (sym (all_in sg ws first (but firsts h) (but_typed sg firsts h h_typed) d (λ y m n. elim (own y m) [ inl i ↦ absurd (false≢true (sym n ∙ i)) | inr o ↦ but_none firsts h y o.unguessed ])))
            (stand.image_by_has (λ y. (holds ws y ≡ true) ⊎ IsOther y) Stands (value_of sg ws first (but firsts h) (but_typed sg firsts h h_typed)) (λ y v e. value y v (holds ws y) refl e)
            (λ y e p. elim p [ inl i ↦ absurd (let some : Some (image_by (but firsts h) (raised_term first y)) ≡ None = sym (ap (λ b. cond b (Some (image_by (but firsts h) (raised_term first y))) None) i) ∙ e in cc) | inr o ↦ inr o.filled ]) t
            (stand.held_has (λ y. (holds ws y ≡ true) ⊎ IsOther y) t own))))
          where
            inner : (w : Variable ℕ) → holds ws w ≡ true → (b : Bool) → holds us (raised second w) ≡ b → stand.Has Stands (image_by (but firsts h) (raised_term first w))
            inner w i true j =
                let one = alike w i ∙ j in
                subst (stand.Has Stands) (sym (image_unmoved (but firsts h) (raised_term first w) (λ z m. ap (but firsts h) (only_raised first w z (contains_holds (variables (raised_term first w)) z m)) ∙ ap (λ b. cond b None (h (raised first w))) one)))
                (stand.held_has Stands (raised_term first w) (λ z m. inl (subst (λ k. holds firsts k ≡ true) (sym (only_raised first w z m)) one)))
            inner w i false j =
                let one = alike w i ∙ j in
                subst (stand.Has Stands) (sym (image_agrees (but firsts h) h (raised_term first w) (λ z m. let same = only_raised first w z m in ap (but firsts h) same ∙ ap (λ b. cond b None (h (raised first w))) one ∙ ap h (sym same))))
                (stand.held_has Stands (image_by h (raised_term first w)) (λ z m. inr (values w i z m)))

            value : (y : Variable ℕ) (v : Bare) (b : Bool) → holds ws y ≡ b → cond b (Some (image_by (but firsts h) (raised_term first y))) None ≡ Some v → stand.Has Stands v
            value y v true i e = let same : image_by (but firsts h) (raised_term first y) ≡ v = cc in subst (stand.Has Stands) same (inner y i (holds us (raised second y)) refl)
            value y v false i e = absurd (cc)

        known : Known sg firsts us through through_typed are_moved (variables (image_by (but firsts h) u))
        known y m n = elim (stands y m) [
          | inl i ↦ absurd (false≢true (sym n ∙ i))
          | inr f ↦ (f.1.0, ap (λ b. cond b (Some (bare_own (moved y))) (fill y)) n ∙ f.1.1, f.1.2 us within)
        ]

        typed_before : HasType sg G (image_by (but firsts h) u) A
        typed_before = subst (λ k. HasType sg G (image_by (but firsts h) k) A) (sym is_first) (image_by_typed sg ℕ (Unit {0}) (but firsts h) (but_typed sg firsts h h_typed) (image_by_typed sg ℕ (Unit {0}) (raising first ws) (raising_typed sg first ws) d))

        -- what can't be read off after couldn't be before
        unread : can_read us (image_by (but us g) v) ≡ false → can_read firsts (image_by (but firsts h) u) ≡ false
        unread e = false_from_ne_true (can_read firsts (image_by (but firsts h) u)) (λ c.
            false≢true (sym e ∙ ap (can_read us) in_steps ∙ read_through sg firsts us through through_typed are_moved typed_before known c))

        -- and what didn't matter doesn't
        matterless : image_by (but firsts h) u ≡ image_by h u → image_by (but us g) v ≡ image_by g v
        matterless e =
            in_steps ∙ ap (image_by through) e
            ∙ image_agrees through fill (image_by h u) (λ z m. ap (λ b. cond b (Some (bare_own (moved z))) (fill z)) (false_from_ne_true (holds firsts z) (λ f. false≢true (sym (good d own z (subst (λ k. holds (variables (image_by h k)) z ≡ true) is_first m)).0 ∙ firsts_in z f))))
            ∙ ap (λ k. image_by fill (image_by h k)) is_first ∙ sym (whole d own) ∙ sym (ap (image_by g) is_second)

    -- the terms are typed, and over the variables that are raised, and others
    abbrev pub AreOverThem : List Bare → Type 0
    AreOverThem ts = (t : Bare) → Contains ts t → ((G : List Ty) × (A : Ty) × HasType sg G t A) × IsOver t

    module _ {Hint : Type 0} (us : List (Variable ℕ)) (within : Within us (map (raised second) ws)) where
      all_unread : (ts : List Bare) → AreOverThem ts → (es ds : List (Equation Hint)) → AreRaised first ws ts es → AreRaised second ws (map settled_term ts) ds → NoneRead us g ds → NoneRead (firsts us within) h es
      all_unread [] o [] [] a b n = tt
      all_unread [] o [] (d ∷ ds) a b n = absurd b
      all_unread [] o (e ∷ es) ds a b n = absurd a
      all_unread (t ∷ ts) o [] ds a b n = absurd a
      all_unread (t ∷ ts) o (e ∷ es) [] a b n = absurd b
      all_unread (t ∷ ts) o (e ∷ es) (d ∷ ds) a b n =
          let k = o t (Contains-here t ts) in
          (unread us within (k.0).2 k.1 (forget e.right) (forget d.right) a.0 b.0 n.0, all_unread ts (λ v m. o v (Contains-there t ts v m)) es ds a.1 b.1 n.1)

      all_matterless : (ts : List Bare) → AreOverThem ts → (es ds : List (Equation Hint)) → AreRaised first ws ts es → AreRaised second ws (map settled_term ts) ds → NoneMatters (firsts us within) h es → NoneMatters us g ds
      all_matterless [] o [] [] a b n = tt
      all_matterless [] o [] (d ∷ ds) a b n = absurd b
      all_matterless [] o (e ∷ es) ds a b n = absurd a
      all_matterless (t ∷ ts) o [] ds a b n = absurd a
      all_matterless (t ∷ ts) o (e ∷ es) [] a b n = absurd b
      all_matterless (t ∷ ts) o (e ∷ es) (d ∷ ds) a b n =
          let k = o t (Contains-here t ts) in
          (matterless us within (k.0).2 k.1 (forget e.right) (forget d.right) a.0 b.0 n.0, all_matterless ts (λ v m. o v (Contains-there t ts v m)) es ds a.1 b.1 n.1)

    -- WHAT IS READ OFF IN TURN before is so after
    pub turn_through : {Hint : Type 0} (ts : List Bare) → AreOverThem ts → (es ds : List (Equation Hint)) → AreRaised first ws ts es → AreRaised second ws (map settled_term ts) ds → ReadInTurn (map (raised first) ws) h es → ReadInTurn (map (raised second) ws) g ds
    turn_through ts o es ds a b turn us w n = all_matterless us w ts o es ds a b (turn (firsts us w) (firsts_in us w) (all_unread us w ts o es ds a b n))
