-- THE GUESS FOR THE SECOND raising: what is put in for the first, its constants permuted, abstracted over those of the second.
use Rattle.std.proofs.Common.{◌≡◌, inl, inr, ℕ, List, [], ◌∷◌, map, Bool, true, false, cond, not, ◌||◌, Some, None, refl, sym, ◌∙◌, ap, subst}
use Rattle.std.specs.Prelude.{Contains}
use Rattle.std.proofs.lemmas.Bool.{false≢true, or_cases, or_left, or_right, false_from_ne_true}
use Rattle.ab_term.specs.Terms.{Nominal, Variable, nominal, variable}
use Rattle.ab_term.specs.Typing.{Signature, HasType}
use Rattle.ab_term.specs.Names.{moved_by, permute, support, IsPermutationTable}
use Rattle.ab_term.specs.Variables.{image_by}
use Rattle.ab_term.specs.Sameness.{same_numbered}
use Rattle.ab_term.specs.Abstraction.{over, name_terms, abstracted}
use Rattle.ab_term.proofs.Closing.{abstracted_typed}
use Rattle.ab_term.proofs.Hinted.{named_over, given_typed}
use Rattle.ab_term.proofs.Images.{IsTypedMap, image_by_typed}
use Rattle.ab_term.proofs.Lists.{Contains-none, Contains-map}
use Rattle.ab_term.proofs.Permutations.{one_to_one}
use Rattle.ab_term.proofs.Raising.{image-given}
use Rattle.ab_term.proofs.Renamings.{rename_typed, support-rename}
use Rattle.ab_term.proofs.Lists.{Contains-from_map}
use Rattle.ab_term.proofs.Same.{same_numbered-Decides}
use Rattle.ab_unifiers.specs.Replacements.{holds}
use Rattle.ab_unifiers.specs.Choices.{is_in}
use Rattle.ab_unifiers.proofs.Choosing.{in_contains, kept_contains}
use Rattle.ab_unifiers.proofs.Constants as constants
use Rattle.ab_search_trees.specs.Lifting.{Guess}
use Rattle.ab_pattern_matching.specs.Reading.{IsGuessOver}
use Rattle.ab_pattern_matching.specs.Raising.{Bare, Raising, raised, raised_term, missing}

module _ (sg : Signature) (r s : Raising) (f : Guess) (ps : List (Nominal × Nominal)) (permutation : IsPermutationTable ps) (f_typed : IsTypedMap sg f) (f_nameless : (y : Variable ℕ) (v : Bare) → f y ≡ Some v → support v ≡ []) where
  -- what is put in first, permuted
  abbrev pub moved : Variable ℕ → Bare
  moved w = permute ps (image_by f (raised_term r w))

  abbrev pub second_guess : List (Variable ℕ) → Guess
  second_guess [] y = None
  second_guess (w ∷ ws) y = cond (same_numbered (raised s w) y) (Some (abstracted tt (over s.constants w.type) (map nominal s.constants) (permute ps (image_by f (raised_term r w))))) (second_guess ws y)

  moved_typed : (w : Variable ℕ) → HasType sg [] (permute ps (image_by f (raised_term r w))) w.type
  moved_typed w = rename_typed sg (moved_by ps) (one_to_one ps permutation).keeps (image_by_typed sg ℕ (Unit {0}) f f_typed (given_typed sg tt [] (raised r w) r.constants w.type refl))

  -- its constants come of the first's
  moved_holds : (w : Variable ℕ) (a : Nominal) → Contains (support (permute ps (image_by f (raised_term r w)))) a → Contains (map (moved_by ps) r.constants) a
  moved_holds w a m =
      let at = Contains-from_map (moved_by ps) (support (image_by f (raised_term r w))) a (subst (λ l. Contains l a) (support-rename (moved_by ps) (image_by f (raised_term r w))) m) in
      let there : Contains r.constants at.0 = constants.has_support (λ b. Contains r.constants b) (image_by f (raised_term r w)) inner at.0 at.1 in
      subst (λ b. Contains (map (moved_by ps) r.constants) b) at.2 (Contains-map (moved_by ps) r.constants at.0 there)
    where
      inner : constants.Has (λ b. Contains r.constants b) (image_by f (raised_term r w))
      inner = constants.image_by_has (λ b. Contains r.constants b) f
          (λ z u e. constants.support_has (λ b. Contains r.constants b) u (λ b i. absurd (Contains-none b (subst (λ l. Contains l b) (f_nameless z u e) i))))
          (raised_term r w)
          (constants.expansion_of_has (λ b. Contains r.constants b) tt w.type (variable (raised r w)) (name_terms tt (over r.constants w.type) (map nominal r.constants)) tt
          (constants.name_terms_have (λ b. Contains r.constants b) tt (over r.constants w.type) r.constants (λ b i. i)))

  second_holds : (w : Variable ℕ) (a : Nominal) → Contains (support (abstracted tt (over s.constants w.type) (map nominal s.constants) (permute ps (image_by f (raised_term r w))))) a → Contains (missing r s ps) a
  second_holds w a m =
      let P : Nominal → Type 0 = λ b. Contains (map (moved_by ps) r.constants) b in
      let at = constants.has_support (constants.ButAll P s.constants) (abstracted tt (over s.constants w.type) (map nominal s.constants) (permute ps (image_by f (raised_term r w))))
      (constants.abstracted_has P tt s.constants w.type (permute ps (image_by f (raised_term r w))) (constants.support_has P (permute ps (image_by f (raised_term r w))) (moved_holds w))) a m in
      kept_contains (λ b. not (is_in s.constants b)) (map (moved_by ps) r.constants) a at.0 (ap not (false_from_ne_true (is_in s.constants a) (λ i. at.1 (in_contains s.constants a i))))

  -- whatever it puts in is one of these terms
  found_second : (Q : Variable ℕ → Bare → Type 0) → ((w : Variable ℕ) → Q (raised s w) (abstracted tt (over s.constants w.type) (map nominal s.constants) (permute ps (image_by f (raised_term r w))))) → (ws : List (Variable ℕ)) (y : Variable ℕ) (v : Bare) → second_guess ws y ≡ Some v → Q y v
  found_second Q q [] y v e = absurd (cc)
  found_second Q q (w ∷ ws) y v e = go (same_numbered (raised s w) y) refl e (λ i. found_second Q q ws y v i)
    where
      go : (b : Bool) → same_numbered (raised s w) y ≡ b → cond b (Some (abstracted tt (over s.constants w.type) (map nominal s.constants) (permute ps (image_by f (raised_term r w))))) (second_guess ws y) ≡ Some v → (second_guess ws y ≡ Some v → Q y v) → Q y v
      go true h e rest =
          let value : abstracted tt (over s.constants w.type) (map nominal s.constants) (permute ps (image_by f (raised_term r w))) ≡ v = cc in
          subst (Q y) value (subst (λ z. Q z (abstracted tt (over s.constants w.type) (map nominal s.constants) (permute ps (image_by f (raised_term r w))))) ((same_numbered-Decides (raised s w) y).0 h) (q w))
      go false h e rest = rest e

  second_some : (ws : List (Variable ℕ)) (y : Variable ℕ) → holds (map (raised s) ws) y ≡ true → (v : Bare) × (second_guess ws y ≡ Some v)
  second_some [] y h = absurd (false≢true h)
  second_some (w ∷ ws) y h = go (same_numbered (raised s w) y) h (second_some ws y)
    where
      go : (b : Bool) → (b || holds (map (raised s) ws) y) ≡ true → (holds (map (raised s) ws) y ≡ true → (v : Bare) × (second_guess ws y ≡ Some v)) → (v : Bare) × (cond b (Some (abstracted tt (over s.constants w.type) (map nominal s.constants) (permute ps (image_by f (raised_term r w))))) (second_guess ws y) ≡ Some v)
      go true h rest = (abstracted tt (over s.constants w.type) (map nominal s.constants) (permute ps (image_by f (raised_term r w))), refl)
      go false h rest = rest h

  second_none : (ws : List (Variable ℕ)) (y : Variable ℕ) → holds (map (raised s) ws) y ≡ false → second_guess ws y ≡ None
  second_none [] y h = refl
  second_none (w ∷ ws) y h = go (same_numbered (raised s w) y) h (second_none ws y)
    where
      go : (b : Bool) → (b || holds (map (raised s) ws) y) ≡ false → (holds (map (raised s) ws) y ≡ false → second_guess ws y ≡ None) → cond b (Some (abstracted tt (over s.constants w.type) (map nominal s.constants) (permute ps (image_by f (raised_term r w))))) (second_guess ws y) ≡ None
      go true h rest = absurd (false≢true (sym h))
      go false h rest = rest h

  second_at : (ws : List (Variable ℕ)) → ((v w : Variable ℕ) → holds ws v ≡ true → holds ws w ≡ true → s.number v.name ≡ s.number w.name → v ≡ w) → (w : Variable ℕ) → holds ws w ≡ true → second_guess ws (raised s w) ≡ Some (abstracted tt (over s.constants w.type) (map nominal s.constants) (permute ps (image_by f (raised_term r w))))
  second_at [] n w h = absurd (false≢true h)
  second_at (v ∷ ws) n w h = go (same_numbered (raised s v) (raised s w)) refl (λ i. second_at ws (λ a b k l. n a b (or_right (same_numbered v a) (holds ws a) k) (or_right (same_numbered v b) (holds ws b) l)) w i)
    where
      go : (b : Bool) → same_numbered (raised s v) (raised s w) ≡ b → (holds ws w ≡ true → second_guess ws (raised s w) ≡ Some (abstracted tt (over s.constants w.type) (map nominal s.constants) (permute ps (image_by f (raised_term r w))))) → cond b (Some (abstracted tt (over s.constants v.type) (map nominal s.constants) (permute ps (image_by f (raised_term r v))))) (second_guess ws (raised s w)) ≡ Some (abstracted tt (over s.constants w.type) (map nominal s.constants) (permute ps (image_by f (raised_term r w))))
      go true e rest =
          let same : v ≡ w = n v w (or_left (same_numbered v v) (holds ws v) ((same_numbered-Decides v v).1 refl)) h (ap (λ z. z.name) ((same_numbered-Decides (raised s v) (raised s w)).0 e)) in
          ap (λ z. Some (abstracted tt (over s.constants z.type) (map nominal s.constants) (permute ps (image_by f (raised_term r z))))) same
      go false e rest = elim (or_cases (same_numbered v w) (holds ws w) h) [
        | inl i ↦ absurd (false≢true (sym e ∙ (same_numbered-Decides (raised s v) (raised s w)).1 (ap (raised s) ((same_numbered-Decides v w).0 i))))
        | inr i ↦ rest i
      ]

  pub second_is_guess : (ws : List (Variable ℕ)) → IsGuessOver sg (map (raised s) ws) (missing r s ps) (second_guess ws)
  second_is_guess ws = record {
    typed = found_second (λ y v. HasType sg [] v y.type) (λ w. abstracted_typed sg tt (named_over sg [] s.constants w.type) (moved_typed w)) ws;
    held = found_second (λ y v. (a : Nominal) → Contains (support v) a → Contains (missing r s ps) a) second_holds ws;
    some = second_some ws;
    none = second_none ws;
  }

  -- given the constants, it is what is put in first, permuted
  pub second_agrees : (ws : List (Variable ℕ)) → ((v w : Variable ℕ) → holds ws v ≡ true → holds ws w ≡ true → s.number v.name ≡ s.number w.name → v ≡ w) → (w : Variable ℕ) → holds ws w ≡ true → image_by (second_guess ws) (raised_term s w) ≡ permute ps (image_by f (raised_term r w))
  second_agrees ws n w h = image-given sg (second_guess ws) (second_is_guess ws).typed (s.number w.name) s.constants w.type (permute ps (image_by f (raised_term r w))) (moved_typed w) (second_at ws n w h)
