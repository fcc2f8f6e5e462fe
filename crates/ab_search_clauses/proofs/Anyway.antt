-- EQUATIONS WHEREVER THEY COME TO STAND, with whatever numbers for the raised variables in either place, and more variables there that stand in no right side.
use Rattle.std.proofs.Common.{◌≡◌, ◌≢◌, ◌⊎◌, inl, inr, ℕ, List, [], map, codes, true, false, Some, None, sym, ◌∙◌, ap, subst}
use Rattle.std.specs.Prelude.{Contains, AllPairs}
use Rattle.ab_term.specs.Types.{Ty}
use Rattle.ab_term.specs.Terms.{Nominal, Variable}
use Rattle.ab_term.specs.Typing.{Signature, HasType}
use Rattle.ab_term.specs.Names.{moved_by, permute, support, IsPermutationTable}
use Rattle.ab_term.specs.Variables.{Substitution, variables, image_by}
use Rattle.ab_term.proofs.Images.{IsTypedMap}
use Rattle.ab_term.proofs.Lists.{Contains-from_map}
use Rattle.ab_term.proofs.Permutations.{one_to_one}
use Rattle.ab_term.proofs.Renamings.{rename_typed}
use Rattle.ab_unifiers.specs.Replacements.{Cell, holds}
use Rattle.ab_unifiers.specs.Unification.{Equation, unified, Solves}
use Rattle.ab_unifiers.specs.Unifiers.{given, AreTyped, AreKnown, AreOver}
use Rattle.ab_unifiers.specs.Clauses.{Within}
use Rattle.ab_search_trees.specs.Lifting.{Guess, MakesEqual}
use Rattle.ab_pattern_matching.specs.Reading.{but, ReadInTurn, LeftsWithout, HoldNoneOf, IsGuessOver}
use Rattle.ab_pattern_matching.specs.Raising.{Bare, Raising, raised, raised_term, AreRaised, IsApart, AreRaisings, missing}
use Rattle.ab_pattern_matching.proofs.Begun.{guess_fits, given_alike}
use Rattle.ab_pattern_matching.proofs.PutIn.{unifies_alone}
use Rattle.ab_pattern_matching.proofs.Second.{second_guess, second_is_guess, second_agrees}
use Rattle.ab_pattern_matching.proofs.TwoWays.{turn_second, variables_same}
use Rattle.ab_search_clauses.proofs.Keeping.{Passes}
use Rattle.ab_search_clauses.proofs.Turned.{IsOver, turn_through}
use Rattle.ab_search_clauses.proofs.Wider.{AreFew, wider_turn}

-- raised so in the search; in between, with the constants of the other place; and so there
module _ (sg : Signature) (ws : List (Variable ℕ)) (ts : List Bare) (ps : List (Nominal × Nominal)) (permutation : IsPermutationTable ps) (r : Raising) (before after move : ℕ → ℕ) (right : List Nominal) where
  abbrev x : List ℕ
  x = codes "x"

  abbrev pub middle : Raising
  middle = record { number = before; constants = right }

  abbrev pub last : Raising
  last = record { number = after; constants = right }

  abbrev pub AreOnce : (ℕ → ℕ) → Type 0
  AreOnce number = (v w : Variable ℕ) → holds ws v ≡ true → holds ws w ≡ true → number v.name ≡ number w.name → v ≡ w

  -- what the terms are: typed, over the raised variables and others that the guess leaves alone
  abbrev pub AreRightFor : Guess → Type 0
  AreRightFor f = (t : Bare) → Contains ts t → ((G : List Ty) × (A : Ty) × HasType sg G t A) × ((y : Variable ℕ) → holds (variables t) y ≡ true → (holds ws y ≡ true) ⊎ (IsApart ws r middle y × (f y ≡ None))) × ((a : Nominal) → Contains (support t) a → Contains r.constants a ⊎ ¬ (Contains right (moved_by ps a)))

  module _ (different : AllPairs (λ a b. a ≢ b) right) (once : AreOnce r.number) (once_amid : AreOnce before) (moves : (w : Variable ℕ) → holds ws w ≡ true → move (before w.name) ≡ after w.name)
      (f : Guess) (are : AreRightFor f) (f_typed : IsTypedMap sg f) (nameless : (y : Variable ℕ) (v : Bare) → f y ≡ Some v → support v ≡ [])
      (values_apart : (w : Variable ℕ) → holds ws w ≡ true → (y : Variable ℕ) → holds (variables (image_by f (raised_term r w))) y ≡ true → IsApart ws r middle y)
      (es : List (Equation (List ℕ))) (es_raised : AreRaised r ws ts es) (first_turn : ReadInTurn (map (raised r) ws) f es) where
    two : AreRaisings sg ws ts r middle f ps
    two = record {
      permutation = permutation;
      different = different;
      numbers = λ v w h i e. elim e [ inl q ↦ once v w h i q | inr q ↦ once_amid v w h i q ];
      typed = λ t m. (are t m).0;
      standing = λ t m. (are t m).1;
      values = values_apart;
      constants = λ t m. (are t m).2;
    }

    abbrev h : Guess
    h = second_guess sg r middle f ps permutation f_typed nameless ws

    h_is : IsGuessOver sg (map (raised middle) ws) (missing r middle ps) h
    h_is = second_is_guess sg r middle f ps permutation f_typed nameless ws

    h_agrees : (w : Variable ℕ) → holds ws w ≡ true → image_by h (raised_term middle w) ≡ permute ps (image_by f (raised_term r w))
    h_agrees = second_agrees sg r middle f ps permutation f_typed nameless ws once_amid

    module _ (ds : List (Equation (List ℕ))) (ds_raised : AreRaised middle ws (map (permute ps) ts) ds) where
      second_turn : ReadInTurn (map (raised middle) ws) h ds
      second_turn = turn_second sg ws ts r middle f h ps two f_typed nameless h_agrees h_is.typed h_is.none es ds es_raised ds_raised first_turn

      -- WHERE THEY COME TO STAND
      module _ (g fill : Guess) (g_typed : IsTypedMap sg g) (fill_typed : IsTypedMap sg fill) (ks : List (Equation (List ℕ))) (ks_raised : AreRaised last ws (map (image_by (but ws fill)) (map (permute ps) ts)) ks)
          (agree : (w : Variable ℕ) → holds ws w ≡ true → image_by g (raised_term last w) ≡ image_by fill (permute ps (image_by f (raised_term r w))))
          (values : (w : Variable ℕ) → holds ws w ≡ true → (y : Variable ℕ) → holds (variables (permute ps (image_by f (raised_term r w)))) y ≡ true
          → (v : Bare) × (fill y ≡ Some v) × ((us : List (Variable ℕ)) → Within us (map (raised last) ws) → Passes sg us y.type v))
          (others : (t : Bare) → Contains ts t → (y : Variable ℕ) → holds (variables t) y ≡ true → holds ws y ≡ false
          → (v : Bare) × (fill y ≡ Some v) × ((us : List (Variable ℕ)) → Within us (map (raised last) ws) → Passes sg us y.type v) × ((z : Variable ℕ) → holds (variables v) z ≡ true → (holds ws z ≡ false) × (g z ≡ None))) where
        agreed : (w : Variable ℕ) → holds ws w ≡ true → image_by g (raised_term last w) ≡ image_by fill (image_by h (raised_term middle w))
        agreed w i = agree w i ∙ ap (image_by fill) (sym (h_agrees w i))

        filled_value : (w : Variable ℕ) → holds ws w ≡ true → (y : Variable ℕ) → holds (variables (image_by h (raised_term middle w))) y ≡ true
            → (holds (map (raised middle) ws) y ≡ false) × ((v : Bare) × (fill y ≡ Some v) × ((us : List (Variable ℕ)) → Within us (map (raised last) ws) → Passes sg us y.type v))
        filled_value w i y m =
            let there_y = subst (λ t. holds (variables t) y ≡ true) (h_agrees w i) m in
            ((values_apart w i y (ap (λ l. holds l y) (sym (variables_same (moved_by ps) (image_by f (raised_term r w)))) ∙ there_y)).second, values w i y there_y)

        abbrev Over : Bare → Type 0
        Over = IsOver sg ws right before after move moves once_amid h g fill h_is.typed g_typed fill_typed agreed filled_value

        over_them : (t : Bare) → Contains (map (permute ps) ts) t → ((G : List Ty) × (T : Ty) × HasType sg G t T) × Over t
        over_them t m =
            let from = Contains-from_map (permute ps) ts t m in
            let good = are from.0 from.1 in
            subst (λ t. ((G : List Ty) × (T : Ty) × HasType sg G t T) × Over t) from.2 (
              (good.0.0, good.0.1, rename_typed sg (moved_by ps) (one_to_one ps permutation).keeps (good.0).2),
              λ y i. (let before_y = ap (λ l. holds l y) (sym (variables_same (moved_by ps) from.0)) ∙ i in elim (good.1 y before_y) [
                | inl a ↦ inl a
                | inr b ↦ (
                    let out = b.0 in
                    let o = others from.0 from.1 y before_y out.itself in
                    inr (record { unraised = out.itself; unguessed = h_is.none y out.second; filled = (out.second, (o.0, o.1, o.2)); settled = o.3 })
                    )
              ]),
            )

        pub last_turn : ReadInTurn (map (raised last) ws) g ks
        last_turn = turn_through sg ws right before after move moves once_amid h g fill h_is.typed g_typed fill_typed agreed filled_value (map (permute ps) ts) over_them ds ks ds_raised ks_raised second_turn

        -- THEY ARE UNIFIED among more variables, which stand in no right side; and no variable is made
        module _ (zs : List (Variable ℕ)) (ks_lefts : LeftsWithout zs ks) (few : (y : Variable ℕ) (v : Bare) → g y ≡ Some v → (z : Variable ℕ) → holds (variables v) z ≡ true → holds zs z ≡ false) (ks_few : AreFew (map (raised last) ws) zs g few ks)
            (there : List (Cell (List ℕ))) (typed_there : AreTyped sg ks) (known_there : AreKnown there zs) (over_there : AreOver there ks)
            (clean : List Nominal) (g_over : IsGuessOver sg zs clean g) (hold_none : HoldNoneOf clean ks) (equal_there : MakesEqual g ks) where
          pub unified_anyway : (p : Substitution ℕ (List ℕ)) × Solves x (given ks there zs) (unified there p)
          unified_anyway =
              unifies_alone sg x ks there zs clean g typed_there known_there over_there hold_none (guess_fits sg zs clean g g_over) (given_alike g ks equal_there) ks_lefts
              (wider_turn (map (raised last) ws) zs g few ks ks_few last_turn)
