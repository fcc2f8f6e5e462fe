-- EQUATIONS WHEREVER THEY COME TO STAND: right sides are terms over fresh variables, raised in one way in a search's equations, and in another where they
-- come to stand. With a guess that may leave variables open the first are unified; then the second are, once those variables have been replaced.
use Rattle.std.proofs.Common.{◌≡◌, ◌≢◌, ◌⊎◌, inl, inr, ℕ, ◌+◌, ◌-◌, ◌<◌, ◌≤◌, List, [], ◌∷◌, ◌++◌, map, length, codes, true, cond, Some, None, refl, sym, ◌∙◌, ap, subst, arith}
use Rattle.std.specs.Prelude.{Contains, AllPairs}
use Rattle.std.proofs.lemmas.Bool.{false≢true, false_from_ne_true}
use Rattle.std.proofs.lemmas.List.{length-map}
use Rattle.ab_term.specs.Types.{Ty}
use Rattle.ab_term.specs.Terms.{Nominal, Variable}
use Rattle.ab_term.specs.Typing.{Signature, HasType}
use Rattle.ab_term.specs.Names.{moved_by, permute, support, IsPermutationTable}
use Rattle.ab_term.specs.Abstraction.{over}
use Rattle.ab_term.specs.Variables.{Substitution, variables, image_by}
use Rattle.ab_term.proofs.Images.{IsTypedMap}
use Rattle.ab_term.proofs.Depends.{image_unmoved}
use Rattle.ab_term.proofs.Lists.{Contains-here, Contains-there}
use Rattle.ab_unifiers.specs.Replacements.{Cell, holds}
use Rattle.ab_unifiers.specs.Unification.{Equation, unified, Solves}
use Rattle.ab_unifiers.specs.Unifiers.{given, AreTyped, AreKnown, AreOver}
use Rattle.ab_unifiers.specs.Clauses.{Within, numbered}
use Rattle.ab_unifiers.specs.Alternatives.{cells_over, made_over}
use Rattle.ab_unifiers.proofs.Agreeing.{contains_holds, holds_behind}
use Rattle.ab_unifiers.proofs.Rows.{numbered_within}
use Rattle.ab_unifiers.proofs.Variables as stand
use Rattle.ab_search_trees.specs.Lifting.{Guess, IsGuessFor, MakesEqual}
use Rattle.ab_pattern_matching.specs.Reading.{but, ReadInTurn, LeftsWithout, HoldNoneOf, IsGuessOver}
use Rattle.ab_pattern_matching.specs.Raising.{Bare, Raising, raised, raised_term, AreRaised, IsApart}
use Rattle.ab_pattern_matching.proofs.Begun.{guess_over, guess_fits, given_alike, none_held}
use Rattle.ab_pattern_matching.proofs.OfClauses.{from_to, numbered_one, raised_are_made}
use Rattle.ab_pattern_matching.proofs.PutIn.{unifies_alone}
use Rattle.ab_pattern_matching.proofs.Solved.{problem_read}
use Rattle.ab_pattern_matching.proofs.TwoWays.{held_map, only_raised, variables_same}
use Rattle.ab_search_clauses.proofs.Keeping.{Passes}
use Rattle.ab_search_clauses.proofs.Anyway.{last_turn}

-- the new variables have so many numbers from n on in the search, and from k on where the equations come to stand
module _ (sg : Signature) (cs : List (Cell (List ℕ))) (ts : List Bare) (ps : List (Nominal × Nominal)) (permutation : IsPermutationTable ps) (n k : ℕ) (left right : List Nominal) where
  abbrev x : List ℕ
  x = codes "x"

  -- numbers for a third way, between them; for the fresh variables; and above all of these
  abbrev pub amid : ℕ
  amid = n + length cs

  abbrev pub first_fresh : ℕ
  first_fresh = n + (n + length cs)

  abbrev pub high : ℕ
  high = n + (n + length cs) + length cs

  abbrev pub fresh : List (Variable ℕ)
  fresh = numbered (n + (n + length cs)) cs

  -- raised variables are those that are made
  module _ (to : ℕ) (constants : List Nominal) where
    pub made_numbers : map (raised (from_to first_fresh to constants)) fresh ≡ made_over x to constants cs
    made_numbers = let zero_n : first_fresh + 0 ≡ first_fresh = omega arith in let zero_i : to + 0 ≡ to = omega arith in
        ap (λ i. map (raised (from_to first_fresh to constants)) (numbered i cs)) (sym zero_n) ∙ raised_are_made x first_fresh to constants 0 cs ∙ ap (λ i. made_over x i constants cs) zero_i

    pub made_range : (y : Variable ℕ) → holds (map (raised (from_to first_fresh to constants)) fresh) y ≡ true → (to ≤ y.name) × (y.name < to + length cs)
    made_range y h =
        let r = numbered_within to (cells_over x constants cs) y (subst (λ l. holds l y ≡ true) made_numbers h) in
        let same : length (cells_over x constants cs) ≡ length cs = length-map cs (λ (e : Cell (List ℕ)). record { hint = e.hint; type = over constants e.type }) in
        let below = r.1 in
        (r.0, omega (arith, below, same))

  fresh_range : (w : Variable ℕ) → holds fresh w ≡ true → (first_fresh ≤ w.name) × (w.name < first_fresh + length cs)
  fresh_range w h = numbered_within first_fresh cs w h

  -- over the fresh variables alone
  abbrev pub AreRight : Type 0
  AreRight = (t : Bare) → Contains ts t → ((G : List Ty) × (A : Ty) × HasType sg G t A) × ((y : Variable ℕ) → holds (variables t) y ≡ true → holds fresh y ≡ true) × ((a : Nominal) → Contains (support t) a → Contains left a ⊎ ¬ (Contains right (moved_by ps a)))

  -- numbers outside of all that is made
  pub is_apart : (y : Variable ℕ) → (y.name < n) ⊎ (high ≤ y.name) → IsApart fresh (from_to first_fresh n left) (from_to first_fresh amid right) y
  is_apart y o = record {
    itself = false_from_ne_true (holds fresh y) (λ h. let r = fresh_range y h in let lo = r.0 in let hi = r.1 in elim o [ inl l ↦ absurd (omega (arith, l, lo)) | inr l ↦ absurd (omega (arith, l, hi)) ]);
    first = false_from_ne_true (holds (map (raised (from_to first_fresh n left)) fresh) y) (λ h. let r = made_range n left y h in let lo = r.0 in let hi = r.1 in elim o [ inl l ↦ absurd (omega (arith, l, lo)) | inr l ↦ absurd (omega (arith, l, hi)) ]);
    second = false_from_ne_true (holds (map (raised (from_to first_fresh amid right)) fresh) y) (λ h. let r = made_range amid right y h in let lo = r.0 in let hi = r.1 in elim o [ inl l ↦ absurd (omega (arith, l, lo)) | inr l ↦ absurd (omega (arith, l, hi)) ]);
  }

  -- WHERE A SEARCH UNIFIES THEM, they are read off in turn
  module _ (f : Guess) (es : List (Equation (List ℕ))) (es_lefts : LeftsWithout (made_over x n left cs) es) (cells more : List (Cell (List ℕ))) (olds : List (Variable ℕ)) (q : Substitution ℕ (List ℕ))
      (typed : AreTyped sg es) (known : AreKnown cells (olds ++ made_over x n left cs)) (over_cells : AreOver cells es)
      (is : IsGuessFor sg (olds ++ made_over x n left cs) f) (equal : MakesEqual f es) (solves : Solves x (given es cells (olds ++ made_over x n left cs)) (unified more q)) where
    pub f_some : (w : Variable ℕ) → holds fresh w ≡ true → (v : Bare) × (f (raised (from_to first_fresh n left) w) ≡ Some v)
    f_some w h = let y = raised (from_to first_fresh n left) w in is.some y (holds_behind olds (made_over x n left cs) y (subst (λ l. holds l y ≡ true) (made_numbers n left) (held_map (raised (from_to first_fresh n left)) fresh w h)))

    pub first_turn : ReadInTurn (map (raised (from_to first_fresh n left)) fresh) f es
    first_turn =
        let ys = olds ++ made_over x n left cs in
        problem_read sg x es cells ys [] f typed known over_cells (none_held es) (guess_fits sg ys [] f (guess_over sg ys f is)) (given_alike f es equal) (map (raised (from_to first_fresh n left)) fresh)
        (λ y i. holds_behind olds (made_over x n left cs) y (subst (λ l. holds l y ≡ true) (made_numbers n left) i))
        (subst (λ l. LeftsWithout l es) (sym (made_numbers n left)) es_lefts) more q solves

  module _ (are : AreRight) (different : AllPairs (λ a b. a ≢ b) right)
      (f : Guess) (f_typed : IsTypedMap sg f) (outside : (y : Variable ℕ) (v : Bare) → f y ≡ Some v → (z : Variable ℕ) → holds (variables v) z ≡ true → (z.name < n) ⊎ (high ≤ z.name))
      (es : List (Equation (List ℕ))) (es_raised : AreRaised (from_to first_fresh n left) fresh ts es) (es_lefts : LeftsWithout (made_over x n left cs) es)
      (cells more : List (Cell (List ℕ))) (olds : List (Variable ℕ)) (q : Substitution ℕ (List ℕ))
      (typed : AreTyped sg es) (known : AreKnown cells (olds ++ made_over x n left cs)) (over_cells : AreOver cells es)
      (is : IsGuessFor sg (olds ++ made_over x n left cs) f) (equal : MakesEqual f es) (solves : Solves x (given es cells (olds ++ made_over x n left cs)) (unified more q)) where
    abbrev first_way : Raising
    first_way = from_to first_fresh n left

    value_outside : (w : Variable ℕ) → holds fresh w ≡ true → (y : Variable ℕ) → holds (variables (image_by f (raised_term first_way w))) y ≡ true → (y.name < n) ⊎ (high ≤ y.name)
    value_outside w h = stand.has_held (λ y. (y.name < n) ⊎ (high ≤ y.name)) (image_by f (raised_term first_way w))
        (stand.image_by_has (λ z. z ≡ raised first_way w) (λ y. (y.name < n) ⊎ (high ≤ y.name)) f
        (λ y u e. stand.held_has (λ y. (y.name < n) ⊎ (high ≤ y.name)) u (outside y u e))
        (λ y e p. let own = f_some f es es_lefts cells more olds q typed known over_cells is equal solves w h in absurd (let both : Some own.0 ≡ None = sym own.1 ∙ ap f (sym p) ∙ e in cc))
        (raised_term first_way w)
        (stand.held_has (λ z. z ≡ raised first_way w) (raised_term first_way w) (only_raised first_way w)))

    one_number : (v w : Variable ℕ) → holds fresh v ≡ true → holds fresh w ≡ true → (first_way.number v.name ≡ first_way.number w.name) ⊎ ((from_to first_fresh amid right).number v.name ≡ (from_to first_fresh amid right).number w.name) → v ≡ w
    one_number v w h i e =
        let a = (fresh_range v h).0 in
        let b = (fresh_range w i).0 in
        numbered_one first_fresh cs v w h i (elim e [ inl q ↦ omega (arith, a, b, q) | inr q ↦ omega (arith, a, b, q) ])

    -- in the third way, with whatever left sides
    module _ (ds : List (Equation (List ℕ))) (ds_raised : AreRaised (from_to first_fresh amid right) fresh (map (permute ps) ts) ds) where
      -- WHERE THEY COME TO STAND
      module _ (g fill : Guess) (g_typed : IsTypedMap sg g) (fill_typed : IsTypedMap sg fill) (ks : List (Equation (List ℕ))) (ks_raised : AreRaised (from_to first_fresh k right) fresh (map (permute ps) ts) ks) (ks_lefts : LeftsWithout (made_over x k right cs) ks)
          (there : List (Cell (List ℕ))) (typed_there : AreTyped sg ks) (known_there : AreKnown there (made_over x k right cs)) (over_there : AreOver there ks)
          (agree : (w : Variable ℕ) → holds fresh w ≡ true → image_by g (raised_term (from_to first_fresh k right) w) ≡ image_by fill (permute ps (image_by f (raised_term (from_to first_fresh n left) w))))
          (values : (w : Variable ℕ) → holds fresh w ≡ true → (y : Variable ℕ) → holds (variables (permute ps (image_by f (raised_term (from_to first_fresh n left) w)))) y ≡ true
          → (v : Bare) × (fill y ≡ Some v) × ((us : List (Variable ℕ)) → Within us (made_over x k right cs) → Passes sg us y.type v))
          (clean : List Nominal) (g_over : IsGuessOver sg (made_over x k right cs) clean g) (hold_none : HoldNoneOf clean ks) (equal_there : MakesEqual g ks) where
        -- there are no others
        settled : map (permute ps) ts ≡ map (image_by (but fresh fill)) (map (permute ps) ts)
        settled = go ts (λ t m. m)
          where
            go : (us : List Bare) → ((t : Bare) → Contains us t → Contains ts t) → map (permute ps) us ≡ map (image_by (but fresh fill)) (map (permute ps) us)
            go [] f = refl
            go (t ∷ us) f =
                let T = permute ps t in
                ap (λ z. z ∷ map (permute ps) us) (sym (image_unmoved (but fresh fill) T (λ z m. ap (λ b. cond b None (fill z)) ((are t (f t (Contains-here t us))).1 z (ap (λ l. holds l z) (sym (variables_same (moved_by ps) t)) ∙ contains_holds (variables T) z m)))))
                ∙ ap (λ l. image_by (but fresh fill) T ∷ l) (go us (λ u m. f u (Contains-there t us u m)))

        there_turn : ReadInTurn (map (raised (from_to first_fresh k right)) fresh) g ks
        there_turn =
            last_turn sg fresh ts ps permutation first_way (λ i. (i - (n + (n + length cs))) + (n + length cs)) (λ i. (i - (n + (n + length cs))) + k) (λ i. (i - (n + length cs)) + k) right different
            (λ v w h i e. one_number v w h i (inl e)) (λ v w h i e. one_number v w h i (inr e)) (λ w i. let l = (fresh_range w i).0 in omega (arith, l))
            f (λ t m. ((are t m).0, (λ y i. inl ((are t m).1 y i)), (are t m).2)) f_typed is.nameless (λ w h y m. is_apart y (value_outside w h y m)) es es_raised
            (first_turn f es es_lefts cells more olds q typed known over_cells is equal solves) ds ds_raised g fill g_typed fill_typed ks (subst (λ l. AreRaised (from_to first_fresh k right) fresh l ks) settled ks_raised) agree
            (λ w h y m. let v = values w h y m in (v.0, v.1, λ us z. v.2 us (subst (Within us) (made_numbers k right) z)))
            (λ t m y i j. absurd (false≢true (sym j ∙ (are t m).1 y i)))

        -- THEY ARE UNIFIED, and no variable is made
        pub unified_alone : (p : Substitution ℕ (List ℕ)) × Solves x (given ks there (made_over x k right cs)) (unified there p)
        unified_alone =
            let zs = made_over x k right cs in
            unifies_alone sg x ks there zs clean g typed_there known_there over_there hold_none (guess_fits sg zs clean g g_over) (given_alike g ks equal_there) ks_lefts
            (subst (λ l. ReadInTurn l g ks) (made_numbers k right) there_turn)
