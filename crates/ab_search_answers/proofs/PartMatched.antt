-- A PART'S ATOM IS MATCHED WHEREVER IT COMES TO STAND: the search makes the goal the atom, with new terms for the names that it leaves open; in the end others are left open. With what the
-- guess has for all but those that are open in both, what is read off in turn in the search is so there.
use Rattle.std.proofs.Common.{◌≡◌, ◌≢◌, ◌⊎◌, inl, inr, ℕ, ◌+◌, ◌-◌, ◌<◌, ◌≤◌, List, [], ◌∷◌, map, length, codes, Bool, true, false, cond, Option, Some, None, option_map, refl, sym, ◌∙◌, ap, subst, arith}
use Rattle.std.specs.Prelude.{Contains, AllPairs}
use Rattle.std.proofs.lemmas.Bool.{false≢true, false_from_ne_true}
use Rattle.ab_term.specs.Types.{Ty, o}
use Rattle.ab_term.specs.Terms.{Nominal, Variable, variable, no_terms, Read}
use Rattle.ab_term.specs.Typing.{Signature, HasType}
use Rattle.ab_term.specs.Names.{support, permute, moved_by, IsPermutationTable}
use Rattle.ab_term.specs.Abstraction.{given_names}
use Rattle.ab_term.specs.Translation.{forget}
use Rattle.ab_term.specs.Variables.{Substitution, variables, image_by}
use Rattle.ab_term.proofs.Depends.{image_unmoved}
use Rattle.ab_term.proofs.Expansions.{expansion_typed}
use Rattle.ab_term.proofs.Hinted.{given_typed}
use Rattle.ab_term.proofs.ClosedMaps.{IsClosedMap, shift-image}
use Rattle.ab_term.proofs.Images.{IsTypedMap, image_by_typed, closed_map}
use Rattle.ab_term.proofs.Lists.{Contains-none, Contains-cases}
use Rattle.ab_term.proofs.OwnExpansion.{image_by-own}
use Rattle.ab_term.proofs.PastHints.{variables-forget}
use Rattle.ab_term.proofs.Permutations.{one_to_one}
use Rattle.ab_term.proofs.Raising.{new_over, forget-given}
use Rattle.ab_term.proofs.Renamings.{rename-expansion_of}
use Rattle.ab_term.proofs.Standing.{Has, expansion_of_has}
use Rattle.ab_term.proofs.Stands as stands
use Rattle.ab_term.proofs.Stands.{Either, variables-expansion_of}
use Rattle.ab_term.proofs.Translations.{translate_typed, support-translate, translate-shift}
use Rattle.ab_unifiers.specs.Replacements.{Cell, holds}
use Rattle.ab_unifiers.specs.Unification.{Equation, unified, Solves}
use Rattle.ab_unifiers.specs.Unifiers.{given, AreTyped, AreKnown, AreOver}
use Rattle.ab_unifiers.specs.Clauses.{Each, Within, numbered}
use Rattle.ab_unifiers.specs.Alternatives.{cells_over, made_over, made_terms}
use Rattle.ab_unifiers.proofs.Agreeing.{contains_holds, image_agrees}
use Rattle.ab_unifiers.proofs.Constants as constants
use Rattle.ab_unifiers.proofs.Following.{plain}
use Rattle.ab_unifiers.proofs.Lifting.{OfCells, made_terms_typed}
use Rattle.ab_unifiers.proofs.Past.{forget-own}
use Rattle.ab_unifiers.proofs.Rows.{numbered_within}
use Rattle.ab_unifiers.proofs.Variables as stand
use Rattle.ab_unifiers.proofs.Variables.{holds_contains}
use Rattle.ab_coverage.proofs.Clausal.{Free}
use Rattle.ab_coverage.proofs.Filling.{dropped_with}
use Rattle.ab_coverage.proofs.IndexedInstances.{IsGuess}
use Rattle.ab_coverage.proofs.IndexedSpecClauses.{left_open, spread, context_of}
use Rattle.ab_coverage.proofs.Taking.{Rows, merged, rows_atoms}
use Rattle.ab_search_trees.specs.Lifting.{Guess, MakesEqual}
use Rattle.ab_search_trees.proofs.Lifts.{own_stays}
use Rattle.ab_pattern_matching.specs.Reading.{but, ReadInTurn, LeftsWithout, HoldNoneOf, IsGuessOver}
use Rattle.ab_pattern_matching.specs.Raising.{Bare, Raising, raised, raised_term, raising, AreRaised, IsApart}
use Rattle.ab_pattern_matching.proofs.Going.{but_typed}
use Rattle.ab_pattern_matching.proofs.OfClauses.{from_to, numbered_one, raised_are_made}
use Rattle.ab_pattern_matching.proofs.Raised.{raising_typed}
use Rattle.ab_pattern_matching.proofs.TwoWays.{held_map, map_held, only_raised, variables_same}
use Rattle.ab_search_proofs.proofs.StandIns.{given_constants}
use Rattle.ab_search_trees.proofs.Quantifiers.{given_variables}
use Rattle.ab_search_clauses.specs.Paths.{alone}
use Rattle.ab_search_clauses.proofs.Along as along
use Rattle.ab_search_clauses.proofs.Anyway.{unified_anyway}
use Rattle.ab_search_clauses.proofs.Keeping.{Passes}
use Rattle.ab_search_clauses.proofs.PutFirst.{dress, dressed, own, own_typed, own_there, own_not, own_some, put_first, turn_put}
use Rattle.ab_search_answers.proofs.OpenRows as open_rows
use Rattle.ab_search_answers.proofs.OpenRows.{both_open, to_place, row, EachRow, each_row_map, row_guess, row_has, rows_met, HasRow, held_row, some_open, some_terms, rows_there, made_row, there_row, both_rows, IsBoth, IsOne}
use Rattle.ab_search_answers.proofs.Through.{GoesThrough, image_through, rename_through, then_through, atoms_through, dropped_typed, dropped_has, dress_typed}

-- the search's new terms have numbers from n on and are over S; there they have numbers from k on and are over T, and `low` variables are old there
module _ (sg : Signature) {ds es : List Bool} {cs : List (Cell (List ℕ))} {terms taken : List (Option Read)} (rows : Rows sg ds es cs terms taken) (n k low : ℕ) (low_there : low ≤ k) (S T : List Nominal) (different : AllPairs (λ a b. a ≢ b) T)
    (ps : List (Nominal × Nominal)) (permutation : IsPermutationTable ps) where
  abbrev x : List ℕ
  x = codes "x"

  abbrev pub opened : List (Cell (List ℕ))
  opened = left_open ds cs

  abbrev pub made : List Read
  made = made_terms (codes "x") n S (left_open ds cs)

  -- numbers for names that are open in both; between; and above all of these
  abbrev pub N : ℕ
  N = n + length (left_open ds cs) + low

  abbrev amid : ℕ
  amid = n + length (left_open ds cs) + low + length (left_open ds cs)

  abbrev pub high : ℕ
  high = n + length (left_open ds cs) + low + length (left_open ds cs) + length (left_open ds cs)

  abbrev pub ws : List (Variable ℕ)
  ws = both_open (n + length (left_open ds cs) + low) ds es cs 0

  abbrev R : Raising
  R = from_to (n + length (left_open ds cs) + low) n S

  abbrev before : ℕ → ℕ
  before i = (i - (n + length (left_open ds cs) + low)) + (n + length (left_open ds cs) + low + length (left_open ds cs))

  abbrev pub after : ℕ → ℕ
  after i = k + to_place ds es (i - (n + length (left_open ds cs) + low))

  abbrev move : ℕ → ℕ
  move m = k + to_place ds es (m - (n + length (left_open ds cs) + low + length (left_open ds cs)))

  abbrev middle : Raising
  middle = record { number = before; constants = T }

  abbrev pub last : Raising
  last = record { number = after; constants = T }

  abbrev news : List (Variable ℕ)
  news = made_over (codes "x") n S (left_open ds cs)

  abbrev zs : List (Variable ℕ)
  zs = map (raised (from_to (n + length (left_open ds cs) + low) n S)) (both_open (n + length (left_open ds cs) + low) ds es cs 0)

  abbrev pub lasts : List (Variable ℕ)
  lasts = map (raised last) ws

  ws_numbered : (w : Variable ℕ) → holds ws w ≡ true → holds (numbered N opened) w ≡ true
  ws_numbered w h = let start : N + 0 ≡ N = omega arith in subst (λ i. holds (numbered i opened) w ≡ true) start (some_open N ds es cs 0 w h)

  ws_range : (w : Variable ℕ) → holds ws w ≡ true → (N ≤ w.name) × (w.name < N + length opened)
  ws_range w h = numbered_within N opened w (ws_numbered w h)

  -- outside of all that is made
  abbrev pub IsOutside : Variable ℕ → Type 0
  IsOutside y = (y.name < n) ⊎ (high ≤ y.name)

  pub outside_is : (y : Variable ℕ) → (y.name < n) ⊎ (high ≤ y.name) → IsOutside y
  outside_is y a = a

  not_ws : (y : Variable ℕ) → IsOutside y → holds ws y ≡ false
  not_ws y a = false_from_ne_true (holds ws y) (λ h. let r = ws_range y h in let lo = r.0 in let hi = r.1 in elim a [ inl l ↦ absurd (omega (arith, l, lo)) | inr l ↦ absurd (omega (arith, l, hi)) ])

  not_zs : (y : Variable ℕ) → IsOutside y → holds zs y ≡ false
  not_zs y a = false_from_ne_true (holds zs y) (λ h.
      let w = map_held (raised R) ws y h in
      let r = ws_range w.0 w.1 in
      let number : ((w.0).name - N) + n ≡ y.name = ap (λ (v : Variable ℕ). v.name) w.2 in
      let lo = r.0 in let hi = r.1 in
      elim a [ inl l ↦ absurd (omega (arith, l, number)) | inr l ↦ absurd (omega (arith, l, number, lo, hi)) ])

  not_middle : (y : Variable ℕ) → IsOutside y → holds (map (raised middle) ws) y ≡ false
  not_middle y a = false_from_ne_true (holds (map (raised middle) ws) y) (λ h.
      let w = map_held (raised middle) ws y h in
      let r = ws_range w.0 w.1 in
      let number : ((w.0).name - N) + amid ≡ y.name = ap (λ (v : Variable ℕ). v.name) w.2 in
      let lo = r.0 in let hi = r.1 in
      elim a [ inl l ↦ absurd (omega (arith, l, number)) | inr l ↦ absurd (omega (arith, l, number, lo, hi)) ])

  apart_outside : (y : Variable ℕ) → IsOutside y → IsApart ws R middle y
  apart_outside y a = record { itself = not_ws y a; first = not_zs y a; second = not_middle y a }

  zs_within : Within zs news
  zs_within y h =
      let w = map_held (raised R) ws y h in
      let start : N + 0 ≡ N = omega arith in
      let first : n + 0 ≡ n = omega arith in
      let there = held_map (raised R) (numbered N opened) w.0 (ws_numbered w.0 w.1) in
      let made_so : map (raised R) (numbered N opened) ≡ news = ap (λ i. map (raised R) (numbered i opened)) (sym start) ∙ raised_are_made x N n S 0 opened ∙ ap (λ i. made_over x i S opened) first in
      subst (λ v. holds news v ≡ true) w.2 (subst (λ l. holds l (raised R w.0) ≡ true) made_so there)

  -- what becomes of the search's terms in the end, and there; and what the unifier there has
  module _ (end there : Read → Read) (end_typed : (A : Ty) (t : Read) → HasType sg [] t A → HasType sg [] (end t) A) (there_typed : (A : Ty) (t : Read) → HasType sg [] t A → HasType sg [] (there t) A)
      (same_end : merged sg ds terms taken ≡ spread ds (map end (made_terms (codes "x") n S (left_open ds cs))))
      (U : Substitution ℕ (List ℕ)) (become : Each (λ m u. image_by (plain U) (forget m) ≡ forget (there u)) (made_terms (codes "x") k T (left_open es cs)) (some_terms terms)) where
    abbrev Becomes : Read → Read → Type 0
    Becomes m w = image_by (plain U) (forget m) ≡ forget w

    abbrev made_at : ℕ → ℕ → Ty → Read
    made_at = open_rows.made_at sg N n k S T end there Becomes

    abbrev other_at : ℕ → ℕ → Ty → Read
    other_at = open_rows.other_at sg N n k S T end there Becomes

    abbrev end_at : ℕ → ℕ → Ty → Read
    end_at = open_rows.end_at sg N n k S T end there Becomes

    abbrev Both : ℕ → ℕ → Ty → Type 0
    Both = IsBoth sg N n k S T end there Becomes ws (to_place ds es) made

    abbrev One : ℕ → ℕ → Ty → Type 0
    One = IsOne sg N n k S T end there Becomes ws (to_place ds es) made

    same_here : merged sg ds terms taken ≡ spread ds (map end (made_terms (codes "x") (n + 0) S (left_open ds cs)))
    same_here = let start : n ≡ n + 0 = omega arith in subst (λ i. merged sg ds terms taken ≡ spread ds (map end (made_terms (codes "x") i S (left_open ds cs)))) start same_end

    each : EachRow Both One ds es cs 0 0
    each =
        let start : n + 0 ≡ n = omega arith in
        let second : k ≡ k + 0 = omega arith in
        both_rows sg N n k S T end there Becomes ws (to_place ds es) made rows 0 0 (λ w h. h) (λ w l h. h)
        (λ m. (let z : 0 + m ≡ m = omega arith in ap (to_place ds es) z) ∙ (let z : to_place ds es m ≡ 0 + to_place ds es m = omega arith in z))
        (λ u m. subst (λ i. Contains (made_terms x i S opened) u) start m)
        same_here
        (subst (λ i. Each (λ m u. Becomes m (there u)) (made_terms x i T (left_open es cs)) (some_terms terms)) second become)

    made_typed : (i j : ℕ) (A : Ty) → HasType sg [] (made_at i j A) A
    made_typed i j A = given_typed sg x [] (new_over (n + i) S A) S A refl

    other_typed : (i j : ℕ) (A : Ty) → HasType sg [] (other_at i j A) A
    other_typed i j A = given_typed sg x [] (new_over (k + j) T A) T A refl

    end_at_typed : (i j : ℕ) (A : Ty) → HasType sg [] (end_at i j A) A
    end_at_typed i j A = there_typed A (end (made_at i j A)) (end_typed A (made_at i j A) (made_typed i j A))

    abbrev alone_at : ℕ → ℕ → Ty → Read
    alone_at i j A = alone (record { name = n + length (left_open ds cs) + low + i; type = A })

    alone_typed : (i j : ℕ) (A : Ty) → HasType sg [] (alone_at i j A) A
    alone_typed i j A = expansion_typed sg x A [] (variable (record { name = N + i; type = A })) refl

    -- as raised terms
    first_raised : (i j : ℕ) (A : Ty) → raised_term R (record { name = N + i; type = A }) ≡ forget (made_at i j A)
    first_raised i j A =
        let number : ((N + i) - N) + n ≡ n + i = omega arith in
        ap (λ q. given_names tt (new_over q S A) S A) number ∙ sym (forget-given x (new_over (n + i) S A) S A)

    last_raised : (i j : ℕ) (A : Ty) → to_place ds es i ≡ j → raised_term last (record { name = N + i; type = A }) ≡ forget (other_at i j A)
    last_raised i j A p =
        let number : (N + i) - N ≡ i = omega arith in
        ap (λ q. given_names tt (new_over (k + to_place ds es q) T A) T A) number
        ∙ ap (λ q. given_names tt (new_over (k + q) T A) T A) p
        ∙ sym (forget-given x (new_over (k + j) T A) T A)

    -- the variable of a new term
    made_variable : (i j : ℕ) (A : Ty) (y : Variable ℕ) → holds (variables (forget (made_at i j A))) y ≡ true → y ≡ raised R (record { name = N + i; type = A })
    made_variable i j A y h = only_raised R (record { name = N + i; type = A }) y (subst (λ t. holds (variables t) y ≡ true) (sym (first_raised i j A)) h)

    made_number : (i j : ℕ) (A : Ty) (y : Variable ℕ) → holds (variables (forget (made_at i j A))) y ≡ true → y.name ≡ n + i
    made_number i j A y h = let e : y.name ≡ ((N + i) - N) + n = ap (λ (v : Variable ℕ). v.name) (made_variable i j A y h) in omega (arith, e)

    not_both : (i j : ℕ) (A : Ty) → One i j A → (y : Variable ℕ) → holds (variables (forget (made_at i j A))) y ≡ true → holds zs y ≡ false
    not_both i j A one y h = false_from_ne_true (holds zs y) (λ m.
        let w = map_held (raised R) ws y m in
        let number : ((w.0).name - N) + n ≡ y.name = ap (λ (v : Variable ℕ). v.name) w.2 in
        let mine = made_number i j A y h in
        let lo = (ws_range w.0 w.1).0 in
        false≢true (sym (one.unheld w.0 (omega (arith, number, mine, lo))) ∙ w.1))

    both_there : (i j : ℕ) (A : Ty) → Both i j A → (y : Variable ℕ) → holds (variables (forget (made_at i j A))) y ≡ true → holds zs y ≡ true
    both_there i j A b y h = subst (λ v. holds zs v ≡ true) (sym (made_variable i j A y h)) (held_map (raised R) ws (record { name = N + i; type = A }) b.held)

    -- THE ATOMS, in the search and there, and what the guess has
    module _ (A B : Read) (A_typed : HasType sg (context_of cs []) A o) (A_free : Free ds cs A) (B_free : Free ds cs B) (B_free_there : Free es cs B)
        (A_low : (y : Variable ℕ) → holds (variables (forget A)) y ≡ true → y.name < n) (A_names : (a : Nominal) → Contains (support (forget A)) a → Contains S a)
        (f fill : Guess) (f_typed : IsTypedMap sg f) (nameless : (y : Variable ℕ) (v : Bare) → f y ≡ Some v → support v ≡ []) (fill_typed : IsTypedMap sg fill)
        (outside : (y : Variable ℕ) (v : Bare) → f y ≡ Some v → (z : Variable ℕ) → holds (variables v) z ≡ true → IsOutside z)
        (some : (y : Variable ℕ) → holds news y ≡ true → (v : Bare) × (f y ≡ Some v))
        (fill_old : (y : Variable ℕ) (v : Bare) → fill y ≡ Some v → (z : Variable ℕ) → holds (variables v) z ≡ true → z.name < low)
        (end_atom : image_by fill (permute ps (image_by f (forget A))) ≡ forget B)
        (end_made : (u : Read) → Contains made u → image_by fill (permute ps (image_by f (forget u))) ≡ forget (there (end u))) where
      -- WHAT THE GUESS LEAVES OPEN becomes something that passes what is read
      abbrev pub IsGood : Variable ℕ → Type 0
      IsGood y = (v : Bare) × (fill y ≡ Some v) × ((us : List (Variable ℕ)) → Within us lasts → Passes sg us y.type v)

      values_apart : (y : Variable ℕ) (v : Bare) → f y ≡ Some v → (z : Variable ℕ) → holds (variables v) z ≡ true → holds zs z ≡ false
      values_apart y v e z m = not_zs z (outside y v e z m)

      abbrev f1 : Guess
      f1 = own sg zs f f_typed values_apart

      A_bare : HasType sg (context_of cs []) (forget A) o
      A_bare = translate_typed sg (λ v. v) (λ h. tt) A_typed

      abbrev under : Read
      under = dress (image_by f (forget A))

      under_typed : HasType sg (context_of cs []) under o
      under_typed = dress_typed sg (image_by_typed sg ℕ (Unit {0}) f f_typed A_bare)

      abbrev guess_at : ℕ → ℕ → Ty → Read
      guess_at i j D = dress (image_by f (forget (made_at i j D)))

      guess_at_typed : (i j : ℕ) (D : Ty) → HasType sg [] (guess_at i j D) D
      guess_at_typed i j D = dress_typed sg (image_by_typed sg ℕ (Unit {0}) f f_typed (translate_typed sg (λ v. v) (λ h. tt) (made_typed i j D)))

      A_outside : (y : Variable ℕ) → holds (variables (image_by f (forget A))) y ≡ true → IsOutside y
      A_outside = stand.has_held IsOutside (image_by f (forget A)) (stand.image_by_has (λ y. y.name < n) IsOutside f (λ y v e. stand.held_has IsOutside v (outside y v e)) (λ y e l. outside_is y (inl l)) (forget A) (stand.held_has (λ y. y.name < n) (forget A) A_low))

      made_outside : (u : Read) → Contains made u → (y : Variable ℕ) → holds (variables (image_by f (forget u))) y ≡ true → IsOutside y
      made_outside u m =
          let z = along.made_is sg n S opened [] u m in
          stand.has_held IsOutside (image_by f (forget u)) (stand.image_by_has (λ y. y ≡ z.new) IsOutside f (λ y v e. stand.held_has IsOutside v (outside y v e))
          (λ y e p. let v = some z.new z.held in absurd (let bad : None ≡ Some v.0 = sym e ∙ ap f p ∙ v.1 in cc)) (forget u)
          (stand.held_has (λ y. y ≡ z.new) (forget u) (λ y i. given_variables x z.new S z.type y (subst (λ t. Contains (variables t) y) z.as_given (subst (λ l. Contains l y) (variables-forget u) (holds_contains (variables (forget u)) y i))))))

      closed : IsClosedMap f
      closed = closed_map sg ℕ (Unit {0}) f f_typed

      free_under : (fs : List Bool) (bs : List (Cell (List ℕ))) (t : Read) → Free fs bs t → Free fs bs (dress (image_by f (forget t)))
      free_under [] [] t e = tt
      free_under (true ∷ fs) (b ∷ bs) t e = (
        (
          dress (image_by f (forget e.0.0)),
          ap (λ z. dress (image_by f (forget z))) e.0.1
              ∙ ap (λ z. dress (image_by f z)) (translate-shift (λ v. v) (λ h. tt) e.0.0 (length bs))
              ∙ ap dress (sym (shift-image f closed (forget e.0.0) (length bs)))
              ∙ translate-shift (λ v. v) (λ u. codes "x") (image_by f (forget e.0.0)) (length bs),
        ),
        free_under fs bs t e.1,
      )
      free_under (false ∷ fs) (b ∷ bs) t e = free_under fs bs t e
      free_under fs bs t e = absurd e

      under_free : Free ds cs under
      under_free = free_under ds cs A A_free

      -- ROWS: fresh variables for the names that are open in both, and what the guess has for the others; then the search's terms for the first
      abbrev fresh : List (Option Read)
      fresh = row alone_at guess_at ds es cs 0 0

      abbrev mids : List (Option Read)
      mids = row made_at guess_at ds es cs 0 0

      fresh_guess : IsGuess sg ds cs fresh
      fresh_guess = row_guess sg alone_at guess_at ds es cs 0 0 (each_row_map Both One (λ i j D. HasType sg [] (alone_at i j D) D) (λ i j D. HasType sg [] (guess_at i j D) D) (λ i j D b. alone_typed i j D) (λ i j D b. guess_at_typed i j D) ds es cs 0 0 each)

      mids_guess : IsGuess sg ds cs mids
      mids_guess = row_guess sg made_at guess_at ds es cs 0 0 (each_row_map Both One (λ i j D. HasType sg [] (made_at i j D) D) (λ i j D. HasType sg [] (guess_at i j D) D) (λ i j D b. made_typed i j D) (λ i j D b. guess_at_typed i j D) ds es cs 0 0 each)

      all_made_guess : IsGuess sg ds cs (row made_at made_at ds es cs 0 0)
      all_made_guess = row_guess sg made_at made_at ds es cs 0 0 (each_row_map Both One (λ i j D. HasType sg [] (made_at i j D) D) (λ i j D. HasType sg [] (made_at i j D) D) (λ i j D b. made_typed i j D) (λ i j D b. made_typed i j D) ds es cs 0 0 each)

      -- THE RIGHT SIDE over fresh variables
      abbrev t : Bare
      t = forget (dropped_with cs fresh under)

      O1_through : GoesThrough sg (image_by (but zs f))
      O1_through = image_through sg (but zs f) (but_typed sg zs f f_typed)

      O2_through : GoesThrough sg (image_by (raising R ws))
      O2_through = image_through sg (raising R ws) (raising_typed sg R ws)

      first_side : image_by (but zs f) (forget (dropped_with cs (spread ds made) A)) ≡ forget (dropped_with cs mids under)
      first_side =
          let start : n ≡ n + 0 = omega arith in
          ap (λ i. image_by (but zs f) (forget (dropped_with cs (spread ds (made_terms x i S opened)) A))) start
          ∙ ap (λ l. image_by (but zs f) (forget (dropped_with cs l A))) (made_row sg N n k S T end there Becomes rows 0 0)
          ∙ atoms_through sg (image_by (but zs f)) O1_through ds cs (row made_at made_at ds es cs 0 0) mids all_made_guess mids_guess
          (rows_met sg (image_by (but zs f)) O1_through made_at made_at made_at guess_at ds es cs 0 0
          (each_row_map Both One (λ i j D. image_by (but zs f) (forget (made_at i j D)) ≡ forget (made_at i j D)) (λ i j D. image_by (but zs f) (forget (made_at i j D)) ≡ forget (guess_at i j D))
          (λ i j D b. image_unmoved (but zs f) (forget (made_at i j D)) (λ y m. ap (λ q. cond q None (f y)) (both_there i j D b y (contains_holds (variables (forget (made_at i j D))) y m))))
          (λ i j D one. image_agrees (but zs f) f (forget (made_at i j D)) (λ y m. ap (λ q. cond q None (f y)) (not_both i j D one y m)) ∙ sym (dressed (image_by f (forget (made_at i j D)))))
          ds es cs 0 0 each))
          A under A_typed A_free under_free (image_agrees (but zs f) f (forget A) (λ y m. ap (λ q. cond q None (f y)) (not_zs y (inl (A_low y m)))) ∙ sym (dressed (image_by f (forget A))))

      -- what is outside stays
      still : (r : Raising) (X : Bare) → ((y : Variable ℕ) → holds (variables X) y ≡ true → holds ws y ≡ false) → image_by (raising r ws) X ≡ X
      still r X g = image_unmoved (raising r ws) X (λ y m. ap (λ q. cond q (Some (raised_term r y)) None) (g y (contains_holds (variables X) y m)))

      alone_raised : (r : Raising) (w : Variable ℕ) → holds ws w ≡ true → image_by (raising r ws) (forget (alone w)) ≡ raised_term r w
      alone_raised r w h = ap (image_by (raising r ws)) (forget-own x w) ∙ image_by-own sg ℕ (raising r ws) (raising_typed sg r ws) w (raised_term r w) (ap (λ q. cond q (Some (raised_term r w)) None) h)

      guess_outside : (i j : ℕ) (D : Ty) → One i j D → (y : Variable ℕ) → holds (variables (forget (guess_at i j D))) y ≡ true → IsOutside y
      guess_outside i j D one y h = made_outside (made_at i j D) one.made_one y (subst (λ z. holds (variables z) y ≡ true) (dressed (image_by f (forget (made_at i j D)))) h)

      second_side : image_by (raising R ws) t ≡ forget (dropped_with cs mids under)
      second_side =
          atoms_through sg (image_by (raising R ws)) O2_through ds cs fresh mids fresh_guess mids_guess
          (rows_met sg (image_by (raising R ws)) O2_through alone_at guess_at made_at guess_at ds es cs 0 0
          (each_row_map Both One (λ i j D. image_by (raising R ws) (forget (alone_at i j D)) ≡ forget (made_at i j D)) (λ i j D. image_by (raising R ws) (forget (guess_at i j D)) ≡ forget (guess_at i j D))
          (λ i j D b. alone_raised R (record { name = N + i; type = D }) b.held ∙ first_raised i j D)
          (λ i j D one. still R (forget (guess_at i j D)) (λ y m. not_ws y (guess_outside i j D one y m)))
          ds es cs 0 0 each))
          under under under_typed under_free under_free
          (still R (forget under) (λ y m. not_ws y (A_outside y (subst (λ z. holds (variables z) y ≡ true) (dressed (image_by f (forget A))) m))))

      -- WHERE WHAT THE GUESS LEAVES OPEN IS GOOD
      module _ (good_atom : (y : Variable ℕ) → holds (variables (image_by f (forget A))) y ≡ true → IsGood y) (good_made : (u : Read) → Contains made u → (y : Variable ℕ) → holds (variables (image_by f (forget u))) y ≡ true → IsGood y) where
        abbrev Q : Variable ℕ → Type 0
        Q y = (holds ws y ≡ true) ⊎ (IsOutside y × IsGood y)

        bare_has : (X : Bare) → ((a : Nominal) → Contains (support X) a → Contains S a) → ((y : Variable ℕ) → holds (variables X) y ≡ true → IsOutside y × IsGood y) → Has (Either (Contains S) Q) (dress X)
        bare_has X names vars = stands.has (Contains S) Q (dress X)
            (λ a m. names a (subst (λ z. Contains (support z) a) (dressed X) (subst (λ l. Contains l a) (sym (support-translate (λ v. v) (λ h. tt) (dress X))) m)))
            (λ y m. inr (vars y (subst (λ z. holds (variables z) y ≡ true) (dressed X) (contains_holds (variables (forget (dress X))) y (subst (λ l. Contains l y) (sym (variables-forget (dress X))) m)))))

        names_kept : (X : Bare) → ((a : Nominal) → Contains (support X) a → Contains S a) → (a : Nominal) → Contains (support (image_by f X)) a → Contains S a
        names_kept X k a m = constants.has_support (Contains S) (image_by f X)
            (constants.image_by_has (Contains S) f (λ y v e. constants.support_has (Contains S) v (λ a i. absurd (Contains-none a (subst (λ l. Contains l a) (nameless y v e) i)))) X (constants.support_has (Contains S) X k)) a m

        made_names : (i j : ℕ) (D : Ty) (a : Nominal) → Contains (support (forget (made_at i j D))) a → Contains S a
        made_names i j D a m = constants.has_support (Contains S) (made_at i j D) (given_constants (new_over (n + i) S D) S D) a (subst (λ l. Contains l a) (support-translate (λ v. v) (λ h. tt) (made_at i j D)) m)

        t_has : Has (Either (Contains S) Q) (dropped_with cs fresh under)
        t_has = dropped_has sg ds cs fresh fresh_guess under under_free (Either (Contains S) Q) (λ l. tt) (λ c. tt)
            (row_has sg (Either (Contains S) Q) (λ l. tt) alone_at guess_at ds es cs 0 0
            (each_row_map Both One (λ i j D. Has (Either (Contains S) Q) (alone_at i j D)) (λ i j D. Has (Either (Contains S) Q) (guess_at i j D))
            (λ i j D b. expansion_of_has (Either (Contains S) Q) x D (variable (record { name = N + i; type = D })) no_terms (inl b.held) tt)
            (λ i j D one. bare_has (image_by f (forget (made_at i j D))) (names_kept (forget (made_at i j D)) (made_names i j D)) (λ y m. (made_outside (made_at i j D) one.made_one y m, good_made (made_at i j D) one.made_one y m)))
            ds es cs 0 0 each))
            (bare_has (image_by f (forget A)) (names_kept (forget A) A_names) (λ y m. (A_outside y m, good_atom y m)))

        t_variables : (y : Variable ℕ) → holds (variables t) y ≡ true → Q y
        t_variables y h = stands.has_variables (Contains S) Q (dropped_with cs fresh under) t_has y (subst (λ l. Contains l y) (variables-forget (dropped_with cs fresh under)) (holds_contains (variables t) y h))

        t_names : (a : Nominal) → Contains (support t) a → Contains S a
        t_names a m = stands.has_names (Contains S) Q (dropped_with cs fresh under) t_has a (subst (λ l. Contains l a) (support-translate (λ v. v) (λ h. tt) (dropped_with cs fresh under)) m)

        t_typed : HasType sg [] t o
        t_typed = translate_typed sg (λ v. v) (λ h. tt) (dropped_typed sg ds cs fresh fresh_guess under under_free under_typed)

        t_list : (P : Bare → Type 0) → P t → (v : Bare) → Contains (t ∷ []) v → P v
        t_list P p v m = elim (Contains-cases t [] v m) [ inl e ↦ subst P e p | inr i ↦ absurd (Contains-none v i) ]

        -- THE SEARCH'S EQUATION
        module _ (e : Equation (List ℕ)) (e_right : forget e.right ≡ forget (dropped_with cs (spread ds made) A)) (e_typed : AreTyped sg (e ∷ [])) (turn : ReadInTurn news f (e ∷ [])) where
          abbrev es1 : List (Equation (List ℕ))
          es1 = put_first sg zs f f_typed values_apart (e ∷ [])

          turn1 : ReadInTurn zs f1 es1
          turn1 = turn_put sg zs f f_typed values_apart (e ∷ []) e_typed (λ us w. turn us (λ y h. zs_within y (w y h)))

          es1_raised : AreRaised R ws (t ∷ []) es1
          es1_raised = (dressed (image_by (but zs f) (forget e.right)) ∙ ap (image_by (but zs f)) e_right ∙ first_side ∙ sym second_side, tt)

          once : (v w : Variable ℕ) → holds ws v ≡ true → holds ws w ≡ true → R.number v.name ≡ R.number w.name → v ≡ w
          once v w h i q = let a = (ws_range v h).0 in let b = (ws_range w i).0 in numbered_one N opened v w (ws_numbered v h) (ws_numbered w i) (omega (arith, a, b, q))

          once_amid : (v w : Variable ℕ) → holds ws v ≡ true → holds ws w ≡ true → before v.name ≡ before w.name → v ≡ w
          once_amid v w h i q = let a = (ws_range v h).0 in let b = (ws_range w i).0 in numbered_one N opened v w (ws_numbered v h) (ws_numbered w i) (omega (arith, a, b, q))

          moves : (w : Variable ℕ) → holds ws w ≡ true → move (before w.name) ≡ after w.name
          moves w h = let number : ((w.name - N) + amid) - amid ≡ w.name - N = omega arith in ap (λ q. k + to_place ds es q) number

          f1_raised : (w : Variable ℕ) → holds ws w ≡ true → image_by f1 (raised_term R w) ≡ image_by f (raised_term R w)
          f1_raised w h = image_agrees f1 f (raised_term R w) (λ z m. own_there sg zs f f_typed values_apart z (subst (λ v. holds zs v ≡ true) (sym (only_raised R w z m)) (held_map (raised R) ws w h)))

          are : (v : Bare) → Contains (t ∷ []) v → ((G : List Ty) × (T : Ty) × HasType sg G v T) × ((y : Variable ℕ) → holds (variables v) y ≡ true → (holds ws y ≡ true) ⊎ (IsApart ws R middle y × (f1 y ≡ None))) × ((a : Nominal) → Contains (support v) a → Contains S a ⊎ ¬ (Contains T (moved_by ps a)))
          are = t_list (λ v. ((G : List Ty) × (T : Ty) × HasType sg G v T) × ((y : Variable ℕ) → holds (variables v) y ≡ true → (holds ws y ≡ true) ⊎ (IsApart ws R middle y × (f1 y ≡ None))) × ((a : Nominal) → Contains (support v) a → Contains S a ⊎ ¬ (Contains T (moved_by ps a))))
              (([], o, t_typed), (λ y h. elim (t_variables y h) [ inl i ↦ inl i | inr q ↦ inr (apart_outside y q.0, own_not sg zs f f_typed values_apart y (not_zs y q.0)) ]), (λ a m. inl (t_names a m)))

          -- for a name that is open in both
          abbrev RowOf : Variable ℕ → Type 0
          RowOf = HasRow Both One N

          row_of : (w : Variable ℕ) → holds ws w ≡ true → RowOf w
          row_of w h = held_row Both One N ds es cs 0 0 each w h

          value_is : (w : Variable ℕ) (h : holds ws w ≡ true) (r : RowOf w) → image_by f1 (raised_term R w) ≡ image_by f (forget (made_at r.0 r.1 r.2))
          value_is w h r = f1_raised w h ∙ ap (λ v. image_by f (raised_term R v)) r.3 ∙ ap (image_by f) (first_raised r.0 r.1 r.2)

          value_outside : (w : Variable ℕ) → holds ws w ≡ true → (y : Variable ℕ) → holds (variables (image_by f1 (raised_term R w))) y ≡ true → IsOutside y × IsGood y
          value_outside w h y m =
              let r = row_of w h in
              let u = made_at r.0 r.1 r.2 in
              let there_y = subst (λ z. holds (variables z) y ≡ true) (value_is w h r) m in
              (made_outside u r.4.made_one y there_y, good_made u r.4.made_one y there_y)

          in_renamed : (X : Bare) (y : Variable ℕ) → holds (variables (permute ps X)) y ≡ true → holds (variables X) y ≡ true
          in_renamed X y h = ap (λ l. holds l y) (sym (variables_same (moved_by ps) X)) ∙ h

          values : (w : Variable ℕ) → holds ws w ≡ true → (y : Variable ℕ) → holds (variables (permute ps (image_by f1 (raised_term R w)))) y ≡ true → IsGood y
          values w h y m = (value_outside w h y (in_renamed (image_by f1 (raised_term R w)) y m)).1

          agree : (w : Variable ℕ) → holds ws w ≡ true → image_by (plain U) (raised_term last w) ≡ image_by fill (permute ps (image_by f1 (raised_term R w)))
          agree w h =
              let r = row_of w h in
              let b = r.4 in
              let u = made_at r.0 r.1 r.2 in
              ap (λ v. image_by (plain U) (raised_term last v)) r.3
              ∙ ap (image_by (plain U)) (last_raised r.0 r.1 r.2 b.placed)
              ∙ b.becomes
              ∙ sym (end_made u b.made_one)
              ∙ ap (λ z. image_by fill (permute ps z)) (sym (value_is w h r))

          -- THERE
          abbrev pub there_zs : List (Variable ℕ)
          there_zs = made_over (codes "x") k T (left_open es cs)

          abbrev there_made : List Read
          there_made = made_terms (codes "x") k T (left_open es cs)

          last_row : List (Option Read)
          last_row = row other_at end_at ds es cs 0 0

          keeps : (a : Nominal) → (moved_by ps a).type ≡ a.type
          keeps = (one_to_one ps permutation).keeps

          abbrev O3 : Bare → Bare
          O3 z = image_by (raising last ws) (image_by (but ws fill) (permute ps z))

          O3_through : GoesThrough sg O3
          O3_through =
              then_through sg (λ z. image_by (but ws fill) (permute ps z)) (image_by (raising last ws))
              (then_through sg (permute ps) (image_by (but ws fill)) (rename_through sg (moved_by ps) keeps) (image_through sg (but ws fill) (but_typed sg ws fill fill_typed)))
              (image_through sg (raising last ws) (raising_typed sg last ws))

          old_not_ws : (z : Variable ℕ) → z.name < low → holds ws z ≡ false
          old_not_ws z l = false_from_ne_true (holds ws z) (λ h. let lo = (ws_range z h).0 in absurd (omega (arith, l, lo)))

          -- what is outside and good becomes what is put in for it
          settle : (X W : Bare) → ((y : Variable ℕ) → holds (variables X) y ≡ true → IsOutside y × IsGood y) → image_by fill (permute ps X) ≡ W → O3 X ≡ W
          settle X W g q =
              let Y = permute ps X in
              let same : image_by (but ws fill) Y ≡ W = image_agrees (but ws fill) fill Y (λ y m. ap (λ b. cond b None (fill y)) (not_ws y (g y (in_renamed X y m)).0)) ∙ q in
              let old : (z : Variable ℕ) → holds (variables W) z ≡ true → z.name < low = λ z m.
              stand.has_held (λ z. z.name < low) (image_by fill Y) (stand.image_by_has IsGood (λ z. z.name < low) fill (λ y v e. stand.held_has (λ z. z.name < low) v (fill_old y v e)) (λ y e p. absurd (let bad : None ≡ Some p.0 = sym e ∙ p.1 in cc)) Y
              (stand.held_has IsGood Y (λ y i. (g y (in_renamed X y i)).1))) z (subst (λ v. holds (variables v) z ≡ true) (sym q) m) in
              ap (image_by (raising last ws)) same ∙ still last W (λ z m. old_not_ws z (old z m))

          alone_settled : (i j : ℕ) (D : Ty) → Both i j D → O3 (forget (alone_at i j D)) ≡ forget (other_at i j D)
          alone_settled i j D b =
              let w : Variable ℕ = record { name = N + i; type = D } in
              ap (λ z. image_by (raising last ws) (image_by (but ws fill) (permute ps z))) (forget-own x w)
              ∙ ap (λ z. image_by (raising last ws) (image_by (but ws fill) z)) (rename-expansion_of (moved_by ps) tt D (variable w) no_terms)
              ∙ ap (image_by (raising last ws)) (own_stays (but ws fill) w (ap (λ q. cond q None (fill w)) b.held))
              ∙ image_by-own sg ℕ (raising last ws) (raising_typed sg last ws) w (raised_term last w) (ap (λ q. cond q (Some (raised_term last w)) None) b.held)
              ∙ last_raised i j D b.placed

          last_guess : IsGuess sg ds cs (row other_at end_at ds es cs 0 0)
          last_guess = row_guess sg other_at end_at ds es cs 0 0 (each_row_map Both One (λ i j D. HasType sg [] (other_at i j D) D) (λ i j D. HasType sg [] (end_at i j D) D) (λ i j D b. other_typed i j D) (λ i j D b. end_at_typed i j D) ds es cs 0 0 each)

          third_side : O3 t ≡ forget (dropped_with cs (row other_at end_at ds es cs 0 0) B)
          third_side =
              atoms_through sg O3 O3_through ds cs fresh (row other_at end_at ds es cs 0 0) fresh_guess last_guess
              (rows_met sg O3 O3_through alone_at guess_at other_at end_at ds es cs 0 0
              (each_row_map Both One (λ i j D. O3 (forget (alone_at i j D)) ≡ forget (other_at i j D)) (λ i j D. O3 (forget (guess_at i j D)) ≡ forget (end_at i j D))
              alone_settled
              (λ i j D one.
              let u = made_at i j D in
              ap O3 (dressed (image_by f (forget u)))
              ∙ settle (image_by f (forget u)) (forget (end_at i j D)) (λ y m. (made_outside u one.made_one y m, good_made u one.made_one y m)) (end_made u one.made_one))
              ds es cs 0 0 each))
              under B under_typed under_free B_free
              (ap O3 (dressed (image_by f (forget A))) ∙ settle (image_by f (forget A)) (forget B) (λ y m. (A_outside y m, good_atom y m)) end_atom)

          -- with the terms there, whatever stands for the names that are closed there
          there_side : forget (dropped_with cs (row other_at end_at ds es cs 0 0) B) ≡ forget (dropped_with cs (spread es there_made) B)
          there_side =
              let second : k + 0 ≡ k = omega arith in
              let ms_are : OfCells sg x (left_open es cs) there_made = made_terms_typed sg x k T (left_open es cs) in
              ap (λ l. forget (dropped_with cs l B)) (sym (there_row sg N n k S T end there Becomes rows 0 0 same_here))
              ∙ ap (λ i. forget (dropped_with cs (merged sg ds (spread es (made_terms x i T (left_open es cs))) (map (option_map there) taken)) B)) second
              ∙ ap forget (rows_atoms sg (rows_there sg there there_typed rows there_made ms_are) B B_free B_free_there)

          -- the variables there
          third_variables : (y : Variable ℕ) → holds (variables (O3 t)) y ≡ true → (holds lasts y ≡ true) ⊎ (y.name < low)
          third_variables =
              let Y = permute ps t in
              let Z = image_by (but ws fill) Y in
              let Left : Variable ℕ → Type 0 = λ y. (holds ws y ≡ true) ⊎ (y.name < low) in
              let Last : Variable ℕ → Type 0 = λ y. (holds lasts y ≡ true) ⊎ (y.name < low) in
              stand.has_held Last (image_by (raising last ws) Z) (stand.image_by_has Left Last (raising last ws)
              (λ y v e. raised_value y v (holds ws y) refl e)
              (λ y e p. elim p [ inl h ↦ absurd (let bad : None ≡ Some (raised_term last y) = sym e ∙ ap (λ q. cond q (Some (raised_term last y)) None) h in cc) | inr l ↦ inr l ])
              Z (stand.image_by_has Q Left (but ws fill)
              (λ y v e. filled_value y v (holds ws y) e)
              (λ y e p. elim p [ inl h ↦ inl h | inr g ↦ absurd (let bad : None ≡ Some (g.1).0 = sym e ∙ ap (λ b. cond b None (fill y)) (not_ws y g.0) ∙ (g.1).1 in cc) ])
              Y (stand.held_has Q Y (λ y h. t_variables y (in_renamed t y h)))))
            where
              raised_value : (y : Variable ℕ) (v : Bare) (b : Bool) → holds ws y ≡ b → cond b (Some (raised_term last y)) None ≡ Some v → stand.Has (λ y. (holds lasts y ≡ true) ⊎ (y.name < low)) v
              raised_value y v true h e =
                  let same : raised_term last y ≡ v = cc in
                  subst (stand.Has (λ y. (holds lasts y ≡ true) ⊎ (y.name < low))) same
                  (stand.held_has (λ y. (holds lasts y ≡ true) ⊎ (y.name < low)) (raised_term last y) (λ z m. inl (subst (λ v. holds lasts v ≡ true) (sym (only_raised last y z m)) (held_map (raised last) ws y h))))
              raised_value y v false h e = absurd (cc)

              filled_value : (y : Variable ℕ) (v : Bare) (b : Bool) → cond b None (fill y) ≡ Some v → stand.Has (λ y. (holds ws y ≡ true) ⊎ (y.name < low)) v
              filled_value y v true e = absurd (cc)
              filled_value y v false e = stand.held_has (λ y. (holds ws y ≡ true) ⊎ (y.name < low)) v (λ z m. inr (fill_old y v e z m))

          -- WHERE IT COMES TO STAND
          module _ (d : Equation (List ℕ)) (d_right : forget d.right ≡ forget (dropped_with cs (spread es there_made) B)) (d_lefts : LeftsWithout there_zs (d ∷ []))
              (cells : List (Cell (List ℕ))) (d_typed : AreTyped sg (d ∷ [])) (known_there : AreKnown cells there_zs) (over_there : AreOver cells (d ∷ []))
              (clean : List Nominal) (g_over : IsGuessOver sg there_zs clean (plain U)) (few : (y : Variable ℕ) (v : Bare) → plain U y ≡ Some v → (z : Variable ℕ) → holds (variables v) z ≡ true → holds there_zs z ≡ false)
              (hold_none : HoldNoneOf clean (d ∷ [])) (equal_there : MakesEqual (plain U) (d ∷ [])) where
            d_is : forget d.right ≡ O3 t
            d_is = d_right ∙ sym (third_side ∙ there_side)

            old_not_there : (z : Variable ℕ) → z.name < low → holds there_zs z ≡ false
            old_not_there z l = false_from_ne_true (holds there_zs z) (λ h. let lo = (numbered_within k (cells_over x T (left_open es cs)) z h).0 in absurd (omega (arith, l, lo, low_there)))

            others : (v : Bare) → Contains (t ∷ []) v → (y : Variable ℕ) → holds (variables v) y ≡ true → holds ws y ≡ false
                → (u : Bare) × (fill y ≡ Some u) × ((us : List (Variable ℕ)) → Within us lasts → Passes sg us y.type u) × ((z : Variable ℕ) → holds (variables u) z ≡ true → (holds ws z ≡ false) × (plain U z ≡ None))
            others = t_list (λ v. (y : Variable ℕ) → holds (variables v) y ≡ true → holds ws y ≡ false
                → (u : Bare) × (fill y ≡ Some u) × ((us : List (Variable ℕ)) → Within us lasts → Passes sg us y.type u) × ((z : Variable ℕ) → holds (variables u) z ≡ true → (holds ws z ≡ false) × (plain U z ≡ None)))
                (λ y h no. elim (t_variables y h) [
                  | inl i ↦ absurd (false≢true (sym no ∙ i))
                  | inr q ↦ (
                      let g = q.1 in
                      (g.0, g.1, g.2, λ z m. let l = fill_old y g.0 g.1 z m in (old_not_ws z l, g_over.none z (old_not_there z l))))
                ])

            -- THEY ARE UNIFIED, and no variable is made
            pub matched : (p : Substitution ℕ (List ℕ)) × Solves x (given (d ∷ []) cells there_zs) (unified cells p)
            matched =
                let between : Equation (List ℕ) = record { place = 0; left = dress t; right = dress (image_by (raising middle ws) (permute ps t)) } in
                unified_anyway sg ws (t ∷ []) ps permutation R before after move T different once once_amid moves f1 are (own_typed sg zs f f_typed values_apart)
                (λ y v q. nameless y v (own_some sg zs f f_typed values_apart y v q)) (λ w h y m. apart_outside y (value_outside w h y m).0) es1 es1_raised turn1
                (between ∷ []) (dressed (image_by (raising middle ws) (permute ps t)), tt)
                (plain U) fill g_over.typed fill_typed (d ∷ []) (d_is, tt) agree values others there_zs d_lefts few
                ((λ y h m. elim (third_variables y (subst (λ z. holds (variables z) y ≡ true) d_is h)) [ inl i ↦ i | inr l ↦ absurd (false≢true (sym (old_not_there y l) ∙ m)) ]), tt)
                cells d_typed known_there over_there clean g_over hold_none equal_there
