-- A PART IN FOCUS ON THE PATH OF AN ANSWER: what is put in at last, as a guess for the search's equation, and what becomes of the variables that it leaves open where the judgement has come
-- to stand.
use Rattle.std.proofs.Common.{◌≡◌, ◌⊎◌, inl, inr, ℕ, ◌-◌, ◌<◌, ◌≤◌, List, [], ◌∷◌, ◌++◌, map, length, codes, Bool, true, false, cond, nat_lt, Option, Some, None, option_map, refl, sym, ◌∙◌, ap, subst, arith, length-append}
use Rattle.std.specs.Prelude.{Contains}
use Rattle.std.proofs.lemmas.List.Elements.{All-contains}
use Rattle.ab_term.specs.Types.{Ty, o}
use Rattle.ab_term.specs.Terms as tree
use Rattle.ab_term.specs.Terms.{Nominal, Head, nominal, no_terms, Read}
use Rattle.ab_term.specs.Typing.{Signature, HasType}
use Rattle.ab_term.specs.Expansion.{expansion}
use Rattle.ab_term.specs.Names.{support, rename, permute, moved_by, IsPermutationTable}
use Rattle.ab_term.specs.Translation.{forget}
use Rattle.ab_term.specs.Variables.{Substitution, variables, value_in, image, image_by}
use Rattle.ab_term.specs.Sameness.{same_number}
use Rattle.ab_term.proofs.Compositions.{image_typed, then_by}
use Rattle.ab_term.proofs.Images.{IsTypedMap}
use Rattle.ab_term.proofs.Lists.{Contains-none, Contains-map}
use Rattle.ab_term.proofs.PastHints.{variables-forget}
use Rattle.ab_term.proofs.Permutations.{one_to_one}
use Rattle.ab_term.proofs.Stands.{Either, variables-expansion_of}
use Rattle.ab_unifiers.specs.Replacements.{Cell, holds}
use Rattle.ab_unifiers.specs.Unification.{Equation, unified, Solves}
use Rattle.ab_unifiers.specs.Unifiers.{given, keys, IsCell, AreKnown}
use Rattle.ab_unifiers.specs.Clauses.{Within, numbered}
use Rattle.ab_unifiers.specs.Member.{HasMember}
use Rattle.ab_unifiers.proofs.Agreeing.{holds_behind}
use Rattle.ab_unifiers.proofs.Avoiding.{not_held}
use Rattle.ab_unifiers.proofs.Cells.{cell_kept}
use Rattle.ab_unifiers.proofs.Variables as over
use Rattle.ab_unifiers.proofs.Variables.{holds_contains}
use Rattle.ab_formulas.specs.Declarations.{Declarations, signature_in}
use Rattle.ab_formulas.specs.Formulas.{IsFormula}
use Rattle.ab_formulas.specs.GoalTerms.{HoldsOnly}
use Rattle.ab_formulas.specs.Marks.{plain}
use Rattle.ab_formulas.specs.Programs.{HavePrograms}
use Rattle.ab_formulas.proofs.Images.{image_formula}
use Rattle.ab_formulas.specs.Sequents as sequents
use Rattle.ab_formulas.specs.Sequents.{Sequent, in_terms}
use Rattle.ab_theory.specs.Judgements.{Judgement, as_judgement, constants_of}
use Rattle.ab_theory.specs.Parts.{Part, parts_of}
use Rattle.ab_theory.specs.SpecRules.{by_part}
use Rattle.ab_theory.proofs.Demanded.{IsKnown}
use Rattle.ab_theory.proofs.JudgementRules.{judgement_known}
use Rattle.ab_theory.proofs.RuleDemands.{JudgementKnown, FocusKnown, IsRuleOf}
use Rattle.ab_coverage.proofs.Demands.{part_clause, parts_same}
use Rattle.ab_coverage.proofs.IndexedSpecClauses.{taken_apart, closed_in, left_open}
use Rattle.ab_coverage.proofs.Parts.{IsPart, parts_right}
use Rattle.ab_search_trees.specs.Goals.{Goal, Now}
use Rattle.ab_search_trees.specs.Judgements.{search_rules}
use Rattle.ab_search_trees.specs.Lifting.{Guess, IsGuessFor, MakesEqual}
use Rattle.ab_search_trees.specs.Ways.{Way, by_rule}
use Rattle.ab_search_trees.proofs.Lifts.{known_cell}
use Rattle.ab_search_trees.proofs.Shows.{IsFine}
use Rattle.ab_pattern_matching.specs.Reading.{ReadInTurn}
use Rattle.ab_pattern_matching.specs.Raising.{Bare}
use Rattle.ab_pattern_matching.proofs.Begun.{guess_over, guess_fits, given_alike, none_held}
use Rattle.ab_pattern_matching.proofs.Solved.{problem_read}
use Rattle.ab_pattern_matching.proofs.Turning.{sides_turned}
use Rattle.ab_search_proofs.specs.Likeness.{StandIn, replaced, replacing, AreStandIns}
use Rattle.ab_search_proofs.proofs.PartsUnder.{part_under, parts_under}
use Rattle.ab_search_proofs.proofs.StandIns.{stand_ins_known}
use Rattle.ab_search_clauses.specs.Paths.{alone, at_last, IsAtLast}
use Rattle.ab_search_clauses.proofs.Along as along
use Rattle.ab_search_clauses.proofs.ByList.{judged_under, judgement_image}
use Rattle.ab_search_clauses.proofs.Guessing as guessing
use Rattle.ab_search_clauses.proofs.Keeping.{Passes}
use Rattle.ab_search_clauses.proofs.Kept.{stays_there}
use Rattle.ab_search_clauses.proofs.Later as later_there
use Rattle.ab_search_clauses.proofs.Path as path
use Rattle.ab_search_answers.proofs.ByParts as parts
use Rattle.ab_search_answers.proofs.NamedParts as named
use Rattle.ab_search_answers.proofs.PartDemand as demands
use Rattle.ab_search_answers.specs.Followed.{in_the_end}
use Rattle.ab_search_answers.proofs.Below.{IsTaken}

module _ (D : Declarations) (program : HavePrograms D) (has : HasMember (signature_in D)) (p : Part) (now last : Now) (g : Goal) (depth : ℕ) (j : Judgement) (ys : List (tree.Variable ℕ)) (more : List (Cell (List ℕ))) (q n : Substitution ℕ (List ℕ))
    (is : as_judgement g.conclusion ≡ Some j) (plainly : j.sign ≡ plain) (there : Contains (search_rules D j) (by_part p)) (taken : IsTaken D now g ys (by_rule D now g depth j (by_part p)) last more q n) where
  abbrev sg : Signature
  sg = signature_in D

  abbrev x : List ℕ
  x = codes "x"

  abbrev r : Substitution ℕ (List ℕ)
  r = in_the_end last q n

  abbrev w : Way
  w = by_rule D now g depth j (by_part p)

  -- THE SEARCH'S DEMAND
  pub known : JudgementKnown sg (IsCell now.cells) g.constants j
  known = named.known D program has p now last g depth j ys more q n is plainly there taken

  abbrev pub rule : IsRuleOf sg j (by_part p)
  rule = parts.focus D program has p now last g depth j ys more q n is plainly there taken

  pub fine : IsFine D now g w
  fine = parts.fine D program has p now last g depth j ys more q n is plainly there taken

  abbrev pub front : List (Cell (List ℕ))
  front = now.cells ++ p.names

  abbrev pub S : List Nominal
  S = constants_of j

  abbrev pub own : List (Cell (List ℕ))
  own = left_open (closed_in (part_clause p)) p.names

  abbrev brings : List (Cell (List ℕ))
  brings = demands.brings sg has now.cells g.constants j known p rule

  abbrev pub news : List (tree.Variable ℕ)
  news = demands.news sg has now.cells g.constants j known p rule

  abbrev pub made : List Read
  made = demands.made sg has now.cells g.constants j known p rule

  abbrev pub flex : List (tree.Variable ℕ)
  flex = now.flexible ++ news

  abbrev all_cells : List (Cell (List ℕ))
  all_cells = front ++ brings

  abbrev straight : Equation (List ℕ)
  straight = demands.straight sg has now.cells g.constants j known p rule

  abbrev pub turned_one : Equation (List ℕ)
  turned_one = demands.turned_one sg has now.cells g.constants j known p rule

  solved_here : Solves x (given (straight ∷ []) all_cells flex) (unified more q)
  solved_here = subst (λ l. Solves x (given (straight ∷ []) (front ++ l) (now.flexible ++ numbered (length front) l)) (unified more q)) (demands.own_is sg has now.cells g.constants j known p rule) taken.solved

  -- WHAT IS PUT IN AT LAST
  none_taken : (a : Nominal) → Contains [] a → Contains last.held a
  none_taken a m = absurd (Contains-none a m)

  abbrev later : Substitution ℕ (List ℕ)
  later = path.put_in D now last g w fine.typed fine.over fine.flexible taken.place.task more q n taken.solved taken.below.later

  abbrev fill : Substitution ℕ (List ℕ)
  fill = path.fill D now last g w fine.typed fine.over fine.flexible taken.place.task more q n taken.solved taken.below.later

  pub at : IsAtLast sg now g w [] ys later fill
  at = path.is_last D now last g w fine.typed fine.over fine.flexible taken.place.task more q n taken.solved taken.below.later [] none_taken ys taken.known

  steps : {G : List Ty} {u : Read} {A : Ty} → HasType sg G u A → image same_number r u ≡ at_last later fill u
  steps d = path.steps D now last g w fine.typed fine.over fine.flexible taken.place.task more q n taken.solved taken.below.later d

  pub within : (y : tree.Variable ℕ) → holds (keys later) y ≡ true → (holds flex y ≡ true) ⊎ (length all_cells ≤ y.name)
  within = subst (λ l. (y : tree.Variable ℕ) → holds (keys later) y ≡ true → (holds (now.flexible ++ numbered (length front) l) y ≡ true) ⊎ (length (front ++ l) ≤ y.name)) (demands.own_is sg has now.cells g.constants j known p rule) at.within

  pub longer : length front ≤ length all_cells
  longer = let sum = length-append front brings in omega (arith, sum)

  old_front : length now.cells ≤ length front
  old_front = let sum = length-append now.cells p.names in omega (arith, sum)

  own_known : (y : tree.Variable ℕ) → holds flex y ≡ true → length front ≤ y.name → HoldsOnly ys (at_last later fill (alone y))
  own_known y h l = at.own y (subst (λ l. holds (now.flexible ++ numbered (length front) l) y ≡ true) (sym (demands.own_is sg has now.cells g.constants j known p rule)) h) (omega (arith, l, old_front))

  flex_known : AreKnown all_cells flex
  flex_known y h = elim (not_held now.flexible news y h) [
    | inl a ↦ known_cell all_cells y.name y.type (cell_kept front all_cells (brings, refl) y (cell_kept now.cells front (p.names, refl) y (taken.place.flexible y a)))
    | inr a ↦ known_cell all_cells y.name y.type (demands.new_cell sg has now.cells g.constants j known p rule y a)
  ]

  solved_turned : Solves x (given (turned_one ∷ []) all_cells flex) (unified more q)
  solved_turned = sides_turned sg x (straight ∷ []) all_cells flex (unified more q) (demands.straight_typed sg has now.cells g.constants j known p rule) flex_known solved_here

  -- WHAT IS OPEN in the atom is in scope, or filled
  in_focus : IsKnown sg (IsCell now.cells) g.constants o rule.0
  in_focus = demands.in_focus sg has now.cells g.constants j known p rule

  -- the atom where later solving has put in its terms stands in the formula in focus there
  abbrev LaterHas : Head ℕ → Type 0
  LaterHas = Either over.Any (λ (y : tree.Variable ℕ). holds (variables (image same_number later rule.0)) y ≡ true)

  focus_later : HasType sg [] (image same_number later rule.0) o
  focus_later = image_typed sg same_number later at.typed in_focus.typed

  part_later : IsPart sg LaterHas [] (part_clause (part_under later p))
  part_later =
      let F = image same_number later rule.0 in
      let parts_so = parts_under sg later at.typed [] rule.0 in_focus.typed (parts.determined D program has p now last g depth j ys more q n is plainly there taken).1 in
      All-contains (IsPart sg LaterHas []) (taken_apart F) (part_clause (part_under later p))
      (parts_right sg LaterHas [] F focus_later (over.held_has (λ (y : tree.Variable ℕ). holds (variables F) y ≡ true) F (λ y h. h)))
      (subst (λ l. Contains l (part_clause (part_under later p))) (sym (parts_same F))
      (Contains-map part_clause (parts_of F) (part_under later p) (subst (λ l. Contains l (part_under later p)) (sym parts_so) (Contains-map (part_under later) (parts_of rule.0) p rule.2))))

  atom_in : (y : tree.Variable ℕ) → holds (variables (image same_number later p.atom)) y ≡ true → holds (variables (image same_number later rule.0)) y ≡ true
  atom_in = over.has_held (λ (y : tree.Variable ℕ). holds (variables (image same_number later rule.0)) y ≡ true) (image same_number later p.atom) part_later.atom_has

  -- THE JUDGEMENT IN THE END
  abbrev C : Read
  C = image same_number (in_the_end last q n) g.conclusion

  pub C_formula : IsFormula sg C
  C_formula = image_formula sg r taken.typed g.conclusion taken.place.task.conclusion.formula

  pub C_known : HoldsOnly ys C
  C_known = taken.known g.conclusion (λ y m. inl m)

  pub judged_is : as_judgement C ≡ Some (judged_under r j)
  judged_is = judgement_image r g.conclusion j taken.place.task.conclusion.formula.stands is

  pub end_known : JudgementKnown sg (Contains ys) (support C) (judged_under r j)
  end_known = judgement_known sg (Contains ys) (support C) C (judged_under r j) judged_is C_formula.typed (record { over = λ y m. All-contains (Contains ys) (variables C) y C_known m; names = λ a m. m })

  pub focus_end : IsKnown sg (Contains ys) (support C) o (image same_number r rule.0)
  focus_end = subst (FocusKnown sg (Contains ys) (support C)) (ap (option_map (image same_number r)) rule.1) end_known.focus

  Scoped : tree.Variable ℕ → Type 0
  Scoped y = Contains ys y ⊎ ((v : Read) × (value_in same_number fill y ≡ Some v))

  atom_scope : (y : tree.Variable ℕ) → holds (variables (image same_number later p.atom)) y ≡ true → Scoped y
  unfolding Scoped
  atom_scope y h = go (value_in same_number fill y) refl
    where
      go : (o : Option Read) → value_in same_number fill y ≡ o → Contains ys y ⊎ ((v : Read) × (value_in same_number fill y ≡ Some v))
      go (Some v) e = inr (v, e)
      go None e = inl (focus_end.known.over y (subst (λ t. Contains (variables t) y) (sym (steps in_focus.typed))
          (holds_contains (variables (at_last later fill rule.0)) y (stays_there sg [] fill at.filled at.constants y e focus_later (atom_in y h)))))

  made_scope : (u : Read) → Contains made u → (y : tree.Variable ℕ) → holds (variables (image same_number later u)) y ≡ true → Scoped y
  unfolding Scoped
  made_scope u m y h = along.closed sg (length front) S own now.flexible ys later fill at.typed at.filled [] at.constants own_known u (along.made_is sg (length front) S own now.flexible u m) y (holds_contains (variables (image same_number later u)) y h)

  -- what may be replaced, or is older
  abbrev Fits : Read → Type 0
  Fits t = (y : tree.Variable ℕ) → holds (variables t) y ≡ true → (holds flex y ≡ true) ⊎ (y.name < length front)

  older : (y : tree.Variable ℕ) → y.name < length now.cells → y.name < length front
  older y l = omega (arith, l, old_front)

  atom_fits : Fits p.atom
  atom_fits y h = inr (older y (demands.part_low sg has now.cells g.constants j known p rule y (holds_contains (variables p.atom) y h)))

  goal_fits : Fits j.goal
  goal_fits y h = inr (older y (demands.goal_low sg has now.cells g.constants j known p rule y (holds_contains (variables j.goal) y h)))

  side_fits : Fits turned_one.right
  side_fits y h = elim (demands.atom_variables sg has now.cells g.constants j known p rule y (holds_contains (variables turned_one.right) y h)) [
    | inl l ↦ inr (older y l)
    | inr a ↦ inl (holds_behind now.flexible news y a)
  ]

  made_fits : (u : Read) → Contains made u → Fits u
  made_fits u m = along.made_fit sg (length front) S own now.flexible u (along.made_is sg (length front) S own now.flexible u m)

  -- THE GUESS, with high numbers for what is left open
  module _ (high : ℕ) (higher : length front ≤ high) where
    abbrev pub guess : Guess
    guess = guessing.guess sg flex (length front) (length all_cells) high longer higher later at.typed at.nameless within

    pub guess_typed : IsTypedMap sg guess
    guess_typed = guessing.guess_typed sg flex (length front) (length all_cells) high longer higher later at.typed at.nameless within

    pub is_guess : IsGuessFor sg flex guess
    is_guess = guessing.is_guess sg flex (length front) (length all_cells) high longer higher later at.typed at.nameless within

    pub guess_outside : (y : tree.Variable ℕ) (v : Bare) → guess y ≡ Some v → (z : tree.Variable ℕ) → holds (variables v) z ≡ true → (z.name < length front) ⊎ (high ≤ z.name)
    guess_outside = guessing.guess_outside sg flex (length front) (length all_cells) high longer higher later at.typed at.nameless within

    pub guess_new : (y : tree.Variable ℕ) → holds news y ≡ true → (v : Bare) × (guess y ≡ Some v)
    guess_new y h = is_guess.some y (holds_behind now.flexible news y h)

    equal : MakesEqual guess (turned_one ∷ [])
    equal =
        let d = (demands.straight_typed sg has now.cells g.constants j known p rule).0 in
        let same : forget (image same_number later turned_one.right) ≡ forget (image same_number later j.goal) = at.unifies.0 in (
          guessing.guess_is sg flex (length front) (length all_cells) high longer higher later at.typed at.nameless within d.3 goal_fits
              ∙ ap (image_by (guessing.up sg flex (length front) (length all_cells) high longer higher later at.typed at.nameless within)) (sym same)
              ∙ sym (guessing.guess_is sg flex (length front) (length all_cells) high longer higher later at.typed at.nameless within d.2 side_fits),
          tt,
        )

    -- READ OFF IN TURN in the search
    pub turn : ReadInTurn news guess (turned_one ∷ [])
    turn =
        problem_read sg x (turned_one ∷ []) all_cells flex [] guess (demands.turned_typed sg has now.cells g.constants j known p rule) flex_known (demands.turned_over sg has now.cells g.constants j known p rule)
        (none_held (turned_one ∷ [])) (guess_fits sg flex [] guess (guess_over sg flex guess is_guess)) (given_alike guess (turned_one ∷ []) equal) news (λ y h. holds_behind now.flexible news y h)
        (demands.lefts sg has now.cells g.constants j known p rule) more q solved_turned

    -- WHERE THE JUDGEMENT HAS COME TO STAND
    module _ (vs : List StandIn) (s : Sequent) (ps : List (Nominal × Nominal)) (same_variables : map replaced vs ≡ ys) (are : AreStandIns s vs) (table : IsPermutationTable ps) where
      abbrev becomes : Guess
      becomes = later_there.becomes sg ps table s vs are [] fill at.filled at.constants

      pub becomes_typed : IsTypedMap sg becomes
      becomes_typed = later_there.becomes_typed sg ps table s vs are [] fill at.filled at.constants

      abbrev pub at_end : Guess
      at_end = guessing.at_end sg flex (length front) (length all_cells) high longer higher later at.typed at.nameless within becomes becomes_typed

      pub at_end_typed : IsTypedMap sg at_end
      at_end_typed = guessing.at_end_typed sg flex (length front) (length all_cells) high longer higher later at.typed at.nameless within becomes becomes_typed

      -- it holds variables of the sequent alone
      becomes_old : (y : tree.Variable ℕ) (v : Bare) → becomes y ≡ Some v → (z : tree.Variable ℕ) → holds (variables v) z ≡ true → Contains (map in_terms s.variables) z
      becomes_old y v e z h = go (value_in same_number fill y) refl
        where
          go : (o : Option Read) → value_in same_number fill y ≡ o → Contains (map in_terms s.variables) z
          go (Some u) f =
              let b = later_there.becomes_filled sg ps table s vs are [] fill at.filled at.constants y u f in
              let both : Some v ≡ Some (expansion tt y.type (nominal b.0)) = sym e ∙ b.1 in
              let same : v ≡ expansion tt y.type (nominal b.0) = cc in
              absurd (Contains-none z (subst (λ l. Contains l z) (variables-expansion_of tt y.type (nominal b.0) no_terms) (holds_contains (variables (expansion tt y.type (nominal b.0))) z (subst (λ t. holds (variables t) z ≡ true) same h))))
          go None f = stood (value_in same_number (replacing vs) y) refl (sym (ap (λ o. then_by (later_there.stood sg ps table s vs are [] fill at.filled at.constants) y (option_map (rename (moved_by ps)) (option_map forget o))) f) ∙ e)
            where
              stood : (o : Option Read) → value_in same_number (replacing vs) y ≡ o → option_map forget (value_in same_number (replacing vs) y) ≡ Some v → Contains (map in_terms s.variables) z
              stood None k e = absurd (let bad : None ≡ Some v = sym (ap (option_map forget) k) ∙ e in cc)
              stood (Some u) k e =
                  let both : Some (forget u) ≡ Some v = sym (ap (option_map forget) k) ∙ e in
                  let same : forget u ≡ v = cc in
                  stand_ins_known s vs are y u k z (holds_contains (variables u) z (ap (λ l. holds l z) (sym (variables-forget u)) ∙ subst (λ t. holds (variables t) z ≡ true) (sym same) h))

      pub end_old : (y : tree.Variable ℕ) (v : Bare) → at_end y ≡ Some v → (z : tree.Variable ℕ) → holds (variables v) z ≡ true → Contains (map in_terms s.variables) z
      end_old y v e z h = go (nat_lt y.name high) e
        where
          go : (b : Bool) → cond b (becomes y) (becomes (record { name = y.name - high; type = y.type })) ≡ Some v → Contains (map in_terms s.variables) z
          go true e = becomes_old y v e z h
          go false e = becomes_old (record { name = y.name - high; type = y.type }) v e z h

      keeps : (a : Nominal) → (moved_by ps a).type ≡ a.type
      keeps = (one_to_one ps table).keeps

      module _ (zs : List (tree.Variable ℕ)) (others : (v : sequents.Variable) → Contains s.variables v → holds zs (in_terms v) ≡ false) where
        abbrev IsFull : tree.Variable ℕ → Type 0
        IsFull = later_there.IsFull sg ps table s vs are [] fill at.filled at.constants zs others

        full : (y : tree.Variable ℕ) → Scoped y → IsFull y
        unfolding Scoped
        full y k = elim k [
          | inl a ↦ later_there.full_known sg ps table s vs are [] fill at.filled at.constants zs others y (subst (λ l. Contains l y) (sym same_variables) a)
          | inr a ↦ later_there.full_filled sg ps table s vs are [] fill at.filled at.constants zs others y a.0 a.1
        ]

        -- a term there is the guess, and then what becomes of what it leaves open
        comes : {G : List Ty} {t : Read} {A : Ty} → HasType sg G t A → Fits t → ((y : tree.Variable ℕ) → holds (variables (image same_number later t)) y ≡ true → Scoped y)
            → image_by at_end (permute ps (image_by guess (forget t))) ≡ forget (permute ps (image same_number (replacing vs) (image same_number r t)))
        comes {t = t} d fit scope =
            guessing.ends sg flex (length front) (length all_cells) high longer higher later at.typed at.nameless within becomes becomes_typed (moved_by ps) keeps d fit (λ z h. let v = full z (scope z h) in (v.0, v.1))
            ∙ sym (later_there.here_bare sg ps table s vs are [] fill at.filled at.constants (image_typed sg same_number later at.typed d))
            ∙ ap (λ T. forget (permute ps (image same_number (replacing vs) T))) (sym (steps d))

        abbrev IsGood : tree.Variable ℕ → Type 0
        IsGood y = (v : Bare) × (at_end y ≡ Some v) × ((us : List (tree.Variable ℕ)) → Within us zs → Passes sg us y.type v)

        good : {G : List Ty} {t : Read} {A : Ty} → HasType sg G t A → Fits t → ((y : tree.Variable ℕ) → holds (variables (image same_number later t)) y ≡ true → Scoped y) → (y : tree.Variable ℕ) → holds (variables (image_by guess (forget t))) y ≡ true → IsGood y
        good {t = t} d fit scope y h =
            let T = image same_number later t in
            let there_y : holds (variables (image_by (guessing.up sg flex (length front) (length all_cells) high longer higher later at.typed at.nameless within) (forget T))) y ≡ true =
            ap (λ z. holds (variables z) y) (sym (guessing.guess_is sg flex (length front) (length all_cells) high longer higher later at.typed at.nameless within d fit)) ∙ h in
            let in_T : (z : tree.Variable ℕ) → holds (variables (forget T)) z ≡ true → holds (variables T) z ≡ true = λ z i. ap (λ l. holds l z) (sym (variables-forget T)) ∙ i in
            elim (guessing.up_from sg flex (length front) (length all_cells) high longer higher later at.typed at.nameless within (forget T) y there_y) [
              | inl a ↦ (
                  let v = full y (scope y (in_T y a.0)) in
                  let old = guessing.fixed_old sg flex (length front) (length all_cells) high longer higher later at.typed at.nameless within y a.1 in
                  (v.0, guessing.end_old sg flex (length front) (length all_cells) high longer higher later at.typed at.nameless within becomes becomes_typed y old ∙ v.1, v.2))
              | inr a ↦ (
                  let z = a.0 in
                  let v = full z (scope z (in_T z a.1)) in
                  subst IsGood a.3
                  (v.0, guessing.end_high sg flex (length front) (length all_cells) high longer higher later at.typed at.nameless within becomes becomes_typed z ∙ v.1, v.2))
            ]

        -- THE ATOM, AND THE NEW TERMS
        pub end_atom : image_by at_end (permute ps (image_by guess (forget p.atom))) ≡ forget (permute ps (image same_number (replacing vs) (image same_number r p.atom)))
        end_atom = comes (demands.atom_typed sg has now.cells g.constants j known p rule) atom_fits atom_scope

        pub good_atom : (y : tree.Variable ℕ) → holds (variables (image_by guess (forget p.atom))) y ≡ true → IsGood y
        good_atom = good (demands.atom_typed sg has now.cells g.constants j known p rule) atom_fits atom_scope

        pub end_made : (u : Read) → Contains made u → image_by at_end (permute ps (image_by guess (forget u))) ≡ forget (permute ps (image same_number (replacing vs) (image same_number r u)))
        end_made u m = comes (along.made_typed sg (length front) S own now.flexible u (along.made_is sg (length front) S own now.flexible u m)) (made_fits u m) (made_scope u m)

        pub good_made : (u : Read) → Contains made u → (y : tree.Variable ℕ) → holds (variables (image_by guess (forget u))) y ≡ true → IsGood y
        good_made u m = good (along.made_typed sg (length front) S own now.flexible u (along.made_is sg (length front) S own now.flexible u m)) (made_fits u m) (made_scope u m)
