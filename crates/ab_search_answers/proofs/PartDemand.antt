-- WHAT A PART OF THE FORMULA IN FOCUS DEMANDS of a judgement over some cells: that the goal is its atom, with new variables for the names that aren't closed by `exists`.
use Rattle.std.proofs.Common.{◌≡◌, ◌⊎◌, inl, inr, ℕ, zero, ◌<◌, List, [], ◌∷◌, ◌++◌, length, codes, Bool, true, refl, sym, subst, arith, length-append}
use Rattle.std.specs.Prelude.{All, Contains}
use Rattle.std.proofs.lemmas.Bool.{false_from_ne_true}
use Rattle.std.proofs.lemmas.List.Elements.{All-contains, All-nil, All-cons, Contains-append_left, Contains-append_right}
use Rattle.ab_term.specs.Types.{o}
use Rattle.ab_term.specs.Terms as tree
use Rattle.ab_term.specs.Terms.{Nominal, Head, Read}
use Rattle.ab_term.specs.Typing.{Signature, HasType}
use Rattle.ab_term.specs.Names.{support}
use Rattle.ab_term.specs.Reach.{raise}
use Rattle.ab_term.specs.Translation.{EqualPastHints}
use Rattle.ab_term.specs.Variables.{variables}
use Rattle.ab_term.proofs.PastHints.{support_past_hints, variables_past_hints}
use Rattle.ab_term.proofs.Standing.{Has}
use Rattle.ab_term.proofs.Stands as stands
use Rattle.ab_term.proofs.Stands.{Either}
use Rattle.ab_unifiers.specs.Replacements.{Cell, holds}
use Rattle.ab_unifiers.specs.Unification.{Equation}
use Rattle.ab_unifiers.specs.Unifiers.{IsCell, AreTyped, AreKnown, AreOver, AllHoldCells, sides}
use Rattle.ab_unifiers.specs.Clauses.{numbered}
use Rattle.ab_unifiers.specs.Alternatives.{cells_over, made_over, made_terms}
use Rattle.ab_unifiers.specs.Member.{HasMember}
use Rattle.ab_unifiers.proofs.Cells.{cell_kept}
use Rattle.ab_unifiers.proofs.Choosing.{ordered_contains}
use Rattle.ab_unifiers.proofs.Constants as names_in
use Rattle.ab_unifiers.proofs.Lifting.{OfCells}
use Rattle.ab_unifiers.proofs.Rows.{numbered_within}
use Rattle.ab_unifiers.proofs.Variables as over
use Rattle.ab_unifiers.proofs.Variables.{holds_contains}
use Rattle.ab_formulas.specs.Formulas.{IsFormula}
use Rattle.ab_formulas.specs.Marks.{plain as unmarked}
use Rattle.ab_theory.specs.Judgements.{Judgement, constants_of, support_of_focus}
use Rattle.ab_theory.specs.Parts.{Part, parts_of}
use Rattle.ab_theory.specs.SpecRules.{Demand, by_part, demand_of}
use Rattle.ab_theory.proofs.Demanded.{IsKnown, IsWellMade}
use Rattle.ab_theory.proofs.RuleDemands.{JudgementKnown, FocusKnown, IsRuleOf, rule_well}
use Rattle.ab_coverage.proofs.Cases.{spread_has}
use Rattle.ab_coverage.proofs.Clausal.{closed_free}
use Rattle.ab_coverage.proofs.Conjoined.{asked}
use Rattle.ab_coverage.proofs.Demands.{IsBelow, Ties, part_clause, parts_same, part_atom, part_ties}
use Rattle.ab_coverage.proofs.Filling.{closed_with, dropped_with}
use Rattle.ab_coverage.proofs.IndexedInstances.{IsGuess}
use Rattle.ab_coverage.proofs.IndexedSpecClauses.{taken_apart, closed_in, left_open, spread, context_of}
use Rattle.ab_coverage.proofs.Parts.{IsPart, parts_right}
use Rattle.ab_search_trees.proofs.Lifts.{known_cell, numbered_cell, at_behind, cells_all_over}
use Rattle.ab_pattern_matching.specs.Reading.{LeftsWithout}
use Rattle.ab_search_clauses.proofs.Along as along
use Rattle.ab_search_judgements.proofs.Demands.{all_hold_cells}
use Rattle.ab_search_answers.proofs.NamedParts.{any_guess}
use Rattle.ab_search_answers.proofs.Through.{dropped_has}
use Rattle.ab_term.proofs.Lists.{Contains-map, All-from_contains}

module _ (sg : Signature) (has : HasMember sg) (cells : List (Cell (List ℕ))) (M : List Nominal) (j : Judgement) (parts : JudgementKnown sg (IsCell cells) M j) (p : Part) (rule : IsRuleOf sg j (by_part p)) where
  abbrev x : List ℕ
  x = codes "x"

  abbrev pub front : List (Cell (List ℕ))
  front = cells ++ p.names

  abbrev pub bits : List Bool
  bits = closed_in (part_clause p)

  abbrev pub own : List (Cell (List ℕ))
  own = left_open (closed_in (part_clause p)) p.names

  abbrev pub brings : List (Cell (List ℕ))
  brings = cells_over (codes "x") (constants_of j) (left_open (closed_in (part_clause p)) p.names)

  abbrev pub news : List (tree.Variable ℕ)
  news = made_over (codes "x") (length (cells ++ p.names)) (constants_of j) (left_open (closed_in (part_clause p)) p.names)

  abbrev pub made : List Read
  made = made_terms (codes "x") (length (cells ++ p.names)) (constants_of j) (left_open (closed_in (part_clause p)) p.names)

  abbrev pub demand : Demand
  demand = demand_of (length cells) unmarked j (by_part p)

  pub in_focus : IsKnown sg (IsCell cells) M o rule.0
  in_focus = subst (FocusKnown sg (IsCell cells) M) rule.1 parts.focus

  low : (y : tree.Variable ℕ) → IsCell cells y → y.name < length cells
  low y c = known_cell cells y.name y.type c

  -- constants of the judgement, and older variables
  abbrev Old : Head ℕ → Type 0
  Old = Either (Contains (constants_of j)) (λ (y : tree.Variable ℕ). y.name < length cells)

  focus_names : (a : Nominal) → Contains (support rule.0) a → Contains (constants_of j) a
  focus_names a m = ordered_contains (support j.context ++ (support_of_focus j.focus ++ support j.goal)) a
      (Contains-append_right (support j.context) (support_of_focus j.focus ++ support j.goal) a
      (Contains-append_left (support_of_focus j.focus) (support j.goal) a (subst (λ f. Contains (support_of_focus f) a) (sym rule.1) m)))

  goal_names : (a : Nominal) → Contains (support j.goal) a → Contains (constants_of j) a
  goal_names a m = ordered_contains (support j.context ++ (support_of_focus j.focus ++ support j.goal)) a
      (Contains-append_right (support j.context) (support_of_focus j.focus ++ support j.goal) a
      (Contains-append_right (support_of_focus j.focus) (support j.goal) a m))

  pub part_old : IsPart sg Old [] (part_clause p)
  part_old = All-contains (IsPart sg Old []) (taken_apart rule.0) (part_clause p)
      (parts_right sg Old [] rule.0 in_focus.typed (stands.has (Contains (constants_of j)) (λ (y : tree.Variable ℕ). y.name < length cells) rule.0 focus_names (λ y m. low y (in_focus.known.over y m))))
      (subst (λ l. Contains l (part_clause p)) (sym (parts_same rule.0)) (Contains-map part_clause (parts_of rule.0) p rule.2))

  pub below : (t : Read) → ((y : tree.Variable ℕ) → Contains (variables t) y → IsCell cells y) → IsBelow (length cells) t
  below t k = over.held_has (λ (y : tree.Variable ℕ). y.name < length cells) t (λ y h. low y (k y (holds_contains (variables t) y h)))

  pub part : IsPart sg (Either over.Any (λ (y : tree.Variable ℕ). y.name < length cells)) [] (part_clause p)
  part = All-contains (IsPart sg (Either over.Any (λ (y : tree.Variable ℕ). y.name < length cells)) []) (taken_apart rule.0) (part_clause p)
      (parts_right sg (Either over.Any (λ (y : tree.Variable ℕ). y.name < length cells)) [] rule.0 in_focus.typed (below rule.0 in_focus.known.over))
      (subst (λ l. Contains l (part_clause p)) (sym (parts_same rule.0)) (Contains-map part_clause (parts_of rule.0) p rule.2))

  abbrev pub atom : Read
  atom = part_atom sg has.cons (length cells) j parts.context.typed (below j.context parts.context.known.over) p part

  ties : Ties (constants_of j) (length (cells ++ p.names)) j.context (part_clause p) atom demand
  ties = subst (λ k. Ties (constants_of j) k j.context (part_clause p) atom demand) (sym (length-append cells p.names)) (part_ties sg has.cons (length cells) j parts.context.typed (below j.context parts.context.known.over) p part)

  pub own_is : demand.own ≡ brings
  own_is = ties.own

  pub atom_is : EqualPastHints atom (dropped_with p.names (spread bits made) p.atom)
  atom_is = ties.atom

  pub body_is : EqualPastHints demand.body (closed_with p.names (spread bits made) (asked (raise (length p.names) zero j.context) p.goals))
  body_is = ties.body

  abbrev pub straight : Equation (List ℕ)
  straight = record { place = 0; left = part_atom sg has.cons (length cells) j parts.context.typed (below j.context parts.context.known.over) p part; right = j.goal }

  abbrev pub turned_one : Equation (List ℕ)
  turned_one = record { place = 0; left = j.goal; right = part_atom sg has.cons (length cells) j parts.context.typed (below j.context parts.context.known.over) p part }

  pub equations_are : demand.equations ≡ straight ∷ []
  equations_are = refl

  pub new_cell : (y : tree.Variable ℕ) → holds news y ≡ true → IsCell (front ++ brings) y
  new_cell y h = let at = numbered_cell brings (length front) y h in at_behind front brings at.0 y.name y.type at.1 at.2

  kept : (y : tree.Variable ℕ) → IsCell cells y → IsCell (front ++ brings) y
  kept y c = cell_kept front (front ++ brings) (brings, refl) y (cell_kept cells front (p.names, refl) y c)

  well : IsWellMade sg (IsCell (front ++ brings)) M demand
  well = rule_well sg has (IsCell cells) (IsCell (front ++ brings)) kept (length cells) M unmarked j parts (by_part p) rule (λ y h.
      new_cell y (subst (λ l. holds (numbered (length front) l) y ≡ true) own_is (subst (λ i. holds (numbered i demand.own) y ≡ true) (sym (length-append cells p.names)) h)))

  pub straight_typed : AreTyped sg (straight ∷ [])
  straight_typed = well.typed

  pub turned_typed : AreTyped sg (turned_one ∷ [])
  turned_typed = let d = straight_typed.0 in ((d.0, d.1, d.3, d.2), tt)

  pub hold : AllHoldCells (front ++ brings) (straight ∷ [])
  hold = all_hold_cells (front ++ brings) (straight ∷ []) well.over

  pub straight_over : AreOver (front ++ brings) (straight ∷ [])
  straight_over = cells_all_over (front ++ brings) (straight ∷ []) hold

  pub turned_over : AreOver (front ++ brings) (turned_one ∷ [])
  turned_over = (straight_over.1, straight_over.0, tt)

  pub known : AreKnown (front ++ brings) news
  known y h = known_cell (front ++ brings) y.name y.type (new_cell y h)

  pub body_formula : IsFormula sg demand.body
  body_formula = well.formula

  pub body_cells : (y : tree.Variable ℕ) → Contains (variables demand.body) y → IsCell (front ++ brings) y
  body_cells = well.body.over

  pub goal_low : (y : tree.Variable ℕ) → Contains (variables j.goal) y → y.name < length cells
  goal_low y m = low y (parts.goal.known.over y m)

  pub list_low : (y : tree.Variable ℕ) → Contains (variables j.context) y → y.name < length cells
  list_low y m = low y (parts.context.known.over y m)

  pub lefts : LeftsWithout news (turned_one ∷ [])
  lefts = (
    (λ y h. false_from_ne_true (holds (variables j.goal) y) (λ i.
        let low_y = goal_low y (holds_contains (variables j.goal) y i) in
        let high = (numbered_within (length front) brings y h).0 in
        let sum = length-append cells p.names in
        absurd (omega (arith, low_y, high, sum)))),
    tt,
  )

  pub made_own : OfCells sg (codes "x") own made
  made_own = along.made_are sg (length (cells ++ p.names)) (constants_of j) own []

  pub made_guess : IsGuess sg bits p.names (spread bits made)
  made_guess = any_guess sg p.goals p.atom p.names made made_own

  -- the atom holds older variables and new ones
  abbrev Wide : Head ℕ → Type 0
  Wide = Either (Contains (constants_of j)) (λ (y : tree.Variable ℕ). (y.name < length cells) ⊎ (holds news y ≡ true))

  atom_wide : Has Wide (dropped_with p.names (spread bits made) p.atom)
  atom_wide = dropped_has sg bits p.names (spread bits made) made_guess p.atom (closed_free p.names p.goals p.atom) Wide (λ l. tt) (λ c. tt)
      (spread_has Wide (λ l. tt) bits made (All-from_contains (Has Wide) made (λ u m.
      let old = All-contains (Has (Either (Contains (constants_of j)) (λ (y : tree.Variable ℕ). holds news y ≡ true))) made u (along.made_over_news sg (length (cells ++ p.names)) (constants_of j) own []) m in
      stands.has (Contains (constants_of j)) (λ (y : tree.Variable ℕ). (y.name < length cells) ⊎ (holds news y ≡ true)) u
      (stands.has_names (Contains (constants_of j)) (λ (y : tree.Variable ℕ). holds news y ≡ true) u old)
      (λ y i. inr (stands.has_variables (Contains (constants_of j)) (λ (y : tree.Variable ℕ). holds news y ≡ true) u old y i)))))
      (stands.has (Contains (constants_of j)) (λ (y : tree.Variable ℕ). (y.name < length cells) ⊎ (holds news y ≡ true)) p.atom
      (stands.has_names (Contains (constants_of j)) (λ (y : tree.Variable ℕ). y.name < length cells) p.atom part_old.atom_has)
      (λ y i. inl (stands.has_variables (Contains (constants_of j)) (λ (y : tree.Variable ℕ). y.name < length cells) p.atom part_old.atom_has y i)))

  pub atom_variables : (y : tree.Variable ℕ) → Contains (variables atom) y → (y.name < length cells) ⊎ (holds news y ≡ true)
  atom_variables y m = stands.has_variables (Contains (constants_of j)) (λ (y : tree.Variable ℕ). (y.name < length cells) ⊎ (holds news y ≡ true)) (dropped_with p.names (spread bits made) p.atom) atom_wide y
      (subst (λ l. Contains l y) (variables_past_hints atom (dropped_with p.names (spread bits made) p.atom) atom_is) m)

  atom_names : (a : Nominal) → Contains (support atom) a → Contains (constants_of j) a
  atom_names a m = stands.has_names (Contains (constants_of j)) (λ (y : tree.Variable ℕ). (y.name < length cells) ⊎ (holds news y ≡ true)) (dropped_with p.names (spread bits made) p.atom) atom_wide a
      (subst (λ l. Contains l a) (support_past_hints atom (dropped_with p.names (spread bits made) p.atom) atom_is) m)

  -- the equation's constants are those of the judgement
  pub held : All (names_in.Has (λ a. Contains (constants_of j) a ⊎ Contains [] a)) (sides (straight ∷ []))
  held =
      let P : Read → Type 0 = names_in.Has (λ a. Contains (constants_of j) a ⊎ Contains [] a) in
      All-cons P atom (j.goal ∷ []) (names_in.support_has (λ a. Contains (constants_of j) a ⊎ Contains [] a) atom (λ a m. inl (atom_names a m)))
      (All-cons P j.goal [] (names_in.support_has (λ a. Contains (constants_of j) a ⊎ Contains [] a) j.goal (λ a m. inl (goal_names a m))) (All-nil P))

  pub atom_typed : HasType sg (context_of p.names []) p.atom o
  atom_typed = part_old.atom

  pub part_low : (y : tree.Variable ℕ) → Contains (variables p.atom) y → y.name < length cells
  part_low y m = stands.has_variables (Contains (constants_of j)) (λ (y : tree.Variable ℕ). y.name < length cells) p.atom part_old.atom_has y m

  pub part_names : (a : Nominal) → Contains (support p.atom) a → Contains (constants_of j) a
  part_names a m = stands.has_names (Contains (constants_of j)) (λ (y : tree.Variable ℕ). y.name < length cells) p.atom part_old.atom_has a m
