-- A CLAUSE TAKEN ON THE WAY: the guess for the way's equations, and what the clause's variables stand for at last.
use Rattle.std.proofs.Common.{◌≡◌, ◌⊎◌, inl, inr, ℕ, ◌+◌, ◌<◌, ◌≤◌, List, [], ◌∷◌, ◌++◌, map, length, codes, true, Some, refl, sym, ◌∙◌, ap, subst, arith, length-append}
use Rattle.std.specs.Prelude.{All, Contains}
use Rattle.std.proofs.lemmas.Bool.{false≢true}
use Rattle.ab_term.specs.Types.{Ty, prop}
use Rattle.ab_term.specs.Terms.{Nominal, Variable, constant, nominal, spine, no_terms, Read}
use Rattle.ab_term.specs.Typing.{Signature, HasType, TakeType}
use Rattle.ab_term.specs.Names.{support, support_of_all}
use Rattle.ab_term.specs.Abstraction.{given_names}
use Rattle.ab_term.specs.Translation.{forget, EqualPastHints}
use Rattle.ab_term.specs.Variables.{Substitution, variables, variables_of_all, value_in, image, image_all, IsTyped}
use Rattle.ab_term.specs.Sameness.{same_number}
use Rattle.ab_term.proofs.Compositions.{image_typed}
use Rattle.ab_term.proofs.Lists.{Contains-none, Contains-cases, Contains-from_map, All-from_contains}
use Rattle.ab_term.proofs.Images.{IsTypedMap}
use Rattle.ab_term.proofs.Stands.{support-image, support-expansion_of}
use Rattle.ab_unifiers.specs.Replacements.{Cell, holds}
use Rattle.ab_unifiers.specs.Unification.{Equation}
use Rattle.ab_unifiers.specs.Unifiers.{IsCell, AreTyped, AreKnown, AreOver, AllHoldCells}
use Rattle.ab_unifiers.specs.Clauses.{clause_variables, clause_names, filled, head_of, AreFor, HoldsNone}
use Rattle.ab_unifiers.specs.Choices.{in_order, outside}
use Rattle.ab_unifiers.specs.Alternatives.{on_right, cells_over, made_over, made_terms, arguments_equal}
use Rattle.ab_unifiers.proofs.Agreeing.{holds_behind}
use Rattle.ab_unifiers.proofs.Answered.{is_problem}
use Rattle.ab_unifiers.proofs.Avoiding.{not_held}
use Rattle.ab_unifiers.proofs.Cells.{cell_kept}
use Rattle.ab_unifiers.proofs.Choosing.{outside_contains}
use Rattle.ab_unifiers.proofs.Constants.{has_support}
use Rattle.ab_unifiers.proofs.Lifting.{made_terms_typed}
use Rattle.ab_unifiers.proofs.Ruling.{image_none, image_past_hints}
use Rattle.ab_unifiers.proofs.Unifier.{from_cells, arguments_of}
use Rattle.ab_unifiers.proofs.Variables.{holds_contains}
use Rattle.ab_formulas.specs.Declarations.{Declarations, HaveDefinitions, signature_in, IsDefining}
use Rattle.ab_formulas.specs.BodyMarks.{mark_above, marked_in}
use Rattle.ab_formulas.specs.Formulas.{IsFormula}
use Rattle.ab_formulas.specs.GoalTerms.{HoldsOnly}
use Rattle.ab_formulas.proofs.Images.{image_formula}
use Rattle.ab_formulas.proofs.MarkedFormulas.{marked_formula}
use Rattle.ab_theory.specs.Atoms.{Defined, Choice, defined_atom, choices_of}
use Rattle.ab_search_trees.specs.Goals.{Goal, Now}
use Rattle.ab_search_trees.specs.Lifting.{Guess, IsGuessFor, MakesEqual}
use Rattle.ab_search_trees.specs.Ways.{by_choice}
use Rattle.ab_search_trees.proofs.Carried.{AreFlexible}
use Rattle.ab_search_trees.proofs.ClauseParts as parts
use Rattle.ab_search_trees.proofs.Facts.{Facts, IsTask}
use Rattle.ab_search_trees.proofs.Lifts.{known_cell, cells_all_over}
use Rattle.ab_search_trees.proofs.Own.{atom_known}
use Rattle.ab_search_trees.proofs.Smaller.{choice_defining}
use Rattle.ab_pattern_matching.specs.Raising.{Bare}
use Rattle.ab_search_proofs.proofs.StandIns.{given_constants}
use Rattle.ab_search_clauses.specs.Paths.{at_last, terms_at_last, IsAtLast}
use Rattle.ab_search_clauses.proofs.Atoms.{IsChoice, is_choice, arguments_met}
use Rattle.ab_search_clauses.proofs.Guessing as guessing
use Rattle.ab_search_clauses.proofs.Puts as puts
use Rattle.ab_search_clauses.proofs.Along as along

module _ (D : Declarations) (defs : HaveDefinitions D) (now : Now) (flexible : AreFlexible now) (g : Goal) (t : IsTask (signature_in D) now g) (depth : ℕ) (d : Defined) (is : defined_atom D g.conclusion ≡ Some d) (c : Choice) (there : Contains (choices_of g.constants d) c) where
  abbrev pub sg : Signature
  sg = signature_in D

  abbrev x : List ℕ
  x = codes "x"

  abbrev pub n : ℕ
  n = length now.cells

  abbrev pub left : List Nominal
  left = outside (in_order (support_of_all d.arguments)) c.names

  abbrev own : List (Cell (List ℕ))
  own = cells_over (codes "x") (outside (in_order (support_of_all d.arguments)) c.names) c.clause.variables

  abbrev pub cells : List (Cell (List ℕ))
  cells = now.cells ++ cells_over (codes "x") (outside (in_order (support_of_all d.arguments)) c.names) c.clause.variables

  abbrev pub zs : List (Variable ℕ)
  zs = made_over (codes "x") (length now.cells) (outside (in_order (support_of_all d.arguments)) c.names) c.clause.variables

  abbrev pub replaceable : List (Variable ℕ)
  replaceable = now.flexible ++ made_over (codes "x") (length now.cells) (outside (in_order (support_of_all d.arguments)) c.names) c.clause.variables

  abbrev pub made : List Read
  made = made_terms (codes "x") (length now.cells) (outside (in_order (support_of_all d.arguments)) c.names) c.clause.variables

  abbrev pub put : Substitution ℕ (List ℕ)
  put = filled (codes "x") c.clause (made_terms (codes "x") (length now.cells) (outside (in_order (support_of_all d.arguments)) c.names) c.clause.variables) c.names

  abbrev pub equations : List (Equation (List ℕ))
  equations = arguments_equal (codes "x") 0 (image_all same_number [] d.arguments) (image_all same_number put c.clause.arguments)

  abbrev whole : Read
  whole = spine (constant d.predicate) d.arguments

  known_atom : HasType sg [] whole prop × Facts now g.constants g.untouched whole
  known_atom = atom_known D now flexible g.constants g.untouched g.conclusion t.conclusion d is

  abbrev facts : Facts now g.constants g.untouched whole
  facts = known_atom.1

  pub defining : IsDefining sg c.clause
  defining = choice_defining D defs g.conclusion d is g.constants c there

  pub chosen : IsChoice g.constants d c
  chosen = is_choice g.constants d facts.constants c there

  pub atom_typed : HasType sg [] (spine (constant c.clause.predicate) d.arguments) prop
  atom_typed = subst (λ p. HasType sg [] (spine (constant p) d.arguments) prop) (sym chosen.predicate) known_atom.0

  pub typed : AreTyped sg equations
  typed = (is_problem sg x c.clause defining.clause d.arguments atom_typed c.names chosen.types (record { cells = now.cells; variables = []; constants = g.constants }) (λ y h. absurd (false≢true h)) on_right).0

  pub over_cells : AreOver cells equations
  over_cells = cells_all_over cells equations (parts.clause_over sg now g.constants g.untouched d facts c defining chosen.types)

  pub longer : n ≤ length cells
  longer = let sum = length-append now.cells own in omega (arith, sum)

  pub holds_cells : AllHoldCells cells equations
  holds_cells = parts.clause_over sg now g.constants g.untouched d facts c defining chosen.types

  pub are_cells : (y : Variable ℕ) → holds replaceable y ≡ true → IsCell cells y
  are_cells y h = elim (not_held now.flexible zs y h) [
    | inl a ↦ cell_kept now.cells cells (own, refl) y (flexible y a)
    | inr a ↦ parts.new_cell_at sg now g.constants g.untouched d facts c defining chosen.types y a
  ]

  pub known : AreKnown cells replaceable
  known y h = known_cell cells y.name y.type (are_cells y h)

  same_arguments : image_all same_number [] d.arguments ≡ d.arguments
  same_arguments = let both : image same_number [] whole ≡ whole = image_none whole in cc

  pub low : (y : Variable ℕ) → holds (variables_of_all (image_all same_number [] d.arguments)) y ≡ true → y.name < n
  low y h = known_cell now.cells y.name y.type (facts.over y (holds_contains (variables_of_all d.arguments) y (subst (λ l. holds (variables_of_all l) y ≡ true) same_arguments h)))

  made_for : AreFor sg (clause_variables c.clause) made
  made_for = from_cells sg x 0 c.clause.variables made (made_terms_typed sg x n left c.clause.variables)

  pub put_typed : IsTyped sg put
  put_typed = puts.put_typed sg c.clause made c.names made_for chosen.types

  -- the clause's body in the way, marked
  pub left_formula : IsFormula sg (marked_in d.block.predicates (mark_above d.sign) (image same_number put c.clause.body))
  left_formula = marked_formula sg d.block.predicates (mark_above d.sign) (image same_number put c.clause.body) (image_formula sg put put_typed c.clause.body defining.body)

  put_own : (u : Read) → ((y : Variable ℕ) → holds (variables u) y ≡ true → holds (clause_variables c.clause ++ clause_names c.clause) y ≡ true) → (y : Variable ℕ) → Contains (variables (image same_number put u)) y → holds replaceable y ≡ true
  put_own u own y m = holds_behind now.flexible zs y (parts.put_variables sg now g.constants g.untouched d facts c defining chosen.types u own y m)

  abbrev pub head : (A : Ty) × (sg c.clause.predicate ≡ Some A) × TakeType sg [] c.clause.arguments A prop
  head = arguments_of sg x defining.clause.head

  -- both sides' arguments
  pub atom_takes : TakeType sg [] (image_all same_number [] d.arguments) head.0 prop
  atom_takes =
      let own_args = arguments_of sg x atom_typed in
      let some : Some own_args.0 ≡ Some head.0 = sym own_args.1 ∙ head.1 in
      let one : own_args.0 ≡ head.0 = cc in
      subst (λ l. TakeType sg [] l head.0 prop) (sym same_arguments) (subst (λ A. TakeType sg [] d.arguments A prop) one own_args.2)

  put_takes : TakeType sg [] (image_all same_number put c.clause.arguments) head.0 prop
  put_takes =
      let own_args = arguments_of sg x (image_typed sg same_number put put_typed defining.clause.head) in
      let some : Some own_args.0 ≡ Some head.0 = sym own_args.1 ∙ head.1 in
      let one : own_args.0 ≡ head.0 = cc in
      subst (λ A. TakeType sg [] (image_all same_number put c.clause.arguments) A prop) one own_args.2

  -- numbers above all of these
  abbrev pub high : ℕ
  high = length now.cells + (length now.cells + length c.clause.variables) + length c.clause.variables

  pub higher : n ≤ high
  higher = omega arith

  module _ (ys : List (Variable ℕ)) (later fill : Substitution ℕ (List ℕ)) (last : IsAtLast (signature_in D) now g (by_choice D now g depth d c) c.names ys later fill) where
    -- THE GUESS
    abbrev pub guess : Guess
    guess = guessing.guess sg replaceable (length now.cells) (length cells) high longer higher later last.typed last.nameless last.within

    pub guess_typed : IsTypedMap sg guess
    guess_typed = guessing.guess_typed sg replaceable (length now.cells) (length cells) high longer higher later last.typed last.nameless last.within

    pub is_guess : IsGuessFor sg replaceable guess
    is_guess = guessing.is_guess sg replaceable (length now.cells) (length cells) high longer higher later last.typed last.nameless last.within

    pub outside_values : (y : Variable ℕ) (v : Bare) → guess y ≡ Some v → (z : Variable ℕ) → holds (variables v) z ≡ true → (z.name < n) ⊎ (high ≤ z.name)
    outside_values = guessing.guess_outside sg replaceable (length now.cells) (length cells) high longer higher later last.typed last.nameless last.within

    pub equal : MakesEqual guess equations
    equal = guessing.makes_equal sg replaceable (length now.cells) (length cells) high longer higher later last.typed last.nameless last.within 0 (image_all same_number [] d.arguments) (image_all same_number put c.clause.arguments) atom_takes put_takes (λ y h. inr (low y h))
        (λ y h. inl (put_own (head_of c.clause) defining.clause.head_variables y (holds_contains (variables_of_all (image_all same_number put c.clause.arguments)) y h))) last.unifies

    -- WHAT THE CLAUSE'S VARIABLES STAND FOR
    abbrev pub us : List Read
    us = terms_at_last later fill now d c

    pub us_for : AreFor sg (clause_variables c.clause) us
    us_for = from_cells sg x 0 c.clause.variables us (along.us_are sg (length now.cells) left c.clause.variables now.flexible ys later fill last.typed last.filled c.names last.constants last.own)

    pub us_known : All (HoldsOnly ys) us
    us_known = along.us_known sg (length now.cells) left c.clause.variables now.flexible ys later fill last.typed last.filled c.names last.constants last.own

    pub us_without : All (HoldsNone sg c.names) us
    us_without = All-from_contains (HoldsNone sg c.names) us (λ v i. let from = Contains-from_map (at_last later fill) made v i in subst (HoldsNone sg c.names) from.2 (one from.0 (along.made_is sg (length now.cells) left c.clause.variables now.flexible from.0 from.1)))
      where
        one : (u : Read) → along.IsMade sg (length now.cells) left c.clause.variables now.flexible u → HoldsNone sg c.names (at_last later fill u)
        one u m = All-from_contains (λ a. ¬ (Contains (support (at_last later fill u)) a)) c.names (λ a i k. elim (support-image (value_in same_number fill) (image same_number later u) a k) [
          | inl j ↦ elim (support-image (value_in same_number later) u a j) [
            | inl q ↦ (outside_contains (in_order (support_of_all d.arguments)) c.names a (has_support (Contains left) (given_names x m.new left m.type) (given_constants m.new left m.type) a (subst (λ k. Contains (support k) a) m.as_given q))).1 i
            | inr q ↦ Contains-none a (subst (λ l. Contains l a) (last.nameless q.0 q.1 (q.2).1) q.3)
          ]
          | inr j ↦ (
              let v = last.constants j.0 j.1 (j.2).1 in
              let alone_there : Contains (v.0 ∷ []) a = subst (λ l. Contains l a) (ap support (sym v.2) ∙ support-expansion_of x (v.0).type (nominal v.0) no_terms) j.3 in
              elim (Contains-cases v.0 [] a alone_there) [ inl e ↦ v.1 (subst (Contains c.names) (sym e) i) | inr q ↦ Contains-none a q ])
        ])

    mapped_twice : (ts : List Read) → map (image same_number fill) (map (image same_number later) ts) ≡ map (at_last later fill) ts
    mapped_twice [] = refl
    mapped_twice (t ∷ ts) = ap (λ l. at_last later fill t ∷ l) (mapped_twice ts)

    -- the clause's parts at last
    pub last_through : (u : Read) {A : Ty} → HasType sg [] u A → ((y : Variable ℕ) → holds (variables u) y ≡ true → holds (clause_variables c.clause ++ clause_names c.clause) y ≡ true) → at_last later fill (image same_number put u) ≡ image same_number (filled x c.clause us c.names) u
    last_through u k own =
        ap (image same_number fill) (puts.put_through sg c.clause made c.names made_for chosen.types later last.typed u k own)
        ∙ puts.put_through sg c.clause (map (image same_number later) made) c.names (puts.through_for sg c.clause made c.names made_for chosen.types later last.typed) chosen.types fill last.filled u k own
        ∙ ap (λ l. image same_number (filled x c.clause l c.names) u) (mapped_twice made)

    pub head_at_last : EqualPastHints (image same_number (filled x c.clause us c.names) (head_of c.clause)) (spine (constant d.predicate) (image_all same_number fill (image_all same_number later d.arguments)))
    head_at_last =
        let atom : Read = spine (constant c.clause.predicate) (image_all same_number [] d.arguments) in
        let met : forget (image same_number later atom) ≡ forget (image same_number later (image same_number put (head_of c.clause))) =
        ap (spine (constant c.clause.predicate)) (arguments_met sg later 0 (image_all same_number [] d.arguments) (image_all same_number put c.clause.arguments) atom_takes put_takes last.unifies) in
        ap forget (sym (last_through (head_of c.clause) defining.clause.head defining.clause.head_variables))
        ∙ image_past_hints fill (image same_number later (image same_number put (head_of c.clause))) (image same_number later atom) (sym met)
        ∙ ap (λ l. forget (image same_number fill (image same_number later (spine (constant c.clause.predicate) l)))) same_arguments
        ∙ ap (λ p. forget (image same_number fill (image same_number later (spine (constant p) d.arguments)))) chosen.predicate
