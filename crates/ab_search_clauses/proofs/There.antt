-- WHERE THE ATOM STANDS: the terms for the clause's variables, abstracted over the constants that weren't chosen, make the sides of the choice's
-- equations equal, and hold none of the equations' constants.
use Rattle.std.proofs.Common.{◌≡◌, ◌⊎◌, inl, inr, ℕ, ◌<◌, List, [], ◌++◌, map, length, codes, true, false, Some, None, sym, ◌∙◌, ap, subst}
use Rattle.std.specs.Prelude.{All, Contains}
use Rattle.std.proofs.lemmas.Bool.{false≢true}
use Rattle.std.proofs.lemmas.List.Elements.{All-contains}
use Rattle.ab_term.specs.Types.{prop}
use Rattle.ab_term.specs.Terms as tree
use Rattle.ab_term.specs.Terms.{Nominal, constant, spine, Terms, no_terms, term, Read}
use Rattle.ab_term.specs.Typing.{Signature, HasType}
use Rattle.ab_term.specs.Names.{support, support_of_all}
use Rattle.ab_term.specs.Translation.{forget, forget_all, EqualPastHints}
use Rattle.ab_term.specs.Variables.{Substitution, variables, variables_of_all, value_in, image, image_all, image_by, IsTyped}
use Rattle.ab_term.specs.Sameness.{same_number}
use Rattle.ab_term.proofs.Lists.{Contains-none}
use Rattle.ab_unifiers.specs.Replacements.{Cell, holds}
use Rattle.ab_unifiers.specs.Unification.{Equation}
use Rattle.ab_unifiers.specs.Unifiers.{IsCell, AreTyped, AreKnown, AreOver, AllHoldCells, Unifies, IsUnifier, sides}
use Rattle.ab_unifiers.specs.Clauses.{Clause, Each, clause_variables, clause_names, put_together, name_term, filled, head_of, AreFor, HoldsNone}
use Rattle.ab_unifiers.specs.Choices.{in_order, outside}
use Rattle.ab_unifiers.specs.Alternatives.{on_right, cells_over, made_over, made_terms, arguments_equal}
use Rattle.ab_unifiers.proofs.Agreeing.{contains_holds, holds_front}
use Rattle.ab_unifiers.proofs.Answered.{is_problem}
use Rattle.ab_unifiers.proofs.Choosing.{in_or_outside, ordered_contains}
use Rattle.ab_unifiers.proofs.Constants as names_in
use Rattle.ab_unifiers.proofs.Core.{heads_same, bodies_same}
use Rattle.ab_unifiers.proofs.Covered.{names_typed}
use Rattle.ab_unifiers.proofs.Following.{plain}
use Rattle.ab_unifiers.proofs.Lifting.{lifted, OfCells, made_terms_typed}
use Rattle.ab_unifiers.proofs.Rows.{each_any, found_has, nothing_found}
use Rattle.ab_unifiers.proofs.Ruling.{image_none}
use Rattle.ab_unifiers.proofs.Sides.{arguments_unify, all_sides}
use Rattle.ab_unifiers.proofs.Unifier.{to_cells, from_cells, filled_typed, made_have, names_have, have_each, append-none}
use Rattle.ab_unifiers.proofs.Variables.{holds_contains}
use Rattle.ab_formulas.specs.Declarations.{Declarations, signature_in, IsDefining}
use Rattle.ab_formulas.specs.Sequents.{Sequent, IsSequent, goal_names, names_of, in_terms}
use Rattle.ab_theory.specs.Analysis.{scope_of}
use Rattle.ab_theory.specs.Atoms.{Defined, Choice, defined_atom}
use Rattle.ab_theory.specs.Equations.{AreCells}
use Rattle.ab_theory.proofs.Raised.{known_there}
use Rattle.ab_theory.proofs.Sequents.{goal_of}
use Rattle.ab_theory.proofs.Sized.{IsAtomOver, atom_over}
use Rattle.ab_search_trees.specs.Goals.{Now}
use Rattle.ab_search_trees.specs.Lifting.{MakesEqual}
use Rattle.ab_search_trees.proofs.ClauseParts as parts
use Rattle.ab_search_trees.proofs.Facts.{Facts}
use Rattle.ab_search_trees.proofs.Lifts.{cells_all_over}
use Rattle.ab_pattern_matching.specs.Reading.{HoldNoneOf, IsGuessOver}
use Rattle.ab_formulas.specs.GoalTerms.{HoldsOnly}
use Rattle.ab_search_clauses.proofs.Lifted as lifting
use Rattle.ab_search_clauses.proofs.AtPlace.{cell_here}

module _ (D : Declarations) (s : Sequent) (is : IsSequent D s) (atom : Defined) (atom_is : defined_atom D s.conclusion ≡ Some atom) (c : Clause (List ℕ)) (defining : IsDefining (signature_in D) c) (one_predicate : c.predicate ≡ atom.predicate)
    (ns : List Nominal) (types : map (λ a. a.type) ns ≡ map (λ z. z.type) c.names) (cells : List (Cell (List ℕ))) (cells_are : AreCells cells s)
    (us : List Read) (for : AreFor (signature_in D) (clause_variables c) us) (without : All (HoldsNone (signature_in D) ns) us)
    (head : EqualPastHints (image same_number (filled (codes "x") c us ns) (head_of c)) (spine (constant atom.predicate) atom.arguments)) where
  abbrev sg : Signature
  sg = signature_in D

  abbrev x : List ℕ
  x = codes "x"

  abbrev pub ts : Terms ℕ (List ℕ)
  ts = atom.arguments

  abbrev pub rest : List Nominal
  rest = outside (in_order (support_of_all atom.arguments)) ns

  abbrev pub own : List (Cell (List ℕ))
  own = cells_over (codes "x") (outside (in_order (support_of_all atom.arguments)) ns) c.variables

  abbrev pub zs : List (tree.Variable ℕ)
  zs = made_over (codes "x") (length cells) (outside (in_order (support_of_all atom.arguments)) ns) c.variables

  abbrev terms : List Read
  terms = made_terms (codes "x") (length cells) rest c.variables

  abbrev pub put : Substitution ℕ (List ℕ)
  put = filled (codes "x") c (made_terms (codes "x") (length cells) (outside (in_order (support_of_all atom.arguments)) ns) c.variables) ns

  abbrev pub equations : List (Equation (List ℕ))
  equations = arguments_equal (codes "x") 0 (image_all same_number [] atom.arguments) (image_all same_number put c.arguments)

  atom_here : IsAtomOver sg s.variables (goal_names s) atom
  atom_here = atom_over D s.variables (goal_names s) s.conclusion atom (goal_of D s is).conclusion atom_is

  pub atom_typed : HasType sg [] (spine (constant c.predicate) ts) prop
  atom_typed = subst (λ p. HasType sg [] (spine (constant p) ts) prop) (sym one_predicate) atom_here.typed

  problem : AreTyped sg equations × AreKnown (cells ++ own) zs
  problem = is_problem sg x c defining.clause ts atom_typed ns types (scope_of cells s) (known_there cells s.variables cells_are) on_right

  pub typed_there : AreTyped sg equations
  typed_there = problem.0

  pub known_flexible : AreKnown (cells ++ own) zs
  known_flexible = problem.1

  -- as a place of a search
  abbrev place : Now
  place = record { cells = cells; flexible = []; answer = []; held = [] }

  facts : Facts place (goal_names s) false (spine (constant atom.predicate) atom.arguments)
  facts = record {
    over = λ y m. cell_here s cells cells_are y (All-contains (Contains (map in_terms s.variables)) (variables (spine (constant atom.predicate) atom.arguments)) y atom_here.closed m);
    constants = atom_here.held;
    fixed = λ e. absurd (false≢true e);
  }

  abbrev choice : Choice
  choice = record { clause = c; names = ns }

  pub cells_there : AllHoldCells (cells ++ own) equations
  cells_there = parts.clause_over sg place (goal_names s) false atom facts choice defining types

  pub over_there : AreOver (cells ++ own) equations
  over_there = cells_all_over (cells ++ own) equations cells_there

  pub flexible_cells : (y : tree.Variable ℕ) → holds zs y ≡ true → IsCell (cells ++ own) y
  flexible_cells = parts.new_cell_at sg place (goal_names s) false atom facts choice defining types

  pub body_own : (y : tree.Variable ℕ) → Contains (variables (image same_number put c.body)) y → holds zs y ≡ true
  body_own = parts.put_variables sg place (goal_names s) false atom facts choice defining types c.body (λ y h. holds_front (clause_variables c) (clause_names c) y (defining.clause.body_variables y h))

  pub put_is_typed : IsTyped sg put
  put_is_typed = parts.put_typed sg place (goal_names s) false atom facts choice defining types

  pub atom_low : (y : tree.Variable ℕ) → holds (variables_of_all ts) y ≡ true → y.name < length cells
  atom_low y h = known_there cells s.variables cells_are y (contains_holds (map in_terms s.variables) y (All-contains (Contains (map in_terms s.variables)) (variables (spine (constant atom.predicate) atom.arguments)) y atom_here.closed (holds_contains (variables_of_all ts) y h)))

  -- THE UNIFIER
  abbrev pub values : List Read
  values = lifted sg (codes "x") (outside (in_order (support_of_all atom.arguments)) ns) c.variables us

  abbrev pub unifier : Substitution ℕ (List ℕ)
  unifier = put_together (made_over (codes "x") (length cells) (outside (in_order (support_of_all atom.arguments)) ns) c.variables) (lifted sg (codes "x") (outside (in_order (support_of_all atom.arguments)) ns) c.variables us)

  us_cells : OfCells sg x c.variables us
  us_cells = to_cells sg x 0 c.variables us for

  pub values_typed : Each (λ z v. HasType sg [] v z.type) zs values
  values_typed = lifting.values_typed sg (length cells) rest c.variables us us_cells

  pub unifier_typed : IsTyped sg unifier
  unifier_typed = lifting.unifier_typed sg (length cells) rest c.variables us us_cells

  found : Each (λ z v. value_in same_number unifier z ≡ Some v) zs values
  found = lifting.found sg (length cells) rest c.variables us us_cells

  made_for : AreFor sg (clause_variables c) terms
  made_for = from_cells sg x 0 c.variables terms (made_terms_typed sg x (length cells) rest c.variables)

  names_for : AreFor sg (clause_names c) (map (name_term x) ns)
  names_for = names_typed sg x (length c.variables) c.names ns types

  any_for : (ys : List (tree.Variable ℕ)) (vs : List Read) → AreFor sg ys vs → Each (λ y t. Unit {0}) ys vs
  any_for = each_any (λ y t. HasType sg [] t y.type)

  guess_typed : IsTyped sg (filled x c us ns)
  guess_typed = filled_typed sg x c us ns for names_for

  head_same : EqualPastHints (image same_number unifier (image same_number put (head_of c))) (image same_number (filled x c us ns) (head_of c))
  head_same = heads_same sg x c us ns rest (length cells) defining.clause us_cells (any_for (clause_variables c) terms made_for) (any_for (clause_variables c) us for) (any_for (clause_names c) (map (name_term x) ns) names_for) unifier unifier_typed put_is_typed guess_typed found

  pub body_same : EqualPastHints (image same_number unifier (image same_number put c.body)) (image same_number (filled x c us ns) c.body)
  body_same = bodies_same sg x c us ns rest (length cells) defining.clause us_cells (any_for (clause_variables c) terms made_for) (any_for (clause_variables c) us for) (any_for (clause_names c) (map (name_term x) ns) names_for) unifier unifier_typed put_is_typed guess_typed found

  -- the atom stays
  atom_same : image same_number unifier (image same_number [] (spine (constant c.predicate) ts)) ≡ spine (constant c.predicate) ts
  atom_same =
      ap (image same_number unifier) (image_none (spine (constant c.predicate) ts))
      ∙ lifting.old_stays sg (length cells) rest c.variables us us_cells (spine (constant c.predicate) ts) (λ y m. atom_low y (contains_holds (variables_of_all ts) y m))

  pub unifies_there : Unifies unifier equations
  unifies_there =
      let both : forget (image same_number unifier (image same_number [] (spine (constant c.predicate) ts))) ≡ forget (image same_number unifier (image same_number put (head_of c))) =
      ap forget atom_same ∙ ap (λ p. forget (spine (constant p) ts)) one_predicate ∙ sym head ∙ sym head_same in
      let arguments : forget_all (image_all same_number unifier (image_all same_number [] ts)) ≡ forget_all (image_all same_number unifier (image_all same_number put c.arguments)) = cc in
      arguments_unify sg x unifier 0 (image_all same_number [] ts) (image_all same_number put c.arguments) arguments

  -- the equations' constants: those of the atom, chosen or not
  abbrev Known : Nominal → Type 0
  Known a = Contains rest a ⊎ Contains ns a

  put_has : (y : tree.Variable ℕ) (t : Read) → value_in same_number put y ≡ Some t → names_in.Has Known t
  put_has = found_has (names_in.Has Known) (clause_variables c) terms (put_together (clause_names c) (map (name_term x) ns)) (made_have sg x Known 0 (length cells) rest c.variables (λ a i. inl i))
      (λ z v f. found_has (names_in.Has Known) (clause_names c) (map (name_term x) ns) [] (names_have sg x Known (clause_names c) ns (λ a i. inr i) names_for) (nothing_found (names_in.Has Known)) z v (ap (λ q. value_in same_number q z) (append-none (put_together (clause_names c) (map (name_term x) ns))) ∙ f))

  sides_known : All (names_in.Has Known) (sides equations)
  sides_known = all_sides sg x (names_in.Has Known) 0 (image_all same_number [] ts) (image_all same_number put c.arguments)
      (have_each sg x Known (image_all same_number [] ts) (names_in.image_all_by_have Known (value_in same_number []) (λ y t e. absurd (let bad : None ≡ Some t = e in cc)) ts
      (names_in.support_all_have Known ts (λ a i. elim (in_or_outside (in_order (support_of_all ts)) ns a (ordered_contains (support_of_all ts) a i)) [ inl j ↦ inr j | inr j ↦ inl j ]))))
      (have_each sg x Known (image_all same_number put c.arguments) (names_in.image_all_by_have Known (value_in same_number put) put_has c.arguments (names_in.support_all_have Known c.arguments (λ a i. absurd (Contains-none a (subst (λ l. Contains l a) defining.clause.head_without_constants i))))))

  pub is_unifier : IsUnifier sg zs equations unifier
  is_unifier = lifting.is_unifier sg (length cells) rest c.variables us us_cells ns without equations sides_known unifies_there

  -- as a guess
  abbrev pub foreign : List Nominal
  foreign = names_of values

  pub guess_over : IsGuessOver sg zs foreign (plain unifier)
  guess_over = lifting.guess_over sg (length cells) rest c.variables us us_cells

  pub hold_none_there : HoldNoneOf foreign equations
  hold_none_there = lifting.hold_none_there sg (length cells) rest c.variables us us_cells ns without equations sides_known unifies_there

  pub equal_there : MakesEqual (plain unifier) equations
  equal_there = lifting.equal sg (length cells) rest c.variables us us_cells ns without equations sides_known unifies_there

  -- the new variables, given the constants, become the terms
  pub become : Each (λ m w. image_by (plain unifier) (forget m) ≡ forget w) (made_terms (codes "x") (length cells) rest c.variables) us
  become = lifting.become sg (length cells) rest c.variables us us_cells

  -- what the values hold
  pub values_without : (v : Read) → Contains values v → HoldsNone sg ns v
  values_without = lifting.values_without sg (length cells) rest c.variables us us_cells ns without

  pub values_known : (V : List (tree.Variable ℕ)) → All (HoldsOnly V) us → (v : Read) → Contains values v → (y : tree.Variable ℕ) → Contains (variables v) y → Contains V y
  values_known = lifting.values_known sg (length cells) rest c.variables us us_cells

  pub values_names : (v : Read) → Contains values v → (a : Nominal) → Contains (support v) a → Contains (names_of us) a
  values_names = lifting.values_names sg (length cells) rest c.variables us us_cells
