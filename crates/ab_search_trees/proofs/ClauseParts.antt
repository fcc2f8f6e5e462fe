-- What is put in for a clause's variables and names, in a way by the clause.
use Rattle.std.proofs.Common.{◌≡◌, inl, inr, ℕ, List, [], ◌++◌, map, length, codes, Bool, true, false, Some, None, refl, sym, ◌∙◌, ap, subst}
use Rattle.std.specs.Prelude.{Contains}
use Rattle.std.proofs.lemmas.Bool.{false≢true}
use Rattle.ab_term.specs.Terms.{Nominal, Variable, constant, spine, Read}
use Rattle.ab_term.specs.Typing.{Signature, HasType}
use Rattle.ab_term.specs.Names.{support_of_all}
use Rattle.ab_term.specs.Variables.{Substitution, variables, variables_of_all, value_in, image, image_all, IsTyped}
use Rattle.ab_term.specs.Sameness.{same_number}
use Rattle.ab_term.proofs.Lists.{Contains-none}
use Rattle.ab_term.proofs.Stands.{support-image}
use Rattle.ab_unifiers.specs.Replacements.{Cell, holds}
use Rattle.ab_unifiers.specs.Unification.{Equation}
use Rattle.ab_unifiers.specs.Unifiers.{IsCell, AllHoldCells}
use Rattle.ab_unifiers.proofs.Ruling.{image_none}
use Rattle.ab_unifiers.proofs.Agreeing.{contains_holds, holds_front}
use Rattle.ab_unifiers.proofs.Cells.{cell_kept}
use Rattle.ab_unifiers.specs.Clauses.{Each, clause_variables, clause_names, put_together, name_term, filled, head_of, AreFor}
use Rattle.ab_unifiers.specs.Choices.{in_order, outside}
use Rattle.ab_unifiers.specs.Alternatives.{cells_over, made_over, made_terms, arguments_equal}
use Rattle.ab_unifiers.proofs.Choosing.{in_or_outside, outside_contains, contains_ordered}
use Rattle.ab_unifiers.proofs.Constants as names
use Rattle.ab_unifiers.proofs.Variables as variable_in
use Rattle.ab_unifiers.proofs.Rows.{each_any, found_has, found_none, nothing_found, held_append}
use Rattle.ab_unifiers.proofs.Lifting.{made_terms_typed}
use Rattle.ab_unifiers.proofs.Unifier.{from_cells, filled_typed, made_have, names_have, made_over_vars, names_over_vars, append-none}
use Rattle.ab_unifiers.proofs.Covered.{names_typed}
use Rattle.ab_formulas.specs.Declarations.{IsDefining}
use Rattle.ab_theory.specs.Atoms.{Defined, Choice}
use Rattle.ab_search_trees.specs.Goals.{Now}
use Rattle.ab_search_trees.specs.Ways.{with_constants}
use Rattle.ab_search_trees.proofs.Lifts.{at_behind, numbered_cell}
use Rattle.ab_search_trees.proofs.Facts.{Facts}
use Rattle.ab_search_trees.proofs.Clauses.{arguments_hold, constants_more, constants_new}

module _ (sg : Signature) (now : Now) (branch : List Nominal) (untouched : Bool) (e : Defined) (facts : Facts now branch untouched (spine (constant e.predicate) e.arguments))
    (c : Choice) (defining : IsDefining sg c.clause) (types : map (λ a. a.type) c.names ≡ map (λ z. z.type) c.clause.names) where
  abbrev x : List ℕ
  x = codes "x"

  abbrev n : ℕ
  n = length now.cells

  abbrev vars : List (Cell (List ℕ))
  vars = c.clause.variables

  abbrev S : List Nominal
  S = in_order (support_of_all e.arguments)

  abbrev rest : List Nominal
  rest = outside S c.names

  abbrev pub own : List (Cell (List ℕ))
  own = cells_over x rest vars

  abbrev pub zs : List (Variable ℕ)
  zs = made_over x n rest vars

  abbrev terms : List Read
  terms = made_terms x n rest vars

  abbrev put : Substitution ℕ (List ℕ)
  put = filled x c.clause terms c.names

  made_for : AreFor sg (clause_variables c.clause) terms
  made_for = from_cells sg x 0 vars terms (made_terms_typed sg x n rest vars)

  names_for : AreFor sg (clause_names c.clause) (map (name_term x) c.names)
  names_for = names_typed sg x (length vars) c.clause.names c.names types

  pub put_typed : IsTyped sg put
  put_typed = filled_typed sg x c.clause terms c.names made_for names_for

  any_for : (ys : List (Variable ℕ)) (ts : List Read) → AreFor sg ys ts → Each (λ y t. Unit {0}) ys ts
  any_for = each_any (λ y t. HasType sg [] t y.type)

  abbrev pub amid_clause : Now
  amid_clause = record now { cells = now.cells ++ own; flexible = now.flexible ++ zs }

  -- what is put in holds the new variables alone
  put_over : (y : Variable ℕ) (v : Read) → value_in same_number put y ≡ Some v → variable_in.Has (λ z. holds zs z ≡ true) v
  put_over y v q = found_has (variable_in.Has (λ z. holds zs z ≡ true)) (clause_variables c.clause) terms (put_together (clause_names c.clause) (map (name_term x) c.names)) (made_over_vars sg x (λ z. holds zs z ≡ true) 0 n rest vars (λ z h. h))
      (λ z w r. found_has (variable_in.Has (λ k. holds zs k ≡ true)) (clause_names c.clause) (map (name_term x) c.names) [] (names_over_vars sg x (λ k. holds zs k ≡ true) (clause_names c.clause) c.names names_for) (nothing_found (variable_in.Has (λ k. holds zs k ≡ true))) z w
      (ap (λ l. value_in same_number l z) (append-none (put_together (clause_names c.clause) (map (name_term x) c.names))) ∙ r)) y v q

  put_all : (y : Variable ℕ) → value_in same_number put y ≡ None → holds (clause_variables c.clause ++ clause_names c.clause) y ≡ true → ⊥
  put_all y q h =
      let one = found_none (clause_variables c.clause) terms (put_together (clause_names c.clause) (map (name_term x) c.names)) (any_for (clause_variables c.clause) terms made_for) y q in
      let two = found_none (clause_names c.clause) (map (name_term x) c.names) [] (any_for (clause_names c.clause) (map (name_term x) c.names) names_for) y (ap (λ l. value_in same_number l y) (append-none (put_together (clause_names c.clause) (map (name_term x) c.names))) ∙ one.1) in
      elim (held_append (clause_variables c.clause) (clause_names c.clause) y h) [ inl a ↦ false≢true (sym one.0 ∙ a) | inr a ↦ false≢true (sym two.0 ∙ a) ]

  pub put_variables : (t : Read) → ((y : Variable ℕ) → holds (variables t) y ≡ true → holds (clause_variables c.clause ++ clause_names c.clause) y ≡ true) → (y : Variable ℕ) → Contains (variables (image same_number put t)) y → holds zs y ≡ true
  put_variables t w y m = variable_in.has_held (λ z. holds zs z ≡ true) (image same_number put t)
      (variable_in.image_by_has (λ z. holds (clause_variables c.clause ++ clause_names c.clause) z ≡ true) (λ z. holds zs z ≡ true) (value_in same_number put) put_over (λ z q h. absurd (put_all z q h)) t (variable_in.held_has (λ z. holds (clause_variables c.clause ++ clause_names c.clause) z ≡ true) t w))
      y (contains_holds (variables (image same_number put t)) y m)

  atom_itself : image_all same_number [] e.arguments ≡ e.arguments
  atom_itself = let whole : image same_number [] (spine (constant e.predicate) e.arguments) ≡ spine (constant e.predicate) e.arguments = image_none (spine (constant e.predicate) e.arguments) in cc

  abbrev pub clause_equations : List (Equation (List ℕ))
  clause_equations = arguments_equal x 0 (image_all same_number [] e.arguments) (image_all same_number put c.clause.arguments)

  pub new_cell_at : (y : Variable ℕ) → holds zs y ≡ true → IsCell amid_clause.cells y
  new_cell_at y h = let at = numbered_cell own n y h in at_behind now.cells own at.0 y.name y.type at.1 at.2

  pub clause_over : AllHoldCells amid_clause.cells clause_equations
  clause_over = arguments_hold amid_clause.cells 0 (image_all same_number [] e.arguments) (image_all same_number put c.clause.arguments)
      (λ y m. cell_kept now.cells amid_clause.cells (own, refl) y (facts.over y (subst (λ ts. Contains (variables_of_all ts) y) atom_itself m)))
      (λ y m. new_cell_at y (put_variables (head_of c.clause) defining.clause.head_variables y m))

  -- the body's variables and constants
  abbrev pub fresh : List Nominal
  fresh = outside c.names S

  pub body_facts : Facts amid_clause (with_constants fresh branch) false (image same_number put c.clause.body)
  body_facts = record {
    over = λ y m. new_cell_at y (put_variables c.clause.body (λ z h. holds_front (clause_variables c.clause) (clause_names c.clause) z (defining.clause.body_variables z h)) y m);
    constants = λ a m. elim (support-image (value_in same_number put) c.clause.body a m) [
      | inl k ↦ absurd (Contains-none a (subst (λ l. Contains l a) defining.clause.body_without_constants k))
      | inr k ↦ names.has_support (Contains (with_constants fresh branch)) k.1 (put_names k.0 k.1 (k.2).1) a k.3
    ];
    fixed = λ q. absurd (false≢true q);
  }
    where
      of_names : (a : Nominal) → Contains c.names a → Contains (with_constants fresh branch) a
      of_names a m = elim (in_or_outside c.names S a m) [
        | inl i ↦ constants_more fresh branch a (facts.constants a (contains_ordered (support_of_all e.arguments) a i))
        | inr i ↦ constants_new fresh branch a i
      ]

      of_rest : (a : Nominal) → Contains rest a → Contains (with_constants fresh branch) a
      of_rest a m = constants_more fresh branch a (facts.constants a (contains_ordered (support_of_all e.arguments) a (outside_contains S c.names a m).0))

      put_names : (y : Variable ℕ) (v : Read) → value_in same_number put y ≡ Some v → names.Has (Contains (with_constants fresh branch)) v
      put_names y v q = found_has (names.Has (Contains (with_constants fresh branch))) (clause_variables c.clause) terms (put_together (clause_names c.clause) (map (name_term x) c.names)) (made_have sg x (Contains (with_constants fresh branch)) 0 n rest vars of_rest)
          (λ z w r. found_has (names.Has (Contains (with_constants fresh branch))) (clause_names c.clause) (map (name_term x) c.names) [] (names_have sg x (Contains (with_constants fresh branch)) (clause_names c.clause) c.names of_names names_for) (nothing_found (names.Has (Contains (with_constants fresh branch)))) z w
          (ap (λ l. value_in same_number l z) (append-none (put_together (clause_names c.clause) (map (name_term x) c.names))) ∙ r)) y v q
