-- A CHOICE IS SOLVED, where its equations are unified and no variable is made: with the terms for the variables that stay open, its body is what the terms
-- for all of the clause's variables make of it.
use Rattle.std.proofs.Common.{◌≡◌, ℕ, ◌<◌, List, [], ◌++◌, map, length, codes, true, Some, sym, ◌∙◌, ap, subst}
use Rattle.std.specs.Prelude.{All, Contains}
use Rattle.std.proofs.Math.Seq.{drop-append_seam}
use Rattle.ab_term.specs.Terms as tree
use Rattle.ab_term.specs.Terms.{variable, no_terms, Read, Nominal, constant, nominal, spine}
use Rattle.ab_term.specs.Typing.{Signature, HasType}
use Rattle.ab_term.specs.Translation.{forget, EqualPastHints}
use Rattle.ab_term.specs.Variables.{Substitution, variables, image, one_by_one}
use Rattle.ab_term.specs.Sameness.{same_number}
use Rattle.ab_term.proofs.Lists.{All-from_contains}
use Rattle.ab_unifiers.specs.Replacements.{Cell, holds}
use Rattle.ab_unifiers.specs.Unification.{Equation, unified, Solves}
use Rattle.ab_unifiers.specs.Unifiers.{given, IsCell, AreTyped, AreKnown, AreOver, AllHoldCells, IsUnifier}
use Rattle.ab_unifiers.specs.Clauses.{Each, put_together, Clause, clause_variables, filled, head_of, AreFor, HoldsNone}
use Rattle.ab_formulas.specs.Sequents.{Variable, in_terms, Sequent, IsSequent, goal_names, names_of}
use Rattle.ab_theory.specs.Equations.{made, AreCells}
use Rattle.ab_term.specs.Names.{support, HasOneTypeEach}
use Rattle.ab_unifiers.proofs.Agreeing.{contains_holds}
use Rattle.ab_unifiers.proofs.Following.{plain, image_plain}
use Rattle.ab_formulas.specs.BodyMarks.{mark_above, marked_in}
use Rattle.ab_formulas.specs.Declarations.{Declarations, signature_in, IsDefining}
use Rattle.ab_formulas.specs.Formulas.{IsFormula}
use Rattle.ab_formulas.specs.GoalTerms.{HoldsOnly}
use Rattle.ab_formulas.proofs.Images.{image_formula}
use Rattle.ab_formulas.proofs.MarkedFormulas.{marked_formula, marked_variables}
use Rattle.ab_theory.specs.Atoms.{Defined, Choice, defined_atom}
use Rattle.ab_theory.proofs.Raised.{known_there}
use Rattle.ab_search_trees.proofs.Bodies.{makes_marked}
use Rattle.ab_search_proofs.specs.Proved.{IsSolved}
use Rattle.ab_search_clauses.proofs.Opens as opens
use Rattle.ab_search_clauses.proofs.There as there
use Rattle.ab_search_clauses.proofs.AtPlace.{names_from, kept_behind}

module _ (D : Declarations) (s : Sequent) (is : IsSequent D s) (atom : Defined) (atom_is : defined_atom D s.conclusion ≡ Some atom) (c : Clause (List ℕ)) (defining : IsDefining (signature_in D) c) (one_predicate : c.predicate ≡ atom.predicate)
    (ns : List Nominal) (types : map (λ a. a.type) ns ≡ map (λ z. z.type) c.names) (cells : List (Cell (List ℕ))) (cells_are : AreCells cells s)
    (us : List Read) (for : AreFor (signature_in D) (clause_variables c) us) (without : All (HoldsNone (signature_in D) ns) us)
    (head : EqualPastHints (image same_number (filled (codes "x") c us ns) (head_of c)) (spine (constant atom.predicate) atom.arguments))
    (known : All (HoldsOnly (map in_terms s.variables)) us) (one_type : HasOneTypeEach (goal_names s ++ (ns ++ names_of us))) where
  abbrev sg : Signature
  sg = signature_in D

  abbrev x : List ℕ
  x = codes "x"

  abbrev k : Choice
  k = record { clause = c; names = ns }

  abbrev equations : List (Equation (List ℕ))
  equations = there.equations D s is atom atom_is c defining one_predicate ns types cells cells_are us for without head

  abbrev own_cells : List (Cell (List ℕ))
  own_cells = there.own D s is atom atom_is c defining one_predicate ns types cells cells_are us for without head

  abbrev zs : List (tree.Variable ℕ)
  zs = there.zs D s is atom atom_is c defining one_predicate ns types cells cells_are us for without head

  abbrev rest : List Nominal
  rest = there.rest D s is atom atom_is c defining one_predicate ns types cells cells_are us for without head

  abbrev values : List Read
  values = there.values D s is atom atom_is c defining one_predicate ns types cells cells_are us for without head

  abbrev unifier : Substitution ℕ (List ℕ)
  unifier = there.unifier D s is atom atom_is c defining one_predicate ns types cells cells_are us for without head

  abbrev put : Substitution ℕ (List ℕ)
  put = there.put D s is atom atom_is c defining one_predicate ns types cells cells_are us for without head

  abbrev bare_body : Read
  bare_body = image same_number put c.body

  abbrev body : Read
  body = marked_in atom.block.predicates (mark_above atom.sign) bare_body

  values_known : (v : Read) → Contains values v → (y : tree.Variable ℕ) → Contains (variables v) y → Contains (map in_terms s.variables) y
  values_known = there.values_known D s is atom atom_is c defining one_predicate ns types cells cells_are us for without head (map in_terms s.variables) known

  values_names : (v : Read) → Contains values v → (a : Nominal) → Contains (support v) a → Contains (names_of us) a
  values_names = there.values_names D s is atom atom_is c defining one_predicate ns types cells cells_are us for without head

  values_without : (v : Read) → Contains values v → HoldsNone sg ns v
  values_without = there.values_without D s is atom atom_is c defining one_predicate ns types cells cells_are us for without head

  values_typed : Each (λ (z : tree.Variable ℕ) v. HasType sg [] v z.type) zs values
  values_typed = there.values_typed D s is atom atom_is c defining one_predicate ns types cells cells_are us for without head

  values_low : (v : Read) → Contains values v → (y : tree.Variable ℕ) → Contains (variables v) y → y.name < length cells
  values_low v m y i = known_there cells s.variables cells_are y (contains_holds (map in_terms s.variables) y (values_known v m y i))

  typed_there : AreTyped sg equations
  typed_there = there.typed_there D s is atom atom_is c defining one_predicate ns types cells cells_are us for without head

  known_there_is : AreKnown (cells ++ own_cells) zs
  known_there_is = there.known_flexible D s is atom atom_is c defining one_predicate ns types cells cells_are us for without head

  over_there : AreOver (cells ++ own_cells) equations
  over_there = there.over_there D s is atom atom_is c defining one_predicate ns types cells cells_are us for without head

  cells_there : AllHoldCells (cells ++ own_cells) equations
  cells_there = there.cells_there D s is atom atom_is c defining one_predicate ns types cells cells_are us for without head

  flexible_cells : (y : tree.Variable ℕ) → holds zs y ≡ true → IsCell (cells ++ own_cells) y
  flexible_cells = there.flexible_cells D s is atom atom_is c defining one_predicate ns types cells cells_are us for without head

  is_unifier : IsUnifier sg zs equations unifier
  is_unifier = there.is_unifier D s is atom atom_is c defining one_predicate ns types cells cells_are us for without head

  module _ (p : Substitution ℕ (List ℕ)) (solves : Solves (codes "x") (given equations (cells ++ own_cells) zs) (unified (cells ++ own_cells) p)) where
    abbrev after : List (Cell (List ℕ))
    after = cells ++ own_cells

    abbrev left_open : List Variable
    left_open = opens.left_open sg cells own_cells equations values values_typed values_low typed_there known_there_is over_there cells_there flexible_cells is_unifier p solves

    abbrev terms : List Read
    terms = opens.terms sg cells own_cells equations values values_typed values_low typed_there known_there_is over_there cells_there flexible_cells is_unifier p solves

    made_so : made cells after p ≡ left_open
    made_so = opens.made_so sg cells own_cells equations values values_typed values_low typed_there known_there_is over_there cells_there flexible_cells is_unifier p solves

    terms_in : (t : Read) → Contains terms t → Contains values t
    terms_in = opens.terms_in sg cells own_cells equations values values_typed values_low typed_there known_there_is over_there cells_there flexible_cells is_unifier p solves

    open_typed : Each (λ (y : Variable) t. HasType sg [] t y.type) left_open terms
    open_typed = opens.open_typed sg cells own_cells equations values values_typed values_low typed_there known_there_is over_there cells_there flexible_cells is_unifier p solves

    still_one : HasOneTypeEach (goal_names s ++ (ns ++ names_of terms))
    still_one a b m l e =
        let wider = kept_behind (goal_names s) (ns ++ names_of terms) (ns ++ names_of us) (kept_behind ns (names_of terms) (names_of us) (names_from values us values_names terms terms_in)) in
        one_type a b (wider a m) (wider b l) e

    -- THE BODY
    bare_formula : IsFormula sg bare_body
    bare_formula = image_formula sg put (there.put_is_typed D s is atom atom_is c defining one_predicate ns types cells cells_are us for without head) c.body defining.body

    is_formula : IsFormula sg body
    is_formula = marked_formula sg atom.block.predicates (mark_above atom.sign) bare_body bare_formula

    body_cells : (y : tree.Variable ℕ) → Contains (variables body) y → IsCell (cells ++ own_cells) y
    body_cells y m = flexible_cells y (there.body_own D s is atom atom_is c defining one_predicate ns types cells cells_are us for without head y (subst (λ l. Contains l y) (marked_variables atom.block.predicates (mark_above atom.sign) bare_body) m))

    body_solved : EqualPastHints (one_by_one same_number (put_together (map in_terms left_open) terms) (image same_number p body)) (marked_in atom.block.predicates (mark_above atom.sign) (image same_number (filled x c us ns) c.body))
    body_solved =
        opens.body_opens sg cells own_cells equations values values_typed values_low typed_there known_there_is over_there cells_there flexible_cells is_unifier p solves body is_formula.typed body_cells
        ∙ image_plain unifier body
        ∙ makes_marked (plain unifier) atom.block.predicates (mark_above atom.sign) bare_body (image same_number (filled x c us ns) c.body) bare_formula.stands (sym (image_plain unifier bare_body) ∙ there.body_same D s is atom atom_is c defining one_predicate ns types cells cells_are us for without head)

    -- IT IS SOLVED
    pub is_solved : (F : Read) → EqualPastHints (marked_in atom.block.predicates (mark_above atom.sign) (image same_number (filled x c us ns) c.body)) F → IsSolved D s atom k cells F
    is_solved F e = record {
      more = after;
      answer = p;
      solved = subst (λ (z : List (Cell (List ℕ))). Solves (codes "x") (given equations (cells ++ z) zs) (unified after p)) (sym (drop-append_seam cells own_cells)) solves;
      terms = terms;
      typed = subst (λ l. Each (λ (y : Variable) t. HasType sg [] t y.type) l terms) (sym made_so) open_typed;
      known = All-from_contains (HoldsOnly (map in_terms s.variables)) terms (λ t m. All-from_contains (Contains (map in_terms s.variables)) (variables t) (values_known t (terms_in t m)));
      without = All-from_contains (HoldsNone sg ns) terms (λ t m. values_without t (terms_in t m));
      one_type = still_one;
      body = ap (λ l. forget (one_by_one same_number (put_together (map in_terms l) terms) (image same_number p body))) made_so ∙ body_solved ∙ e;
    }
