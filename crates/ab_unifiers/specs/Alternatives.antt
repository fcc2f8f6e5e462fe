-- The alternatives of a defined atom: each says what must be equal for the atom to be an instance of a clause.
use Rattle.std.specs.Prelude.{ℕ, suc, List, [], ◌∷◌, ◌++◌, map, length, cond, bytes_eq}
use Rattle.ab_term.specs.Terms.{Nominal, Variable, constant, Term, spine, Terms, no_terms, term}
use Rattle.ab_term.specs.Names.{support_of_all}
use Rattle.ab_term.specs.Variables.{Substitution, image, image_all}
use Rattle.ab_term.specs.Sameness.{same_number}
use Rattle.ab_term.specs.Abstraction.{over, given_names}
use Rattle.ab_unifiers.specs.Replacements.{Cell, hint_of}
use Rattle.ab_unifiers.specs.Unification.{Equation}
use Rattle.ab_unifiers.specs.Clauses.{Clause, numbered, put_together, filled}
use Rattle.ab_unifiers.specs.Choices.{in_order, outside, choices, for_each}

-- what is known of the sequent: all cells by number, its variables in order of age, the constants that it holds
pub record Scope (Hint : Type 0) : Type 0 where
  pub cells : List (Cell Hint)
  pub variables : List (Variable ℕ)
  pub constants : List Nominal

-- A problem for unification, and what follows once it is solved.
pub record Alternative (Hint : Type 0) : Type 0 where
  -- the constants that were chosen, and which of them are new
  pub chosen : List Nominal
  pub fresh : List Nominal
  -- what each variable of the sequent becomes
  pub raised : Substitution ℕ Hint
  -- all cells, the new ones at the end; and what may be replaced, in order of age
  pub cells : List (Cell Hint)
  pub flexible : List (Variable ℕ)
  pub equations : List (Equation Hint)
  pub body : Term ℕ Hint

-- a hypothesis is analysed, or a conclusion unfolded
pub data Side : Type 0 where
  on_left on_right : Side

module _ {Hint : Type 0} (x : Hint) where
  abbrev pub cells_over : List Nominal → List (Cell Hint) → List (Cell Hint)
  cells_over ns cs = map (λ c. record { hint = c.hint; type = over ns c.type }) cs

  -- new variables over the constants, numbered from there on, one for each cell
  abbrev pub made_over : ℕ → List Nominal → List (Cell Hint) → List (Variable ℕ)
  made_over n ns cs = numbered n (cells_over ns cs)

  -- each of them, given the constants, as a term of the cell's type
  abbrev pub made_terms : ℕ → List Nominal → List (Cell Hint) → List (Term ℕ Hint)
  made_terms n ns [] = []
  made_terms n ns (c ∷ cs) = given_names x (record { name = n; type = over ns c.type }) ns c.type ∷ made_terms (suc n) ns cs

  -- the arguments, one against one, numbered
  abbrev pub arguments_equal : ℕ → Terms ℕ Hint → Terms ℕ Hint → List (Equation Hint)
  arguments_equal p no_terms us = []
  arguments_equal p (term t ts) no_terms = []
  arguments_equal p (term t ts) (term u us) = record { place = p; left = t; right = u } ∷ arguments_equal (suc p) ts us

  -- the cells of the variables
  abbrev pub cells_of : List (Cell Hint) → List (Variable ℕ) → List (Cell Hint)
  cells_of cells ys = map (λ y. record { hint = hint_of x cells y; type = y.type }) ys

  -- ONE ALTERNATIVE, by the constants that are chosen for the names. The clause's variables become new ones, over
  -- those constants of the atom that weren't chosen.
  module _ (sequent : Scope Hint) (arguments : Terms ℕ Hint) (c : Clause Hint) (ns : List Nominal) where
    -- the atom's constants, and those that weren't chosen
    abbrev pub atom_constants : List Nominal
    atom_constants = in_order (support_of_all arguments)

    abbrev pub unchosen : List Nominal
    unchosen = outside atom_constants ns

    abbrev pub alternative_with : List Nominal → List (Cell Hint) → List (Variable ℕ) → Substitution ℕ Hint → Alternative Hint
    alternative_with fresh cells old raised =
        let put = filled x c (made_terms (length cells) unchosen c.variables) ns in
        record {
          chosen = ns;
          fresh = fresh;
          raised = raised;
          cells = cells ++ cells_over unchosen c.variables;
          flexible = old ++ made_over (length cells) unchosen c.variables;
          equations = arguments_equal 0 (image_all same_number raised arguments) (image_all same_number put c.arguments);
          body = image same_number put c.body;
        }

    -- on the right the sequent's variables stay, and may not be replaced
    abbrev pub unfolded : Alternative Hint
    unfolded = alternative_with (outside ns atom_constants) sequent.cells [] []

    -- On the left, where new constants were chosen, each variable of the sequent becomes a new one of its hint, applied
    -- to them, and then to what it was applied to.
    abbrev pub analysed : List Nominal → Alternative Hint
    analysed [] = alternative_with [] sequent.cells sequent.variables []
    analysed (a ∷ bs) =
        let old = cells_of sequent.cells sequent.variables in
        let raised_cells = cells_over (a ∷ bs) old in
        alternative_with (a ∷ bs) (sequent.cells ++ raised_cells) (numbered (length sequent.cells) raised_cells)
        (put_together sequent.variables (made_terms (length sequent.cells) (a ∷ bs) old))

    abbrev pub alternative : Side → Alternative Hint
    alternative on_left = analysed (outside ns atom_constants)
    alternative on_right = unfolded

  -- those of one clause: one for each choice of constants for its names
  abbrev pub clause_alternatives : Side → Scope Hint → List ℕ → Terms ℕ Hint → Clause Hint → List (Alternative Hint)
  clause_alternatives side sequent p ts c = cond (bytes_eq c.predicate p)
      (map (λ ns. alternative sequent ts c ns side) (choices (map (λ z. z.type) c.names) (in_order (support_of_all ts)) sequent.constants)) []

  -- THE ALTERNATIVES of an atom, on the left or on the right: the clauses with its head, in order. There is none for
  -- what isn't an atom.
  abbrev pub alternatives : Side → Scope Hint → List (Clause Hint) → Term ℕ Hint → List (Alternative Hint)
  alternatives side sequent clauses (spine (constant p) ts) = for_each (clause_alternatives side sequent p ts) clauses
  alternatives side sequent clauses _ = []
