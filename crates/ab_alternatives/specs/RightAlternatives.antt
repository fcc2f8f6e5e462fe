-- What is made where a conclusion is unfolded, on shared terms.
use Rattle.std.specs.Prelude.{◌≡◌, ℕ, zero, ◌-◌, List, [], ◌∷◌, ◌++◌, length, take, All, codes}
use Rattle.ab_term.specs.Types.{prop}
use Rattle.ab_term.specs.Logical.{nabla}
use Rattle.ab_term.specs.Terms.{Nominal, Terms, nominal, logical, lam, spine, no_terms, term, Read}
use Rattle.ab_term.specs.Abstraction.{close}
use Rattle.ab_term.specs.Variables.{Substitution, image, image_all}
use Rattle.ab_term.specs.Sameness.{same_number}
use Rattle.ab_norm.specs.ab_types.specs.Entries.{Table}
use Rattle.ab_norm.specs.ab_store.specs.declared.node.TermId.{TermId}
use Rattle.ab_norm.specs.ab_store.specs.Naming.{IsTerm}
use Rattle.ab_norm.specs.ab_store.specs.Trees.{Contents, tree_of}
use Rattle.ab_unifiers.specs.Replacements.{Cell}
use Rattle.ab_unifiers.specs.Unification.{unified, Solves}
use Rattle.ab_unify.specs.UnifyAnswers.{IsTypedPair}
use Rattle.ab_unifiers.specs.Clauses.{filled}
use Rattle.ab_unifiers.specs.Alternatives.{cells_over, made_over, made_terms, arguments_equal}
use Rattle.ab_unify.specs.Problem.{cells_read, variables_read, problem}
use Rattle.ab_formulas.specs.Marks.{Sign}
use Rattle.ab_formulas.specs.Sequents.{Variable, Sequent, proving}
use Rattle.ab_formulas.specs.BodyMarks.{mark_above, marked_in}
use Rattle.ab_theory.specs.Equations.{made}
use Rattle.ab_theory.specs.Atoms.{Defined, Choice}
use Rattle.ab_alternatives.specs.LeftAlternatives.{unchosen_in, trees_from}
use Rattle.ab_theory.specs.Splits.{problem_of}
use Rattle.ab_theory.specs.Unfolding.{unfolding_case, exists_all, unfolded}
use Rattle.ab_alternatives.specs.declared.clause_bodies.Unfolding.{Unfolding}

-- `nabla` over the constants, whose binders have these hints
abbrev pub nabla_by : List (List ℕ) → List Nominal → Read → Read
nabla_by [] ns F = F
nabla_by (x ∷ xs) [] F = F
nabla_by (x ∷ xs) (a ∷ ns) F = spine (logical (nabla a.type)) (term (lam a.type x (close zero (nominal a) (nabla_by xs ns F))) no_terms)

-- the formula closed over the variables, and over the constants inside, where there are such variables
abbrev pub closed_by : List Variable → List (List ℕ) → List Nominal → Read → Read
closed_by [] xs ns F = F
closed_by (y ∷ ys) xs ns F = exists_all (y ∷ ys) (nabla_by xs ns F)

-- what is put in for the clause's variables and names, where there are so many cells
abbrev pub put_into : ℕ → Terms ℕ (List ℕ) → Choice → Substitution ℕ (List ℕ)
put_into n ts c = filled (codes "x") c.clause (made_terms (codes "x") n (unchosen_in ts c) c.clause.variables) c.names

-- AN UNFOLDING IS MADE, of an atom with these arguments, and a choice
pub record IsOpened (types : Table) (store : Contents) (predicates : List (List ℕ)) (sign : Sign) (ts : Terms ℕ (List ℕ)) (c : Choice) (more : Table) (now : Contents) (made : Unfolding) : Type 0 where
  pub cells : cells_read more now ≡ cells_read types store ++ cells_over (codes "x") (unchosen_in ts c) c.clause.variables
  pub own : variables_read more now made.own.items ≡ made_over (codes "x") (length store.cells) (unchosen_in ts c) c.clause.variables
  pub equations : trees_from more now 0 made.equations.items
      ≡ arguments_equal (codes "x") 0 ts (image_all same_number (put_into (length store.cells) ts c) c.clause.arguments)
  pub typed : All (IsTypedPair more now) made.equations.items
  pub body : tree_of more now made.body ≡ marked_in predicates (mark_above sign) (image same_number (put_into (length store.cells) ts c) c.clause.body)
  pub term : IsTerm more now [] made.body prop

-- THE UNFOLDING IS SOLVED, and this is its body then, closed over what is left open. Its own cells are the last ones.
abbrev pub Becomes : Table → Contents → Unfolding → List (List ℕ) → List Nominal → Table → Contents → TermId → Type 0
Becomes types store u xs ns now_types now r =
    (more : List (Cell (List ℕ))) × (answer : Substitution ℕ (List ℕ)) × Solves (codes "x") (problem types store u.equations.items u.own.items) (unified more answer)
    × (tree_of now_types now r ≡ closed_by (made (take (length store.cells - length u.own.items) (cells_read types store)) more answer) xs ns (image same_number answer (tree_of types store u.body)))

-- THE CONCLUSION OF THE GOAL IS UNFOLDED by the choice, and this is the conclusion then
abbrev pub Unfolds : List (Cell (List ℕ)) → Sequent → Defined → Choice → Table → Contents → TermId → Type 0
Unfolds cells s d c now_types now r =
    (more : List (Cell (List ℕ))) × (answer : Substitution ℕ (List ℕ)) × Solves (codes "x") (problem_of (unfolding_case cells s d c)) (unified more answer)
    × (tree_of now_types now r ≡ unfolded (unfolding_case cells s d c) c more answer)

-- the goal then
abbrev pub IsUnfolded : List (Cell (List ℕ)) → Sequent → Defined → Choice → Sequent → Type 0
IsUnfolded cells s d c g =
    (more : List (Cell (List ℕ))) × (answer : Substitution ℕ (List ℕ)) × Solves (codes "x") (problem_of (unfolding_case cells s d c)) (unified more answer)
    × (g ≡ proving (unfolded (unfolding_case cells s d c) c more answer) s)
