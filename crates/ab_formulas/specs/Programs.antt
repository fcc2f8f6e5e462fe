-- THE PROGRAM: clauses of the specification logic. A clause is kept as clauses of definitions are, with variables and a head,
-- but without names, and with formulas of the specification logic: its body is one goal, or `true` where there is none.
use Rattle.std.specs.Prelude.{◌≡◌, ◌⊎◌, ℕ, List, [], ◌∷◌, map, All}
use Rattle.ab_term.specs.Types.{o}
use Rattle.ab_term.specs.Logical.{truth}
use Rattle.ab_term.specs.Terms.{Terms, constant, logical, spine, no_terms, Read}
use Rattle.ab_term.specs.Typing.{Signature, HasType}
use Rattle.ab_term.specs.Names.{support, support_of_all}
use Rattle.ab_term.specs.Variables.{variables, variables_of_all}
use Rattle.ab_unifiers.specs.Unifiers.{AreDifferent}
use Rattle.ab_unifiers.specs.Clauses.{Clause, head_of, clause_variables, Within}
use Rattle.ab_formulas.specs.Clauses as kept
use Rattle.ab_formulas.specs.CaseClauses.{in_terms}
use Rattle.ab_formulas.specs.Declarations.{Declarations, a_kind, a_constant, a_block, a_program_clause, a_theorem, signature_in}

abbrev pub Program : Type 0
Program = List (Clause (List ℕ))

-- the program's clauses, in order
abbrev pub program_in : Declarations → Program
program_in [] = []
program_in (a_program_clause c ∷ ds) = c ∷ program_in ds
program_in (a_kind k ∷ ds) = program_in ds
program_in (a_constant c A ∷ ds) = program_in ds
program_in (a_block b ∷ ds) = program_in ds
program_in (a_theorem n F js ∷ ds) = program_in ds

-- the goal of a clause, where it has one
abbrev pub goals_in : Read → List Read
goals_in (spine (logical truth) no_terms) = []
goals_in t = t ∷ []

-- a formula of the specification logic, or `true` in its place
abbrev pub IsGoalOrNone : Signature → Read → Type 0
IsGoalOrNone sg t = HasType sg [] t o ⊎ (t ≡ spine (logical truth) no_terms)

-- What is true of every clause of the program: head and goal are formulas of the specification logic, without nominal
-- constants, over the clause's own variables.
pub record IsProgramClause (sg : Signature) (c : Clause (List ℕ)) : Type 0 where
  pub no_names : c.names ≡ []
  pub head : HasType sg [] (head_of c) o
  pub body : IsGoalOrNone sg c.body
  pub head_without_constants : support_of_all c.arguments ≡ []
  pub body_without_constants : support c.body ≡ []
  pub head_variables : Within (variables_of_all c.arguments) (clause_variables c)
  pub body_variables : Within (variables c.body) (clause_variables c)

abbrev pub HavePrograms : Declarations → Type 0
HavePrograms D = All (IsProgramClause (signature_in D)) (program_in D)

-- a constant with what it is given
abbrev pub IsProgramHead : Read → Type 0
IsProgramHead (spine (constant c) ts) = Unit {0}
IsProgramHead _ = ⊥

-- What may be added: different variables; head and body over them, without nominal constants. Whether its head is an atom is
-- looked at then.
pub record IsProgramProposed (sg : Signature) (c : kept.Clause) : Type 0 where
  pub different : AreDifferent (map in_terms c.variables)
  pub head : HasType sg [] c.head o
  pub body : IsGoalOrNone sg c.body
  pub head_without_constants : support c.head ≡ []
  pub body_without_constants : support c.body ≡ []
  pub head_variables : Within (variables c.head) (map in_terms c.variables)
  pub body_variables : Within (variables c.body) (map in_terms c.variables)

-- what is kept
abbrev pub IsProgramKept : Signature → kept.Clause → Type 0
IsProgramKept sg c = IsProgramProposed sg c × IsProgramHead c.head
