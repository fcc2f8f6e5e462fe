-- What the terms of a proof command mean: each is the normal form of the one reading of its expression in the goal.
use Rattle.std.specs.Prelude.{◌≡◌, ◌⊎◌, ℕ, List, [], ◌∷◌, map, Ok, Err, Some, None, Option}
use Rattle.ab_term.specs.Types.{Ty, prop}
use Rattle.ab_term.specs.Terms.{Head, nominal, constant, Read}
use Rattle.ab_grammar.specs.Tree.{Tree, place_of}
use Rattle.ab_formulas.specs.Declarations.{Declarations, a_kind, a_constant, a_block, a_program_clause, a_theorem, signature_in}
use Rattle.ab_formulas.specs.Formulas.{IsFormula}
use Rattle.ab_formulas.specs.Sequents.{Variable, Sequent, goal_names}
use Rattle.ab_meaning.specs.ResolvedNames.{Resolved}
use Rattle.ab_meaning.specs.Scopes.{Entry, Scope, in_proof, nominal_number, resolved}
use Rattle.ab_meaning.specs.Readings.{Making, Raw}
use Rattle.ab_meaning.specs.ReadingCounts.{IsTheReading, HasNoReading, IsFirstOpen}
use Rattle.ab_meaning.specs.Normal.{normal_form}
use Rattle.ab_meaning.specs.Refusals.{Refusal, unknown, type_clash, untyped, clash, no_hypothesis, wrong_shape, mark, no_match, not_pattern, unresolved, names_spent}

abbrev pub kinds_in : Declarations → List (List ℕ)
kinds_in [] = []
kinds_in (a_kind k ∷ ds) = k ∷ kinds_in ds
kinds_in (a_constant c A ∷ ds) = kinds_in ds
kinds_in (a_block b ∷ ds) = kinds_in ds
kinds_in (a_program_clause c ∷ ds) = kinds_in ds
kinds_in (a_theorem n F js ∷ ds) = kinds_in ds

abbrev pub entry_of : Variable → Entry
entry_of x = record { name = x.name; number = x.number; type = x.type }

-- the names that a goal knows
abbrev pub scope_of : Declarations → Sequent → Scope
scope_of D s = record {
  kinds = kinds_in D;
  constants = signature_in D;
  variables = map entry_of s.variables;
  nominals = goal_names s;
  place = in_proof;
}

-- a nominal name whose type the text leaves open stands for the constant of its number
abbrev pub constant_named : List ℕ → Option ℕ → Ty → Head ℕ
constant_named x None A = constant x
constant_named x (Some n) A = nominal (record { number = n; type = A })

abbrev pub made : Making
made x A = constant_named x (nominal_number x) A

-- THE EXPRESSION MEANS THE TERM where these names are known, at the type
pub record MeansIn (D : Declarations) (scope : Scope) (e : Tree) (A : Ty) (t : Read) : Type 0 where
  pub named : Resolved
  pub names : resolved scope [] e ≡ Ok named
  pub raw : Raw
  pub reading : IsTheReading made named A raw
  pub normal : t ≡ normal_form (signature_in D) [] raw

-- its names are resolved so, and of that something is said
abbrev pub Resolves : Scope → Tree → (Resolved → Type 0) → Type 0
Resolves scope e P = (r : Resolved) × (resolved scope [] e ≡ Ok r) × P r

-- IT MEANS NOTHING there, for this cause: a name that stands for nothing, no reading, or several
abbrev pub MeansNothingIn : Scope → Tree → Ty → Refusal → Type 0
MeansNothingIn scope e A (unknown x) = resolved scope [] e ≡ Err x
MeansNothingIn scope e A (type_clash p) = Resolves scope e (λ r. HasNoReading made r A) × (p ≡ place_of e)
MeansNothingIn scope e A (untyped p) = Resolves scope e (λ r. IsFirstOpen made r A p)
MeansNothingIn scope e A (clash x) = ⊥
MeansNothingIn scope e A (no_hypothesis x) = ⊥
MeansNothingIn scope e A wrong_shape = ⊥
MeansNothingIn scope e A mark = ⊥
MeansNothingIn scope e A no_match = ⊥
MeansNothingIn scope e A (not_pattern i) = ⊥
MeansNothingIn scope e A (unresolved x) = ⊥
MeansNothingIn scope e A names_spent = ⊥

-- the same in a goal
abbrev pub Means : Declarations → Sequent → Tree → Ty → Read → Type 0
Means D s = MeansIn D (scope_of D s)

abbrev pub MeansNothing : Declarations → Sequent → Tree → Ty → Refusal → Type 0
MeansNothing D s = MeansNothingIn (scope_of D s)

-- THE EXPRESSION STATES THE FORMULA in the goal
abbrev pub Asserts : Declarations → Sequent → Tree → Read → Type 0
Asserts D s e F = Means D s e prop F × IsFormula (signature_in D) F

-- it states none, for this cause: it means nothing at the type of formulas, or a term that is no formula, since a
-- variable of the goal that stands for formulas itself is one in it
abbrev pub AssertsNothing : Declarations → Sequent → Tree → Refusal → Type 0
AssertsNothing D s e f =
    MeansNothing D s e prop f
    ⊎ ((F : Read) × Means D s e prop F × (¬ IsFormula (signature_in D) F) × (f ≡ type_clash (place_of e)))
