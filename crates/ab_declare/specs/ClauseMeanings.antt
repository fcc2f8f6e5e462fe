-- What a written clause means, in terms of what is declared: the clause of case analysis that it is, or why it is none. A word
-- with a capital first letter that isn't bound is a variable of the clause. Names that are bound in the head, as those of its
-- prefix of `nabla` binders, aren't in scope in the body.
use Rattle.std.specs.Prelude.{◌≡◌, ℕ, zero, suc, ◌+◌, List, [], ◌∷◌, ◌++◌, Bool, true, false, ◌&&◌, not, bytes_eq, if◌then◌else◌, Option, Some, None, Result, Ok, Err}
use Rattle.ab_term.specs.Types.{Ty, prop, same_type}
use Rattle.ab_term.specs.Logical.{truth, nabla}
use Rattle.ab_term.specs.Terms.{Head, logical, variable, lam, spine, Read}
use Rattle.ab_term.specs.Typing.{Signature}
use Rattle.ab_grammar.specs.Tree.{Tree}
use Rattle.ab_grammar.specs.CommandTrees as written
use Rattle.ab_unifiers.specs.Clauses as cases
use Rattle.ab_meaning.specs.ResolvedNames.{Name, known}
use Rattle.ab_meaning.specs.Scopes.{Scope, in_clause, Found, resolved}
use Rattle.ab_meaning.specs.Readings.{Making}
use Rattle.ab_meaning.specs.Normal.{normal_form}
use Rattle.ab_inference.specs.declared.fault.InferFault.{InferFault}
use Rattle.ab_inference.specs.declared.fault.InferFault.TheVariants.{Unknown, TypeClash, Untyped, Memory}
use Rattle.ab_infer.specs.Occurrences.{free_names, with_names}
use Rattle.ab_formulas.specs.Clauses.{ClauseVariable, Clause}
use Rattle.ab_formulas.specs.CaseClauses.{case_of}
use Rattle.ab_declare.specs.KeptClauses.{kept_clause}
use Rattle.ab_declare.specs.ClauseReadings.{Parts, HasOneReading, HasNoReading, IsFirstOpen}

-- THE SCOPE of a clause: what is declared
abbrev pub clause_scope : List Name → Signature → Scope
clause_scope kinds sg = record { kinds = kinds; constants = sg; variables = []; nominals = []; place = in_clause }

-- a clause without a body has the body `true`
abbrev pub body_found : Scope → Option Tree → Found
body_found s None = Ok (known (logical truth) prop)
body_found s (Some b) = resolved s [] b

-- the body is of the head's type where it is written
abbrev pub body_type : Ty → Option Tree → Ty
body_type A None = prop
body_type A (Some b) = A

-- of head and body, what comes first in the text first
abbrev pub both_found : Found → Found → Result Parts Name
both_found (Ok e) (Ok f) = Ok (record { head = e; body = f })
both_found (Ok e) (Err x) = Err x
both_found (Err x) f = Err x

-- THE NAMES of head and body, or the first that stands for nothing
abbrev pub parts_found : List Name → Signature → written.Clause → Result Parts Name
parts_found kinds sg c = let s = clause_scope kinds sg in both_found (resolved s [] c.head) (body_found s c.body)

-- the names of the clause's variables, in the order in which they first stand in the text
abbrev pub variable_names : Parts → List Name
variable_names e = with_names [] (free_names e.head ++ free_names e.body)

abbrev pub place_in : List Name → Name → ℕ
place_in [] x = zero
place_in (y ∷ ys) x = if bytes_eq y x then zero else suc (place_in ys x)

-- a name stands for the variable with its number, where the names are numbered from n on
abbrev pub variable_from : ℕ → List Name → Making
variable_from n names x A = variable (record { name = n + place_in names x; type = A })

abbrev pub variables_from : ℕ → (Name → Ty) → List Name → List ClauseVariable
variables_from n types [] = []
variables_from n types (x ∷ xs) = record { number = n; type = types x; hint = x } ∷ variables_from (suc n) types xs

abbrev pub is_nabla : Head ℕ → Bool
is_nabla (logical (nabla A)) = true
is_nabla _ = false

-- the term stands under a `nabla`
abbrev pub is_under_nabla : Read → Bool
is_under_nabla (lam A x t) = false
is_under_nabla (spine h ts) = is_nabla h

-- whether the variables that stand in the body alone are closed by `exists` there: head and body are formulas, and the head
-- stands under no `nabla`
abbrev pub closes_body : Ty → Read → Bool
closes_body A head = same_type A prop && not (is_under_nabla head)

-- THE CLAUSE AS IT IS KEPT, head and body being of these types, where its variables are numbered from n on: the normal forms
-- of the one reading
pub record IsKeptAs (sg : Signature) (n : ℕ) (e : Parts) (A B : Ty) (k : Clause) : Type 0 where
  pub one : HasOneReading (variable_from n (variable_names e)) e A B
  pub is : k ≡ (let head = normal_form sg [] one.reading.head in
      kept_clause (closes_body A head) (variables_from n one.reading.types (variable_names e)) head (normal_form sg [] one.reading.body))

-- THE CLAUSE MEANS the clause of case analysis, head and body being of the type
pub record ClauseMeans (kinds : List Name) (sg : Signature) (c : written.Clause) (A : Ty) (k : cases.Clause (List ℕ)) : Type 0 where
  pub parts : Parts
  pub names : parts_found kinds sg c ≡ Ok parts
  pub kept : Clause
  pub reads : IsKeptAs sg 0 parts A (body_type A c.body) kept
  pub is : k ≡ case_of kept

-- the names stand for something, and the fact holds of head and body
abbrev pub Finds : List Name → Signature → written.Clause → (Parts → Type 0) → Type 0
Finds kinds sg c P = (e : Parts) × (parts_found kinds sg c ≡ Ok e) × P e

abbrev pub numbered_names : Parts → Making
numbered_names e = variable_from 0 (variable_names e)

-- THE CLAUSE MEANS NOTHING: the first name that stands for nothing; no reading, at the clause's place; or several, at the first
-- name to which two of them give different types. Want of memory alone is free.
abbrev pub ClauseMeansNothing : List Name → Signature → written.Clause → Ty → InferFault → Type 0
ClauseMeansNothing kinds sg c A (Unknown x) = parts_found kinds sg c ≡ Err x
ClauseMeansNothing kinds sg c A (TypeClash p) = Finds kinds sg c (λ e. HasNoReading (numbered_names e) e A (body_type A c.body) × (p ≡ c.place))
ClauseMeansNothing kinds sg c A (Untyped p) = Finds kinds sg c (λ e. IsFirstOpen (numbered_names e) e A (body_type A c.body) p)
ClauseMeansNothing kinds sg c A (Memory m) = Unit {0}
