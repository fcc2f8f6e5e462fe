-- What the commands outside a proof declare or ask for, and when they don't. Kinds, constants and theorems are three
-- spaces of names. A command is refused for its names before it is for its types, in the order of its text.
use Rattle.std.specs.Prelude.{◌≡◌, ℕ, List, [], ◌∷◌, map, Bool, Option, Some, None, Ok, Err, if◌then◌else◌, bytes_eq}
use Rattle.std.specs.List.{list_any}
use Rattle.ab_term.specs.Types.{Ty, prop}
use Rattle.ab_grammar.specs.Tree as tree
use Rattle.ab_grammar.specs.Tree.{Tree}
use Rattle.ab_grammar.specs.CommandTrees.{Command, Defined, Clause, kinds, constants, define, theorem, show}
use Rattle.ab_meaning.specs.Types.{IsDeclarable, written_type, type_place}
use Rattle.ab_meaning.specs.Scopes.{Scope, elsewhere}
use Rattle.ab_term.specs.Terms.{Read}
use Rattle.ab_formulas.specs.Declarations.{Declarations, a_kind, a_constant, signature_in, constant_names, theorem_in}
use Rattle.ab_meaning.specs.Terms.{kinds_in, MeansIn, MeansNothingIn}
use Rattle.ab_meaning.specs.Refusals as row
use Rattle.ab_declare.specs.declared.refusal.Refusal.{Refusal}
use Rattle.ab_declare.specs.declared.refusal.Refusal.TheVariants.{Unknown, Clash, TypeClash}
use Rattle.ab_declare.specs.Refusals.{here, refusal_for}
use Rattle.ab_declare.specs.DefinitionCommands.{Defines, DefinesNothing}

-- the first of the names that is in use, or stands among those before it
abbrev pub first_taken : List (List ℕ) → List (List ℕ) → Option (List ℕ)
first_taken used [] = None
first_taken used (x ∷ xs) = if list_any (bytes_eq x) used then Some x else first_taken (x ∷ used) xs

-- what a statement may name: what is declared, and what it binds itself
abbrev pub scope_of : Declarations → Scope
scope_of D = record { kinds = kinds_in D; constants = signature_in D; variables = []; nominals = []; place = elsewhere }

-- THE EXPRESSION STATES THE FORMULA
abbrev pub States : Declarations → Tree → Read → Type 0
States D e F = MeansIn D (scope_of D) e prop F

-- THE COMMAND DECLARES THESE
pub data Declares (D : Declarations) : Command → Declarations → Type 0 where
  -- kinds whose names are new
  new_kinds : {xs : List (List ℕ)} → first_taken (kinds_in D) xs ≡ None → Declares D (kinds xs) (map a_kind xs)
  -- constants whose names are new, of a type of declared kinds, in which `prop` stands at most as the result
  new_constants : {xs : List (List ℕ)} {w : tree.Ty} {A : Ty} → first_taken (constant_names D) xs ≡ None → written_type (kinds_in D) w ≡ Ok A → IsDeclarable A
      → Declares D (constants xs w) (map (λ x. a_constant x A) xs)
  -- predicates, with the block of their clauses
  new_predicates : {inductive : Bool} {ds : List Defined} {cs : List Clause} {more : Declarations} → Defines D inductive ds cs more → Declares D (define inductive ds cs) more

-- THE COMMAND IS REFUSED, by the first of its conditions that fails
pub data Declines (D : Declarations) : Command → Refusal → Type 0 where
  kind_taken : {xs : List (List ℕ)} {x : List ℕ} → first_taken (kinds_in D) xs ≡ Some x → Declines D (kinds xs) (Clash x None)
  constant_taken : {xs : List (List ℕ)} {w : tree.Ty} {x : List ℕ} → first_taken (constant_names D) xs ≡ Some x → Declines D (constants xs w) (Clash x None)
  -- a name in the type is no kind
  type_unknown : {xs : List (List ℕ)} {w : tree.Ty} {x : List ℕ} → first_taken (constant_names D) xs ≡ None → written_type (kinds_in D) w ≡ Err x
      → Declines D (constants xs w) (Unknown x None)
  -- `prop` stands in an argument
  type_unfit : {xs : List (List ℕ)} {w : tree.Ty} {A : Ty} → first_taken (constant_names D) xs ≡ None → written_type (kinds_in D) w ≡ Ok A → ¬ IsDeclarable A
      → Declines D (constants xs w) (TypeClash (here (type_place w)))
  -- the predicates or their clauses have a fault
  defines_nothing : {inductive : Bool} {ds : List Defined} {cs : List Clause} {r : Refusal} → DefinesNothing D inductive ds cs r → Declines D (define inductive ds cs) r
  theorem_taken : {x : List ℕ} {e : Tree} {F : Read} → theorem_in D x ≡ Some F → Declines D (theorem x e) (Clash x None)
  -- a name of the expression stands for nothing, or it has no reading as a formula, or several
  states_nothing : {x : List ℕ} {e : Tree} (f : row.Refusal) → theorem_in D x ≡ None → MeansNothingIn (scope_of D) e prop f
      → Declines D (theorem x e) (refusal_for f)
  no_theorem : {x : List ℕ} → theorem_in D x ≡ None → Declines D (show x) (Unknown x None)
