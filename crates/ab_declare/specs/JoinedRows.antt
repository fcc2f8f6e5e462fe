-- Head and body as one expression: a constant joins them to a formula. Only private contracts speak of this.
use Rattle.std.specs.Prelude.{◌≡◌, ℕ, ◌+◌, ◌<◌, List, [], length, get_or, Result, Ok, Err}
use Rattle.ab_term.specs.Types.{Ty, arrow, prop}
use Rattle.ab_term.specs.Terms.{Head, nominal, Read}
use Rattle.ab_norm.specs.ab_types.specs.Entries.{Table, signature}
use Rattle.ab_norm.specs.ab_types.specs.declared.ids.TypeId.{TypeId}
use Rattle.ab_norm.specs.ab_store.specs.declared.node.CellId.{CellId}
use Rattle.ab_norm.specs.ab_store.specs.declared.node.TermId.{TermId}
use Rattle.ab_norm.specs.ab_store.specs.Trees.{Contents, HoldsCell, cell_of, Holds, tree_of}
use Rattle.ab_meaning.specs.ResolvedNames.{Name, Resolved, known, apply}
use Rattle.ab_meaning.specs.Scopes.{Found, made_of_both}
use Rattle.ab_typing.specs.declared.definitions.ClauseTerm.{ClauseTerm}
use Rattle.ab_typing.specs.DefinitionReadings.{clause_of}
use Rattle.ab_inference.specs.declared.fault.InferFault.{InferFault}
use Rattle.ab_inference.specs.declared.fault.InferFault.TheVariants.{Unknown, TypeClash, Untyped, Memory}
use Rattle.ab_meaning.specs.ReadingCounts.{IsTheReading}
use Rattle.ab_inference.specs.Sketches.{Sketch, erase, term_of}
use Rattle.ab_inference.specs.Verdicts.{types_found}
use Rattle.ab_inference.specs.declared.assignments.Settled.{Settled}
use Rattle.ab_declare.specs.ClauseReadings.{Parts, HasNoReading, IsFirstOpen}
use Rattle.ab_declare.specs.ClauseMeanings.{IsKeptAs, numbered_names, variable_from}

abbrev pub joiner_type : Ty → Ty → Ty
joiner_type A B = arrow A (arrow B prop)

abbrev pub joiner : Ty → Ty → Head ℕ
joiner A B = nominal (record { number = 0; type = joiner_type A B })

abbrev pub joined : Parts → Ty → Ty → Resolved
joined e A B = apply (apply (known (joiner A B) (joiner_type A B)) e.head) e.body

abbrev pub joined_found : Ty → Ty → Found → Found → Found
joined_found A B f g = made_of_both apply (made_of_both apply (Ok (known (joiner A B) (joiner_type A B))) f) g

abbrev pub cell_at : List CellId → ℕ → CellId
cell_at cells j = get_or cells j (record { 0 = 0 })

-- a cell is new for each of the first names, in order, at the type that is found for it
pub record AreCells (old new : Contents) (names : List Name) (types_at : ℕ → TypeId) (count : ℕ) (cells : List CellId) : Type 0 where
  pub len : length cells ≡ count
  pub number : (j : ℕ) → j < count → (cell_at cells j).0 ≡ length old.cells + j
  pub held : (j : ℕ) → j < count → HoldsCell new (cell_at cells j)
  pub hint : (j : ℕ) → j < count → (cell_of new (cell_at cells j)).hint ≡ get_or names j []
  pub type : (j : ℕ) → j < count → (cell_of new (cell_at cells j)).ty ≡ types_at j

-- what is read of head and body, where the variables are numbered from n on
abbrev pub IsRead : Table → Contents → ℕ → Parts → Ty → Ty → ℕ → Result ClauseTerm InferFault → Type 0
IsRead types store n e A B place (Ok k) = IsKeptAs (signature types) n e A B (clause_of types store k)
IsRead types store n e A B place (Err (Unknown x)) = ⊥
IsRead types store n e A B place (Err (TypeClash p)) = HasNoReading (numbered_names e) e A B × (p ≡ place)
IsRead types store n e A B place (Err (Untyped p)) = IsFirstOpen (numbered_names e) e A B p
IsRead types store n e A B place (Err (Memory m)) = Unit {0}

-- the terms are there, and are these
abbrev pub IsPair : Table → Contents → Read → Read → TermId × TermId → Type 0
IsPair types store t u p = Holds store p.0 × Holds store p.1 × (tree_of types store p.0 ≡ t) × (tree_of types store p.1 ≡ u)

-- with these types the expression has one reading, where the names stand for variables that are numbered from n on
abbrev pub HasReading : Table → ℕ → List Settled → ℕ → List Name → Sketch → Type 0
HasReading types base found n names k = IsTheReading (variable_from n names) (erase k) prop (term_of base (types_found types found) (variable_from n names) k)
