-- The scopes that the program's stand for.
use Rattle.std.specs.Prelude.{ℕ, List, [], ◌∷◌, ◌++◌, map, All}
use Rattle.ab_norm.specs.ab_types.specs.Entries.{Table, kinds, signature}
use Rattle.ab_norm.specs.ab_types.specs.Ids.{HoldsType, type_of}
use Rattle.ab_norm.specs.ab_store.specs.Trees.{Contents, HoldsCell, cell_of}
use Rattle.ab_norm.specs.ab_store.specs.declared.node.CellId.{CellId}
use Rattle.ab_norm.specs.declared.nominal.Nominal as declared
use Rattle.ab_norm.specs.Nominals.{nominal_of, HoldsNominal}
use Rattle.ab_term.specs.Terms.{Nominal}
use Rattle.ab_meaning.specs.ResolvedNames.{Name}
use Rattle.ab_meaning.specs.Scopes as scopes
use Rattle.ab_meaning.specs.Scopes.{Entry}
use Rattle.ab_infer.specs.declared.scope.Bound.{Bound}
use Rattle.ab_infer.specs.declared.scope.Place.{Place}
use Rattle.ab_infer.specs.declared.scope.Place.TheVariants.{Proof, Clause, Elsewhere}
use Rattle.ab_infer.specs.declared.scope.Scope.{Scope}

-- bound names, innermost first
abbrev pub names_in : List Bound → List Name
names_in [] = []
names_in (b ∷ bs) = names_in bs ++ b.name ∷ []

-- their type variables
abbrev pub nodes_in : List Bound → List ℕ
nodes_in [] = []
nodes_in (b ∷ bs) = nodes_in bs ++ b.node ∷ []

abbrev pub place_of : Place → scopes.Place
place_of Proof = scopes.in_proof
place_of Clause = scopes.in_clause
place_of Elsewhere = scopes.elsewhere

module _ (types : Table) where
  abbrev pub entry_of : Contents → CellId → Entry
  entry_of store c = record { name = (cell_of store c).hint; number = c.0; type = type_of types (cell_of store c).ty }

  abbrev pub entries_in : Contents → List CellId → List Entry
  entries_in store = map (entry_of store)

  abbrev pub nominals_in : List declared.Nominal → List Nominal
  nominals_in = map (nominal_of types)

  -- THE SCOPE
  abbrev pub scope_of : Contents → Scope → scopes.Scope
  scope_of store s = record {
    kinds = kinds types;
    constants = signature types;
    variables = entries_in store s.variables.items;
    nominals = nominals_in s.nominals.items;
    place = place_of s.place;
  }

  -- the cells are the store's, and their types the table's
  abbrev pub HoldsCells : Contents → List CellId → Type 0
  HoldsCells store = All (λ c. HoldsCell store c × HoldsType types (cell_of store c).ty)

  abbrev pub HoldsNominals : List declared.Nominal → Type 0
  HoldsNominals = All (HoldsNominal types)

  pub record HoldsScope (store : Contents) (s : Scope) : Type 0 where
    pub cells : HoldsCells store s.variables.items
    pub nominals : HoldsNominals s.nominals.items
