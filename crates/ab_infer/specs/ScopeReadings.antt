-- The scopes that the program's stand for.
use Rattle.std.specs.Prelude.{Bool, true, false}
use Rattle.ab_norm.specs.ab_types.specs.Entries.{Table, kinds, signature}
use Rattle.ab_norm.specs.ab_store.specs.Trees.{Contents}
use Rattle.ab_meaning.specs.Scopes as scopes
use Rattle.ab_infer.specs.NameScopes.{entries_in, nominals_in, HoldsCells, HoldsNominals}
use Rattle.ab_infer.specs.declared.scopes.Scope.{Scope}

-- in a proof command nominal names may be used
abbrev pub place_in : Bool → scopes.Place
place_in true = scopes.in_proof
place_in false = scopes.elsewhere

-- THE SCOPE
abbrev pub scope_of : Table → Contents → Scope → scopes.Scope
scope_of types store s = record {
  kinds = kinds types;
  constants = signature types;
  variables = entries_in types store s.variables.items;
  nominals = nominals_in types s.nominals.items;
  place = place_in s.in_proof;
}

-- the cells are the store's, and their types and those of the nominal constants the table's
pub record HoldsScope (types : Table) (store : Contents) (s : Scope) : Type 0 where
  pub cells : HoldsCells types store s.variables.items
  pub nominals : HoldsNominals types s.nominals.items
