-- The scope of a goal, as elaboration is given it.
use Rattle.std.specs.Prelude.{◌≡◌, ◌↔◌, ◌++◌, true, List, map, All, Contains}
use Rattle.ab_term.specs.Terms as tree
use Rattle.ab_term.specs.Names.{IsSupport}
use Rattle.ab_norm.specs.Nominals.{nominal_of, HoldsNominal}
use Rattle.ab_norm.specs.declared.nominal.Nominal.{Nominal}
use Rattle.ab_term.specs.Terms.{Read}
use Rattle.ab_logic.specs.declared.sequent.Sequent.{Sequent}
use Rattle.ab_logic.specs.declared.world.World.{World}
use Rattle.ab_infer.specs.ScopeReadings.{HoldsScope}
use Rattle.ab_infer.specs.declared.scopes.Scope.{Scope}

-- the same constants stand in both lists, once or more often
abbrev pub HaveSame : List tree.Nominal → List tree.Nominal → Type 0
HaveSame xs ys = (a : tree.Nominal) → Contains xs a ↔ Contains ys a

-- the constants of the term stand behind the others
pub record AddsSupport (w : World) (t : Read) (old new : List Nominal) : Type 0 where
  pub names : List Nominal
  pub added : new ≡ old ++ names
  pub support : IsSupport t (map (nominal_of w.types) names)
  pub held : All (HoldsNominal w.types) names

-- the goal's variables and these constants, in a proof command
pub record IsScopeOf (w : World) (s : Sequent) (names : List tree.Nominal) (scope : Scope) : Type 0 where
  pub variables : scope.variables.items ≡ s.variables
  pub nominals : HaveSame names (map (nominal_of w.types) scope.nominals.items)
  pub in_proof : scope.in_proof ≡ true
  pub held : HoldsScope w.types w.store scope
