-- A scope that knows what is declared alone.
use Rattle.std.specs.Prelude.{◌≡◌, []}
use Rattle.ab_meaning.specs.Scopes.{Scope, elsewhere}

pub record IsClosedScope (s : Scope) : Type 0 where
  pub variables : s.variables ≡ []
  pub place : s.place ≡ elsewhere
