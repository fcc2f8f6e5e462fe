-- What is read of an expression whose names are resolved, where a free name is a nominal constant: exactly one of these is
-- right.
use Rattle.std.specs.Prelude.{◌≡◌, ℕ, ◌<◌, List, [], length, get_or, unwrap_or, None}
use Rattle.ab_term.specs.Types.{Ty}
use Rattle.ab_term.specs.Terms.{Head, nominal, variable}
use Rattle.ab_norm.specs.ab_types.specs.Entries.{Table, signature}
use Rattle.ab_norm.specs.ab_store.specs.declared.node.TermId.{TermId}
use Rattle.ab_norm.specs.ab_store.specs.Trees.{Contents, tree_of}
use Rattle.ab_norm.specs.ab_store.specs.Reading.{bound_in}
use Rattle.ab_norm.specs.ab_store.specs.Naming.{IsTerm}
use Rattle.ab_meaning.specs.ResolvedNames.{Name, Resolved}
use Rattle.ab_meaning.specs.Scopes.{nominal_number}
use Rattle.ab_meaning.specs.Readings.{Raw, Making}
use Rattle.ab_meaning.specs.ReadingCounts.{IsTheReading, HasNoReading, IsFirstOpen}
use Rattle.ab_meaning.specs.Normal.{normal_form}
use Rattle.ab_infer.specs.declared.readings.Outcome.{Outcome}
use Rattle.ab_infer.specs.declared.readings.Outcome.TheVariants.{One, Nothing, Open}

-- the number of a nominal name
abbrev pub number_of : Name → ℕ
number_of x = unwrap_or (nominal_number x) 0

-- a nominal name stands for the constant of its number, at its type
abbrev pub nominal_of : Making
nominal_of x A = nominal (record { number = number_of x; type = A })

-- these are the names' numbers
pub record AreNumbers (names : List Name) (numbers : List ℕ) : Type 0 where
  pub len : length numbers ≡ length names
  pub at : (j : ℕ) → j < length names → get_or numbers j 0 ≡ number_of (get_or names j [])

-- the term is the normal form of the one reading
pub record IsNormal (types : Table) (store : Contents) (e : Resolved) (A : Ty) (t : TermId) : Type 0 where
  pub reading : Raw
  pub one : IsTheReading nominal_of e A reading
  pub is : tree_of types store t ≡ normal_form (signature types) [] reading
  pub term : IsTerm types store [] t A

abbrev pub IsOutcome : Table → Contents → Resolved → Ty → Outcome → Type 0
IsOutcome types store e A (One t) = IsNormal types store e A t
IsOutcome types store e A Nothing = HasNoReading nominal_of e A
IsOutcome types store e A (Open p) = IsFirstOpen nominal_of e A p

-- the head is no bound cell
abbrev pub IsUnboundHead : Contents → Head ℕ → Type 0
IsUnboundHead store (variable x) = bound_in store.bindings (record { 0 = x.name }) ≡ None
IsUnboundHead store _ = Unit {0}
