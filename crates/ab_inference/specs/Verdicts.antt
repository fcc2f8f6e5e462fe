-- What is found of an expression's readings, from the types at its marks.
use Rattle.std.specs.Prelude.{◌≡◌, ℕ, ◌<◌, ◌≤◌, List, [], length, get_or, map, Bool, true, false}
use Rattle.ab_term.specs.Types.{Ty}
use Rattle.ab_store.specs.ab_types.specs.Entries.{Table}
use Rattle.ab_store.specs.ab_types.specs.Ids.{HoldsType, type_of}
use Rattle.ab_meaning.specs.Types.{PropFree}
use Rattle.ab_meaning.specs.ResolvedNames.{Name}
use Rattle.ab_meaning.specs.Readings.{Making}
use Rattle.ab_meaning.specs.ReadingCounts.{IsTheReading, HasNoReading, IsFirstOpen}
use Rattle.ab_inference.specs.declared.assignments.Settled.{Settled}
use Rattle.ab_inference.specs.Assignments.{settled_at}
use Rattle.ab_inference.specs.declared.op.Mark as declared
use Rattle.ab_inference.specs.declared.op.Mark.TheVariants as mark
use Rattle.ab_inference.specs.declared.decision.Verdict.{Verdict}
use Rattle.ab_inference.specs.declared.decision.Verdict.TheVariants as verdict
use Rattle.ab_inference.specs.Sketches.{Sketch, erase, term_of, Mark, binder_mark, free_mark, variable_of, mark_place}

abbrev pub mark_of : declared.Mark → Mark
mark_of (mark.Binder n p) = binder_mark n p
mark_of (mark.Free j p) = free_mark j p

abbrev pub marks_in : List declared.Mark → List Mark
marks_in = map mark_of

-- no two names are the same
abbrev pub AreApart : List Name → Type 0
AreApart names = (i j : ℕ) → i < length names → j < length names → get_or names i [] ≡ get_or names j [] → i ≡ j

abbrev pub no_mark : declared.Mark
no_mark = mark.Binder 0 0

abbrev pub mark_at : List declared.Mark → ℕ → declared.Mark
mark_at marks i = get_or marks i no_mark

abbrev pub variable_found : ℕ → List declared.Mark → ℕ → ℕ
variable_found base marks i = variable_of base (mark_of (mark_at marks i))

-- the type at a mark, with `o` for what is open, and whether anything is
abbrev pub type_found : Table → ℕ → List Settled → List declared.Mark → ℕ → Ty
type_found types base found marks i = type_of types (settled_at found (variable_found base marks i)).ty

abbrev pub IsOpenAt : ℕ → List Settled → List declared.Mark → ℕ → Bool
IsOpenAt base found marks i = (settled_at found (variable_found base marks i)).is_open

pub record HasPropAt (types : Table) (base : ℕ) (found : List Settled) (marks : List declared.Mark) : Type 0 where
  pub number : ℕ
  pub within : number < length marks
  pub has : PropFree (type_found types base found marks number) → ⊥

pub record IsFirstOpenMark (base : ℕ) (found : List Settled) (marks : List declared.Mark) (place : ℕ) : Type 0 where
  pub number : ℕ
  pub within : number < length marks
  pub place_is : place ≡ mark_place (mark_of (mark_at marks number))
  pub open_there : IsOpenAt base found marks number ≡ true
  pub closed_before : (i : ℕ) → i < number → IsOpenAt base found marks i ≡ false

-- the types that are found at the variables
abbrev pub types_found : Table → List Settled → ℕ → Ty
types_found types found i = type_of types (settled_at found i).ty

-- the list is long enough, and its types are there
abbrev pub AreFound : Table → ℕ → List Settled → Type 0
AreFound types n found = (n ≤ length found) × ((i : ℕ) → i < length found → HoldsType types (settled_at found i).ty)

abbrev pub HasTypesFound : Table → ℕ → Verdict → Type 0
HasTypesFound types n (verdict.One found) = AreFound types n found.items
HasTypesFound types n verdict.Nothing = Unit {0}
HasTypesFound types n (verdict.Open p) = Unit {0}

-- what is true of each verdict: exactly one of them is right
abbrev pub IsVerdict : Table → Making → ℕ → Sketch → Ty → Verdict → Type 0
IsVerdict types made base k A (verdict.One found) = IsTheReading made (erase k) A (term_of base (types_found types found.items) made k)
IsVerdict types made base k A verdict.Nothing = HasNoReading made (erase k) A
IsVerdict types made base k A (verdict.Open p) = IsFirstOpen made (erase k) A p
