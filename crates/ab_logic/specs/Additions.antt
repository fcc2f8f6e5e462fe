-- How what was added to a world is kept.
use Rattle.std.specs.Prelude.{◌≡◌, ℕ, suc, ◌-◌, ◌==◌, Bool, List, [], ◌∷◌, length, take, Option, Some, None, if◌then◌else◌, bytes_eq, slice_get}
use Rattle.std.specs.Option.{option_and_then, option_map_or}
use Rattle.std.specs.List.{list_any}
use Rattle.std.specs.HashMap.{HashMap, get}
use Rattle.std.specs.declared.alloc.Global.{Global}
use Rattle.std.specs.declared.vec.Vec.{Vec}
use Rattle.ab_store.specs.ab_types.specs.declared.ids.ConstId.{ConstId}
use Rattle.ab_typing.specs.declared.definitions.Block.{Block}
use Rattle.ab_typing.specs.declared.definitions.ClauseTerm.{ClauseTerm}
use Rattle.ab_logic.specs.declared.additions.TheoremEntry.{TheoremEntry}
use Rattle.ab_logic.specs.declared.additions.Addition.{Addition}
use Rattle.ab_logic.specs.declared.additions.Addition.TheVariants.{Theorem, Definition, Clause}
use Rattle.ab_logic.specs.declared.additions.Added.{Added}
use Rattle.ab_logic.specs.declared.world.DefineFault.{DefineFault}
use Rattle.ab_logic.specs.declared.world.DefineFault.TheVariants.{Memory}

-- the theorem of that name, or else the rest
abbrev pub entry_or : Addition → List ℕ → Option TheoremEntry → Option TheoremEntry
entry_or (Theorem e) name rest = if bytes_eq name e.name then Some e else rest
entry_or (Definition b) name rest = rest
entry_or (Clause c h) name rest = rest

-- the theorem of that name
abbrev pub entry_in : List Added → List ℕ → Option TheoremEntry
entry_in [] name = None
entry_in (a ∷ xs) name = entry_or a.what name (entry_in xs name)

-- the places that the theorem assumes, if there is one
abbrev pub places_in : Option TheoremEntry → List ℕ
places_in None = []
places_in (Some e) = e.assumed

abbrev pub entries_with : Addition → List TheoremEntry → List TheoremEntry
entries_with (Theorem e) rest = e ∷ rest
entries_with (Definition b) rest = rest
entries_with (Clause c h) rest = rest

-- the theorems, in order
abbrev pub entries_of : List Added → List TheoremEntry
entries_of [] = []
entries_of (a ∷ xs) = entries_with a.what (entries_of xs)

abbrev pub same_constant : ConstId → ConstId → Bool
same_constant p q = p.0 == q.0

-- the constant is one of these
abbrev pub is_among : List ConstId → ConstId → Bool
is_among ps p = list_any (λ q. same_constant q p) ps

-- the definition, if it is one of the predicate, or else the rest
abbrev pub block_or : Addition → ConstId → Option Block → Option Block
block_or (Theorem e) p rest = rest
block_or (Clause c h) p rest = rest
block_or (Definition b) p rest = if is_among b.predicates p then Some b else rest

-- the definition of the predicate
abbrev pub block_kept : List Added → ConstId → Option Block
block_kept [] p = None
block_kept (a ∷ xs) p = block_or a.what p (block_kept xs p)

abbrev pub as_theorem : Addition → Option TheoremEntry
as_theorem (Theorem e) = Some e
as_theorem (Definition b) = None
as_theorem (Clause c h) = None

abbrev pub as_clause : Addition → Option ClauseTerm
as_clause (Theorem e) = None
as_clause (Definition b) = None
as_clause (Clause c h) = Some c

abbrev pub as_block : Addition → ConstId → Option Block
as_block a p = block_or a p None

-- the theorem at a place, if one stands there
abbrev pub theorem_at_place : List Added → ℕ → Option TheoremEntry
theorem_at_place xs place = option_and_then (λ a. as_theorem a.what) (slice_get xs place)

-- the clause of the program at a place, if one stands there
abbrev pub clause_at_place : List Added → ℕ → Option ClauseTerm
clause_at_place xs place = option_and_then (λ a. as_clause a.what) (slice_get xs place)

-- the definition at a place, if one of the predicate stands there
abbrev pub block_at_place : List Added → ConstId → ℕ → Option Block
block_at_place xs p place = option_and_then (λ a. as_block a.what p) (slice_get xs place)

abbrev pub places_with : Addition → ℕ → List (List ℕ × ℕ) → List (List ℕ × ℕ)
places_with (Theorem e) place rest = (e.name, place) ∷ rest
places_with (Definition b) place rest = rest
places_with (Clause c h) place rest = rest

-- the names of theorems, each with its place, where the list begins at the first place
abbrev pub places_from : ℕ → List Added → List (List ℕ × ℕ)
places_from place [] = []
places_from place (a ∷ xs) = places_with a.what place (places_from (suc place) xs)

-- the place of the predicate's definition, where the list begins at the first place
abbrev pub place_or : Addition → ConstId → ℕ → Option ℕ → Option ℕ
place_or (Theorem e) p place rest = rest
place_or (Definition b) p place rest = if is_among b.predicates p then Some place else rest
place_or (Clause c h) p place rest = rest

abbrev pub block_place : ℕ → List Added → ConstId → Option ℕ
block_place place [] p = None
block_place place (a ∷ xs) p = place_or a.what p place (block_place (suc place) xs p)

-- a place, if a definition of the predicate stands there
abbrev pub if_there : Option Block → ℕ → Option ℕ
if_there None place = None
if_there (Some b) place = Some place

abbrev pub checked : List Added → ConstId → ℕ → Option ℕ
checked xs p place = if_there (block_at_place xs p place) place

-- the clauses of the program, in order, and their places
abbrev pub clauses_with : Addition → List ClauseTerm → List ClauseTerm
clauses_with (Theorem e) rest = rest
clauses_with (Definition b) rest = rest
clauses_with (Clause c h) rest = c ∷ rest

abbrev pub clauses_kept : List Added → List ClauseTerm
clauses_kept [] = []
clauses_kept (a ∷ xs) = clauses_with a.what (clauses_kept xs)

abbrev pub head_place : Addition → ConstId → ℕ → List ℕ → List ℕ
head_place (Theorem e) p place rest = rest
head_place (Definition b) p place rest = rest
head_place (Clause c h) p place rest = if same_constant h p then (place ∷ rest) else rest

-- the places of the clauses with the constant at their head, where the list begins at the first place
abbrev pub head_places : ℕ → List Added → ConstId → List ℕ
head_places place [] p = []
head_places place (a ∷ xs) p = head_place a.what p place (head_places (suc place) xs p)

-- THE PLACES OF THE CLAUSES of the program with the constant at their head, in order
abbrev pub clause_places : List Added → ConstId → List ℕ
clause_places xs p = head_places 0 xs p

-- the places that are noted for a constant, if any are
abbrev pub places_noted : Option (Vec ℕ Global) → List ℕ
places_noted o = option_map_or (λ v. v.items) o []

abbrev pub noted : {S : Type 0} → HashMap ConstId (Vec ℕ Global) S → ConstId → List ℕ
noted m p = places_noted (get same_constant m p)

-- all places but the last
abbrev pub without_last : List ℕ → List ℕ
without_last places = take (length places - 1) places

-- The places that are noted lead to the theorems, in order, to each predicate's definition, and to the clauses with each
-- constant at their head. A place at which no definition of the predicate stands leads nowhere: such may be left where
-- additions were dropped.
pub record IsFiled (xs : List Added) (by_name : List (List ℕ × ℕ)) (by_predicate : ConstId → Option ℕ) (by_head : ConstId → List ℕ) : Type 0 where
  pub theorems : by_name ≡ places_from 0 xs
  pub definitions : (p : ConstId) → option_and_then (checked xs p) (by_predicate p) ≡ block_place 0 xs p
  pub clauses : (p : ConstId) → by_head p ≡ clause_places xs p

-- the fault is want of memory
abbrev pub IsMemory : DefineFault → Type 0
IsMemory (Memory fault) = Unit {0}
IsMemory _ = ⊥
