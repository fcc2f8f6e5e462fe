-- THE LONGEST PREFIX OF A TEXT'S COMMANDS that is kept when they are replayed.
use Rattle.std.specs.Prelude.{◌≡◌, ℕ, Bool, true, false, List, [], ◌∷◌, ◌++◌, map, length}
use Rattle.std.specs.List.{concat}
use Rattle.ab_io.specs.Replays.{Test}
use Rattle.ab_lex.specs.Commands.{Item, command, long, ItemsOf}

-- the end of the last of these commands, which stand one behind another from the text's beginning on
abbrev pub place_of : List (List ℕ) → ℕ
place_of kept = length (concat kept)

-- the text's items are these commands, and then those items
abbrev pub BeginsWith : List ℕ → List (List ℕ) → List Item → Type 0
BeginsWith text kept later = ItemsOf text (map command kept ++ later)

-- THE COMMANDS ARE THE FIRST of the text
abbrev pub IsPrefix : List ℕ → List (List ℕ) → Type 0
IsPrefix text kept = (later : List Item) × BeginsWith text kept later

-- the second list is the first, and perhaps more behind it
abbrev pub IsMore : List (List ℕ) → List (List ℕ) → Type 0
IsMore old new = (more : List (List ℕ)) × (new ≡ old ++ more)

-- where a command comes first of these items, it is told that it isn't kept
abbrev pub IsEnd : Test → List (List ℕ) → List Item → Type 0
IsEnd test kept [] = Unit {0}
IsEnd test kept (long ∷ later) = Unit {0}
IsEnd test kept (command bytes ∷ later) = test kept bytes false

-- THE COMMANDS ARE THE FIRST of the text, and what follows them is nothing, a command that is too long, or one of which it is
-- told that it isn't kept
pub record IsStopped (test : Test) (text : List ℕ) (kept : List (List ℕ)) : Type 0 where
  pub later : List Item
  pub begins : BeginsWith text kept later
  pub end : IsEnd test kept later

-- it is told of each of the commands that it is kept behind those before it
abbrev pub AreKept : Test → List (List ℕ) → Type 0
AreKept test kept = (before behind : List (List ℕ)) (bytes : List ℕ) → kept ≡ before ++ bytes ∷ behind → test before bytes true

-- THE LONGEST PREFIX of the text's commands each of which is kept when they are replayed
pub record IsLongestKept (test : Test) (text : List ℕ) (kept : List (List ℕ)) : Type 0 where
  pub are_kept : AreKept test kept
  pub stopped : IsStopped test text kept

-- it is told whether the command is kept
abbrev pub IsTold : Test → List (List ℕ) → List ℕ → Type 0
IsTold test kept bytes = (answer : Bool) × test kept bytes answer

-- the same of the first of these items, where it is a command
abbrev pub IsNextTold : Test → List (List ℕ) → List Item → Type 0
IsNextTold test kept [] = Unit {0}
IsNextTold test kept (long ∷ later) = Unit {0}
IsNextTold test kept (command bytes ∷ later) = IsTold test kept bytes

-- THE TEST IS TOLD for each of the commands behind those before it, and for the command that follows them
pub record IsToldOf (test : Test) (text : List ℕ) (kept : List (List ℕ)) : Type 0 where
  pub each : (before behind : List (List ℕ)) (bytes : List ℕ) → kept ≡ before ++ bytes ∷ behind → IsTold test before bytes
  pub next : (later : List Item) → BeginsWith text kept later → IsNextTold test kept later
