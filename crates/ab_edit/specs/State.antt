-- What is true of every document; and how far a replay has come, which is a tool of the private functions' clauses.
use Rattle.std.specs.Prelude.{◌≡◌, ◌≤◌, ◌<◌, ℕ, Bool, true, false, List, [], ◌∷◌, ◌++◌, Result, Ok, Err}
use Rattle.ab_io.specs.Replays.{Test}
use Rattle.ab_lex.specs.Commands.{Item, command, long}
use Rattle.ab_lex.specs.PendingText.{Pending}
use Rattle.ab_lex.proofs.Awaiting.{items_after}
use Rattle.ab_edit.specs.Prefixes.{place_of, BeginsWith, IsPrefix}
use Rattle.ab_edit.specs.Moves.{ends_from}

-- what contracts see of a document: its text, and the replay
pub record DocumentState (R : Type 0) : Type 0 where
  pub text : List ℕ
  pub replay : R

-- of no kept command it is told that it isn't kept
abbrev pub IsHonest : Test → List (List ℕ) → Type 0
IsHonest test kept = (before behind : List (List ℕ)) (bytes : List ℕ) → kept ≡ before ++ bytes ∷ behind → (answer : Bool) → test before bytes answer → answer ≡ true

-- THE KEPT COMMANDS ARE THE FIRST of the text, and these are their ends
pub record IsInStep (test : Test) (text ends : List ℕ) (kept : List (List ℕ)) : Type 0 where
  pub ends_are : ends ≡ ends_from 0 kept
  pub prefix : IsPrefix text kept
  pub honest : IsHonest test kept

-- the kept commands are the first of the text, and the splitter still gives the items that follow them
pub record IsGoing (test : Test) (text ends : List ℕ) (kept : List (List ℕ)) (p : Pending) : Type 0 where
  pub ends_are : ends ≡ ends_from 0 kept
  pub begins : BeginsWith text kept (items_after p [])
  pub honest : IsHonest test kept

-- where a command comes first of these items, it isn't told that it is kept
abbrev pub IsHalt : Test → List (List ℕ) → List Item → Type 0
IsHalt test kept [] = Unit {0}
IsHalt test kept (long ∷ later) = Unit {0}
IsHalt test kept (command bytes ∷ later) = (answer : Bool) → test kept bytes answer → answer ≡ false

-- the kept commands are the first of the text, and the replay has come to its end there
pub record IsHalted (test : Test) (text : List ℕ) (kept : List (List ℕ)) : Type 0 where
  pub later : List Item
  pub begins : BeginsWith text kept later
  pub halt : IsHalt test kept later

-- one more command is kept
abbrev pub IsOneMore : List (List ℕ) → List (List ℕ) → Type 0
IsOneMore old new = (bytes : List ℕ) × (new ≡ old ++ bytes ∷ [])

-- the commands that end behind `start` were taken back, and no others
pub record IsTakenBack (start : ℕ) (old new : List (List ℕ)) : Type 0 where
  pub taken : List (List ℕ)
  pub parts : old ≡ new ++ taken
  pub within : place_of new ≤ start
  pub first : (bytes : List ℕ) (more : List (List ℕ)) → taken ≡ bytes ∷ more → start < place_of (new ++ bytes ∷ [])

-- the last of these numbers
abbrev pub last_of : List ℕ → ℕ
last_of [] = 0
last_of (n ∷ []) = n
last_of (n ∷ (m ∷ ns)) = last_of (m ∷ ns)

-- the fact, where the answer is yes
abbrev pub OnYes : {E : Type 0} → Result Bool E → Type 0 → Type 0
OnYes (Ok true) P = P
OnYes (Ok false) P = Unit {0}
OnYes (Err error) P = Unit {0}

-- the fact, where the answer is no
abbrev pub OnNo : {E : Type 0} → Result Bool E → Type 0 → Type 0
OnNo (Ok true) P = Unit {0}
OnNo (Ok false) P = P
OnNo (Err error) P = Unit {0}
