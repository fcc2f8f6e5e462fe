-- A script that goes forth and back: which commands are kept, and what is told of whether one is kept.
use Rattle.std.specs.Prelude.{◌≡◌, ◌≤◌, ◌↔◌, ℕ, Bool, true, false, List, [], ◌∷◌, ◌++◌, length, Result, Ok, Err}
use Rattle.ab_lex.specs.declared.TheConstants.{COMMAND_LIMIT}
use Rattle.ab_lex.specs.Commands.{CommandAt}

-- THE BYTES OF ONE COMMAND, up to its full stop, of which there are not too many
pub record IsCommand (bytes : List ℕ) : Type 0 where
  pub whole : CommandAt bytes []
  pub short : length bytes ≤ COMMAND_LIMIT

-- WHAT IS TOLD of a command behind these kept ones: that it is kept, that it is not, or nothing
abbrev pub Test : Type 1
Test = List (List ℕ) → List ℕ → Bool → Type 0

-- the same is told of each command
abbrev pub SameTest : Test → Test → Type 0
SameTest old new = (kept : List (List ℕ)) (command : List ℕ) (answer : Bool) → old kept command answer ↔ new kept command answer

-- the command stands behind those that were kept where the answer is yes, and else they are as before
abbrev pub AppendsKept : {E : Type 0} → Result Bool E → List (List ℕ) → List ℕ → List (List ℕ) → Type 0
AppendsKept (Ok true) old command new = new ≡ old ++ command ∷ []
AppendsKept (Ok false) old command new = new ≡ old
AppendsKept (Err fault) old command new = new ≡ old

-- the last kept command is taken away where the answer is yes, and else there was none
abbrev pub TakesLast : Bool → List (List ℕ) → List (List ℕ) → Type 0
TakesLast true old new = (command : List ℕ) × (old ≡ new ++ command ∷ [])
TakesLast false old new = (old ≡ []) × (new ≡ [])
