-- What is still to be read, as the program's stack holds it: a tool of the reader's private functions.
use Rattle.std.specs.Prelude.{◌≡◌, ℕ, List, [], ◌∷◌, ◌++◌, Option, Some, None}
use Rattle.ab_cert.specs.declared.part.Part.{Part}
use Rattle.ab_cert.specs.declared.part_stack.Pending.{Pending}
use Rattle.ab_cert.specs.Grammar.{copies}

-- each entry as many times as it says, the last one first
abbrev pub stack_parts : List (Part × ℕ) → List Part → List Part
stack_parts [] below = below
stack_parts (e ∷ es) below = stack_parts es (copies e.1 e.0 ++ below)

abbrev pub pending_of : Pending → List Part
pending_of t = copies t.count t.part ++ stack_parts t.below.items []

-- the first part is taken, if there is one
abbrev pub IsNext : List Part → Option Part → List Part → Type 0
IsNext old None new = (old ≡ []) × (new ≡ [])
IsNext old (Some s) new = old ≡ s ∷ new
