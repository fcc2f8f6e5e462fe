-- A text that is edited, and which answers took the edit.
use Rattle.std.specs.Prelude.{ℕ, List, ◌++◌, take, drop, Result, Ok, Err}
use Rattle.ab_edit.specs.declared.document.EditFault.{EditFault}
use Rattle.ab_edit.specs.declared.document.EditFault.TheVariants.{Before, Behind}

-- the text with the bytes in place of those from `start` to `end`
abbrev pub text_after_edit : List ℕ → ℕ → ℕ → List ℕ → List ℕ
text_after_edit text start end bytes = take start text ++ bytes ++ drop end text

-- the text took the edit, though memory may have been wanted later
abbrev pub TookEdit : Result (Unit {0}) EditFault → Type 0
TookEdit (Ok done) = Unit {0}
TookEdit (Err (Before error)) = ⊥
TookEdit (Err (Behind error)) = Unit {0}

-- memory was wanted before anything was changed
abbrev pub IsBefore : Result (Unit {0}) EditFault → Type 0
IsBefore (Ok done) = ⊥
IsBefore (Err (Before error)) = Unit {0}
IsBefore (Err (Behind error)) = ⊥
