-- Tools of the reader's private functions: going through a text part by part.
use Rattle.std.specs.Prelude.{◌≡◌, ℕ, true, false, List, ◌++◌, drop, Option, Some, Result, Ok, Err}
use Rattle.ab_cert.specs.declared.part.Part.{Part}
use Rattle.ab_cert.specs.declared.fault.ReadFault.{ReadFault}
use Rattle.ab_cert.specs.declared.fault.ReadFault.TheVariants.{BadCert, Memory}
use Rattle.ab_cert.specs.Reading.{is_led}
use Rattle.ab_cert.specs.Grammar.{lead_of, end_of, IsScan}

-- a piece of a part is read up to here, and what follows it is put in front
pub record PieceRead (part : Part) (bytes : List ℕ) (at to : ℕ) (old new : List Part) : Type 0 where
  pub kids : List Part
  pub scan : IsScan (lead_of part) bytes at to (Some kids)
  pub put : new ≡ kids ++ old
  pub ends : is_led (drop to bytes) (end_of (kids ++ old)) ≡ true

-- no piece of the part is read here with the byte behind it
pub record PieceFails (part : Part) (bytes : List ℕ) (at to : ℕ) (old : List Part) : Type 0 where
  pub kids : Option (List Part)
  pub scan : IsScan (lead_of part) bytes at to kids
  pub stops : (ks : List Part) → kids ≡ Some ks → is_led (drop to bytes) (end_of (ks ++ old)) ≡ false

abbrev pub ReadsPiece : Part → List ℕ → ℕ → List Part → Result ℕ ReadFault → List Part → Type 0
ReadsPiece part bytes at old (Ok to) new = PieceRead part bytes at to old new
ReadsPiece part bytes at old (Err (BadCert to)) new = PieceFails part bytes at to old
ReadsPiece part bytes at old (Err (Memory error)) new = Unit {0}
