-- A store only grows: its ids and cells stay, and stand for what they stood for.
use Rattle.std.specs.Prelude.{◌≡◌, ◌≤◌}
use Rattle.ab_types.specs.Entries.{Table}
use Rattle.ab_store.specs.declared.node.TermId.{TermId}
use Rattle.ab_store.specs.declared.node.CellId.{CellId}
use Rattle.ab_store.specs.declared.mark.Mark.{Mark}
use Rattle.ab_store.specs.Reading.{Contents, Holds, HoldsCell, tree_of, reading, cell_of}
use Rattle.ab_store.specs.Marks.{HasMark, KeepsMark}

-- each id and each cell of the first is one of the second, and every id reads as before, whatever the table; no cell is
-- bound or unbound, room that was reserved stays, and so do marks
pub record IsExtendedBy (old new : Contents) : Type 0 where
  pub ids : (t : TermId) → Holds old t → Holds new t
  pub trees : (types : Table) (t : TermId) → Holds old t → tree_of types new t ≡ tree_of types old t
  pub readings : (types : Table) (t : TermId) → Holds old t → reading types new t ≡ reading types old t
  pub cell_ids : (c : CellId) → HoldsCell old c → HoldsCell new c
  pub cells : (c : CellId) → HoldsCell old c → cell_of new c ≡ cell_of old c
  pub bindings : new.bindings ≡ old.bindings
  pub room : old.room ≤ new.room
  pub marks : (m : Mark) → HasMark old m → KeepsMark old new m
