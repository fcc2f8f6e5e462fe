-- What any later world keeps of an earlier one: ids and cells stay, and stand for what they stood for; what was
-- declared stays, in its order, and so does what marks count.
use Rattle.std.specs.Prelude.{◌≡◌, List, ◌++◌}
use Rattle.ab_store.specs.ab_types.specs.Entries as table
use Rattle.ab_store.specs.declared.node.TermId.{TermId}
use Rattle.ab_store.specs.declared.node.CellId.{CellId}
use Rattle.ab_store.specs.declared.mark.Mark.{Mark}
use Rattle.ab_store.specs.Marks.{HasMark, KeepsMark}
use Rattle.ab_formulas.specs.Declarations.{Extends}
use Rattle.ab_logic.specs.Worlds.{read, Holds, variable_of, HoldsCell, declarations_of, IsWorld}
use Rattle.ab_logic.specs.declared.world.World.{World}
use Rattle.ab_logic.specs.declared.additions.Added.{Added}

pub record Grows (old new : World) : Type 0 where
  pub ids : (t : TermId) → Holds old t → Holds new t
  pub readings : (t : TermId) → Holds old t → read new t ≡ read old t
  pub cell_ids : (c : CellId) → HoldsCell old c → HoldsCell new c
  pub cells : (c : CellId) → HoldsCell old c → variable_of new c ≡ variable_of old c
  pub types : table.IsExtendedBy old.types new.types
  pub marks : (m : Mark) → HasMark old.store m → KeepsMark old.store new.store m
  pub additions : (more : List Added) × (new.additions ≡ old.additions ++ more)
  pub declarations : Extends (declarations_of old) (declarations_of new)
  pub world : IsWorld new
