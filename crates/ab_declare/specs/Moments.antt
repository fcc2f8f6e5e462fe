-- How much a world held at a moment, and worlds that grew since and are cut back.
use Rattle.std.specs.Prelude.{◌≡◌, ◌≤◌, List, ◌++◌, length}
use Rattle.ab_norm.specs.ab_types.specs.Entries as table
use Rattle.ab_norm.specs.ab_types.specs.Sound.{IsTable}
use Rattle.ab_norm.specs.ab_store.specs.declared.mark.Mark.{Mark}
use Rattle.ab_norm.specs.ab_store.specs.Marks.{HasMark, KeepsMark}
use Rattle.ab_logic.specs.declared.world.World.{World}
use Rattle.ab_logic.specs.declared.additions.Added.{Added}
use Rattle.ab_declare.specs.declared.moment.Moment.{Moment}

-- the moment counts what the world holds
pub record IsMoment (w : World) (m : Moment) : Type 0 where
  pub types : m.types ≡ length w.types
  pub begins : length table.first_entries ≤ length w.types
  pub table : IsTable w.types
  pub mark : HasMark w.store m.mark
  pub bindings : m.mark.bindings ≡ length w.store.bindings
  pub nodes : m.mark.nodes ≡ length w.store.nodes
  pub cells : m.mark.cells ≡ length w.store.cells
  pub additions : m.additions ≡ length w.additions

-- the second world has types, terms and declarations more, behind what the first has
pub record HasMore (w v : World) : Type 0 where
  pub types : table.IsExtendedBy w.types v.types
  pub marks : (m : Mark) → HasMark w.store m → KeepsMark w.store v.store m
  pub additions : (more : List Added) × (v.additions ≡ w.additions ++ more)

-- THE WORLD IS AS IT WAS, but for room that was made
pub record IsRestored (old new : World) : Type 0 where
  pub types : new.types ≡ old.types
  pub nodes : new.store.nodes ≡ old.store.nodes
  pub cells : new.store.cells ≡ old.store.cells
  pub bindings : new.store.bindings ≡ old.store.bindings
  pub additions : new.additions ≡ old.additions
