-- Marks that are raised until they count what a thing names.
use Rattle.std.specs.Prelude.{◌≡◌, ◌≤◌, length}
use Rattle.ab_store.specs.declared.mark.Mark.{Mark}
use Rattle.ab_store.specs.Marks.{IsNoLater}
use Rattle.ab_logic.specs.declared.world.World.{World}

-- the world has as many nodes and cells as the mark counts
abbrev pub Reaches : World → Mark → Type 0
Reaches w m = (m.nodes ≤ length w.store.nodes) × (m.cells ≤ length w.store.cells)

-- THE MARK WAS RAISED in the world: of each world that reaches the new mark the first property holds; and each world that reaches
-- the old mark and has the second property reaches the new one, so the mark was raised no further than that takes
pub record IsRaised (w : World) (Keeps Holds : World → Type 0) (old new : Mark) : Type 0 where
  pub bindings : new.bindings ≡ old.bindings
  pub later : IsNoLater old new
  pub within : Reaches w old → Reaches w new
  pub enough : (v : World) → Reaches v new → Keeps v
  pub least : (v : World) → Reaches v old → Holds v → Reaches v new

-- THE MARK WAS RAISED FOR A THING: worlds that reach the new mark hold it, if this one does
abbrev pub IsRaisedFor : World → (World → Type 0) → Mark → Mark → Type 0
IsRaisedFor w Holds old new = IsRaised w (λ v. Holds w → Holds v) Holds old new
