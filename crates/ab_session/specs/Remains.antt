-- What stands in the world of a session behind a kept command: nothing at its ends that neither stood before nor is named.
use Rattle.std.specs.Prelude.{◌≡◌, All, IfSome}
use Rattle.ab_logic.specs.Worlds.{Holds}
use Rattle.ab_logic.specs.WorldGrowth.{Grows}
use Rattle.ab_logic.specs.declared.world.World.{World}
use Rattle.ab_proof_marks.specs.ab_remains.specs.LeftWorlds.{IsNoLonger, HasAllTypes}
use Rattle.ab_proof_marks.specs.NamedInProofs.{HoldsNodes}
use Rattle.ab_session.specs.Contents.{Contents}

-- what the proofs of the session name is there, and what the open theorem states
pub record HoldsNamed (w : World) (s : Contents) : Type 0 where
  pub proofs : All (HoldsNodes w) s.proofs
  pub open_proof : IfSome s.attempt (λ a. Holds w a.formula × HoldsNodes w a.proof)

-- NOTHING IS LEFT OVER of the way from the first session to the second: each world between theirs that has the second's additions, and
-- holds what the second names, has as many nodes and cells; and as many types, if it declares the same
abbrev pub NothingIsLeftOver : Contents → Contents → Type 0
NothingIsLeftOver old new =
    (v : World) → Grows old.world v → Grows v new.world → v.additions ≡ new.world.additions → HoldsNamed v new → IsNoLonger new.world v × HasAllTypes new.world v
