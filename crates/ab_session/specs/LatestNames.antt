-- What the latest kept command's part of a proof names, and a session whose world is cut behind it. Public contracts don't speak of this.
use Rattle.std.specs.Prelude.{◌≡◌, ℕ, ◌-◌, List, length, Option, Some, None, IfSome, slice_get}
use Rattle.ab_store.specs.ab_types.specs.Entries.{Table}
use Rattle.ab_logic.specs.Worlds.{Holds}
use Rattle.ab_logic.specs.declared.world.World.{World}
use Rattle.ab_proofcmd.specs.ab_hypothesis.specs.ab_steps.specs.ab_kernel.specs.Layout.{Held}
use Rattle.ab_proof_marks.specs.NamedInProofs.{HoldsFrom, KeepsFrom, HoldsBehind, KeepsBehind}
use Rattle.ab_proof_marks.specs.NamedTypes.{HasTypesBehind}
use Rattle.ab_session.specs.declared.attempt.Attempt.{Attempt}
use Rattle.ab_session.specs.declared.command_history.Deed.{Deed}
use Rattle.ab_session.specs.declared.command_history.Deed.TheVariants.{Went, Began, Completed, GaveUp}
use Rattle.ab_session.specs.Contents.{Contents, state_of}
use Rattle.ab_session.specs.Origins.{CameFrom}
use Rattle.ab_session.specs.Remains.{NothingIsLeftOver}

-- the terms that the command's part of the open proof names, or of the last theorem's, are there; so many steps stood before it
abbrev pub HoldsLatest : World → Deed → ℕ → Option Attempt → List Held → Type 0
HoldsLatest w Went count None ps = Unit {0}
HoldsLatest w Went count (Some a) ps = HoldsBehind w a.proof count
HoldsLatest w Began count None ps = Unit {0}
HoldsLatest w Began count (Some a) ps = Holds w a.formula × HoldsFrom w a.proof 0 0
HoldsLatest w (Completed x F) count o ps = IfSome (slice_get ps (length ps - 1)) (λ p. HoldsBehind w p count)
HoldsLatest w (GaveUp a) count o ps = Unit {0}

-- each of it that the first world has, the second has
abbrev pub KeepsLatest : World → World → Deed → ℕ → Option Attempt → List Held → Type 0
KeepsLatest w v Went count None ps = Unit {0}
KeepsLatest w v Went count (Some a) ps = KeepsBehind w v a.proof count
KeepsLatest w v Began count None ps = Unit {0}
KeepsLatest w v Began count (Some a) ps = (Holds w a.formula → Holds v a.formula) × KeepsFrom w v a.proof 0 0
KeepsLatest w v (Completed x F) count o ps = IfSome (slice_get ps (length ps - 1)) (λ p. KeepsBehind w v p count)
KeepsLatest w v (GaveUp a) count o ps = Unit {0}

-- the types that the steps of that part name are the table's
abbrev pub HasTypesLatest : Table → Deed → ℕ → Option Attempt → List Held → Type 0
HasTypesLatest table Went count None ps = Unit {0}
HasTypesLatest table Went count (Some a) ps = HasTypesBehind table a.proof count
HasTypesLatest table Began count None ps = Unit {0}
HasTypesLatest table Began count (Some a) ps = HasTypesBehind table a.proof 0
HasTypesLatest table (Completed x F) count o ps = IfSome (slice_get ps (length ps - 1)) (λ p. HasTypesBehind table p count)
HasTypesLatest table (GaveUp a) count o ps = Unit {0}

-- the third session is the second, which came from the first by its latest kept command, in a world with less at its ends
pub record IsFreed (e s t : Contents) : Type 0 where
  pub state : state_of t ≡ state_of s
  pub came : CameFrom e t
  pub none_over : NothingIsLeftOver e t
