-- What lasts from a session to a later one, and a session that a command leaves as it was.
use Rattle.std.specs.Prelude.{◌≡◌, ℕ, List, ◌++◌, Some, slice_get}
use Rattle.ab_logic.specs.WorldGrowth.{Grows}
use Rattle.ab_proofcmd.specs.ab_hypothesis.specs.ab_steps.specs.ab_kernel.specs.Layout.{Held, history_of}
use Rattle.ab_session.specs.Contents.{Contents, state_of}

-- WHAT THE FIRST SESSION HOLDS LASTS: each id of its world reads in the second's as it did, and each theorem, by its place, has the
-- proof that it had, to each node, which reads as it did
pub record Lasts (old new : Contents) : Type 0 where
  pub world : Grows old.world new.world
  pub proofs : (more : List Held) × (new.proofs ≡ old.proofs ++ more)
  pub derivations : (place : ℕ) (p : Held) → slice_get old.proofs place ≡ Some p → history_of new.world p ≡ history_of old.world p

-- THE SESSION STAYS, to each theorem's proof, and to each node of the open one; its world may hold more types and terms
pub record Stays (old new : Contents) : Type 0 where
  pub state : state_of new ≡ state_of old
  pub world : Grows old.world new.world
  pub proofs : new.proofs ≡ old.proofs
  pub attempt : new.attempt ≡ old.attempt
  pub past : new.past ≡ old.past
