-- What is true of a session, but for where it came from.
use Rattle.std.specs.Prelude.{◌≡◌, ◌≢◌, ℕ, List, [], length, None, Some, IfSome, slice_get}
use Rattle.ab_formulas.specs.Declarations.{signature_in, theorem_in, theorems_in}
use Rattle.ab_formulas.specs.Formulas.{IsSentence}
use Rattle.ab_logic.specs.Worlds.{read, Holds, declarations_of, IsWorld}
use Rattle.ab_logic.specs.declared.world.World.{World}
use Rattle.ab_theory.specs.Derivations.{root, proves}
use Rattle.ab_proofcmd.specs.ab_hypothesis.specs.ab_steps.specs.ab_kernel.specs.Layout.{Held, history_of, HoldsProof, IsProof, goals_of}
use Rattle.ab_states.specs.DerivedTheorems.{IsDerived}
use Rattle.ab_session.specs.declared.attempt.Attempt.{Attempt}
use Rattle.ab_session.specs.Contents.{Contents}

-- THE PROOF OF A SENTENCE IS BEING MADE, under a name that no theorem has, and a goal is left
pub record IsTried (w : World) (a : Attempt) : Type 0 where
  pub proof : IsProof w a.proof
  pub begins : root (history_of w a.proof).tree ≡ proves (read w a.formula) 0
  pub held : Holds w a.formula
  pub sentence : IsSentence (signature_in (declarations_of w)) (read w a.formula)
  pub new_name : theorem_in (declarations_of w) a.name ≡ None
  pub goals : goals_of w a.proof ≢ []

-- THE THEOREM OF THIS PLACE IS DERIVED by the proof, from what was declared before it. What the proof names is there; that its
-- derivation is valid is said of the declarations from which it derives, since clauses of the program may come later.
pub record IsProofOf (w : World) (place : ℕ) (p : Held) : Type 0 where
  pub held : HoldsProof w p
  pub derived : IsDerived (declarations_of w) place (history_of w p).tree

-- each theorem has its proof
pub record AreProofs (w : World) (ps : List Held) : Type 0 where
  pub counted : length ps ≡ length (theorems_in (declarations_of w))
  pub each : (place : ℕ) (p : Held) → slice_get ps place ≡ Some p → IsProofOf w place p

-- THE SESSION IS SOUND: its world is one, each theorem is derived by its proof, and the open proof is one of a sentence
pub record IsSound (s : Contents) : Type 0 where
  pub world : IsWorld s.world
  pub proofs : AreProofs s.world s.proofs
  pub attempt : IfSome s.attempt (IsTried s.world)
