-- Why a rule of judgements isn't taken at the first goal, by the first of its conditions that fails. What it asks first, its
-- hypotheses, is looked up before.
use Rattle.std.specs.Prelude.{◌≡◌, ℕ, zero, suc}
use Rattle.ab_logic.specs.declared.world.World.{World}
use Rattle.ab_theory.specs.Steps.{Step}
use Rattle.ab_steps.specs.ab_kernel.specs.Layout.{Held}
use Rattle.ab_steps.specs.Progress.{FailsBy}
use Rattle.ab_steps.specs.declared.fault.ProofCommandFault.{ProofCommandFault}
use Rattle.ab_steps.specs.declared.fault.ProofCommandFault.TheVariants.{WrongShape, NoMatch, NamesSpent, Memory}

-- the second condition asks for judgements, the third for what is made of their lists, and the last for a name
abbrev pub fault_at : ℕ → ProofCommandFault
fault_at (suc (suc zero)) = WrongShape
fault_at (suc (suc (suc zero))) = NoMatch
fault_at _ = NamesSpent

abbrev pub IsntTaken : World → Held → Step → ProofCommandFault → Type 0
IsntTaken w p step (Memory m) = Unit {0}
IsntTaken w p step fault = (i : ℕ) × (fault ≡ fault_at i) × FailsBy w p 0 step i
