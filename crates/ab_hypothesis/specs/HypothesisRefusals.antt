-- Why a command is refused, by what came of its hypothesis. Public contracts don't speak of this.
use Rattle.std.specs.Prelude.{◌≡◌, ◌⊎◌, ◌+◌, Result, Ok, Err}
use Rattle.std.specs.declared.alloc.AllocError.{AllocError}
use Rattle.ab_steps.specs.declared.fault.ProofCommandFault.{ProofCommandFault}
use Rattle.ab_steps.specs.declared.fault.ProofCommandFault.TheVariants as fault
use Rattle.ab_hypothesis.specs.declared.outcome.Outcome.{Outcome}
use Rattle.ab_hypothesis.specs.declared.outcome.Outcome.TheVariants.{Taken, Shapeless, Marked, Stuck}
use Rattle.ab_hypothesis.specs.declared.stop.Stop.{Stop}
use Rattle.ab_hypothesis.specs.declared.stop.Stop.TheVariants.{NamesSpent, Memory}

abbrev pub IsFaultOf : Result Outcome Stop → ProofCommandFault → Type 0
IsFaultOf (Ok Taken) f = ⊥
IsFaultOf (Ok Shapeless) f = f ≡ fault.WrongShape
IsFaultOf (Ok Marked) f = f ≡ fault.Mark
IsFaultOf (Ok (Stuck place)) f = (f ≡ fault.NotPattern (place + 1)) ⊎ ((e : AllocError) × (f ≡ fault.Memory e))
IsFaultOf (Err NamesSpent) f = f ≡ fault.NamesSpent
IsFaultOf (Err (Memory e)) f = f ≡ fault.Memory e
