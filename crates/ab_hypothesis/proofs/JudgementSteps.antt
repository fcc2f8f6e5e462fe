-- A step of a rule of judgements that isn't taken: its row refuses the command so.
use Rattle.std.specs.Prelude.{suc, zero}
use Rattle.std.proofs.Common.{◌≡◌, ◌≢◌, ℕ, List, [], ◌∷◌, refl, sym, subst}
use Rattle.ab_unify.specs.Problem.{cells_read}
use Rattle.ab_formulas.specs.Sequents.{Sequent}
use Rattle.ab_logic.specs.Worlds.{declarations_of}
use Rattle.ab_logic.specs.declared.world.World.{World}
use Rattle.ab_theory.specs.Steps.{Step}
use Rattle.ab_theory.specs.Rules.{Fails}
use Rattle.ab_steps.specs.ab_kernel.specs.Layout.{Held, goals_of}
use Rattle.ab_effects.specs.Row.{Row}
use Rattle.ab_steps.specs.ProofEffects.{RefusedBy}
use Rattle.ab_steps.specs.Progress.{FailsBy}
use Rattle.ab_steps.specs.declared.fault.ProofCommandFault.{ProofCommandFault}
use Rattle.ab_steps.specs.declared.fault.ProofCommandFault.TheVariants.{Unknown, Clash, TypeClash, Untyped, NoHypothesis, WrongShape, Mark, NoMatch, NotPattern, Unresolved, NamesSpent, Memory}
use Rattle.ab_steps.proofs.Following.{first_at}
use Rattle.ab_hypothesis.specs.JudgementSteps.{fault_at, IsntTaken}

pub other_faults : (i : ℕ) → i ≢ 2 → i ≢ 3 → fault_at i ≡ NamesSpent
other_faults zero two three = refl
other_faults (suc zero) two three = refl
other_faults (suc (suc zero)) two three = absurd (two refl)
other_faults (suc (suc (suc zero))) two three = absurd (three refl)
other_faults (suc (suc (suc (suc i)))) two three = refl

-- the step isn't taken where its condition of this number fails
pub isnt_taken : (w : World) (p : Held) (step : Step) (i : ℕ) → FailsBy w p 0 step i → IsntTaken w p step (fault_at i)
isnt_taken w p step zero fails = (zero, refl, fails)
isnt_taken w p step (suc zero) fails = (suc zero, refl, fails)
isnt_taken w p step (suc (suc zero)) fails = (suc (suc zero), refl, fails)
isnt_taken w p step (suc (suc (suc zero))) fails = (suc (suc (suc zero)), refl, fails)
isnt_taken w p step (suc (suc (suc (suc i)))) fails = (suc (suc (suc (suc i))), refl, fails)

-- the row refuses so, where it does so by each condition that fails
module _ (R : Row) (w : World) (p : Held) (step : Step) (s : Sequent) (rest : List Sequent) (goals : goals_of w p ≡ s ∷ rest)
    (so : (i : ℕ) → Fails (declarations_of w) (cells_read w.types w.store) step s i → RefusedBy R (fault_at i)) where
  by_condition : (fault : ProofCommandFault) → ((i : ℕ) × (fault ≡ fault_at i) × FailsBy w p 0 step i) → RefusedBy R fault
  by_condition fault (i, e, fails) = subst (RefusedBy R) (sym e) (so i (fails [] rest s (first_at w p s rest goals)))

  pub refused_so : (fault : ProofCommandFault) → IsntTaken w p step fault → RefusedBy R fault
  refused_so (Unknown x) not = by_condition (Unknown x) not
  refused_so (Clash x) not = by_condition (Clash x) not
  refused_so (TypeClash n) not = by_condition (TypeClash n) not
  refused_so (Untyped n) not = by_condition (Untyped n) not
  refused_so (NoHypothesis x) not = by_condition (NoHypothesis x) not
  refused_so WrongShape not = by_condition WrongShape not
  refused_so Mark not = by_condition Mark not
  refused_so NoMatch not = by_condition NoMatch not
  refused_so (NotPattern n) not = by_condition (NotPattern n) not
  refused_so (Unresolved x) not = by_condition (Unresolved x) not
  refused_so NamesSpent not = by_condition NamesSpent not
  refused_so (Memory m) not = tt
