use Rattle.std.specs.List.{AllWithin}
use Rattle.ab_logic.specs.Worlds.{Holds}
use Rattle.ab_kernel.specs.ab_rules.specs.declared.replaces.Replace.{Replace}
use Rattle.ab_remains.specs.RaisedMarks.{IsRaised}
use Rattle.ab_proof_marks.proofs.step_marks.mark_to_replaces.Given as goal

abbrev pub invariant-loop-replace : goal.invariant-loop-replace
invariant-loop-replace l =
    IsRaised l.world (λ v. AllWithin (λ (r : Replace). Holds l.world r.to → Holds v r.to) l.replaces 0 l.replace-index)
    (λ v. AllWithin (λ (r : Replace). Holds v r.to) l.replaces 0 l.replace-index) l.fn.mark l.raised
