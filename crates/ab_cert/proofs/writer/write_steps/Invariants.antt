use Rattle.std.proofs.Common.{◌≡◌, ◌++◌, drop}
use Rattle.ab_cert.specs.Appending.{Extends}
use Rattle.ab_cert.specs.Writing.{steps_text}
use Rattle.ab_cert.proofs.writer.write_steps.Given as goal

abbrev pub invariant-steps : goal.invariant-steps
invariant-steps l = record {
  written : l.out.items ++ steps_text (drop l.step-index l.steps) ≡ l.fn.out.items ++ steps_text l.steps;
  kept : Extends l.fn.out.items l.out.items;
}
