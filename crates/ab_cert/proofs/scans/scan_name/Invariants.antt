use Rattle.std.proofs.Common.{◌≡◌, ◌≤◌, ◌-◌, length, take, drop, Some}
use Rattle.ab_cert.specs.declared.shape.Shape.TheVariants.{Start}
use Rattle.ab_cert.specs.Shapes.{run}
use Rattle.ab_cert.proofs.scans.scan_name.Given as goal

abbrev pub invariant-name : goal.invariant-name
invariant-name l = record {
  onward : l.start ≤ l.at;
  within : l.at ≤ length l.bytes;
  came : run (Some Start) (take (l.at - l.start) (drop l.start l.bytes)) ≡ Some l.shape;
}

abbrev pub decreases-name : goal.decreases-name
decreases-name l = length l.bytes - l.at
