use Rattle.std.proofs.Common.{◌≡◌, ◌≤◌, ◌-◌, length, take, drop, Some}
use Rattle.ab_cert.specs.declared.count.Count.TheVariants.{Nothing}
use Rattle.ab_cert.specs.Counts.{count_run, IsBelow}
use Rattle.ab_cert.proofs.scans.scan_number.Given as goal

abbrev pub invariant-number : goal.invariant-number
invariant-number l = record {
  onward : l.start ≤ l.at;
  within : l.at ≤ length l.bytes;
  came : count_run l.limit (Some Nothing) (take (l.at - l.start) (drop l.start l.bytes)) ≡ Some l.count;
  below : IsBelow l.limit l.count;
}

abbrev pub decreases-number : goal.decreases-number
decreases-number l = length l.bytes - l.at
