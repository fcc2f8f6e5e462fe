use Rattle.std.proofs.Common.{◌≡◌, ◌≤◌, ◌-◌, true, length}
use Rattle.ab_cert.specs.Grammar.{is_front, span}
use Rattle.ab_cert.specs.Leads.{table_of}
use Rattle.ab_cert.proofs.scan.scan_word.Given as goal

abbrev pub invariant-word : goal.invariant-word
invariant-word l = record {
  onward : l.start ≤ l.to;
  within : l.to ≤ length l.bytes;
  came : is_front (table_of l.table) (span l.bytes l.start l.to) ≡ true;
}

abbrev pub decreases-word : goal.decreases-word
decreases-word l = length l.bytes - l.to
