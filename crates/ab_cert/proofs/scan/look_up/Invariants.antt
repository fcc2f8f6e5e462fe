use Rattle.std.proofs.Common.{◌≡◌, drop}
use Rattle.ab_cert.specs.Tables.{value_at}
use Rattle.ab_cert.specs.Leads.{table_of}
use Rattle.ab_cert.proofs.scan.look_up.Given as goal

abbrev pub invariant-loop-known : goal.invariant-loop-known
invariant-loop-known l = value_at (table_of (drop l.known-index l.table)) l.word ≡ value_at (table_of l.table) l.word
