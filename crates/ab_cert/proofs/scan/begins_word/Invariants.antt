use Rattle.std.proofs.Common.{◌≡◌, drop}
use Rattle.ab_cert.specs.Grammar.{is_front}
use Rattle.ab_cert.specs.Leads.{table_of}
use Rattle.ab_cert.proofs.scan.begins_word.Given as goal

abbrev pub invariant-loop-known : goal.invariant-loop-known
invariant-loop-known l = is_front (table_of (drop l.known-index l.table)) l.front ≡ is_front (table_of l.table) l.front
