use Rattle.std.proofs.Common.{◌≡◌, ◌++◌, drop}
use Rattle.ab_cert.specs.Appending.{Extends}
use Rattle.ab_cert.specs.Writing.{clauses_text}
use Rattle.ab_cert.proofs.writer.write_clauses.Given as goal

abbrev pub invariant-clauses : goal.invariant-clauses
invariant-clauses l = record {
  written : l.out.items ++ clauses_text (drop l.clause-index l.clauses) ≡ l.fn.out.items ++ clauses_text l.clauses;
  kept : Extends l.fn.out.items l.out.items;
}
