use Rattle.std.proofs.Common.{◌≡◌, ◌++◌, codes, drop}
use Rattle.ab_cert.specs.Appending.{Extends}
use Rattle.ab_cert.specs.Members.{members_of}
use Rattle.ab_cert.specs.Writing.{items_text}
use Rattle.ab_cert.proofs.writer.write_text.Given as goal

abbrev pub invariant-items : goal.invariant-items
invariant-items l = record {
  written : l.out.items ++ items_text (drop l.item-index l.item-items) ≡ l.fn.out.items ++ (codes "abella-cert 1" ++ items_text (members_of l.cert.items));
  kept : Extends l.fn.out.items l.out.items;
}
