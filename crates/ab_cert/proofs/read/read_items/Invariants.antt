use Rattle.std.proofs.Common.{◌≡◌, length}
use Rattle.ab_cert.specs.Forms.{left_of}
use Rattle.ab_cert.proofs.ItemsRead.{ItemsSoFar}
use Rattle.ab_cert.proofs.read.read_items.Given as goal

abbrev pub invariant-items : goal.invariant-items
invariant-items l = record {
  count : length l.items.items ≡ l._i;
  far : ItemsSoFar (left_of l.fn.text) l.items.items (left_of l.text);
}
