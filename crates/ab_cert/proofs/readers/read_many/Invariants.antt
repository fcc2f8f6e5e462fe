use Rattle.std.proofs.Common.{◌≡◌, length}
use Rattle.ab_cert.specs.Forms.{left_of}
use Rattle.ab_cert.proofs.Many.{ManySoFar}
use Rattle.ab_cert.proofs.readers.read_many.Given as goal

abbrev pub invariant-members : goal.invariant-members
invariant-members g l = record {
  count : length l.members.items ≡ l._i;
  far : ManySoFar g.T.Spelled.form l.fn.count (left_of l.fn.text) l.members.items (left_of l.text);
}
