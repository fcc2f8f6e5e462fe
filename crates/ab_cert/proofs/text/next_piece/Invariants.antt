use Rattle.std.proofs.Common.{◌≡◌, ◌≤◌, ◌-◌, length, take, true}
use Rattle.ab_cert.proofs.Lines.{is_clean}
use Rattle.ab_cert.proofs.text.next_piece.Given as goal

abbrev pub invariant-piece : goal.invariant-piece
invariant-piece l = record {
  clean : is_clean (take l.end l.rest) ≡ true;
  within : l.end ≤ length l.rest;
}

abbrev pub decreases-piece : goal.decreases-piece
decreases-piece l = length l.rest - l.end
