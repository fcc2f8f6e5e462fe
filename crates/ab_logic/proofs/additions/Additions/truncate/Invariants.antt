use Rattle.std.proofs.Common.{◌≡◌, ◌-◌, take, length}
use Rattle.ab_logic.proofs.additions.Additions.truncate.Given as goal

abbrev pub invariant-loop-place : goal.invariant-loop-place
invariant-loop-place l = record {
  front : take l.len l.self ≡ take l.len l.fn.self;
  left : length l.self ≡ length l.fn.self - (l.place - l.len);
}
