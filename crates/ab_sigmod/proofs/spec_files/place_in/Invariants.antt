use Rattle.std.proofs.Common.{map, take, Contains}
use Rattle.ab_sigmod.specs.Readings.{file_of}
use Rattle.ab_sigmod.proofs.spec_files.place_in.Given as goal

-- none of the first ones is the file
abbrev pub invariant-loop-place : goal.invariant-loop-place
invariant-loop-place l = ¬ Contains (map file_of (take l.place l.chain)) (record { base = l.base; kind = l.kind })
