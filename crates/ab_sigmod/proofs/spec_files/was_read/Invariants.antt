use Rattle.std.proofs.Common.{map, take}
use Rattle.ab_sigmod.specs.Outcomes.{read_of}
use Rattle.ab_sigmod.specs.Readings.{SomeName}
use Rattle.ab_sigmod.proofs.spec_files.was_read.Given as goal

-- none of the first ones has the name
abbrev pub invariant-loop-file : goal.invariant-loop-file
invariant-loop-file l = ¬ SomeName (map read_of (take l.file-index l.files)) l.name
