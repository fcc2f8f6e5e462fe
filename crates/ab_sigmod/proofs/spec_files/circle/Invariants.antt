use Rattle.std.proofs.Common.{◌≡◌, map, take}
use Rattle.ab_sigmod.proofs.spec_files.circle.Given as goal

abbrev pub invariant-loop-file : goal.invariant-loop-file
invariant-loop-file l = l.names.items ≡ map (λ o. o.base) (take l.file-index l.chain)
