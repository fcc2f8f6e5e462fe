use Rattle.std.proofs.Common.{◌≤◌, Contains, drop, length}
use Rattle.ab_sigmod.specs.FileNames.{slash}
use Rattle.ab_sigmod.proofs.file_text.without_folder.Given as goal

-- no slash stands from here on
abbrev pub invariant-loop-start : goal.invariant-loop-start
invariant-loop-start l = (l.start ≤ length l.base) × ¬ Contains (drop l.start l.base) slash

abbrev pub decreases-loop-start : goal.decreases-loop-start
decreases-loop-start l = l.start
