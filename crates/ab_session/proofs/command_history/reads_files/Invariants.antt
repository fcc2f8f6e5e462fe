use Rattle.std.specs.Prelude.{◌≡◌, false, take, is_some}
use Rattle.std.specs.List.{list_any}
use Rattle.ab_session.specs.declared.command_history.Kept.{Kept}
use Rattle.ab_session.proofs.command_history.reads_files.Given as goal

-- none of the first ones did
abbrev pub invariant-loop-command : goal.invariant-loop-command
invariant-loop-command l = list_any (λ (k : Kept). is_some k.spec) (take l.command-index l.kept) ≡ false
