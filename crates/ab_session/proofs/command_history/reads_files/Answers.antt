use Rattle.std.proofs.Common.{◌||◌, take, sym, ◌∙◌, ap}
use Rattle.std.specs.List.{list_any}
use Rattle.std.proofs.lemmas.List.{take_all}
use Rattle.std.proofs.lemmas.List.Folds.{list_any_more, list_any_at}
use Rattle.ab_session.specs.declared.command_history.Kept.{Kept}
use Rattle.ab_session.proofs.KeptFiles.{has_files}
use Rattle.ab_session.proofs.command_history.reads_files.Goals as goal

pub loop-command-preserved : goal.loop-command-preserved
loop-command-preserved c =
    let ks = c.args.kept.now in
    let i = c.loop-command.command-index in
    list_any_more has_files ks i _ c.loop-command-test.true
    ∙ ap (λ (k : Kept). list_any has_files (take i ks) || has_files k) (sym c.command-item.is)
    ∙ ap (λ b. b || has_files c.command-item.result) c.loop-command.invariant
    ∙ (sym c.is_some.ensures ∙ c.if-is_some.false)

pub returns-then-is_some : goal.returns-then-is_some
returns-then-is_some c =
    sym (list_any_at has_files c.args.kept.now c.loop-command.command-index _ c.loop-command-test.true (ap has_files (sym c.command-item.is) ∙ sym c.is_some.ensures ∙ c.if-is_some.true))

pub returns : goal.returns
returns c = sym (ap (list_any has_files) (sym (take_all c.loop-command.command-index c.args.kept.now c.loop-command-test.false)) ∙ c.loop-command.invariant)
