use Rattle.std.proofs.Common.{[], refl}
use Rattle.ab_lex.specs.declared.TheConstants.{COMMAND_LIMIT}
use Rattle.ab_lex.proofs.Cuts.{items_there}
use Rattle.ab_edit.specs.State.{IsInStep}
use Rattle.ab_edit.proofs.Honest.{honest_none}
use Rattle.ab_edit.proofs.document.Document.new.Goals as goal

pub invariant_of-result : goal.invariant_of-result
invariant_of-result g c =
    let t = g.R.Replay.test c.args.replay in
    let there : IsInStep t [] [] [] = record { ends_are = refl; prefix = items_there COMMAND_LIMIT []; honest = honest_none t } in
    rw (c.new.ensures.items, c.new-2.ensures.items, c.requires) there
