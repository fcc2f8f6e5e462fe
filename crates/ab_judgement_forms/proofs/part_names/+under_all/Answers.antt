use Rattle.std.proofs.Common.{rules}
use Rattle.ab_norm.proofs.Frame.{typed_more}
use Rattle.ab_judgement_forms.proofs.part_names.+under_all.Goals as goal

pub returns-in_ok-hint-in-len1-up-clause-adds : goal.returns-in_ok-hint-in-len1-up-clause-adds
returns-in_ok-hint-in-len1-up-clause-adds t c =
    let T = c.args.types.now in
    let e = c.under_all.ensures.adds in
    typed_more T c.args.store.now c.under_all.new.store c.lam.new.self e.before e.cells c.lam.ensures.before c.lam.ensures.cells (c.lam.ensures.typed T e.typed (search rules))
