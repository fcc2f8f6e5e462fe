use Rattle.ab_norm.proofs.Frame.{typed_on}
use Rattle.ab_judgement_forms.proofs.named_scopes.+under_cells.Goals as goal

pub returns-in_ok-inner-in-len1-up-clause-adds : goal.returns-in_ok-inner-in-len1-up-clause-adds
returns-in_ok-inner-in-len1-up-clause-adds t c =
    typed_on c.args.types.now c.args.store.now c.under_cells.new.store c.under_cell.new.store c.under_cells.ensures.adds c.under_cell.ensures.adds
