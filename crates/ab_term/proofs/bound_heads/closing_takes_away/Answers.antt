use Rattle.ab_term.proofs.ClosingImages.{support-close, variables-close}
use Rattle.ab_term.proofs.bound_heads.closing_takes_away.Goals as goal

pub returns-clause-names : goal.returns-clause-names
returns-clause-names g c = λ k h t a m. support-close k h t a m

pub returns-clause-free_variables : goal.returns-clause-free_variables
returns-clause-free_variables g c = λ k h t y m. variables-close k h t y m
