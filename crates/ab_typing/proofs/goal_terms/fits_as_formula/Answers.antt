use Rattle.ab_formulas.proofs.FitsWalks.{if_ok, swapped}
use Rattle.ab_typing.proofs.goal_terms.fits_as_formula.Goals as goal

pub returns : goal.returns
returns c =
    let formula = c.in_ok-is_formula.ensures.0 c.if-not-branch.false in
    if_ok c.stands_beside.result (λ yes both. swapped yes
    (λ h. (record { typed = formula.typed; closed = h.0; one_type = h.1 }, formula))
    (λ w. (w.0.closed, w.0.one_type)) both) c.stands_beside.ensures
