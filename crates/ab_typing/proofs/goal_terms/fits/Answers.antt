use Rattle.ab_formulas.proofs.FitsWalks.{if_ok, swapped}
use Rattle.ab_typing.proofs.goal_terms.fits.Goals as goal

pub returns : goal.returns
returns c =
    if_ok c.stands_beside.result (λ yes both. swapped yes
    (λ h. record { typed = c.in_ok-has_type.ensures.0 c.if-not-branch.false; closed = h.0; one_type = h.1 })
    (λ w. (w.closed, w.one_type)) both) c.stands_beside.ensures
