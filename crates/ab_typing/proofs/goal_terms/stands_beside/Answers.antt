use Rattle.ab_formulas.proofs.FitsWalks.{if_ok, never, denied, swapped}
use Rattle.ab_typing.proofs.goal_terms.stands_beside.Goals as goal

pub returns-then-not-branch : goal.returns-then-not-branch
returns-then-not-branch c = never _ (λ w. denied c.in_ok-holds_only.field-0 c.if-not-branch.true (c.in_ok-holds_only.ensures c.args.types.now) w.0)

pub returns : goal.returns
returns c =
    if_ok c.have_one_type_beside.result (λ yes one. swapped yes
    (λ h. ((c.in_ok-holds_only.ensures c.args.types.now).0 c.if-not-branch.false, h))
    (λ w. w.1) one) c.have_one_type_beside.ensures
