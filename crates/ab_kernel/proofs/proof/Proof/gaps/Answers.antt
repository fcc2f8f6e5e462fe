use Rattle.std.proofs.Common.{map, sym, ◌∙◌, ap}
use Rattle.ab_theory.specs.Derivations.{gaps, goals_admitted}
use Rattle.ab_kernel.specs.Debts.{debt_of}
use Rattle.ab_kernel.specs.Layout.{history_of}
use Rattle.ab_kernel.proofs.Owing.{admitted_turned, gaps_there}
use Rattle.ab_kernel.proofs.proof.Proof.gaps.Goals as goal

pub returns : goal.returns
returns c w =
    c.count_gaps.ensures
    ∙ ap (λ ks. goals_admitted (map debt_of ks)) c.deref.ensures.value
    ∙ admitted_turned c.self.inside.debts.items
    ∙ ap goals_admitted (c.self.invariant.owed w)
    ∙ sym (gaps_there w _ _ _ (c.self.invariant.stands w))
    ∙ ap (λ p. gaps (history_of w p).tree) c.self.view_is
