use Rattle.std.proofs.Common.{◌∙◌, ap, length}
use Rattle.ab_theory.specs.Derivations.{open_goals}
use Rattle.ab_kernel.specs.Layout.{history_of}
use Rattle.ab_kernel.proofs.Standing.{reads_now, as_many}
use Rattle.ab_kernel.proofs.proof.Proof.open_goals.Goals as goal

pub returns : goal.returns
returns c w =
    c.len.ensures
    ∙ c.self.inside.open.ok.0
    ∙ as_many (reads_now w _ _ _ (c.self.invariant.stands w))
    ∙ ap (λ p. length (open_goals (history_of w p).tree)) c.self.view_is
