use Rattle.std.proofs.Common.{◌∙◌, ap, sym, length}
use Rattle.std.proofs.lemmas.List.{length-reverse}
use Rattle.ab_kernel.specs.Layout.{history_of}
use Rattle.ab_kernel.proofs.Filling.{length-steps_in}
use Rattle.ab_kernel.proofs.Standing.{as_many_steps}
use Rattle.ab_kernel.proofs.proof.Proof.steps.Goals as goal

pub returns : goal.returns
returns c w =
    c.len.ensures
    ∙ c.self.inside.journal.ok.0
    ∙ sym (length-reverse c.self.inside.journal.items)
    ∙ sym (length-steps_in _ _)
    ∙ sym (as_many_steps w _ _)
    ∙ ap (λ p. length (history_of w p).earlier) c.self.view_is
