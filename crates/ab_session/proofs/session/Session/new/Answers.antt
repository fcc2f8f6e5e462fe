use Rattle.std.proofs.Common.{true, List, [], map, reverse, None, sym, subst}
use Rattle.ab_proofcmd.specs.ab_hypothesis.specs.ab_steps.specs.ab_kernel.specs.Layout.{Held}
use Rattle.ab_session.specs.declared.command_history.Kept.{Kept}
use Rattle.ab_session.specs.Contents.{past_of}
use Rattle.ab_session.specs.Origins.{IsSession}
use Rattle.ab_session.proofs.Sessions.{new_session}
use Rattle.ab_session.proofs.session.Session.new.Goals as goal

pub invariant_of-result : goal.invariant_of-result
invariant_of-result c =
    let w = c.in_ok-new.field-0 in
    subst (λ (ks : List Kept). IsSession (record { world = w; proofs = c.new-2.result.items; attempt = None; all_subgoals = true; past = reverse (map past_of ks) })) (sym c.new-3.ensures.items)
    (subst (λ (ps : List Held). IsSession (record { world = w; proofs = ps; attempt = None; all_subgoals = true; past = [] })) (sym c.new-2.ensures.items)
    (new_session w c.in_ok-new.ensures.world c.in_ok-new.ensures.declares))
