use Rattle.std.proofs.Common.{◌≡◌, sym, ap, ◌∙◌, subst}
use Rattle.ab_grammar.specs.CommandTrees.{specification}
use Rattle.ab_command.specs.CommandReadings.{Says, Fails}
use Rattle.ab_states.specs.State.{plain, is_open}
use Rattle.ab_states.specs.Reply as reply
use Rattle.ab_states.specs.ForwardEffects.{GoesForward, unread}
use Rattle.ab_states.specs.StateEffects.{forward}
use Rattle.ab_session.specs.Contents.{contents, state_of}
use Rattle.ab_session.specs.Sessions.{IsSound}
use Rattle.ab_session.proofs.Sayings.{open_as}
use Rattle.ab_session.proofs.Effects.{stays_itself}
use Rattle.ab_session.proofs.Specified.{kept_already}
use Rattle.ab_session.proofs.Replied.{unread_replied, if_plain_replied, if_files_replied}
use Rattle.ab_session.proofs.session.Session.answer.Goals as goal

pub returns-in-Err-Refused-clause-answer : goal.returns-in-Err-Refused-clause-answer
returns-in-Err-Refused-clause-answer g c =
    let s = contents c.self.inside in
    let cause = c.in-Err-Refused.cause in
    let f : Fails c.args.command.now c.is_some.result cause = rw c.in-Err-Refused.field-0-is at c.in-Err-Refused.ensures.unread in
    let e : c.is_some.result ≡ is_open (state_of c.args.self.now) = c.is_some.ensures ∙ sym (open_as s) ∙ ap (λ o. is_open (state_of o)) c.self.view_is in
    unread_replied _ c.args.self.now c.args.command.now c.args.steps.now _ (subst IsSound c.self.view_is c.self.invariant.sound)
    (forward
    (subst (λ r. GoesForward (state_of c.args.self.now) (plain c.args.command.now) (reply.refused r) (state_of c.args.self.now)) (sym c.refusal_of_cause.ensures)
    (unread cause (subst (λ b. Fails c.args.command.now b cause) e f))))

pub returns-in-Ok-clause-answer : goal.returns-in-Ok-clause-answer
returns-in-Ok-clause-answer g c =
    if_plain_replied _ c.args.self.now c.carry_out.new.self c.args.command.now c.args.steps.now c.carry_out.new.steps c.carry_out.result (subst IsSound c.self.view_is c.self.invariant.sound) c.carry_out.ensures.answer

pub returns-in-Ok-Specification-clause-answer : goal.returns-in-Ok-Specification-clause-answer
returns-in-Ok-Specification-clause-answer g c =
    if_files_replied _ _ c.args.self.now c.specify.new.self c.args.command.now c.args.steps.now c.specify.new.steps c.specify.result (subst IsSound c.self.view_is c.self.invariant.sound) c.specify.ensures.answer

pub returns-in-Ok-Specification-clause-unloaded : goal.returns-in-Ok-Specification-clause-unloaded
returns-in-Ok-Specification-clause-unloaded g c = λ none.
    let s = contents c.self.inside in
    let x = c.in-Ok-Specification.name in
    let said : Says c.args.command.now c.is_some.result (specification x) = rw c.in-Ok-Specification.field-0-is at c.in-Ok-Specification.ensures.says in
    let e : c.is_some.result ≡ is_open (state_of c.args.self.now) = c.is_some.ensures ∙ sym (open_as s) ∙ ap (λ o. is_open (state_of o)) c.self.view_is in
    c.specify.ensures.unloaded (kept_already (state_of c.args.self.now) c.args.command.now x (subst (λ b. Says c.args.command.now b (specification x)) e said) none)

pub returns-in-Err-Memory-clause-err : goal.returns-in-Err-Memory-clause-err
returns-in-Err-Memory-clause-err g c = stays_itself (contents c.self.inside) c.args.self.now c.self.view_is c.self.invariant
