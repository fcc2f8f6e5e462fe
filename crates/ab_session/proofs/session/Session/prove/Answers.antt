use Rattle.std.specs.Option.{option_copied}
use Rattle.std.proofs.Common.{◌≡◌, Some, None, [], ◌∷◌, ◌++◌, refl, sym, ◌∙◌, ap, subst}
use Rattle.ab_grammar.specs.CommandTrees as told
use Rattle.ab_syntax.specs.Commands.{proof_command_of}
use Rattle.ab_states.specs.declared.reply.Reply.TheVariants.{Refused}
use Rattle.ab_session.specs.declared.command_history.Deed.TheVariants.{Went, Completed}
use Rattle.ab_states.specs.State.{plain}
use Rattle.ab_session.specs.declared.command_history.Kept.{Kept}
use Rattle.ab_session.specs.Contents.{contents}
use Rattle.ab_session.proofs.Origins.{pasts}
use Rattle.ab_session.specs.SessionAnswers.{IsForwardAnswer}
use Rattle.ab_session.proofs.Sayings.{some_tried}
use Rattle.ab_session.proofs.Origins.{attempt_is}
use Rattle.ab_session.proofs.Carried.{on_error}
use Rattle.ab_session.proofs.Effects.{made, past_more, seen, meant, session_same, stays_so, stays_there, denied_answer}
use Rattle.ab_session.proofs.KeptCommands.{session_led, led_so, session_proved, proved_so}
use Rattle.ab_session.proofs.session.Session.prove.Goals as goal

pub unreachable-requires : goal.unreachable-requires
unreachable-requires g c =
    let s = contents c.self.inside in
    let none : s.attempt ≡ None = sym c.take.ensures.value ∙ c.in_default.is in
    some_tried s c.args.bytes.now (told.in_proof (option_copied c.args.label) (proof_command_of c.args.command.now)) (meant s c.args.self.now c.args.bytes.now (told.in_proof (option_copied c.args.label) (proof_command_of c.args.command.now)) c.self.view_is c.requires) refl none

pub invariant_of-self-in-Ok-Completed : goal.invariant_of-self-in-Ok-Completed
invariant_of-self-in-Ok-Completed g c =
    let s = contents c.self.inside in
    let v = c.advance.new.world in
    let b = c.advance.new.attempt in
    let here : s.attempt ≡ Some c.in-Some.attempt = sym c.take.ensures.value ∙ c.in-Some.is in
    let k : Kept = record { bytes = c.in_ok-bytes.bytes; spec = None; before = c.before-before.result; deed = Completed c.advance.new.attempt.name c.advance.new.attempt.formula } in
    let d = rw c.in-Ok-Completed.field-0-is at c.in-Ok-Completed.ensures.advanced in
    session_proved s c.args.self.now c.args.bytes.now k (pasts c.keep.new.kept.items) c.self.view_is c.self.invariant c.before-before.ensures (ap plain c.in_ok-bytes.ensures.command)
    (past_more c.self.inside.kept.items c.make_room.new.kept.items c.keep.new.kept.items k c.make_room.ensures.kept c.keep.ensures)
    (option_copied c.args.label) (proof_command_of c.args.command.now) c.in-Some.attempt here c.requires v b c.push_reserved.new.self.items _ c.take.ensures.after (c.push_reserved.ensures.items ∙ ap (λ qs. qs ++ b.proof ∷ []) c.reserve.ensures.items) c.in-Ok-Completed.reply d b.name d.name refl

pub invariant_of-self-in-Ok-Left : goal.invariant_of-self-in-Ok-Left
invariant_of-self-in-Ok-Left g c =
    let s = contents c.self.inside in
    let v = c.advance.new.world in
    let b = c.advance.new.attempt in
    let here : s.attempt ≡ Some c.in-Some.attempt = sym c.take.ensures.value ∙ c.in-Some.is in
    let k : Kept = record { bytes = c.in_ok-bytes.bytes; spec = None; before = c.before-before.result; deed = Went } in
    let d = rw c.in-Ok-Left.field-0-is at c.in-Ok-Left.ensures.advanced in
    session_led s c.args.self.now c.args.bytes.now k (pasts c.keep-in-Ok-Left.new.kept.items) c.self.view_is c.self.invariant c.before-before.ensures (ap plain c.in_ok-bytes.ensures.command)
    (past_more c.self.inside.kept.items c.make_room.new.kept.items c.keep-in-Ok-Left.new.kept.items k c.make_room.ensures.kept c.keep-in-Ok-Left.ensures)
    (option_copied c.args.label) (proof_command_of c.args.command.now) c.in-Some.attempt here c.requires v b c.reserve.new.self.items c.reserve.ensures.items d refl

pub invariant_of-self-in-Refused-1 : goal.invariant_of-self-in-Refused-1
invariant_of-self-in-Refused-1 g c =
    let s = contents c.self.inside in
    let v = c.advance.new.world in
    let a = c.in-Some.attempt in
    let b = c.advance.new.attempt in
    let here : s.attempt ≡ Some a = sym c.take.ensures.value ∙ c.in-Some.is in
    let u = (rw c.in-Ok-Refused.field-0-is at c.in-Ok-Refused.ensures.advanced).unchanged in
    let back = ap Some (attempt_is a b u.name u.formula u.proof) ∙ sym here in
    session_same s v c.reserve.new.self.items (Some b) (pasts c.make_room.new.kept.items) c.reserve.ensures.items back (ap pasts c.make_room.ensures.kept) c.self.invariant u.grows u.declared

pub invariant_of-self-in-Err-1 : goal.invariant_of-self-in-Err-1
invariant_of-self-in-Err-1 g c =
    let s = contents c.self.inside in
    let v = c.advance.new.world in
    let a = c.in-Some.attempt in
    let b = c.advance.new.attempt in
    let here : s.attempt ≡ Some a = sym c.take.ensures.value ∙ c.in-Some.is in
    let u = c.in-Err.ensures.err in
    let back = ap Some (attempt_is a b u.name u.formula u.proof) ∙ sym here in
    session_same s v c.reserve.new.self.items (Some b) (pasts c.make_room.new.kept.items) c.reserve.ensures.items back (ap pasts c.make_room.ensures.kept) c.self.invariant u.grows u.declared

pub returns-in-Err-clause-err : goal.returns-in-Err-clause-err
returns-in-Err-clause-err g c =
    let s = contents c.self.inside in
    let v = c.advance.new.world in
    let a = c.in-Some.attempt in
    let b = c.advance.new.attempt in
    let here : s.attempt ≡ Some a = sym c.take.ensures.value ∙ c.in-Some.is in
    let u = c.in-Err.ensures.err in
    let back = ap Some (attempt_is a b u.name u.formula u.proof) ∙ sym here in
    stays_so s c.args.self.now v c.reserve.new.self.items (Some b) (pasts c.make_room.new.kept.items) c.self.view_is c.reserve.ensures.items back (ap pasts c.make_room.ensures.kept) c.self.invariant u.grows u.declared

pub returns-in-Ok-Completed-clause-answer : goal.returns-in-Ok-Completed-clause-answer
returns-in-Ok-Completed-clause-answer g c =
    let s = contents c.self.inside in
    let v = c.advance.new.world in
    let b = c.advance.new.attempt in
    let here : s.attempt ≡ Some c.in-Some.attempt = sym c.take.ensures.value ∙ c.in-Some.is in
    let k : Kept = record { bytes = c.in_ok-bytes.bytes; spec = None; before = c.before-before.result; deed = Completed c.advance.new.attempt.name c.advance.new.attempt.formula } in
    let d = rw c.in-Ok-Completed.field-0-is at c.in-Ok-Completed.ensures.advanced in
    proved_so s c.args.self.now c.args.bytes.now k (pasts c.keep.new.kept.items) c.self.view_is c.self.invariant c.before-before.ensures (ap plain c.in_ok-bytes.ensures.command)
    (past_more c.self.inside.kept.items c.make_room.new.kept.items c.keep.new.kept.items k c.make_room.ensures.kept c.keep.ensures)
    (option_copied c.args.label) (proof_command_of c.args.command.now) c.in-Some.attempt here c.requires v b c.push_reserved.new.self.items _ c.take.ensures.after (c.push_reserved.ensures.items ∙ ap (λ qs. qs ++ b.proof ∷ []) c.reserve.ensures.items) c.in-Ok-Completed.reply d b.name d.name refl

pub returns-in-Ok-Left-clause-answer : goal.returns-in-Ok-Left-clause-answer
returns-in-Ok-Left-clause-answer g c =
    let s = contents c.self.inside in
    let v = c.advance.new.world in
    let b = c.advance.new.attempt in
    let here : s.attempt ≡ Some c.in-Some.attempt = sym c.take.ensures.value ∙ c.in-Some.is in
    let k : Kept = record { bytes = c.in_ok-bytes.bytes; spec = None; before = c.before-before.result; deed = Went } in
    let d = rw c.in-Ok-Left.field-0-is at c.in-Ok-Left.ensures.advanced in
    led_so s c.args.self.now c.args.bytes.now k (pasts c.keep-in-Ok-Left.new.kept.items) c.self.view_is c.self.invariant c.before-before.ensures (ap plain c.in_ok-bytes.ensures.command)
    (past_more c.self.inside.kept.items c.make_room.new.kept.items c.keep-in-Ok-Left.new.kept.items k c.make_room.ensures.kept c.keep-in-Ok-Left.ensures)
    (option_copied c.args.label) (proof_command_of c.args.command.now) c.in-Some.attempt here c.requires v b c.reserve.new.self.items c.reserve.ensures.items d refl

pub returns-in-Ok-Refused-clause-answer : goal.returns-in-Ok-Refused-clause-answer
returns-in-Ok-Refused-clause-answer g c =
    let s = contents c.self.inside in
    let v = c.advance.new.world in
    let b = c.advance.new.attempt in
    let here : s.attempt ≡ Some c.in-Some.attempt = sym c.take.ensures.value ∙ c.in-Some.is in
    let said = meant s c.args.self.now c.args.bytes.now (told.in_proof (option_copied c.args.label) (proof_command_of c.args.command.now)) c.self.view_is c.requires in
    let d = rw c.in-Ok-Refused.field-0-is at c.in-Ok-Refused.ensures.advanced in
    subst (λ ps. IsForwardAnswer c.args.self.now c.args.bytes.now (made v ps (Some b) s.all_subgoals (pasts c.make_room.new.kept.items)) (Refused c.in-Ok-Refused.refusal)) (sym c.reserve.ensures.items)
    (seen s c.args.self.now c.args.bytes.now (made v s.proofs (Some b) s.all_subgoals (pasts c.make_room.new.kept.items)) (Refused c.in-Ok-Refused.refusal) c.self.view_is
    (denied_answer s c.args.bytes.now (option_copied c.args.label) (proof_command_of c.args.command.now) c.in-Some.attempt c.self.invariant.sound here said v b c.in-Ok-Refused.refusal (pasts c.make_room.new.kept.items) (ap pasts c.make_room.ensures.kept) d))

pub returns-in_err-bytes-clause-err : goal.returns-in_err-bytes-clause-err
returns-in_err-bytes-clause-err g c =
    let s = contents c.self.inside in
    on_error _ (stays_there s c.args.self.now s.proofs (pasts c.make_room.new.kept.items) c.self.view_is refl (ap pasts c.make_room.ensures.kept) c.self.invariant)

pub returns-in_err-reserve-clause-err : goal.returns-in_err-reserve-clause-err
returns-in_err-reserve-clause-err g c =
    let s = contents c.self.inside in
    on_error _ (stays_there s c.args.self.now c.reserve.new.self.items (pasts c.make_room.new.kept.items) c.self.view_is c.reserve.ensures.items (ap pasts c.make_room.ensures.kept) c.self.invariant)
