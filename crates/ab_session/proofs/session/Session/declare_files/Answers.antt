use Rattle.std.proofs.Common.{List, map, Some, refl, ap, subst}
use Rattle.ab_sigmod.specs.declared.spec.SpecFile.{SpecFile}
use Rattle.ab_sigmod.specs.Outcomes.{read_of, files_of}
use Rattle.ab_states.specs.ab_specification.specs.ab_declare.proofs.Restoring.{restored_grows, restored_declares}
use Rattle.ab_states.specs.ab_specification.specs.SpecificationAnswers.{IsSpecified, IsUnspecified}
use Rattle.ab_states.specs.State.{with_files}
use Rattle.ab_session.specs.declared.command_history.Deed.TheVariants.{Went}
use Rattle.ab_session.specs.declared.command_history.Kept.{Kept}
use Rattle.ab_session.specs.Contents.{contents}
use Rattle.ab_session.proofs.Origins.{pasts}
use Rattle.ab_session.proofs.Carried.{on_error}
use Rattle.ab_session.proofs.Effects.{past_more, session_same, stays_restored, stays_there}
use Rattle.ab_session.proofs.Specified.{session_unspecified, unspecified_so, session_specified, specified_so}
use Rattle.ab_session.proofs.session.Session.declare_files.Goals as goal

pub invariant_of-self-in_err-refusal : goal.invariant_of-self-in_err-refusal
invariant_of-self-in_err-refusal g c =
    let s = contents c.self.inside in
    let w = c.self.inside.world in
    let v = c.declare_specification.new.world in
    let r = c.in_err-refusal.ensures.err in
    session_same s v s.proofs s.attempt (pasts c.make_room.new.kept.items) refl refl (ap pasts c.make_room.ensures.kept) c.self.invariant (restored_grows w v c.self.invariant.sound.world r) (restored_declares w v r)

pub returns-in_err-refusal-clause-err : goal.returns-in_err-refusal-clause-err
returns-in_err-refusal-clause-err g c =
    let s = contents c.self.inside in
    on_error _ (stays_restored s c.args.self.now c.declare_specification.new.world (pasts c.make_room.new.kept.items) c.self.view_is (ap pasts c.make_room.ensures.kept) c.self.invariant c.in_err-refusal.ensures.err)

pub invariant_of-self-in-Some-1 : goal.invariant_of-self-in-Some-1
invariant_of-self-in-Some-1 g c =
    let s = contents c.self.inside in
    let d = subst {A = List SpecFile} (λ xs. IsUnspecified c.self.inside.world c.declare_specification.new.world (map read_of xs) c.in-Some.refusal) c.as_slice.ensures (rw c.in-Some.is at c.in_ok-refusal.ensures.answer) in
    let said = c.requires.said in
    session_unspecified s c.args.self.now c.args.bytes.now said.0 (files_of c.args.spec) c.declare_specification.new.world (pasts c.make_room.new.kept.items) c.self.view_is c.self.invariant said.1 c.requires.first c.in-Some.refusal (ap pasts c.make_room.ensures.kept) d

pub returns-in-Some-clause-answer : goal.returns-in-Some-clause-answer
returns-in-Some-clause-answer g c =
    let s = contents c.self.inside in
    let d = subst {A = List SpecFile} (λ xs. IsUnspecified c.self.inside.world c.declare_specification.new.world (map read_of xs) c.in-Some.refusal) c.as_slice.ensures (rw c.in-Some.is at c.in_ok-refusal.ensures.answer) in
    let said = c.requires.said in
    unspecified_so s c.args.self.now c.args.bytes.now said.0 (files_of c.args.spec) c.declare_specification.new.world (pasts c.make_room.new.kept.items) c.self.view_is c.self.invariant said.1 c.requires.first c.in-Some.refusal (ap pasts c.make_room.ensures.kept) d

pub invariant_of-self-in-None : goal.invariant_of-self-in-None
invariant_of-self-in-None g c =
    let s = contents c.self.inside in
    let d = subst {A = List SpecFile} (λ xs. IsSpecified c.self.inside.world c.declare_specification.new.world (map read_of xs)) c.as_slice.ensures (rw c.in-None.is at c.in_ok-refusal.ensures.answer) in
    let said = c.requires.said in
    let k : Kept = record { bytes = c.in_ok-bytes.bytes; spec = Some c.args.spec; before = c.before-before.result; deed = Went } in
    session_specified s c.args.self.now c.args.bytes.now said.0 (files_of c.args.spec) c.declare_specification.new.world (pasts c.push_reserved.new.self.items) c.self.view_is c.self.invariant said.1 c.requires.first
    d k c.before-before.ensures refl (ap (with_files (files_of c.args.spec)) c.in_ok-bytes.ensures.command)
    (past_more c.self.inside.kept.items c.make_room.new.kept.items c.push_reserved.new.self.items k c.make_room.ensures.kept c.push_reserved.ensures.items)

pub returns-in-None-clause-answer : goal.returns-in-None-clause-answer
returns-in-None-clause-answer g c =
    let s = contents c.self.inside in
    let d = subst {A = List SpecFile} (λ xs. IsSpecified c.self.inside.world c.declare_specification.new.world (map read_of xs)) c.as_slice.ensures (rw c.in-None.is at c.in_ok-refusal.ensures.answer) in
    let said = c.requires.said in
    let k : Kept = record { bytes = c.in_ok-bytes.bytes; spec = Some c.args.spec; before = c.before-before.result; deed = Went } in
    specified_so s c.args.self.now c.args.bytes.now said.0 (files_of c.args.spec) c.declare_specification.new.world (pasts c.push_reserved.new.self.items) c.self.view_is c.self.invariant said.1 c.requires.first
    d k c.before-before.ensures refl (ap (with_files (files_of c.args.spec)) c.in_ok-bytes.ensures.command)
    (past_more c.self.inside.kept.items c.make_room.new.kept.items c.push_reserved.new.self.items k c.make_room.ensures.kept c.push_reserved.ensures.items)

pub returns-in_err-bytes-clause-err : goal.returns-in_err-bytes-clause-err
returns-in_err-bytes-clause-err g c =
    let s = contents c.self.inside in
    on_error _ (stays_there s c.args.self.now s.proofs (pasts c.make_room.new.kept.items) c.self.view_is refl (ap pasts c.make_room.ensures.kept) c.self.invariant)
