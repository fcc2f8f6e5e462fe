use Rattle.std.proofs.Common.{map, refl, ap, None}
use Rattle.ab_grammar.specs.CommandTrees as told
use Rattle.ab_syntax.specs.Commands.{defined_of, clause_of}
use Rattle.ab_states.specs.ab_specification.specs.ab_declare.proofs.Restoring.{restored_grows, restored_declares}
use Rattle.ab_session.specs.declared.command_history.Deed.TheVariants.{Went}
use Rattle.ab_states.specs.State.{plain}
use Rattle.ab_session.specs.declared.command_history.Kept.{Kept}
use Rattle.ab_session.specs.Contents.{contents}
use Rattle.ab_session.proofs.Origins.{pasts}
use Rattle.ab_session.proofs.Carried.{on_error}
use Rattle.ab_session.proofs.Effects.{past_more, session_same, stays_there, stays_restored, session_declined, declined_so, session_declared_so, declared_so}
use Rattle.ab_session.proofs.session.Session.declare_definition.Goals as goal

pub invariant_of-self-in_err-refusal : goal.invariant_of-self-in_err-refusal
invariant_of-self-in_err-refusal g c =
    let s = contents c.self.inside in
    let w = c.self.inside.world in
    let v = c.declare_definition.new.world in
    let r = c.in_err-refusal.ensures.err in
    session_same s v s.proofs s.attempt (pasts c.make_room.new.kept.items) refl refl (ap pasts c.make_room.ensures.kept) c.self.invariant (restored_grows w v c.self.invariant.sound.world r) (restored_declares w v r)

pub returns-in_err-refusal-clause-err : goal.returns-in_err-refusal-clause-err
returns-in_err-refusal-clause-err g c =
    let s = contents c.self.inside in
    on_error _ (stays_restored s c.args.self.now c.declare_definition.new.world (pasts c.make_room.new.kept.items) c.self.view_is (ap pasts c.make_room.ensures.kept) c.self.invariant c.in_err-refusal.ensures.err)

pub invariant_of-self-in-Some-1 : goal.invariant_of-self-in-Some-1
invariant_of-self-in-Some-1 g c =
    let s = contents c.self.inside in
    let d = rw c.in-Some.is at c.in_ok-refusal.ensures.answer in
    let said = told.define c.args.inductive (map defined_of c.args.predicates.now) (map clause_of c.args.clauses.now) in
    session_declined s c.args.self.now c.args.bytes.now said c.declare_definition.new.world (pasts c.make_room.new.kept.items) c.self.view_is c.self.invariant c.requires c.in-Some.refusal (ap pasts c.make_room.ensures.kept) d

pub invariant_of-self-in-None : goal.invariant_of-self-in-None
invariant_of-self-in-None g c =
    let s = contents c.self.inside in
    let d = rw c.in-None.is at c.in_ok-refusal.ensures.answer in
    let said = told.define c.args.inductive (map defined_of c.args.predicates.now) (map clause_of c.args.clauses.now) in
    let k : Kept = record { bytes = c.in_ok-bytes.bytes; spec = None; before = c.before-before.result; deed = Went } in
    session_declared_so s c.args.self.now c.args.bytes.now said c.declare_definition.new.world (pasts c.keep.new.kept.items) c.self.view_is c.self.invariant c.requires refl d k c.before-before.ensures refl (ap plain c.in_ok-bytes.ensures.command)
    (past_more c.self.inside.kept.items c.make_room.new.kept.items c.keep.new.kept.items k c.make_room.ensures.kept c.keep.ensures)

pub returns-in-Some-clause-answer : goal.returns-in-Some-clause-answer
returns-in-Some-clause-answer g c =
    let s = contents c.self.inside in
    let d = rw c.in-Some.is at c.in_ok-refusal.ensures.answer in
    let said = told.define c.args.inductive (map defined_of c.args.predicates.now) (map clause_of c.args.clauses.now) in
    declined_so s c.args.self.now c.args.bytes.now said c.declare_definition.new.world (pasts c.make_room.new.kept.items) c.self.view_is c.self.invariant c.requires c.in-Some.refusal (ap pasts c.make_room.ensures.kept) d

pub returns-in-None-clause-answer : goal.returns-in-None-clause-answer
returns-in-None-clause-answer g c =
    let s = contents c.self.inside in
    let d = rw c.in-None.is at c.in_ok-refusal.ensures.answer in
    let said = told.define c.args.inductive (map defined_of c.args.predicates.now) (map clause_of c.args.clauses.now) in
    let k : Kept = record { bytes = c.in_ok-bytes.bytes; spec = None; before = c.before-before.result; deed = Went } in
    declared_so s c.args.self.now c.args.bytes.now said c.declare_definition.new.world (pasts c.keep.new.kept.items) c.self.view_is c.self.invariant c.requires refl d k c.before-before.ensures refl (ap plain c.in_ok-bytes.ensures.command)
    (past_more c.self.inside.kept.items c.make_room.new.kept.items c.keep.new.kept.items k c.make_room.ensures.kept c.keep.ensures)

pub returns-in_err-bytes-clause-err : goal.returns-in_err-bytes-clause-err
returns-in_err-bytes-clause-err g c =
    let s = contents c.self.inside in
    on_error _ (stays_there s c.args.self.now s.proofs (pasts c.make_room.new.kept.items) c.self.view_is refl (ap pasts c.make_room.ensures.kept) c.self.invariant)
