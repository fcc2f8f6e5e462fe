use Rattle.std.proofs.Common.{refl, ap, None}
use Rattle.ab_grammar.specs.CommandTrees as told
use Rattle.ab_syntax.specs.ab_expressions.specs.SyntaxTrees as trees
use Rattle.ab_states.specs.ab_specification.specs.ab_declare.proofs.Restoring.{restored_grows, restored_declares}
use Rattle.ab_session.specs.declared.command_history.Deed.TheVariants.{Began}
use Rattle.ab_states.specs.State.{plain}
use Rattle.ab_session.specs.declared.command_history.Kept.{Kept}
use Rattle.ab_session.specs.Contents.{contents}
use Rattle.ab_session.proofs.Origins.{pasts}
use Rattle.ab_session.proofs.Carried.{on_error}
use Rattle.ab_session.proofs.Effects.{past_more, session_same, stays_so, stays_there, stays_restored, session_declined, declined_so}
use Rattle.ab_session.proofs.KeptCommands.{session_stated_so, stated_so}
use Rattle.ab_session.proofs.session.Session.state_theorem.Goals as goal

pub invariant_of-self-in_err-refusal : goal.invariant_of-self-in_err-refusal
invariant_of-self-in_err-refusal g c =
    let s = contents c.self.inside in
    let w = c.self.inside.world in
    let v = c.state_formula.new.world in
    let r = c.in_err-refusal.ensures.err in
    session_same s v s.proofs s.attempt (pasts c.make_room.new.kept.items) refl refl (ap pasts c.make_room.ensures.kept) c.self.invariant (restored_grows w v c.self.invariant.sound.world r) (restored_declares w v r)

pub returns-in_err-refusal-clause-err : goal.returns-in_err-refusal-clause-err
returns-in_err-refusal-clause-err g c =
    let s = contents c.self.inside in
    on_error _ (stays_restored s c.args.self.now c.state_formula.new.world (pasts c.make_room.new.kept.items) c.self.view_is (ap pasts c.make_room.ensures.kept) c.self.invariant c.in_err-refusal.ensures.err)

pub invariant_of-self-in-Refused-1 : goal.invariant_of-self-in-Refused-1
invariant_of-self-in-Refused-1 g c =
    let s = contents c.self.inside in
    let d = rw c.in-Refused.is at c.in_ok-refusal.ensures.answer in
    session_declined s c.args.self.now c.args.bytes.now (told.theorem c.args.name.now (trees.tree_of c.args.parse.now)) c.state_formula.new.world (pasts c.make_room.new.kept.items) c.self.view_is c.self.invariant c.requires c.in-Refused.refusal (ap pasts c.make_room.ensures.kept) d

pub returns-in-Refused-clause-answer : goal.returns-in-Refused-clause-answer
returns-in-Refused-clause-answer g c =
    let s = contents c.self.inside in
    let d = rw c.in-Refused.is at c.in_ok-refusal.ensures.answer in
    declined_so s c.args.self.now c.args.bytes.now (told.theorem c.args.name.now (trees.tree_of c.args.parse.now)) c.state_formula.new.world (pasts c.make_room.new.kept.items) c.self.view_is c.self.invariant c.requires c.in-Refused.refusal (ap pasts c.make_room.ensures.kept) d

pub invariant_of-self-in_err-proof-in-Formula : goal.invariant_of-self-in_err-proof-in-Formula
invariant_of-self-in_err-proof-in-Formula g c =
    let s = contents c.self.inside in
    let d = rw c.in-Formula.is at c.in_ok-refusal.ensures.answer in
    session_same s c.state_formula.new.world s.proofs s.attempt (pasts c.make_room.new.kept.items) refl refl (ap pasts c.make_room.ensures.kept) c.self.invariant d.grows d.declared

pub returns-in_err-proof-in-Formula-clause-err : goal.returns-in_err-proof-in-Formula-clause-err
returns-in_err-proof-in-Formula-clause-err g c =
    let s = contents c.self.inside in
    let d = rw c.in-Formula.is at c.in_ok-refusal.ensures.answer in
    on_error _
    (stays_so s c.args.self.now c.state_formula.new.world s.proofs s.attempt (pasts c.make_room.new.kept.items) c.self.view_is refl refl (ap pasts c.make_room.ensures.kept) c.self.invariant d.grows d.declared)

pub invariant_of-self-in-Formula : goal.invariant_of-self-in-Formula
invariant_of-self-in-Formula g c =
    let s = contents c.self.inside in
    let d = rw c.in-Formula.is at c.in_ok-refusal.ensures.answer in
    let k : Kept = record { bytes = c.in_ok-bytes.bytes; spec = None; before = c.before-before.result; deed = Began } in
    session_stated_so s c.args.self.now c.args.bytes.now k (pasts c.keep.new.kept.items) c.self.view_is c.self.invariant c.before-before.ensures (ap plain c.in_ok-bytes.ensures.command)
    (past_more c.self.inside.kept.items c.make_room.new.kept.items c.keep.new.kept.items k c.make_room.ensures.kept c.keep.ensures)
    c.args.name.now c.in_ok-copy.copy (trees.tree_of c.args.parse.now) c.in-Formula.formula c.state_formula.new.world c.in_ok-proof-in-Formula.proof
    c.in_ok-copy.ensures d c.in_ok-proof-in-Formula.ensures.proof c.in_ok-proof-in-Formula.ensures.begins refl c.requires

pub returns-in_ok-proof-in-Formula-clause-answer : goal.returns-in_ok-proof-in-Formula-clause-answer
returns-in_ok-proof-in-Formula-clause-answer g c =
    let s = contents c.self.inside in
    let d = rw c.in-Formula.is at c.in_ok-refusal.ensures.answer in
    let k : Kept = record { bytes = c.in_ok-bytes.bytes; spec = None; before = c.before-before.result; deed = Began } in
    stated_so s c.args.self.now c.args.bytes.now k (pasts c.keep.new.kept.items) c.self.view_is c.self.invariant c.before-before.ensures (ap plain c.in_ok-bytes.ensures.command)
    (past_more c.self.inside.kept.items c.make_room.new.kept.items c.keep.new.kept.items k c.make_room.ensures.kept c.keep.ensures)
    c.args.name.now c.in_ok-copy.copy (trees.tree_of c.args.parse.now) c.in-Formula.formula c.state_formula.new.world c.in_ok-proof-in-Formula.proof
    c.in_ok-copy.ensures d c.in_ok-proof-in-Formula.ensures.proof c.in_ok-proof-in-Formula.ensures.begins refl c.requires

pub returns-in_err-bytes-clause-err : goal.returns-in_err-bytes-clause-err
returns-in_err-bytes-clause-err g c =
    let s = contents c.self.inside in
    on_error _ (stays_there s c.args.self.now s.proofs (pasts c.make_room.new.kept.items) c.self.view_is refl (ap pasts c.make_room.ensures.kept) c.self.invariant)

pub returns-in_err-copy-clause-err : goal.returns-in_err-copy-clause-err
returns-in_err-copy-clause-err g c =
    let s = contents c.self.inside in
    on_error _ (stays_there s c.args.self.now s.proofs (pasts c.make_room.new.kept.items) c.self.view_is refl (ap pasts c.make_room.ensures.kept) c.self.invariant)
