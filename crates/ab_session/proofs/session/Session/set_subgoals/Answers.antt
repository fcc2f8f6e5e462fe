use Rattle.std.proofs.Common.{refl, None, ap}
use Rattle.ab_session.specs.declared.command_history.Deed.TheVariants.{Went}
use Rattle.ab_states.specs.State.{plain}
use Rattle.ab_session.specs.declared.command_history.Kept.{Kept}
use Rattle.ab_session.specs.Contents.{contents}
use Rattle.ab_session.proofs.Origins.{pasts}
use Rattle.ab_session.proofs.Carried.{on_error}
use Rattle.ab_session.proofs.Effects.{past_more, stays_there}
use Rattle.ab_session.proofs.KeptCommands.{session_switched, switched_so}
use Rattle.ab_session.proofs.session.Session.set_subgoals.Goals as goal

pub invariant_of-self-2 : goal.invariant_of-self-2
invariant_of-self-2 c =
    let s = contents c.self.inside in
    let k : Kept = record { bytes = c.in_ok-bytes.bytes; spec = None; before = c.before-before.result; deed = Went } in
    session_switched s c.args.self.now c.args.bytes.now k (pasts c.keep.new.kept.items) c.self.view_is c.self.invariant c.before-before.ensures (ap plain c.in_ok-bytes.ensures.command)
    (past_more c.self.inside.kept.items c.make_room.new.kept.items c.keep.new.kept.items k c.make_room.ensures.kept c.keep.ensures) c.args.on refl c.requires

pub returns-clause-answer : goal.returns-clause-answer
returns-clause-answer c =
    let s = contents c.self.inside in
    let k : Kept = record { bytes = c.in_ok-bytes.bytes; spec = None; before = c.before-before.result; deed = Went } in
    switched_so s c.args.self.now c.args.bytes.now k (pasts c.keep.new.kept.items) c.self.view_is c.self.invariant c.before-before.ensures (ap plain c.in_ok-bytes.ensures.command)
    (past_more c.self.inside.kept.items c.make_room.new.kept.items c.keep.new.kept.items k c.make_room.ensures.kept c.keep.ensures) c.args.on refl c.requires

pub returns-in_err-bytes-clause-err : goal.returns-in_err-bytes-clause-err
returns-in_err-bytes-clause-err c =
    let s = contents c.self.inside in
    on_error _ (stays_there s c.args.self.now s.proofs (pasts c.make_room.new.kept.items) c.self.view_is refl (ap pasts c.make_room.ensures.kept) c.self.invariant)
