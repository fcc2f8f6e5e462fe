use Rattle.std.proofs.Common.{arith}
use Rattle.ab_sigmod.specs.FileLoads.{FilesSeen}
use Rattle.ab_sigmod.specs.Outcomes.{seen}
use Rattle.ab_session.proofs.Carried.{on_error}
use Rattle.ab_session.proofs.Replied.{IsAccepted, accepted_cut, accepted_as_is}
use Rattle.ab_session.proofs.session.Session.accept.Given as given
use Rattle.ab_session.proofs.session.Session.accept.Goals as goal
use Rattle.ab_session.proofs.session.Session.accept.Goals.{then-kept, else-kept}

module _ (g : given.Over) (c : goal.Joined-kept g) where
  -- what was told of the files before, and is told now

  abbrev before : FilesSeen
  before = seen (g.F.Files.files c.args.files.now) (g.F.Files.plan c.args.files.now) (g.F.Files.faults c.args.files.now) (g.F.Files.misses c.args.files.now) (g.F.Files.long_files c.args.files.now)

  abbrev after : FilesSeen
  after = seen (g.F.Files.files c.answer.new.files) (g.F.Files.plan c.answer.new.files) (g.F.Files.faults c.answer.new.files) (g.F.Files.misses c.answer.new.files) (g.F.Files.long_files c.answer.new.files)

  accepted : IsAccepted before after c.args.self.now c.args.command.now c.if-kept.self c.args.steps.now c.if-kept.steps c.in_ok-reply.reply
  accepted =
      let was = c.in_ok-reply.ensures.answer in
      elim c.if-kept.branch [
        | then-kept w ↦
            accepted_cut before after c.args.self.now c.answer.new.self w.drop_leftovers.new.self c.if-kept.self c.args.command.now c.args.steps.now c.answer.new.steps c.if-kept.steps c.in_ok-reply.reply was
            (omega (arith, w.if-kept.true, c.kept-kept.ensures, c.kept.ensures)) w.drop_leftovers.ensures.freed w.drop_leftovers.ensures.declared w.self-is
        | else-kept w ↦
            accepted_as_is before after c.args.self.now c.answer.new.self c.if-kept.self c.args.command.now c.args.steps.now c.answer.new.steps c.if-kept.steps c.in_ok-reply.reply was
            (omega (arith, w.if-kept.false, c.kept-kept.ensures, c.kept.ensures)) w.self-is w.steps-is
      ]

pub returns-clause-effect : goal.returns-clause-effect
returns-clause-effect g c = (accepted g c).replied.effect

pub returns-clause-reply : goal.returns-clause-reply
returns-clause-reply g c = (accepted g c).replied.speaks

pub returns-clause-admitted : goal.returns-clause-admitted
returns-clause-admitted g c = (accepted g c).replied.admitted

pub returns-clause-refused : goal.returns-clause-refused
returns-clause-refused g c = (accepted g c).replied.refused

pub returns-clause-kept : goal.returns-clause-kept
returns-clause-kept g c = (accepted g c).replied.kept

pub returns-clause-least : goal.returns-clause-least
returns-clause-least g c = (accepted g c).least

pub returns-clause-taken_back : goal.returns-clause-taken_back
returns-clause-taken_back g c = (accepted g c).replied.taken_back

pub returns-clause-steps : goal.returns-clause-steps
returns-clause-steps g c = (accepted g c).replied.steps

pub returns-clause-unchanged : goal.returns-clause-unchanged
returns-clause-unchanged g c = (accepted g c).replied.unchanged

pub returns-clause-lasts : goal.returns-clause-lasts
returns-clause-lasts g c = (accepted g c).replied.lasts

pub returns-clause-lasted : goal.returns-clause-lasted
returns-clause-lasted g c = (accepted g c).replied.lasted

pub returns-in_err-reply-clause-err : goal.returns-in_err-reply-clause-err
returns-in_err-reply-clause-err g c = on_error _ c.in_err-reply.ensures.err.state
