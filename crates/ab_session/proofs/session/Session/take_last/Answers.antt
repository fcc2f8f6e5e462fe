use Rattle.std.proofs.Common.{ap}
use Rattle.std.specs.Prelude.{is_err}
use Rattle.ab_session.proofs.TakingBack.{back_answer, nothing_answer}
use Rattle.ab_session.proofs.session.Session.take_last.Goals as goal

pub returns-in-Ok : goal.returns-in-Ok
returns-in-Ok g c = back_answer c.args.self.now c.args.bytes.now c.back.new.self c.args.steps.now c.back.new.steps c.requires c.in-Ok.ensures.came c.back.ensures.steps

pub returns-in-Err-NothingToUndo : goal.returns-in-Err-NothingToUndo
returns-in-Err-NothingToUndo g c =
    nothing_answer c.args.self.now c.args.bytes.now c.back.new.self c.args.steps.now c.back.new.steps c.in-Err-NothingToUndo.ensures.err c.requires (c.back.ensures.nothing.0 (ap is_err c.in-Err-NothingToUndo.is))
