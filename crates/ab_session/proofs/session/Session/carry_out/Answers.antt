use Rattle.ab_session.proofs.Effects.{quit_answer}
use Rattle.ab_session.proofs.TakingBack.{answered, if_answered}
use Rattle.ab_states.specs.declared.reply.Reply.TheVariants.{Quit}
use Rattle.ab_session.proofs.session.Session.carry_out.Goals as goal

pub returns-in-Kind-clause-answer : goal.returns-in-Kind-clause-answer
returns-in-Kind-clause-answer g c =
    if_answered c.args.self.now c.declare_kinds.new.self c.args.bytes.now c.args.steps.now c.declare_kinds.new.steps c.declare_kinds.result c.declare_kinds.ensures.answer

pub returns-in-Typed-clause-answer : goal.returns-in-Typed-clause-answer
returns-in-Typed-clause-answer g c =
    if_answered c.args.self.now c.declare_constants.new.self c.args.bytes.now c.args.steps.now c.declare_constants.new.steps c.declare_constants.result c.declare_constants.ensures.answer

pub returns-in-Define-clause-answer : goal.returns-in-Define-clause-answer
returns-in-Define-clause-answer g c =
    if_answered c.args.self.now c.declare_definition.new.self c.args.bytes.now c.args.steps.now c.declare_definition.new.steps c.declare_definition.result c.declare_definition.ensures.answer

pub returns-in-Theorem-clause-answer : goal.returns-in-Theorem-clause-answer
returns-in-Theorem-clause-answer g c =
    if_answered c.args.self.now c.state_theorem.new.self c.args.bytes.now c.args.steps.now c.state_theorem.new.steps c.state_theorem.result c.state_theorem.ensures.answer

pub returns-in-Show-clause-answer : goal.returns-in-Show-clause-answer
returns-in-Show-clause-answer g c =
    if_answered c.args.self.now c.args.self.now c.args.bytes.now c.args.steps.now c.args.steps.now c.show.result c.show.ensures.answer

pub returns-in-Quit-clause-answer : goal.returns-in-Quit-clause-answer
returns-in-Quit-clause-answer g c =
    answered c.args.self.now c.args.self.now c.args.bytes.now c.args.steps.now c.args.steps.now Quit (quit_answer c.args.self.now c.args.bytes.now (rw c.in-Quit.is at c.requires.said))

pub returns-in-Subgoals-clause-answer : goal.returns-in-Subgoals-clause-answer
returns-in-Subgoals-clause-answer g c =
    if_answered c.args.self.now c.set_subgoals.new.self c.args.bytes.now c.args.steps.now c.args.steps.now c.set_subgoals.result c.set_subgoals.ensures.answer

pub returns-in-Abort-clause-answer : goal.returns-in-Abort-clause-answer
returns-in-Abort-clause-answer g c =
    if_answered c.args.self.now c.abort.new.self c.args.bytes.now c.args.steps.now c.args.steps.now c.abort.result c.abort.ensures.answer

pub returns-in-InProof-clause-answer : goal.returns-in-InProof-clause-answer
returns-in-InProof-clause-answer g c =
    if_answered c.args.self.now c.prove.new.self c.args.bytes.now c.args.steps.now c.prove.new.steps c.prove.result c.prove.ensures.answer
