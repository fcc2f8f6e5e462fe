use Rattle.std.proofs.Common.{refl, sym, ◌∙◌, ap}
use Rattle.ab_grammar.specs.CommandTrees as told
use Rattle.ab_session.specs.Contents.{Contents}
use Rattle.ab_session.proofs.Sayings.{some_tried}
use Rattle.ab_session.proofs.TakingBack.{undo_answer, began_answer}
use Rattle.ab_session.proofs.session.Session.undo.Goals as goal

pub returns-then-has_begun : goal.returns-then-has_begun
returns-then-has_begun g c =
    let e = c.has_begun.ensures.yes c.if-has_begun.true in
    began_answer c.args.self.now c.args.bytes.now c.args.steps.now c.args.steps.now e.0 c.requires e.1 e.2

pub unreachable-requires : goal.unreachable-requires
unreachable-requires g c =
    let none = ap (λ (t : Contents). t.attempt) (sym c.in-Err-NothingToUndo.ensures.err) ∙ c.in-Err-NothingToUndo.ensures.closed in
    some_tried c.args.self.now c.args.bytes.now told.undo c.requires refl none

pub returns : goal.returns
returns g c =
    undo_answer c.args.self.now c.args.bytes.now c.back.new.self c.args.steps.now c.back.new.steps c.requires c.in-Ok.ensures.came
    (λ there. c.has_begun.ensures.no c.back.new.self c.if-has_begun.false there c.in-Ok.ensures.came) c.back.ensures.steps
