use Rattle.std.proofs.Common.{refl, sym, ◌∙◌}
use Rattle.ab_session.specs.Contents.{contents}
use Rattle.ab_session.proofs.Carried.{on_error}
use Rattle.ab_session.proofs.Effects.{stays_itself}
use Rattle.ab_session.proofs.Specified.{twice_answer, unread_answer, if_read_answer}
use Rattle.ab_session.proofs.session.Session.specify.Goals as goal

pub returns-then-is_specified-clause-answer : goal.returns-then-is_specified-clause-answer
returns-then-is_specified-clause-answer g c =
    twice_answer _ _ c.args.self.now c.args.bytes.now c.args.name.now c.requires c.in_ok-copy.copy c.in_ok-copy.ensures refl (sym c.is_specified.ensures ∙ c.if-is_specified.true)

pub declare_files-requires : goal.declare_files-requires
declare_files-requires g c = record { said = (c.args.name.now, c.requires); first = sym c.is_specified.ensures ∙ c.if-is_specified.false }

pub returns-in-Ok-clause-answer : goal.returns-in-Ok-clause-answer
returns-in-Ok-clause-answer g c =
    if_read_answer _ _ c.args.self.now c.args.bytes.now c.args.name.now c.requires (sym c.is_specified.ensures ∙ c.if-is_specified.false) c.in-Ok.spec c.declare_files.new.self c.declare_files.result
    c.in-Ok.ensures.read c.declare_files.ensures.answer

pub returns-in_ok-files_unread-in-Err-clause-answer : goal.returns-in_ok-files_unread-in-Err-clause-answer
returns-in_ok-files_unread-in-Err-clause-answer g c =
    let t = c.in_ok-files_unread-in-Err.ensures in
    unread_answer _ _ c.args.self.now c.args.bytes.now c.args.name.now c.requires (sym c.is_specified.ensures ∙ c.if-is_specified.false) t.0 _ (c.in-Err.ensures.refused t.0 t.1) t.2

pub returns-in_err-copy-clause-err : goal.returns-in_err-copy-clause-err
returns-in_err-copy-clause-err g c = on_error _ (stays_itself (contents c.self.inside) c.args.self.now c.self.view_is c.self.invariant)

pub returns-in_err-files_unread-in-Err-clause-err : goal.returns-in_err-files_unread-in-Err-clause-err
returns-in_err-files_unread-in-Err-clause-err g c = on_error _ (stays_itself (contents c.self.inside) c.args.self.now c.self.view_is c.self.invariant)
