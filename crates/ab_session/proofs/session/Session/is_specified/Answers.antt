use Rattle.std.proofs.Common.{sym, ◌∙◌, ap}
use Rattle.std.specs.List.{list_any}
use Rattle.ab_states.specs.State.{is_specified}
use Rattle.ab_session.specs.Contents.{Contents, state_of}
use Rattle.ab_session.proofs.KeptFiles.{has_files, any_of}
use Rattle.ab_session.proofs.session.Session.is_specified.Goals as goal

pub returns : goal.returns
returns c =
    c.reads_files.ensures ∙ ap (list_any has_files) c.deref.ensures.value ∙ sym (any_of c.self.inside.kept.items)
    ∙ ap (λ (o : Contents). is_specified (state_of o)) c.self.view_is
