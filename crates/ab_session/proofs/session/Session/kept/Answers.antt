use Rattle.std.proofs.Common.{length, sym, ◌∙◌, ap}
use Rattle.ab_session.specs.Contents.{Contents, state_of}
use Rattle.ab_session.proofs.TakingBack.{kept_many}
use Rattle.ab_session.proofs.session.Session.kept.Goals as goal

pub returns : goal.returns
returns c = c.len.ensures ∙ c.self.inside.kept.ok.0 ∙ sym (kept_many c.self.inside.kept.items) ∙ ap (λ (o : Contents). length (state_of o).kept) c.self.view_is
