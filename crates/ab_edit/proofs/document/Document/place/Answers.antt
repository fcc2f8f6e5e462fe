use Rattle.std.proofs.Common.{ap, ◌∙◌}
use Rattle.ab_edit.specs.Prefixes.{place_of}
use Rattle.ab_edit.specs.State.{last_of}
use Rattle.ab_edit.proofs.Steps.{last_is_place}
use Rattle.ab_edit.proofs.document.Document.place.Goals as goal

pub returns : goal.returns
returns g c =
    c.end_of_last.ensures
    ∙ (ap last_of c.deref.ensures.value
    ∙ (ap last_of c.self.invariant.ends_are
    ∙ (last_is_place (g.R.Replay.kept c.self.inside.replay) ∙ ap (λ d. place_of (g.R.Replay.kept d.replay)) c.self.view_is)))
