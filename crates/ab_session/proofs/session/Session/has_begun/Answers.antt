use Rattle.std.specs.Prelude.{slice_get}
use Rattle.std.specs.Option.{option_copied}
use Rattle.std.proofs.Common.{◌≡◌, ◌-◌, length, None, Some, refl, sym, ◌∙◌, ap, subst}
use Rattle.ab_session.specs.Contents.{Contents, contents}
use Rattle.ab_session.specs.Origins.{CameFrom}
use Rattle.ab_session.proofs.Began.{before_begun}
use Rattle.ab_session.proofs.session.Session.has_begun.Goals as goal

pub returns-in-Began-clause-yes : goal.returns-in-Began-clause-yes
returns-in-Began-clause-yes c = λ yes.
    let ks = c.self.inside.kept.items in
    let at : slice_get ks (length ks - 1) ≡ Some c.in-Some.last.now =
    subst (λ xs. slice_get xs (length xs - 1) ≡ Some c.in-Some.last.now) c.deref.ensures.value (sym c.last.ensures.value ∙ ap option_copied c.in-Some.is) in
    subst (λ (o : Contents). (e : Contents) × CameFrom e o × (e.attempt ≡ None)) c.self.view_is
    (before_begun (contents c.self.inside) ks c.in-Some.last.now refl c.self.invariant.remembers at c.in-Began.is)
