use Rattle.std.proofs.Common.{refl, sym, ◌∙◌, ap, subst}
use Rattle.ab_session.specs.Contents.{Contents, state_of}
use Rattle.ab_session.specs.Origins.{Precedes, itself}
use Rattle.ab_session.proofs.TakingBack.{reset_answer, back_once_more, at_ok, at_err, not_ok}
use Rattle.ab_session.proofs.session.Session.reset.Goals as goal

pub loop-init : goal.loop-init
loop-init g c = (itself, refl)

pub loop-preserved : goal.loop-preserved
loop-preserved g c = (
  back_once_more c.loop.self c.back.new.self (at_ok c.back.result (sym c.is_ok.ensures.value ∙ c.loop-test.true) c.back.ensures.came) c.args.self.now c.loop.invariant.0,
  c.back.ensures.steps ∙ c.loop.invariant.1,
)

pub returns : goal.returns
returns g c =
    let err = sym c.is_ok.ensures.value ∙ c.loop-test.false in
    let same = at_err c.back.result err c.back.ensures.err in
    reset_answer c.args.self.now c.args.bytes.now c.back.new.self c.args.steps.now c.back.new.steps c.requires c.back.ensures.replayed
    (ap (λ (o : Contents). (state_of o).kept) same ∙ c.back.ensures.nothing.0 (not_ok c.back.result err))
    (subst (λ o. Precedes o c.args.self.now) (sym same) c.loop.invariant.0)
    (c.back.ensures.steps ∙ c.loop.invariant.1)
