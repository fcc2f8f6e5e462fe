use Rattle.std.specs.Prelude.{Err}
use Rattle.std.proofs.Common.{◌∙◌, ap}
use Rattle.ab_session.proofs.Carried.{made_by_search, denied_not_found, denied_not_pattern}
use Rattle.ab_session.proofs.proof_steps.by_search.Goals as goal

pub returns-in-Ok-clause-made : goal.returns-in-Ok-clause-made
returns-in-Ok-clause-made g c l none = made_by_search l c.args.depth c.args.world.now c.search.new.world c.args.proof.now c.search.new.proof c.in-Ok.ensures.closed

pub returns-in-Err-NotFound-clause-denied : goal.returns-in-Err-NotFound-clause-denied
returns-in-Err-NotFound-clause-denied g c l =
    denied_not_found l c.args.depth c.args.world.now c.args.proof.now (c.search.ensures.not_found (c.in-Err-NotFound.is ∙ ap (λ f. Err f) c.in-Err-NotFound.field-0-is))

pub returns-in-Err-NotPattern-clause-denied : goal.returns-in-Err-NotPattern-clause-denied
returns-in-Err-NotPattern-clause-denied g c l =
    let n = c.in-Err-NotPattern.number in
    denied_not_pattern l c.args.depth c.args.world.now c.args.proof.now n (c.search.ensures.not_pattern n (c.in-Err-NotPattern.is ∙ ap (λ f. Err f) c.in-Err-NotPattern.field-0-is))
