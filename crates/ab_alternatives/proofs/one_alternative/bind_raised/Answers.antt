use Rattle.std.proofs.Common.{length, take, ◌∙◌, ap}
use Rattle.std.proofs.lemmas.Result.{on_ok_weaker}
use Rattle.ab_term.specs.Variables.{image}
use Rattle.ab_term.specs.Sameness.{same_number}
use Rattle.ab_norm.specs.ab_store.specs.Trees.{tree_of}
use Rattle.ab_unifiers.specs.Clauses.{put_together}
use Rattle.ab_unify.specs.Problem.{variables_read}
use Rattle.ab_instances.specs.ListReadings.{trees_at}
use Rattle.ab_alternatives.proofs.one_alternative.bind_raised.Goals as goal

pub returns-clause-reads : goal.returns-clause-reads
returns-clause-reads g c =
    let T = c.args.types.now in
    let S = c.args.store.now in
    let ys = c.args.variables.now in
    let terms = c.as_slice-terms.result.now in
    on_ok_weaker c.bind_to.result
    (λ reads G t A is.
    reads G t A is
    ∙ ap (λ ts. image same_number (put_together (variables_read T S (take (length ts) ys)) (trees_at T S ts)) (tree_of T S t)) c.as_slice-terms.ensures.value)
    c.bind_to.ensures.reads
