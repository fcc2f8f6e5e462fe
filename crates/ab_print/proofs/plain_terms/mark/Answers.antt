use Rattle.std.proofs.Common.{◌∙◌, arith}
use Rattle.ab_print.proofs.Seeing.{marked}
use Rattle.ab_print.proofs.plain_terms.mark.Goals as goal

pub returns-in_ok-push-in-Index-clause-bound : goal.returns-in_ok-push-in-Index-clause-bound
returns-in_ok-push-in-Index-clause-bound c =
    marked c.args.bound.now.items c.index_mut.result.now c.push.new.self c.args.head c.in-Index.index c.len-in-Index.result c.args.place c.in-Index.is (c.len-in-Index.ensures ∙ c.args.bound.now.ok.0) (omega arith) c.index_mut.ensures.value
    c.in_ok-push-in-Index.ensures.items
