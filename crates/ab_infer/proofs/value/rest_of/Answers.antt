use Rattle.std.proofs.Common.{ap, sym, ◌∙◌}
use Rattle.ab_norm.specs.ab_types.specs.Ids.{kind_of}
use Rattle.ab_meaning.specs.Normal.{left_type}
use Rattle.ab_term.specs.Terms.{term}
use Rattle.ab_infer.proofs.Means.{left_kind}
use Rattle.ab_infer.proofs.value.rest_of.Goals as goal

pub returns-in-Base-clause-left : goal.returns-in-Base-clause-left
returns-in-Base-clause-left c = λ u us.
    let e = c.in-Base.ensures.reads in
    ap (λ A. left_type A us) e ∙ left_kind (kind_of c.args.types.now c.in-Base.field-0) us ∙ sym (ap (λ A. left_type A (term u us)) e)
