use Rattle.std.proofs.Common.{Some, ◌∙◌, ap, sym, arith}
use Rattle.ab_print.proofs.Scoped.{bound_is, none_bound}
use Rattle.ab_print.proofs.name_assignment.bound_name.Goals as goal

pub returns-then-names-index : goal.returns-then-names-index
returns-then-names-index c = λ name. sym (none_bound name c.args.names.now c.args.index (omega arith))

pub returns : goal.returns
returns c = λ name.
    ap Some (c.in_ok-name.ensures.items ∙ c.deref.ensures.value ∙ ap (λ v. v.items) c.index-names-names.is)
    ∙ sym (bound_is name c.args.names.now c.args.index _ (omega arith))
