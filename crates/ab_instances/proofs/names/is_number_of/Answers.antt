use Rattle.std.proofs.Common.{◌==◌, arith, sym, ◌∙◌}
use Rattle.ab_term.specs.Terms.{Nominal}
use Rattle.ab_norm.specs.Nominals.{nominal_of}
use Rattle.ab_instances.proofs.Listed.{any_here}
use Rattle.ab_instances.proofs.names.is_number_of.Goals as goal

pub returns-then-has_number : goal.returns-then-has_number
returns-then-has_number c = λ types.
    sym (any_here (λ (a : Nominal). a.number == c.args.number) (nominal_of types) c.args.names.now c.loop-a.a-index (record { number = 0; ty = record { 0 = 0 } }) (omega arith)
    (sym c.has_number.ensures ∙ c.if-has_number.true))
