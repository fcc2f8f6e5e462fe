use Rattle.std.proofs.Common.{arith, sym, ◌∙◌}
use Rattle.ab_term.specs.Names.{same_nominal}
use Rattle.ab_norm.specs.Nominals.{nominal_of}
use Rattle.ab_instances.proofs.Listed.{any_here}
use Rattle.ab_instances.proofs.names.is_in.Goals as goal

pub returns-then-is_one : goal.returns-then-is_one
returns-then-is_one c =
    let types = c.args.types.now in
    sym (any_here (λ b. same_nominal b (nominal_of types c.args.a)) (nominal_of types) c.args.names.now c.loop-b.b-index (record { number = 0; ty = record { 0 = 0 } }) (omega arith)
    (sym c.is_one.ensures ∙ c.if-is_one.true))
