use Rattle.std.proofs.Common.{subst}
use Rattle.ab_formulas.specs.NewNames.{IsLeast}
use Rattle.ab_rules.specs.UsedNumbers.{IsAbsent}
use Rattle.ab_rules.proofs.Chosen.{least_may}
use Rattle.ab_rules.proofs.nabla_constants.least_name.Goals as goal

pub returns : goal.returns
returns c =
    least_may _ _ _ _ c.in_ok-numbers.ensures c.requires.among c.least_absent.result
    (subst (λ ns. IsLeast (IsAbsent ns) c.least_absent.result) c.deref.ensures.value c.least_absent.ensures)
