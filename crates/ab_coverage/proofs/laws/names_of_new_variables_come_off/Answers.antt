use Rattle.ab_formulas.specs.NewNames.{IsNoVariable}
use Rattle.ab_coverage.proofs.OwnFormulas.{arising_carries}
use Rattle.ab_coverage.proofs.laws.names_of_new_variables_come_off.Goals as goal

pub returns : goal.returns
returns c = λ D k is after g a r typed. arising_carries D (λ s hint x. IsNoVariable s x) k is after g a r typed
