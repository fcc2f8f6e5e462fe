use Rattle.std.proofs.Common.{◌≡◌, ℕ, List, sym, subst, ◌∙◌}
use Rattle.ab_formulas.specs.NewNames.{IsNominalName}
use Rattle.ab_formulas.specs.NominalDigits.{HasNominalForm}
use Rattle.ab_formulas.proofs.Digits.{nominal_is, nominal_form}
use Rattle.ab_equations.proofs.nominal.is_nominal_name.Goals as goal

pub returns : goal.returns
returns c =
    let same : c.as_bytes.result.now ≡ c.args.name.now = c.as_bytes.ensures.value ∙ c.as_str.ensures in (
      λ yes. subst IsNominalName same (nominal_is c.as_bytes.result.now (c.has_nominal_form.ensures.0 yes)),
      λ is. c.has_nominal_form.ensures.1 (subst HasNominalForm (sym same) (nominal_form c.args.name.now is)),
    )
