use Rattle.std.proofs.Common.{inl, inr}
use Rattle.ab_formulas.specs.NewNames.{IsNoVariable, IsNamedFor}
use Rattle.ab_theory.proofs.OneAnswer.{any_names}
use Rattle.ab_existence.proofs.Certain.{and_also, of_three}
use Rattle.ab_existence.proofs.Steps.{answered_by_any_name, answered_by_hint}
use Rattle.ab_existence.proofs.rule_laws.each_step_has_an_answer.Goals as goal

pub returns : goal.returns
returns c = record {
  by_any_names = λ D cells step s. of_three (answered_by_any_name D cells step s);
  by_hints = λ D cells step s are room.
      of_three (and_also (answered_by_hint D cells step s room)
      (λ a. elim a [
        | inl t ↦ inl (t.0, (cells, are, t.1))
        | inr other ↦ elim other [ inl f ↦ inr (inl (f.0, any_names D step cells (IsNamedFor D) (λ v hint name. IsNoVariable v name) s f.0 f.1)) | inr e ↦ inr (inr e) ]
      ]));
}
