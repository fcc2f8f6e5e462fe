use Rattle.std.proofs.Common.{◌≡◌, Bool, true, false, not, inl, inr, sym, ◌∙◌}
use Rattle.std.proofs.lemmas.List.Elements.{Contains-append_right}
use Rattle.ab_logic.specs.SequentReadings.{sequent_of}
use Rattle.ab_free_names.proofs.Free.{no_variable}
use Rattle.ab_equations.proofs.variable.is_free.Goals as goal

pub returns-then-is_constant-clause-taken : goal.returns-then-is_constant-clause-taken
returns-then-is_constant-clause-taken c = λ f. inl (Contains-append_right _ _ _ (c.is_constant.ensures.0 c.if-is_constant.true))

negated : (b : Bool) → not b ≡ true → b ≡ true → ⊥
negated true e t = cc
negated false e t = cc

pub returns-clause-free : goal.returns-clause-free
returns-clause-free c = λ t. record {
  no_variable = no_variable (sequent_of c.args.world.now c.args.sequent.now) c.args.name.now (λ v. let yes = c.is_variable.ensures.1 v in let no = c.if-is_variable.false in cc);
  no_constant = λ k. let yes = c.is_constant.ensures.1 k in let no = c.if-is_constant.false in cc;
  no_nominal = λ n. negated c.is_nominal_name.result t (c.is_nominal_name.ensures.1 n);
}
