use Rattle.std.proofs.Common.{[], ◌∷◌, ◌++◌, map, refl}
use Rattle.ab_formulas.specs.Sequents.{proving}
use Rattle.ab_theory.specs.Pieces.{pieces}
use Rattle.ab_theory.specs.UseAnswers.{awaited}
use Rattle.ab_effects.specs.FormulaUses.{names_in, formulas_in}
use Rattle.ab_effects.specs.ProofCommands.{repeated}
use Rattle.ab_derived_goals.proofs.Applying.{by_name, backchained, applied}
use Rattle.ab_derived_goals.proofs.Asking.{named_there, none_given}
use Rattle.ab_derived_goals.proofs.laws.uses_are_derived.Goals as goal

pub returns-clause-apply : goal.returns-clause-apply
returns-clause-apply c D l s t H F K n vs gs sound is name none fitting apart may uses o =
    by_name D sound s is H F (map (λ A. proving A s) (awaited (formulas_in s vs) K) ++ t ∷ []) name
    (applied D sound s is F gs (pieces n F) (formulas_in s vs) (names_in vs) K l t may uses fitting apart (named_there s vs none) o)

pub returns-clause-backchain : goal.returns-clause-backchain
returns-clause-backchain c D s H F K n gs sound is name may uses =
    let qs = map (λ A. proving A s) (awaited (repeated n) K) in
    by_name D sound s is H F qs name (λ k x xs f. (qs, backchained D sound s is F gs (pieces n F) (repeated n) K may uses (none_given s n) k x xs f, refl))
