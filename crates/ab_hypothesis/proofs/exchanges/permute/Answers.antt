use Rattle.std.specs.Prelude.{IfOk}
use Rattle.std.specs.Option.{option_copied}
use Rattle.std.proofs.Common.{◌≡◌, ℕ, List, Option, Some, None, sym, ap, subst}
use Rattle.ab_grammar.specs.CommandTrees as told
use Rattle.ab_formulas.specs.NewNames as plain
use Rattle.ab_steps.specs.ProofEffects.{IsApplied, IsRefused}
use Rattle.ab_hypothesis.proofs.exchanges.permute.Goals as goal

pub returns-in-None-clause-applied : goal.returns-in-None-clause-applied
returns-in-None-clause-applied g c =
    let given : option_copied c.args.name ≡ None = ap option_copied c.in-None.is in
    subst
    (λ (o : Option (List ℕ)). IfOk c.permute_conclusion.result (λ u. (l : plain.Label) → IsApplied l (told.permute c.args.numbers.now o) c.args.world.now c.args.proof.now c.permute_conclusion.new.world c.permute_conclusion.new.proof))
    (sym given)
    c.permute_conclusion.ensures.applied

pub returns-in-None-clause-refused : goal.returns-in-None-clause-refused
returns-in-None-clause-refused g c fault e l =
    let given : option_copied c.args.name ≡ None = ap option_copied c.in-None.is in
    subst (λ (o : Option (List ℕ)). IsRefused l (told.permute c.args.numbers.now o) c.args.world.now c.args.proof.now fault) (sym given) (c.permute_conclusion.ensures.refused fault e l)

pub returns-in-Some-clause-applied : goal.returns-in-Some-clause-applied
returns-in-Some-clause-applied g c =
    let given : option_copied c.args.name ≡ Some c.in-Some.name.now = ap option_copied c.in-Some.is in
    subst
    (λ (o : Option (List ℕ)). IfOk c.permute_hypothesis.result (λ u. (l : plain.Label) → IsApplied l (told.permute c.args.numbers.now o) c.args.world.now c.args.proof.now c.permute_hypothesis.new.world c.permute_hypothesis.new.proof))
    (sym given)
    c.permute_hypothesis.ensures.applied

pub returns-in-Some-clause-refused : goal.returns-in-Some-clause-refused
returns-in-Some-clause-refused g c fault e l =
    let given : option_copied c.args.name ≡ Some c.in-Some.name.now = ap option_copied c.in-Some.is in
    subst (λ (o : Option (List ℕ)). IsRefused l (told.permute c.args.numbers.now o) c.args.world.now c.args.proof.now fault) (sym given) (c.permute_hypothesis.ensures.refused fault e l)
