use Rattle.std.proofs.Common.{length, sym, ◌∙◌, subst}
use Rattle.ab_formulas.specs.Declarations.{ArePlacesUpTo, theorems_in}
use Rattle.ab_logic.specs.Worlds.{declarations_of}
use Rattle.ab_theory.specs.Derivations.{debts}
use Rattle.ab_theory.specs.Assumptions.{all_places}
use Rattle.ab_theory.proofs.Assuming.{places_grow}
use Rattle.ab_proofcmd.specs.ab_hypothesis.specs.ab_steps.specs.ab_kernel.specs.Layout.{history_of}
use Rattle.ab_session.proofs.attempt_steps.conclude.Goals as goal

pub names_of-requires : goal.names_of-requires
names_of-requires c =
    let w = c.args.world.now in
    let D = declarations_of w in
    subst (ArePlacesUpTo (length (theorems_in D))) (sym (c.deref.ensures.value ∙ c.in_ok-places.ensures)) (places_grow D (all_places D (debts (history_of w c.args.attempt.now.proof).tree)))

pub add_theorem-requires-clause-places : goal.add_theorem-requires-clause-places
add_theorem-requires-clause-places c =
    let w = c.args.world.now in
    let D = declarations_of w in
    subst (ArePlacesUpTo (length (theorems_in D))) (sym c.in_ok-places.ensures) (places_grow D (all_places D (debts (history_of w c.args.attempt.now.proof).tree)))
