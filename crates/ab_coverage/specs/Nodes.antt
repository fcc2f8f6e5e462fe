-- The nodes of a derivation: a goal, the step that was taken there, and the goals that it led to.
use Rattle.std.specs.Prelude.{◌≡◌, ◌⊎◌, List}
use Rattle.ab_formulas.specs.Sequents.{Sequent}
use Rattle.ab_theory.specs.Steps.{Step}
use Rattle.ab_theory.specs.Derivations.{Derivation, Derivations, goal, by, none, more, roots}

abbrev mutual
  -- some node of the derivation is this one
  pub HasNode : Derivation → Sequent → Step → List Sequent → Type 0
  HasNode (goal g) s step ps = ⊥
  HasNode (by t g ds) s step ps = ((t ≡ step) × (g ≡ s) × (roots ds ≡ ps)) ⊎ HaveNode ds s step ps

  pub HaveNode : Derivations → Sequent → Step → List Sequent → Type 0
  HaveNode none s step ps = ⊥
  HaveNode (more d ds) s step ps = HasNode d s step ps ⊎ HaveNode ds s step ps
