-- Why a formula isn't derived first.
use Rattle.std.specs.Prelude.{◌≡◌, ℕ}
use Rattle.ab_term.specs.Types.{prop}
use Rattle.ab_term.specs.Terms.{Read}
use Rattle.ab_formulas.specs.Declarations.{Declarations, signature_in}
use Rattle.ab_formulas.specs.Formulas.{IsFormula}
use Rattle.ab_formulas.specs.NewNames.{Label, NoName}
use Rattle.ab_formulas.specs.Sequents.{Sequent, Fits}
use Rattle.ab_hypothesis.specs.ab_steps.specs.declared.fault.ProofCommandFault.{ProofCommandFault}
use Rattle.ab_hypothesis.specs.ab_steps.specs.declared.fault.ProofCommandFault.TheVariants.{TypeClash, NamesSpent, Memory}

-- the term that begins at the place is no formula of the goal, or it is one and the hypothesis gets no name
abbrev pub CutFails : Declarations → Read → Label → ℕ → Sequent → ProofCommandFault → Type 0
CutFails D F l place s (TypeClash p) = (p ≡ place) × ((Fits D s F prop × IsFormula (signature_in D) F) → ⊥)
CutFails D F l place s NamesSpent = IsFormula (signature_in D) F × NoName l s
CutFails D F l place s (Memory m) = Unit {0}
CutFails D F l place s fault = ⊥
