-- An atom of a sequent, as case analysis knows it.
use Rattle.std.proofs.Common.{◌≡◌, ℕ, [], true}
use Rattle.std.specs.Prelude.{Contains}
use Rattle.ab_term.specs.Types.{prop}
use Rattle.ab_term.specs.Terms.{Nominal, Variable, Term}
use Rattle.ab_term.specs.Typing.{Signature, HasType}
use Rattle.ab_term.specs.Names.{support}
use Rattle.ab_term.specs.Variables.{variables}
use Rattle.ab_unifiers.specs.Replacements.{holds}
use Rattle.ab_unifiers.specs.Unifiers.{AreDifferent, AreKnown}
use Rattle.ab_unifiers.specs.Alternatives.{Scope}
use Rattle.ab_unifiers.specs.InstanceCover.{IsScope, IsOf}

pub record IsAtomOf (sg : Signature) {Hint : Type 0} (sequent : Scope Hint) (atom : Term ℕ Hint) : Type 0 where
  pub different : AreDifferent sequent.variables
  pub numbered : AreKnown sequent.cells sequent.variables
  pub typed : HasType sg [] atom prop
  pub over_variables : (y : Variable ℕ) → holds (variables atom) y ≡ true → holds sequent.variables y ≡ true
  pub constants_held : (a : Nominal) → Contains (support atom) a → Contains sequent.constants a

pub atom_of : (sg : Signature) {Hint : Type 0} (sequent : Scope Hint) (atom : Term ℕ Hint) → IsScope sequent → IsOf sg sequent atom prop → IsAtomOf sg sequent atom
atom_of sg sequent atom s o = record { different = s.different; numbered = s.numbered; typed = o.typed; over_variables = o.over_variables; constants_held = o.constants_held }
