-- Theorems stay derived behind what holds no theorem; and what declares stands where no proof is open.
use Rattle.std.specs.Prelude.{is_some, ◌⊎◌}
use Rattle.std.proofs.Common.{◌≡◌, inl, inr, ℕ, zero, suc, ◌<◌, ◌≤◌, List, [], ◌++◌, length, Option, Some, None, refl, ◌∙◌, ap, subst, arith, append-nil}
use Rattle.ab_grammar.specs.declared.head.Stand.TheVariants.{Outside}
use Rattle.ab_grammar.specs.CommandTable.{standing}
use Rattle.ab_grammar.specs.CommandTrees.{Command}
use Rattle.ab_command.proofs.Sayings.{said_stands}
use Rattle.ab_command.specs.CommandReadings.{StandsHere}
use Rattle.ab_formulas.specs.Declarations.{Declarations, theorems_in}
use Rattle.ab_formulas.proofs.Declaring.{theorems_in-append}
use Rattle.ab_states.specs.ab_specification.specs.ab_declare.specs.DeclarationCommands.{Declares, new_kinds, new_constants, new_predicates}
use Rattle.ab_states.specs.State.{Attempt, State, is_open}
use Rattle.ab_states.specs.ForwardEffects.{Commands}
use Rattle.ab_states.specs.DerivedTheorems.{AreDerived}
use Rattle.ab_states.proofs.Assumed.{derived_on}

-- THEOREMS STAY DERIVED
pub derived_still : (D more : Declarations) → theorems_in more ≡ [] → AreDerived D → AreDerived (D ++ more)
derived_still D more none are place low =
    let same : theorems_in (D ++ more) ≡ theorems_in D = theorems_in-append D more ∙ ap (λ ts. theorems_in D ++ ts) none ∙ append-nil (theorems_in D) in
    let (d, is) = are place (subst (λ ts. place < length ts) same low) in
    (d, derived_on D more place d is)

-- WHERE NO PROOF IS OPEN

none_open : (o : Option Attempt) → StandsHere Outside (is_some o) → o ≡ None
none_open None h = refl
none_open (Some a) h = absurd h

pub declared_outside : {D : Declarations} {c : Command} {more : Declarations} → Declares D c more → standing c ≡ Outside
declared_outside (new_kinds e) = refl
declared_outside (new_constants e t d) = refl
declared_outside (new_predicates d) = refl

pub outside : (s : State) (bytes : List ℕ) (c : Command) → standing c ≡ Outside → Commands s bytes c → s.attempt ≡ None
outside s bytes c stand h = none_open s.attempt (subst (λ d. StandsHere d (is_open s)) stand (said_stands bytes (is_open s) c h))

pub below_or : (i m : ℕ) → (i < m) ⊎ (m ≤ i)
below_or i zero = inr (omega arith)
below_or zero (suc m) = inl (omega arith)
below_or (suc i) (suc m) = elim (below_or i m) [ inl l ↦ inl (omega (arith, l)) | inr l ↦ inr (omega (arith, l)) ]
