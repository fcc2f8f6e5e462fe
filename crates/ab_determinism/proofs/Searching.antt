-- A search has one answer, whatever the numbers of variables.
use Rattle.std.proofs.Common.{◌≡◌, ℕ, List, Some, None, sym, ◌∙◌, ap}
use Rattle.ab_grammar.specs.CommandTrees.{search}
use Rattle.ab_formulas.specs.Declarations.{Declarations, HaveDefinitions}
use Rattle.ab_formulas.specs.Programs.{HavePrograms}
use Rattle.ab_formulas.specs.NewNames.{Label}
use Rattle.ab_formulas.specs.Sequents.{Sequent, IsSequent}
use Rattle.ab_formulas.specs.NamedGoals.{named}
use Rattle.ab_search_trees.specs.Outcomes.{closed}
use Rattle.ab_search_trees.proofs.Numberings.{one_coming}
use Rattle.ab_states.specs.ab_specification.specs.ab_declare.specs.declared.refusal.Refusal.{Refusal}
use Rattle.ab_states.specs.ProofCommandEffects.{Makes, refusal_of, Denies}

module _ (D : Declarations) (definitions : HaveDefinitions D) (programs : HavePrograms D) (l : Label) (s u : Sequent) (is : IsSequent D s) (its : IsSequent D u) (same : named s ≡ named u) where
  -- it is refused for one cause
  pub one_refusal : (depth : ℕ) (r q : Refusal) → Denies D l (search depth) s r → Denies D l (search depth) u q → r ≡ q
  one_refusal depth r q a b =
      let one : Some r ≡ Some q = sym a.2 ∙ ap refusal_of (one_coming D definitions programs s u is its same depth a.0 b.0 a.1 b.1) ∙ b.2 in
      cc

  -- and it isn't where it closes the goal
  pub closed_or_refused : (depth : ℕ) (ps : List Sequent) (r : Refusal) → Makes D l (search depth) s ps → Denies D l (search depth) u r → ⊥
  closed_or_refused depth ps r a b =
      let none : None ≡ Some r = ap refusal_of (one_coming D definitions programs s u is its same depth closed b.0 a.0 b.1) ∙ b.2 in
      cc
