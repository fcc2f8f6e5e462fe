-- A WAY BY A CLAUSE ON THE PATH OF AN ANSWER: what is put in at last for the variables of its goal and for the clause's. Later solving puts in closed
-- terms without nominal constants; and what stays open even then is filled with constants that weren't chosen for the clause's names.
use Rattle.std.specs.Prelude.{◌≡◌, ◌⊎◌, ℕ, ◌≤◌, List, [], map, length, codes, true, Some, Contains}
use Rattle.ab_term.specs.Terms.{Nominal, Variable, variable, Read}
use Rattle.ab_term.specs.Typing.{Signature}
use Rattle.ab_term.specs.Names.{support, support_of_all}
use Rattle.ab_term.specs.Expansion.{expansion}
use Rattle.ab_term.specs.Variables.{Substitution, value_in, image, image_all, IsTyped}
use Rattle.ab_term.specs.Sameness.{same_number}
use Rattle.ab_unifiers.specs.Replacements.{holds}
use Rattle.ab_unifiers.specs.Unifiers.{Unifies, keys}
use Rattle.ab_unifiers.specs.Clauses.{name_term}
use Rattle.ab_unifiers.specs.Choices.{in_order, outside}
use Rattle.ab_unifiers.specs.Alternatives.{made_terms}
use Rattle.ab_formulas.specs.GoalTerms.{HoldsOnly}
use Rattle.ab_theory.specs.Atoms.{Defined, Choice}
use Rattle.ab_search_trees.specs.Goals.{Goal, Now}
use Rattle.ab_search_trees.specs.Ways.{Way}

-- the variable as a term
abbrev pub alone : Variable ℕ → Read
alone y = expansion (codes "x") y.type (variable y)

module _ (later fill : Substitution ℕ (List ℕ)) where
  -- what becomes of a term at last
  abbrev pub at_last : Read → Read
  at_last t = image same_number fill (image same_number later t)

  abbrev pub atom_at_last : Defined → Defined
  atom_at_last d = record d { arguments = image_all same_number fill (image_all same_number later d.arguments) }

  -- what the clause's variables stand for at last: the way made new ones of them, over those constants of the atom that weren't chosen
  abbrev pub terms_at_last : Now → Defined → Choice → List Read
  terms_at_last now d c = map at_last (made_terms (codes "x") (length now.cells) (outside (in_order (support_of_all d.arguments)) c.names) c.clause.variables)

-- WHAT IS PUT IN AT LAST, from a way on: what later solving puts in makes the way's sides equal; what fills the variables that are open then are
-- constants, and none of these. Nothing is left in the conclusion, nor in what is put in for the way's own variables, but variables in scope.
pub record IsAtLast (sg : Signature) (now : Now) (g : Goal) (w : Way) (names : List Nominal) (ys : List (Variable ℕ)) (later fill : Substitution ℕ (List ℕ)) : Type 0 where
  pub typed : IsTyped sg later
  pub nameless : (y : Variable ℕ) (v : Read) → value_in same_number later y ≡ Some v → support v ≡ []
  pub within : (y : Variable ℕ) → holds (keys later) y ≡ true → (holds w.flexible y ≡ true) ⊎ (length w.cells ≤ y.name)
  pub unifies : Unifies later w.equations
  pub filled : IsTyped sg fill
  pub constants : (y : Variable ℕ) (v : Read) → value_in same_number fill y ≡ Some v → (a : Nominal) × (¬ (Contains names a)) × (name_term (codes "x") a ≡ v)
  pub conclusion : HoldsOnly ys (at_last later fill g.conclusion)
  pub own : (y : Variable ℕ) → holds w.flexible y ≡ true → length now.cells ≤ y.name → HoldsOnly ys (at_last later fill (alone y))
