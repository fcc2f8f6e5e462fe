-- An equation is solved alike in two goals that are one with names for numbers.
use Rattle.std.proofs.Common.{◌≡◌, inl, inr, List, [], ◌∷◌, map, sym, ◌∙◌, ap}
use Rattle.ab_term.specs.Terms.{Read}
use Rattle.ab_formulas.specs.Declarations.{Declarations}
use Rattle.ab_formulas.specs.NewNames.{IsNamedFor}
use Rattle.ab_formulas.specs.Sequents.{Sequent}
use Rattle.ab_theory.proofs.Naming.{one_name}
use Rattle.ab_effects.specs.Likeness.{IsSameTerm, IsSameEquation}
use Rattle.ab_effects.proofs.Namings.{named_for}
use Rattle.ab_effects.proofs.Outcomes.{one_goal, goal_or_apart, goal_or_stuck, apart_or_stuck}
use Rattle.ab_formulas.specs.NamedGoals.{named}
use Rattle.ab_effects.specs.Solutions.{IsSolved, IsOutside}

turned_term : (s u : Sequent) (t v : Read) → IsSameTerm s u t v → IsSameTerm u s v t
turned_term s u t v same = record { first = same.second; second = same.first; same = sym same.same }

-- the second goal before the first
pub turned : (D : Declarations) (s u : Sequent) (t r v w : Read) → IsSameEquation D s u t r v w → IsSameEquation D u s v w t r
turned D s u t r v w same = record {
  first = same.second;
  second = same.first;
  goals = sym same.goals;
  left = turned_term s u t v same.left;
  right = turned_term s u r w same.right;
}

module _ (D : Declarations) (s u : Sequent) (t r v w : Read) (same : IsSameEquation D s u t r v w) where
  pub solved_or_not : (gs : List Sequent) → IsSolved D s t r gs → IsOutside u v w → ⊥
  solved_or_not gs (cells, are, inl (g, becomes, e)) (others, also, outside) = goal_or_stuck D s u t r v w same cells others are also (IsNamedFor D) g becomes outside
  solved_or_not gs (cells, are, inr (apart, e)) (others, also, outside) = apart_or_stuck D s u t r v w same cells others are also apart outside

  pub solved_once : (gs hs : List Sequent) → IsSolved D s t r gs → IsSolved D u v w hs → map named gs ≡ map named hs
  solved_once gs hs (cells, are, inl (g, becomes, e)) (others, also, inl (h, comes, d)) =
      ap (map named) e
      ∙ ap (λ a. a ∷ []) (one_goal D s u t r v w same cells others are also (IsNamedFor D) (named_for D) (λ k hint x y a b. one_name D k hint x y a b) g h becomes comes)
      ∙ sym (ap (map named) d)
  solved_once gs hs (cells, are, inl (g, becomes, e)) (others, also, inr (apart, d)) = absurd (goal_or_apart D s u t r v w same cells others are also (IsNamedFor D) g becomes apart)
  solved_once gs hs (cells, are, inr (apart, e)) (others, also, inl (h, comes, d)) =
      absurd (goal_or_apart D u s v w t r (turned D s u t r v w same) others cells also are (IsNamedFor D) h comes apart)
  solved_once gs hs (cells, are, inr (apart, e)) (others, also, inr (also_apart, d)) = ap (map named) e ∙ sym (ap (map named) d)
