-- ONE SEARCH, whatever the numbers of variables: two sequents that are the same with names for numbers become one sequent over a
-- third list of variables, and the leaves of both become one list. So the outcome is one.
use Rattle.std.proofs.Common.{◌≡◌, ℕ, ◌+◌, List, [], ◌∷◌, map, length, refl, sym, ◌∙◌, ap, subst, append-nil}
use Rattle.ab_unifiers.specs.Replacements.{Cell}
use Rattle.ab_unifiers.specs.Choices.{in_order}
use Rattle.ab_unifiers.specs.Renumbering.{IsRenumbering}
use Rattle.ab_formulas.specs.Declarations.{Declarations, HaveDefinitions}
use Rattle.ab_formulas.specs.Programs.{HavePrograms}
use Rattle.ab_formulas.specs.Sequents.{Hypothesis, Sequent, IsSequent, formulas}
use Rattle.ab_formulas.specs.NamedGoals as shown
use Rattle.ab_formulas.specs.NamedGoals.{named}
use Rattle.ab_theory.specs.Equations.{AreCells}
use Rattle.ab_effects.proofs.Namings.{HaveSameNames}
use Rattle.ab_effects.proofs.Renumbered.{moved_hypothesis, moved_goal}
use Rattle.ab_effects.proofs.Following.{goal_names_moved}
use Rattle.ab_effects.proofs.Thirds.{by_place}
use Rattle.ab_effects.proofs.Outcomes.{third, first_numbering, second_numbering, placed_goal, goal_placed}
use Rattle.ab_search_trees.specs.Goals.{beginning, first_goal}
use Rattle.ab_search_trees.specs.Tree.{Leaf, Leaves}
use Rattle.ab_search_trees.specs.Outcomes.{Outcome, outcome_of, Searched, ComesTo}
use Rattle.ab_search_trees.specs.Numberings.{renumbered_leaf, AreOneSearch}
use Rattle.ab_search_trees.proofs.One.{one_list}
use Rattle.ab_search_trees.proofs.MovedForms.{T}
use Rattle.ab_search_trees.proofs.MovedWays.{goal_renumbered, now_renumbered}
use Rattle.ab_search_trees.proofs.MovedTree.{outcome_moved, leaves_move}

module _ (f : ℕ → ℕ) where
  formulas_moved : (hs : List Hypothesis) → map (T f) (formulas hs) ≡ formulas (map (moved_hypothesis f) hs)
  formulas_moved [] = refl
  formulas_moved (h ∷ hs) = ap (λ l. T f h.formula ∷ l) (formulas_moved hs)

  beginning_moved : (cells others : List (Cell (List ℕ))) (s : Sequent) → now_renumbered f others (beginning cells s) ≡ beginning others (moved_goal f s)
  beginning_moved cells others s =
      let names = sym (goal_names_moved f s) in
      λ i. record { cells = others; flexible = []; answer = []; held = in_order (names i) }

  first_moved : (depth : ℕ) (s : Sequent) → goal_renumbered f (first_goal depth s) ≡ first_goal depth (moved_goal f s)
  first_moved depth s =
      let names = sym (goal_names_moved f s) in
      let hypotheses = formulas_moved s.hypotheses in
      λ i. record (first_goal depth (moved_goal f s)) { hypotheses = hypotheses i; constants = in_order (names i) }

  -- a search, with other numbers
  pub search_moved : (D : Declarations) → HaveDefinitions D → HavePrograms D → (cells others : List (Cell (List ℕ))) → IsRenumbering f cells others → (depth : ℕ) (s : Sequent) (ls : List Leaf) → Searched D cells depth s ls
      → Searched D others depth (moved_goal f s) (map (renumbered_leaf f cells others) ls)
  search_moved D defs program cells others r depth s ls l =
      let ms = map (renumbered_leaf f cells others) ls in
      let moved = leaves_move f D defs program cells others (beginning cells s) others r ([], sym (append-nil cells), sym (append-nil others)) l in
      subst (λ n. Leaves D n (first_goal depth (moved_goal f s) ∷ []) ms) (beginning_moved cells others s)
      (subst (λ g. Leaves D (now_renumbered f others (beginning cells s)) (g ∷ []) ms) (first_moved depth s) moved)

module _ (D : Declarations) (defs : HaveDefinitions D) (program : HavePrograms D) (s u : Sequent) (first : IsSequent D s) (second : IsSequent D u) (same : named s ≡ named u)
    (cells others : List (Cell (List ℕ))) (are : AreCells cells s) (also : AreCells others u) (depth : ℕ) where
  abbrev Third : List (Cell (List ℕ))
  Third = third s.variables cells others

  abbrev F : ℕ → ℕ
  F = by_place s.variables cells (length s.variables) (length Third)

  abbrev G : ℕ → ℕ
  G = by_place u.variables others (length s.variables + length cells) (length Third)

  same_names : HaveSameNames s u
  same_names = ap (λ (g : shown.Goal). g.variables) same

  goals : moved_goal F s ≡ moved_goal G u
  goals = goal_placed D s first cells Third (length s.variables) ∙ ap placed_goal same ∙ sym (goal_placed D u second others Third (length s.variables + length cells))

  pub one_search : (ls ms : List Leaf) → Searched D cells depth s ls → Searched D others depth u ms → AreOneSearch s u cells others ls ms
  one_search ls ms l m =
      let numbering = first_numbering s.variables cells others are in
      let second = second_numbering s.variables cells others u.variables same_names also in
      let a = search_moved F D defs program cells Third numbering depth s ls l in
      let b = search_moved G D defs program others Third second depth u ms m in
      record { third = Third; by = F; also = G; first = numbering; second = second; sequents = goals; leaves = one_list D a (subst (λ t. Searched D Third depth t (map (renumbered_leaf G others Third) ms)) (sym goals) b) }

-- they come to one outcome
pub one_outcome : (s u : Sequent) (cells others : List (Cell (List ℕ))) (ls ms : List Leaf) → AreOneSearch s u cells others ls ms → outcome_of ls ≡ outcome_of ms
one_outcome s u cells others ls ms e = sym (outcome_moved e.by cells e.third ls) ∙ ap outcome_of e.leaves ∙ outcome_moved e.also others e.third ms

pub one_coming : (D : Declarations) → HaveDefinitions D → HavePrograms D → (s u : Sequent) → IsSequent D s → IsSequent D u → named s ≡ named u → (depth : ℕ) (o p : Outcome) → ComesTo D depth s o → ComesTo D depth u p → o ≡ p
one_coming D defs program s u first second same depth o p a b =
    sym a.4 ∙ one_outcome s u a.0 b.0 a.2 b.2 (one_search D defs program s u first second same a.0 b.0 a.1 b.1 depth a.2 b.2 a.3 b.3) ∙ b.4
