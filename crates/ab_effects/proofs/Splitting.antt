-- One subject of one goal, over two lists of numbers, splits the goal in one way.
use Rattle.std.proofs.Common.{◌≡◌, ℕ, ◌+◌, List, [], ◌∷◌, map, length, Some, option_map, refl, sym, ◌∙◌, ap, subst}
use Rattle.ab_term.specs.Translation.{translate}
use Rattle.ab_term.specs.Terms.{Read}
use Rattle.ab_unifiers.specs.Replacements.{Cell}
use Rattle.ab_unifiers.specs.Clauses.{Each}
use Rattle.ab_formulas.specs.Declarations.{Declarations, HaveDefinitions}
use Rattle.ab_formulas.specs.Programs.{HavePrograms}
use Rattle.ab_formulas.specs.Sequents.{Sequent, IsSequent, HoldsOnly}
use Rattle.ab_formulas.specs.NamedGoals.{Goal, with_names, variable_named, named}
use Rattle.ab_theory.specs.Equations.{AreCells, Naming}
use Rattle.ab_theory.specs.Splits.{CaseOver, Split, IsUnsplit}
use Rattle.ab_theory.proofs.One.{GivesOne}
use Rattle.ab_theory.proofs.SplitEquations.{split_once, not_both, one_place_unsplit}
use Rattle.ab_theory.specs.Subjects.{Subject, subject_of, cases_by}
use Rattle.ab_unifiers.specs.Renumbering.{renumbered, IsRenumbering}
use Rattle.ab_unifiers.proofs.Changes.{agreeing}
use Rattle.ab_effects.specs.Likeness.{IsSameTerm, IsSameSubject, IsSameRest}
use Rattle.ab_effects.proofs.Namings.{HaveSameNames, IsByNames}
use Rattle.ab_effects.proofs.Renumbered.{moved_goal, named_moved}
use Rattle.ab_effects.proofs.Thirds.{by_place, named_place}
use Rattle.ab_effects.proofs.Outcomes.{third, first_numbering, second_numbering, term_placed, goal_placed, placed_goal}
use Rattle.ab_effects.proofs.Arising.{Follows, split_moved, unsplit_moved, split_back, unsplit_back}
use Rattle.ab_effects.proofs.MovedSubjects.{moved_subject, subject_moved}
use Rattle.ab_effects.proofs.SubjectsFollowing.{IsGoodSubject, good_subject, cases_follow}

-- a subject of a goal's formula is itself
pub itself : (D : Declarations) → HaveDefinitions D → HavePrograms D → (s : Sequent) → IsSequent D s → (F : Read) → HoldsOnly s.variables F → (x : Subject) → subject_of D F ≡ Some x → IsSameSubject D s s x x
itself D definitions programs s sequent F closed x is = record {
  first = sequent;
  second = sequent;
  goals = refl;
  formula = F;
  other = F;
  formulas = record { first = closed; second = closed; same = refl };
  subject = is;
  also = is;
  definitions = definitions;
  programs = programs;
}

-- the second goal before the first
pub turned : (D : Declarations) (s u : Sequent) (x y : Subject) → IsSameSubject D s u x y → IsSameSubject D u s y x
turned D s u x y same = record {
  first = same.second;
  second = same.first;
  goals = sym same.goals;
  formula = same.other;
  other = same.formula;
  formulas = record { first = same.formulas.second; second = same.formulas.first; same = sym same.formulas.same };
  subject = same.also;
  also = same.subject;
  definitions = same.definitions;
  programs = same.programs;
}

-- TWO READINGS of one goal and of one subject there, over a third list of numbers
module _ (D : Declarations) (s u : Sequent) (x y : Subject) (same : IsSameSubject D s u x y) (cells others : List (Cell (List ℕ))) (are : AreCells cells s) (also : AreCells others u) where
  abbrev pub C : List (Cell (List ℕ))
  C = third s.variables cells others

  abbrev pub f : ℕ → ℕ
  f = by_place s.variables cells (length s.variables) (length C)

  abbrev pub g : ℕ → ℕ
  g = by_place u.variables others (length s.variables + length cells) (length C)

  same_names : HaveSameNames s u
  same_names = ap (λ (g : Goal). g.variables) same.goals

  pub one : IsRenumbering f cells C
  one = first_numbering s.variables cells others are

  pub two : IsRenumbering g others C
  two = second_numbering s.variables cells others u.variables same_names also

  pub goals_meet : moved_goal f s ≡ moved_goal g u
  goals_meet = goal_placed D s same.first cells C (length s.variables) ∙ ap placed_goal same.goals ∙ sym (goal_placed D u same.second others C (length s.variables + length cells))

  -- what is left of both
  rests_meet : (rest left : Sequent) → IsSameRest D s u rest left → moved_goal f rest ≡ moved_goal g left
  rests_meet rest left is =
      ap (λ xs. moved_goal (by_place xs cells (length s.variables) (length C)) rest) (sym is.first_over)
      ∙ goal_placed D rest is.first cells C (length s.variables)
      ∙ ap placed_goal is.goals
      ∙ sym (goal_placed D left is.second others C (length s.variables + length cells))
      ∙ ap (λ xs. moved_goal (by_place xs others (length s.variables + length cells) (length C)) left) is.second_over

  terms_meet : (t v : Read) → IsSameTerm s u t v → renumbered f t ≡ renumbered g v
  terms_meet t v is =
      term_placed D s same.first cells C (length s.variables) t is.first
      ∙ ap (translate (named_place (map variable_named s.variables) 0) (λ x. x)) is.same
      ∙ ap (λ vs. translate (named_place vs 0) (λ x. x) (with_names u.variables v)) same_names
      ∙ sym (term_placed D u same.second others C (length s.variables + length cells) v is.second)

  pub subjects_meet : moved_subject f x ≡ moved_subject g y
  subjects_meet =
      let first = subject_moved f D same.formula ∙ ap (option_map (moved_subject f)) same.subject in
      let second = subject_moved g D same.other ∙ ap (option_map (moved_subject g)) same.also in
      let both : Some (moved_subject f x) ≡ Some (moved_subject g y) = sym first ∙ ap (subject_of D) (terms_meet same.formula same.other same.formulas) ∙ second in
      cc

  pub first_good : IsGoodSubject x
  first_good = good_subject D same.definitions same.programs same.formula x same.subject

  pub second_good : IsGoodSubject y
  second_good = good_subject D same.definitions same.programs same.other y same.also

  all_named : (h : ℕ → ℕ) → ((i j : ℕ) → h i ≡ h j → i ≡ j) → (gs : List Sequent) → map named (map (moved_goal h) gs) ≡ map named gs
  all_named h different [] = refl
  all_named h different (k ∷ gs) = ap (λ n. n ∷ map named (map (moved_goal h) gs)) (named_moved h (agreeing h different) k) ∙ ap (λ l. named k ∷ l) (all_named h different gs)

  module _ (rest left : Sequent) (is : IsSameRest D s u rest left) (name : List ℕ) where
    abbrev First : List CaseOver
    First = cases_by s rest name x

    abbrev Second : List CaseOver
    Second = cases_by u left name y

    abbrev Third : List CaseOver
    Third = cases_by (moved_goal f s) (moved_goal f rest) name (moved_subject f x)

    first_each : Each (Follows f) First Third
    first_each = cases_follow f s rest name x first_good

    second_each : Each (Follows g) Second Third
    second_each =
        subst (λ q. Each (Follows g) Second (cases_by q (moved_goal f rest) name (moved_subject f x))) (sym goals_meet)
        (subst (λ q. Each (Follows g) Second (cases_by (moved_goal g u) q name (moved_subject f x))) (sym (rests_meet rest left is))
        (subst (λ z. Each (Follows g) Second (cases_by (moved_goal g u) (moved_goal g left) name z)) (sym subjects_meet) (cases_follow g u left name y second_good)))

    module _ (IsName : Naming) (by : IsByNames IsName) where
      pub split_also : (gs : List Sequent) → Split IsName cells First gs → (hs : List Sequent) × Split IsName others Second hs × (map named gs ≡ map named hs)
      split_also gs a =
          let moved = split_moved f IsName by cells C one First Third first_each gs a in
          let w = split_back g IsName by others C two Second Third second_each (map (moved_goal f) gs) moved in
          (w.0, w.1, sym (all_named f one.different gs) ∙ ap (map named) (sym w.2) ∙ all_named g two.different w.0)

      pub unsplit_also : (i : ℕ) → IsUnsplit IsName cells First i → IsUnsplit IsName others Second i
      unsplit_also i a = unsplit_back g IsName by others C two Second Third second_each i (unsplit_moved f IsName by cells C one First Third first_each i a)

      module _ (gives_one : GivesOne IsName) where
        pub one_split : (gs hs : List Sequent) → Split IsName cells First gs → Split IsName others Second hs → map named gs ≡ map named hs
        one_split gs hs a b =
            let first = split_moved f IsName by cells C one First Third first_each gs a in
            let second = split_moved g IsName by others C two Second Third second_each hs b in
            sym (all_named f one.different gs)
            ∙ ap (map named) (split_once IsName gives_one C Third (map (moved_goal f) gs) (map (moved_goal g) hs) first second)
            ∙ all_named g two.different hs

        pub split_or_not : (gs : List Sequent) (i : ℕ) → Split IsName cells First gs → IsUnsplit IsName others Second i → ⊥
        split_or_not gs i a b =
            not_both IsName gives_one C Third (map (moved_goal f) gs) i
            (split_moved f IsName by cells C one First Third first_each gs a)
            (unsplit_moved g IsName by others C two Second Third second_each i b)

        pub one_place : (i j : ℕ) → IsUnsplit IsName cells First i → IsUnsplit IsName others Second j → i ≡ j
        one_place i j a b =
            one_place_unsplit IsName gives_one C Third i j
            (unsplit_moved f IsName by cells C one First Third first_each i a)
            (unsplit_moved g IsName by others C two Second Third second_each j b)
