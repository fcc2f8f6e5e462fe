-- WHAT COMES OF A SUBJECT of a conclusion: the goal that a way of unfolding it makes, and which way is the first.
use Rattle.std.specs.Prelude.{◌≡◌, ℕ, List, [], ◌∷◌, take, All, Contains, slice_get, Some, codes}
use Rattle.ab_term.specs.Terms.{Read}
use Rattle.ab_term.specs.Variables.{Substitution}
use Rattle.ab_unifiers.specs.Replacements.{Cell}
use Rattle.ab_unifiers.specs.Unification.{unified, Solves}
use Rattle.ab_formulas.specs.Sequents.{Variable, Sequent, formulas_of, proving}
use Rattle.ab_logic.specs.Worlds.{declarations_of}
use Rattle.ab_logic.specs.SequentReadings.{sequent_of}
use Rattle.ab_logic.specs.declared.world.World.{World}
use Rattle.ab_logic.specs.declared.sequent.Sequent.{Sequent as Kept}
use Rattle.ab_theory.specs.Splits.{problem_of, NeverArises, IsOpen}
use Rattle.ab_theory.specs.Subjects as plain
use Rattle.ab_theory.specs.Subjects.{Way, ways_of, conclusion_then, subject_of}
use Rattle.ab_alternatives.specs.ChoiceMatches.{LeavesOpen}
use Rattle.ab_alternatives.specs.declared.first_choice.Found.{Found}
use Rattle.ab_alternatives.specs.declared.first_choice.Found.TheVariants.{Closed, Open, Stuck, Nothing}
use Rattle.ab_judgements.specs.SubjectReadings.{subject_read}
use Rattle.ab_judgements.specs.declared.subjects.Subject.{Subject}

-- the subject is that of a formula of the goal
abbrev pub IsSubjectIn : World → Kept → Subject → Type 0
IsSubjectIn w s x = (F : Read) × Contains (formulas_of (sequent_of w s)) F × (subject_read w x ≡ subject_of (declarations_of w) F)

-- the subject is that of the conclusion
abbrev pub IsConcluded : World → Kept → Subject → Type 0
IsConcluded w s x = subject_read w x ≡ subject_of (declarations_of w) (sequent_of w s).conclusion

-- THE GOAL THEN, once its conclusion is unfolded in this way
abbrev pub IsUnfoldedBy : List (Cell (List ℕ)) → Sequent → Way → Sequent → Type 0
IsUnfoldedBy cells s y g =
    (more : List (Cell (List ℕ))) × (answer : Substitution ℕ (List ℕ)) × Solves (codes "x") (problem_of (y.case cells)) (unified more answer)
    × (g ≡ proving (conclusion_then (y.case cells) y.closed more answer) s)

module _ (cells : List (Cell (List ℕ))) (s : Sequent) (x : plain.Subject) where
  -- so many of the first ways can't unfold the conclusion
  abbrev pub NoWayBefore : ℕ → Type 0
  NoWayBefore place = All (λ (y : Way). NeverArises (y.case cells)) (take place (ways_of s x))

  -- the way stands at the place, and it is the first that may
  pub record IsFirstWay (place : ℕ) (y : Way) : Type 0 where
    pub there : slice_get (ways_of s x) place ≡ Some y
    pub none_before : NoWayBefore place

  -- its equations are solved, and of the variables that it brought these are left open, in order of age
  abbrev pub LeavesOf : Way → List Variable → Type 0
  LeavesOf y left = LeavesOpen (problem_of (y.case cells)) (y.case cells).before left

  -- THIS IS WHAT IS FOUND
  abbrev pub FindsWay : Found → Type 0
  FindsWay (Closed place) = (y : Way) × IsFirstWay place y × LeavesOf y []
  FindsWay (Open place name) = (y : Way) × IsFirstWay place y × (z : Variable) × (zs : List Variable) × LeavesOf y (z ∷ zs) × (name ≡ z.name)
  FindsWay (Stuck place i) = (y : Way) × IsFirstWay place y × IsOpen (y.case cells) i
  FindsWay Nothing = All (λ (y : Way). NeverArises (y.case cells)) (ways_of s x)
