-- WHAT COMES OF UNFOLDING A CONCLUSION that is a defined atom or a judgement: the first way by which it may hold decides, and the
-- body takes the conclusion's place.
use Rattle.std.specs.Prelude.{◌≡◌, ◌⊎◌, ℕ, suc, List, [], ◌∷◌, ◌++◌, All, codes}
use Rattle.ab_term.specs.Variables.{Substitution}
use Rattle.ab_unifiers.specs.Replacements.{Cell}
use Rattle.ab_unifiers.specs.Unification.{unified, Solves}
use Rattle.ab_formulas.specs.Sequents.{Variable, Sequent, proving}
use Rattle.ab_theory.specs.Equations.{AreCells, made}
use Rattle.ab_theory.specs.Splits.{problem_of, NeverArises, IsOpen}
use Rattle.ab_theory.specs.Subjects.{Subject, Way, ways_of, conclusion_then}
use Rattle.ab_meaning.specs.Refusals.{Refusal, no_match, not_pattern, unresolved}

-- the way is among those of the subject, and by none before it can the conclusion hold
abbrev pub IsFirst : List (Cell (List ℕ)) → Sequent → Subject → Way → Type 0
IsFirst cells s x w =
    (before after : List Way) × (ways_of s x ≡ before ++ w ∷ after) × All (λ (v : Way). NeverArises (v.case cells)) before

-- the equations of the way are solved so, and these variables that it brought are left open. Cells that were made in passing aren't
-- among them.
abbrev pub IsMatched : List (Cell (List ℕ)) → Way → List (Cell (List ℕ)) → Substitution ℕ (List ℕ) → List Variable → Type 0
IsMatched cells w more answer left =
    Solves (codes "x") (problem_of (w.case cells)) (unified more answer) × (left ≡ made (w.case cells).before more answer)

-- THE CONCLUSION IS UNFOLDED: the body stands in its place, and nothing that the way brought is left open
pub record IsUnfolded (s : Sequent) (x : Subject) (t : Sequent) : Type 0 where
  pub cells : List (Cell (List ℕ))
  pub are_cells : AreCells cells s
  pub way : Way
  pub first : IsFirst cells s x way
  pub more : List (Cell (List ℕ))
  pub answer : Substitution ℕ (List ℕ)
  pub matched : IsMatched cells way more answer []
  pub goal : t ≡ proving (conclusion_then (way.case cells) way.closed more answer) s

-- by no way can it hold
abbrev pub HasNoMatch : Sequent → Subject → Type 0
HasNoMatch s x =
    (cells : List (Cell (List ℕ))) × AreCells cells s × All (λ (w : Way). NeverArises (w.case cells)) (ways_of s x)

-- the first by which it may hold has an equation outside the patterns, of this number from 0
abbrev pub IsOutsideAt : Sequent → Subject → ℕ → Type 0
IsOutsideAt s x i =
    (cells : List (Cell (List ℕ))) × AreCells cells s × (w : Way) × IsFirst cells s x w × IsOpen (w.case cells) i

-- or it leaves variables open, of which the oldest has this name
abbrev pub IsLeftOpen : Sequent → Subject → List ℕ → Type 0
IsLeftOpen s x name =
    (cells : List (Cell (List ℕ))) × AreCells cells s × (w : Way) × IsFirst cells s x w
    × (more : List (Cell (List ℕ))) × (answer : Substitution ℕ (List ℕ)) × (y : Variable) × (ys : List Variable)
    × IsMatched cells w more answer (y ∷ ys) × (name ≡ y.name)

-- IT CAN'T BE, for this cause
abbrev pub IsNotUnfolded : Sequent → Subject → Refusal → Type 0
IsNotUnfolded s x f =
    (HasNoMatch s x × (f ≡ no_match))
    ⊎ (((i : ℕ) × IsOutsideAt s x i × (f ≡ not_pattern (suc i)))
    ⊎ ((name : List ℕ) × IsLeftOpen s x name × (f ≡ unresolved name)))
