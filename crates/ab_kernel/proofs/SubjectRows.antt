-- The rows of subjects: a conclusion is unfolded in the way of a place, or why it isn't.
use Rattle.std.specs.Prelude.{slice_get}
use Rattle.std.proofs.Common.{◌≡◌, ℕ, List, [], ◌∷◌, Some, None, inl, inr, refl, ap}
use Rattle.ab_formulas.specs.BodyMarks.{MayBeUnfolded}
use Rattle.ab_formulas.specs.Declarations.{Declarations}
use Rattle.ab_formulas.specs.Sequents.{Sequent}
use Rattle.ab_theory.specs.Row.{Takes, FailsFirst, Sticks}
use Rattle.ab_theory.specs.Rules.{Making, row}
use Rattle.ab_theory.specs.Splits.{NeverArises, IsOpen}
use Rattle.ab_theory.specs.Steps.{definition_right}
use Rattle.ab_theory.specs.Subjects.{Subject, Way, subject_of, sign_of, ways_of}
use Rattle.ab_judgements.specs.SubjectAnswers.{IsUnfoldedBy}

module _ (D : Declarations) (new : Making) (i : ℕ) (s : Sequent) where
  pub no_subject : subject_of D s.conclusion ≡ None → FailsFirst (row D new (definition_right i) s) 1
  no_subject none = inl (none, refl)

  module _ (x : Subject) (is : subject_of D s.conclusion ≡ Some x) where
    pub no_mark : ¬ MayBeUnfolded (sign_of x) → FailsFirst (row D new (definition_right i) s) 2
    no_mark not = inr (x, is, inl (not, refl))

    module _ (may : MayBeUnfolded (sign_of x)) where
      pub no_way : slice_get (ways_of s x) i ≡ None → FailsFirst (row D new (definition_right i) s) 3
      no_way none = inr (x, is, inr (may, inl (none, refl)))

      module _ (y : Way) (there : slice_get (ways_of s x) i ≡ Some y) where
        pub never_so : NeverArises (y.case new.cells) → FailsFirst (row D new (definition_right i) s) 4
        never_so never = inr (x, is, inr (may, inr (y, there, (never, refl))))

        pub sticks_so : (j : ℕ) → IsOpen (y.case new.cells) j → Sticks (row D new (definition_right i) s) j
        sticks_so j outside = (x, is, (may, (y, there, outside)))

        pub unfolds_so : (g : Sequent) → IsUnfoldedBy new.cells s y g → Takes (row D new (definition_right i) s) (g ∷ [])
        unfolds_so g (more, answer, solves, e) = (x, is, (may, (y, there, (more, answer, solves, ap (λ h. h ∷ []) e))))
