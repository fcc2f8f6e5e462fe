-- GOALS THAT ASK FOR CONJUNCTIONS give way to their halves, from the left.
use Rattle.std.specs.Prelude.{◌≡◌, ℕ, List, [], ◌∷◌, ◌++◌, Some, None, length}
use Rattle.ab_term.specs.Terms.{Read}
use Rattle.ab_formulas.specs.Forms.{as_both}
use Rattle.ab_formulas.specs.Sequents.{Sequent, proving}
use Rattle.ab_logic.specs.declared.world.World.{World}
use Rattle.ab_steps.specs.ab_kernel.specs.Layout.{Held, goals_of}

-- each goal that asks for a conjunction gave way to its halves, and so did these
pub data Parted : List Sequent → List Sequent → Type 0 where
  none : Parted [] []
  whole : {s : Sequent} {ss ts : List Sequent} → as_both s.conclusion ≡ None → Parted ss ts → Parted (s ∷ ss) (s ∷ ts)
  halves : {s : Sequent} {A B : Read} {ss ts : List Sequent} → as_both s.conclusion ≡ Some (A, B) → Parted (proving A s ∷ proving B s ∷ ss) ts → Parted (s ∷ ss) ts

-- all open goals but so many at the end were parted
abbrev pub AreParted : World → Held → World → Held → ℕ → Type 0
AreParted w p v q behind = (ss rest : List Sequent) → goals_of w p ≡ ss ++ rest → length rest ≡ behind →
    (ts : List Sequent) × Parted ss ts × (goals_of v q ≡ ts ++ rest)
