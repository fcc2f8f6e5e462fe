-- THAT A HYPOTHESIS IS TAKEN APART WITHOUT LOSS, be it a defined atom, a judgement or an equation: each instance of it under a substitution
-- is met by one of the goals that come of it. All is said of the formulas as they stand in that goal.
use Rattle.std.specs.Prelude.{◌≡◌, ℕ, ◌<◌, List, codes, Option, Some, None, All, Contains}
use Rattle.ab_term.specs.Terms.{constant, spine, Read}
use Rattle.ab_term.specs.Typing.{Signature}
use Rattle.ab_term.specs.Translation.{EqualPastHints}
use Rattle.ab_term.specs.Names.{EqualUpToNames}
use Rattle.ab_term.specs.Variables.{Substitution, image, IsTyped}
use Rattle.ab_term.specs.Sameness.{same_number}
use Rattle.ab_unifiers.specs.Clauses.{Instance}
use Rattle.ab_formulas.specs.Declarations.{Declarations, signature_in}
use Rattle.ab_formulas.specs.Forms.{as_equal}
use Rattle.ab_formulas.specs.Marks.{erased}
use Rattle.ab_formulas.specs.Programs.{program_in}
use Rattle.ab_formulas.specs.Sequents.{Variable, Sequent, assuming}
use Rattle.ab_theory.specs.Atoms.{Defined, defined_atom}
use Rattle.ab_theory.specs.Judgements.{Judgement, as_judgement}
use Rattle.ab_theory.specs.Parts.{Part, parts_of}
use Rattle.ab_theory.specs.SpecInstances.{IsInstance}
use Rattle.ab_theory.specs.SpecRules.{by_part}
use Rattle.ab_coverage.specs.GoalFormulas.{IsUnder}
use Rattle.ab_coverage.specs.JudgementCover.{judgement_under}
use Rattle.ab_coverage.specs.OpenedFormulas.{FullyEqual, NearlyEqual}
use Rattle.ab_coverage.specs.TakenNames.{closes, part_under, IsTaken, taken_off}

-- THE GOAL MEETS the body: it assumes something new behind formulas that were there. Another substitution gives of what is new, without
-- its marks, the body, and of each of the others what q gives of the formula that was there. `like` compares bodies, `alike` the others.
pub record MeetsBody (like alike : Read → Read → Type 0) (sg : Signature) (q : Substitution ℕ (List ℕ)) (B : Read) (rest g : Sequent) : Type 0 where
  pub name : List ℕ
  pub assumed : Read
  pub others : Sequent
  pub goal : g ≡ assuming name assumed others
  pub then : Substitution ℕ (List ℕ)
  pub typed : IsTyped sg then
  pub body : like (erased (image same_number then assumed)) B
  pub under : IsUnder alike then q rest others

-- one of the goals does so
abbrev pub OneMeetsBody : (Read → Read → Type 0) → (Read → Read → Type 0) → Signature → Substitution ℕ (List ℕ) → Read → Sequent → List Sequent → Type 0
OneMeetsBody like alike sg q B rest gs = (g : Sequent) × Contains gs g × MeetsBody like alike sg q B rest g

-- the same up to names, once the marks of the second are taken off
abbrev pub EqualToUnmarked : Read → Read → Type 0
EqualToUnmarked t u = EqualUpToNames t (erased u)

-- NOTHING IS LOST of a hypothesis of the goal s that says F, under a substitution, where `rest` stays of the goal, and these goals come. An atom
-- is met up to names; a judgement with all judgements opened. Of a focused one it is the part by which the instance comes, and names that
-- the instance alone closes are taken off, whatever terms are put in for them; n is any number above those of the goal's variables.
pub record IsCovered (D : Declarations) (s : Sequent) (F : Read) (q : Substitution ℕ (List ℕ)) (rest : Sequent) (gs : List Sequent) : Type 0 where
  pub atoms : (d : Defined) (B : Read) → defined_atom D F ≡ Some d → Instance (signature_in D) (codes "x") d.block.clauses (image same_number q (spine (constant d.predicate) d.arguments)) B
      → OneMeetsBody EqualToUnmarked EqualUpToNames (signature_in D) q B rest gs
  pub judgements : (j : Judgement) (B : Read) → as_judgement F ≡ Some j → j.focus ≡ None → IsInstance (signature_in D) (program_in D) (judgement_under q j) B
      → OneMeetsBody FullyEqual EqualPastHints (signature_in D) q B rest gs
  pub focused_ones : (j : Judgement) (G B : Read) → as_judgement F ≡ Some j → j.focus ≡ Some G → (i : IsInstance (signature_in D) (program_in D) (judgement_under q j) B)
      → (n : ℕ) → All (λ (x : Variable). x.number < n) s.variables
      → (p : Part) × Contains (parts_of G) p × (i.rule ≡ by_part (part_under q p))
      × ((terms : List (Option Read)) → IsTaken (signature_in D) (closes n p) (closes i.number (part_under q p)) p.names terms
      → OneMeetsBody (λ u v. NearlyEqual u (taken_off (closes i.number (part_under q p)) terms v)) EqualPastHints (signature_in D) q B rest gs)
  pub equations : (t u : Read) → as_equal F ≡ Some (t, u) → EqualPastHints (image same_number q t) (image same_number q u)
      → (g : Sequent) × Contains gs g × ((then : Substitution ℕ (List ℕ)) × IsTyped (signature_in D) then × IsUnder EqualPastHints then q rest g)
