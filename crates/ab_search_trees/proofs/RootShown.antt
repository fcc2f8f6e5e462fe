-- A CLOSED GOAL IS SHOWN, at the root.
use Rattle.std.proofs.Common.{◌≡◌, inl, inr, ℕ, List, [], ◌∷◌, map, true, refl, ◌∙◌, ap, subst, arith}
use Rattle.std.specs.Prelude.{Contains}
use Rattle.std.proofs.lemmas.Bool.{false≢true, false_from_ne_true}
use Rattle.ab_term.specs.Variables.{Substitution, value_in, image}
use Rattle.ab_term.specs.Sameness.{same_number}
use Rattle.ab_term.proofs.Depends.{image_agrees}
use Rattle.ab_term.specs.Terms.{Read}
use Rattle.ab_unifiers.specs.Replacements.{Cell, holds}
use Rattle.ab_unifiers.specs.Unifiers.{keys}
use Rattle.ab_unifiers.proofs.Ruling.{image_none}
use Rattle.ab_unifiers.specs.Member.{HasMember}
use Rattle.ab_formulas.specs.Declarations.{Declarations, signature_in, HaveDefinitions}
use Rattle.ab_formulas.specs.Programs.{HavePrograms}
use Rattle.ab_formulas.specs.Sequents.{Sequent, formulas, IsSequent}
use Rattle.ab_theory.specs.Equations.{AreCells}
use Rattle.ab_search_trees.specs.Goals.{Goal, Now, beginning, first_goal}
use Rattle.ab_search_trees.specs.Tree.{Leaf, found}
use Rattle.ab_search_trees.specs.Outcomes.{Searched, closed, outcome_of}
use Rattle.ab_search_trees.specs.Shown.{Shown}
use Rattle.ab_search_trees.proofs.Lifts.{known_cell, no_value}
use Rattle.ab_search_trees.proofs.Facts.{Facts, AllParts}
use Rattle.ab_search_trees.proofs.Shows.{IsLater}
use Rattle.ab_search_trees.proofs.ShowsRest.{ways_fine}
use Rattle.ab_search_trees.proofs.Answered.{answers_show}
use Rattle.ab_search_trees.proofs.Root.{task}
use Rattle.ab_search_trees.proofs.Telling.{closed_found}

module _ (D : Declarations) (cells : List (Cell (List ℕ))) (depth : ℕ) (s : Sequent) (defs : HaveDefinitions D) (program : HavePrograms D) (has_list : HasMember (signature_in D)) (is : IsSequent D s) (are : AreCells cells s) where
  abbrev now : Now
  now = beginning cells s

  abbrev g : Goal
  g = first_goal depth s

  pub answer_shown : (ls : List Leaf) → Searched D cells depth s ls → (last : Now) → Contains ls (found last) → Shown D (formulas s.hypotheses) s.conclusion
  answer_shown ls l last m =
      let t = task D cells depth s is are in
      let told = answers_show D (λ now g f t. ways_fine D defs program now f g t has_list) l (λ y h. absurd (false≢true h)) (λ k d l. absurd (omega (arith, l))) (t, tt) last m in
      let later = (told.1).later in
      subst (λ Hs. Shown D Hs s.conclusion) (all_stay told.0 later g.hypotheses t.hypotheses)
      (subst (Shown D (map (image same_number told.0) g.hypotheses)) (stays told.0 later s.conclusion t.conclusion.facts) (told.2).0)
    where
      stays : (r : Substitution ℕ (List ℕ)) → IsLater (signature_in D) now r → (t : Read) → Facts now g.constants true t → image same_number r t ≡ t
      stays r l t p = image_agrees (value_in same_number r) (value_in same_number []) t (λ y m. no_value r y (false_from_ne_true (holds (keys r) y) (λ k. elim (l.within y k) [ inl a ↦ false≢true a | inr b ↦ (let low = known_cell cells y.name y.type (p.over y m) in absurd (omega (arith, low, b))) ]))) ∙ image_none t

      all_stay : (r : Substitution ℕ (List ℕ)) → IsLater (signature_in D) now r → (ts : List Read) → AllParts (signature_in D) now g.constants true ts → map (image same_number r) ts ≡ ts
      all_stay r l [] p = refl
      all_stay r l (t ∷ ts) p = ap (λ k. k ∷ map (image same_number r) ts) (stays r l t (p.0).facts) ∙ ap (λ k. t ∷ k) (all_stay r l ts p.1)

  -- the search closes only what is shown
  pub closed_shown : (ls : List Leaf) → Searched D cells depth s ls → outcome_of ls ≡ closed → Shown D (formulas s.hypotheses) s.conclusion
  closed_shown ls l e = let f = closed_found ls e in answer_shown ls l f.0 f.1
