-- Cover of judgements, as the laws say it.
use Rattle.std.proofs.Common.{◌≡◌, ℕ, List, map, length, Option, Some, None, sym, subst}
use Rattle.std.specs.Prelude.{Contains}
use Rattle.ab_term.specs.Terms.{Read}
use Rattle.ab_term.specs.Variables.{Substitution, IsTyped}
use Rattle.ab_unifiers.specs.Replacements.{Cell}
use Rattle.ab_unifiers.specs.Unifiers.{AreKnown}
use Rattle.ab_unifiers.specs.InstanceCover.{IsCleanFor}
use Rattle.ab_unifiers.specs.Member.{HasMember}
use Rattle.ab_formulas.specs.Declarations.{Declarations, signature_in}
use Rattle.ab_formulas.specs.Programs.{program_in, HavePrograms}
use Rattle.ab_formulas.specs.Sequents.{Sequent, IsSequent, formula_of, in_terms}
use Rattle.ab_theory.specs.Analysis.{scope_of}
use Rattle.ab_theory.specs.Judgements.{Judgement, as_judgement}
use Rattle.ab_theory.specs.Parts.{Part, parts_of}
use Rattle.ab_theory.specs.SpecInstances.{IsInstance}
use Rattle.ab_theory.specs.SpecRules.{SpecRule, by_part, rules_of}
use Rattle.ab_coverage.specs.OpenedFormulas.{FullyEqual, NearlyEqual}
use Rattle.ab_coverage.specs.TakenNames.{closes, part_under, IsTaken, taken_off}
use Rattle.ab_coverage.specs.JudgementCover.{judgement_under, RuleMeets}
use Rattle.ab_coverage.proofs.RuleCover.{unfocused_met}
use Rattle.ab_coverage.proofs.FocusedCover.{focused_met}
use Rattle.ab_coverage.proofs.Written.{IsThere, written_by, judgement_there, variables_differ}

module _ (D : Declarations) (programs : HavePrograms D) (has : HasMember (signature_in D)) (cells : List (Cell (List ℕ))) (s t : Sequent) (is : IsSequent D s) (H name : List ℕ) (F : Read) (j : Judgement)
    (e : formula_of s H ≡ Some F) (is_j : as_judgement F ≡ Some j) (rs : List SpecRule) (q : Substitution ℕ (List ℕ)) (q_typed : IsTyped (signature_in D) q) (q_clean : IsCleanFor (scope_of cells s) q) (B : Read) where
  abbrev with_focus : Option Read → Judgement
  with_focus f = record { sign = j.sign; context = j.context; focus = f; goal = j.goal }

  abbrev Unfocused : Option Read → Type 0
  Unfocused f = IsThere (signature_in D) s (written_by f j.context j.goal) → rules_of (program_in D) (with_focus f) ≡ Some rs → IsInstance (signature_in D) (program_in D) (judgement_under q (with_focus f)) B
      → (r : SpecRule) × Contains rs r × RuleMeets FullyEqual (signature_in D) s t name q B (with_focus f) r

  pub unfocused_law : j.focus ≡ None → rules_of (program_in D) j ≡ Some rs → IsInstance (signature_in D) (program_in D) (judgement_under q j) B → (r : SpecRule) × Contains rs r × RuleMeets FullyEqual (signature_in D) s t name q B j r
  unfocused_law none known i =
      subst Unfocused (sym none) (λ there k i2. unfocused_met (signature_in D) has s t name (variables_differ D s is) q q_typed q_clean j.sign j.context (program_in D) programs j.goal there rs k B i2)
      (judgement_there D s is H F j e is_j) known i

  -- the part by which an instance comes, in a formula
  abbrev IsFound : Read → (k : Judgement) → IsInstance (signature_in D) (program_in D) (judgement_under q k) B → Type 0
  IsFound G k i = (p : Part) × Contains (parts_of G) p × Contains rs (by_part p) × (i.rule ≡ by_part (part_under q p))
      × ((ks : List (Option Read)) → IsTaken (signature_in D) (closes (length cells) p) (closes i.number (part_under q p)) p.names ks
      → RuleMeets (λ u v. NearlyEqual u (taken_off (closes i.number (part_under q p)) ks v)) (signature_in D) s t name q B k (by_part p))

  abbrev Focused : Read → Option Read → Type 0
  Focused G f = IsThere (signature_in D) s (written_by f j.context j.goal) → rules_of (program_in D) (with_focus f) ≡ Some rs → (i : IsInstance (signature_in D) (program_in D) (judgement_under q (with_focus f)) B) → IsFound G (with_focus f) i

  pub focused_law : (G : Read) → j.focus ≡ Some G → AreKnown cells (map in_terms s.variables) → rules_of (program_in D) j ≡ Some rs → (i : IsInstance (signature_in D) (program_in D) (judgement_under q j) B) → IsFound G j i
  focused_law G some cells_known known i =
      subst (Focused G) (sym some) (λ there k i2.
      let found = focused_met (signature_in D) has s t name (variables_differ D s is) q q_typed q_clean j.sign j.context G j.goal there B (program_in D) rs k i2 cells cells_known in
      (found.part, found.among, found.listed, found.comes, found.met))
      (judgement_there D s is H F j e is_j) known i
