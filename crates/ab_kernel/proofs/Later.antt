-- A proof, where its world has grown.
use Rattle.std.specs.List.{All}
use Rattle.std.proofs.Common.{◌≡◌, List, [], ◌∷◌, map, refl, sym, ◌∙◌, ap, subst}
use Rattle.std.proofs.lemmas.List.Elements.{All-head, All-tail, All-weaker}
use Rattle.ab_term.specs.Terms.{Nominal, Read}
use Rattle.ab_norm.specs.ab_types.proofs.Entries.{same_type, holds_type}
use Rattle.ab_logic.specs.Worlds.{Holds, read, declarations_of}
use Rattle.ab_logic.specs.WorldGrowth.{Grows}
use Rattle.ab_formulas.specs.Sequents.{Sequent, IsSequent}
use Rattle.ab_logic.specs.SequentReadings.{sequent_of, HoldsSequent}
use Rattle.ab_logic.specs.declared.world.World.{World}
use Rattle.ab_logic.proofs.Growing.{map_same, same_sequent, still_held}
use Rattle.ab_norm.specs.Nominals.{nominal_of, HoldsNominal}
use Rattle.ab_rules.specs.declared.replaces.Replace.{Replace}
use Rattle.ab_rules.specs.declared.step.Step.{Step}
use Rattle.ab_rules.specs.declared.step.Step.TheVariants.{Initial, TrueRight, FalseLeft, AndRight, AndLeft, OrRight, OrLeft, ArrowRight, ArrowLeft, ForallRight, ForallLeft, ExistsRight, ExistsLeft, NablaRight, NablaLeft, EqualRight, EqualLeft, DefRight, DefLeft, Induction, Coinduction, CutFormula, UseTheorem, Weaken, SpecCut, SpecInst, SpecMonotone, Skip}
use Rattle.ab_kernel.specs.Nodes.{sequents_in}
use Rattle.ab_kernel.specs.Layout.{StepAt, steps_in, Held, premises_of, sequents_before, made_by, history_of, HoldsProof, IsProof}
use Rattle.ab_rules.specs.RuleAnswers.{step_of, HoldsStep, HoldsReplace, label_of, replacements}
use Rattle.ab_theory.specs.Steps as plain
use Rattle.ab_theory.specs.Derivations.{Derivation, root, Valid, History, after}
use Rattle.ab_theory.specs.Growth.{AddsNoClause}
use Rattle.ab_theory.proofs.SameRules.{adds_none}
use Rattle.ab_theory.proofs.Refining.{still_valid}
use Rattle.ab_theory.proofs.Rooted.{still_sequent}

module _ (w v : World) (grown : Grows w v) where
  same_nominal : (r : Replace) → HoldsNominal w.types r.from → nominal_of v.types r.from ≡ nominal_of w.types r.from
  same_nominal r h =
      ap (λ t. nominal_of t r.from) grown.types.1 ∙ ap (λ A. record { number = r.from.number; type = A }) (same_type w.types grown.types.0 r.from.ty h)

  pub same_replacements : (rs : List Replace) → All (HoldsReplace w) rs → replacements v rs ≡ replacements w rs
  same_replacements rs all =
      map_same (λ (r : Replace). pair v r) (λ (r : Replace). pair w r) (HoldsReplace w)
      (λ r h. ap (λ n. both n (read v r.to)) (same_nominal r h.0) ∙ ap (both (nominal_of w.types r.from)) (grown.readings r.to h.1)) rs all
    where
      both : Nominal → Read → Nominal × Read
      both n t = (n, t)

      pair : World → Replace → Nominal × Read
      pair u r = (nominal_of u.types r.from, read u r.to)

  pub same_step : (step : Step) → HoldsStep w step → step_of v step ≡ step_of w step
  same_step (Initial H) h = refl
  same_step TrueRight h = refl
  same_step (FalseLeft H) h = refl
  same_step AndRight h = refl
  same_step (AndLeft H l m) h = refl
  same_step (OrRight b) h = refl
  same_step (OrLeft H l) h = refl
  same_step (ArrowRight l) h = refl
  same_step (ArrowLeft H l) h = refl
  same_step ForallRight h = refl
  same_step (ForallLeft H t l) h = ap (λ u. plain.for_all_left H u (label_of l)) (grown.readings t h)
  same_step (ExistsRight t) h = ap plain.exists_right (grown.readings t h)
  same_step (ExistsLeft H l) h = refl
  same_step NablaRight h = refl
  same_step (NablaLeft H l) h = refl
  same_step EqualRight h = refl
  same_step (EqualLeft H) h = refl
  same_step (DefRight i) h = refl
  same_step (DefLeft H l) h = refl
  same_step (Induction ns ls) h = refl
  same_step (Coinduction ls) h = refl
  same_step (CutFormula F l) h = ap (λ t. plain.cut_formula t (label_of l)) (grown.readings F h)
  same_step (UseTheorem n l) h = refl
  same_step (Weaken H) h = refl
  same_step (SpecCut H K l) h = refl
  same_step (SpecInst H rs l) h = ap (λ xs. plain.spec_instance H xs (label_of l)) (same_replacements rs h)
  same_step (SpecMonotone H K l) h = ap (λ t. plain.spec_monotone H t (label_of l)) (grown.readings K h)
  same_step Skip h = refl

  still_nominal : (r : Replace) → HoldsNominal w.types r.from → HoldsNominal v.types r.from
  still_nominal r h = subst (λ t. HoldsNominal t r.from) (sym grown.types.1) (holds_type w.types grown.types.0 r.from.ty h)

  pub still_replaces : (rs : List Replace) → All (HoldsReplace w) rs → All (HoldsReplace v) rs
  still_replaces rs all = All-weaker (HoldsReplace w) (HoldsReplace v) (λ r q. (still_nominal r q.0, grown.ids r.to q.1)) rs all

  pub still_step : (step : Step) → HoldsStep w step → HoldsStep v step
  still_step (Initial H) h = tt
  still_step TrueRight h = tt
  still_step (FalseLeft H) h = tt
  still_step AndRight h = tt
  still_step (AndLeft H l m) h = tt
  still_step (OrRight b) h = tt
  still_step (OrLeft H l) h = tt
  still_step (ArrowRight l) h = tt
  still_step (ArrowLeft H l) h = tt
  still_step ForallRight h = tt
  still_step (ForallLeft H t l) h = grown.ids t h
  still_step (ExistsRight t) h = grown.ids t h
  still_step (ExistsLeft H l) h = tt
  still_step NablaRight h = tt
  still_step (NablaLeft H l) h = tt
  still_step EqualRight h = tt
  still_step (EqualLeft H) h = tt
  still_step (DefRight i) h = tt
  still_step (DefLeft H l) h = tt
  still_step (Induction ns ls) h = tt
  still_step (Coinduction ls) h = tt
  still_step (CutFormula F l) h = grown.ids F h
  still_step (UseTheorem n l) h = tt
  still_step (Weaken H) h = tt
  still_step (SpecCut H K l) h = tt
  still_step (SpecInst H rs l) h = still_replaces rs h
  still_step (SpecMonotone H K l) h = grown.ids K h
  still_step Skip h = tt

  same_made : (ss : List Sequent) (rs : List StepAt) → All (λ (r : StepAt). HoldsStep w r.step) rs → made_by v ss rs ≡ made_by w ss rs
  same_made ss [] all = refl
  same_made ss (r ∷ rs) all =
      ap (λ k. after r.place k (premises_of r ss) (made_by v (sequents_before r ss) rs)) (same_step r.step (All-head (λ (q : StepAt). HoldsStep w q.step) r rs all))
      ∙ ap (after r.place (step_of w r.step) (premises_of r ss)) (same_made (sequents_before r ss) rs (All-tail (λ (q : StepAt). HoldsStep w q.step) r rs all))

  pub same_read : (p : Held) → HoldsProof w p → history_of v p ≡ history_of w p
  same_read p proof =
      ap (λ ss. made_by v ss (steps_in p.nodes p.journal)) (map_same (sequent_of v) (sequent_of w) (HoldsSequent w) (same_sequent w v grown) (sequents_in p.nodes) proof.sequents)
      ∙ same_made (map (sequent_of w) (sequents_in p.nodes)) (steps_in p.nodes p.journal) proof.steps

  pub still_holds : (p : Held) → HoldsProof w p → HoldsProof v p
  still_holds p proof = record {
    sequents = All-weaker (HoldsSequent w) (HoldsSequent v) (still_held w v grown) (sequents_in p.nodes) proof.sequents;
    steps = All-weaker (λ (r : StepAt). HoldsStep w r.step) (λ (r : StepAt). HoldsStep v r.step) (λ r. still_step r.step) (steps_in p.nodes p.journal) proof.steps;
    rooted =
        subst (λ (h : History). IsSequent (declarations_of v) (root h.tree)) (sym (same_read p proof))
        (still_sequent (declarations_of w) (declarations_of v) grown.declarations (root (history_of w p).tree) proof.rooted);
  }

pub same_history : (w v : World) → Grows w v → (p : Held) → IsProof w p → history_of v p ≡ history_of w p
same_history w v grown p proof = same_read w v grown p proof.held

-- what is derived stays so where no clause of the program was added

abbrev pub AddsNone : World → World → Type 0
AddsNone w v = AddsNoClause (declarations_of w) (declarations_of v)

pub same_declared : (w v : World) → declarations_of v ≡ declarations_of w → AddsNone w v
same_declared w v declared = subst (AddsNoClause (declarations_of w)) (sym declared) (adds_none (declarations_of w))

pub still_derived : (w v : World) → AddsNone w v → (d : Derivation) → Valid (declarations_of w) d → Valid (declarations_of v) d
still_derived w v none d valid = still_valid (declarations_of w) (declarations_of v) none d valid

pub outlived_proof : (w v : World) → Grows w v → AddsNone w v → (p : Held) → IsProof w p → IsProof v p
outlived_proof w v grown none p proof = record {
  held = still_holds w v grown p proof.held;
  valid = subst (λ (h : History). Valid (declarations_of v) h.tree) (sym (same_history w v grown p proof)) (still_derived w v none (history_of w p).tree proof.valid);
  was_valid =
      subst (λ (h : History). All (Valid (declarations_of v)) h.earlier) (sym (same_history w v grown p proof))
      (All-weaker (Valid (declarations_of w)) (Valid (declarations_of v)) (still_derived w v none) (history_of w p).earlier proof.was_valid);
}

pub still_proof : (w v : World) → Grows w v → declarations_of v ≡ declarations_of w → (p : Held) → IsProof w p → IsProof v p
still_proof w v grown declared p proof = outlived_proof w v grown (same_declared w v declared) p proof
