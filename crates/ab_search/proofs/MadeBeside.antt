-- What is made before a step or after it doesn't change what the step did.
use Rattle.std.proofs.Common.{◌≡◌, ℕ, Result, Ok, Err, OnOk, refl, sym, ◌∙◌, ap, subst}
use Rattle.std.proofs.lemmas.List.Elements.{All-head}
use Rattle.ab_formulas.specs.Declarations.{Declarations, signature_in}
use Rattle.ab_formulas.specs.Formulas.{IsFormula}
use Rattle.ab_formulas.specs.Sequents.{IsSequent, formulas}
use Rattle.ab_logic.specs.SequentReadings.{sequent_of, HoldsSequent}
use Rattle.ab_logic.specs.declared.sequent.Sequent.{Sequent as Kept}
use Rattle.ab_logic.specs.Worlds.{read, declarations_of}
use Rattle.ab_logic.specs.WorldGrowth.{Grows}
use Rattle.ab_logic.specs.declared.world.World.{World}
use Rattle.ab_theory.specs.Derivations.{History, open_goals}
use Rattle.ab_steps.specs.ab_kernel.specs.Layout.{Held, IsProof, goals_of}
use Rattle.ab_steps.specs.ab_kernel.proofs.Later.{same_history, still_proof}
use Rattle.ab_steps.specs.Progress.{Follows}
use Rattle.ab_steps.proofs.Following.{follows_on, follows_same}
use Rattle.ab_search.specs.GoalCounts.{GaveWayTo}
use Rattle.ab_search.proofs.Counting.{gave_before}

same_goals : (w v : World) (p : Held) → IsProof w p → Grows w v → goals_of v p ≡ goals_of w p
same_goals w v p proof grows = ap (λ (h : History). open_goals h.tree) (same_history w v grows p proof)

-- what holds whatever is answered
pub always : {A E P : Type 0} (r : Result A E) → P → OnOk r P
always (Ok x) p = p
always (Err e) p = tt

-- no step was taken
pub only_made : (w v : World) (p : Held) → IsProof w p → Grows w v → declarations_of v ≡ declarations_of w → Follows w p v p
only_made w v p proof grows declared = follows_same w v p p grows declared proof (still_proof w v grows declared p proof) refl

-- before the step
pub made_first : (w v u : World) (p q : Held) → IsProof w p → Grows w v → declarations_of v ≡ declarations_of w → Follows v p u q → Follows w p u q
made_first w v u p q proof grows declared then = follows_on w v u p p q (only_made w v p proof grows declared) then

pub gave_made_first : (w v u : World) (p q : Held) (place count : ℕ) → IsProof w p → Grows w v → GaveWayTo v p u q place count → GaveWayTo w p u q place count
gave_made_first w v u p q place count proof grows gave = gave_before w v u p p q place count (same_goals w v p proof grows) gave

-- after the step
pub made_last : (w v u : World) (p q : Held) → Follows w p v q → Grows v u → declarations_of u ≡ declarations_of v → Follows w p u q
made_last w v u p q first grows declared = follows_on w v u p q q first (only_made v u q first.proof grows declared)

pub gave_made_last : (w v u : World) (p q : Held) (place count : ℕ) → IsProof v q → Grows v u → GaveWayTo w p v q place count → GaveWayTo w p u q place count
gave_made_last w v u p q place count proof grows gave = λ before behind s at.
    let a = gave before behind s at in
    (a.0, a.1, same_goals v u q proof grows ∙ a.2)

-- what stands in the conclusion of a sequent is a formula, later too
pub conclusion_later : (w v : World) → Grows w v → declarations_of v ≡ declarations_of w → (s : Kept) → HoldsSequent w s → IsSequent (declarations_of w) (sequent_of w s)
    → IsFormula (signature_in (declarations_of v)) (read v s.conclusion)
conclusion_later w v grows declared s held is =
    subst (λ (D : Declarations). IsFormula (signature_in D) (read v s.conclusion)) (sym declared)
    (subst (IsFormula (signature_in (declarations_of w))) (sym (grows.readings s.conclusion held.conclusion))
    (All-head (IsFormula (signature_in (declarations_of w))) (read w s.conclusion) (formulas (sequent_of w s).hypotheses) is.formulas))
