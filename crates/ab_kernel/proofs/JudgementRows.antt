-- The rows of cut, instance and monotonicity of judgements, where all conditions hold but that the new hypothesis gets a name.
use Rattle.std.specs.Prelude.{Result, Ok, Err, map}
use Rattle.std.proofs.Common.{◌≡◌, ℕ, List, [], ◌∷◌, Vec, Global, Some, inr, subst}
use Rattle.ab_term.specs.Terms.{Nominal, Read}
use Rattle.ab_term.specs.Types.{olist}
use Rattle.ab_formulas.specs.Declarations.{Declarations}
use Rattle.ab_formulas.specs.Marks.{plain}
use Rattle.ab_formulas.specs.NewNames.{Label}
use Rattle.ab_formulas.specs.Sequents.{Sequent, Fits, formula_of, proving, assuming}
use Rattle.ab_logic.specs.declared.world.World.{World}
use Rattle.ab_logic.specs.declared.sequent.Sequent.{Sequent as Kept}
use Rattle.ab_theory.specs.Contexts.{cut_list, replace_constants, MayBeReplaced, AllFit, is_within}
use Rattle.ab_theory.specs.Judgements.{as_unfocused, marked_judgement}
use Rattle.ab_theory.specs.Row.{Row, leads, labelled}
use Rattle.ab_theory.specs.Rules.{Making, row}
use Rattle.ab_theory.specs.Steps.{spec_cut, spec_instance, spec_monotone}
use Rattle.ab_rules.specs.RuleAnswers.{Answers}
use Rattle.ab_rules.specs.declared.step.KernelFault.{KernelFault}
use Rattle.ab_rules.specs.declared.step.KernelFault.TheVariants.{RuleFails, NotPattern, Memory}

-- what comes of a new hypothesis

abbrev pub with_hypothesis : ℕ → Label → Sequent → Read → Row
with_hypothesis i l s F = labelled i l s (λ N t. leads (assuming N F t ∷ []))

abbrev pub beside_goal : ℕ → Label → Sequent → Read → Read → Row
beside_goal i l s A F = labelled i l s (λ N t. leads (proving A s ∷ assuming N F t ∷ []))

module _ (v : World) (i : ℕ) (l : Label) (r : Result (Vec Kept Global) KernelFault) (s t : Sequent) (same : s ≡ t) (F G : Read) (is : F ≡ G) where
  pub with_same : Answers v (with_hypothesis i l s F) r → Answers v (with_hypothesis i l t G) r
  with_same a = subst (λ u. Answers v (with_hypothesis i l u G) r) same (subst (λ H. Answers v (with_hypothesis i l s H) r) is a)

  pub beside_same : (A B : Read) → A ≡ B → Answers v (beside_goal i l s A F) r → Answers v (beside_goal i l t B G) r
  beside_same A B e a =
      subst (λ u. Answers v (beside_goal i l u B G) r) same (subst (λ C. Answers v (beside_goal i l s C G) r) e (subst (λ H. Answers v (beside_goal i l s A H) r) is a))

module _ (v : World) (D : Declarations) (new : Making) (l : Label) (s : Sequent) (H : List ℕ) (F : Read) (p : Read × Read) (found : formula_of s H ≡ Some F) (judged : as_unfocused F ≡ Some p) where
  pub cut_row : (K : List ℕ) (G L : Read) (q : Read × Read) (r : Result (Vec Kept Global) KernelFault) → formula_of s K ≡ Some G → as_unfocused G ≡ Some q → cut_list p.0 q.1 q.0 ≡ Some L
      → Answers v (with_hypothesis 4 l s (marked_judgement plain L p.1)) r → Answers v (row D new (spec_cut H K l) s) r
  cut_row K G L q (Ok ps) other also left a = ((F, found, (G, other, (p, judged, (q, also, (L, left, a.0))))), a.1)
  cut_row K G L q (Err (RuleFails j)) other also left a = inr (F, found, inr (G, other, inr (p, judged, inr (q, also, inr (L, left, a)))))
  cut_row K G L q (Err (NotPattern j)) other also left a = (F, found, (G, other, (p, judged, (q, also, (L, left, a)))))
  cut_row K G L q (Err (Memory m)) other also left a = tt

  pub instance_row : (rs : List (Nominal × Read)) (r : Result (Vec Kept Global) KernelFault) → MayBeReplaced (marked_judgement plain p.0 p.1) (map (λ (x : Nominal × Read). x.0) rs) → AllFit D s [] rs
      → Answers v (with_hypothesis 5 l s (replace_constants rs (marked_judgement plain p.0 p.1))) r → Answers v (row D new (spec_instance H rs l) s) r
  instance_row rs (Ok ps) may fit a = ((F, found, (p, judged, (may, (fit, a.0)))), a.1)
  instance_row rs (Err (RuleFails j)) may fit a = inr (F, found, inr (p, judged, inr (may, inr (fit, a))))
  instance_row rs (Err (NotPattern j)) may fit a = (F, found, (p, judged, (may, (fit, a))))
  instance_row rs (Err (Memory m)) may fit a = tt

  pub monotone_row : (K : Read) (r : Result (Vec Kept Global) KernelFault) → Fits D s K olist
      → Answers v (beside_goal 4 l s (is_within p.0 K) (marked_judgement plain K p.1)) r → Answers v (row D new (spec_monotone H K l) s) r
  monotone_row K (Ok ps) fit a = ((F, found, (p, judged, (fit, a.0))), a.1)
  monotone_row K (Err (RuleFails j)) fit a = inr (F, found, inr (p, judged, inr (fit, a)))
  monotone_row K (Err (NotPattern j)) fit a = (F, found, (p, judged, (fit, a)))
  monotone_row K (Err (Memory m)) fit a = tt
