-- The row of `cut`: what its rule leads to, and why it isn't taken.
use Rattle.std.specs.Prelude.{is_some, if◌then◌else◌, Result, Ok, Err, OnOk, IfOk}
use Rattle.std.proofs.Common.{◌≡◌, ◌⊎◌, inl, inr, ℕ, List, [], ◌∷◌, Option, Some, None, refl, sym, ◌∙◌, subst}
use Rattle.ab_grammar.specs.CommandTrees as told
use Rattle.ab_term.specs.Terms.{Read}
use Rattle.ab_unifiers.specs.Replacements.{Cell}
use Rattle.ab_unify.specs.Problem.{cells_read}
use Rattle.ab_formulas.specs.Declarations.{Declarations}
use Rattle.ab_formulas.specs.NewNames.{Label}
use Rattle.ab_formulas.specs.Sequents.{Sequent, formula_of}
use Rattle.ab_logic.specs.Worlds.{declarations_of}
use Rattle.ab_logic.specs.declared.world.World.{World}
use Rattle.ab_theory.specs.Steps.{spec_cut}
use Rattle.ab_theory.specs.Rules.{NamedRule, Fails}
use Rattle.ab_steps.specs.ab_kernel.specs.Layout.{Held, goals_of}
use Rattle.ab_effects.specs.ProofCommands.{effect, clashing, missing}
use Rattle.ab_effects.specs.Row.{Row, Leads, Refuses}
use Rattle.ab_meaning.specs.Refusals.{Refusal, no_hypothesis}
use Rattle.ab_steps.specs.ProofEffects.{IsApplied, IsRefused, RefusedBy}
use Rattle.ab_steps.specs.Progress.{Took}
use Rattle.ab_steps.specs.declared.fault.ProofCommandFault.{ProofCommandFault}
use Rattle.ab_steps.proofs.Following.{first_at}
use Rattle.ab_hypothesis.specs.JudgementSteps.{fault_at, IsntTaken}
use Rattle.ab_hypothesis.proofs.JudgementSteps.{refused_so}

-- the first of the two that isn't there
abbrev first_absent : List ℕ → List ℕ → Option Read → Option Read → Option Refusal
first_absent H K a b = if is_some a then (if is_some b then None else Some (no_hypothesis K)) else Some (no_hypothesis H)

both_there : (H K : List ℕ) (a b : Option Read) → first_absent H K a b ≡ None → ((F : Read) × (a ≡ Some F)) × ((G : Read) × (b ≡ Some G))
both_there H K (Some F) (Some G) e = ((F, refl), (G, refl))
both_there H K (Some F) None e = absurd (cc)
both_there H K None b e = absurd (cc)

one_absent : (H K : List ℕ) (f : Refusal) (a b : Option Read) → first_absent H K a b ≡ Some f
    → ((a ≡ None) × (f ≡ no_hypothesis H)) ⊎ ((F : Read) × (a ≡ Some F) × (b ≡ None) × (f ≡ no_hypothesis K))
one_absent H K f (Some F) (Some G) e = absurd (cc)
one_absent H K f (Some F) None e = inr (F, refl, refl, cc)
one_absent H K f None b e = inl (refl, cc)

module _ (D : Declarations) (l : Label) (H K : List ℕ) (s : Sequent) (free : clashing l s ≡ None) where
  abbrev R : Row
  R = effect D l (told.cut H K) s

  leads : (ps : List Sequent) → NamedRule D (spec_cut H K l) s ps → Leads R ps
  leads ps (cells, are, (F, is_F, (G, is_G, (p, is_p, (q, is_q, (L, is_L, (N, t, named, led))))))) =
      (free, (F, is_F, (G, is_G, (p, is_p, (q, is_q, (L, is_L, ((N, t), named, led)))))))

  pub cut_missing : (f : Refusal) → missing (H ∷ K ∷ []) s ≡ Some f → Refuses R f
  cut_missing f e =
      elim (one_absent H K f (formula_of s H) (formula_of s K) e) [
        | inl none ↦ inr (free, inl none)
        | inr there ↦ inr (free, inr (there.0, there.1, inl (there.2, there.3)))
      ]

  refuses : missing (H ∷ K ∷ []) s ≡ None → (cells : List (Cell (List ℕ))) (i : ℕ) → Fails D cells (spec_cut H K l) s i → RefusedBy R (fault_at i)
  refuses all cells i (inl none) =
      let there = (both_there H K (formula_of s H) (formula_of s K) all).0 in
      let clash : None ≡ Some there.0 = sym none.0 ∙ there.1 in
      absurd (cc)
  refuses all cells i (inr (F, is_F, inl none)) =
      let there = (both_there H K (formula_of s H) (formula_of s K) all).1 in
      let clash : None ≡ Some there.0 = sym none.0 ∙ there.1 in
      absurd (cc)
  refuses all cells i (inr (F, is_F, inr (G, is_G, inl none))) =
      subst (λ j. RefusedBy R (fault_at j)) (sym none.1) (inr (free, inr (F, is_F, inr (G, is_G, inl (none.0, refl)))))
  refuses all cells i (inr (F, is_F, inr (G, is_G, inr (p, is_p, inl none)))) =
      subst (λ j. RefusedBy R (fault_at j)) (sym none.1) (inr (free, inr (F, is_F, inr (G, is_G, inr (p, is_p, inl (none.0, refl))))))
  refuses all cells i (inr (F, is_F, inr (G, is_G, inr (p, is_p, inr (q, is_q, inl none))))) =
      subst (λ j. RefusedBy R (fault_at j)) (sym none.1) (inr (free, inr (F, is_F, inr (G, is_G, inr (p, is_p, inr (q, is_q, inl (none.0, refl)))))))
  refuses all cells i (inr (F, is_F, inr (G, is_G, inr (p, is_p, inr (q, is_q, inr (L, is_L, inl none)))))) =
      subst (λ j. RefusedBy R (fault_at j)) (sym none.1) (inr (free, inr (F, is_F, inr (G, is_G, inr (p, is_p, inr (q, is_q, inr (L, is_L, inl (none.0, refl))))))))
  refuses all cells i (inr (F, is_F, inr (G, is_G, inr (p, is_p, inr (q, is_q, inr (L, is_L, inr (N, t, named, none))))))) = absurd none

-- the label is free, and both hypotheses are there
abbrev pub MayCut : World → Held → Label → List ℕ → List ℕ → Type 0
MayCut w p l H K = (s : Sequent) (rest : List Sequent) → goals_of w p ≡ s ∷ rest → (clashing l s ≡ None) × (missing (H ∷ K ∷ []) s ≡ None)

module _ (w : World) (p : Held) (l : Label) (H K : List ℕ) (may : MayCut w p l H K) where
  pub cut_applied : (v : World) (q : Held) → Took w p v q 0 (spec_cut H K l) → IsApplied l (told.cut H K) w p v q
  cut_applied v q took s rest goals =
      let t = took [] rest s (first_at w p s rest goals) in
      (t.0, leads (declarations_of w) l H K s (may s rest goals).0 t.0 t.1, t.2)

  pub cut_refused : (fault : ProofCommandFault) → IsntTaken w p (spec_cut H K l) fault → IsRefused l (told.cut H K) w p fault
  cut_refused fault not s rest goals =
      let here = may s rest goals in
      refused_so (effect (declarations_of w) l (told.cut H K) s) w p (spec_cut H K l) s rest goals (refuses (declarations_of w) l H K s here.0 here.1 (cells_read w.types w.store)) fault not

pub if_ok : {A E : Type 0} (P Q : Type 0) (r : Result A E) → (P → Q) → OnOk r P → IfOk r (λ a. Q)
if_ok P Q (Ok a) f h = f h
if_ok P Q (Err e) f h = tt
