-- A STEP THAT IS TAKEN at an open goal gives a derivation its node, and leaves it all nodes that it had.
use Rattle.std.specs.Prelude.{slice_get, nat_lt, if◌then◌else◌}
use Rattle.std.proofs.Common.{◌≡◌, ◌⊎◌, inl, inr, ℕ, zero, suc, ◌-◌, Bool, true, false, Some, List, [], ◌∷◌, length, refl, sym, ◌∙◌, subst}
use Rattle.ab_formulas.specs.Sequents.{Sequent}
use Rattle.ab_formulas.proofs.KernelSplits.{place_cases, get_left, get_right}
use Rattle.ab_theory.specs.Derivations.{Derivation, goal, by, Derivations, none, more, roots, open_goals, all_open_goals, goals, refined, refined_in}
use Rattle.ab_theory.specs.Steps.{Step}
use Rattle.ab_theory.proofs.Refining.{roots-goals, here, there, roots-refined}
use Rattle.ab_coverage.specs.Nodes.{HasNode, HaveNode}

module _ (s : Sequent) (step : Step) (ps : List Sequent) where
  mutual
    pub gives_node : (p : ℕ) (d : Derivation) → slice_get (open_goals d) p ≡ Some s → HasNode (refined p step ps d) s step ps
    gives_node zero (goal t) is = let same : t ≡ s = cc in inl (refl, same, roots-goals ps)
    gives_node (suc p) (goal t) is = absurd (cc)
    gives_node p (by r t ds) is = inr (give_node p ds is)

    give_node : (p : ℕ) (ds : Derivations) → slice_get (all_open_goals ds) p ≡ Some s → HaveNode (refined_in p step ps ds) s step ps
    give_node p none is = absurd (cc)
    give_node p (more d ds) is = elim (place_cases p (length (open_goals d))) [
      | inl c ↦ subst (λ es. HaveNode es s step ps) (sym (here step ps p d ds c.1)) (inl (gives_node p d (sym (get_left (open_goals d) (all_open_goals ds) p c.0) ∙ is)))
      | inr c ↦ subst (λ es. HaveNode es s step ps) (sym (there step ps p d ds c.1)) (inr (give_node (p - length (open_goals d)) ds (sym (get_right (open_goals d) (all_open_goals ds) p c.0) ∙ is)))
    ]

  module _ (other : Step) (qs : List Sequent) where
    mutual
      pub keeps_node : (p : ℕ) (d : Derivation) → HasNode d s step ps → HasNode (refined p other qs d) s step ps
      keeps_node p (goal t) node = absurd node
      keeps_node p (by r t ds) (inl one) = inl (one.0, one.1, roots-refined other qs p ds ∙ one.2)
      keeps_node p (by r t ds) (inr below) = inr (keep_node p ds below)

      keep_node : (p : ℕ) (ds : Derivations) → HaveNode ds s step ps → HaveNode (refined_in p other qs ds) s step ps
      keep_node p none node = absurd node
      keep_node p (more d ds) (inl first) = elim (place_cases p (length (open_goals d))) [
        | inl c ↦ subst (λ es. HaveNode es s step ps) (sym (here other qs p d ds c.1)) (inl (keeps_node p d first))
        | inr c ↦ subst (λ es. HaveNode es s step ps) (sym (there other qs p d ds c.1)) (inl first)
      ]
      keep_node p (more d ds) (inr others) = elim (place_cases p (length (open_goals d))) [
        | inl c ↦ subst (λ es. HaveNode es s step ps) (sym (here other qs p d ds c.1)) (inr others)
        | inr c ↦ subst (λ es. HaveNode es s step ps) (sym (there other qs p d ds c.1)) (inr (keep_node (p - length (open_goals d)) ds others))
      ]
