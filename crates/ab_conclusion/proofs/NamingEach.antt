-- Names of several hypotheses, one after another.
use Rattle.std.proofs.Common.{◌≡◌, ◌+◌, ◌-◌, ◌<◌, ◌++◌, ℕ, zero, suc, List, [], ◌∷◌, map, refl, sym, ◌∙◌, ap, subst, arith}
use Rattle.std.proofs.lemmas.List.{append_assoc, append-nil, map-append}
use Rattle.ab_term.specs.Terms.{Read}
use Rattle.ab_formulas.specs.NewNames.{Label, auto, given}
use Rattle.ab_formulas.specs.Sequents.{Sequent, assuming}
use Rattle.ab_effects.specs.ProofCommands.{IsNamedBy}
use Rattle.ab_conclusion.specs.InductionSizes.{AreNamedBy, label_at}

module _ (word : List ℕ) (l : Label) where
  next_label : (i : ℕ) → label_at (i + 1) l ≡ auto
  next_label i = let e : i + 1 ≡ suc i = omega arith in ap (λ j. label_at j l) e

  -- one gets its name, and those that are left get theirs
  pub one_more : (s : Sequent) (i n : ℕ) (name : List ℕ) (F : Read) (ms : List Label) → i < n → F ≡ s.conclusion → IsNamedBy word (label_at i l) s name
      → AreNamedBy word (label_at (i + 1) l) (assuming name F s) (n - (i + 1)) ms → AreNamedBy word (label_at i l) s (n - i) (given name ∷ ms)
  one_more s i n name F ms below same named rest =
      let left : n - i ≡ suc (n - (i + 1)) = omega (arith, below) in
      subst (λ k. AreNamedBy word (label_at i l) s k (given name ∷ ms)) (sym left) (
        name,
        ms,
        refl,
        named,
        subst (λ (m : Label). AreNamedBy word m (assuming name s.conclusion s) (n - (i + 1)) ms) (next_label i)
            (subst (λ (G : Read). AreNamedBy word (label_at (i + 1) l) (assuming name G s) (n - (i + 1)) ms) same rest),
      )

  -- none is left
  pub none_more : (s : Sequent) (i n : ℕ) → n - i ≡ 0 → AreNamedBy word (label_at i l) s (n - i) []
  none_more s i n e = subst (λ k. AreNamedBy word (label_at i l) s k []) (sym e) refl
