-- The form of a goal under a substitution, and of an atom under its binders.
use Rattle.std.proofs.Common.{◌≡◌, ℕ, zero, List, [], ◌∷◌, Option, Some, None, refl, ◌∙◌, ap}
use Rattle.ab_term.specs.Logical.{spec_universal, spec_implication, spec_conjunction}
use Rattle.ab_term.specs.Terms.{Nominal, Variable, constant, logical, nominal, Term, spine, Terms}
use Rattle.ab_term.specs.Substitution.{substitute_all}
use Rattle.ab_term.specs.Variables.{image_by}
use Rattle.ab_unifiers.specs.Replacements.{Cell}
use Rattle.ab_coverage.proofs.IndexedGoals.{compound, atomic, flexible, goal_form, lower_all}
use Rattle.ab_coverage.proofs.IndexedSpecClauses.{put_or}
use Rattle.ab_coverage.proofs.Filling.{dropping, dropped_with}

module _ {Hint : Type 0} where
  -- what isn't flexible stays so
  pub form_stays : (f : Variable ℕ → Option (Term ℕ Hint)) (G : Term ℕ Hint) → ¬ (goal_form G ≡ flexible) → goal_form (image_by f G) ≡ goal_form G
  form_stays f (spine (constant c) ts) n = refl
  form_stays f (spine (nominal a) ts) n = refl
  form_stays f (spine (logical (spec_universal A)) ts) n = refl
  form_stays f (spine (logical spec_implication) ts) n = refl
  form_stays f (spine (logical spec_conjunction) ts) n = refl
  form_stays f G n = absurd (n refl)

  -- an atom's head
  pub data AtomView : Term ℕ Hint → Type 0 where
    of_constant : (p : List ℕ) (ts : Terms ℕ Hint) → AtomView (spine (constant p) ts)
    of_nominal : (a : Nominal) (ts : Terms ℕ Hint) → AtomView (spine (nominal a) ts)

  pub atom_view : (G : Term ℕ Hint) → goal_form G ≡ atomic → AtomView G
  atom_view (spine (constant p) ts) e = of_constant p ts
  atom_view (spine (nominal a) ts) e = of_nominal a ts
  atom_view (spine (logical (spec_universal A)) ts) e = absurd (let bad : compound ≡ atomic = e in cc)
  atom_view (spine (logical spec_implication) ts) e = absurd (let bad : compound ≡ atomic = e in cc)
  atom_view (spine (logical spec_conjunction) ts) e = absurd (let bad : compound ≡ atomic = e in cc)
  atom_view G e = absurd (let bad : flexible ≡ atomic = e in cc)

  -- a constant stays the head whatever is put in
  put_stays : (b : Cell Hint) (v : Option (Term ℕ Hint)) (p : List ℕ) (ts : Terms ℕ Hint) → (us : Terms ℕ Hint) × (put_or dropping b v (spine (constant p) ts) ≡ spine (constant p) us)
  put_stays b None p ts = (lower_all zero ts, refl)
  put_stays b (Some u) p ts = (substitute_all b.type u zero ts, refl)

  pub head_stays : (bs : List (Cell Hint)) (vs : List (Option (Term ℕ Hint))) (p : List ℕ) (ts : Terms ℕ Hint) → (us : Terms ℕ Hint) × (dropped_with bs vs (spine (constant p) ts) ≡ spine (constant p) us)
  head_stays [] vs p ts = (ts, refl)
  head_stays (b ∷ bs) [] p ts = (ts, refl)
  head_stays (b ∷ bs) (v ∷ vs) p ts =
      let inner = head_stays bs vs p ts in
      let one = put_stays b v p inner.0 in
      (one.0, ap (put_or dropping b v) inner.1 ∙ one.1)

  pub two_heads : (a : Nominal) (p : List ℕ) (ts us : Terms ℕ Hint) → spine (nominal a) ts ≡ spine (constant p) us → ⊥
  two_heads a p ts us e = cc
