-- The head of an eta-long form is found again, so the form determines it.
use Rattle.std.proofs.Common.{◌≡◌, ℕ, zero, Some, refl, sym, ◌∙◌, ap}
use Rattle.std.specs.Prelude.{Decides}
use Rattle.ab_term.specs.Types.{Ty, kind, arrow}
use Rattle.ab_term.specs.Terms.{Head, index, Term, lam, spine, Terms, no_terms, with_last}
use Rattle.ab_term.specs.Substitution.{shift_head, shift_all}
use Rattle.ab_term.specs.Expansion.{expansion_of, expansion}
use Rattle.ab_term.specs.Translation.{forget, EqualPastHints}
use Rattle.ab_term.specs.EtaHeads.{lowered, inner_head, expands}
use Rattle.ab_term.proofs.Shifts.{lower_head-shift_head}
use Rattle.ab_term.proofs.Forgetting.{forget_head, forget_plain}
use Rattle.ab_term.proofs.Same.{same_term-Decides}
use Rattle.ab_term.proofs.Translations.{translate-expansion}

module _ {Hint : Type 0} where
  pub inner_head-forget : (t : Term ℕ Hint) → inner_head (forget t) ≡ inner_head t
  inner_head-forget (lam A x t) = ap lowered (inner_head-forget t)
  inner_head-forget (spine h ts) = ap Some (forget_head h)

  pub inner_head-expansion_of : (x : Hint) (A : Ty) (h : Head ℕ) (ts : Terms ℕ Hint) → inner_head (expansion_of x A h ts) ≡ Some h
  inner_head-expansion_of x (kind c) h ts = refl
  inner_head-expansion_of x (arrow A B) h ts = ap lowered (inner_head-expansion_of x B (shift_head zero h) (with_last (shift_all zero ts) (expansion x A (index zero)))) ∙ lower_head-shift_head zero h

  pub forget-expansion : (x : Hint) (A : Ty) (h : Head ℕ) → forget (expansion x A h) ≡ expansion tt A h
  forget-expansion x A h = translate-expansion (λ v. v) (λ y. tt) x A h ∙ ap (expansion tt A) (forget_head h)

  -- one form, one head
  pub expansion_of_one : (x y : Hint) (A B : Ty) (g h : Head ℕ) (ts us : Terms ℕ Hint) → EqualPastHints (expansion_of x A g ts) (expansion_of y B h us) → g ≡ h
  expansion_of_one x y A B g h ts us e =
      let both : Some g ≡ Some h =
      sym (inner_head-expansion_of x A g ts) ∙ sym (inner_head-forget (expansion_of x A g ts)) ∙ ap inner_head e ∙ inner_head-forget (expansion_of y B h us) ∙ inner_head-expansion_of y B h us in
      cc

  pub expands-Decides : (x : Hint) (A : Ty) (t : Term ℕ Hint) (h : Head ℕ) → Decides (expands A t h) (EqualPastHints t (expansion x A h))
  expands-Decides x A t h = (
    λ e. sym (forget_plain (forget t)) ∙ (same_term-Decides (forget t) (expansion tt A h)).0 e ∙ forget_plain (expansion tt A h) ∙ sym (forget-expansion x A h),
    λ e. (same_term-Decides (forget t) (expansion tt A h)).1 (forget_plain (forget t) ∙ e ∙ forget-expansion x A h ∙ sym (forget_plain (expansion tt A h))),
  )

  -- the form of a head is recognised, and its head found
  pub recognised : (x : Hint) (A : Ty) (t : Term ℕ Hint) (h : Head ℕ) → EqualPastHints t (expansion x A h) → inner_head t ≡ Some h
  recognised x A t h e = sym (inner_head-forget t) ∙ ap inner_head e ∙ inner_head-forget (expansion x A h) ∙ inner_head-expansion_of x A h no_terms
