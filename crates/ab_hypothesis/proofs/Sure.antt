-- Steps whose rules hold, since the goal has what they ask for.
use Rattle.std.specs.Prelude.{Contains}
use Rattle.std.specs.Option.{IsSome}
use Rattle.std.proofs.Common.{◌≡◌, ◌≢◌, inl, inr, ℕ, List, ◌++◌, true, false, Option, Some, None, sym, ◌∙◌, ap, subst}
use Rattle.std.proofs.lemmas.List.Elements.{All-contains, Contains-append_cases}
use Rattle.ab_term.specs.Types.{prop}
use Rattle.ab_term.specs.Terms.{Nominal, Read}
use Rattle.ab_term.specs.Names.{support, EqualUpToNames}
use Rattle.ab_term.proofs.Lists.{Contains-there}
use Rattle.ab_term.proofs.UpToNames.{up_to_names-itself}
use Rattle.ab_unifiers.specs.Replacements.{Cell}
use Rattle.ab_formulas.specs.Declarations.{Declarations, signature_in}
use Rattle.ab_formulas.specs.Formulas.{IsFormula}
use Rattle.ab_formulas.specs.Forms.{as_both, as_either, as_exists, as_nabla, as_falsity, as_equal}
use Rattle.ab_formulas.specs.Marks.{erased, MarksServeIn}
use Rattle.ab_formulas.specs.NewNames.{Label, given, NoName}
use Rattle.ab_formulas.specs.Sequents.{Sequent, IsSequent, Fits, HoldsOnly, formula_of, formulas, formulas_of, goal_names, proving, assuming, without, IsUsed}
use Rattle.ab_theory.specs.Steps.{initial, false_left, and_left, or_left, exists_left, nabla_left, equal_left, cut_formula, weaken}
use Rattle.ab_theory.specs.Rules.{Fails}
use Rattle.ab_steps.specs.ab_kernel.specs.ab_rules.proofs.Chosen.{in_goal}
use Rattle.ab_theory.proofs.Sequents.{found_there}
use Rattle.ab_hypothesis.proofs.Hypotheses.{named_gone, named_past, named_still_none}
use Rattle.ab_hypothesis.proofs.Marked.{serves_itself}

not_used : (s : Sequent) (x : List ℕ) → formula_of s x ≡ None → IsUsed s x → ⊥
not_used s x none used = let clash : false ≡ true = subst (λ (o : Option Read). IsSome o) none used in cc

found_once : (k : Sequent) (x : List ℕ) (F G : Read) → formula_of k x ≡ Some F → formula_of k x ≡ Some G → F ≡ G
found_once k x F G a b = let both : Some F ≡ Some G = sym a ∙ b in cc

module _ (D : Declarations) (cells : List (Cell (List ℕ))) (k : Sequent) (x : List ℕ) (F : Read) (has : formula_of k x ≡ Some F) where
  pub weakens : (i : ℕ) → Fails D cells (weaken x) k i → ⊥
  weakens i (inl f) = let clash : Some F ≡ None = sym has ∙ f.0 in cc
  weakens i (inr f) = f.2

  pub splits : (y : List ℕ) → formula_of k y ≡ None → as_both F ≢ None → (i : ℕ) → Fails D cells (and_left x (given x) (given y)) k i → ⊥
  splits y new both i (inl f) = let clash : Some F ≡ None = sym has ∙ f.0 in cc
  splits y new both i (inr (G, found, inl f)) = both (ap as_both (found_once k x F G has found) ∙ f.0)
  splits y new both i (inr (G, found, inr (p, parts, inl f))) = not_used (without x k) x (named_gone k.hypotheses x) f.0
  splits y new both i (inr (G, found, inr (p, parts, inr (L, t, names, inl f)))) =
      let here : assuming L p.0 t ≡ assuming x p.0 (without x k) = ap (λ n. assuming n p.0 t) names.1 ∙ ap (assuming x p.0) names.2 in
      let apart : x ≢ y = λ (e : x ≡ y). let clash : Some F ≡ None = sym has ∙ ap (formula_of k) e ∙ new in cc in
      not_used (assuming x p.0 (without x k)) y (named_past (without x k).hypotheses x y p.0 apart ∙ named_still_none k.hypotheses x y new)
      (subst (λ s. IsUsed s y) here f.0)
  splits y new both i (inr (G, found, inr (p, parts, inr (L, t, names, inr f)))) = f.3

  pub parts_or : as_either F ≢ None → (i : ℕ) → Fails D cells (or_left x (given x)) k i → ⊥
  parts_or either i (inl f) = let clash : Some F ≡ None = sym has ∙ f.0 in cc
  parts_or either i (inr (G, found, inl f)) = either (ap as_either (found_once k x F G has found) ∙ f.0)
  parts_or either i (inr (G, found, inr (p, parts, inl f))) = not_used (without x k) x (named_gone k.hypotheses x) f.0
  parts_or either i (inr (G, found, inr (p, parts, inr f))) = f.3

  pub closes_false : as_falsity F ≢ None → (i : ℕ) → Fails D cells (false_left x) k i → ⊥
  closes_false some i (inl f) = let clash : Some F ≡ None = sym has ∙ f.0 in cc
  closes_false some i (inr (G, found, inl f)) = some (ap as_falsity (found_once k x F G has found) ∙ f.0)
  closes_false some i (inr (G, found, inr f)) = f.2

  pub solves_equal : as_equal F ≢ None → (i : ℕ) → Fails D cells (equal_left x) k i → ⊥
  solves_equal some i (inl f) = let clash : Some F ≡ None = sym has ∙ f.0 in cc
  solves_equal some i (inr (G, found, inl f)) = some (ap as_equal (found_once k x F G has found) ∙ f.0)
  solves_equal some i (inr (G, found, inr f)) = f.2

  pub takes_exists : as_exists F ≢ None → (i : ℕ) → Fails D cells (exists_left x (given x)) k i → ⊥
  takes_exists some i (inl f) = let clash : Some F ≡ None = sym has ∙ f.0 in cc
  takes_exists some i (inr (G, found, inl f)) = some (ap as_exists (found_once k x F G has found) ∙ f.0)
  takes_exists some i (inr (G, found, inr (p, parts, inl f))) = not_used (without x k) x (named_gone k.hypotheses x) f.0
  takes_exists some i (inr (G, found, inr (p, parts, inr f))) = f.3

  pub takes_nabla : as_nabla F ≢ None → (i : ℕ) → Fails D cells (nabla_left x (given x)) k i → ⊥
  takes_nabla some i (inl f) = let clash : Some F ≡ None = sym has ∙ f.0 in cc
  takes_nabla some i (inr (G, found, inl f)) = some (ap as_nabla (found_once k x F G has found) ∙ f.0)
  takes_nabla some i (inr (G, found, inr (p, parts, inl f))) = not_used (without x k) x (named_gone k.hypotheses x) f.0
  takes_nabla some i (inr (G, found, inr (p, parts, inr f))) = f.3

  -- a hypothesis closes the goal that asks for it
  pub closes : (i : ℕ) → Fails D cells (initial x) (proving F k) i → ⊥
  closes i (inl f) = let clash : Some F ≡ None = sym has ∙ f.0 in cc
  closes i (inr (G, found, inl f)) =
      f.0 (subst (λ H. EqualUpToNames (erased H) (erased F)) (found_once k x F G has found) (up_to_names-itself (erased F)))
  closes i (inr (G, found, inr (same, inl f))) = f.0 (subst (λ H. MarksServeIn F H) (found_once k x F G has found) (serves_itself F))
  closes i (inr (G, found, inr (same, inr f))) = f.1

  -- the formula of a hypothesis fits the goal
  fits : IsSequent D k → Fits D k F prop × IsFormula (signature_in D) F
  fits is =
      let there = Contains-there k.conclusion (formulas k.hypotheses) F (found_there k.hypotheses x F has) in
      let formula = All-contains (IsFormula (signature_in D)) (formulas_of k) F is.formulas there in
      let within = λ (a : Nominal) (c : Contains (goal_names k ++ support F) a).
      elim (Contains-append_cases (goal_names k) (support F) a c) as (λ u. Contains (goal_names k) a) [ inl d ↦ d | inr d ↦ in_goal k x F has a d ] in (
        record {
          typed = formula.typed;
          closed = All-contains (HoldsOnly k.variables) (formulas_of k) F is.closed there;
          one_type = λ a b c d e. is.one_type a b (within a c) (within b d) e;
        },
        formula,
      )

  pub uncut : (l : Label) → IsSequent D k → (i : ℕ) → Fails D cells (cut_formula F l) k i → NoName l k
  uncut l is i (inl f) = absurd (f.0 (fits is))
  uncut l is i (inr (ok, inl f)) = f.0
  uncut l is i (inr (ok, inr f)) = absurd f.3
