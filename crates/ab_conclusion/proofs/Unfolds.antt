-- The first way in which a conclusion may unfold decides what `unfold` does.
use Rattle.std.specs.Prelude.{slice_get, Some, None}
use Rattle.std.proofs.Common.{◌≡◌, inl, inr, ℕ, suc, ◌+◌, List, [], ◌∷◌, take, drop, codes, refl, sym, ◌∙◌, ap, subst, arith}
use Rattle.ab_unifiers.specs.Replacements.{Cell}
use Rattle.ab_unifiers.specs.Unification.{Answer, unified, apart, stuck, Solves}
use Rattle.ab_unifiers.proofs.Unique.{unique}
use Rattle.ab_formulas.specs.Declarations.{Declarations, HaveDefinitions}
use Rattle.ab_formulas.specs.Programs.{HavePrograms}
use Rattle.ab_formulas.specs.NewNames.{Label}
use Rattle.ab_formulas.specs.Sequents.{Sequent, IsSequent, proving}
use Rattle.ab_formulas.specs.BodyMarks.{MayBeUnfolded}
use Rattle.ab_theory.specs.Equations.{AreCells, made}
use Rattle.ab_theory.specs.Splits.{problem_of}
use Rattle.ab_theory.specs.Subjects.{Subject, Way, subject_of, sign_of, ways_of, conclusion_then}
use Rattle.ab_grammar.specs.CommandTrees.{unfold_goal}
use Rattle.ab_theory.specs.Rules.{NamedRule, Fails, Stuck as Sticks}
use Rattle.ab_theory.specs.Steps.{definition_right}
use Rattle.ab_formulas.proofs.KernelSplits.{at_place}
use Rattle.ab_effects.specs.ProofCommands.{effect}
use Rattle.ab_meaning.specs.Refusals.{Refusal, no_match, not_pattern, unresolved}
use Rattle.ab_effects.specs.Row.{Leads, Refuses}
use Rattle.ab_effects.specs.Unfoldings.{IsFirst, IsNotUnfolded}
use Rattle.ab_conclusion.proofs.AnyCells.{first_also, none_left_also}
use Rattle.ab_steps.specs.ab_kernel.specs.ab_judgements.specs.SubjectAnswers.{IsFirstWay, FindsWay}
use Rattle.ab_steps.specs.ab_kernel.specs.ab_judgements.specs.ab_alternatives.specs.declared.first_choice.Found.TheVariants.{Closed, Open, Stuck, Nothing}

module _ (D : Declarations) (l : Label) (cells : List (Cell (List ℕ))) (s : Sequent) (x : Subject) (are_cells : AreCells cells s) (is : subject_of D s.conclusion ≡ Some x) (may : MayBeUnfolded (sign_of x)) where
  is_first : (place : ℕ) (w : Way) → IsFirstWay cells s x place w → IsFirst cells s x w
  is_first place w f = (take place (ways_of s x), drop (place + 1) (ways_of s x), (at_place (ways_of s x) place w f.there).whole, f.none_before)

  refuses : (r : Refusal) → IsNotUnfolded s x r → Refuses (effect D l unfold_goal s) r
  refuses r not = inr (x, is, inr (tt, may, inl not))

  pub nothing_refuses : FindsWay cells s x Nothing → Refuses (effect D l unfold_goal s) no_match
  nothing_refuses all = refuses no_match (inl ((cells, are_cells, all), refl))

  pub stuck_refuses : (place i : ℕ) → FindsWay cells s x (Stuck place i) → Refuses (effect D l unfold_goal s) (not_pattern (i + 1))
  stuck_refuses place i (w, first, outside) =
      let number : i + 1 ≡ suc i = omega arith in
      refuses (not_pattern (i + 1)) (inr (inl (i, (cells, are_cells, w, is_first place w first, outside), ap not_pattern number)))

  pub open_refuses : (place : ℕ) (name : List ℕ) → FindsWay cells s x (Open place name) → Refuses (effect D l unfold_goal s) (unresolved name)
  open_refuses place name (w, first, y, ys, (more, answer, solves, left), named) =
      refuses (unresolved name) (inr (inr (name, (cells, are_cells, w, is_first place w first, more, answer, y, ys, (solves, left), named), refl)))

  -- by the way that was found the rule leads to one goal
  module _ (place : ℕ) (found : FindsWay cells s x (Closed place)) where
    one_subject : (a : Subject) → subject_of D s.conclusion ≡ Some a → a ≡ x
    one_subject a e = let both : Some a ≡ Some x = sym e ∙ is in cc

    one_way : (a : Subject) (w : Way) → subject_of D s.conclusion ≡ Some a → slice_get (ways_of s a) place ≡ Some w → w ≡ found.0
    one_way a w e at =
        let there : slice_get (ways_of s x) place ≡ Some w = subst (λ b. slice_get (ways_of s b) place ≡ Some w) (one_subject a e) at in
        let both : Some w ≡ Some found.0 = sym there ∙ found.1.there in
        cc

    pub closed_leads : HaveDefinitions D → HavePrograms D → IsSequent D s → (ps : List Sequent) → NamedRule D (definition_right place) s ps → Leads (effect D l unfold_goal s) ps
    closed_leads definitions programs sequent ps (others, also, (a, are, (marked, (w, at, (more, answer, solves, led))))) =
        let f = found.0 in
        let same = one_way a w are at in
        let here : Solves (codes "x") (problem_of (f.case others)) (unified more answer) = subst (λ (k : Way). Solves (codes "x") (problem_of (k.case others)) (unified more answer)) same solves in
        let first = is_first place f found.1 in
        let all = found.2 in
        let left : [] ≡ made (f.case others).before more answer =
        none_left_also D definitions programs s sequent x is cells others are_cells also f first all.0 all.1 (all.2, all.3) more answer (made (f.case others).before more answer) (here, refl) in (
          x,
          is,
          (
            tt,
            may,
            (
              proving (conclusion_then (f.case others) f.closed more answer) s,
              record {
                cells = others;
                are_cells = also;
                way = f;
                first = first_also D definitions programs s sequent x is cells others are_cells also f first;
                more = more;
                answer = answer;
                matched = (here, left);
                goal = refl;
              },
              led ∙ ap (λ (k : Way). proving (conclusion_then (k.case others) k.closed more answer) s ∷ []) same,
            ),
          ),
        )

    pub closed_never_fails : (i : ℕ) → Fails D cells (definition_right place) s i → ⊥
    closed_never_fails i (inl f) = let clash : None ≡ Some x = sym f.0 ∙ is in cc
    closed_never_fails i (inr (a, are, inl f)) = f.0 (subst (λ b. MayBeUnfolded (sign_of b)) (sym (one_subject a are)) may)
    closed_never_fails i (inr (a, are, inr (marked, inl f))) =
        let there : slice_get (ways_of s a) place ≡ Some found.0 = subst (λ b. slice_get (ways_of s b) place ≡ Some found.0) (sym (one_subject a are)) found.1.there in
        let clash : None ≡ Some found.0 = sym f.0 ∙ there in
        cc
    closed_never_fails i (inr (a, are, inr (marked, inr (w, at, f)))) =
        let here : Solves (codes "x") (problem_of (found.0.case cells)) apart = subst (λ (k : Way). Solves (codes "x") (problem_of (k.case cells)) apart) (one_way a w are at) f.0 in
        let none : Answer (List ℕ) = apart in
        let only : none ≡ unified found.2.0 found.2.1 = unique (codes "x") here found.2.2 in
        absurd (cc)

    pub closed_never_sticks : (i : ℕ) → Sticks D cells (definition_right place) s i → ⊥
    closed_never_sticks i (a, are, (marked, (w, at, f))) =
        let here : Solves (codes "x") (problem_of (found.0.case cells)) (stuck i) = subst (λ (k : Way). Solves (codes "x") (problem_of (k.case cells)) (stuck i)) (one_way a w are at) f in
        let outside : Answer (List ℕ) = stuck i in
        let only : outside ≡ unified found.2.0 found.2.1 = unique (codes "x") here found.2.2 in
        absurd (cc)
