-- A JUDGEMENT IS COVERED by the goals into which its rules split a goal, whatever stays of it, and whatever name the bodies have, where some
-- rule of it meets the instance.
use Rattle.std.proofs.Common.{◌≡◌, inl, inr, ℕ, List, [], ◌∷◌, ◌++◌, map, length, Some, refl, sym, ◌∙◌, ap, subst, append_assoc}
use Rattle.std.specs.Prelude.{All, Contains}
use Rattle.std.proofs.lemmas.Bool.{false≢true}
use Rattle.std.proofs.lemmas.List.Elements.{All-head, All-tail, All-contains}
use Rattle.ab_term.specs.Types.{prop}
use Rattle.ab_term.specs.Terms.{Nominal, Read}
use Rattle.ab_term.specs.Typing.{Signature}
use Rattle.ab_term.specs.Translation.{forget, EqualPastHints}
use Rattle.ab_term.specs.Variables.{Substitution, value_in, image, variables}
use Rattle.ab_term.specs.Sameness.{same_number}
use Rattle.ab_term.proofs.Lists.{All-from_contains}
use Rattle.ab_unifiers.specs.Replacements.{Cell}
use Rattle.ab_unifiers.specs.Unification.{unified, apart}
use Rattle.ab_unifiers.specs.Unifiers.{AreKnown}
use Rattle.ab_unifiers.specs.Clauses.{Each}
use Rattle.ab_unifiers.specs.Member.{HasMember}
use Rattle.ab_unifiers.proofs.Agreeing.{contains_holds}
use Rattle.ab_unifiers.proofs.Variables.{holds_contains}
use Rattle.ab_formulas.specs.BodyMarks.{mark_below}
use Rattle.ab_formulas.specs.Declarations.{Declarations, signature_in}
use Rattle.ab_formulas.specs.Formulas.{IsFormula, a_formula}
use Rattle.ab_formulas.specs.Marks.{plain, erased}
use Rattle.ab_formulas.specs.NewNames.{IsNoVariable}
use Rattle.ab_formulas.specs.Programs.{program_in, HavePrograms}
use Rattle.ab_formulas.specs.Sequents.{Variable, Hypothesis, Sequent, IsSequent, HoldsOnly, formula_of, goal_names, in_terms, counted}
use Rattle.ab_formulas.proofs.Images.{image_stands}
use Rattle.ab_theory.specs.Equations.{AreCells}
use Rattle.ab_theory.specs.InstanceCoverage.{AddsBehind}
use Rattle.ab_theory.specs.Judgements.{Judgement, as_judgement}
use Rattle.ab_theory.specs.JudgementCases.{judgement_case}
use Rattle.ab_theory.specs.SpecRules.{SpecRule, rules_of, demand_of}
use Rattle.ab_theory.specs.Splits.{Case, IsCase, Arises, Split, variables_of}
use Rattle.ab_theory.proofs.Carried.{arising_is_sequent, cells_in_front}
use Rattle.ab_theory.proofs.CaseRules.{IsBehind}
use Rattle.ab_theory.proofs.JudgementRules.{is_rule_of, judgement_known}
use Rattle.ab_theory.proofs.JudgementSequents.{IsOneOf, judged_behind}
use Rattle.ab_theory.proofs.Raised.{AreThere, known_there}
use Rattle.ab_theory.proofs.RuleDemands.{JudgementKnown}
use Rattle.ab_theory.proofs.RulesParts.{MayStand}
use Rattle.ab_theory.proofs.Sequents.{AllFormulas, goal_of, found_may}
use Rattle.ab_coverage.specs.HypothesisCover.{MeetsBody, OneMeetsBody}
use Rattle.ab_coverage.specs.JudgementCover.{RuleMeets}
use Rattle.ab_coverage.proofs.CaseByCase.{outcome_of, arises_with}
use Rattle.ab_coverage.proofs.Erasing.{erased-image}
use Rattle.ab_coverage.proofs.NewHypothesis.{only, only_goal, Stays, Goes, goal_meets}
use Rattle.ab_coverage.proofs.OwnFormulas.{IsProblem}
use Rattle.ab_coverage.proofs.Unmarking.{erased_past_hints, erased-demand}

abbrev Cells : Type 0
Cells = List (Cell (List ℕ))

module _ (D : Declarations) (programs : HavePrograms D) (has : HasMember (signature_in D)) (s : Sequent) (is : IsSequent D s) (H : List ℕ) (F : Read) (j : Judgement) (e : formula_of s H ≡ Some F)
    (is_j : as_judgement F ≡ Some j) (rs : List SpecRule) (rules : rules_of (program_in D) j ≡ Some rs)
    (rest : Sequent) (counter : ℕ) (staying : Stays D s rest) (name : List ℕ) (cells : Cells) (are : AreCells cells s) where
  abbrev sg : Signature
  sg = signature_in D

  abbrev N : List Nominal
  N = goal_names s

  abbrev t : Sequent
  t = counted counter rest

  abbrev May : Read → Type 0
  May = MayStand sg rest.variables N

  known : JudgementKnown sg (IsOneOf rest.variables) N j
  known =
      let may = found_may D N s H F (goal_of D s is) e in
      subst (λ (xs : List Variable). JudgementKnown sg (IsOneOf xs) N j) (sym staying.same)
      (judgement_known sg (IsOneOf s.variables) N F j is_j may.formula.typed (record { over = λ y m. All-contains (IsOneOf s.variables) (variables F) y may.closed m; names = may.names }))

  -- a case, where one formula alone stays, is well made
  well_only : (K : Read) → May K → (r : SpecRule) → Contains rs r → (more : Cells) → IsBehind D (cells ++ more) (judgement_case s (only rest K) name j r (cells ++ more))
  well_only K may r m more =
      judged_behind D has (only rest K) N is.one_type (only_goal D N s rest K (goal_of D s is) staying.same may) j known name (λ u. false≢true u) (cells ++ more)
      (subst (AreThere (cells ++ more)) (sym staying.same) (cells_in_front cells more s.variables are)) r (is_rule_of sg (program_in D) programs j rs rules r m) s staying.same

  adds_behind : All (λ (r : SpecRule). AddsBehind (λ k hint x. IsNoVariable k x) cells (judgement_case s t name j r)) rs
  adds_behind = All-from_contains (λ (r : SpecRule). AddsBehind (λ k hint x. IsNoVariable k x) cells (judgement_case s t name j r)) rs (λ r m more after g a.
      let c = judgement_case s (only rest rest.conclusion) name j r (cells ++ more) in
      let right = well_only rest.conclusion staying.conclusion r m more in
      let k = arising_is_sequent D (λ k hint x. IsNoVariable k x) (λ k hint x free. free) c right.2 after _ (arises_with (judgement_case s t name j r (cells ++ more)) c.goal refl after g a) in (
        right.0 ++ (c.own ++ k.2.0),
        k.2.1 ∙ append_assoc c.before c.own k.2.0 ∙ ap (λ (l : Cells). l ++ (c.own ++ k.2.0)) right.1 ∙ append_assoc (cells ++ more) right.0 (c.own ++ k.2.0),
      ))

  module _ (q : Substitution ℕ (List ℕ)) (B : Read) (like : Read → Read → Type 0) (left : (u v : Read) → EqualPastHints u v → like v B → like u B)
      (r : SpecRule) (m : Contains rs r) (met : RuleMeets like sg s t name q B j r) where
    known_more : (more : Cells) → AreKnown (cells ++ more) (map in_terms s.variables)
    known_more more = known_there (cells ++ more) s.variables (cells_in_front cells more s.variables are)

    module _ (more after : Cells) (g : Sequent) (a : Arises (λ k hint x. IsNoVariable k x) (judgement_case s t name j r (cells ++ more)) after g) where
      abbrev the_case : Case
      the_case = judgement_case s t name j r (cells ++ more)

      abbrev M : Read
      M = (demand_of (length (cells ++ more)) (mark_below j.sign) j r).body

      -- the case, where this formula alone stays
      case_only : (K : Read) → May K → IsCase D (judgement_case s (only rest K) name j r (cells ++ more))
      case_only K may = (well_only K may r m more).2

      problem : IsProblem D the_case
      problem = let k = case_only rest.conclusion staying.conclusion in record { cells = k.cells; typed = k.typed; over = k.over; flexible = k.flexible }

      M_formula : IsFormula sg M
      M_formula = All-head (IsFormula sg) M [] (All-tail (IsFormula sg) rest.conclusion (M ∷ []) (case_only rest.conclusion staying.conclusion).formulas)

      M_closed : HoldsOnly (variables_of the_case) M
      M_closed = All-head (HoldsOnly (variables_of the_case)) M [] (All-tail (HoldsOnly (variables_of the_case)) rest.conclusion (M ∷ []) (case_only rest.conclusion staying.conclusion).closed)

      -- marks come off the body, through the answer and another substitution
      unmarked : (p : Substitution ℕ (List ℕ)) → erased (image same_number p (image same_number a.answer M)) ≡ image same_number p (image same_number a.answer (demand_of (length (cells ++ more)) plain j r).body)
      unmarked p =
          erased-image (value_in same_number p) (image same_number a.answer M) (image_stands (value_in same_number a.answer) a_formula M M_formula.stands)
          ∙ ap (image same_number p) (erased-image (value_in same_number a.answer) M M_formula.stands)
          ∙ ap (λ K. image same_number p (image same_number a.answer K)) (erased-demand (length (cells ++ more)) (mark_below j.sign) j r)

      meets : MeetsBody like EqualPastHints sg q B rest g
      meets =
          let k = met (cells ++ more) (known_more more) (unified a.more a.answer) a.solved in
          let p = k.0 in
          let transitive : (u v w : Read) → EqualPastHints u v → EqualPastHints v w → EqualPastHints u w = λ u v w d f. d ∙ f in
          let Gone : Read → Read → Type 0 = Goes D the_case name M t problem (λ k hint x. IsNoVariable k x) after g a p k.1 EqualPastHints transitive q in
          let one : (K : Read) → May K → Gone K K = λ K may. record {
            typed = may.formula.typed;
            closed = All-head (HoldsOnly (variables_of the_case)) K (M ∷ []) (case_only K may).closed;
            same = k.3 K prop (record {
              typed = may.formula.typed;
              over_variables = λ y i. contains_holds (map in_terms s.variables) y (subst (λ (xs : List Variable). Contains (map in_terms xs) y) staying.same (All-contains (Contains (map in_terms rest.variables)) (variables K) y may.closed (holds_contains (variables K) y i)));
              constants_held = may.names;
            });
          } in
          goal_meets D the_case name M t problem (λ k hint x. IsNoVariable k x) after g a p k.1 EqualPastHints transitive q like B rest M_formula.typed M_closed
          (λ u same. left (erased u) (image same_number p (image same_number a.answer (demand_of (length (cells ++ more)) plain j r).body))
          (erased_past_hints u (image same_number p (image same_number a.answer M)) same ∙ ap forget (unmarked p)) k.2)
          (each Gone one rest.hypotheses staying.hypotheses) (one rest.conclusion staying.conclusion)
        where
          each : (G : Read → Read → Type 0) → ((K : Read) → May K → G K K) → (hs : List Hypothesis) → AllFormulas May hs → Each (λ (k h : Hypothesis). (k.name ≡ h.name) × G k.formula h.formula) hs hs
          each G one [] all = tt
          each G one (k ∷ hs) all = ((refl, one k.formula (All-head (λ (h : Hypothesis). May h.formula) k hs all)), each G one hs (All-tail (λ (h : Hypothesis). May h.formula) k hs all))

    -- ONE OF THE GOALS MEETS THE INSTANCE
    pub rule_premise_meets : (gs : List Sequent) → Split (λ k hint x. IsNoVariable k x) cells (map (judgement_case s t name j) rs) gs → OneMeetsBody like EqualPastHints sg q B rest gs
    rule_premise_meets gs split =
        let o = outcome_of (λ k hint x. IsNoVariable k x) (judgement_case s t name j) r rs m cells adds_behind gs split in
        elim o.1 [
          | inl never ↦ absurd (met (cells ++ o.0) (known_more o.0) apart never)
          | inr a ↦ (a.1, a.2, meets o.0 a.0 a.1 a.3)
        ]
