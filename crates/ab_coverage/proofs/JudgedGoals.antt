-- From a rule that meets an instance, whatever the answer, to the goals into which the rules split a goal.
use Rattle.std.proofs.Common.{inl, inr, ℕ, List, ◌++◌, map, length, arith, length-append}
use Rattle.std.specs.Prelude.{All, Contains}
use Rattle.ab_term.specs.Terms.{Read}
use Rattle.ab_term.specs.Typing.{Signature}
use Rattle.ab_term.specs.Variables.{Substitution}
use Rattle.ab_unifiers.specs.Replacements.{Cell}
use Rattle.ab_unifiers.specs.Unification.{unified, apart}
use Rattle.ab_unifiers.specs.Unifiers.{AreKnown}
use Rattle.ab_formulas.specs.Sequents.{Sequent, in_terms}
use Rattle.ab_theory.specs.Equations.{Naming}
use Rattle.ab_theory.specs.InstanceCoverage.{AddsBehind}
use Rattle.ab_theory.specs.Judgements.{Judgement}
use Rattle.ab_theory.specs.JudgementCases.{judgement_case}
use Rattle.ab_theory.specs.SpecRules.{SpecRule}
use Rattle.ab_theory.specs.Splits.{Split}
use Rattle.ab_coverage.specs.JudgementCover.{RuleMeets, IsMetByOne}
use Rattle.ab_coverage.proofs.CaseByCase.{outcome_of}

abbrev Cells : Type 0
Cells = List (Cell (List ℕ))

module _ (like : Read → Read → Type 0) (sg : Signature) (IsName : Naming) (s t : Sequent) (name : List ℕ) (j : Judgement) (q : Substitution ℕ (List ℕ)) (B : Read) (r : SpecRule) (met : RuleMeets like sg s t name q B j r) where
  abbrev Known : Cells → Type 0
  Known cells = AreKnown cells (map in_terms s.variables)

  known_more : (cells more : Cells) → Known cells → Known (cells ++ more)
  known_more cells more known y i = let low = known y i in let long = length-append cells more in omega (arith, low, long)

  -- ONE OF THE GOALS MEETS THE INSTANCE
  pub judged_met : (ks : List SpecRule) → Contains ks r → (cells : Cells) → Known cells → All (λ k. AddsBehind IsName cells (judgement_case s t name j k)) ks
      → (gs : List Sequent) → Split IsName cells (map (judgement_case s t name j) ks) gs → IsMetByOne like sg IsName s t name j gs q B
  judged_met ks m cells known adds gs split =
      let o = outcome_of IsName (judgement_case s t name j) r ks m cells adds gs split in
      let known_there = known_more cells o.0 known in
      elim o.1 [
        | inl never ↦ absurd (met (cells ++ o.0) known_there apart never)
        | inr a ↦ (let k = met (cells ++ o.0) known_there (unified a.3.more a.3.answer) a.3.solved in
            (a.1, a.2, record { rule = r; cells = cells ++ o.0; after = a.0; arises = a.3; then = k.0; typed = k.1; body = k.2; formulas = k.3 }))
      ]
