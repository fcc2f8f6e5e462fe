-- GOALS WHOSE FORMULAS HAVE NO JUDGEMENT THAT IS MARKED `#`: what is put into them and what is taken out.
use Rattle.std.proofs.Common.{◌≡◌, ℕ, List, [], ◌∷◌, Some, sym, ap, subst}
use Rattle.std.specs.Prelude.{All}
use Rattle.std.proofs.lemmas.List.Elements.{All-nil, All-cons, All-head, All-tail, All-push, All-map, All-weaker, All-contains}
use Rattle.ab_term.specs.Terms.{Read}
use Rattle.ab_formulas.specs.Declarations.{Declarations, signature_in}
use Rattle.ab_formulas.specs.Formulas.{IsFormula}
use Rattle.ab_formulas.specs.NewNames.{Label, auto, given, Names}
use Rattle.ab_formulas.specs.Sequents.{Variable, Hypothesis, Sequent, IsSequent, formulas, formula_of, assuming, without}
use Rattle.ab_theory.specs.Equations.{changed}
use Rattle.ab_theory.proofs.Sequents.{AllFormulas, all_formulas, found_there, others_all}
use Rattle.ab_search_answers.specs.Unmarked.{HasNoHash}
use Rattle.ab_unhashed_goals.specs.Unhashed.{NoJudgementIsHashed}
use Rattle.ab_unhashed_goals.proofs.Formulas.{IsFine}

pub record IsFineGoal (s : Sequent) : Type 0 where
  pub conclusion : IsFine s.conclusion
  pub hypotheses : AllFormulas IsFine s.hypotheses

-- a sequent without such judgements, and back
all_fine : (D : Declarations) (hs : List Hypothesis) → All (IsFormula (signature_in D)) (formulas hs) → AllFormulas HasNoHash hs → AllFormulas IsFine hs
all_fine D [] are none = All-nil (λ (h : Hypothesis). IsFine h.formula)
all_fine D (h ∷ hs) are none =
    All-cons (λ (k : Hypothesis). IsFine k.formula) h hs
    (record { stands = (All-head (IsFormula (signature_in D)) h.formula (formulas hs) are).stands; none = All-head (λ (k : Hypothesis). HasNoHash k.formula) h hs none })
    (all_fine D hs (All-tail (IsFormula (signature_in D)) h.formula (formulas hs) are) (All-tail (λ (k : Hypothesis). HasNoHash k.formula) h hs none))

pub fine_goal : (D : Declarations) (s : Sequent) → IsSequent D s → NoJudgementIsHashed s → IsFineGoal s
fine_goal D s is none = record {
  conclusion = record { stands = (All-head (IsFormula (signature_in D)) s.conclusion (formulas s.hypotheses) is.formulas).stands; none = none.conclusion };
  hypotheses = all_fine D s.hypotheses (All-tail (IsFormula (signature_in D)) s.conclusion (formulas s.hypotheses) is.formulas) none.hypotheses;
}

pub none_hashed : (s : Sequent) → IsFineGoal s → NoJudgementIsHashed s
none_hashed s is = record { conclusion = is.conclusion.none; hypotheses = All-weaker (λ (h : Hypothesis). IsFine h.formula) (λ (h : Hypothesis). HasNoHash h.formula) (λ h k. k.none) s.hypotheses is.hypotheses }

-- a hypothesis that is found
pub found_fine : (s : Sequent) (H : List ℕ) (F : Read) → AllFormulas IsFine s.hypotheses → formula_of s H ≡ Some F → IsFine F
found_fine s H F all e = All-contains IsFine (formulas s.hypotheses) F (all_formulas IsFine s.hypotheses all) (found_there s.hypotheses H F e)

-- ONE THING MORE OR LESS, with any property of formulas
module _ (P : Read → Type 0) where
  pub and_hypothesis : (name : List ℕ) (F : Read) (s : Sequent) → AllFormulas P s.hypotheses → P F → AllFormulas P (assuming name F s).hypotheses
  and_hypothesis name F s all p = All-push (λ (h : Hypothesis). P h.formula) s.hypotheses (record { name = name; formula = F }) all p

  pub less_hypothesis : (name : List ℕ) (s : Sequent) → AllFormulas P s.hypotheses → AllFormulas P (without name s).hypotheses
  less_hypothesis name s all = others_all (λ (h : Hypothesis). P h.formula) s.hypotheses name all

  -- by a label nothing else changes
  pub labelled : (l : Label) (s t : Sequent) (name : List ℕ) → Names l s name t → AllFormulas P s.hypotheses → AllFormulas P t.hypotheses
  labelled auto s t name n all = subst (λ (k : Sequent). AllFormulas P k.hypotheses) (sym n.3) all
  labelled (given x) s t name n all = subst (λ (k : Sequent). AllFormulas P k.hypotheses) (sym n.2) all

pub same_conclusion : (l : Label) (s t : Sequent) (name : List ℕ) → Names l s name t → t.conclusion ≡ s.conclusion
same_conclusion auto s t name n = ap (λ (k : Sequent). k.conclusion) n.3
same_conclusion (given x) s t name n = ap (λ (k : Sequent). k.conclusion) n.2

-- each formula is changed
pub changed_fine : (f : Read → Read) → ((F : Read) → IsFine F → IsFine (f F)) → (xs : List Variable) (s : Sequent) → IsFineGoal s → IsFineGoal (changed f xs s)
changed_fine f keeps xs s is = record {
  conclusion = keeps s.conclusion is.conclusion;
  hypotheses = All-map (λ (h : Hypothesis). IsFine h.formula) (λ (h : Hypothesis). record { name = h.name; formula = f h.formula }) s.hypotheses
      (All-weaker (λ (h : Hypothesis). IsFine h.formula) (λ (h : Hypothesis). IsFine (f h.formula)) (λ h k. keeps h.formula k) s.hypotheses is.hypotheses);
}
