-- A GOAL THAT ARISES from a case that assumes a formula behind others meets a body, if under the answer the formula does, and the others are
-- what they were.
use Rattle.std.proofs.Common.{◌≡◌, ℕ, List, [], ◌∷◌, ◌++◌, map, filter, sym, ◌∙◌, ap, subst}
use Rattle.std.specs.Prelude.{AllPairs}
use Rattle.std.proofs.lemmas.List.Elements.{All-nil}
use Rattle.ab_term.specs.Types.{Ty, prop}
use Rattle.ab_term.specs.Terms.{Nominal, Read}
use Rattle.ab_term.specs.Typing.{Signature, HasType}
use Rattle.ab_term.specs.Translation.{EqualPastHints}
use Rattle.ab_term.specs.Variables.{Substitution, image, IsTyped}
use Rattle.ab_term.specs.Sameness.{same_number}
use Rattle.ab_term.proofs.Lists.{AllPairs-none}
use Rattle.ab_term.proofs.Translations.{map-append}
use Rattle.ab_unifiers.specs.Replacements.{Cell}
use Rattle.ab_unifiers.specs.Clauses.{Each}
use Rattle.ab_formulas.specs.Declarations.{Declarations, signature_in}
use Rattle.ab_formulas.specs.Marks.{erased}
use Rattle.ab_formulas.specs.Sequents.{Variable, Hypothesis, Sequent, HoldsOnly, goal_names, assuming}
use Rattle.ab_theory.specs.Equations.{Naming, made, renaming, changed, stays}
use Rattle.ab_theory.specs.Splits.{Case, variables_of, Arises}
use Rattle.ab_theory.proofs.RulesParts.{MayStand}
use Rattle.ab_theory.proofs.Sequents.{AllFormulas, IsGoal}
use Rattle.ab_coverage.specs.HypothesisCover.{MeetsBody}
use Rattle.ab_coverage.proofs.OwnFormulas.{IsProblem, then, then_typed, names_off}

-- a formula alone, over the goal's variables
abbrev pub only : Sequent → Read → Sequent
only s K = record { variables = s.variables; hypotheses = []; conclusion = K; counter = 0 }

pub only_goal : (D : Declarations) (N : List Nominal) (s rest : Sequent) (K : Read) → IsGoal D N s → rest.variables ≡ s.variables → MayStand (signature_in D) rest.variables N K → IsGoal D N (only rest K)
only_goal D N s rest K goal same may = record {
  conclusion = may;
  hypotheses = All-nil (λ (h : Hypothesis). MayStand (signature_in D) rest.variables N h.formula);
  numbers_differ = subst (AllPairs (λ (x y : Variable). x.number ≡ y.number → ⊥)) (sym same) goal.numbers_differ;
  names_differ = subst (AllPairs (λ (x y : Variable). x.name ≡ y.name → ⊥)) (sym same) goal.names_differ;
  labels_differ = AllPairs-none (λ (h k : Hypothesis). h.name ≡ k.name → ⊥);
}

-- WHAT STAYS of the goal: formulas over its variables and constants
pub record Stays (D : Declarations) (s rest : Sequent) : Type 0 where
  pub same : rest.variables ≡ s.variables
  pub conclusion : MayStand (signature_in D) rest.variables (goal_names s) rest.conclusion
  pub hypotheses : AllFormulas (MayStand (signature_in D) rest.variables (goal_names s)) rest.hypotheses

-- the case assumes M behind R; a case is given for what it has besides
module _ (D : Declarations) (base : Case) (name : List ℕ) (M : Read) (R : Sequent) where
  abbrev pub c : Case
  c = record base { goal = assuming name M R }

  module _ (is : IsProblem D c) (IsName : Naming) (after : List (Cell (List ℕ))) (g : Sequent) (a : Arises IsName c after g) (r : Substitution ℕ (List ℕ)) (r_typed : IsTyped (signature_in D) r)
      (alike : Read → Read → Type 0) (left : (t u v : Read) → EqualPastHints t u → alike u v → alike t v) (q : Substitution ℕ (List ℕ)) where
    abbrev sg : Signature
    sg = signature_in D

    abbrev put : Read → Read
    put K = image same_number (renaming (made base.before a.more a.answer) a.new) (image same_number a.answer K)

    abbrev put_in : Hypothesis → Hypothesis
    put_in h = record { name = h.name; formula = put h.formula }

    abbrev zs : List Variable
    zs = filter (stays a.answer) R.variables ++ a.new

    abbrev back : Substitution ℕ (List ℕ)
    back = then D c is a.more a.answer a.solved IsName a.new a.named r r_typed

    -- the goal, what is new last
    apart : g ≡ assuming name (put M) (changed put zs R)
    apart =
        a.goal ∙ ap (λ hs. record { variables = zs; hypotheses = hs; conclusion = put R.conclusion; counter = R.counter }) (map-append put_in R.hypotheses (record { name = name; formula = M } ∷ []))

    off : (K : Read) {A : Ty} → HasType sg [] K A → HoldsOnly (variables_of c) K → EqualPastHints (image same_number back (put K)) (image same_number r (image same_number a.answer K))
    off K d closed = names_off D c is a.more a.answer a.solved IsName a.new a.named r r_typed K d closed

    -- the formula of the case is a formula, and under the answer what the other was
    pub record Goes (K F : Read) : Type 0 where
      pub typed : HasType sg [] K prop
      pub closed : HoldsOnly (variables_of c) K
      pub same : alike (image same_number r (image same_number a.answer K)) (image same_number q F)

    gone : (K F : Read) → Goes K F → alike (image same_number back (put K)) (image same_number q F)
    gone K F k = left (image same_number back (put K)) (image same_number r (image same_number a.answer K)) (image same_number q F) (off K k.typed k.closed) k.same

    each_gone : (ks hs : List Hypothesis) → Each (λ (k h : Hypothesis). (k.name ≡ h.name) × Goes k.formula h.formula) ks hs
        → Each (λ (k h : Hypothesis). (k.name ≡ h.name) × alike (image same_number back k.formula) (image same_number q h.formula)) (map put_in ks) hs
    each_gone [] [] e = tt
    each_gone [] (h ∷ hs) e = absurd e
    each_gone (k ∷ ks) [] e = absurd e
    each_gone (k ∷ ks) (h ∷ hs) e = ((e.0.0, gone k.formula h.formula e.0.1), each_gone ks hs e.1)

    pub goal_meets : (like : Read → Read → Type 0) (B : Read) (rest : Sequent) → HasType sg [] M prop → HoldsOnly (variables_of c) M
        → ((t : Read) → EqualPastHints t (image same_number r (image same_number a.answer M)) → like (erased t) B)
        → Each (λ (k h : Hypothesis). (k.name ≡ h.name) × Goes k.formula h.formula) R.hypotheses rest.hypotheses → Goes R.conclusion rest.conclusion
        → MeetsBody like alike sg q B rest g
    goal_meets like B rest d closed body each conclusion = record {
      name = name;
      assumed = put M;
      others = changed put zs R;
      goal = apart;
      then = back;
      typed = then_typed D c is a.more a.answer a.solved IsName a.new a.named r r_typed;
      body = body (image same_number back (put M)) (off M d closed);
      under = record { hypotheses = each_gone R.hypotheses rest.hypotheses each; conclusion = gone R.conclusion rest.conclusion conclusion };
    }
