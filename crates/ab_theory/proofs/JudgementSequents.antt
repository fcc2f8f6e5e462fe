-- THE GOALS INTO WHICH AN ANALYSED JUDGEMENT SPLITS A GOAL ARE SEQUENTS; and the formula to which one of the conclusion unfolds may
-- stand in the goal.
use Rattle.std.proofs.Common.{◌≡◌, ◌≢◌, ◌⊎◌, inl, inr, ℕ, ◌+◌, List, [], ◌∷◌, ◌++◌, map, length, codes, true, refl, sym, subst, length-append}
use Rattle.std.proofs.lemmas.List.{map-append}
use Rattle.std.specs.Prelude.{All, Contains}
use Rattle.std.proofs.lemmas.List.Elements.{All-cons, All-map, All-push, All-weaker, All-append, All-contains, All-get_or, Contains-append_left, Contains-append_right, Contains-append_cases}
use Rattle.std.proofs.lemmas.List.Quantifiers.{all_pairs_push}
use Rattle.ab_term.specs.Terms as tree
use Rattle.ab_term.specs.Terms.{Nominal, Read}
use Rattle.ab_term.specs.Typing.{Signature}
use Rattle.ab_term.specs.Variables.{Substitution, variables, image}
use Rattle.ab_term.specs.Sameness.{same_number}
use Rattle.ab_term.proofs.Lists.{All-from_contains}
use Rattle.ab_unifiers.specs.Replacements.{Cell, holds}
use Rattle.ab_unifiers.specs.Unification.{unified, Solves}
use Rattle.ab_unifiers.specs.Unifiers.{sides}
use Rattle.ab_unifiers.specs.Clauses.{numbered}
use Rattle.ab_unifiers.specs.Member.{HasMember}
use Rattle.ab_unifiers.proofs.Variables.{holds_contains}
use Rattle.ab_formulas.specs.Formulas.{IsFormula, HasOneTypeEach}
use Rattle.ab_formulas.specs.Declarations.{Declarations, signature_in}
use Rattle.ab_formulas.specs.Marks.{Sign}
use Rattle.ab_formulas.specs.BodyMarks.{mark_below, mark_above}
use Rattle.ab_formulas.specs.NewNames.{IsNoVariable}
use Rattle.ab_formulas.specs.Sequents.{Variable, Hypothesis, Sequent, formulas, formulas_of, goal_names, HoldsOnly, IsUsed, IsSequent, assuming, in_terms}
use Rattle.ab_formulas.proofs.OneType.{fewer}
use Rattle.ab_theory.specs.Equations.{AreCells, made, variables_from}
use Rattle.ab_theory.specs.Splits.{CaseOver, IsCase, problem_of, Split}
use Rattle.ab_theory.specs.Unfolding.{exists_all}
use Rattle.ab_theory.specs.Judgements.{Judgement}
use Rattle.ab_theory.specs.JudgementCases.{judgement_case, judgement_unfolding}
use Rattle.ab_theory.specs.SpecInstances.{first_own}
use Rattle.ab_theory.specs.SpecRules.{SpecRule, Demand, demand_of}
use Rattle.ab_theory.specs.Subjects.{conclusion_then}
use Rattle.ab_theory.proofs.CaseRules.{IsBehind, split_sequents}
use Rattle.ab_theory.proofs.Carried.{cells_in_front}
use Rattle.ab_theory.proofs.Demanded.{Over, IsWellMade, exist_all_typed}
use Rattle.ab_theory.proofs.Demands.{exists_all_stands}
use Rattle.ab_theory.proofs.Known.{known_exist_all}
use Rattle.ab_theory.proofs.Putting.{IsPut, numbered_from, put_may}
use Rattle.ab_theory.proofs.Raised.{AreThere}
use Rattle.ab_theory.proofs.RuleDemands.{JudgementKnown, IsRuleOf, rule_well}
use Rattle.ab_theory.proofs.RulesParts.{MayStand}
use Rattle.ab_theory.proofs.Sequents.{IsGoal, all_formulas, names_within, may_more, unused}
use Rattle.ab_theory.proofs.Unfolded.{answer_put}

abbrev Cells : Type 0
Cells = List (Cell (List ℕ))

-- the variable is one of these
abbrev pub IsOneOf : List Variable → tree.Variable ℕ → Type 0
IsOneOf xs = Contains (map in_terms xs)

-- CLOSED over variables, a formula may stand over the others
pub exists_may : (sg : Signature) (M : List Nominal) (xs ys : List Variable) (F : Read) → MayStand sg (xs ++ ys) M F → MayStand sg xs M (exists_all ys F)
exists_may sg M xs ys F may =
    let k = known_exist_all (IsOneOf xs) M ys F (record {
      over = λ z c.
          elim (parted z (All-contains (IsOneOf (xs ++ ys)) (variables F) z may.closed c)) [ inl a ↦ inl a | inr b ↦ inr b ];
      names = may.names;
    }) in
    record {
      formula = record { typed = exist_all_typed sg ys F may.formula.typed; stands = exists_all_stands ys F may.formula.stands };
      closed = All-from_contains (IsOneOf xs) (variables (exists_all ys F)) k.over;
      names = k.names;
    }
  where
    parted : (z : tree.Variable ℕ) → IsOneOf (xs ++ ys) z → IsOneOf xs z ⊎ IsOneOf ys z
    parted z c = Contains-append_cases (map in_terms xs) (map in_terms ys) z (subst (λ l. Contains l z) (map-append in_terms xs ys) c)

module _ (D : Declarations) (has : HasMember (signature_in D)) (xs : List Variable) (N : List Nominal) (j : Judgement) (known : JudgementKnown (signature_in D) (IsOneOf xs) N j)
    (cells : Cells) (there : AreThere cells xs) (m : Sign) (r : SpecRule) (is : IsRuleOf (signature_in D) j r) where
  abbrev sg : Signature
  sg = signature_in D

  abbrev demand : Demand
  demand = demand_of (length cells) m j r

  abbrev front : Cells
  front = cells ++ demand.passing

  -- the variables that there are then
  abbrev pub Z : List Variable
  Z = xs ++ variables_from (length front) demand.own

  kept : (y : tree.Variable ℕ) → IsOneOf xs y → IsOneOf Z y
  kept y c =
      subst (λ l. Contains l y) (sym (map-append in_terms xs (variables_from (length front) demand.own)))
      (Contains-append_left (map in_terms xs) (map in_terms (variables_from (length front) demand.own)) y c)

  own_there : (y : tree.Variable ℕ) → Contains (numbered (length front) demand.own) y → IsOneOf Z y
  own_there y c =
      subst (λ l. Contains l y) (sym (map-append in_terms xs (variables_from (length front) demand.own)))
      (Contains-append_right (map in_terms xs) (map in_terms (variables_from (length front) demand.own)) y (subst (λ l. Contains l y) (sym (numbered_from (length front) demand.own)) c))

  own_kept : (y : tree.Variable ℕ) → holds (numbered (first_own (length cells) demand) demand.own) y ≡ true → IsOneOf Z y
  own_kept y h =
      let count : length front ≡ length cells + length demand.passing = length-append cells demand.passing in
      own_there y (subst (λ k. Contains (numbered k demand.own) y) (sym count) (holds_contains (numbered (first_own (length cells) demand) demand.own) y h))

  well : IsWellMade sg (IsOneOf Z) N demand
  well = rule_well sg has (IsOneOf xs) (IsOneOf Z) kept (length cells) N m j known r is own_kept

  front_there : AreThere front xs
  front_there = cells_in_front cells demand.passing xs there

  over : All (HoldsOnly Z) (sides demand.equations)
  over = All-weaker (Over (IsOneOf Z)) (HoldsOnly Z) (λ t o. All-from_contains (IsOneOf Z) (variables t) o) (sides demand.equations) well.over

  body_may : MayStand sg Z N demand.body
  body_may = record { formula = well.formula; closed = All-from_contains (IsOneOf Z) (variables demand.body) well.body.over; names = well.body.names }

-- ANALYSED: what is left of the goal is over these variables and constants, no hypothesis of it has the name
module _ (D : Declarations) (has : HasMember (signature_in D)) (rest : Sequent) (N : List Nominal) (one : HasOneTypeEach N) (goal : IsGoal D N rest) (j : Judgement) (known : JudgementKnown (signature_in D) (IsOneOf rest.variables) N j)
    (L : List ℕ) (new : ¬ IsUsed rest L) where
  -- over these cells
  module _ (cells : Cells) (there : AreThere cells rest.variables) (r : SpecRule) (is : IsRuleOf (signature_in D) j r) where
    abbrev sort : Sign
    sort = mark_below j.sign

    abbrev d : Demand
    d = demand_of (length cells) sort j r

    abbrev zs : List Variable
    zs = Z D has rest.variables N j known cells there sort r is

    abbrev May : Read → Type 0
    May = MayStand (signature_in D) zs N

    old_may : (F : Read) → MayStand (signature_in D) rest.variables N F → May F
    old_may = may_more D N N (λ a c. c) rest.variables zs (λ y c. Contains-append_left rest.variables (variables_from (length (cells ++ d.passing)) d.own) y c)

    all_may : All May (formulas_of (assuming L d.body rest))
    all_may =
        All-cons May rest.conclusion (formulas (rest.hypotheses ++ record { name = L; formula = d.body } ∷ [])) (old_may rest.conclusion goal.conclusion)
        (all_formulas May (rest.hypotheses ++ record { name = L; formula = d.body } ∷ [])
        (All-push (λ (h : Hypothesis). May h.formula) rest.hypotheses (record { name = L; formula = d.body })
        (All-weaker (λ (h : Hypothesis). MayStand (signature_in D) rest.variables N h.formula) (λ (h : Hypothesis). May h.formula) (λ h. old_may h.formula) rest.hypotheses goal.hypotheses)
        (body_may D has rest.variables N j known cells there sort r is)))

    is_case : IsCase D (judgement_case rest rest L j r cells)
    is_case = record {
      cells = front_there D has rest.variables N j known cells there sort r is;
      formulas = All-weaker May (IsFormula (signature_in D)) (λ F may. may.formula) (formulas_of (assuming L d.body rest)) all_may;
      closed = All-weaker May (HoldsOnly zs) (λ F may. may.closed) (formulas_of (assuming L d.body rest)) all_may;
      numbers_differ = goal.numbers_differ;
      names_differ = goal.names_differ;
      labels_differ =
          all_pairs_push (λ (h k : Hypothesis). h.name ≢ k.name) rest.hypotheses (record { name = L; formula = d.body }) goal.labels_differ
          (λ k e l. All-get_or (λ (h : Hypothesis). h.name ≢ L) rest.hypotheses k e l (unused rest.hypotheses L new));
      one_type =
          fewer (goal_names (assuming L d.body rest)) N (names_within N (formulas_of (assuming L d.body rest)) (λ F k. (All-contains May (formulas_of (assuming L d.body rest)) F all_may k).names)) one;
      typed = (well D has rest.variables N j known cells there sort r is).typed;
      over = over D has rest.variables N j known cells there sort r is;
      flexible =
          All-append (IsOneOf zs) (map in_terms rest.variables) (numbered (length (cells ++ d.passing)) d.own)
          (All-from_contains (IsOneOf zs) (map in_terms rest.variables) (kept D has rest.variables N j known cells there sort r is))
          (All-from_contains (IsOneOf zs) (numbered (length (cells ++ d.passing)) d.own) (own_there D has rest.variables N j known cells there sort r is));
    }

    -- of a goal with the same variables
    pub judged_behind : (s : Sequent) → rest.variables ≡ s.variables → IsBehind D cells (judgement_case s rest L j r cells)
    judged_behind s same =
        subst (λ (xs : List Variable). IsBehind D cells (record {
          before = cells ++ d.passing;
          own = d.own;
          equations = d.equations;
          flexible = map in_terms xs ++ numbered (length (cells ++ d.passing)) d.own;
          goal = assuming L d.body rest;
        })) same (d.passing, refl, is_case)

  -- THE GOALS ARE SEQUENTS
  pub judged_sequents : (s : Sequent) → rest.variables ≡ s.variables → (cells : Cells) → AreCells cells s → (rs : List SpecRule) → ((r : SpecRule) → Contains rs r → IsRuleOf (signature_in D) j r)
      → (gs : List Sequent) → Split (λ k hint name. IsNoVariable k name) cells (map (judgement_case s rest L j) rs) gs → All (IsSequent D) gs
  judged_sequents s same cells are rs all gs split =
      split_sequents D (λ k hint name. IsNoVariable k name) (λ k hint name free. free) cells (map (judgement_case s rest L j) rs) gs
      (All-map (λ (c : CaseOver). (more : Cells) → IsBehind D (cells ++ more) (c (cells ++ more))) (judgement_case s rest L j) rs
      (All-from_contains (λ (r : SpecRule). (more : Cells) → IsBehind D (cells ++ more) (judgement_case s rest L j r (cells ++ more))) rs
      (λ r c more. judged_behind (cells ++ more) (subst (AreThere (cells ++ more)) (sym same) (cells_in_front cells more s.variables are)) r (all r c) s same))) split

-- UNFOLDED: the formula may stand in the goal
module _ (D : Declarations) (has : HasMember (signature_in D)) (s : Sequent) (N : List Nominal) (j : Judgement) (known : JudgementKnown (signature_in D) (IsOneOf s.variables) N j)
    (cells : Cells) (are : AreCells cells s) (r : SpecRule) (is : IsRuleOf (signature_in D) j r)
    (more : Cells) (answer : Substitution ℕ (List ℕ)) (solves : Solves (codes "x") (problem_of (judgement_unfolding s j r cells)) (unified more answer)) where
  abbrev e : Demand
  e = demand_of (length cells) (mark_above j.sign) j r

  abbrev before : Cells
  before = cells ++ e.passing

  put : IsPut (signature_in D) (s.variables ++ made before more answer) N (IsOneOf (Z D has s.variables N j known cells are (mark_above j.sign) r is)) answer
  put =
      answer_put (signature_in D) before e.own s.variables e.equations (numbered (length before) e.own) (front_there D has s.variables N j known cells are (mark_above j.sign) r is)
      (well D has s.variables N j known cells are (mark_above j.sign) r is).typed (over D has s.variables N j known cells are (mark_above j.sign) r is)
      (λ z h. own_there D has s.variables N j known cells are (mark_above j.sign) r is z (holds_contains (numbered (length before) e.own) z h)) more answer solves N

  pub judged_may : MayStand (signature_in D) s.variables N (conclusion_then (judgement_unfolding s j r cells) exists_all more answer)
  judged_may =
      let b = body_may D has s.variables N j known cells are (mark_above j.sign) r is in
      exists_may (signature_in D) N s.variables (made before more answer) (image same_number answer e.body)
      (put_may (signature_in D) (s.variables ++ made before more answer) N (IsOneOf (Z D has s.variables N j known cells are (mark_above j.sign) r is)) answer put e.body b.formula b.closed b.names)
