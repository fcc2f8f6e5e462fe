-- A goal in which a hypothesis was put last, or put there once more, has the cases that the goal itself has.
use Rattle.std.specs.Prelude.{filter, bytes_eq, Contains}
use Rattle.std.proofs.Common.{◌≡◌, inl, inr, ℕ, List, [], ◌∷◌, ◌++◌, map, length, take, drop, codes, Bool, true, false, Some, refl, sym, ◌∙◌, ap, subst, append_assoc}
use Rattle.std.proofs.lemmas.List.Elements.{Contains-append_left, Contains-append_cases}
use Rattle.ab_term.specs.Terms as tree
use Rattle.ab_term.specs.Terms.{Nominal, Terms, Read}
use Rattle.ab_term.specs.Names.{support, support_of_all}
use Rattle.ab_term.proofs.Lists.{Contains-none}
use Rattle.ab_unifiers.specs.Replacements.{Cell}
use Rattle.ab_unifiers.specs.Clauses.{Clause, numbered}
use Rattle.ab_unifiers.specs.Choices.{in_order, choices, for_each, outside}
use Rattle.ab_unifiers.specs.Alternatives.{Alternative, analysed, alternative, on_left}
use Rattle.ab_formulas.specs.Sequents.{Variable, Hypothesis, Sequent, formula_of, formulas, goal_names, names_of, in_terms, assuming, without}
use Rattle.ab_theory.specs.Equations.{Naming}
use Rattle.ab_theory.specs.Splits.{Case, CaseOver, NeverArises, IsOpen, Arises, Split, done, never, arises, IsUnsplit, here, past_never, past_goal}
use Rattle.ab_theory.specs.Atoms.{Defined, Choice, choices_of}
use Rattle.ab_theory.specs.Analysis.{scope_of, raised_goal, count_before, case_of, cases_of}
use Rattle.ab_theory.specs.Judgements.{Judgement}
use Rattle.ab_theory.specs.SpecRules.{SpecRule, demand_of}
use Rattle.ab_theory.specs.JudgementCases.{judgement_case}
use Rattle.ab_theory.specs.Subjects.{Subject, an_atom, a_judgement, cases_by}
use Rattle.ab_formulas.specs.BodyMarks.{mark_below, marked_in}
use Rattle.ab_formulas.specs.Members.{SameMembers}
use Rattle.ab_formulas.proofs.AlternativesAgreeing.{choices_same}
use Rattle.ab_steps.specs.ab_kernel.specs.ab_rules.proofs.Chosen.{in_goal}
use Rattle.ab_hypothesis.specs.CaseAnswers.{rest_of}
use Rattle.ab_hypothesis.proofs.Hypotheses.{entry}
use Rattle.ab_hypothesis.proofs.Standing.{LabelsDiffer, apart_from_own, with_own}

abbrev Cells : Type 0
Cells = List (Cell (List ℕ))

-- THE SAME CONSTANTS

names_more : (hs : List Hypothesis) (y : List ℕ) (F : Read) → names_of (formulas (hs ++ entry y F ∷ [])) ≡ names_of (formulas hs) ++ (support F ++ [])
names_more [] y F = refl
names_more (h ∷ hs) y F =
    ap (λ ns. support h.formula ++ ns) (names_more hs y F) ∙ sym (append_assoc (support h.formula) (names_of (formulas hs)) (support F ++ []))

goal_names_more : (t : Sequent) (y : List ℕ) (F : Read) → goal_names (assuming y F t) ≡ goal_names t ++ (support F ++ [])
goal_names_more t y F =
    ap (λ ns. support t.conclusion ++ ns) (names_more t.hypotheses y F)
    ∙ sym (append_assoc (support t.conclusion) (names_of (formulas t.hypotheses)) (support F ++ []))

module _ (s : Sequent) (H y : List ℕ) (F : Read) (has : formula_of s H ≡ Some F) where
  kept_members : SameMembers (goal_names (assuming y F s)) (goal_names s)
  kept_members b = (
    λ c.
        elim (Contains-append_cases (goal_names s) (support F ++ []) b (subst (λ ns. Contains ns b) (goal_names_more s y F) c)) [
          | inl d ↦ d
          | inr d ↦ elim (Contains-append_cases (support F) [] b d) [ inl e ↦ in_goal s H F has b e | inr e ↦ absurd (Contains-none b e) ]
        ],
    λ c. subst (λ ns. Contains ns b) (sym (goal_names_more s y F)) (Contains-append_left (goal_names s) (support F ++ []) b c),
  )

  moved_members : LabelsDiffer s.hypotheses → SameMembers (goal_names (assuming y F (without H s))) (goal_names s)
  moved_members differ b = (
    λ c. with_own (entry H F ∷ []) s b (has, tt) (subst (λ ns. Contains ns b) (goal_names_more (without H s) y F) c),
    λ c. subst (λ ns. Contains ns b) (sym (goal_names_more (without H s) y F)) (apart_from_own (entry H F ∷ []) s b differ (has, tt) c),
  )

  pub same_members : (keep : Bool) → LabelsDiffer s.hypotheses → SameMembers (goal_names (assuming y F (rest_of keep H s))) (goal_names s)
  same_members true differ = kept_members
  same_members false differ = moved_members differ

-- and the same variables
pub rest_variables : (keep : Bool) (H : List ℕ) (s : Sequent) → (rest_of keep H s).variables ≡ s.variables
rest_variables true H s = refl
rest_variables false H s = refl

-- THE SAME CHOICES, AND THE SAME CASE FOR EACH

for_each_same : {X Y : Type 0} (f g : X → List Y) → ((x : X) → f x ≡ g x) → (xs : List X) → for_each f xs ≡ for_each g xs
for_each_same f g e [] = refl
for_each_same f g e (x ∷ xs) = ap (λ l. l ++ for_each f xs) (e x) ∙ ap (λ l. g x ++ l) (for_each_same f g e xs)

choices_of_same : (xs ys : List Nominal) (d : Defined) → SameMembers xs ys → choices_of xs d ≡ choices_of ys d
choices_of_same xs ys d same =
    for_each_same
    (λ (c : Clause (List ℕ)). map (λ ns. record { clause = c; names = ns }) (choices (map (λ z. z.type) c.names) (in_order (support_of_all d.arguments)) xs))
    (λ (c : Clause (List ℕ)). map (λ ns. record { clause = c; names = ns }) (choices (map (λ z. z.type) c.names) (in_order (support_of_all d.arguments)) ys))
    (λ (c : Clause (List ℕ)).
    ap (map (λ (ns : List Nominal). record { clause = c; names = ns })) (choices_same (map (λ z. z.type) c.names) (in_order (support_of_all d.arguments)) xs ys same))
    (filter (λ c. bytes_eq c.predicate d.predicate) d.block.clauses)

-- an alternative doesn't ask which constants the goal holds
same_analysed : (cells : Cells) (V : List (tree.Variable ℕ)) (K L : List Nominal) (ts : Terms ℕ (List ℕ)) (c : Clause (List ℕ)) (ns fresh : List Nominal)
    → analysed (codes "x") (record { cells = cells; variables = V; constants = K }) ts c ns fresh ≡ analysed (codes "x") (record { cells = cells; variables = V; constants = L }) ts c ns fresh
same_analysed cells V K L ts c ns [] = refl
same_analysed cells V K L ts c ns (a ∷ bs) = refl

-- the case, by its alternative
abbrev case_by : Sequent → List ℕ → Defined → Choice → Alternative (List ℕ) → Case
case_by rest name d c alt = record {
  before = take (count_before alt c) alt.cells;
  own = drop (count_before alt c) alt.cells;
  equations = alt.equations;
  flexible = alt.flexible;
  goal = assuming name (marked_in d.block.predicates (mark_below d.sign) alt.body) (raised_goal alt rest);
}

module _ (other goal rest : Sequent) (name : List ℕ) (variables : other.variables ≡ goal.variables) where
  case_same : (d : Defined) (c : Choice) (cells : Cells) → case_of other rest name d c cells ≡ case_of goal rest name d c cells
  case_same d c cells = ap (case_by rest name d c) alternative_same
    where
      alternative_same : alternative (codes "x") (scope_of cells other) d.arguments c.clause c.names on_left ≡ alternative (codes "x") (scope_of cells goal) d.arguments c.clause c.names on_left
      alternative_same =
          same_analysed cells (map in_terms other.variables) (goal_names other) (goal_names goal) d.arguments c.clause c.names (outside c.names (in_order (support_of_all d.arguments)))
          ∙ ap (λ (xs : List Variable). alternative (codes "x") (record { cells = cells; variables = map in_terms xs; constants = goal_names goal }) d.arguments c.clause c.names on_left) variables

  -- the case of a rule asks of the goal its variables alone
  rule_same : (j : Judgement) (r : SpecRule) (cells : Cells) → judgement_case other rest name j r cells ≡ judgement_case goal rest name j r cells
  rule_same j r cells =
      let e = demand_of (length cells) (mark_below j.sign) j r in
      ap
      (λ (xs : List Variable). record {
        before = cells ++ e.passing;
        own = e.own;
        equations = e.equations;
        flexible = map in_terms xs ++ numbered (length (cells ++ e.passing)) e.own;
        goal = assuming name e.body rest;
      }) variables

-- LISTS OF CASES that are the same over all cells

abbrev SameEach : List CaseOver → List CaseOver → Type 0
SameEach [] [] = Unit {0}
SameEach [] (d ∷ ds) = ⊥
SameEach (c ∷ cs) [] = ⊥
SameEach (c ∷ cs) (d ∷ ds) = ((cells : Cells) → c cells ≡ d cells) × SameEach cs ds

same_each : {X : Type 0} (f g : X → CaseOver) → ((c : X) (cells : Cells) → f c cells ≡ g c cells) → (cs : List X) → SameEach (map f cs) (map g cs)
same_each f g e [] = tt
same_each f g e (c ∷ cs) = (e c, same_each f g e cs)

split_same : (IsName : Naming) (cells : Cells) (cs ds : List CaseOver) (gs : List Sequent) → SameEach cs ds → Split IsName cells cs gs → Split IsName cells ds gs
split_same IsName cells [] [] [] same done = done
split_same IsName cells [] [] (g ∷ gs) same s = elim s [ ]
split_same IsName cells [] (d ∷ ds) gs same s = absurd same
split_same IsName cells (c ∷ cs) [] gs same s = absurd same
split_same IsName cells (c ∷ cs) (d ∷ ds) gs same (never n rest) = never (subst NeverArises (same.0 cells) n) (split_same IsName cells cs ds gs same.1 rest)
split_same IsName cells (c ∷ cs) (d ∷ ds) (g ∷ gs) same (arises {after = after} a rest) =
    arises (subst (λ k. Arises IsName k after g) (same.0 cells) a) (split_same IsName after cs ds gs same.1 rest)

unsplit_same : (IsName : Naming) (cells : Cells) (cs ds : List CaseOver) (i : ℕ) → SameEach cs ds → IsUnsplit IsName cells cs i → IsUnsplit IsName cells ds i
unsplit_same IsName cells [] [] i same s = elim s [ ]
unsplit_same IsName cells [] (d ∷ ds) i same s = absurd same
unsplit_same IsName cells (c ∷ cs) [] i same s = absurd same
unsplit_same IsName cells (c ∷ cs) (d ∷ ds) i same (here o) = here (subst (λ k. IsOpen k i) (same.0 cells) o)
unsplit_same IsName cells (c ∷ cs) (d ∷ ds) i same (past_never n rest) = past_never (subst NeverArises (same.0 cells) n) (unsplit_same IsName cells cs ds i same.1 rest)
unsplit_same IsName cells (c ∷ cs) (d ∷ ds) i same (past_goal {after = after} {g = g} a rest) =
    past_goal (subst (λ k. Arises IsName k after g) (same.0 cells) a) (unsplit_same IsName after cs ds i same.1 rest)

-- THE CASES OF A GOAL are those of another one with the same variables and the same constants
module _ (other goal rest : Sequent) (name : List ℕ) (variables : other.variables ≡ goal.variables) (same : SameMembers (goal_names other) (goal_names goal)) where
  cases_same : (x : Subject) → SameEach (cases_by other rest name x) (cases_by goal rest name x)
  cases_same (an_atom d) =
      subst (λ cs. SameEach (cases_of other rest name d) (map (case_of goal rest name d) cs)) (choices_of_same (goal_names other) (goal_names goal) d same)
      (same_each (case_of other rest name d) (case_of goal rest name d) (case_same other goal rest name variables d) (choices_of (goal_names other) d))
  cases_same (a_judgement j rs) = same_each (judgement_case other rest name j) (judgement_case goal rest name j) (rule_same other goal rest name variables j) rs

  pub split_here : (IsName : Naming) (cells : Cells) (x : Subject) (gs : List Sequent) → Split IsName cells (cases_by other rest name x) gs → Split IsName cells (cases_by goal rest name x) gs
  split_here IsName cells x gs s = split_same IsName cells (cases_by other rest name x) (cases_by goal rest name x) gs (cases_same x) s

  pub unsplit_here : (IsName : Naming) (cells : Cells) (x : Subject) (i : ℕ) → IsUnsplit IsName cells (cases_by other rest name x) i → IsUnsplit IsName cells (cases_by goal rest name x) i
  unsplit_here IsName cells x i s = unsplit_same IsName cells (cases_by other rest name x) (cases_by goal rest name x) i (cases_same x) s
