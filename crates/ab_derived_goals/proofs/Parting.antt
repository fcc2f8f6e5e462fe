-- A GOAL IS SPLIT where its subject stands last under a name that nobody sees: the cases are those that the goal has, but for that
-- name, under which the body waits in each.
use Rattle.std.specs.Prelude.{bytes_eq, codes, filter, if◌then◌else◌}
use Rattle.std.proofs.Common.{◌≡◌, ℕ, List, [], ◌∷◌, ◌++◌, map, length, take, drop, Bool, true, false, Some, None, refl, sym, ◌∙◌, ap, subst}
use Rattle.ab_term.specs.Terms as tree
use Rattle.ab_term.specs.Terms.{Nominal, Terms, Read}
use Rattle.ab_term.specs.Names.{support_of_all}
use Rattle.ab_term.specs.Variables.{image}
use Rattle.ab_term.specs.Sameness.{same_number}
use Rattle.ab_term.proofs.Translations.{map-append}
use Rattle.ab_unifiers.specs.Replacements.{Cell}
use Rattle.ab_unifiers.specs.Clauses.{Clause, Each, numbered}
use Rattle.ab_unifiers.specs.Choices.{in_order, choices, for_each, outside}
use Rattle.ab_unifiers.specs.Alternatives.{Alternative, analysed, alternative, on_left}
use Rattle.ab_formulas.specs.BodyMarks.{mark_below, marked_in}
use Rattle.ab_formulas.specs.Declarations.{Declarations}
use Rattle.ab_formulas.specs.Members.{SameMembers}
use Rattle.ab_formulas.specs.NewNames.{IsNamedFor}
use Rattle.ab_formulas.specs.Sequents.{Variable, Hypothesis, Sequent, named, formula_of, goal_names, in_terms, assuming}
use Rattle.ab_formulas.proofs.AlternativesAgreeing.{choices_same}
use Rattle.ab_theory.specs.Equations.{changed, made, renaming, under}
use Rattle.ab_theory.specs.Splits.{Case, CaseOver, NeverArises, Arises, Split, done, never, arises}
use Rattle.ab_theory.specs.Atoms.{Defined, Choice, choices_of}
use Rattle.ab_theory.specs.Analysis.{scope_of, raised_goal, count_before, case_of}
use Rattle.ab_theory.specs.Judgements.{Judgement}
use Rattle.ab_theory.specs.SpecRules.{SpecRule, demand_of}
use Rattle.ab_theory.specs.JudgementCases.{judgement_case}
use Rattle.ab_theory.specs.Subjects.{Subject, an_atom, a_judgement, cases_by}
use Rattle.ab_theory.proofs.Naming.{named_alike}

abbrev Cells : Type 0
Cells = List (Cell (List ℕ))

-- the two goals are one but for the name of the last hypothesis, and the second name is used by no other
pub record AreRenamed (x z : List ℕ) (g h : Sequent) : Type 0 where
  pub body : Read
  pub rest : Sequent
  pub first : g ≡ assuming x body rest
  pub second : h ≡ assuming z body rest
  pub new : formula_of rest z ≡ None

-- the same of two cases, over all cells
record CasesRenamed (x z : List ℕ) (old new : Case) : Type 0 where
  body : Read
  rest : Sequent
  first : old.goal ≡ assuming x body rest
  second : record old { goal = assuming z body rest } ≡ new
  unused : formula_of rest z ≡ None

abbrev Renamed : List ℕ → List ℕ → CaseOver → CaseOver → Type 0
Renamed x z old new = (cells : Cells) → CasesRenamed x z (old cells) (new cells)

-- GOALS UNDER A CHANGE

still_none : (f : Read → Read) (hs : List Hypothesis) (x : List ℕ) → named hs x ≡ None → named (map (λ (h : Hypothesis). record { name = h.name; formula = f h.formula }) hs) x ≡ None
still_none f [] x none = refl
still_none f (h ∷ hs) x none = go (bytes_eq h.name x) refl (still_none f hs x)
  where
    go : (b : Bool) → bytes_eq h.name x ≡ b → (named hs x ≡ None → named (map (λ (k : Hypothesis). record { name = k.name; formula = f k.formula }) hs) x ≡ None)
        → (if b then Some (f h.formula) else named (map (λ (k : Hypothesis). record { name = k.name; formula = f k.formula }) hs) x) ≡ None
    go true e rest = let clash : Some h.formula ≡ None = sym (ap (λ b. if b then Some h.formula else named hs x) e) ∙ none in cc
    go false e rest = rest (sym (ap (λ b. if b then Some h.formula else named hs x) e) ∙ none)

changed_last : (f : Read → Read) (xs : List Variable) (name : List ℕ) (F : Read) (s : Sequent) → changed f xs (assuming name F s) ≡ assuming name (f F) (changed f xs s)
changed_last f xs name F s =
    ap (λ (hs : List Hypothesis). record { variables = xs; hypotheses = hs; conclusion = f s.conclusion; counter = s.counter })
    (map-append (λ (h : Hypothesis). record { name = h.name; formula = f h.formula }) s.hypotheses (record { name = name; formula = F } ∷ []))

-- CASES THAT ARISE do so under the other name

module _ (D : Declarations) (x z : List ℕ) where
  renamed_arises : (old new : Case) → CasesRenamed x z old new → (after : Cells) (g : Sequent) → Arises (IsNamedFor D) old after g → (h : Sequent) × Arises (IsNamedFor D) new after h × AreRenamed x z g h
  renamed_arises old new k after g a =
      let other : Sequent = assuming z k.body k.rest in
      let change : Read → Read = λ F. image same_number (renaming (made old.before a.more a.answer) a.new) (image same_number a.answer F) in
      let h = under old.before a.more a.answer a.new other in
      let rest = under old.before a.more a.answer a.new k.rest in
      let arising : Arises (IsNamedFor D) (record old { goal = other }) after h = record {
        more = a.more;
        answer = a.answer;
        new = a.new;
        solved = a.solved;
        named = named_alike D old.goal other (length a.more) (made old.before a.more a.answer) a.new (ap (λ (q : Sequent). q.variables) k.first) a.named;
        all = a.all;
        goal = refl;
      } in (
        h,
        subst (λ e. Arises (IsNamedFor D) e after h) k.second arising,
        record {
          body = change k.body;
          rest = rest;
          first = a.goal ∙ ap (under old.before a.more a.answer a.new) k.first ∙ changed_last change rest.variables x k.body k.rest;
          second = changed_last change rest.variables z k.body k.rest;
          new = still_none change k.rest.hypotheses z k.unused;
        },
      )

  renamed_split : (olds news : List CaseOver) → Each (Renamed x z) olds news → (cells : Cells) (gs : List Sequent) → Split (IsNamedFor D) cells olds gs
      → (hs : List Sequent) × Split (IsNamedFor D) cells news hs × Each (AreRenamed x z) gs hs
  renamed_split [] [] each cells [] done = ([], done, tt)
  renamed_split [] [] each cells (g ∷ gs) s = elim s [ ]
  renamed_split [] (d ∷ ds) each cells gs s = absurd each
  renamed_split (c ∷ cs) [] each cells gs s = absurd each
  renamed_split (c ∷ cs) (d ∷ ds) each cells gs (never n rest) =
      let k = each.0 cells in
      let r = renamed_split cs ds each.1 cells gs rest in
      (r.0, never (subst NeverArises k.second n) r.1, r.2)
  renamed_split (c ∷ cs) (d ∷ ds) each cells (g ∷ gs) (arises {after = after} a rest) =
      let r = renamed_split cs ds each.1 after gs rest in
      let b = renamed_arises (c cells) (d cells) (each.0 cells) after g a in
      (b.0 ∷ r.0, arises b.1 r.1, (b.2, r.2))

-- THE CASES OF A SUBJECT, in a goal with the same variables and the same constants

for_each_same : {X Y : Type 0} (f g : X → List Y) → ((x : X) → f x ≡ g x) → (xs : List X) → for_each f xs ≡ for_each g xs
for_each_same f g e [] = refl
for_each_same f g e (x ∷ xs) = ap (λ l. l ++ for_each f xs) (e x) ∙ ap (λ l. g x ++ l) (for_each_same f g e xs)

choices_of_same : (xs ys : List Nominal) (d : Defined) → SameMembers xs ys → choices_of xs d ≡ choices_of ys d
choices_of_same xs ys d same =
    for_each_same
    (λ (c : Clause (List ℕ)). map (λ ns. record { clause = c; names = ns }) (choices (map (λ v. v.type) c.names) (in_order (support_of_all d.arguments)) xs))
    (λ (c : Clause (List ℕ)). map (λ ns. record { clause = c; names = ns }) (choices (map (λ v. v.type) c.names) (in_order (support_of_all d.arguments)) ys))
    (λ (c : Clause (List ℕ)).
    ap (map (λ (ns : List Nominal). record { clause = c; names = ns })) (choices_same (map (λ v. v.type) c.names) (in_order (support_of_all d.arguments)) xs ys same))
    (filter (λ c. bytes_eq c.predicate d.predicate) d.block.clauses)

-- an alternative doesn't ask which constants the goal holds
same_analysed : (cells : Cells) (V : List (tree.Variable ℕ)) (K L : List Nominal) (ts : Terms ℕ (List ℕ)) (c : Clause (List ℕ)) (ns fresh : List Nominal)
    → analysed (codes "x") (record { cells = cells; variables = V; constants = K }) ts c ns fresh ≡ analysed (codes "x") (record { cells = cells; variables = V; constants = L }) ts c ns fresh
same_analysed cells V K L ts c ns [] = refl
same_analysed cells V K L ts c ns (a ∷ bs) = refl

-- the case, by its alternative
abbrev case_by : Sequent → List ℕ → Defined → Choice → Alternative (List ℕ) → Case
case_by rest name d c alt = record {
  before = take (count_before alt c) alt.cells;
  own = drop (count_before alt c) alt.cells;
  equations = alt.equations;
  flexible = alt.flexible;
  goal = assuming name (marked_in d.block.predicates (mark_below d.sign) alt.body) (raised_goal alt rest);
}

module _ (goal other rest : Sequent) (x z : List ℕ) (variables : goal.variables ≡ other.variables) (none : formula_of rest z ≡ None) where
  choice_renamed : (d : Defined) (c : Choice) → Renamed x z (case_of goal rest x d c) (case_of other rest z d c)
  choice_renamed d c cells =
      let alt = alternative (codes "x") (scope_of cells goal) d.arguments c.clause c.names on_left in
      let same : alt ≡ alternative (codes "x") (scope_of cells other) d.arguments c.clause c.names on_left =
      same_analysed cells (map in_terms goal.variables) (goal_names goal) (goal_names other) d.arguments c.clause c.names (outside c.names (in_order (support_of_all d.arguments)))
      ∙ ap (λ (xs : List Variable). alternative (codes "x") (record { cells = cells; variables = map in_terms xs; constants = goal_names other }) d.arguments c.clause c.names on_left) variables in
      record {
        body = marked_in d.block.predicates (mark_below d.sign) alt.body;
        rest = raised_goal alt rest;
        first = refl;
        second = ap (case_by rest z d c) same;
        unused = still_none (image same_number alt.raised) rest.hypotheses z none;
      }

  -- the case of a rule asks of the goal its variables alone
  rule_renamed : (j : Judgement) (r : SpecRule) → Renamed x z (judgement_case goal rest x j r) (judgement_case other rest z j r)
  rule_renamed j r cells =
      let e = demand_of (length cells) (mark_below j.sign) j r in
      record {
        body = e.body;
        rest = rest;
        first = refl;
        second =
            ap
            (λ (xs : List Variable). record {
              before = cells ++ e.passing;
              own = e.own;
              equations = e.equations;
              flexible = map in_terms xs ++ numbered (length (cells ++ e.passing)) e.own;
              goal = assuming z e.body rest;
            }) variables;
        unused = none;
      }

  each_renamed : {X : Type 0} (f g : X → CaseOver) → ((c : X) → Renamed x z (f c) (g c)) → (cs : List X) → Each (Renamed x z) (map f cs) (map g cs)
  each_renamed f g e [] = tt
  each_renamed f g e (c ∷ cs) = (e c, each_renamed f g e cs)

  cases_renamed : SameMembers (goal_names goal) (goal_names other) → (y : Subject) → Each (Renamed x z) (cases_by goal rest x y) (cases_by other rest z y)
  cases_renamed same (an_atom d) =
      subst (λ cs. Each (Renamed x z) (map (case_of goal rest x d) (choices_of (goal_names goal) d)) (map (case_of other rest z d) cs)) (choices_of_same (goal_names goal) (goal_names other) d same)
      (each_renamed (case_of goal rest x d) (case_of other rest z d) (choice_renamed d) (choices_of (goal_names goal) d))
  cases_renamed same (a_judgement j rs) = each_renamed (judgement_case goal rest x j) (judgement_case other rest z j) (rule_renamed j) rs

  -- THE GOAL IS SPLIT so in the other goal, under the other name
  pub split_there : (D : Declarations) → SameMembers (goal_names goal) (goal_names other) → (y : Subject) (cells : Cells) (gs : List Sequent) → Split (IsNamedFor D) cells (cases_by goal rest x y) gs
      → (hs : List Sequent) × Split (IsNamedFor D) cells (cases_by other rest z y) hs × Each (AreRenamed x z) gs hs
  split_there D same y cells gs split = renamed_split D x z (cases_by goal rest x y) (cases_by other rest z y) (cases_renamed same y) cells gs split
