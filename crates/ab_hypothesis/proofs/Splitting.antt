-- The goal that a hypothesis was put last in is split by it: the cases are those of the row, and each waits for its last
-- hypothesis to be opened.
use Rattle.std.specs.Prelude.{Some, None, if◌then◌else◌}
use Rattle.std.specs.Option.{IsSome}
use Rattle.std.proofs.Common.{◌≡◌, ◌≢◌, inl, inr, ℕ, suc, ◌+◌, List, [], ◌∷◌, ◌++◌, map, filter, length, codes, Bool, true, false, Option, refl, sym, ◌∙◌, ap, subst, arith}
use Rattle.std.proofs.lemmas.List.{map-append}
use Rattle.ab_term.specs.Variables.{image}
use Rattle.ab_term.specs.Sameness.{same_number}
use Rattle.ab_term.specs.Terms.{Read}
use Rattle.ab_unifiers.specs.Replacements.{Cell}
use Rattle.ab_unifiers.specs.Alternatives.{alternative, on_left}
use Rattle.ab_formulas.specs.Declarations.{Declarations}
use Rattle.ab_formulas.specs.NewNames.{IsNamedFor}
use Rattle.ab_formulas.specs.Sequents.{Variable, Hypothesis, Sequent, IsSequent, named, formula_of, goal_names, assuming, IsUsed}
use Rattle.ab_formulas.specs.BodyMarks.{MayBeAnalysed, mark_below, marked_in}
use Rattle.ab_theory.specs.Equations.{Naming, AreCells, changed, renaming, made, stays}
use Rattle.ab_theory.specs.Splits.{CaseOver, Arises, Split, never, arises, IsUnsplit}
use Rattle.ab_theory.specs.Atoms.{Defined, Choice, choices_of}
use Rattle.ab_theory.specs.Analysis.{scope_of, raised_goal, case_of}
use Rattle.ab_theory.specs.Judgements.{Judgement}
use Rattle.ab_theory.specs.SpecRules.{SpecRule, demand_of}
use Rattle.ab_theory.specs.JudgementCases.{judgement_case}
use Rattle.ab_theory.specs.Subjects.{Subject, an_atom, a_judgement, subject_of, sign_of, cases_by}
use Rattle.ab_theory.specs.Rules.{NamedRule, Fails, Stuck}
use Rattle.ab_effects.specs.CaseAnalysis.{IsParted, IsUnparted}
use Rattle.ab_meaning.specs.Refusals.{not_pattern}
use Rattle.ab_hypothesis.specs.CaseAnswers.{rest_of}
use Rattle.ab_hypothesis.specs.AnalysedGoals.{Waits, AllWait, split_own}
use Rattle.ab_hypothesis.proofs.Hypotheses.{entry, same_or_not, named_last}
use Rattle.ab_hypothesis.proofs.StepsTaken.{without_last}
use Rattle.ab_hypothesis.proofs.SameCases.{rest_variables, same_members, split_here, unsplit_here}

-- EACH CASE WAITS

still_none : (f : Read → Read) (hs : List Hypothesis) (x : List ℕ) → named hs x ≡ None → named (map (λ (h : Hypothesis). record { name = h.name; formula = f h.formula }) hs) x ≡ None
still_none f [] x none = refl
still_none f (h ∷ hs) x none =
    elim (same_or_not h.name x) [
      | inl s ↦ let clash : Some h.formula ≡ None = sym (ap (λ b. if b then Some h.formula else named hs x) s.1) ∙ none in cc
      | inr d ↦
          ap (λ b. if b then Some (f h.formula) else named (map (λ (g : Hypothesis). record { name = g.name; formula = f g.formula }) hs) x) d.1
          ∙ still_none f hs x (sym (ap (λ b. if b then Some h.formula else named hs x) d.1) ∙ none)
    ]

changed_last : (f : Read → Read) (xs : List Variable) (name : List ℕ) (F : Read) (s : Sequent) → changed f xs (assuming name F s) ≡ assuming name (f F) (changed f xs s)
changed_last f xs name F s =
    ap (λ (hs : List Hypothesis). record { variables = xs; hypotheses = hs; conclusion = f s.conclusion; counter = s.counter })
    (map-append (λ (h : Hypothesis). record { name = h.name; formula = f h.formula }) s.hypotheses (entry name F ∷ []))

changed_waits : (f : Read → Read) (xs : List Variable) (name : List ℕ) (F : Read) (s g : Sequent) → formula_of s name ≡ None → g ≡ changed f xs (assuming name F s) → Waits name g
changed_waits f xs name F s g none is =
    record { formula = f F; rest = changed f xs s; is = is ∙ changed_last f xs name F s; new = still_none f s.hypotheses name none }

-- the goal of a case
case_waits : (IsName : Naming) (goal rest : Sequent) (name : List ℕ) (d : Defined) (c : Choice) (cells after : List (Cell (List ℕ))) (g : Sequent) → formula_of rest name ≡ None
    → Arises IsName (case_of goal rest name d c cells) after g → Waits name g
case_waits IsName goal rest name d c cells after g new a =
    let alt = alternative (codes "x") (scope_of cells goal) d.arguments c.clause c.names on_left in
    let k = case_of goal rest name d c cells in
    let xs = filter (stays a.answer) (raised_goal alt rest).variables ++ a.new in
    changed_waits (λ F. image same_number (renaming (made k.before a.more a.answer) a.new) (image same_number a.answer F)) xs name
    (marked_in d.block.predicates (mark_below d.sign) alt.body) (raised_goal alt rest) g (still_none (image same_number alt.raised) rest.hypotheses name new) a.goal

rule_waits : (IsName : Naming) (goal rest : Sequent) (name : List ℕ) (j : Judgement) (r : SpecRule) (cells after : List (Cell (List ℕ))) (g : Sequent) → formula_of rest name ≡ None
    → Arises IsName (judgement_case goal rest name j r cells) after g → Waits name g
rule_waits IsName goal rest name j r cells after g new a =
    let k = judgement_case goal rest name j r cells in
    let xs = filter (stays a.answer) rest.variables ++ a.new in
    changed_waits (λ F. image same_number (renaming (made k.before a.more a.answer) a.new) (image same_number a.answer F)) xs name
    (demand_of (length cells) (mark_below j.sign) j r).body rest g new a.goal

all_wait : {X : Type 0} (IsName : Naming) (name : List ℕ) (f : X → CaseOver) (cells : List (Cell (List ℕ)))
    → ((c : X) (before after : List (Cell (List ℕ))) (g : Sequent) → Arises IsName (f c before) after g → Waits name g)
    → (cs : List X) (gs : List Sequent) → Split IsName cells (map f cs) gs → AllWait name gs
all_wait IsName name f cells one [] [] s = tt
all_wait IsName name f cells one [] (g ∷ gs) s = elim s [ ]
all_wait IsName name f cells one (c ∷ cs) gs (never n s) = all_wait IsName name f cells one cs gs s
all_wait IsName name f cells one (c ∷ cs) (g ∷ gs) (arises {after = after} a s) = (one c cells after g a, all_wait IsName name f after one cs gs s)

cases_wait : (IsName : Naming) (cells : List (Cell (List ℕ))) (goal rest : Sequent) (name : List ℕ) (x : Subject) → formula_of rest name ≡ None
    → (gs : List Sequent) → Split IsName cells (cases_by goal rest name x) gs → AllWait name gs
cases_wait IsName cells goal rest name (an_atom d) new gs s =
    all_wait IsName name (case_of goal rest name d) cells (λ c before after g a. case_waits IsName goal rest name d c before after g new a) (choices_of (goal_names goal) d) gs s
cases_wait IsName cells goal rest name (a_judgement j rs) new gs s =
    all_wait IsName name (judgement_case goal rest name j) cells (λ r before after g a. rule_waits IsName goal rest name j r before after g new a) rs gs s

-- THE STEP, by the row

found_once : (k : Sequent) (x : List ℕ) (F G : Read) → formula_of k x ≡ Some F → formula_of k x ≡ Some G → G ≡ F
found_once k x F G a b = let both : Some G ≡ Some F = sym b ∙ a in cc

not_used : (s : Sequent) (x : List ℕ) → formula_of s x ≡ None → IsUsed s x → ⊥
not_used s x none used = let clash : false ≡ true = subst (λ (o : Option Read). IsSome o) none used in cc

module _ (D : Declarations) (s : Sequent) (H y : List ℕ) (F : Read) (keep : Bool) (sequent : IsSequent D s) (has : formula_of s H ≡ Some F) (new : formula_of (rest_of keep H s) y ≡ None) where
  abbrev rest : Sequent
  rest = rest_of keep H s

  abbrev begun : Sequent
  begun = assuming y F rest

  here : (G : Read) → formula_of begun y ≡ Some G → G ≡ F
  here G found = found_once begun y F G (named_last rest.hypotheses y F new) found

  pub record SplitInto (ps : List Sequent) : Type 0 where
    pub subject : Subject
    pub is_subject : subject_of D F ≡ Some subject
    pub may : MayBeAnalysed (sign_of subject)
    pub parted : IsParted D s rest subject ps
    pub wait : AllWait y ps

  pub split_into : (ps : List Sequent) → NamedRule D (split_own y) begun ps → SplitInto ps
  split_into ps (cells, are_cells, (G, found, (x, is, (may, (L, t, names, split))))) =
      let removed : t ≡ rest = names.2 ∙ without_last rest y F new in
      let moved : Split (IsNamedFor D) cells (cases_by begun rest y x) ps =
      subst (λ k. Split (IsNamedFor D) cells (cases_by begun k y x) ps) removed
      (subst (λ z. Split (IsNamedFor D) cells (cases_by begun t z x) ps) names.1 split) in
      record {
        subject = x;
        is_subject = sym (ap (subject_of D) (here G found)) ∙ is;
        may = may;
        parted = (
          cells,
          subst (λ (xs : List Variable). AreCells cells (record { variables = xs; hypotheses = s.hypotheses; conclusion = s.conclusion; counter = s.counter })) (rest_variables keep H s) are_cells,
          y,
          split_here begun s rest y (rest_variables keep H s) (same_members s H y F has keep sequent.labels_differ) (IsNamedFor D) cells x ps moved,
        );
        wait = cases_wait (IsNamedFor D) cells begun rest y x new ps moved;
      }

  pub unsplit_by : (cells : List (Cell (List ℕ))) (i : ℕ) → AreCells cells begun → Stuck D cells (split_own y) begun i
      → (x : Subject) × (subject_of D F ≡ Some x) × MayBeAnalysed (sign_of x) × IsUnparted D s rest x (not_pattern (i + 1))
  unsplit_by cells i are_cells (G, found, (x, is, (may, (L, t, names, unsplit)))) =
      let removed : t ≡ rest = names.2 ∙ without_last rest y F new in
      let moved : IsUnsplit (IsNamedFor D) cells (cases_by begun rest y x) i =
      subst (λ k. IsUnsplit (IsNamedFor D) cells (cases_by begun k y x) i) removed
      (subst (λ z. IsUnsplit (IsNamedFor D) cells (cases_by begun t z x) i) names.1 unsplit) in
      let number : i + 1 ≡ suc i = omega arith in (
        x,
        sym (ap (subject_of D) (here G found)) ∙ is,
        may,
        (
          cells,
          subst (λ (xs : List Variable). AreCells cells (record { variables = xs; hypotheses = s.hypotheses; conclusion = s.conclusion; counter = s.counter })) (rest_variables keep H s) are_cells,
          y,
          i,
          unsplit_here begun s rest y (rest_variables keep H s) (same_members s H y F has keep sequent.labels_differ) (IsNamedFor D) cells x i moved,
          ap not_pattern number,
        ),
      )

  -- the rule fails for want of a subject, or by the mark
  pub no_subject : (cells : List (Cell (List ℕ))) (i : ℕ) → i ≡ 2 → Fails D cells (split_own y) begun i → subject_of D F ≡ None
  no_subject cells i two (inl f) = let clash : Some F ≡ None = sym (named_last rest.hypotheses y F new) ∙ f.0 in cc
  no_subject cells i two (inr (G, found, inl f)) = sym (ap (subject_of D) (here G found)) ∙ f.0
  no_subject cells i two (inr (G, found, inr (x, is, inl f))) = let three = f.1 in absurd (omega (arith, two, three))
  no_subject cells i two (inr (G, found, inr (x, is, inr (may, inl f)))) = let four = f.1 in absurd (omega (arith, two, four))
  no_subject cells i two (inr (G, found, inr (x, is, inr (may, inr f)))) = absurd f.3

  pub no_mark : (cells : List (Cell (List ℕ))) (i : ℕ) → i ≢ 2 → Fails D cells (split_own y) begun i → (x : Subject) × (subject_of D F ≡ Some x) × (MayBeAnalysed (sign_of x) → ⊥)
  no_mark cells i other (inl f) = let clash : Some F ≡ None = sym (named_last rest.hypotheses y F new) ∙ f.0 in cc
  no_mark cells i other (inr (G, found, inl f)) = absurd (other f.1)
  no_mark cells i other (inr (G, found, inr (x, is, inl f))) = (x, sym (ap (subject_of D) (here G found)) ∙ is, f.0)
  no_mark cells i other (inr (G, found, inr (x, is, inr (may, inl f)))) =
      absurd (not_used rest y new (subst (λ k. IsUsed k y) (without_last rest y F new) f.0))
  no_mark cells i other (inr (G, found, inr (x, is, inr (may, inr f)))) = absurd f.3
