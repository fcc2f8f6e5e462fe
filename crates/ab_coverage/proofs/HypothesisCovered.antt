-- A HYPOTHESIS IS COVERED by the goals that come of it, whatever stays of the goal: by those of its choices or its rules, and by that of its equation.
use Rattle.std.proofs.Common.{◌≡◌, inl, inr, ℕ, ◌<◌, List, [], ◌∷◌, map, codes, Option, Some, None, refl, sym, ◌∙◌, ap, subst}
use Rattle.std.specs.Prelude.{All, Contains, slice_get}
use Rattle.std.proofs.lemmas.List.Elements.{All-head, All-tail, All-contains, All-weaker, Contains-append_cases}
use Rattle.ab_term.specs.Terms as tree
use Rattle.ab_term.specs.Terms.{Nominal, constant, spine, Read}
use Rattle.ab_term.specs.Typing.{Signature}
use Rattle.ab_term.specs.Translation.{forget, EqualPastHints}
use Rattle.ab_term.specs.Names.{support, EqualUpToNames}
use Rattle.ab_term.specs.Variables.{Substitution, image, IsTyped, IsClean}
use Rattle.ab_term.specs.Sameness.{same_number}
use Rattle.ab_term.proofs.Lists.{All-from_contains, Contains-none, Contains-from_map}
use Rattle.ab_unifiers.specs.Replacements.{Cell}
use Rattle.ab_unifiers.specs.Unifiers.{AreKnown}
use Rattle.ab_unifiers.specs.Clauses.{Instance}
use Rattle.ab_unifiers.specs.InstanceCover.{IsCleanFor}
use Rattle.ab_unifiers.specs.Member.{HasMember}
use Rattle.ab_unifiers.proofs.Variables.{holds_contains}
use Rattle.ab_formulas.specs.BodyMarks.{with_mark}
use Rattle.ab_formulas.specs.Declarations.{Declarations, HaveDefinitions, signature_in}
use Rattle.ab_formulas.specs.Forms.{as_equal}
use Rattle.ab_formulas.specs.Marks.{Sign, plain, star_of, at_of, plus_of, hash_of}
use Rattle.ab_formulas.specs.NewNames.{IsNoVariable}
use Rattle.ab_formulas.specs.Programs.{program_in, HavePrograms}
use Rattle.ab_formulas.specs.Sequents.{Variable, Sequent, IsSequent, formula_of, formulas_of, names_of, goal_names, in_terms, counted, without}
use Rattle.ab_formulas.proofs.Sides.{AreSides}
use Rattle.ab_theory.specs.Analysis.{scope_of}
use Rattle.ab_theory.specs.Atoms.{Defined, defined_atom}
use Rattle.ab_theory.specs.Equations.{AreCells}
use Rattle.ab_theory.specs.Judgements.{Judgement, as_judgement}
use Rattle.ab_theory.specs.Parts.{Part, parts_of}
use Rattle.ab_theory.specs.Row.{Takes, solves}
use Rattle.ab_theory.specs.SpecInstances.{IsInstance}
use Rattle.ab_theory.specs.SpecRules.{SpecRule, by_part, rules_of}
use Rattle.ab_theory.specs.Splits.{Split}
use Rattle.ab_theory.specs.Subjects.{Subject, an_atom, a_judgement, cases_by}
use Rattle.ab_theory.proofs.Sequents.{goal_of, without_goal}
use Rattle.ab_theory.proofs.Sized.{atom_of}
use Rattle.ab_theory.proofs.SubjectParts.{IsSubject}
use Rattle.ab_coverage.specs.HypothesisCover.{EqualToUnmarked, OneMeetsBody, IsCovered}
use Rattle.ab_coverage.specs.JudgementCover.{judgement_under}
use Rattle.ab_coverage.specs.OpenedFormulas.{FullyEqual, NearlyEqual}
use Rattle.ab_coverage.specs.TakenNames.{closes, part_under, IsTaken, taken_off}
use Rattle.ab_coverage.specs.VacuousNames.{without_vacuous}
use Rattle.ab_coverage.specs.OpenedFormulas as opened
use Rattle.ab_coverage.proofs.AtomCover.{atom_met}
use Rattle.ab_coverage.proofs.Cases.{full_past_hints}
use Rattle.ab_coverage.proofs.Equal.{equation_read, equation_met, sides_there, clean_sides}
use Rattle.ab_coverage.proofs.Guesses.{blanks, blanks_length}
use Rattle.ab_coverage.proofs.IndexForms.{full_same}
use Rattle.ab_coverage.proofs.JudgementLaws.{unfocused_law, focused_law}
use Rattle.ab_coverage.proofs.JudgementPremises.{rule_premise_meets}
use Rattle.ab_coverage.proofs.NewHypothesis.{Stays}

-- one formula isn't of two kinds

module _ {X : Type 0} where
  no_value : {A : Type 0} (a : A) → None ≡ Some a → X
  no_value a e = absurd (cc)

  module _ (D : Declarations) (F : Read) where
    atom_no_judgement : (d : Defined) (j : Judgement) → defined_atom D F ≡ Some d → as_judgement F ≡ Some j → X
    atom_no_judgement d j e f = no_value j (sym (go d.sign) ∙ ap as_judgement (sym (atom_of D F d e).formula) ∙ f)
      where
        go : (m : Sign) → as_judgement (with_mark m (spine (constant d.predicate) d.arguments)) ≡ None
        go plain = refl
        go (star_of i) = refl
        go (at_of i) = refl
        go (plus_of i) = refl
        go (hash_of i) = refl

    atom_no_equation : (d : Defined) (p : Read × Read) → defined_atom D F ≡ Some d → as_equal F ≡ Some p → X
    atom_no_equation d p e f = no_value d (sym (ap (defined_atom D) (equation_read F p f).1) ∙ e)

    judgement_no_equation : (j : Judgement) (p : Read × Read) → as_judgement F ≡ Some j → as_equal F ≡ Some p → X
    judgement_no_equation j p e f = no_value j (sym (ap as_judgement (equation_read F p f).1) ∙ e)

-- bodies are compared past hints

full_before : (u v : Read) → EqualPastHints u v → forget (opened.full u) ≡ forget (opened.full v)
full_before u v d = ap forget (full_same u) ∙ full_past_hints u v d ∙ sym (ap forget (full_same v))

-- what is clean for the formulas is so for their constants

no_constants : (Fs : List Read) (u : Read) → All (λ t. All (λ a. ¬ (Contains (support t) a)) (support u)) Fs → (a : Nominal) → Contains (names_of Fs) a → Contains (support u) a → ⊥
no_constants [] u all a n m = Contains-none a n
no_constants (F ∷ Fs) u all a n m = elim (Contains-append_cases (support F) (names_of Fs) a n) [
  | inl here ↦ All-contains (λ b. ¬ (Contains (support F) b)) (support u) a (All-head (λ t. All (λ b. ¬ (Contains (support t) b)) (support u)) F Fs all) m here
  | inr there ↦ no_constants Fs u (All-tail (λ t. All (λ b. ¬ (Contains (support t) b)) (support u)) F Fs all) a there m
]

clean_for : (s : Sequent) (cells : List (Cell (List ℕ))) (q : Substitution ℕ (List ℕ)) → IsClean q (formulas_of s) → IsCleanFor (scope_of cells s) q
clean_for s cells q =
    All-weaker (λ p. All (λ t. All (λ a. ¬ (Contains (support t) a)) (support p.1)) (formulas_of s)) (λ p. All (λ a. ¬ (Contains (support p.1) a)) (goal_names s))
    (λ p all. All-from_contains (λ a. ¬ (Contains (support p.1) a)) (goal_names s) (λ a n. no_constants (formulas_of s) p.1 all a n)) q

-- as many cells as are needed for the goal's variables
known_blank : (s : Sequent) (n : ℕ) → All (λ (x : Variable). x.number < n) s.variables → AreKnown (blanks n) (map in_terms s.variables)
known_blank s n all y h =
    let found = Contains-from_map in_terms s.variables y (holds_contains (map in_terms s.variables) y h) in
    subst (λ k. y.name < k) (sym (blanks_length n)) (subst (λ (z : tree.Variable ℕ). z.name < n) found.2 (All-contains (λ (x : Variable). x.number < n) s.variables found.0 all found.1))

-- what stays of a goal, without the hypothesis or with it

pub all_stays : (D : Declarations) (s : Sequent) → IsSequent D s → Stays D s s
all_stays D s is = let goal = goal_of D s is in record { same = refl; conclusion = goal.conclusion; hypotheses = goal.hypotheses }

pub others_stay : (D : Declarations) (s : Sequent) (H : List ℕ) → IsSequent D s → Stays D s (without H s)
others_stay D s H is = let goal = without_goal D (goal_names s) s H (goal_of D s is) in record { same = refl; conclusion = goal.conclusion; hypotheses = goal.hypotheses }

module _ (D : Declarations) (s : Sequent) (is : IsSequent D s) (H : List ℕ) (F : Read) (e : formula_of s H ≡ Some F) (q : Substitution ℕ (List ℕ)) (q_typed : IsTyped (signature_in D) q) (q_clean : IsClean q (formulas_of s)) where
  abbrev sg : Signature
  sg = signature_in D

  -- BY THE CASES OF A SUBJECT
  module _ (definitions : HaveDefinitions D) (programs : HavePrograms D) (has : HasMember sg) (rest : Sequent) (counter : ℕ) (staying : Stays D s rest) (name : List ℕ) (cells : List (Cell (List ℕ))) (are : AreCells cells s) (gs : List Sequent) where
    abbrev t : Sequent
    t = counted counter rest

    module _ (B : Read) where
      -- an instance of the judgement
      abbrev Held : Judgement → Type 0
      Held j = IsInstance sg (program_in D) (judgement_under q j) B

      module _ (j : Judgement) (rs : List SpecRule) (is_j : as_judgement F ≡ Some j) (known : rules_of (program_in D) j ≡ Some rs) (split : Split (λ k hint x. IsNoVariable k x) cells (cases_by s t name (a_judgement j rs)) gs) where
        unfocused_met : j.focus ≡ None → Held j → OneMeetsBody FullyEqual EqualPastHints sg q B rest gs
        unfocused_met none i =
            let found = unfocused_law D programs has cells s t is H name F j e is_j rs q q_typed (clean_for s cells q q_clean) B none known i in
            rule_premise_meets D programs has s is H F j e is_j rs known rest counter staying name cells are q B FullyEqual (λ u v d f. full_before u v d ∙ f) found.0 found.1 found.2 gs split

        focused_met : (G : Read) → j.focus ≡ Some G → (i : Held j) → (n : ℕ) → All (λ (x : Variable). x.number < n) s.variables
            → (p : Part) × Contains (parts_of G) p × (i.rule ≡ by_part (part_under q p))
            × ((terms : List (Option Read)) → IsTaken sg (closes n p) (closes i.number (part_under q p)) p.names terms
            → OneMeetsBody (λ u v. NearlyEqual u (taken_off (closes i.number (part_under q p)) terms v)) EqualPastHints sg q B rest gs)
        focused_met G some i n above =
            let found = focused_law D programs has (blanks n) s t is H name F j e is_j rs q q_typed (clean_for s (blanks n) q q_clean) B G some (known_blank s n above) known i in
            let p = found.0 in
            let after = closes i.number (part_under q p) in (
              p,
              found.1,
              found.3,
              λ terms taking. rule_premise_meets D programs has s is H F j e is_j rs known rest counter staying name cells are q B (λ u v. NearlyEqual u (taken_off after terms v))
                  (λ u v d f. ap without_vacuous (full_before u v d) ∙ f) (by_part p) found.2 (found.4 terms (subst (λ k. IsTaken sg (closes k p) after p.names terms) (sym (blanks_length n)) taking)) gs split,
            )

    pub subject_covered : (x : Subject) → IsSubject D F x → Split (λ k hint z. IsNoVariable k z) cells (cases_by s t name x) gs → IsCovered D s F q rest gs
    subject_covered (an_atom d) is_atom split = record {
      atoms = λ d2 B e2. subst (λ k. Instance sg (codes "x") k.block.clauses (image same_number q (spine (constant k.predicate) k.arguments)) B → OneMeetsBody EqualToUnmarked EqualUpToNames sg q B rest gs)
          (let whole : Some d ≡ Some d2 = sym is_atom ∙ e2 in let one : d ≡ d2 = cc in one)
          (λ i. atom_met D definitions s is H F d e is_atom rest counter staying name cells are q q_typed (clean_for s cells q q_clean) B i gs split);
      judgements = λ j B e2. atom_no_judgement D F d j is_atom e2;
      focused_ones = λ j G B e2. atom_no_judgement D F d j is_atom e2;
      equations = λ t u e2. atom_no_equation D F d (t, u) is_atom e2;
    }
    subject_covered (a_judgement j rs) is_one split = record {
      atoms = λ d B e2. atom_no_judgement D F d j e2 is_one.0;
      judgements = λ k B e2. subst (λ k. k.focus ≡ None → Held B k → OneMeetsBody FullyEqual EqualPastHints sg q B rest gs)
          (let whole : Some j ≡ Some k = sym is_one.0 ∙ e2 in let one : j ≡ k = cc in one) (unfocused_met B j rs is_one.0 is_one.1 split);
      focused_ones = λ k G B e2. subst (λ k. k.focus ≡ Some G → (i : Held B k) → (n : ℕ) → All (λ (x : Variable). x.number < n) s.variables
          → (p : Part) × Contains (parts_of G) p × (i.rule ≡ by_part (part_under q p))
          × ((terms : List (Option Read)) → IsTaken sg (closes n p) (closes i.number (part_under q p)) p.names terms
          → OneMeetsBody (λ u v. NearlyEqual u (taken_off (closes i.number (part_under q p)) terms v)) EqualPastHints sg q B rest gs))
          (let whole : Some j ≡ Some k = sym is_one.0 ∙ e2 in let one : j ≡ k = cc in one) (focused_met B j rs is_one.0 is_one.1 split G);
      equations = λ t u e2. judgement_no_equation D F j (t, u) is_one.0 e2;
    }

  -- BY SOLVING AN EQUATION, where a sequent over the same variables stays
  pub equation_covered : (rest : Sequent) → IsSequent D rest → rest.variables ≡ s.variables → (cells : List (Cell (List ℕ))) → AreCells cells s → (p : Read × Read) → as_equal F ≡ Some p
      → (gs : List Sequent) → Takes (solves (λ k hint x. IsNoVariable k x) cells rest p.0 p.1) gs → IsCovered D s F q rest gs
  equation_covered rest rest_is same cells are p is_equal gs takes = record {
    atoms = λ d B e2. atom_no_equation D F d p e2 is_equal;
    judgements = λ j B e2. judgement_no_equation D F j p e2 is_equal;
    focused_ones = λ j G B e2. judgement_no_equation D F j p e2 is_equal;
    equations = λ t u e2 equal.
        let whole : Some p ≡ Some (t, u) = sym is_equal ∙ e2 in
        let one : p ≡ (t, u) = cc in
        equation_met D rest rest_is (t, u) (subst (λ xs. AreSides sg xs (t, u)) (sym same) (sides_there D s is H F (t, u) e e2)) q q_typed (clean_sides s H F (t, u) e e2 q q_clean) equal
        cells (subst (λ (xs : List Variable). All (λ (x : Variable). slice_get cells x.number ≡ Some (record { hint = x.name; type = x.type })) xs) (sym same) are) gs
        (subst (λ (k : Read × Read). Takes (solves (λ k hint x. IsNoVariable k x) cells rest k.0 k.1) gs) one takes);
  }
