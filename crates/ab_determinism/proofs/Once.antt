-- Each row of a proof command has one answer, with names for the numbers of variables: in goals that are one with names for
-- numbers, and so in one goal.
use Rattle.std.specs.Prelude.{codes, All, Contains, if◌then◌else◌}
use Rattle.std.proofs.Common.{◌≡◌, ℕ, List, [], ◌∷◌, ◌++◌, map, Bool, true, false, Option, Some, None, option_map, refl, sym, ◌∙◌, ap, subst}
use Rattle.std.proofs.lemmas.List.Elements.{All-nil, All-cons, All-contains}
use Rattle.ab_term.specs.Types.{Ty, prop, olist}
use Rattle.ab_term.specs.Terms as tree
use Rattle.ab_term.specs.Terms.{Nominal, Read}
use Rattle.ab_term.specs.Names as constant
use Rattle.ab_term.specs.Names.{HasOneTypeEach, moved_by, support}
use Rattle.ab_term.specs.Variables.{variables}
use Rattle.ab_term.proofs.Lists.{All-from_contains}
use Rattle.ab_term.specs.Substitution.{instance}
use Rattle.ab_term.proofs.Translations.{map-append, support-translate, translate-instance, translate-rename}
use Rattle.ab_grammar.specs.Tree.{Tree}
use Rattle.ab_grammar.specs.CommandTrees.{ProofCommand, Instance, intros, induction, coinduction, case, apply, backchain, cut, inst, monotone, search, skip, split, split_all, left, right, exists, unfold_goal, assert, clear, rename, permute}
use Rattle.ab_unifiers.specs.Member.{HasMember}
use Rattle.ab_formulas.specs.Declarations.{Declarations, signature_in, HaveDefinitions, HaveSentences}
use Rattle.ab_formulas.specs.Programs.{HavePrograms}
use Rattle.ab_formulas.specs.Forms as form
use Rattle.ab_formulas.specs.Forms.{Form, form_of, either_in, equal_in, as_both, as_either, as_exists}
use Rattle.ab_formulas.specs.NewNames.{Label, auto, given, Names}
use Rattle.ab_formulas.specs.Sequents.{Sequent, IsSequent, HoldsOnly, in_terms, formula_of, goal_names, without, proving, assuming}
use Rattle.ab_formulas.specs.Marks.{Sign, plain, star_of, at_of, plus_of, hash_of}
use Rattle.ab_formulas.specs.BodyMarks.{MayBeAnalysed, MayBeUnfolded}
use Rattle.ab_theory.specs.Contexts.{cut_list, replace_constants, is_within}
use Rattle.ab_theory.specs.Judgements.{as_unfocused, marked_judgement}
use Rattle.ab_theory.specs.Subjects.{Subject, an_atom, a_judgement, subject_of, sign_of}
use Rattle.ab_theory.proofs.Known.{Known}
use Rattle.ab_theory.proofs.JudgementRules.{unfocused_known}
use Rattle.ab_theory.specs.Conjuncts.{conjuncts, with_parts}
use Rattle.ab_theory.specs.Induction.{inductive_signs, coinductive_signs, marked_antecedents, marked_consequents}
use Rattle.ab_theory.specs.Levels.{next_level, inductive_level, coinductive_level}
use Rattle.ab_theory.proofs.RulesParts.{MayStand, either_may}
use Rattle.ab_theory.proofs.Sequents.{IsGoal, goal_of, found_may, without_goal, sequent_from}
use Rattle.ab_formulas.specs.NamedGoals.{name_in, with_names, named}
use Rattle.ab_infer.specs.Lists.{HasLists}
use Rattle.ab_effects.specs.ProofCommands.{effect, opening, cases, analysing, marked_so, IsNamedBy, hypotheses_named, introducing, reading, reading_for, constant_in, no_constant, naming, left_over, clashing, clashing_names, missing, cleared}
use Rattle.ab_effects.specs.CaseAnalysis.{IsParted, IsUnparted, AllOpened, SomeNameless}
use Rattle.ab_effects.specs.Unfoldings.{IsUnfolded, IsNotUnfolded}
use Rattle.ab_effects.specs.Introductions.{taken_off}
use Rattle.ab_effects.specs.Permutations.{of_one_type, cycling}
use Rattle.ab_formulas.specs.Cycles.{MayCycle, type_among, cycle}
use Rattle.ab_meaning.specs.Refusals.{Refusal, type_clash, unknown, no_hypothesis, wrong_shape, no_match, not_pattern, names_spent}
use Rattle.ab_meaning.specs.Terms.{MeansIn, MeansNothingIn}
use Rattle.ab_effects.specs.FormulaUses.{given_twice, scope_with}
use Rattle.ab_effects.specs.Solutions.{IsSolved, IsOutside}
use Rattle.ab_effects.specs.Row.{Row, leads, unless, makes}
use Rattle.ab_formulas.proofs.Sides.{equation_sides}
use Rattle.ab_effects.specs.Likeness.{IsSameTerm, IsSameEquation, IsSameSubject, IsSameRest}
use Rattle.ab_effects.proofs.MovedSubjects.{moved_subject, subject_moved}
use Rattle.ab_effects.proofs.Splitting.{turned as turned_subject}
pub use Rattle.ab_determinism.proofs.Rows.{AreOnce}
use Rattle.ab_determinism.proofs.Rows.{once_leads, once_unless, once_finds, once_makes, once_alone, once_marked, one_same, two_same}
use Rattle.ab_determinism.proofs.Equations.{turned, solved_or_not, solved_once}
use Rattle.ab_determinism.proofs.Commands.{never_named, named_by_once}
use Rattle.ab_determinism.proofs.Namings.{same_constants, names_alike, nameless_also}
use Rattle.ab_determinism.proofs.Alike.{Alike, flipped, assumed_alike}
use Rattle.ab_determinism.proofs.OneWay.{opened_once, opened_or_not}
use Rattle.ab_determinism.proofs.Bodies.{bodies_turned, all_opened_once, all_opened_or_not}
use Rattle.ab_determinism.proofs.Parting.{MayBeSplit, turned_rest, parted_alike, parted_or_not, one_unparting}
use Rattle.ab_determinism.proofs.Unfolded.{unfolded_once, unfolded_or_not, not_unfolded, one_cause}
use Rattle.ab_determinism.proofs.Chaining.{once_backchain}
use Rattle.ab_determinism.proofs.Applying.{once_apply}
use Rattle.ab_determinism.proofs.OneIntroduction.{introduced_once, introduced_or_not}
use Rattle.ab_determinism.proofs.Renumbered.{Renumbering, renumber, renumber_variable, renumber_hypothesis, renumbered, renumbering}
use Rattle.ab_determinism.proofs.Reread.{meaning_or_not_with, not_or_meaning_with, cause_alike_with, same_meaning_with, meaning_or_not, not_or_means, same_meaning, cause_alike, states_or_not, not_or_states, faults_alike}
use Rattle.ab_determinism.proofs.Judged.{cut_told, replacement_told, replaced_told, within_told, pair_told, unfocused_told}
use Rattle.ab_determinism.proofs.Retold.{form_told, form_retold, as_both_told, as_either_told, as_exists_told, taken_off_told, conjuncts_told, with_parts_told, formula_told, clashing_told, clashing_names_told, missing_told, without_told, cleared_told, cleared_variables, KeepsNames, formula_named, goal_named}
use Rattle.ab_determinism.proofs.Remarked.{level_told, inductive_signs_told, coinductive_signs_told, marked_antecedents_told, marked_consequents_told}

-- a formula is opened
once_opening : (D : Declarations) (l : Label) (N : List Nominal) (s u : Sequent) (F G : Read) → Alike D N s (F ∷ []) u (G ∷ []) → (k j : Sequent → Row) → ((t v : Sequent) → named t ≡ named v → AreOnce (k t) (j v))
    → AreOnce (opening D F l s k) (opening D G l u j)
once_opening D l N s u F G alike k j once =
    once_makes _ _ _ _ _ _
    (λ a g m n. opened_or_not m N u (G ∷ []) alike n.0)
    (λ f b m n. opened_or_not n N s (F ∷ []) (flipped D N s u (F ∷ []) (G ∷ []) alike) m.0)
    (λ f g m n. m.1 ∙ sym n.1)
    (λ a b m n. once a.1 b.1 (opened_once m N u (G ∷ []) alike b.0 b.1 n).1)

mapped_same : {A : Type 0} (o : Option A) → option_map (λ a. a) o ≡ o
mapped_same (Some a) = refl
mapped_same None = refl

-- TWO GOALS that are one but for the numbers
module _ (D : Declarations) (definitions : HaveDefinitions D) (programs : HavePrograms D) (has : HasMember (signature_in D)) (s : Sequent) (f : ℕ → ℕ) (is : IsSequent D s) (its : IsSequent D (renumbered f s)) (names : KeepsNames f s.variables) where
  abbrev u : Sequent
  u = renumbered f s

  same : named s ≡ named u
  same = goal_named f s names

  one_type : HasOneTypeEach (goal_names s)
  one_type = is.one_type

  abbrev r : Renumbering s u
  r = record { by = f; is = refl; names = names }

  -- so for goals over the same variables
  also : (b : Sequent) → b.variables ≡ s.variables → named b ≡ named (renumbered f b)
  also b e = goal_named f b (subst (KeepsNames f) (sym e) names)

  first : IsGoal D (goal_names s) s
  first = goal_of D s is

  second : IsGoal D (goal_names s) u
  second = subst (λ N. IsGoal D N u) (sym (same_constants s u same)) (goal_of D u its)

  abbrev May : Read → Type 0
  May = MayStand (signature_in D) s.variables (goal_names s)

  abbrev Can : Read → Type 0
  Can = MayStand (signature_in D) (map (renumber_variable f) s.variables) (goal_names s)

  -- a subject, of a formula that may stand in the goal
  same_subject : (F : Read) → May F → Can (renumber f F) → (x : Subject) → subject_of D F ≡ Some x → IsSameSubject D s u x (moved_subject f x)
  same_subject F may can x is_subject = record {
    first = is;
    second = its;
    goals = same;
    formula = F;
    other = renumber f F;
    formulas = record { first = may.closed; second = can.closed; same = formula_named f s names F };
    subject = is_subject;
    also = subject_moved f D F ∙ ap (option_map (moved_subject f)) is_subject;
    definitions = definitions;
    programs = programs;
  }

  -- its mark is the same
  same_sign : (x : Subject) → sign_of (moved_subject f x) ≡ sign_of x
  same_sign (an_atom d) = refl
  same_sign (a_judgement j rs) = refl

  alike_goals : Alike D (goal_names s) s [] u []
  alike_goals = record {
    goals = same;
    formulas = refl;
    one = is.one_type;
    first = record { goal = first; formulas = All-nil May };
    second = record { goal = second; formulas = All-nil Can };
  }

  alike_formulas : (b : Sequent) → b.variables ≡ s.variables → IsGoal D (goal_names s) b → IsGoal D (goal_names s) (renumbered f b) → (F : Read) → May F → Can (renumber f F)
      → Alike D (goal_names s) b (F ∷ []) (renumbered f b) (renumber f F ∷ [])
  alike_formulas b e g h F may can = record {
    goals = also b e;
    formulas = ap (λ G. G ∷ []) (formula_named f b (subst (KeepsNames f) (sym e) names) F);
    one = is.one_type;
    first = record {
      goal = g;
      formulas = All-cons (MayStand (signature_in D) b.variables (goal_names s)) F [] (subst (λ xs. MayStand (signature_in D) xs (goal_names s) F) (sym e) may) (All-nil (MayStand (signature_in D) b.variables (goal_names s)));
    };
    second = record {
      goal = h;
      formulas = All-cons (MayStand (signature_in D) (map (renumber_variable f) b.variables) (goal_names s)) (renumber f F) []
          (subst (λ xs. MayStand (signature_in D) (map (renumber_variable f) xs) (goal_names s) (renumber f F)) (sym e) can) (All-nil (MayStand (signature_in D) (map (renumber_variable f) b.variables) (goal_names s)));
    };
  }

  module _ (l : Label) (b : Sequent) (e : b.variables ≡ s.variables) (g : IsGoal D (goal_names s) b) (h : IsGoal D (goal_names s) (renumbered f b)) (F : Read) (may : May F) (can : Can (renumber f F)) where
    whole : AreOnce (opening D F l b (λ t. leads (t ∷ []))) (opening D (renumber f F) l (renumbered f b) (λ t. leads (t ∷ [])))
    whole =
        once_opening D l (goal_names s) b (renumbered f b) F (renumber f F) (alike_formulas b e g h F may can) (λ t. leads (t ∷ [])) (λ t. leads (t ∷ []))
        (λ t v same. once_leads (t ∷ []) (v ∷ []) (one_same t v same))

    -- the sides of an equation
    side : (t : Read) → HoldsOnly s.variables t → HoldsOnly (map (renumber_variable f) s.variables) (renumber f t) → IsSameTerm b (renumbered f b) t (renumber f t)
    side t may can = record {
      first = subst (λ xs. HoldsOnly xs t) (sym e) may;
      second = subst (λ xs. HoldsOnly (map (renumber_variable f) xs) (renumber f t)) (sym e) can;
      same = formula_named f b (subst (KeepsNames f) (sym e) names) t;
    }

    equation : (A : Ty) (t v : Read) → form_of F ≡ form.equal A t v → IsSameEquation D b (renumbered f b) t v (renumber f t) (renumber f v)
    equation A t v is =
        let sides = equation_sides (signature_in D) s.variables F (t, v) may.formula.typed may.closed (ap equal_in is) in
        let others = equation_sides (signature_in D) (map (renumber_variable f) s.variables) (renumber f F) (renumber f t, renumber f v) can.formula.typed can.closed (ap equal_in (form_retold f F ∙ ap (form_told f) is)) in
        record {
          first = sequent_from D (goal_names s) b one_type g;
          second = sequent_from D (goal_names s) (renumbered f b) one_type h;
          goals = also b e;
          left = side t sides.left_closed others.left_closed;
          right = side v sides.right_closed others.right_closed;
        }

    -- a subject of the formula
    module _ (x : Subject) (is_subject : subject_of D F ≡ Some x) where
      abbrev y : Subject
      y = moved_subject f x

      first_split : MayBeSplit D s b x
      first_split = record { goal = is; left = g; over = e; formula = F; may = may; subject = is_subject }

      second_split : MayBeSplit D u (renumbered f b) y
      second_split =
          let constants = same_constants s u same in
          record {
            goal = its;
            left = subst (λ N. IsGoal D N (renumbered f b)) constants h;
            over = ap (map (renumber_variable f)) e;
            formula = renumber f F;
            may = subst (λ N. MayStand (signature_in D) u.variables N (renumber f F)) constants can;
            subject = subject_moved f D F ∙ ap (option_map (moved_subject f)) is_subject;
          }

      subjects : IsSameSubject D s u x y
      subjects = same_subject F may can x is_subject

      rests : IsSameRest D s u b (renumbered f b)
      rests = record {
        first = sequent_from D (goal_names s) b one_type g;
        second = sequent_from D (goal_names s) (renumbered f b) one_type h;
        goals = also b e;
        first_over = e;
        second_over = ap (map (renumber_variable f)) e;
      }

      abbrev opened_all : List Sequent → Row
      opened_all gs = makes {A = List Sequent} (AllOpened D l gs) (λ c. SomeNameless D l gs × (c ≡ names_spent)) leads

      once_opened : (gs hs : List Sequent) → IsParted D s b x gs → IsParted D u (renumbered f b) y hs → AreOnce (opened_all gs) (opened_all hs)
      once_opened gs hs m n =
          let bodies = parted_alike D s u b (renumbered f b) x y subjects rests has first_split second_split gs hs m n in
          once_makes (AllOpened D l gs) (λ c. SomeNameless D l gs × (c ≡ names_spent)) (AllOpened D l hs) (λ c. SomeNameless D l hs × (c ≡ names_spent)) leads leads
          (λ us c m n. all_opened_or_not m n.0 bodies)
          (λ c vs m n. all_opened_or_not n m.0 (bodies_turned D gs hs bodies))
          (λ c k m n. m.1 ∙ sym n.1)
          (λ us vs m n. once_leads us vs (all_opened_once m n bodies))

      abbrev splitting : Sequent → Sequent → Subject → Row
      splitting goal rest z = makes {A = List Sequent} (IsParted D goal rest z) (IsUnparted D goal rest z) opened_all

      once_split_so : AreOnce (marked_so (MayBeAnalysed (sign_of x)) (splitting s b x)) (marked_so (MayBeAnalysed (sign_of y)) (splitting u (renumbered f b) y))
      once_split_so =
          subst (λ m. AreOnce (marked_so (MayBeAnalysed (sign_of x)) (splitting s b x)) (marked_so (MayBeAnalysed m) (splitting u (renumbered f b) y))) (sym (same_sign x))
          (once_marked (MayBeAnalysed (sign_of x)) _ _
          (once_makes (IsParted D s b x) (IsUnparted D s b x) (IsParted D u (renumbered f b) y) (IsUnparted D u (renumbered f b) y) opened_all opened_all
          (λ gs c m n. parted_or_not D s u b (renumbered f b) x y subjects rests gs c m n)
          (λ c hs m n. parted_or_not D u s (renumbered f b) b y x (turned_subject D s u x y subjects) (turned_rest D s u b (renumbered f b) rests) hs c n m)
          (λ c k m n. one_unparting D s u b (renumbered f b) x y subjects rests c k m n)
          once_opened))

    once_analysing : AreOnce (analysing D F l s b) (analysing D (renumber f F) l u (renumbered f b))
    once_analysing = once_finds wrong_shape (subject_of D F) (subject_of D (renumber f F)) (moved_subject f) (subject_moved f D F) _ _ (λ x is_subject. once_split_so x is_subject)

    once_cases : (k : Form) → form_of F ≡ k → AreOnce (cases D k F l s b) (cases D (form_told f k) (renumber f F) l u (renumbered f b))
    once_cases form.truth is = whole
    once_cases (form.both A B) is = whole
    once_cases (form.exists A t) is = whole
    once_cases (form.nabla A t) is = whole
    once_cases (form.either A B) is =
        let parts = either_may (signature_in D) s.variables (goal_names s) F (A, B) may (ap either_in is) in
        let others = either_may (signature_in D) (map (renumber_variable f) s.variables) (goal_names s) (renumber f F) (renumber f A, renumber f B) can (ap either_in (form_retold f F ∙ ap (form_told f) is)) in
        once_opening D l (goal_names s) b (renumbered f b) A (renumber f A) (alike_formulas b e g h A parts.0 others.0) (λ t. opening D B l b (λ v. leads (t ∷ v ∷ []))) (λ t. opening D (renumber f B) l (renumbered f b) (λ v. leads (t ∷ v ∷ [])))
        (λ t w one. once_opening D l (goal_names s) b (renumbered f b) B (renumber f B) (alike_formulas b e g h B parts.1 others.1) (λ v. leads (t ∷ v ∷ [])) (λ v. leads (w ∷ v ∷ []))
        (λ v x two. once_leads (t ∷ v ∷ []) (w ∷ x ∷ []) (two_same t w v x one two)))
    once_cases form.falsity is = once_leads [] [] refl
    once_cases (form.implies A B) is = once_alone (Some wrong_shape)
    once_cases (form.equal A t v) is =
        once_makes (IsSolved D b t v) (λ c. IsOutside b t v × (c ≡ not_pattern 1)) (IsSolved D (renumbered f b) (renumber f t) (renumber f v)) (λ c. IsOutside (renumbered f b) (renumber f t) (renumber f v) × (c ≡ not_pattern 1)) leads leads
        (λ gs c m n. solved_or_not D b (renumbered f b) t v (renumber f t) (renumber f v) (equation A t v is) gs m n.0)
        (λ c gs m n. solved_or_not D (renumbered f b) b (renumber f t) (renumber f v) t v (turned D b (renumbered f b) t v (renumber f t) (renumber f v) (equation A t v is)) gs n m.0)
        (λ c d m n. m.1 ∙ sym n.1)
        (λ gs hs m n. once_leads gs hs (solved_once D b (renumbered f b) t v (renumber f t) (renumber f v) (equation A t v is) gs hs m n))
    once_cases (form.for_all A t) is = once_alone (Some wrong_shape)
    once_cases (form.marked m t) is = once_analysing
    once_cases form.other is = once_analysing

    once_case_of : AreOnce (cases D (form_of F) F l s b) (cases D (form_of (renumber f F)) (renumber f F) l u (renumbered f b))
    once_case_of = subst (λ k. AreOnce (cases D (form_of F) F l s b) (cases D k (renumber f F) l u (renumbered f b))) (sym (form_retold f F)) (once_cases (form_of F) refl)

  module _ (H : List ℕ) (F : Read) (there : formula_of s H ≡ Some F) where
    found_first : May F
    found_first = found_may D (goal_names s) s H F first there

    found_second : Can (renumber f F)
    found_second = found_may D (goal_names s) u H (renumber f F) second (formula_told f s H ∙ ap (option_map (renumber f)) there)

  once_case : (l : Label) (H : List ℕ) (keep : Bool) → AreOnce (effect D l (case H keep) s) (effect D l (case H keep) u)
  once_case l H true =
      once_unless (clashing l s) (clashing l u) _ _ (sym (clashing_told f l s))
      (once_finds (no_hypothesis H) (formula_of s H) (formula_of u H) (renumber f) (formula_told f s H) (λ F. cases D (form_of F) F l s s) (λ F. cases D (form_of F) F l u u)
      (λ F e. once_case_of l s refl first second F (found_first H F e) (found_second H F e)))
  once_case l H false =
      let gone : IsGoal D (goal_names s) (renumbered f (without H s)) = subst (IsGoal D (goal_names s)) (without_told f H s) (without_goal D (goal_names s) u H second) in
      once_unless (clashing l s) (clashing l u) _ _ (sym (clashing_told f l s))
      (once_finds (no_hypothesis H) (formula_of s H) (formula_of u H) (renumber f) (formula_told f s H) (λ F. cases D (form_of F) F l s (without H s)) (λ F. cases D (form_of F) F l u (without H u))
      (λ F e. subst (λ w. AreOnce (cases D (form_of F) F l s (without H s)) (cases D (form_of (renumber f F)) (renumber f F) l u w)) (sym (without_told f H s))
      (once_case_of l (without H s) refl (without_goal D (goal_names s) s H first) gone F (found_first H F e) (found_second H F e))))

  -- a conclusion is taken apart
  once_introducing : (xs : List (List ℕ)) → AreOnce (introducing D xs s) (introducing D xs u)
  once_introducing xs =
      once_makes _ _ _ _ _ _
      (λ a g m n. introduced_or_not m (goal_names s) u alike_goals n.0)
      (λ g b m n. introduced_or_not n (goal_names s) s (flipped D (goal_names s) s u [] [] alike_goals) m.0)
      (λ g h m n. m.1 ∙ sym n.1)
      (λ a b m n.
      let one = introduced_once m (goal_names s) u alike_goals b.0 b.1 n in
      once_unless (left_over a.0) (left_over b.0) (leads (a.1 ∷ [])) (leads (b.1 ∷ [])) (ap left_over one.0) (once_leads (a.1 ∷ []) (b.1 ∷ []) (one_same a.1 b.1 one.1)))

  once_intros : (l : Label) (xs : List (List ℕ)) → AreOnce (effect D l (intros xs) s) (effect D l (intros xs) u)
  once_intros l xs =
      once_unless (clashing_names [] xs s) (clashing_names [] xs u) _ _ (sym (clashing_names_told f [] xs s))
      (once_finds wrong_shape (taken_off (form_of s.conclusion)) (taken_off (form_of u.conclusion)) (λ o. o) (taken_off_told f s.conclusion) (λ o. introducing D xs s) (λ o. introducing D xs u) (λ o e. once_introducing xs))

  -- the goal with another conclusion
  proving_also : (F : Read) → named (proving F s) ≡ named (proving (renumber f F) u)
  proving_also F = also (proving F s) refl

  once_split : (l : Label) → AreOnce (effect D l split s) (effect D l split u)
  once_split l =
      once_finds wrong_shape (as_both s.conclusion) (as_both u.conclusion) _ (as_both_told f s.conclusion) _ _
      (λ p e. once_leads _ _ (two_same (proving p.0 s) (proving (renumber f p.0) u) (proving p.1 s) (proving (renumber f p.1) u) (proving_also p.0) (proving_also p.1)))

  all_proving : (Fs : List Read) → map named (map (λ F. proving F s) Fs) ≡ map named (map (λ F. proving F u) (map (renumber f) Fs))
  all_proving [] = refl
  all_proving (F ∷ Fs) = ap (λ g. g ∷ map named (map (λ F. proving F s) Fs)) (proving_also F) ∙ ap (λ l. named (proving (renumber f F) u) ∷ l) (all_proving Fs)

  once_split_all : (l : Label) → AreOnce (effect D l split_all s) (effect D l split_all u)
  once_split_all l =
      once_finds wrong_shape (as_both s.conclusion) (as_both u.conclusion) _ (as_both_told f s.conclusion) _ _
      (λ p e. once_leads _ _ (all_proving (conjuncts s.conclusion) ∙ ap (λ Fs. map named (map (λ F. proving F u) Fs)) (sym (conjuncts_told f s.conclusion))))

  once_left : (l : Label) → AreOnce (effect D l left s) (effect D l left u)
  once_left l =
      once_finds wrong_shape (as_either s.conclusion) (as_either u.conclusion) _ (as_either_told f s.conclusion) _ _
      (λ p e. once_leads _ _ (one_same (proving p.0 s) (proving (renumber f p.0) u) (proving_also p.0)))

  once_right : (l : Label) → AreOnce (effect D l right s) (effect D l right u)
  once_right l =
      once_finds wrong_shape (as_either s.conclusion) (as_either u.conclusion) _ (as_either_told f s.conclusion) _ _
      (λ p e. once_leads _ _ (one_same (proving p.1 s) (proving (renumber f p.1) u) (proving_also p.1)))

  -- a term is read
  once_reading : (e : Tree) (A : Ty) (k j : Read → Row) → ((t v : Read) → v ≡ renumber f t → AreOnce (k t) (j v)) → AreOnce (reading D s e A k) (reading D u e A j)
  once_reading e A k j once =
      once_makes _ _ _ _ k j (meaning_or_not D s u is its same e A) (λ g v m n. not_or_means D s u is its same e A v g m n) (cause_alike D s u is its same e A) (λ t v m n. once t v (same_meaning D s u r same e A t v m n))

  once_exists : (l : Label) (e : Tree) → AreOnce (effect D l (exists e) s) (effect D l (exists e) u)
  once_exists l e =
      once_finds wrong_shape (as_exists s.conclusion) (as_exists u.conclusion) _ (as_exists_told f s.conclusion) _ _
      (λ q d. once_reading e q.0 _ _
      (λ t v same. once_leads _ _ (one_same (proving (instance q.1 t) s) (proving (instance (renumber f q.1) v) u)
      (proving_also (instance q.1 t) ∙ ap (λ F. named (proving F u)) (translate-instance f (λ h. h) q.1 t ∙ ap (instance (renumber f q.1)) (sym same))))))

  -- a formula is stated, and gets a name
  once_naming : (l : Label) (k j : List ℕ → Sequent → Row) → ((x y : List ℕ) (t v : Sequent) → Names l s x t → Names l u y v → AreOnce (k x t) (j y v)) → AreOnce (naming l s k) (naming l u j)
  once_naming l k j once =
      once_makes _ _ _ _ _ _
      (λ a g m n. never_named l s a.0 a.1 m (nameless_also u s (sym same) l n.0))
      (λ g b m n. never_named l u b.0 b.1 n (nameless_also s u same l m.0))
      (λ g h m n. m.1 ∙ sym n.1)
      (λ a b m n. once a.0 b.0 a.1 b.1 m n)

  once_assert : (l : Label) (e : Tree) → AreOnce (effect D l (assert e) s) (effect D l (assert e) u)
  once_assert l e =
      once_unless (clashing l s) (clashing l u) _ _ (sym (clashing_told f l s))
      (once_makes _ _ _ _ _ _ (states_or_not D s u is its same e) (λ g F m n. not_or_states D s u is its same e F g m n) (faults_alike D s u is its same e)
      (λ F G m n.
      let one : G ≡ renumber f F = same_meaning D s u r same e prop F G m.0 n.0 in
      once_naming l (λ x t. leads (proving F s ∷ assuming x F t ∷ [])) (λ y v. leads (proving G u ∷ assuming y G v ∷ []))
      (λ x y t v a b.
      let so = names_alike s u same l x y t v a b in
      once_leads _ _
      (two_same (proving F s) (proving G u) (assuming x F t) (assuming y G v) (proving_also F ∙ ap (λ H. named (proving H u)) (sym one))
      (assumed_alike s u t v x y F G so.name so.goals so.first so.second (formula_named f s names F ∙ ap (with_names (map (renumber_variable f) s.variables)) (sym one)))))))

  once_clear : (l : Label) (Hs : List (List ℕ)) → AreOnce (effect D l (clear Hs) s) (effect D l (clear Hs) u)
  once_clear l Hs =
      once_unless (missing Hs s) (missing Hs u) _ _ (sym (missing_told f Hs s))
      (once_leads _ _ (one_same (cleared Hs s) (cleared Hs u) (also (cleared Hs s) (cleared_variables f Hs s) ∙ ap named (sym (cleared_told f Hs s)))))

  once_rename : (l : Label) (H x : List ℕ) → AreOnce (effect D l (rename H x) s) (effect D l (rename H x) u)
  once_rename l H x =
      once_unless (clashing (given x) s) (clashing (given x) u) _ _ (sym (clashing_told f (given x) s))
      (once_finds (no_hypothesis H) (formula_of s H) (formula_of u H) (renumber f) (formula_told f s H) _ _
      (λ F e. once_leads _ _
      (one_same (assuming x F (without H s)) (assuming x (renumber f F) (without H u))
      (assumed_alike s u (without H s) (without H u) x x F (renumber f F) refl (also (without H s) refl ∙ ap named (sym (without_told f H s))) refl refl (formula_named f s names F)))))

  -- the conclusion is unfolded
  once_unfold : (l : Label) → AreOnce (effect D l unfold_goal s) (effect D l unfold_goal u)
  once_unfold l =
      once_finds wrong_shape (subject_of D s.conclusion) (subject_of D u.conclusion) (moved_subject f) (subject_moved f D s.conclusion) _ _
      (λ x is_subject.
      let y = moved_subject f x in
      let subjects = same_subject s.conclusion first.conclusion second.conclusion x is_subject in
      subst (λ m. AreOnce (unfolding_row s x) (marked_so (MayBeUnfolded m) (makes {A = Sequent} (IsUnfolded u y) (IsNotUnfolded u y) (λ t. leads (t ∷ []))))) (sym (same_sign x))
      (once_marked (MayBeUnfolded (sign_of x)) _ _
      (once_makes (IsUnfolded s x) (IsNotUnfolded s x) (IsUnfolded u y) (IsNotUnfolded u y) (λ t. leads (t ∷ [])) (λ t. leads (t ∷ []))
      (λ t c m n. unfolded_or_not D s u x y subjects t c m n)
      (λ c t m n. not_unfolded D s u x y subjects t c m n)
      (λ c k m n. one_cause D s u x y subjects c k m n)
      (λ t v m n. once_leads (t ∷ []) (v ∷ []) (one_same t v (unfolded_once D s u x y subjects t v m n))))))
    where
      unfolding_row : Sequent → Subject → Row
      unfolding_row goal z = marked_so (MayBeUnfolded (sign_of z)) (makes {A = Sequent} (IsUnfolded goal z) (IsNotUnfolded goal z) (λ t. leads (t ∷ [])))

  -- a judgement is cut by another, gets terms for its constants, or a longer list

  once_assumed : (l : Label) (F G : Read) → G ≡ renumber f F → AreOnce (naming l s (λ name t. leads (assuming name F t ∷ []))) (naming l u (λ name t. leads (assuming name G t ∷ [])))
  once_assumed l F G e =
      once_naming l (λ x t. leads (assuming x F t ∷ [])) (λ y v. leads (assuming y G v ∷ []))
      (λ x y t v a b.
      let so = names_alike s u same l x y t v a b in
      once_leads _ _
      (one_same (assuming x F t) (assuming y G v)
      (assumed_alike s u t v x y F G so.name so.goals so.first so.second (formula_named f s names F ∙ ap (with_names (map (renumber_variable f) s.variables)) (sym e)))))

  -- list and goal of a hypothesis hold the goal's variables alone
  judged_closed : (H : List ℕ) (F : Read) (p : Read × Read) → formula_of s H ≡ Some F → as_unfocused F ≡ Some p → HoldsOnly s.variables p.0 × HoldsOnly s.variables p.1
  judged_closed H F p there is_one =
      let may = found_may D (goal_names s) s H F first there in
      let P : tree.Variable ℕ → Type 0 = Contains (map in_terms s.variables) in
      let known : Known P (goal_names s) F = record { over = λ y c. All-contains P (variables F) y may.closed c; names = may.names } in
      let k = unfocused_known (signature_in D) P (goal_names s) F p is_one may.formula.typed known in
      (All-from_contains P (variables p.0) k.0.known.over, All-from_contains P (variables p.1) k.1.known.over)

  once_cut : (l : Label) (H K : List ℕ) → AreOnce (effect D l (cut H K) s) (effect D l (cut H K) u)
  once_cut l H K =
      once_unless (clashing l s) (clashing l u) _ _ (sym (clashing_told f l s))
      (once_finds (no_hypothesis H) (formula_of s H) (formula_of u H) (renumber f) (formula_told f s H) _ _
      (λ F first_there. once_finds (no_hypothesis K) (formula_of s K) (formula_of u K) (renumber f) (formula_told f s K) _ _
      (λ G second_there. once_finds wrong_shape (as_unfocused F) (as_unfocused (renumber f F)) (pair_told f) (unfocused_told f F) _ _
      (λ p first_is. once_finds wrong_shape (as_unfocused G) (as_unfocused (renumber f G)) (pair_told f) (unfocused_told f G) _ _
      (λ q second_is.
      let m = judged_closed H F p first_there first_is in
      let n = judged_closed K G q second_there second_is in
      once_finds no_match (cut_list p.0 q.1 q.0) (cut_list (renumber f p.0) (renumber f q.1) (renumber f q.0)) (renumber f) (cut_told D f s is names p.0 q.1 q.0 m.0 n.1 n.0) _ _
      (λ L left. once_assumed l (marked_judgement plain L p.1) (marked_judgement plain (renumber f L) (renumber f p.1)) refl))))))

  once_reading_for : (known names_of_it : List Nominal) (es : List Instance) (k j : List (Nominal × Read) → Row) → ((rs : List (Nominal × Read)) → AreOnce (k rs) (j (map (replacement_told f) rs)))
      → AreOnce (reading_for D s known names_of_it es k) (reading_for D u known names_of_it es j)
  once_reading_for known ns [] k j once = once []
  once_reading_for known ns (e ∷ es) k j once =
      once_finds (unknown e.name) (constant_in ns e.name) (constant_in ns e.name) (λ a. a) (sym (mapped_same (constant_in ns e.name))) (here k s) (here j u)
      (λ a found.
      once_makes (MeansIn D (scope_with D s known) e.term a.type) (MeansNothingIn (scope_with D s known) e.term a.type) (MeansIn D (scope_with D u known) e.term a.type) (MeansNothingIn (scope_with D u known) e.term a.type)
      (next k s a) (next j u a)
      (λ t c m n. meaning_or_not_with D s u is its same e.term known a.type t c m n)
      (λ c t m n. not_or_meaning_with D s u is its same e.term known a.type t c m n)
      (λ c d m n. cause_alike_with D s u is its same e.term known a.type c d m n)
      (λ t v m n.
      let value : v ≡ renumber f t = same_meaning_with D s u r same known e.term a.type t v m n in
      let rest : AreOnce (next k s a t) (reading_for D u (known ++ support t) ns es (λ rs. j ((a, renumber f t) ∷ rs))) =
      once_reading_for (known ++ support t) ns es (λ rs. k ((a, t) ∷ rs)) (λ rs. j ((a, renumber f t) ∷ rs)) (λ rs. once ((a, t) ∷ rs)) in
      subst (λ w. AreOnce (next k s a t) (next j u a w)) (sym value)
      (subst (λ l. AreOnce (next k s a t) (reading_for D u (known ++ l) ns es (λ rs. j ((a, renumber f t) ∷ rs)))) (sym (support-translate f (λ (h : List ℕ). h) t)) rest)))
    where
      next : (List (Nominal × Read) → Row) → Sequent → Nominal → Read → Row
      next c q a t = reading_for D q (known ++ support t) ns es (λ rs. c ((a, t) ∷ rs))

      here : (List (Nominal × Read) → Row) → Sequent → Nominal → Row
      here c q a = makes {A = Read} (MeansIn D (scope_with D q known) e.term a.type) (MeansNothingIn (scope_with D q known) e.term a.type) (next c q a)

  abbrev replaced_row : Label → Sequent → Read → List (Nominal × Read) → Row
  replaced_row l goal G rs = naming l goal (λ name t. leads (assuming name (replace_constants rs G) t ∷ []))

  once_replacing : (l : Label) (es : List Instance) (G : Read)
      → AreOnce (unless (no_constant (support G) es) (reading_for D s [] (support G) es (replaced_row l s G)))
      (unless (no_constant (support (renumber f G)) es) (reading_for D u [] (support (renumber f G)) es (replaced_row l u (renumber f G))))
  once_replacing l es G =
      subst (λ ns. AreOnce (unless (no_constant (support G) es) (reading_for D s [] (support G) es (replaced_row l s G))) (unless (no_constant ns es) (reading_for D u [] ns es (replaced_row l u (renumber f G)))))
      (sym (support-translate f (λ (h : List ℕ). h) G))
      (once_unless (no_constant (support G) es) (no_constant (support G) es) _ _ refl
      (once_reading_for [] (support G) es (replaced_row l s G) (replaced_row l u (renumber f G))
      (λ rs. once_assumed l (replace_constants rs G) (replace_constants (map (replacement_told f) rs) (renumber f G)) (sym (replaced_told f rs G)))))

  once_inst : (l : Label) (H : List ℕ) (es : List Instance) → AreOnce (effect D l (inst H es) s) (effect D l (inst H es) u)
  once_inst l H es =
      let twice : Option Refusal = if given_twice es then Some wrong_shape else None in
      once_unless (clashing l s) (clashing l u) _ _ (sym (clashing_told f l s))
      (once_finds (no_hypothesis H) (formula_of s H) (formula_of u H) (renumber f) (formula_told f s H) _ _
      (λ F there. once_finds wrong_shape (as_unfocused F) (as_unfocused (renumber f F)) (pair_told f) (unfocused_told f F) _ _
      (λ p is_one. once_unless twice twice _ _ refl (once_replacing l es (marked_judgement plain p.0 p.1)))))

  once_monotone : (l : Label) (H : List ℕ) (e : Tree) → AreOnce (effect D l (monotone H e) s) (effect D l (monotone H e) u)
  once_monotone l H e =
      once_unless (clashing l s) (clashing l u) _ _ (sym (clashing_told f l s))
      (once_reading e olist _ _
      (λ K M list.
      once_finds (no_hypothesis H) (formula_of s H) (formula_of u H) (renumber f) (formula_told f s H) _ _
      (λ F there. once_finds wrong_shape (as_unfocused F) (as_unfocused (renumber f F)) (pair_told f) (unfocused_told f F) _ _
      (λ p is_one.
      let E : Read = is_within p.0 K in
      let N : Read = is_within (renumber f p.0) M in
      let G : Read = marked_judgement plain K p.1 in
      let J : Read = marked_judgement plain M (renumber f p.1) in
      let within : N ≡ renumber f E = ap (is_within (renumber f p.0)) list ∙ sym (within_told f p.0 K) in
      let judged : J ≡ renumber f G = ap (λ L. marked_judgement plain L (renumber f p.1)) list in
      once_naming l (λ x t. leads (proving E s ∷ assuming x G t ∷ [])) (λ y v. leads (proving N u ∷ assuming y J v ∷ []))
      (λ x y t v a b.
      let so = names_alike s u same l x y t v a b in
      once_leads _ _
      (two_same (proving E s) (proving N u) (assuming x G t) (assuming y J v) (proving_also E ∙ ap (λ C. named (proving C u)) (sym within))
      (assumed_alike s u t v x y G J so.name so.goals so.first so.second (formula_named f s names G ∙ ap (with_names (map (renumber_variable f) s.variables)) (sym judged)))))))))

  -- formulas are assumed, by their names, and another one is proved
  assumed_told : (x : List ℕ) (F : Read) (v : Sequent) → renumbered f (assuming x F v) ≡ assuming x (renumber f F) (renumbered f v)
  assumed_told x F v =
      ap (λ hs. record { variables = map (renumber_variable f) v.variables; hypotheses = hs; conclusion = renumber f v.conclusion; counter = v.counter })
      (map-append (renumber_hypothesis f) v.hypotheses (record { name = x; formula = F } ∷ []))

  once_hypotheses : (word : List ℕ) (Fs : List Read) (l : Label) (v : Sequent) → v.variables ≡ s.variables → (k j : Sequent → Row)
      → ((t : Sequent) → t.variables ≡ s.variables → AreOnce (k t) (j (renumbered f t)))
      → AreOnce (hypotheses_named word l Fs v k) (hypotheses_named word l (map (renumber f) Fs) (renumbered f v) j)
  once_hypotheses word [] l v e k j once = once v e
  once_hypotheses word (F ∷ Fs) l v e k j once =
      let w = renumbered f v in
      let more : List ℕ → Row = λ x. hypotheses_named word auto Fs (assuming x F v) k in
      let told : Sequent → Row = λ t. hypotheses_named word auto (map (renumber f) Fs) t j in
      once_makes (IsNamedBy word l v) (λ c. ⊥) (IsNamedBy word l w) (λ c. ⊥) more (λ y. told (assuming y (renumber f F) w))
      (λ x c m n. n) (λ c x m n. m) (λ c d m n. absurd m)
      (λ x y m n.
      subst (λ z. AreOnce (more x) (told (assuming z (renumber f F) w))) (named_by_once word l v w (also v e) x y m n)
      (subst (λ t. AreOnce (more x) (told t)) (assumed_told x F v) (once_hypotheses word Fs auto (assuming x F v) e k j once)))

  once_sized : (word : List ℕ) (l : Label) (Fs Gs : List Read) (C E : Read) → Gs ≡ map (renumber f) Fs → E ≡ renumber f C
      → AreOnce (hypotheses_named word l Fs s (λ t. leads (proving C t ∷ []))) (hypotheses_named word l Gs u (λ t. leads (proving E t ∷ [])))
  once_sized word l Fs Gs C E hypotheses_are conclusion_is =
      subst (λ Hs. AreOnce (hypotheses_named word l Fs s (λ t. leads (proving C t ∷ []))) (hypotheses_named word l Hs u (λ t. leads (proving E t ∷ [])))) (sym hypotheses_are)
      (once_hypotheses word Fs l s refl (λ t. leads (proving C t ∷ [])) (λ t. leads (proving E t ∷ []))
      (λ t e. once_leads _ _ (one_same (proving C t) (proving E (renumbered f t)) (also (proving C t) e ∙ ap (λ G. named (proving G (renumbered f t))) (sym conclusion_is)))))

  once_induction : (l : Label) (ns : List ℕ) → AreOnce (effect D l (induction ns) s) (effect D l (induction ns) u)
  once_induction l ns =
      let Fs = conjuncts s.conclusion in
      let Gs = conjuncts u.conclusion in
      let i = next_level inductive_level s in
      let told : (m : Sign) → marked_antecedents ns m Gs ≡ map (renumber f) (marked_antecedents ns m Fs) = λ m. ap (marked_antecedents ns m) (conjuncts_told f s.conclusion) ∙ marked_antecedents_told f ns m Fs in
      once_unless (clashing l s) (clashing l u) _ _ (sym (clashing_told f l s))
      (once_finds wrong_shape (inductive_signs D ns Fs) (inductive_signs D ns Gs) (λ ms. ms)
      (ap (inductive_signs D ns) (conjuncts_told f s.conclusion) ∙ inductive_signs_told f D ns Fs ∙ sym (mapped_same (inductive_signs D ns Fs))) _ _
      (λ ms e. once_marked (All (λ m. m ≡ plain) ms) _ _
      (once_sized (codes "IH") l _ _ _ _
      (ap (λ n. marked_antecedents ns (star_of n) Gs) (level_told f inductive_level s) ∙ told (star_of i))
      (ap (λ n. with_parts (marked_antecedents ns (at_of n) Gs) u.conclusion) (level_told f inductive_level s)
      ∙ ap (λ Hs. with_parts Hs u.conclusion) (told (at_of i)) ∙ with_parts_told f (marked_antecedents ns (at_of i) Fs) s.conclusion))))

  once_coinduction : (l : Label) → AreOnce (effect D l coinduction s) (effect D l coinduction u)
  once_coinduction l =
      let Fs = conjuncts s.conclusion in
      let Gs = conjuncts u.conclusion in
      let i = next_level coinductive_level s in
      let told : (m : Sign) → marked_consequents m Gs ≡ map (renumber f) (marked_consequents m Fs) = λ m. ap (marked_consequents m) (conjuncts_told f s.conclusion) ∙ marked_consequents_told f m Fs in
      once_unless (clashing l s) (clashing l u) _ _ (sym (clashing_told f l s))
      (once_finds wrong_shape (coinductive_signs D Fs) (coinductive_signs D Gs) (λ ms. ms)
      (ap (coinductive_signs D) (conjuncts_told f s.conclusion) ∙ coinductive_signs_told f D Fs ∙ sym (mapped_same (coinductive_signs D Fs))) _ _
      (λ ms e. once_marked (All (λ m. m ≡ plain) ms) _ _
      (once_sized (codes "CH") l _ _ _ _
      (ap (λ n. marked_consequents (plus_of n) Gs) (level_told f coinductive_level s) ∙ told (plus_of i))
      (ap (λ n. with_parts (marked_consequents (hash_of n) Gs) u.conclusion) (level_told f coinductive_level s)
      ∙ ap (λ Hs. with_parts Hs u.conclusion) (told (hash_of i)) ∙ with_parts_told f (marked_consequents (hash_of i) Fs) s.conclusion))))

  -- constants change places
  constants : goal_names s ≡ goal_names u
  constants = same_constants s u same

  once_of_one_type : (ns : List ℕ) (k j : Row) → AreOnce k j → AreOnce (of_one_type ns s k) (of_one_type ns u j)
  once_of_one_type ns k j once =
      once_makes {A = Unit {0}} {B = Unit {0}} (λ x. MayCycle ns (goal_names s)) (λ c. (¬ MayCycle ns (goal_names s)) × (c ≡ type_clash 0))
      (λ x. MayCycle ns (goal_names u)) (λ c. (¬ MayCycle ns (goal_names u)) × (c ≡ type_clash 0)) (λ x. k) (λ x. j)
      (λ x g p n. n.0 (subst (MayCycle ns) constants p)) (λ g x n q. n.0 (subst (MayCycle ns) (sym constants) q)) (λ g h m n. m.1 ∙ sym n.1) (λ x y p q. once)

  once_cycling : (ns : List ℕ) (k j : List (Nominal × Nominal) → Row) → ((ps : List (Nominal × Nominal)) → AreOnce (k ps) (j ps)) → AreOnce (cycling ns s k) (cycling ns u j)
  once_cycling ns k j once =
      once_finds wrong_shape (type_among ns (goal_names s)) (type_among ns (goal_names u)) (λ A. A) (ap (type_among ns) (sym constants) ∙ sym (mapped_same (type_among ns (goal_names s))))
      (λ A. k (cycle A ns)) (λ A. j (cycle A ns)) (λ A e. once (cycle A ns))

  permuted_told : (ps : List (Nominal × Nominal)) (t : Read) → renumber f (constant.permute ps t) ≡ constant.permute ps (renumber f t)
  permuted_told ps t = translate-rename f (λ h. h) (moved_by ps) t

  once_permute_conclusion : (l : Label) (ns : List ℕ) → AreOnce (effect D l (permute ns None) s) (effect D l (permute ns None) u)
  once_permute_conclusion l ns =
      once_of_one_type ns _ _
      (once_cycling ns (λ ps. leads (proving (constant.permute ps s.conclusion) s ∷ [])) (λ ps. leads (proving (constant.permute ps u.conclusion) u ∷ []))
      (λ ps. once_leads _ _
      (one_same (proving (constant.permute ps s.conclusion) s) (proving (constant.permute ps u.conclusion) u)
      (proving_also (constant.permute ps s.conclusion) ∙ ap (λ F. named (proving F u)) (permuted_told ps s.conclusion)))))

  once_permute_hypothesis : (l : Label) (ns H : List ℕ) → AreOnce (effect D l (permute ns (Some H)) s) (effect D l (permute ns (Some H)) u)
  once_permute_hypothesis l ns H =
      once_of_one_type ns _ _
      (once_finds (no_hypothesis H) (formula_of s H) (formula_of u H) (renumber f) (formula_told f s H) _ _
      (λ F e. once_cycling ns (λ ps. leads (assuming H (constant.permute ps F) (without H s) ∷ [])) (λ ps. leads (assuming H (constant.permute ps (renumber f F)) (without H u) ∷ []))
      (λ ps. once_leads _ _
      (one_same (assuming H (constant.permute ps F) (without H s)) (assuming H (constant.permute ps (renumber f F)) (without H u))
      (assumed_alike s u (without H s) (without H u) H H (constant.permute ps F) (constant.permute ps (renumber f F)) refl (also (without H s) refl ∙ ap named (sym (without_told f H s))) refl refl
      (formula_named f s names (constant.permute ps F) ∙ ap (with_names (map (renumber_variable f) s.variables)) (permuted_told ps F)))))))

  once_renumbered : HasLists D → HaveSentences D → (l : Label) (command : ProofCommand) → AreOnce (effect D l command s) (effect D l command u)
  once_renumbered lists sentences l (intros xs) = once_intros l xs
  once_renumbered lists sentences l (case H keep) = once_case l H keep
  once_renumbered lists sentences l split = once_split l
  once_renumbered lists sentences l split_all = once_split_all l
  once_renumbered lists sentences l left = once_left l
  once_renumbered lists sentences l right = once_right l
  once_renumbered lists sentences l (exists e) = once_exists l e
  once_renumbered lists sentences l (assert e) = once_assert l e
  once_renumbered lists sentences l (clear Hs) = once_clear l Hs
  once_renumbered lists sentences l (rename H x) = once_rename l H x
  once_renumbered lists sentences l (induction ns) = once_induction l ns
  once_renumbered lists sentences l coinduction = once_coinduction l
  once_renumbered lists sentences l (apply H vs ws) = once_apply D lists sentences s f is its names l H vs ws
  once_renumbered lists sentences l (backchain H ws) = once_backchain D lists sentences s f is its names l H ws
  once_renumbered lists sentences l (cut H K) = once_cut l H K
  once_renumbered lists sentences l (inst H ws) = once_inst l H ws
  once_renumbered lists sentences l (monotone H e) = once_monotone l H e
  once_renumbered lists sentences l (search n) = once_alone (Some wrong_shape)
  once_renumbered lists sentences l skip = once_leads [] [] refl
  once_renumbered lists sentences l unfold_goal = once_unfold l
  once_renumbered lists sentences l (permute ns None) = once_permute_conclusion l ns
  once_renumbered lists sentences l (permute ns (Some H)) = once_permute_hypothesis l ns H

-- EACH PROOF COMMAND has one answer in goals that are one with names for numbers
pub once : (D : Declarations) → HasLists D → HaveSentences D → HaveDefinitions D → HavePrograms D → HasMember (signature_in D) → (s u : Sequent) → IsSequent D s → IsSequent D u → named s ≡ named u → (l : Label) (command : ProofCommand) → AreOnce (effect D l command s) (effect D l command u)
once D lists sentences definitions programs has s u is its same l command =
    let r = renumbering D s u is its same in
    let names : KeepsNames r.by s.variables = subst (λ (v : Sequent). (n : ℕ) → name_in v.variables (r.by n) ≡ name_in s.variables n) r.is r.names in
    subst (λ v. AreOnce (effect D l command s) (effect D l command v)) (sym r.is) (once_renumbered D definitions programs has s r.by is (subst (IsSequent D) r.is its) names lists sentences l command)
