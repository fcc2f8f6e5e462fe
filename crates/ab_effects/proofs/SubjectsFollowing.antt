-- The cases into which a subject splits a goal, and the ways to unfold one, with other numbers.
use Rattle.std.specs.Prelude.{All, Contains, IfSome}
use Rattle.std.proofs.Common.{◌≡◌, ℕ, suc, ◌+◌, List, [], ◌∷◌, ◌++◌, map, length, Some, refl, sym, ◌∙◌, ap, subst, arith}
use Rattle.std.proofs.lemmas.List.Elements.{All-contains, All-weaker}
use Rattle.ab_term.specs.Translation.{translate_variable}
use Rattle.ab_term.specs.Terms.{Nominal, Read}
use Rattle.ab_term.proofs.Lists.{Contains-here, Contains-there}
use Rattle.ab_term.proofs.Translations.{map-append}
use Rattle.ab_unifiers.specs.Replacements.{Cell}
use Rattle.ab_unifiers.specs.Clauses.{Each, IsClause, numbered}
use Rattle.ab_unifiers.proofs.Changes.{agreeing, extended}
use Rattle.ab_formulas.specs.Declarations.{Declarations, IsDefining, HaveDefinitions, signature_in}
use Rattle.ab_formulas.specs.Programs.{program_in, HavePrograms}
use Rattle.ab_formulas.specs.Sequents.{Sequent, in_terms, goal_names, assuming, proving}
use Rattle.ab_formulas.specs.BodyMarks.{mark_below, mark_above}
use Rattle.ab_theory.specs.Atoms.{Defined, defined_atom, choices_of}
use Rattle.ab_theory.specs.Analysis.{case_of}
use Rattle.ab_theory.specs.Judgements.{Judgement}
use Rattle.ab_theory.specs.SpecRules.{SpecRule, demand_of}
use Rattle.ab_theory.specs.JudgementCases.{judgement_case, judgement_unfolding}
use Rattle.ab_theory.specs.Subjects.{Subject, an_atom, a_judgement, subject_of, cases_by, Way, way_by_choice, way_by_rule, ways_of}
use Rattle.ab_theory.proofs.Sized.{atom_of}
use Rattle.ab_theory.proofs.SubjectParts.{IsSubject, subject_is}
use Rattle.ab_effects.specs.Judgements.{renumbered_judgement, renumbered_rule, IsClosedRule}
use Rattle.ab_effects.proofs.Carrying.{GoOn, at_once}
use Rattle.ab_effects.proofs.Renumbered.{moved_goal}
use Rattle.ab_effects.proofs.Outcomes.{flexible_moved}
use Rattle.ab_effects.proofs.Arising.{Follows}
use Rattle.ab_effects.proofs.Following.{IsGood, choices_good, moved_atom, goal_names_moved, choices_moved, assuming_moved, case_follows, unfolding_follows}
use Rattle.ab_effects.proofs.MovedRules.{demand_moved}
use Rattle.ab_effects.proofs.SameRules.{closed_rules}
use Rattle.ab_effects.proofs.MovedSubjects.{moved_subject}

pub each_by : {X Y Z : Type 0} (R : X → Y → Type 0) (p : Z → X) (q : Z → Y) (zs : List Z) → ((z : Z) → Contains zs z → R (p z) (q z)) → Each R (map p zs) (map q zs)
each_by R p q [] a = tt
each_by R p q (z ∷ zs) a = (a z (Contains-here z zs), each_by R p q zs (λ y m. a y (Contains-there z zs y m)))

pub each_by_two : {X Y Z W : Type 0} (R : X → Y → Type 0) (p : Z → X) (q : W → Y) (h : Z → W) (zs : List Z) → ((z : Z) → Contains zs z → R (p z) (q (h z))) → Each R (map p zs) (map q (map h zs))
each_by_two R p q h [] a = tt
each_by_two R p q h (z ∷ zs) a = (a z (Contains-here z zs), each_by_two R p q h zs (λ y m. a y (Contains-there z zs y m)))

-- its clauses are well made, or its rules closed
abbrev pub IsGoodSubject : Subject → Type 0
IsGoodSubject (an_atom d) = (held : List Nominal) → All IsGood (choices_of held d)
IsGoodSubject (a_judgement j rs) = All IsClosedRule rs

module _ (D : Declarations) (definitions : HaveDefinitions D) (programs : HavePrograms D) where
  good_atom : (F : Read) (d : Defined) → defined_atom D F ≡ Some d → IsGoodSubject (an_atom d)
  good_atom F d is held =
      choices_good (signature_in D) held d
      (All-weaker (IsDefining (signature_in D)) (IsClause (signature_in D)) (λ c well. well.clause) d.block.clauses (definitions d.predicate d.block (atom_of D F d is).block))

  good : (F : Read) (x : Subject) → IsSubject D F x → IsGoodSubject x
  good F (an_atom d) is = good_atom F d is
  good F (a_judgement j rs) is = subst (λ o. IfSome o (All IsClosedRule)) is.1 (closed_rules (signature_in D) (program_in D) programs j)

  pub good_subject : (F : Read) (x : Subject) → subject_of D F ≡ Some x → IsGoodSubject x
  good_subject F x e = good F x (subject_is D F x e)

module _ (f : ℕ → ℕ) where
  suc_on : (n m : ℕ) → GoOn f n m → GoOn f (suc n) (suc m)
  suc_on n m on k =
      let before : suc n + k ≡ n + (1 + k) = omega arith in
      let behind : m + (1 + k) ≡ suc m + k = omega arith in
      ap f before ∙ on (1 + k) ∙ behind

  pub numbered_on : (n m : ℕ) (cs : List (Cell (List ℕ))) → GoOn f n m → map (translate_variable f) (numbered n cs) ≡ numbered m cs
  numbered_on n m [] on = refl
  numbered_on n m (c ∷ cs) on =
      ap (λ i. record { name = i; type = c.type } ∷ map (translate_variable f) (numbered (suc n) cs)) (at_once f n m on)
      ∙ ap (λ l. record { name = m; type = c.type } ∷ l) (numbered_on (suc n) (suc m) cs (suc_on n m on))

  module _ (goal rest : Sequent) (name : List ℕ) (j : Judgement) (r : SpecRule) (closed : IsClosedRule r) where
    pub judgement_case_follows : Follows f (judgement_case goal rest name j r) (judgement_case (moved_goal f goal) (moved_goal f rest) name (renumbered_judgement f j) (renumbered_rule f r))
    judgement_case_follows cells others n =
        let m = mark_below j.sign in
        let d = demand_of (length cells) m j r in
        let e = demand_of (length others) m (renumbered_judgement f j) (renumbered_rule f r) in
        let same = demand_moved f (agreeing f n.different) (length cells) (length others) n.behind m j r closed in
        let further = extended f cells others d.passing n in
        record {
          new = d.passing;
          before_first = refl;
          before_second = ap (λ l. others ++ l) same.passing;
          own = same.own;
          equations = same.equations;
          flexible =
              map-append (translate_variable f) (map in_terms goal.variables) (numbered (length (cells ++ d.passing)) d.own)
              ∙ ap (λ l. l ++ map (translate_variable f) (numbered (length (cells ++ d.passing)) d.own)) (flexible_moved f goal.variables)
              ∙ ap (λ l. map in_terms (moved_goal f goal).variables ++ l) (numbered_on (length (cells ++ d.passing)) (length (others ++ d.passing)) d.own further.behind)
              ∙ ap (λ l. map in_terms (moved_goal f goal).variables ++ numbered (length (others ++ l)) d.own) (sym same.passing)
              ∙ ap (λ l. map in_terms (moved_goal f goal).variables ++ numbered (length (others ++ e.passing)) l) (sym same.own);
          goal = assuming_moved f name d.body rest ∙ ap (λ F. assuming name F (moved_goal f rest)) same.body;
        }

  module _ (s : Sequent) (j : Judgement) (r : SpecRule) (closed : IsClosedRule r) where
    judgement_unfolding_follows : Follows f (judgement_unfolding s j r) (judgement_unfolding (moved_goal f s) (renumbered_judgement f j) (renumbered_rule f r))
    judgement_unfolding_follows cells others n =
        let m = mark_above j.sign in
        let d = demand_of (length cells) m j r in
        let e = demand_of (length others) m (renumbered_judgement f j) (renumbered_rule f r) in
        let same = demand_moved f (agreeing f n.different) (length cells) (length others) n.behind m j r closed in
        let further = extended f cells others d.passing n in
        record {
          new = d.passing;
          before_first = refl;
          before_second = ap (λ l. others ++ l) same.passing;
          own = same.own;
          equations = same.equations;
          flexible =
              numbered_on (length (cells ++ d.passing)) (length (others ++ d.passing)) d.own further.behind
              ∙ ap (λ l. numbered (length (others ++ l)) d.own) (sym same.passing)
              ∙ ap (numbered (length (others ++ e.passing))) (sym same.own);
          goal = ap (λ F. proving F (moved_goal f s)) same.body;
        }

  -- THE CASES
  pub cases_follow : (goal rest : Sequent) (name : List ℕ) (x : Subject) → IsGoodSubject x → Each (Follows f) (cases_by goal rest name x) (cases_by (moved_goal f goal) (moved_goal f rest) name (moved_subject f x))
  cases_follow goal rest name (an_atom d) good =
      let chs = choices_of (goal_names goal) d in
      let same : chs ≡ choices_of (goal_names (moved_goal f goal)) (moved_atom f d) = sym (choices_moved f (goal_names goal) d) ∙ ap (λ l. choices_of l (moved_atom f d)) (sym (goal_names_moved f goal)) in
      subst (λ l. Each (Follows f) (map (case_of goal rest name d) chs) (map (case_of (moved_goal f goal) (moved_goal f rest) name (moved_atom f d)) l)) same
      (each_by (Follows f) (case_of goal rest name d) (case_of (moved_goal f goal) (moved_goal f rest) name (moved_atom f d)) chs
      (λ c m. case_follows f goal rest name d c (All-contains IsGood chs c (good (goal_names goal)) m)))
  cases_follow goal rest name (a_judgement j rs) good =
      each_by_two (Follows f) (judgement_case goal rest name j) (judgement_case (moved_goal f goal) (moved_goal f rest) name (renumbered_judgement f j)) (renumbered_rule f) rs
      (λ r m. judgement_case_follows goal rest name j r (All-contains IsClosedRule rs r good m))

  -- THE WAYS

  abbrev pub WayFollows : Way → Way → Type 0
  WayFollows w v = Follows f w.case v.case

  pub ways_follow : (s : Sequent) (x : Subject) → IsGoodSubject x → Each WayFollows (ways_of s x) (ways_of (moved_goal f s) (moved_subject f x))
  ways_follow s (an_atom d) good =
      let chs = choices_of (goal_names s) d in
      let second = way_by_choice (moved_goal f s) (moved_atom f d) in
      let same : chs ≡ choices_of (goal_names (moved_goal f s)) (moved_atom f d) = sym (choices_moved f (goal_names s) d) ∙ ap (λ l. choices_of l (moved_atom f d)) (sym (goal_names_moved f s)) in
      subst (λ l. Each WayFollows (map (way_by_choice s d) chs) (map second l)) same
      (each_by WayFollows (way_by_choice s d) second chs (λ c m. unfolding_follows f s d c (All-contains IsGood chs c (good (goal_names s)) m)))
  ways_follow s (a_judgement j rs) good =
      each_by_two WayFollows (way_by_rule s j) (way_by_rule (moved_goal f s) (renumbered_judgement f j)) (renumbered_rule f) rs
      (λ r m. judgement_unfolding_follows s j r (All-contains IsClosedRule rs r good m))
