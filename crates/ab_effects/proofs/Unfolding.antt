-- A way to unfold the conclusion of one goal, over two lists of numbers, has one outcome.
use Rattle.std.specs.Prelude.{All}
use Rattle.std.proofs.Common.{◌≡◌, ℕ, List, [], ◌∷◌, ◌++◌, map, length, drop, refl, sym, ◌∙◌, ap, subst, codes}
use Rattle.std.proofs.lemmas.List.Elements.{All-nil, All-cons}
use Rattle.ab_term.specs.Terms.{Read}
use Rattle.ab_term.specs.Variables.{Substitution, image}
use Rattle.ab_term.specs.Sameness.{same_number}
use Rattle.ab_term.proofs.ImageTranslations.{translate-image}
use Rattle.ab_unifiers.specs.Replacements.{Cell}
use Rattle.ab_unifiers.specs.Clauses.{Each}
use Rattle.ab_unifiers.specs.Unification.{Answer, unified, apart, stuck, Solves}
use Rattle.ab_formulas.specs.Declarations.{Declarations}
use Rattle.ab_formulas.specs.Sequents.{Sequent, goal_names}
use Rattle.ab_formulas.specs.NamedGoals.{with_names, variable_named}
use Rattle.ab_theory.specs.Equations.{AreCells, made}
use Rattle.ab_theory.specs.Splits.{Case, problem_of}
use Rattle.ab_theory.specs.Atoms.{Defined, Choice, choices_of}
use Rattle.ab_theory.specs.SpecRules.{SpecRule}
use Rattle.ab_theory.specs.Judgements.{Judgement}
use Rattle.ab_theory.specs.Subjects.{Subject, an_atom, a_judgement, Way, way_by_choice, way_by_rule, ways_of}
use Rattle.ab_unifiers.specs.Renumbering.{renumbered, renumbered_pairs, IsRenumbering}
use Rattle.ab_unifiers.proofs.Changes.{agreeing}
use Rattle.ab_effects.specs.Likeness.{IsSameSubject, HasItsOutcome}
use Rattle.ab_effects.proofs.Renumbered.{moved_variable, moved_goal, names_kept, with_names_moved}
use Rattle.ab_effects.proofs.Arising.{Moves, never_moved, never_back, open_moved, open_back, solved_moved, solved_back, E, made_answered}
use Rattle.ab_effects.proofs.MovedSubjects.{moved_subject}
use Rattle.ab_effects.proofs.SubjectsFollowing.{WayFollows, ways_follow}
use Rattle.ab_effects.proofs.Splitting.{C, f, g, one, two, goals_meet, subjects_meet, first_good, second_good}

abbrev Cells : Type 0
Cells = List (Cell (List ℕ))

-- two cases that are a third one with other numbers
module _ (s u : Sequent) (F G : ℕ → ℕ) (cells others K : Cells) (R : IsRenumbering F cells K) (Q : IsRenumbering G others K) (meet : moved_goal F s ≡ moved_goal G u)
    (First Second Third : Case) (first_moves : Moves F cells K First Third) (second_moves : Moves G others K Second Third) where
  conclusion_moved : (f : ℕ → ℕ) → ((i j : ℕ) → f i ≡ f j → i ≡ j) → (c d : Case) → moved_goal f c.goal ≡ d.goal → (p : Substitution ℕ (List ℕ))
      → renumbered f (image same_number p c.goal.conclusion) ≡ image same_number (renumbered_pairs f p) d.goal.conclusion
  conclusion_moved f different c d e p =
      translate-image f (λ x. x) same_number same_number (agreeing f different) p c.goal.conclusion
      ∙ ap (λ (q : Sequent). image same_number (renumbered_pairs f p) q.conclusion) e

  -- the answer over the other numbers: the variables that are left open have these names, and the conclusion is the same
  abbrev AnsweredAlso : Cells → Substitution ℕ (List ℕ) → Type 0
  AnsweredAlso more p =
      (most : Cells) × (q : Substitution ℕ (List ℕ)) × Solves (codes "x") (problem_of Second) (unified most q)
      × (map variable_named (made First.before more p) ≡ map variable_named (made Second.before most q))
      × (with_names s.variables (image same_number p First.goal.conclusion) ≡ with_names u.variables (image same_number q Second.goal.conclusion))

  answered_by : (more : Cells) (p : Substitution ℕ (List ℕ)) → Solves (codes "x") (problem_of First) (unified more p) → (b : Answer (List ℕ)) → Solves (codes "x") (problem_of Second) b
      → E G others K Q Second Third second_moves b ≡ E F cells K R First Third first_moves (unified more p) → AnsweredAlso more p
  answered_by more p a apart b both = absurd (cc)
  answered_by more p a (stuck i) b both = absurd (cc)
  answered_by more p a (unified most q) b both =
      let lists : (Third.before ++ Third.own) ++ drop (length (Second.before ++ Second.own)) most ≡ (Third.before ++ Third.own) ++ drop (length (First.before ++ First.own)) more = cc in
      let pairs : renumbered_pairs G q ≡ renumbered_pairs F p = cc in
      let variables : map (moved_variable F) (made First.before more p) ≡ map (moved_variable G) (made Second.before most q) =
      sym (made_answered F cells K R First Third first_moves more p a)
      ∙ ap (λ l. made Third.before l (renumbered_pairs F p)) (sym lists)
      ∙ ap (made Third.before ((Third.before ++ Third.own) ++ drop (length (Second.before ++ Second.own)) most)) (sym pairs)
      ∙ made_answered G others K Q Second Third second_moves most q b in
      let conclusions : renumbered F (image same_number p First.goal.conclusion) ≡ renumbered G (image same_number q Second.goal.conclusion) =
      conclusion_moved F R.different First Third first_moves.goal p
      ∙ ap (λ r. image same_number r Third.goal.conclusion) (sym pairs)
      ∙ sym (conclusion_moved G Q.different Second Third second_moves.goal q) in
      let over : map (moved_variable F) s.variables ≡ map (moved_variable G) u.variables = ap (λ (q : Sequent). q.variables) meet in (
        most,
        q,
        b,
        sym (names_kept F (made First.before more p)) ∙ ap (map variable_named) variables ∙ names_kept G (made Second.before most q),
        sym (with_names_moved F (agreeing F R.different) s.variables (image same_number p First.goal.conclusion))
            ∙ ap (with_names (map (moved_variable F) s.variables)) conclusions
            ∙ ap (λ xs. with_names xs (renumbered G (image same_number q Second.goal.conclusion))) over
            ∙ with_names_moved G (agreeing G Q.different) u.variables (image same_number q Second.goal.conclusion),
      )

  answered_also : (more : Cells) (p : Substitution ℕ (List ℕ)) → Solves (codes "x") (problem_of First) (unified more p) → AnsweredAlso more p
  answered_also more p a =
      let w = solved_back G others K Q Second Third second_moves (E F cells K R First Third first_moves (unified more p)) (solved_moved F cells K R First Third first_moves (unified more p) a) in
      answered_by more p a w.0 w.1 w.2

-- TWO READINGS of one subject: its ways correspond one by one
module _ (D : Declarations) (s u : Sequent) (x y : Subject) (same : IsSameSubject D s u x y) (cells others : Cells) (are : AreCells cells s) (also : AreCells others u) where
  abbrev F : ℕ → ℕ
  F = f D s u x y same cells others are also

  abbrev G : ℕ → ℕ
  G = g D s u x y same cells others are also

  abbrev K : Cells
  K = C D s u x y same cells others are also

  R : IsRenumbering F cells K
  R = one D s u x y same cells others are also

  Q : IsRenumbering G others K
  Q = two D s u x y same cells others are also

  meet : moved_goal F s ≡ moved_goal G u
  meet = goals_meet D s u x y same cells others are also

  outcome : (w v z : Way) → WayFollows F w z → WayFollows G v z → HasItsOutcome s u cells others w v
  outcome w v z first second =
      let a = first cells K R in
      let b = second others K Q in
      record {
        never = λ n. never_back G others K Q (v.case others) (z.case K) b (never_moved F cells K R (w.case cells) (z.case K) a n);
        outside = λ i o. open_back G others K Q (v.case others) (z.case K) b i (open_moved F cells K R (w.case cells) (z.case K) a i o);
        matched = λ more p left m.
            let q = answered_also s u F G cells others K R Q meet (w.case cells) (v.case others) (z.case K) a b more p m.0 in
            (q.0, q.1, made (v.case others).before q.0 q.1, (q.2, refl), ap (map variable_named) m.1 ∙ q.3, q.4);
      }

  outcomes : (ws vs zs : List Way) → Each (WayFollows F) ws zs → Each (WayFollows G) vs zs → Each (HasItsOutcome s u cells others) ws vs
  outcomes [] [] [] a b = tt
  outcomes [] (v ∷ vs) [] a b = absurd b
  outcomes [] vs (z ∷ zs) a b = absurd a
  outcomes (w ∷ ws) vs [] a b = absurd a
  outcomes (w ∷ ws) [] (z ∷ zs) a b = absurd b
  outcomes (w ∷ ws) (v ∷ vs) (z ∷ zs) a b = (outcome w v z a.0 b.0, outcomes ws vs zs a.1 b.1)

  pub ways_correspond : Each (HasItsOutcome s u cells others) (ways_of s x) (ways_of u y)
  ways_correspond =
      let second = ways_follow G u y (second_good D s u x y same cells others are also) in
      outcomes (ways_of s x) (ways_of u y) (ways_of (moved_goal F s) (moved_subject F x)) (ways_follow F s x (first_good D s u x y same cells others are also))
      (subst (λ q. Each (WayFollows G) (ways_of u y) (ways_of q (moved_subject F x))) (sym meet)
      (subst (λ z. Each (WayFollows G) (ways_of u y) (ways_of (moved_goal G u) z)) (sym (subjects_meet D s u x y same cells others are also)) second))

-- where nothing is left open the body is the conclusion

abbrev pub LeavesBody : Way → Type 0
LeavesBody w = (F : Read) → w.closed [] F ≡ F

by_choices : (s : Sequent) (d : Defined) (chs : List Choice) → All LeavesBody (map (way_by_choice s d) chs)
by_choices s d [] = All-nil LeavesBody
by_choices s d (c ∷ chs) = All-cons LeavesBody (way_by_choice s d c) (map (way_by_choice s d) chs) (λ F. refl) (by_choices s d chs)

by_rules : (s : Sequent) (j : Judgement) (rs : List SpecRule) → All LeavesBody (map (way_by_rule s j) rs)
by_rules s j [] = All-nil LeavesBody
by_rules s j (r ∷ rs) = All-cons LeavesBody (way_by_rule s j r) (map (way_by_rule s j) rs) (λ F. refl) (by_rules s j rs)

pub ways_leave_bodies : (s : Sequent) (x : Subject) → All LeavesBody (ways_of s x)
ways_leave_bodies s (an_atom d) = by_choices s d (choices_of (goal_names s) d)
ways_leave_bodies s (a_judgement j rs) = by_rules s j rs
