-- A FORMULA IS USED, OR CAN'T BE FOR ONE CAUSE; and a conclusion is unfolded, or can't be: the first choice that isn't apart decides.
use Rattle.std.specs.Prelude.{All}
use Rattle.std.proofs.Common.{◌≡◌, ◌⊎◌, inl, inr, ℕ, suc, List, [], ◌∷◌, ◌++◌, codes, refl, sym, append_assoc, append-nil, subst}
use Rattle.std.proofs.lemmas.List.Elements.{All-nil, All-push}
use Rattle.ab_term.specs.Terms.{Nominal, Read}
use Rattle.ab_term.specs.Variables.{Substitution, image}
use Rattle.ab_term.specs.Sameness.{same_number}
use Rattle.ab_unifiers.specs.Replacements.{Cell}
use Rattle.ab_unifiers.specs.Unification.{Answer, unified, apart, stuck, Solves}
use Rattle.ab_unifiers.proofs.Ending.{answered}
use Rattle.ab_formulas.specs.Sequents.{Variable, Sequent, proving}
use Rattle.ab_theory.specs.Equations.{made}
use Rattle.ab_theory.specs.Splits.{Case, problem_of, NeverArises}
use Rattle.ab_theory.specs.Subjects.{Subject, Way, ways_of, conclusion_then}
use Rattle.ab_theory.specs.Uses.{choices_for}
use Rattle.ab_theory.specs.UseAnswers.{Using, case_by, standing_in, IsUsedFor}
use Rattle.ab_meaning.specs.Refusals.{Refusal, no_match, not_pattern, unresolved}
use Rattle.ab_effects.specs.FormulaUses.{IsNotUsed}
use Rattle.ab_effects.specs.Unfoldings.{IsUnfolded, IsNotUnfolded}
use Rattle.ab_answers.proofs.Places.{NumbersDiffer, places_of, are_places}

-- of cases in order, each made by a choice: the first that isn't apart, with what solving it answers, or all are
module _ {X : Type 0} (case : X → Case) where
  pub record IsFirst (xs : List X) (a : Answer (List ℕ)) (x : X) : Type 0 where
    pub before : List X
    pub after : List X
    pub list : xs ≡ before ++ x ∷ after
    pub never : All (λ b. NeverArises (case b)) before
    pub solved : Solves (codes "x") (problem_of (case x)) a

  pub data First (xs : List X) : Type 0 where
    all_apart : All (λ b. NeverArises (case b)) xs → First xs
    is_unified : (x : X) (more : List (Cell (List ℕ))) (answer : Substitution ℕ (List ℕ)) → IsFirst xs (unified more answer) x → First xs
    is_stuck : (x : X) (i : ℕ) → IsFirst xs (stuck i) x → First xs

  first_from : (before rest : List X) → All (λ b. NeverArises (case b)) before → First (before ++ rest)
  first_from before [] never = all_apart (subst (All (λ b. NeverArises (case b))) (sym (append-nil before)) never)
  first_from before (x ∷ rest) never = let a = answered (codes "x") (problem_of (case x)) in by_answer (λ out. subst First (append_assoc before (x ∷ []) rest) (first_from (before ++ x ∷ []) rest (All-push (λ b. NeverArises (case b)) before x never out))) a.0 a.1
    where
      by_answer : (NeverArises (case x) → First (before ++ x ∷ rest)) → (a : Answer (List ℕ)) → Solves (codes "x") (problem_of (case x)) a → First (before ++ x ∷ rest)
      by_answer later apart p = later p
      by_answer later (unified more answer) p = is_unified x more answer (record { before = before; after = rest; list = refl; never = never; solved = p })
      by_answer later (stuck i) p = is_stuck x i (record { before = before; after = rest; list = refl; never = never; solved = p })

  pub first : (xs : List X) → First xs
  first xs = first_from [] xs (All-nil (λ b. NeverArises (case b)))

-- A USE

abbrev pub UsedOrNot : Using → Type 0
UsedOrNot u = ((K : Read) × IsUsedFor u K) ⊎ ((f : Refusal) × IsNotUsed u f)

pub use_there : (u : Using) → NumbersDiffer u.goal.variables → UsedOrNot u
use_there u differ = by_first (first (case_by (places_of u.goal) u) (choices_for u.goal u.parts u.formula))
  where
    left_by : (names : List Nominal) (more : List (Cell (List ℕ))) (answer : Substitution ℕ (List ℕ)) → IsFirst (case_by (places_of u.goal) u) (choices_for u.goal u.parts u.formula) (unified more answer) names
        → (ys : List Variable) → ys ≡ standing_in (image same_number answer (case_by (places_of u.goal) u names).goal.conclusion) (made (places_of u.goal) more answer) → UsedOrNot u
    left_by names more answer is [] none_left =
        inl (
          image same_number answer (case_by (places_of u.goal) u names).goal.conclusion,
          (places_of u.goal, are_places u.goal differ, names, (is.before, is.after, is.list, is.never), record { more = more; answer = answer; solved = is.solved; left = refl; left_open = none_left }),
        )
    left_by names more answer is (y ∷ ys) some_left =
        inr (
          unresolved y.name,
          IsNotUsed.left_open y.name (
            places_of u.goal,
            are_places u.goal differ,
            names,
            (is.before, is.after, is.list, is.never),
            image same_number answer (case_by (places_of u.goal) u names).goal.conclusion,
            y,
            ys,
            record { more = more; answer = answer; solved = is.solved; left = refl; left_open = some_left },
            refl,
          ),
        )

    by_first : First (case_by (places_of u.goal) u) (choices_for u.goal u.parts u.formula) → UsedOrNot u
    by_first (all_apart never) = inr (no_match, IsNotUsed.apart (places_of u.goal, are_places u.goal differ, never))
    by_first (is_unified names more answer is) = left_by names more answer is (standing_in (image same_number answer (case_by (places_of u.goal) u names).goal.conclusion) (made (places_of u.goal) more answer)) refl
    by_first (is_stuck names i is) = inr (not_pattern (suc i), IsNotUsed.outside i (places_of u.goal, are_places u.goal differ, names, (is.before, is.after, is.list, is.never), is.solved))

-- AN UNFOLDING

abbrev case_there : Sequent → Way → Case
case_there s w = w.case (places_of s)

abbrev pub UnfoldedOrNot : Sequent → Subject → Type 0
UnfoldedOrNot s x = ((t : Sequent) × IsUnfolded s x t) ⊎ ((f : Refusal) × IsNotUnfolded s x f)

pub unfolding_there : (s : Sequent) (x : Subject) → NumbersDiffer s.variables → UnfoldedOrNot s x
unfolding_there s x differ = by_first (first (case_there s) (ways_of s x))
  where
    left_by : (w : Way) (more : List (Cell (List ℕ))) (answer : Substitution ℕ (List ℕ)) → IsFirst (case_there s) (ways_of s x) (unified more answer) w
        → (ys : List Variable) → ys ≡ made (case_there s w).before more answer → UnfoldedOrNot s x
    left_by w more answer is [] none_left =
        inl (
          proving (conclusion_then (case_there s w) w.closed more answer) s,
          record {
            cells = places_of s;
            are_cells = are_places s differ;
            way = w;
            first = (is.before, is.after, is.list, is.never);
            more = more;
            answer = answer;
            matched = (is.solved, none_left);
            goal = refl;
          },
        )
    left_by w more answer is (y ∷ ys) some_left =
        inr (
          unresolved y.name,
          inr (inr (y.name, (places_of s, are_places s differ, w, (is.before, is.after, is.list, is.never), more, answer, y, ys, (is.solved, some_left), refl), refl)),
        )

    by_first : First (case_there s) (ways_of s x) → UnfoldedOrNot s x
    by_first (all_apart never) = inr (no_match, inl ((places_of s, are_places s differ, never), refl))
    by_first (is_unified w more answer is) = left_by w more answer is (made (case_there s w).before more answer) refl
    by_first (is_stuck w i is) = inr (not_pattern (suc i), inr (inl (i, (places_of s, are_places s differ, w, (is.before, is.after, is.list, is.never), is.solved), refl)))
