-- The first way in which a conclusion unfolds is so over any list of the variables that were ever made, and leaves nothing
-- open over one where it leaves nothing open over another.
use Rattle.std.specs.Prelude.{Contains}
use Rattle.std.proofs.Common.{◌≡◌, inl, inr, List, [], ◌∷◌, map, Some, ℕ, codes, refl, sym, ◌∙◌, ap, subst}
use Rattle.std.proofs.lemmas.List.Elements.{All-contains, Contains-append_left, Contains-append_right}
use Rattle.ab_term.specs.Variables.{Substitution}
use Rattle.ab_term.proofs.Lists.{Contains-none, Contains-cases, Contains-here, All-from_contains}
use Rattle.ab_unifiers.specs.Replacements.{Cell}
use Rattle.ab_unifiers.specs.Unification.{unified}
use Rattle.ab_unifiers.proofs.Unique.{unique}
use Rattle.ab_unifiers.specs.Clauses.{Each}
use Rattle.ab_formulas.specs.Declarations.{Declarations, HaveDefinitions}
use Rattle.ab_formulas.specs.Programs.{HavePrograms}
use Rattle.ab_formulas.specs.Sequents.{Variable, Sequent, IsSequent}
use Rattle.ab_formulas.specs.NamedGoals.{variable_named}
use Rattle.ab_theory.specs.Equations.{AreCells, made}
use Rattle.ab_theory.specs.Splits.{NeverArises}
use Rattle.ab_theory.specs.Subjects.{Subject, Way, subject_of, ways_of}
use Rattle.ab_theory.proofs.Sequents.{goal_of}
use Rattle.ab_effects.specs.Likeness.{IsSameSubject, HasItsOutcome}
use Rattle.ab_effects.proofs.Unfolding.{ways_correspond}
use Rattle.ab_effects.specs.Unfoldings.{IsFirst, IsMatched}

none_named : (xs : List Variable) → [] ≡ map variable_named xs → [] ≡ xs
none_named [] e = refl
none_named (x ∷ xs) e = absurd (cc)

each_itself : {X : Type 0} (R : X → X → Type 0) (xs : List X) → Each R xs xs → (x : X) → Contains xs x → R x x
each_itself R [] each x there = absurd (Contains-none x there)
each_itself R (y ∷ ys) each x there =
    elim (Contains-cases y ys x there) [ inl same ↦ subst (λ z. R z z) same each.0 | inr behind ↦ each_itself R ys each.1 x behind ]

module _ (D : Declarations) (definitions : HaveDefinitions D) (programs : HavePrograms D) (s : Sequent) (sequent : IsSequent D s) (x : Subject) (is : subject_of D s.conclusion ≡ Some x) where
  -- the subject is itself
  same_subject : IsSameSubject D s s x x
  same_subject =
      let closed = (goal_of D s sequent).conclusion.closed in
      record {
        first = sequent;
        second = sequent;
        goals = refl;
        formula = s.conclusion;
        other = s.conclusion;
        formulas = record { first = closed; second = closed; same = refl };
        subject = is;
        also = is;
        definitions = definitions;
        programs = programs;
      }

  module _ (cells others : List (Cell (List ℕ))) (are : AreCells cells s) (also : AreCells others s) where
    outcome : (w : Way) → Contains (ways_of s x) w → HasItsOutcome s s cells others w w
    outcome = each_itself (HasItsOutcome s s cells others) (ways_of s x) (ways_correspond D s s x x same_subject cells others are also)

    module _ (w : Way) where
      pub first_also : IsFirst cells s x w → IsFirst others s x w
      first_also (before, after, e, all) = (
        before,
        after,
        e,
        All-from_contains (λ (v : Way). NeverArises (v.case others)) before (λ v there.
            (outcome v (subst (λ l. Contains l v) (sym e) (Contains-append_left before (w ∷ after) v there))).never
            (All-contains (λ (u : Way). NeverArises (u.case cells)) before v all there)),
      )

      among : IsFirst cells s x w → Contains (ways_of s x) w
      among (before, after, e, all) = subst (λ l. Contains l w) (sym e) (Contains-append_right before (w ∷ after) w (Contains-here w after))

      pub none_left_also : IsFirst cells s x w
          → (more : List (Cell (List ℕ))) (p : Substitution ℕ (List ℕ)) → IsMatched cells w more p []
          → (most : List (Cell (List ℕ))) (q : Substitution ℕ (List ℕ)) (left : List Variable) → IsMatched others w most q left → [] ≡ left
      none_left_also first more p matched most q left there =
          let r = (outcome w (among first)).matched more p [] matched in
          let one : unified r.0 r.1 ≡ unified most q = unique (codes "x") r.3.0 there.0 in
          let lists : r.0 ≡ most = cc in
          let answers : r.1 ≡ q = cc in
          none_named r.2 r.4
          ∙ r.3.1
          ∙ ap (λ m. made (w.case others).before m r.1) lists
          ∙ ap (λ k. made (w.case others).before most k) answers
          ∙ sym there.1
