-- WHAT IS OPENED in a goal, and what is taken off its conclusion.
use Rattle.std.proofs.Common.{◌≡◌, ℕ, List, [], ◌∷◌, refl, sym, ◌∙◌, ap, subst}
use Rattle.std.specs.Prelude.{All}
use Rattle.std.proofs.lemmas.List.Elements.{All-nil, All-cons, All-head, All-tail}
use Rattle.ab_term.specs.Types.{Ty}
use Rattle.ab_term.specs.Terms.{Read}
use Rattle.ab_formulas.specs.Declarations.{Declarations}
use Rattle.ab_formulas.specs.NewNames.{Label}
use Rattle.ab_formulas.specs.Sequents.{Sequent}
use Rattle.ab_theory.specs.Rules.{name_term, raised, applied}
use Rattle.ab_theory.proofs.Sequents.{AllFormulas}
use Rattle.ab_effects.specs.Openings.{Taken, Opened}
use Rattle.ab_effects.specs.Introductions.{Introduced, first_label}
use Rattle.ab_unhashed_goals.proofs.Formulas.{IsFine, IsFineScope, instance_fine, of_both, of_implies, of_for_all, of_exists, of_nabla}
use Rattle.ab_unhashed_goals.proofs.Goals.{IsFineGoal, and_hypothesis, labelled, same_conclusion}

-- a new variable stands for the bound name
taken_fine : {D : Declarations} {s u : Sequent} {F t G : Read} {A : Ty} → Taken D s F A t G u → IsFineScope t → IsFine G
taken_fine {t = t} {A = A} k is = subst IsFine (sym k.body) (instance_fine t (applied (raised k.number k.name A k.names) k.names) is)

taken_hypotheses : {D : Declarations} {s u : Sequent} {F t G : Read} {A : Ty} → Taken D s F A t G u → AllFormulas IsFine s.hypotheses → AllFormulas IsFine u.hypotheses
taken_hypotheses k all = subst (λ (v : Sequent). AllFormulas IsFine v.hypotheses) (sym k.goal) all

taken_conclusion : {D : Declarations} {s u : Sequent} {F t G : Read} {A : Ty} → Taken D s F A t G u → u.conclusion ≡ s.conclusion
taken_conclusion k = ap (λ (v : Sequent). v.conclusion) k.goal

-- FORMULAS ARE OPENED: the conclusion stays
pub opened_conclusion : {D : Declarations} {Fs : List Read} {l m : Label} {s u : Sequent} → Opened D Fs l s m u → u.conclusion ≡ s.conclusion
opened_conclusion Opened.none = refl
opened_conclusion (Opened.nothing e o) = opened_conclusion o
opened_conclusion (Opened.parts e o) = opened_conclusion o
opened_conclusion (Opened.variable e k o) = opened_conclusion o ∙ taken_conclusion k
opened_conclusion (Opened.constant e n o) = opened_conclusion o
opened_conclusion {l = l} {s = s} (Opened.hypothesis name v w n o) = opened_conclusion o ∙ same_conclusion l s v name n

-- and what comes of them is as they are
pub opened_fine : {D : Declarations} {Fs : List Read} {l m : Label} {s u : Sequent} → Opened D Fs l s m u → All IsFine Fs → AllFormulas IsFine s.hypotheses → AllFormulas IsFine u.hypotheses
opened_fine Opened.none all hs = hs
opened_fine (Opened.nothing {F = F} {Fs = Fs} e o) all hs = opened_fine o (All-tail IsFine F Fs all) hs
opened_fine (Opened.parts {F = F} {A = A} {B = B} {Fs = Fs} e o) all hs =
    let both = of_both F (All-head IsFine F Fs all) A B e in
    opened_fine o (All-cons IsFine A (B ∷ Fs) both.0 (All-cons IsFine B Fs both.1 (All-tail IsFine F Fs all))) hs
opened_fine (Opened.variable {F = F} {t = t} {G = G} {A = A} {Fs = Fs} e k o) all hs =
    opened_fine o (All-cons IsFine G Fs (taken_fine k (of_exists F (All-head IsFine F Fs all) A t e)) (All-tail IsFine F Fs all)) (taken_hypotheses k hs)
opened_fine (Opened.constant {F = F} {t = t} {A = A} {n = n} {Fs = Fs} e least o) all hs =
    let a = name_term (record { number = n; type = A }) in
    opened_fine o (All-cons IsFine _ Fs (instance_fine t a (of_nabla F (All-head IsFine F Fs all) A t e)) (All-tail IsFine F Fs all)) hs
opened_fine {l = l} {s = s} (Opened.hypothesis {F = F} {Fs = Fs} name v w n o) all hs =
    opened_fine o (All-tail IsFine F Fs all) (and_hypothesis IsFine name F v (labelled IsFine l s v name n hs) (All-head IsFine F Fs all))

-- one formula in a goal
pub opened_goal : {D : Declarations} {F : Read} {l m : Label} {s u : Sequent} → Opened D (F ∷ []) l s m u → IsFine F → IsFineGoal s → IsFineGoal u
opened_goal {F = F} o is goal = record {
  conclusion = subst IsFine (sym (opened_conclusion o)) goal.conclusion;
  hypotheses = opened_fine o (All-cons IsFine F [] is (All-nil IsFine)) goal.hypotheses;
}

-- WHAT CAN BE TAKEN OFF A CONCLUSION is taken off
pub introduced_fine : {D : Declarations} {xs ys : List (List ℕ)} {s u : Sequent} → Introduced D xs s ys u → IsFineGoal s → IsFineGoal u
introduced_fine (Introduced.none kept) goal = goal
introduced_fine (Introduced.variable {s = s} {A = A} {t = t} e k i) goal =
    introduced_fine i (record { conclusion = taken_fine k (of_for_all s.conclusion goal.conclusion A t e); hypotheses = taken_hypotheses k goal.hypotheses })
introduced_fine (Introduced.constant {s = s} {A = A} {t = t} {n = n} e least i) goal =
    introduced_fine i (record { conclusion = instance_fine t (name_term (record { number = n; type = A })) (of_nabla s.conclusion goal.conclusion A t e); hypotheses = goal.hypotheses })
introduced_fine (Introduced.hypothesis {xs = xs} {s = s} {A = A} {B = B} name v e n i) goal =
    let both = of_implies s.conclusion goal.conclusion A B e in
    introduced_fine i (record { conclusion = both.1; hypotheses = and_hypothesis IsFine name A v (labelled IsFine (first_label xs) s v name n goal.hypotheses) both.0 })
