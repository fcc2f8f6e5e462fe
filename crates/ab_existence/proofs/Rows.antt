-- A row of a rule has an answer where all that it finds by a property is there.
use Rattle.std.proofs.Common.{◌≡◌, ◌⊎◌, inl, inr, ℕ, List, [], ◌∷◌, Some, None, codes, refl}
use Rattle.ab_term.specs.Terms.{Read}
use Rattle.ab_unifiers.specs.Unification as solving
use Rattle.ab_unifiers.specs.Unification.{unified, apart, stuck, Solves}
use Rattle.ab_unifiers.proofs.Ending.{answered}
use Rattle.ab_formulas.specs.Sequents.{Sequent, IsUsed, counted, assuming}
use Rattle.ab_formulas.specs.NewNames.{Label, auto, given, IsFree, automatic, Names, NoName}
use Rattle.ab_theory.specs.Equations.{Becomes, AreApart, AreStuck}
use Rattle.ab_theory.specs.Splits.{problem_of, Split, IsUnsplit}
use Rattle.ab_theory.specs.Row.{Row, leads, leads_by, finds, asks, labelled, labelled_each, solves, splits, unifies, Takes, FailsFirst, Sticks}
use Rattle.ab_existence.specs.Certainty.{IsCertain}
use Rattle.ab_existence.proofs.Certain.{sure, and_so, and_also, there_or_not, least}

-- a new hypothesis gets its name, or none
pub named_or_not : (l : Label) (s : Sequent) → IsCertain (((name : List ℕ) × (t : Sequent) × Names l s name t) ⊎ NoName l s)
named_or_not auto s =
    and_so (there_or_not ((n : ℕ) × IsFree s n))
    (λ some. elim some [
      | inl n ↦ and_also (least (IsFree s) n.0 n.1) (λ m. inl (automatic m.0, counted m.0 s, (m.0, m.1, refl, refl)))
      | inr none ↦ sure (inr (λ n free. none (n, free)))
    ])
named_or_not (given x) s =
    and_also (there_or_not (IsUsed s x)) (λ some. elim some [ inl used ↦ inr used | inr free ↦ inl (x, s, (free, refl, refl)) ])

-- all that is found by a property is there
abbrev pub HasAnswers : Row → Type 0
HasAnswers (leads ps) = Unit {0}
HasAnswers (leads_by {A = A} P f) = IsCertain ((a : A) × P a)
HasAnswers (finds {A = A} i o k) = (a : A) → o ≡ Some a → HasAnswers (k a)
HasAnswers (asks i P k) = P → HasAnswers k
HasAnswers (labelled i l s k) = (name : List ℕ) (t : Sequent) → Names l s name t → HasAnswers (k name t)
HasAnswers (solves IsName cells s t u) = IsCertain (((g : Sequent) × Becomes IsName cells s t u g) ⊎ (AreApart cells s t u ⊎ AreStuck cells s t u))
HasAnswers (splits IsName cells cs) = IsCertain (((gs : List Sequent) × Split IsName cells cs gs) ⊎ ((i : ℕ) × IsUnsplit IsName cells cs i))
HasAnswers (unifies i c f) = Unit {0}

pub each_answered : (i : ℕ) (ls : List Label) (Fs : List Read) (s : Sequent) (k : Sequent → Row) → ((t : Sequent) → HasAnswers (k t)) → HasAnswers (labelled_each i ls Fs s k)
each_answered i [] [] s k rest = rest s
each_answered i (l ∷ ls) (F ∷ Fs) s k rest = λ name t named. each_answered i ls Fs (assuming name F t) k rest
each_answered i [] (F ∷ Fs) s k rest = λ none. absurd none
each_answered i (l ∷ ls) [] s k rest = λ none. absurd none

abbrev pub Answer : Row → Type 0
Answer r = ((ps : List Sequent) × Takes r ps) ⊎ (((i : ℕ) × FailsFirst r i) ⊎ ((j : ℕ) × Sticks r j))

-- SUCH A ROW HAS AN ANSWER
pub answer_there : (r : Row) → HasAnswers r → IsCertain (Answer r)
answer_there (leads ps) h = sure (inl (ps, refl))
answer_there (leads_by P f) h = and_also h (λ a. inl (f a.0, (a.0, a.1, refl)))
answer_there (finds i None k) h = sure (inr (inl (i, inl (refl, refl))))
answer_there (finds i (Some a) k) h =
    and_also (answer_there (k a) (h a refl))
    (λ rest. elim rest [
      | inl t ↦ inl (t.0, (a, refl, t.1))
      | inr other ↦ elim other [ inl f ↦ inr (inl (f.0, inr (a, refl, f.1))) | inr e ↦ inr (inr (e.0, (a, refl, e.1))) ]
    ])
answer_there (asks i P k) h =
    and_so (there_or_not P)
    (λ there. elim there [
      | inl p ↦ and_also (answer_there k (h p))
          (λ rest. elim rest [
            | inl t ↦ inl (t.0, (p, t.1))
            | inr other ↦ elim other [ inl f ↦ inr (inl (f.0, inr (p, f.1))) | inr e ↦ inr (inr (e.0, (p, e.1))) ]
          ])
      | inr none ↦ sure (inr (inl (i, inl (none, refl))))
    ])
answer_there (labelled i l s k) h =
    and_so (named_or_not l s)
    (λ named. elim named [
      | inl n ↦ and_also (answer_there (k n.0 n.1) (h n.0 n.1 n.2))
          (λ rest. elim rest [
            | inl t ↦ inl (t.0, (n.0, n.1, n.2, t.1))
            | inr other ↦ elim other [ inl f ↦ inr (inl (f.0, inr (n.0, n.1, n.2, f.1))) | inr e ↦ inr (inr (e.0, (n.0, n.1, n.2, e.1))) ]
          ])
      | inr none ↦ sure (inr (inl (i, inl (none, refl))))
    ])
answer_there (solves IsName cells s t u) h =
    and_also h
    (λ a. elim a [
      | inl g ↦ inl (g.0 ∷ [], inl (g.0, g.1, refl))
      | inr other ↦ elim other [ inl apart_there ↦ inl ([], inr (apart_there, refl)) | inr stuck_there ↦ inr (inr (0, (stuck_there, refl))) ]
    ])
answer_there (splits IsName cells cs) h = and_also h (λ a. elim a [ inl gs ↦ inl gs | inr i ↦ inr (inr i) ])
answer_there (unifies i c f) h = let a = answered (codes "x") (problem_of c) in sure (by_case a.0 a.1)
  where
    by_case : (a : solving.Answer (List ℕ)) → Solves (codes "x") (problem_of c) a → Answer (unifies i c f)
    by_case (unified more answer) p = inl (f more answer, (more, answer, p, refl))
    by_case apart p = inr (inl (i, (p, refl)))
    by_case (stuck j) p = inr (inr (j, p))
