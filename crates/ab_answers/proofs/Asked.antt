-- A row of a proof command has an answer where all that is to come of something comes of it, or a cause why it doesn't.
use Rattle.std.proofs.Common.{◌≡◌, ◌⊎◌, inl, inr, ℕ, List, Some, None, refl}
use Rattle.ab_formulas.specs.Sequents.{Sequent}
use Rattle.ab_formulas.specs.NewNames.{Label, Names, NoName}
use Rattle.ab_meaning.specs.Refusals.{Refusal, names_spent}
use Rattle.ab_effects.specs.Row.{Row, leads, unless, finds, makes, Leads, Refuses}
use Rattle.ab_existence.specs.Certainty.{IsCertain}
use Rattle.ab_existence.proofs.Certain.{sure, and_so, and_also, there_or_not}
use Rattle.ab_existence.proofs.Rows.{named_or_not}

abbrev pub HasAnswers : Row → Type 0
HasAnswers (leads ps) = Unit {0}
HasAnswers (unless o k) = HasAnswers k
HasAnswers (finds {A = A} r o k) = (a : A) → o ≡ Some a → HasAnswers (k a)
HasAnswers (makes {A = A} P N k) = IsCertain (((a : A) × P a) ⊎ ((f : Refusal) × N f)) × ((a : A) → P a → HasAnswers (k a))

abbrev pub Answer : Row → Type 0
Answer r = ((ps : List Sequent) × Leads r ps) ⊎ ((f : Refusal) × Refuses r f)

-- SUCH A ROW HAS AN ANSWER
pub answer_there : (r : Row) → HasAnswers r → IsCertain (Answer r)
answer_there (leads ps) h = sure (inl (ps, refl))
answer_there (unless None k) h = and_also (answer_there k h) (λ rest. elim rest [ inl t ↦ inl (t.0, (refl, t.1)) | inr f ↦ inr (f.0, inr (refl, f.1)) ])
answer_there (unless (Some r) k) h = sure (inr (r, inl refl))
answer_there (finds r None k) h = sure (inr (r, inl (refl, refl)))
answer_there (finds r (Some a) k) h = and_also (answer_there (k a) (h a refl)) (λ rest. elim rest [ inl t ↦ inl (t.0, (a, refl, t.1)) | inr f ↦ inr (f.0, inr (a, refl, f.1)) ])
answer_there (makes P N k) h =
    and_so h.0
    (λ there. elim there [
      | inl a ↦ and_also (answer_there (k a.0) (h.1 a.0 a.1)) (λ rest. elim rest [ inl t ↦ inl (t.0, (a.0, a.1, t.1)) | inr f ↦ inr (f.0, inr (a.0, a.1, f.1)) ])
      | inr none ↦ sure (inr (none.0, inl none.1))
    ])

-- a property is there, or that it isn't is the cause
pub there_or_refused : (P : Type 0) (r : Refusal) → IsCertain ((Unit {0} × P) ⊎ ((f : Refusal) × ((P → ⊥) × (f ≡ r))))
there_or_refused P r = and_also (there_or_not P) (λ some. elim some [ inl p ↦ inl (tt, p) | inr none ↦ inr (r, (none, refl)) ])

-- a new hypothesis gets its name, or names are spent
pub name_there : (l : Label) (s : Sequent) → IsCertain (((p : List ℕ × Sequent) × Names l s p.0 p.1) ⊎ ((f : Refusal) × (NoName l s × (f ≡ names_spent))))
name_there l s = and_also (named_or_not l s) (λ some. elim some [ inl n ↦ inl ((n.0, n.1), n.2) | inr none ↦ inr (names_spent, (none, refl)) ])
