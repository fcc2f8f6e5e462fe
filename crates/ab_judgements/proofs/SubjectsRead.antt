-- The subject of a formula, as it reads.
use Rattle.std.specs.Prelude.{IfSome, IsSome}
use Rattle.std.specs.Option.{option_and_then}
use Rattle.std.proofs.Common.{◌≡◌, Option, Some, None, refl, sym, ◌∙◌, ap, subst}
use Rattle.ab_term.specs.Terms.{Read}
use Rattle.ab_logic.specs.Worlds.{declarations_of}
use Rattle.ab_logic.specs.declared.world.World.{World}
use Rattle.ab_theory.specs.Subjects as plain
use Rattle.ab_theory.specs.Subjects.{subject_of}
use Rattle.ab_judgements.specs.SubjectReadings.{subject_read, HasRules, HoldsSubject}
use Rattle.ab_judgements.specs.declared.subjects.Subject.{Subject}

-- it is one, and the formula's
pub record IsReadAs (w : World) (F : Read) (subject : Subject) : Type 0 where
  pub plain : plain.Subject
  pub reads : subject_read w subject ≡ Some plain
  pub is : subject_of (declarations_of w) F ≡ Some plain

some_there : {X : Type 0} (o : Option X) → IsSome o → (x : X) × (o ≡ Some x)
some_there None h = absurd (cc)
some_there (Some x) h = (x, refl)

module _ (w : World) (F : Read) (found : Option Subject) (reads : option_and_then (subject_read w) found ≡ subject_of (declarations_of w) F) where
  pub read_as : (subject : Subject) → found ≡ Some subject → IfSome found (HasRules w) → IsReadAs w F subject
  read_as subject e rules =
      let has : HasRules w subject = subst (λ o. IfSome o (HasRules w)) e rules in
      let there = some_there (subject_read w subject) has in
      record {
        plain = there.0;
        reads = there.1;
        is = sym (subst (λ o. option_and_then (subject_read w) o ≡ subject_of (declarations_of w) F) e reads) ∙ there.1;
      }

  pub read_none : found ≡ None → subject_of (declarations_of w) F ≡ None
  read_none e = sym (subst (λ o. option_and_then (subject_read w) o ≡ subject_of (declarations_of w) F) e reads)
