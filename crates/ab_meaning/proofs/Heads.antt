-- The heads of a reading and of its normal form are those of the expression.
use Rattle.std.specs.Prelude.{ℕ, List, [], ◌∷◌, Option, Some, None}
use Rattle.ab_term.specs.Types.{Ty}
use Rattle.ab_term.specs.Logical.{equality}
use Rattle.ab_term.specs.Terms.{Head, logical, lam, Terms, no_terms, term, Read}
use Rattle.ab_term.specs.Typing.{Signature, head_type}
use Rattle.ab_term.specs.Substitution.{instance}
use Rattle.ab_term.specs.Beta.{atom, abstraction, application}
use Rattle.ab_term.proofs.Standing.{HeadHas, Has, AllHave, instance_has, expansion_of_has}
use Rattle.ab_meaning.specs.Types.{PropFree}
use Rattle.ab_meaning.specs.ResolvedNames.{Name, Resolved, bound, known, free, apply, behind, abs, equal, bind, Binding, binding_head}
use Rattle.ab_meaning.specs.Readings.{Making, Raw, Reads, reads_bound, reads_known, reads_free, reads_apply, reads_behind, reads_abs, reads_equal, reads_bind}
use Rattle.ab_meaning.specs.Normal.{left_type, given_all, long_form, normal_given, normal_form}

module _ (P : Head ℕ → Type 0) where
  -- each head that is known is such a one, and no name is free
  abbrev pub ResolvedHas : Resolved → Type 0
  ResolvedHas (bound i) = Unit {0}
  ResolvedHas (known h A) = HeadHas P h
  ResolvedHas (free x p) = ⊥
  ResolvedHas (apply e f) = ResolvedHas e × ResolvedHas f
  ResolvedHas (behind e f) = ResolvedHas e × ResolvedHas f
  ResolvedHas (abs x p e) = ResolvedHas e
  ResolvedHas (equal e f) = ResolvedHas e × ResolvedHas f
  ResolvedHas (bind q x p w e) = ResolvedHas e

  abbrev pub RawHas : Raw → Type 0
  RawHas (atom h) = HeadHas P h
  RawHas (abstraction A x t) = RawHas t
  RawHas (application t u) = RawHas t × RawHas u

  -- such are equality, and quantifiers over what holds no formula
  pub record Admits : Type 0 where
    pub equations : (A : Ty) → P (logical (equality A))
    pub binders : (q : Binding) (A : Ty) → PropFree A → P (logical (binding_head q A))

  module _ (ad : Admits) (made : Making) (types : Name → Ty) where
    pub reads_has : {G : List Ty} {e : Resolved} {t : Raw} {A : Ty} {As : List Ty} → Reads made types G e t A As → ResolvedHas e → RawHas t
    reads_has (reads_bound e) h = tt
    reads_has (reads_known {h = k}) h = h
    reads_has (reads_free f) h = absurd h
    reads_has (reads_apply r s) h = (reads_has r h.0, reads_has s h.1)
    reads_has (reads_behind r s) h = (reads_has s h.1, reads_has r h.0)
    reads_has (reads_abs f r) h = reads_has r h
    reads_has (reads_equal {A = A} r s) h = ((ad.equations A, reads_has r h.0), reads_has s h.1)
    reads_has (reads_bind {q = q} {A = A} f k r) h = (ad.binders q A f, reads_has r h)

  given_all_has : (t : Read) (ts : Terms ℕ (List ℕ)) → Has P t → AllHave P ts → Has P (given_all t ts)
  given_all_has t no_terms p q = p
  given_all_has t (term u us) p q = given_all_has (instance t u) us (instance_has P t u p q.0) q.1

  long_form_has : (o : Option Ty) (h : Head ℕ) (ts : Terms ℕ (List ℕ)) → HeadHas P h → AllHave P ts → Has P (long_form o h ts)
  long_form_has None h ts p q = (p, q)
  long_form_has (Some A) h ts p q = expansion_of_has P _ (left_type A ts) h ts p q

  module _ (sg : Signature) where
    normal_given_has : (G : List Ty) (t : Raw) (ts : Terms ℕ (List ℕ)) → RawHas t → AllHave P ts → Has P (normal_given sg G t ts)
    normal_given_has G (atom h) ts p q = long_form_has (head_type sg G h) h ts p q
    normal_given_has G (abstraction A x t) ts p q = given_all_has (lam A x (normal_given sg (A ∷ G) t no_terms)) ts (normal_given_has (A ∷ G) t no_terms p tt) q
    normal_given_has G (application t u) ts p q = normal_given_has G t (term (normal_given sg G u no_terms) ts) p.0 (normal_given_has G u no_terms p.1 tt, q)

    -- the normal form has no other heads
    pub normal_form_has : (t : Raw) → RawHas t → Has P (normal_form sg [] t)
    normal_form_has t p = normal_given_has [] t no_terms p tt
