-- The readings of head and body together are those of the expression that joins them.
use Rattle.std.specs.Prelude.{Ok, Err}
use Rattle.std.proofs.Common.{◌≡◌, ℕ, List, [], ◌++◌, get_or, refl, sym, ap, ◌∙◌, subst}
use Rattle.ab_term.specs.Types.{Ty, arrow, prop}
use Rattle.ab_term.specs.Terms.{Head}
use Rattle.ab_term.specs.Beta.{atom, application}
use Rattle.ab_meaning.specs.ResolvedNames.{Name, Resolved, known, apply}
use Rattle.ab_meaning.specs.Scopes.{Found}
use Rattle.ab_meaning.specs.Readings.{Raw, Making, Reads, reads_known, reads_apply}
use Rattle.ab_meaning.specs.ReadingCounts as single
use Rattle.ab_declare.specs.ClauseReadings.{Parts, ClauseReading, types_given, HasOneReading, HasNoReading, Differ, IsFirstOpen}
use Rattle.ab_declare.specs.ClauseMeanings.{both_found}
use Rattle.ab_declare.specs.JoinedRows.{joiner_type, joiner, joined, joined_found}

-- what is found of head and body, from what is found of both joined
pub parts_joined : (A B : Ty) (f g : Found) (e : Resolved) → joined_found A B f g ≡ Ok e → (p : Parts) × (both_found f g ≡ Ok p) × (e ≡ joined p A B)
parts_joined A B (Ok a) (Ok b) e h = (record { head = a; body = b }, refl, (cc))
parts_joined A B (Ok a) (Err x) e h = absurd (cc)
parts_joined A B (Err x) g e h = absurd (cc)

pub none_joined : (A B : Ty) (f g : Found) (x : Name) → joined_found A B f g ≡ Err x → both_found f g ≡ Err x
none_joined A B (Ok a) (Ok b) x h = absurd (cc)
none_joined A B (Ok a) (Err y) x h = let e : y ≡ x = cc in ap Err e
none_joined A B (Err y) g x h = let e : y ≡ x = cc in ap Err e

module _ (made : Making) (types : Name → Ty) where
  pub record Applied (G : List Ty) (e f : Resolved) (t : Raw) (C : Ty) (gs : List Ty) : Type 0 where
    pub function : Raw
    pub argument : Raw
    pub from_type : Ty
    pub before : List Ty
    pub after : List Ty
    pub term_is : t ≡ application function argument
    pub given_is : gs ≡ before ++ after
    pub reads_function : Reads made types G e function (arrow from_type C) before
    pub reads_argument : Reads made types G f argument from_type after

  pub inverted : {G : List Ty} {e f : Resolved} {t : Raw} {C : Ty} {gs : List Ty} → Reads made types G (apply e f) t C gs → Applied G e f t C gs
  inverted (reads_apply {t = t} {u = u} {A = A} {As = As} {Bs = Bs} r s) =
      record { function = t; argument = u; from_type = A; before = As; after = Bs; term_is = refl; given_is = refl; reads_function = r; reads_argument = s }

  pub of_known : {G : List Ty} {h : Head ℕ} {A C : Ty} {t : Raw} {gs : List Ty} → Reads made types G (known h A) t C gs → (t ≡ atom h) × (A ≡ C) × (gs ≡ [])
  of_known reads_known = (refl, refl, refl)

  pub record Split (e : Parts) (A B : Ty) (t : Raw) (gs : List Ty) : Type 0 where
    pub head : Raw
    pub body : Raw
    pub in_head : List Ty
    pub in_body : List Ty
    pub term_is : t ≡ application (application (atom (joiner A B)) head) body
    pub given_is : gs ≡ in_head ++ in_body
    pub reads_head : Reads made types [] e.head head A in_head
    pub reads_body : Reads made types [] e.body body B in_body

  pub first_of : {A B C D : Ty} → joiner_type A B ≡ arrow C (arrow D prop) → C ≡ A
  first_of e = cc

  pub second_of : {A B C D : Ty} → joiner_type A B ≡ arrow C (arrow D prop) → D ≡ B
  second_of e = cc

  pub split : {e : Parts} {A B : Ty} {t : Raw} {gs : List Ty} → Reads made types [] (joined e A B) t prop gs → Split e A B t gs
  split {e = e} {A = A} {B = B} r =
      let o = inverted r in
      let i = inverted o.reads_function in
      let k = of_known i.reads_function in
      record {
        head = i.argument;
        body = o.argument;
        in_head = i.after;
        in_body = o.after;
        term_is = o.term_is ∙ ap (λ f. application f o.argument) (i.term_is ∙ ap (λ f. application f i.argument) k.0);
        given_is = o.given_is ∙ ap (λ gs. gs ++ o.after) (i.given_is ∙ ap (λ gs. gs ++ i.after) k.2);
        reads_head = subst (λ C. Reads made types [] e.head i.argument C i.after) (first_of k.1) i.reads_argument;
        reads_body = subst (λ C. Reads made types [] e.body o.argument C o.after) (second_of k.1) o.reads_argument;
      }

module _ (made : Making) (e : Parts) (A B : Ty) where
  abbrev pub apart_of : single.Reading made (joined e A B) prop → ClauseReading made e A B
  apart_of r =
      let s = split made r.types r.reads in
      record { head = s.head; body = s.body; types = r.types; in_head = s.in_head; in_body = s.in_body; reads_head = s.reads_head; reads_body = s.reads_body }

  abbrev pub together : ClauseReading made e A B → single.Reading made (joined e A B) prop
  together r = record {
    term = application (application (atom (joiner A B)) r.head) r.body;
    given = r.in_head ++ r.in_body;
    types = r.types;
    reads = reads_apply (reads_apply reads_known r.reads_head) r.reads_body;
  }

  pub term_apart : (r : single.Reading made (joined e A B) prop) → r.term ≡ application (application (atom (joiner A B)) (apart_of r).head) (apart_of r).body
  term_apart r = (split made r.types r.reads).term_is

  given_apart : (r : single.Reading made (joined e A B) prop) → r.given ≡ types_given made (apart_of r)
  given_apart r = (split made r.types r.reads).given_is

  pub same_parts : (f g t u : Raw) → application (application (atom (joiner A B)) f) t ≡ application (application (atom (joiner A B)) g) u → (f ≡ g) × (t ≡ u)
  same_parts f g t u h = ((cc), (cc))

  -- one reading of the whole is one of both
  abbrev pub one_apart : (t : Raw) → single.IsTheReading made (joined e A B) prop t → HasOneReading made e A B
  one_apart t is = record {
    reading = apart_of is.reading;
    alone = λ other. same_parts other.head (apart_of is.reading).head other.body (apart_of is.reading).body
        (is.alone (together other) ∙ (sym is.is ∙ term_apart is.reading));
  }

  pub none_apart : single.HasNoReading made (joined e A B) prop → HasNoReading made e A B
  none_apart none r = none (together r)

  differ_apart : (k : ℕ) → single.Differ made (joined e A B) prop k → Differ made e A B k
  differ_apart k d = record {
    one = apart_of d.one;
    other = apart_of d.other;
    apart = λ h. d.apart (ap (λ gs. get_or gs k prop) (given_apart d.one) ∙ (h ∙ sym (ap (λ gs. get_or gs k prop) (given_apart d.other))));
  }

  differ_together : (k : ℕ) → Differ made e A B k → single.Differ made (joined e A B) prop k
  differ_together k d = record { one = together d.one; other = together d.other; apart = d.apart }

  pub open_apart : (p : ℕ) → single.IsFirstOpen made (joined e A B) prop p → IsFirstOpen made e A B p
  open_apart p f = record {
    number = f.number;
    within = f.within;
    place_is = f.place_is;
    differ = differ_apart f.number f.differ;
    first = λ k l d. f.first k l (differ_together k d);
  }
