-- Which numbers the variables of a clause are given makes no difference to what it means.
use Rattle.std.specs.Prelude.{Ok, not, ◌&&◌}
use Rattle.std.proofs.Common.{◌≡◌, ◌↔◌, ℕ, suc, ◌+◌, ◌-◌, Bool, List, [], ◌∷◌, map, refl, sym, ap, ◌∙◌, subst, arith}
use Rattle.ab_term.specs.Types.{Ty, prop, same_type}
use Rattle.ab_term.specs.Terms.{Head, constant, logical, nominal, variable, index, lam, spine, Read}
use Rattle.ab_term.specs.Typing.{Signature}
use Rattle.ab_term.specs.Beta.{atom, abstraction, application}
use Rattle.ab_term.specs.Variables.{variables}
use Rattle.ab_term.specs.Sameness.{same_number}
use Rattle.ab_term.specs.Translation.{translate_head}
use Rattle.ab_grammar.specs.CommandTrees as written
use Rattle.ab_unifiers.proofs.Agreeing.{contains_holds}
use Rattle.ab_unifiers.proofs.Changes.{agreeing}
use Rattle.ab_meaning.specs.ResolvedNames.{Name, Resolved, free, known}
use Rattle.ab_meaning.specs.Readings.{Raw, Making, Reads, reads_bound, reads_known, reads_free, reads_apply, reads_behind, reads_abs, reads_equal, reads_bind, equation, bound_term}
use Rattle.ab_meaning.specs.Normal.{normal_form}
use Rattle.ab_infer.specs.Heads.{KnownAre}
use Rattle.ab_formulas.specs.Clauses.{ClauseVariable, Clause}
use Rattle.ab_formulas.specs.CaseClauses.{case_of}
use Rattle.ab_formulas.specs.Faults.{IsRight, HasFault}
use Rattle.ab_declare.specs.KeptClauses.{kept_clause}
use Rattle.ab_declare.specs.ClauseReadings.{Parts, ClauseReading, HasOneReading}
use Rattle.ab_declare.specs.ClauseNumbering.{AreOne}
use Rattle.ab_declare.specs.ClauseMeanings.{variable_names, variable_from, variables_from, place_in, is_under_nabla, closes_body, body_type, parts_found, IsKeptAs, ClauseMeans}
use Rattle.ab_declare.proofs.Resolving.{IsPlain, IsFine, are_plain}
use Rattle.ab_declare.proofs.Renumbered.{moved, moved_variable, moved_clause, T, normal_form_moved, kept_moved, case_moved}
use Rattle.ab_declare.proofs.Closed.{kept_within}
use Rattle.ab_declare.proofs.Faulty.{right_moved, fault_moved}
use Rattle.ab_declare.proofs.Proposed.{within_head, within_body}

module _ (n : ℕ) where
  abbrev on : ℕ → ℕ
  on k = n + k

  abbrev off : ℕ → ℕ
  off k = k - n

  different : (i j : ℕ) → on i ≡ on j → i ≡ j
  different i j e = omega (arith, e)

  abbrev agree : (i j : ℕ) → same_number (on i) (on j) ≡ same_number i j
  agree = agreeing on different

  plain_still : (h : Head ℕ) → IsPlain h → translate_head on h ≡ h
  plain_still (constant c) p = refl
  plain_still (logical l) p = refl
  plain_still (nominal a) p = refl
  plain_still (variable y) p = absurd p.0
  plain_still (index i) p = refl

  head_off : (h : Head ℕ) → translate_head off (translate_head on h) ≡ h
  head_off (constant c) = refl
  head_off (logical l) = refl
  head_off (nominal a) = refl
  head_off (variable y) = let e : n + y.name - n ≡ y.name = omega arith in ap (λ k. variable (record { name = k; type = y.type })) e
  head_off (index i) = refl

  moved_off : (t : Raw) → moved off (moved on t) ≡ t
  moved_off (atom h) = ap atom (head_off h)
  moved_off (abstraction A x t) = ap (abstraction A x) (moved_off t)
  moved_off (application t u) = ap (λ r. application r (moved off (moved on u))) (moved_off t) ∙ ap (application t) (moved_off u)

  same_moved : (t u : Raw) → moved on t ≡ moved on u → t ≡ u
  same_moved t u e = sym (moved_off t) ∙ (ap (moved off) e ∙ moved_off u)

  module _ (names : List Name) where
    abbrev first : Making
    first = variable_from 0 names

    abbrev later : Making
    later = variable_from n names

    same_made : (x : Name) (A : Ty) → translate_head on (first x A) ≡ later x A
    same_made x A = let e : n + (0 + place_in names x) ≡ n + place_in names x = omega arith in ap (λ k. variable (record { name = k; type = A })) e

    module _ (types : Name → Ty) where
      forth : {G : List Ty} {e : Resolved} {t : Raw} {A : Ty} {As : List Ty} → KnownAre IsPlain (Unit {0}) e → Reads first types G e t A As → Reads later types G e (moved on t) A As
      forth k (reads_bound at) = reads_bound at
      forth {G = G} k (reads_known {h = h} {A = A}) = subst (λ g. Reads later types G (known h A) (atom g) A []) (sym (plain_still h k)) reads_known
      forth {G = G} k (reads_free {x = x} {p = p} f) = subst (λ g. Reads later types G (free x p) (atom g) (types x) (types x ∷ [])) (sym (same_made x (types x))) (reads_free f)
      forth k (reads_apply r s) = reads_apply (forth k.0 r) (forth k.1 s)
      forth k (reads_behind r s) = reads_behind (forth k.0 r) (forth k.1 s)
      forth k (reads_abs f r) = reads_abs f (forth k r)
      forth k (reads_equal r s) = reads_equal (forth k.0 r) (forth k.1 s)
      forth k (reads_bind f w r) = reads_bind f w (forth k r)

      pub back : {G : List Ty} {e : Resolved} {t : Raw} {A : Ty} {As : List Ty} → KnownAre IsPlain (Unit {0}) e → Reads later types G e t A As → (u : Raw) × Reads first types G e u A As × (t ≡ moved on u)
      back k (reads_bound {i = i} at) = (atom (index i), reads_bound at, refl)
      back k (reads_known {h = h}) = (atom h, reads_known, ap atom (sym (plain_still h k)))
      back k (reads_free {x = x} f) = (atom (first x (types x)), reads_free f, ap atom (sym (same_made x (types x))))
      back k (reads_apply {u = u} r s) =
          let a = back k.0 r in
          let b = back k.1 s in
          (application a.0 b.0, reads_apply a.1 b.1, ap (λ f. application f u) a.2 ∙ ap (application (moved on a.0)) b.2)
      back k (reads_behind {t = t} {u = u} r s) =
          let a = back k.0 r in
          let b = back k.1 s in
          (application b.0 a.0, reads_behind a.1 b.1, ap (λ f. application f u) b.2 ∙ ap (application (moved on b.0)) a.2)
      back k (reads_abs {x = x} {A = A} f r) = let a = back k r in (abstraction A x a.0, reads_abs f a.1, ap (abstraction A x) a.2)
      back k (reads_equal {u = u} {A = A} r s) =
          let a = back k.0 r in
          let b = back k.1 s in
          (equation A a.0 b.0, reads_equal a.1 b.1, ap (λ t. equation A t u) a.2 ∙ ap (equation A (moved on a.0)) b.2)
      back k (reads_bind {q = q} {x = x} {A = A} f w r) = let a = back k r in (bound_term q x A a.0, reads_bind f w a.1, ap (bound_term q x A) a.2)

    variables_moved : (m : ℕ) (types : Name → Ty) (xs : List Name) → variables_from (n + m) types xs ≡ map (moved_variable on) (variables_from m types xs)
    variables_moved m types [] = refl
    variables_moved m types (x ∷ xs) =
        let e : suc (n + m) ≡ n + suc m = omega arith in
        ap (λ vs. record { number = n + m; type = types x; hint = x } ∷ vs) (ap (λ k. variables_from k types xs) e ∙ variables_moved (suc m) types xs)

nabla_moved : (f : ℕ → ℕ) (t : Read) → is_under_nabla (T f t) ≡ is_under_nabla t
nabla_moved f (lam A x t) = refl
nabla_moved f (spine (constant c) ts) = refl
nabla_moved f (spine (logical l) ts) = refl
nabla_moved f (spine (nominal a) ts) = refl
nabla_moved f (spine (variable y) ts) = refl
nabla_moved f (spine (index i) ts) = refl

module _ (sg : Signature) (n : ℕ) (e : Parts) (A B : Ty) (fine_head : IsFine sg e.head) (fine_body : IsFine sg e.body) where
  abbrev pub names : List Name
  names = variable_names e

  pub plain_head : KnownAre IsPlain (Unit {0}) e.head
  plain_head = are_plain sg e.head fine_head

  pub plain_body : KnownAre IsPlain (Unit {0}) e.body
  plain_body = are_plain sg e.body fine_body

  abbrev pub from_first : ClauseReading (variable_from n names) e A B → ClauseReading (variable_from 0 names) e A B
  from_first r =
      let h = back n names r.types plain_head r.reads_head in
      let b = back n names r.types plain_body r.reads_body in
      record { head = h.0; body = b.0; types = r.types; in_head = r.in_head; in_body = r.in_body; reads_head = h.1; reads_body = b.1 }

  abbrev to_later : ClauseReading (variable_from 0 names) e A B → ClauseReading (variable_from n names) e A B
  to_later r = record {
    head = moved (on n) r.head;
    body = moved (on n) r.body;
    types = r.types;
    in_head = r.in_head;
    in_body = r.in_body;
    reads_head = forth n names r.types plain_head r.reads_head;
    reads_body = forth n names r.types plain_body r.reads_body;
  }

  head_moved : (r : ClauseReading (variable_from n names) e A B) → r.head ≡ moved (on n) (from_first r).head
  head_moved r = (back n names r.types plain_head r.reads_head).2

  body_moved : (r : ClauseReading (variable_from n names) e A B) → r.body ≡ moved (on n) (from_first r).body
  body_moved r = (back n names r.types plain_body r.reads_body).2

  abbrev one_first : HasOneReading (variable_from n names) e A B → HasOneReading (variable_from 0 names) e A B
  one_first one = record {
    reading = from_first one.reading;
    alone = λ other. (
      same_moved n other.head (from_first one.reading).head ((one.alone (to_later other)).0 ∙ head_moved one.reading),
      same_moved n other.body (from_first one.reading).body ((one.alone (to_later other)).1 ∙ body_moved one.reading),
    );
  }

  module _ (k : Clause) (kept : IsKeptAs sg n e A B k) where
    abbrev pub r : ClauseReading (variable_from 0 names) e A B
    r = from_first kept.one.reading

    abbrev pub head : Read
    head = normal_form sg [] r.head

    abbrev pub body : Read
    body = normal_form sg [] r.body

    abbrev pub closes : Bool
    closes = closes_body A head

    abbrev pub vs : List ClauseVariable
    vs = variables_from 0 r.types names

    abbrev pub first_clause : Clause
    first_clause = kept_clause closes vs head body

    head_is : normal_form sg [] kept.one.reading.head ≡ T (on n) head
    head_is = ap (normal_form sg []) (head_moved kept.one.reading) ∙ sym (normal_form_moved (on n) sg r.head)

    body_is : normal_form sg [] kept.one.reading.body ≡ T (on n) body
    body_is = ap (normal_form sg []) (body_moved kept.one.reading) ∙ sym (normal_form_moved (on n) sg r.body)

    variables_are : variables_from n r.types names ≡ map (moved_variable (on n)) vs
    variables_are = let e : n ≡ n + 0 = omega arith in ap (λ i. variables_from i r.types names) e ∙ variables_moved n names 0 r.types names

    clause_is : k ≡ moved_clause (on n) first_clause
    clause_is =
        kept.is
        ∙ (ap (λ h. kept_clause (closes_body A h) (variables_from n r.types names) h (normal_form sg [] kept.one.reading.body)) head_is
        ∙ (ap (λ b. kept_clause (closes_body A (T (on n) head)) (variables_from n r.types names) (T (on n) head) b) body_is
        ∙ (ap (λ c. kept_clause (same_type A prop && not c) (variables_from n r.types names) (T (on n) head) (T (on n) body)) (nabla_moved (on n) head)
        ∙ (ap (λ ws. kept_clause closes ws (T (on n) head) (T (on n) body)) variables_are
        ∙ kept_moved (on n) (agree n) closes vs head body))))

    same_case : case_of k ≡ case_of first_clause
    same_case =
        let w = kept_within closes vs head body (within_head sg 0 e A B fine_head fine_body r) (within_body sg 0 e A B fine_head fine_body r) in
        ap case_of clause_is
        ∙ case_moved (on n) (agree n) first_clause (λ y m. w.0 y (contains_holds (variables first_clause.head) y m)) (λ y m. w.1 y (contains_holds (variables first_clause.body) y m))

    pub first_kept : IsKeptAs sg 0 e A B first_clause
    first_kept = record { one = one_first kept.one; is = refl }

    pub one_clause : AreOne k first_clause
    one_clause = record {
      case = same_case;
      right = λ ps. subst (λ c. IsRight ps c ↔ IsRight ps first_clause) (sym clause_is) (right_moved (on n) ps first_clause);
      faults = λ ps i f. subst (λ c. HasFault ps i c f ↔ HasFault ps i first_clause f) (sym clause_is) (fault_moved (on n) ps i first_clause f);
    }

-- THE CLAUSE THAT IS KEPT, with whatever numbers, is the one that is meant
pub means : (kinds : List Name) (sg : Signature) (c : written.Clause) (A : Ty) (n : ℕ) (e : Parts) (k : Clause) → IsFine sg e.head → IsFine sg e.body → parts_found kinds sg c ≡ Ok e
    → IsKeptAs sg n e A (body_type A c.body) k → ClauseMeans kinds sg c A (case_of k)
means kinds sg c A n e k fine_head fine_body found kept = record {
  parts = e;
  names = found;
  kept = first_clause sg n e A (body_type A c.body) fine_head fine_body k kept;
  reads = first_kept sg n e A (body_type A c.body) fine_head fine_body k kept;
  is = same_case sg n e A (body_type A c.body) fine_head fine_body k kept;
}
