-- Each written clause has one reading, none or several; and so it means a clause of case analysis, or there is a cause why not.
use Rattle.std.proofs.Common.{◌≡◌, ◌⊎◌, inl, inr, ℕ, ◌<◌, List, length, get_or, None, Result, Ok, Err, refl, sym, ◌∙◌, arith, length-append}
use Rattle.ab_term.specs.Types.{Ty}
use Rattle.ab_term.specs.Typing.{Signature}
use Rattle.ab_grammar.specs.CommandTrees as written
use Rattle.ab_formulas.specs.Clauses.{Clause}
use Rattle.ab_formulas.specs.CaseClauses.{case_of}
use Rattle.ab_meaning.specs.ResolvedNames.{Name, places_of}
use Rattle.ab_meaning.specs.Readings.{Making}
use Rattle.ab_inference.specs.declared.fault.InferFault.{InferFault}
use Rattle.ab_inference.specs.declared.fault.InferFault.TheVariants.{Unknown, TypeClash, Untyped}
use Rattle.ab_declare.specs.declared.refusal.Refusal.{Refusal}
use Rattle.ab_declare.specs.declared.refusal.Refusal.TheVariants as told
use Rattle.ab_declare.specs.Refusals.{here, RefusedFor}
use Rattle.ab_declare.specs.ClauseReadings.{Parts, places_in, ClauseReading, types_given, HasOneReading, HasNoReading, Differ, IsFirstOpen}
use Rattle.ab_declare.specs.ClauseMeanings.{parts_found, body_type, numbered_names, IsKeptAs, ClauseMeans, Finds, ClauseMeansNothing}
use Rattle.ab_existence.specs.Certainty.{IsCertain}
use Rattle.ab_existence.proofs.Certain.{sure, and_so, and_also, there_or_not, least}
use Rattle.ab_answers.proofs.Readings.{parted, counted, determined, nowhere_different}

module _ (make : Making) (e : Parts) (A B : Ty) where
  -- there is a type for each place
  all_counted : (r : ClauseReading make e A B) → length (types_given make r) ≡ length (places_in e)
  all_counted r = omega (arith, counted make r.reads_head, counted make r.reads_body, length-append r.in_head r.in_body, length-append (places_of e.head) (places_of e.body))

  -- where no name is open, one reading is the reading
  alone : ((p : ℕ) → IsFirstOpen make e A B p → ⊥) → (r : ClauseReading make e A B) → HasOneReading make e A B
  alone none r = record {
    reading = r;
    alone = λ other.
        let lists : types_given make other ≡ types_given make r =
        nowhere_different make (types_given make other) (types_given make r) (all_counted other ∙ sym (all_counted r))
        (λ k below apart. least (λ n. (n < length (places_in e)) × Differ make e A B n) k (omega (arith, below, all_counted other), record { one = other; other = r; apart = apart })
        (λ first. none (get_or (places_in e) first.0 0) (record {
          number = first.0;
          within = first.1.has.0;
          place_is = refl;
          differ = first.1.has.1;
          first = λ m l d. first.1.first m l (omega (arith, l, first.1.has.0), d);
        }))) in
        let halves = parted other.in_head other.in_body r.in_head r.in_body (counted make other.reads_head ∙ sym (counted make r.reads_head)) lists in
        ((determined make other.reads_head r.reads_head refl halves.0).0, (determined make other.reads_body r.reads_body refl halves.1).0);
  }

  readings_counted : IsCertain (HasOneReading make e A B ⊎ (HasNoReading make e A B ⊎ ((p : ℕ) × IsFirstOpen make e A B p)))
  readings_counted =
      and_so (there_or_not ((p : ℕ) × IsFirstOpen make e A B p))
      (λ several. elim several [
        | inl p ↦ sure (inr (inr p))
        | inr none ↦ and_also (there_or_not (ClauseReading make e A B)) (λ some. elim some [ inl r ↦ inl (alone (λ p open_there. none (p, open_there)) r) | inr nothing_read ↦ inr (inl nothing_read) ])
      ])

-- THE CLAUSE IS KEPT SO, or there is a fault of it and what is told
abbrev pub IsRead : List Name → Signature → written.Clause → Ty → Clause → Type 0
IsRead kinds sg c A k = Finds kinds sg c (λ e. IsKeptAs sg 0 e A (body_type A c.body) k)

abbrev pub IsUnread : List Name → Signature → written.Clause → Ty → Refusal → Type 0
IsUnread kinds sg c A r = (f : InferFault) × ClauseMeansNothing kinds sg c A f × RefusedFor f r

pub clause_there : (kinds : List Name) (sg : Signature) (c : written.Clause) (e : Parts) → parts_found kinds sg c ≡ Ok e → (A : Ty)
    → IsCertain (((k : Clause) × IsRead kinds sg c A k) ⊎ ((r : Refusal) × IsUnread kinds sg c A r))
clause_there kinds sg c e found A =
    and_also (readings_counted (numbered_names e) e A (body_type A c.body))
    (λ counts. elim counts [
      | inl one ↦ inl (_, (e, found, record { one = one; is = refl }))
      | inr other ↦ elim other [
        | inl none ↦ inr (told.TypeClash (here c.place), (TypeClash c.place, (e, found, (none, refl)), refl))
        | inr several ↦ inr (told.Untyped (here several.0), (Untyped several.0, (e, found, several.1), refl))
      ]
    ])

-- with its names
pub clause_answered : (kinds : List Name) (sg : Signature) (c : written.Clause) (A : Ty) → IsCertain (((k : Clause) × IsRead kinds sg c A k) ⊎ ((r : Refusal) × IsUnread kinds sg c A r))
clause_answered kinds sg c A = by_names (parts_found kinds sg c) refl
  where
    by_names : (r : Result Parts Name) → parts_found kinds sg c ≡ r → IsCertain (((k : Clause) × IsRead kinds sg c A k) ⊎ ((r : Refusal) × IsUnread kinds sg c A r))
    by_names (Ok e) is = clause_there kinds sg c e is A
    by_names (Err x) is = sure (inr (told.Unknown x None, (Unknown x, is, refl)))

-- the clause of case analysis that it means
abbrev pub meant : (kinds : List Name) (sg : Signature) (c : written.Clause) (A : Ty) (k : Clause) → IsRead kinds sg c A k → ClauseMeans kinds sg c A (case_of k)
meant kinds sg c A k read = record { parts = read.0; names = read.1; kept = k; reads = read.2; is = refl }
