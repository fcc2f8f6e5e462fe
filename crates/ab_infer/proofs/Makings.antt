-- Where two makings agree on the free names of an expression, its readings by the one are those by the other.
use Rattle.std.specs.Prelude.{unwrap_or}
use Rattle.std.proofs.Common.{◌≡◌, ℕ, List, [], ◌∷◌, Some, sym, ◌∙◌, ap, subst}
use Rattle.ab_term.specs.Types.{Ty}
use Rattle.ab_term.specs.Terms.{Head, nominal}
use Rattle.ab_term.specs.Beta.{atom}
use Rattle.ab_meaning.specs.ResolvedNames.{Name, Resolved, free}
use Rattle.ab_meaning.specs.Scopes.{nominal_number}
use Rattle.ab_meaning.specs.Readings.{Making, Raw, Reads, reads_bound, reads_known, reads_free, reads_apply, reads_behind, reads_abs, reads_equal, reads_bind}
use Rattle.ab_meaning.specs.ReadingCounts.{Reading, IsTheReading, HasNoReading, Differ, IsFirstOpen}
use Rattle.ab_infer.specs.Outcomes.{nominal_of}
use Rattle.ab_meaning.specs.Terms.{made, constant_named}
use Rattle.ab_infer.proofs.MeaningNames.{NamesAre}

-- a nominal name stands for the constant of its number
pub made_is : (x : Name) (n : ℕ) → nominal_number x ≡ Some n → (A : Ty) → made x A ≡ nominal_of x A
made_is x n e A = ap (λ k. constant_named x k A) e ∙ sym (ap (λ k. nominal (record { number = unwrap_or k 0; type = A })) e)

module _ (Known : Head ℕ → Ty → Type 0) (Free : Name → Type 0) (one other : Making) (same : (x : Name) → Free x → (A : Ty) → one x A ≡ other x A) where
  pub reads_too : {types : Name → Ty} {G : List Ty} {e : Resolved} {t : Raw} {A : Ty} {As : List Ty} → NamesAre Known Free e → Reads one types G e t A As → Reads other types G e t A As
  reads_too n (reads_bound e) = reads_bound e
  reads_too n reads_known = reads_known
  reads_too {types = types} {G = G} n (reads_free {x = x} {p = p} f) =
      subst (λ h. Reads other types G (free x p) (atom h) (types x) (types x ∷ [])) (sym (same x n (types x))) (reads_free f)
  reads_too n (reads_apply r s) = reads_apply (reads_too n.0 r) (reads_too n.1 s)
  reads_too n (reads_behind r s) = reads_behind (reads_too n.0 r) (reads_too n.1 s)
  reads_too n (reads_abs f r) = reads_abs f (reads_too n r)
  reads_too n (reads_equal r s) = reads_equal (reads_too n.0 r) (reads_too n.1 s)
  reads_too n (reads_bind f k r) = reads_bind f k (reads_too n r)

  pub reading_too : (e : Resolved) (A : Ty) → NamesAre Known Free e → Reading one e A → Reading other e A
  reading_too e A n r = record { term = r.term; given = r.given; types = r.types; reads = reads_too n r.reads }

module _ (Known : Head ℕ → Ty → Type 0) (Free : Name → Type 0) (one other : Making) (same : (x : Name) → Free x → (A : Ty) → one x A ≡ other x A)
    (e : Resolved) (A : Ty) (n : NamesAre Known Free e) where
  to : Reading one e A → Reading other e A
  to r = reading_too Known Free one other same e A n r

  from : Reading other e A → Reading one e A
  from r = reading_too Known Free other one (λ x f B. sym (same x f B)) e A n r

  pub one_too : (t : Raw) → IsTheReading one e A t → IsTheReading other e A t
  unfolding to from reading_too
  one_too t is = record { reading = to is.reading; is = is.is; alone = λ r. is.alone (from r) }

  pub none_too : HasNoReading one e A → HasNoReading other e A
  none_too nothing r = nothing (from r)

  differ_too : (k : ℕ) → Differ one e A k → Differ other e A k
  unfolding to reading_too
  differ_too k d = record { one = to d.one; other = to d.other; apart = d.apart }

  differ_from : (k : ℕ) → Differ other e A k → Differ one e A k
  unfolding from reading_too
  differ_from k d = record { one = from d.one; other = from d.other; apart = d.apart }

  pub open_too : (p : ℕ) → IsFirstOpen one e A p → IsFirstOpen other e A p
  open_too p f = record {
    number = f.number;
    within = f.within;
    place_is = f.place_is;
    differ = differ_too f.number f.differ;
    first = λ k l d. f.first k l (differ_from k d);
  }
