-- Where no name is free, it makes no difference what free names stand for.
use Rattle.std.specs.Prelude.{ℕ, List}
use Rattle.ab_term.specs.Types.{Ty}
use Rattle.ab_term.specs.Terms.{Head}
use Rattle.ab_meaning.specs.ResolvedNames.{Name, Resolved}
use Rattle.ab_meaning.specs.Readings.{Making, Raw, Reads, reads_bound, reads_known, reads_free, reads_apply, reads_behind, reads_abs, reads_equal, reads_bind}
use Rattle.ab_meaning.specs.ReadingCounts.{Reading, IsTheReading, HasNoReading, Differ, IsFirstOpen}
use Rattle.ab_meaning.proofs.Heads.{ResolvedHas}

module _ (P : Head ℕ → Type 0) (made other : Making) where
  reads_too : {types : Name → Ty} {G : List Ty} {e : Resolved} {t : Raw} {A : Ty} {As : List Ty} → ResolvedHas P e → Reads made types G e t A As → Reads other types G e t A As
  reads_too h (reads_bound e) = reads_bound e
  reads_too h reads_known = reads_known
  reads_too h (reads_free f) = absurd h
  reads_too h (reads_apply r s) = reads_apply (reads_too h.0 r) (reads_too h.1 s)
  reads_too h (reads_behind r s) = reads_behind (reads_too h.0 r) (reads_too h.1 s)
  reads_too h (reads_abs f r) = reads_abs f (reads_too h r)
  reads_too h (reads_equal r s) = reads_equal (reads_too h.0 r) (reads_too h.1 s)
  reads_too h (reads_bind f k r) = reads_bind f k (reads_too h r)

  pub reading_too : (e : Resolved) (A : Ty) → ResolvedHas P e → Reading made e A → Reading other e A
  reading_too e A h r = record { term = r.term; given = r.given; types = r.types; reads = reads_too h r.reads }

module _ (P : Head ℕ → Type 0) (made other : Making) (e : Resolved) (A : Ty) (h : ResolvedHas P e) where
  pub one_too : (t : Raw) → IsTheReading made e A t → IsTheReading other e A t
  unfolding reading_too
  one_too t is = record { reading = reading_too P made other e A h is.reading; is = is.is; alone = λ r. is.alone (reading_too P other made e A h r) }

  pub none_too : HasNoReading made e A → HasNoReading other e A
  none_too n r = n (reading_too P other made e A h r)

  differ_too : (k : ℕ) → Differ made e A k → Differ other e A k
  unfolding reading_too
  differ_too k d = record { one = reading_too P made other e A h d.one; other = reading_too P made other e A h d.other; apart = d.apart }

module _ (P : Head ℕ → Type 0) (made other : Making) (e : Resolved) (A : Ty) (h : ResolvedHas P e) where
  pub open_too : (p : ℕ) → IsFirstOpen made e A p → IsFirstOpen other e A p
  open_too p f = record {
    number = f.number;
    within = f.within;
    place_is = f.place_is;
    differ = differ_too P made other e A h f.number f.differ;
    first = λ k l d. f.first k l (differ_too P other made e A h k d);
  }
