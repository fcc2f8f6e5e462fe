-- The walk over all variables, and the solutions that it finds.
use Rattle.std.proofs.Common.{◌≡◌, ℕ, ◌+◌, ◌<◌, ◌≤◌, ◌⊎◌, inl, inr, List, [], ◌∷◌, ◌++◌, length, get_or, replicate, refl, sym, ◌∙◌, ap, subst, arith}
use Rattle.std.proofs.lemmas.Bool.{cases_lt}
use Rattle.std.proofs.lemmas.List.{length-replicate, get_or-replicate, length-append, get_or_append_left, get_or_push, get_or_past}
use Rattle.ab_term.specs.Types.{Ty, prop}
use Rattle.ab_store.specs.ab_types.specs.Entries.{Table, IsExtendedBy}
use Rattle.ab_store.specs.ab_types.specs.Sound.{IsTable}
use Rattle.ab_store.specs.ab_types.proofs.Entries.{extended_by_itself, extended_twice}
use Rattle.ab_inference.specs.declared.shape.Shape.{Shape}
use Rattle.ab_inference.specs.declared.assignments.Settled.{Settled}
use Rattle.ab_inference.specs.declared.assignments.Mark.{Mark}
use Rattle.ab_inference.specs.declared.assignments.Mark.TheVariants.{Unseen, Active, Done}
use Rattle.ab_inference.specs.Solutions.{Assignment, Fits, Solves, AreHeld, HasNoSolution, shape_at}
use Rattle.ab_inference.specs.Assignments.{Tells, Solved, settled_at, mark_at, IsDone, Finished, Settling, AreIdle, IsSettled, Walked}
use Rattle.ab_inference.proofs.Tables.{solves_on, solves_back}
use Rattle.ab_inference.proofs.Marking.{unseen_is_not_done, unseen_is_not_active}

pub record Walking (first types : Table) (shapes : List Shape) (marks : List Mark) (n : ℕ) : Type 0 where
  pub table : IsTable types
  pub more : IsExtendedBy first types
  pub walked : Walked types shapes marks n

all_unseen : (n k : ℕ) → mark_at (replicate n Unseen) k ≡ Unseen
all_unseen n k = go (cases_lt k n)
  where
    go : (k < n) ⊎ (n ≤ k) → mark_at (replicate n Unseen) k ≡ Unseen
    go (inl l) = get_or-replicate n k Unseen Unseen l
    go (inr l) = get_or_past (replicate n Unseen) k Unseen (omega (arith, length-replicate n Unseen))

pub walking_begins : (types : Table) (shapes : List Shape) (n : ℕ) → IsTable types → AreHeld types shapes → n ≡ length shapes → Walking types types shapes (replicate n Unseen) 0
walking_begins types shapes n table held e = record {
  table = table;
  more = extended_by_itself types;
  walked = record {
    settling = record {
      held = held;
      len = length-replicate n Unseen ∙ e;
      p = λ _. prop;
      q = λ _. prop;
      at = λ i s l d. absurd (unseen_is_not_done s (sym (all_unseen n i) ∙ d));
    };
    idle = λ y d. unseen_is_not_active (sym (all_unseen n y) ∙ d);
    done = λ k l. absurd (omega arith);
  };
}

pub walking_more : (first types new : Table) (shapes : List Shape) (marks later : List Mark) (n : ℕ) → n < length shapes → Walking first types shapes marks n → IsExtendedBy types new → IsTable new → IsSettled new shapes marks later n → Walking first new shapes later (n + 1)
walking_more first types new shapes marks later n l w more table h = record {
  table = table;
  more = extended_twice first types new w.more more;
  walked = record { settling = h.settling; idle = h.idle; done = λ k lk. go k lk (cases_lt k n) };
}
  where
    go : (k : ℕ) → k < n + 1 → (k < n) ⊎ (n ≤ k) → IsDone later k
    go k lk (inl b) = h.still k (omega arith) (w.walked.done k b)
    go k lk (inr b) = let same : n ≡ k = omega arith in subst (IsDone later) same h.done

pub none_walked : (first types : Table) (shapes : List Shape) (marks : List Mark) (n : ℕ) → AreHeld first shapes → Walking first types shapes marks n → HasNoSolution types shapes → HasNoSolution first shapes
none_walked first types shapes marks n held w none v h = none v (solves_on first types w.more shapes held v h)

module _ (first types : Table) (shapes : List Shape) (marks : List Mark) (n : ℕ) (held : AreHeld first shapes) (w : Walking first types shapes marks n) (e : n ≡ length shapes)
    (found : List Settled) (len : length found ≡ length shapes) (is : (k : ℕ) → k < length shapes → mark_at marks k ≡ Done (settled_at found k)) where
  abbrev kept : Settling types shapes marks
  kept = w.walked.settling

  at : (i : ℕ) → i < length shapes → Finished types shapes marks kept.p kept.q i (settled_at found i)
  at i l = kept.at i (settled_at found i) l (is i l)

  pub all_walked : Solved first types shapes found
  all_walked = record {
    len = len;
    p = kept.p;
    q = kept.q;
    p_solves = solves_back first types w.more shapes held kept.p (record { at = λ i l. (at i l).one_fits });
    q_solves = solves_back first types w.more shapes held kept.q (record { at = λ i l. (at i l).other_fits });
    held = λ i l. (at i l).within;
    p_is = λ i l. (at i l).is;
    tells = λ i l. let t = (at i l).tells in record {
      closed = t.closed;
      opened = t.opened;
      forced = λ v h. t.forced v (solves_on first types w.more shapes held v h);
      needs = λ v h. t.needs v (solves_on first types w.more shapes held v h);
    };
  }
