-- Marks that are raised for one thing after another.
use Rattle.std.proofs.Common.{◌≡◌, ◌⊎◌, inl, inr, ℕ, ◌+◌, ◌<◌, ◌≤◌, List, length, get_or, refl, sym, ◌∙◌, subst, arith}
use Rattle.std.specs.Prelude.{All, slice_get, Some}
use Rattle.std.specs.List.{AllWithin}
use Rattle.std.proofs.lemmas.Option.{get_or_from_slice_get}
use Rattle.std.proofs.lemmas.List.Elements.{AllWithin-more, at_read}
use Rattle.ab_store.specs.declared.node.TermId.{TermId}
use Rattle.ab_store.specs.declared.node.CellId.{CellId}
use Rattle.ab_store.specs.declared.mark.Mark.{Mark}
use Rattle.ab_store.specs.Marks.{to_term, to_cell}
use Rattle.ab_logic.specs.Worlds.{Holds, HoldsCell}
use Rattle.ab_logic.specs.declared.world.World.{World}
use Rattle.ab_remains.specs.RaisedMarks.{IsRaised, IsRaisedFor}

below_or_not : (a b : ℕ) → (a < b) ⊎ (b ≤ a)
below_or_not a b = search arith

-- no mark is raised for what needs none
pub raised_not : (w : World) (m : Mark) (K H : World → Type 0) → ((v : World) → K v) → IsRaised w K H m m
raised_not w m K H all = record {
  bindings = refl;
  later = (omega arith, omega arith, omega arith);
  within = λ h. h;
  enough = λ v h. all v;
  least = λ v h held. h;
}

module _ (w : World) (m r : Mark) where
  pub raised_term : (t : TermId) → (Holds w t → r ≡ to_term m t) → (¬ Holds w t → r ≡ m) → IsRaisedFor w (λ v. Holds v t) m r
  raised_term t held absent = elim (below_or_not t.0 (length w.store.nodes)) [
    | inl h ↦ subst (IsRaisedFor w (λ v. Holds v t) m) (sym (held h)) (record {
      bindings = refl;
      later = (omega arith, omega arith, omega arith);
      within = λ reaches. (omega (arith, h, reaches.0), reaches.1);
      enough = λ v reaches there. omega (arith, reaches.0);
      least = λ v reaches there. (omega (arith, there, reaches.0), reaches.1);
    })
    | inr h ↦ subst (IsRaisedFor w (λ v. Holds v t) m) (sym (absent (λ there. omega (arith, h, there))))
        (record {
          bindings = refl;
          later = (omega arith, omega arith, omega arith);
          within = λ reaches. reaches;
          enough = λ v reaches there. absurd (omega (arith, h, there));
          least = λ v reaches there. reaches;
        })
  ]

  pub raised_cell : (c : CellId) → (HoldsCell w c → r ≡ to_cell m c) → (¬ HoldsCell w c → r ≡ m) → IsRaisedFor w (λ v. HoldsCell v c) m r
  raised_cell c held absent = elim (below_or_not c.0 (length w.store.cells)) [
    | inl h ↦ subst (IsRaisedFor w (λ v. HoldsCell v c) m) (sym (held h)) (record {
      bindings = refl;
      later = (omega arith, omega arith, omega arith);
      within = λ reaches. (reaches.0, omega (arith, h, reaches.1));
      enough = λ v reaches there. omega (arith, reaches.1);
      least = λ v reaches there. (reaches.0, omega (arith, there, reaches.1));
    })
    | inr h ↦ subst (IsRaisedFor w (λ v. HoldsCell v c) m) (sym (absent (λ there. omega (arith, h, there))))
        (record {
          bindings = refl;
          later = (omega arith, omega arith, omega arith);
          within = λ reaches. reaches;
          enough = λ v reaches there. absurd (omega (arith, h, there));
          least = λ v reaches there. reaches;
        })
  ]

module _ (w : World) (a b c : Mark) (K H K' H' : World → Type 0) where
  -- for both of two things
  pub raised_both : IsRaised w K H a b → IsRaised w K' H' b c → IsRaised w (λ v. K v × K' v) (λ v. H v × H' v) a c
  raised_both x y = record {
    bindings = y.bindings ∙ x.bindings;
    later = (omega (arith, x.later.0, y.later.0), omega (arith, x.later.1, y.later.1), omega (arith, x.later.2, y.later.2));
    within = λ reaches. y.within (x.within reaches);
    enough = λ v reaches. (x.enough v (omega (arith, reaches.0, y.later.1), omega (arith, reaches.1, y.later.2)), y.enough v reaches);
    least = λ v reaches h. y.least v (x.least v reaches h.0) h.1;
  }

-- for the same thing in other words
pub raised_as : (w : World) (a b : Mark) (K H K' H' : World → Type 0) → ((v : World) → K v → K' v) → ((v : World) → H' v → H v) → IsRaised w K H a b → IsRaised w K' H' a b
raised_as w a b K H K' H' keeps holds x = record {
  bindings = x.bindings;
  later = x.later;
  within = x.within;
  enough = λ v reaches. keeps v (x.enough v reaches);
  least = λ v reaches h. x.least v reaches (holds v h);
}

-- for one thing more of a list
module _ {X : Type 0} (w : World) (xs : List X) (K H : World → X → Type 0) (low i : ℕ) (a b : Mark) where
  pub raised_one_more : (c : Mark) (x : X) → low ≤ i → i < length xs → x ≡ get_or xs i x
      → IsRaised w (λ v. AllWithin (K v) xs low i) (λ v. AllWithin (H v) xs low i) a b → IsRaised w (λ v. K v x) (λ v. H v x) b c
      → IsRaised w (λ v. AllWithin (K v) xs low (i + 1)) (λ v. AllWithin (H v) xs low (i + 1)) a c
  raised_one_more c x from there is so_far one =
      raised_as w a c (λ v. AllWithin (K v) xs low i × K v x) (λ v. AllWithin (H v) xs low i × H v x) (λ v. AllWithin (K v) xs low (i + 1)) (λ v. AllWithin (H v) xs low (i + 1))
      (λ v h. AllWithin-more (K v) xs low i h.0 (at_read xs (K v) i x there is h.1))
      (λ v h. (λ k d l u. h k d l (omega (arith, u)), subst (H v) (sym is) (h i x from (omega arith))))
      (raised_both w a b c (λ v. AllWithin (K v) xs low i) (λ v. AllWithin (H v) xs low i) (λ v. K v x) (λ v. H v x) so_far one)

  pub raised_none_yet : i ≤ low → IsRaised w (λ v. AllWithin (K v) xs low i) (λ v. AllWithin (H v) xs low i) a a
  raised_none_yet e = raised_not w a (λ v. AllWithin (K v) xs low i) (λ v. AllWithin (H v) xs low i) (λ v k d l u. absurd (omega (arith, e, l, u)))

-- for all of a list
pub raised_for_all : {X : Type 0} (w : World) (xs : List X) (H : World → X → Type 0) (i : ℕ) (a b : Mark) → length xs ≤ i → i ≤ length xs
    → IsRaised w (λ v. AllWithin (λ x. H w x → H v x) xs 0 i) (λ v. AllWithin (H v) xs 0 i) a b → IsRaisedFor w (λ v. All (H v) xs) a b
raised_for_all w xs H i a b high low =
    raised_as w a b (λ v. AllWithin (λ x. H w x → H v x) xs 0 i) (λ v. AllWithin (H v) xs 0 i) (λ v. All (H w) xs → All (H v) xs) (λ v. All (H v) xs)
    (λ v h all k d u. h k d (omega arith) (omega (arith, high, u)) (all k d u))
    (λ v h k d l u. h k d (omega (arith, low, u)))

-- what holds while a mark is raised for the things of a list behind the first so many
pub record IsRaisedSoFar {X : Type 0} (w : World) (xs : List X) (H : World → X → Type 0) (low i : ℕ) (a b : Mark) : Type 0 where
  pub above : low ≤ i
  pub place : (i ≡ low) ⊎ (i ≤ length xs)
  pub raised : IsRaised w (λ v. AllWithin (λ x. H w x → H v x) xs low i) (λ v. AllWithin (H v) xs low i) a b

module _ {X : Type 0} (w : World) (xs : List X) (H : World → X → Type 0) (low i : ℕ) (a b : Mark) where
  pub begun_raising : i ≡ low → a ≡ b → IsRaisedSoFar w xs H low i a b
  begun_raising e same = subst (IsRaisedSoFar w xs H low i a) same (record {
    above = omega (arith, e);
    place = inl e;
    raised = raised_none_yet w xs (λ v x. H w x → H v x) H low i a a (omega (arith, e));
  })

  pub raised_further : (c : Mark) (x : X) → i < length xs → slice_get xs i ≡ Some x → IsRaisedSoFar w xs H low i a b → IsRaised w (λ v. H w x → H v x) (λ v. H v x) b c → IsRaisedSoFar w xs H low (i + 1) a c
  raised_further c x there is so_far one = record {
    above = omega (arith, so_far.above);
    place = inr (omega (arith, there));
    raised = raised_one_more w xs (λ v x. H w x → H v x) H low i a b c x so_far.above there (sym (get_or_from_slice_get xs i x x is)) so_far.raised one;
  }

  pub raised_for_each : length xs ≤ i → IsRaisedSoFar w xs H low i a b → IsRaised w (λ v. AllWithin (λ x. H w x → H v x) xs low (length xs)) (λ v. AllWithin (H v) xs low (length xs)) a b
  raised_for_each high so_far =
      raised_as w a b (λ v. AllWithin (λ x. H w x → H v x) xs low i) (λ v. AllWithin (H v) xs low i) (λ v. AllWithin (λ x. H w x → H v x) xs low (length xs)) (λ v. AllWithin (H v) xs low (length xs))
      (λ v h k d l u. h k d l (omega (arith, high, u)))
      (λ v h k d l u. h k d l (within so_far.place l u))
      so_far.raised
    where
      within : {k : ℕ} → (i ≡ low) ⊎ (i ≤ length xs) → low ≤ k → k < i → k < length xs
      within (inl e) l u = absurd (omega (arith, e, l, u))
      within (inr e) l u = omega (arith, e, u)

  pub raised_for_rest : length xs ≤ i → IsRaisedSoFar w xs H low i a b → IsRaisedFor w (λ v. AllWithin (H v) xs low (length xs)) a b
  raised_for_rest high so_far =
      raised_as w a b (λ v. AllWithin (λ x. H w x → H v x) xs low (length xs)) (λ v. AllWithin (H v) xs low (length xs)) (λ v. AllWithin (H w) xs low (length xs) → AllWithin (H v) xs low (length xs)) (λ v. AllWithin (H v) xs low (length xs))
      (λ v h all k d l u. h k d l u (all k d l u))
      (λ v h. h)
      (raised_for_each high so_far)

  pub raised_for_each_long : (n : ℕ) → length xs ≡ n → length xs ≤ i → IsRaisedSoFar w xs H low i a b → IsRaised w (λ v. AllWithin (λ x. H w x → H v x) xs low n) (λ v. AllWithin (H v) xs low n) a b
  raised_for_each_long n long high so_far = subst (λ k. IsRaised w (λ v. AllWithin (λ x. H w x → H v x) xs low k) (λ v. AllWithin (H v) xs low k) a b) long (raised_for_each high so_far)
