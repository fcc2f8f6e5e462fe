-- What is kept while equations are met one after another.
use Rattle.std.proofs.Common.{◌≡◌, ℕ, ◌+◌, ◌*◌, ◌≤◌, ◌<◌, List, [], ◌∷◌, ◌++◌, length, refl, sym, ◌∙◌, subst, arith}
use Rattle.std.proofs.lemmas.List.{length-append}
use Rattle.ab_store.specs.ab_types.specs.Entries.{Table}
use Rattle.ab_inference.specs.declared.shape.Shape.{Shape}
use Rattle.ab_inference.specs.declared.work.Wanted.{Wanted}
use Rattle.ab_inference.specs.declared.work.Wanted.TheVariants.{Equal, Is}
use Rattle.ab_inference.specs.Solutions.{Assignment, Solves, AreFormed, AreHeld, loose}
use Rattle.ab_inference.specs.Work.{WithinOne, Within, Meets, Turns, Fails, Moves, Meeting, Part}

pub record Working (types : Table) (old : List Shape) (w : Wanted) (new : List Shape) (work : List Wanted) : Type 0 where
  pub formed : AreFormed new
  pub held : AreHeld types new
  pub len : length new ≡ length old
  pub within : Within types (length old) work
  pub turns : Turns types old (w ∷ []) new work

meets_append : (types : Table) (v : Assignment) (xs ys : List Wanted) → Meets types v xs → Meets types v ys → Meets types v (xs ++ ys)
meets_append types v [] ys a b = b
meets_append types v (x ∷ xs) ys a b = (a.0, meets_append types v xs ys a.1 b)

meets_front : (types : Table) (v : Assignment) (xs ys : List Wanted) → Meets types v (xs ++ ys) → Meets types v xs × Meets types v ys
meets_front types v [] ys a = (tt, a)
meets_front types v (x ∷ xs) ys a = let h = meets_front types v xs ys a.1 in ((a.0, h.0), h.1)

within_append : (types : Table) (n : ℕ) (xs ys : List Wanted) → Within types n xs → Within types n ys → Within types n (xs ++ ys)
within_append types n [] ys a b = b
within_append types n (x ∷ xs) ys a b = (a.0, within_append types n xs ys a.1 b)

within_front : (types : Table) (n : ℕ) (xs ys : List Wanted) → Within types n (xs ++ ys) → Within types n xs × Within types n ys
within_front types n [] ys a = (tt, a)
within_front types n (x ∷ xs) ys a = let h = within_front types n xs ys a.1 in ((a.0, h.0), h.1)

pub begin : (types : Table) (s : List Shape) (w : Wanted) → AreFormed s → AreHeld types s → WithinOne types (length s) w → Working types s w s (w ∷ [])
begin types s w f held within = record {
  formed = f;
  held = held;
  len = refl;
  within = (within, tt);
  turns = record { back = λ v h m. (h, m); on = λ v h m. (h, m) };
}

module _ (types : Table) (old : List Shape) (w : Wanted) (s : List Shape) (all work : List Wanted) (next : Wanted) (k : Working types old w s all) (popped : all ≡ work ++ next ∷ []) where
  pub next_within : WithinOne types (length s) next
  next_within = subst (λ n. WithinOne types n next) (sym k.len) (within_front types (length old) work (next ∷ []) (subst (Within types (length old)) popped k.within)).1.0

  pub worked : (new : List Shape) (later : List Wanted) → length new ≡ length s → Moves types s next new work later → Working types old w new later
  worked new later len m = record {
    formed = m.formed;
    held = m.held;
    len = len ∙ k.len;
    within = subst (Within types (length old)) (sym m.later_is)
        (within_append types (length old) work m.more (within_front types (length old) work (next ∷ []) (subst (Within types (length old)) popped k.within)).0 (subst (λ n. Within types n m.more) (len ∙ k.len) m.within));
    turns = record {
      back = λ v h a.
          let p = meets_front types v work m.more (subst (Meets types v) m.later_is a) in
          let q = m.turns.back v h p.1 in
          k.turns.back v q.0 (subst (Meets types v) (sym popped) (meets_append types v work (next ∷ []) p.0 q.1));
      on = λ v h a.
          let q = k.turns.on v h a in
          let p = meets_front types v work (next ∷ []) (subst (Meets types v) popped q.1) in
          let r = m.turns.on v q.0 p.1 in
          (r.0, subst (Meets types v) (sym m.later_is) (meets_append types v work m.more p.0 r.1));
    };
  }

  pub work_falls : (new : List Shape) (later : List Wanted) → Moves types s next new work later → 2 * loose new + length later < 2 * loose s + length all
  work_falls new later m = omega (arith, m.falls, length-append work m.more, length-append work (next ∷ []), subst (λ xs. length xs ≡ length (work ++ m.more)) (sym m.later_is) refl, subst (λ xs. length xs ≡ length (work ++ next ∷ [])) (sym popped) refl)

  pub work_fails : Fails types s (next ∷ []) → Part types old w
  work_fails n v h a =
      let q = k.turns.on v h (a, tt) in
      let p = meets_front types v work (next ∷ []) (subst (Meets types v) popped q.1) in
      n v q.0 p.1

pub done : (types : Table) (old : List Shape) (w : Wanted) (s : List Shape) (all : List Wanted) → Working types old w s all → all ≡ [] → Meeting types old s w
done types old w s all k e = record {
  formed = k.formed;
  held = k.held;
  back = λ v h. (k.turns.back v h (subst (Meets types v) (sym e) tt)).0;
  equal = λ v h. (k.turns.back v h (subst (Meets types v) (sym e) tt)).1.0;
  on = λ v h m. (k.turns.on v h (m, tt)).0;
}
