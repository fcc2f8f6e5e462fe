-- What is kept when a variable is marked.
use Rattle.std.proofs.Common.{◌≡◌, ◌≢◌, ℕ, ◌+◌, ◌<◌, ◌≤◌, ◌⊎◌, inl, inr, List, [], ◌∷◌, length, set, get_or, eqb, Bool, true, false, refl, sym, ◌∙◌, ap, subst, arith, eq-eqb}
use Rattle.std.specs.Prelude.{cond, ◌||◌}
use Rattle.std.proofs.lemmas.Bool.{cases_eq, cases_lt, ne_eqb}
use Rattle.std.proofs.lemmas.List.{length-set, get_or-set_same, get_or-set_other, get_or_past}
use Rattle.std.proofs.lemmas.List.Sums.{sum_by-set}
use Rattle.ab_term.specs.Types.{Ty, arrow, o, olist}
use Rattle.ab_store.specs.ab_types.specs.Entries.{Table, IsExtendedBy}
use Rattle.ab_store.specs.ab_types.specs.Ids.{HoldsType, type_of}
use Rattle.ab_inference.specs.declared.shape.Shape.{Shape}
use Rattle.ab_inference.specs.declared.shape.Shape.TheVariants.{Open, Link, Known, Arrow}
use Rattle.ab_inference.specs.declared.assignments.Settled.{Settled}
use Rattle.ab_inference.specs.declared.assignments.Mark.{Mark}
use Rattle.ab_inference.specs.declared.assignments.Mark.TheVariants.{Unseen, Active, Done}
use Rattle.ab_inference.specs.Solutions.{Assignment, Fits, Solves, Names, AreFormed, AreHeld, HeldShape, shape_at}
use Rattle.ab_inference.specs.Assignments.{Tells, mark_at, IsDone, PartsDone, Finishes, Finished, Settling, is_unseen, unseen}
use Rattle.ab_inference.proofs.Joining.{link_order, arrow_names}
use Rattle.ab_inference.proofs.Tables.{still_held, same_reading, fits_on, still_all_held, solves_back}
use Rattle.ab_inference.proofs.Telling.{tells_open, tells_known, tells_link, tells_arrow}

pub mark_same : (marks : List Mark) (i : ℕ) (m : Mark) → i < length marks → mark_at (set marks i m) i ≡ m
mark_same marks i m l = get_or-set_same marks i m Unseen l

pub mark_other : (marks : List Mark) (i k : ℕ) (m : Mark) → k ≢ i → mark_at (set marks i m) k ≡ mark_at marks k
mark_other marks i k m n = get_or-set_other marks i k m Unseen n

pub active_is_not_done : (s : Settled) → Active ≡ Done s → ⊥
active_is_not_done s e = cc

pub unseen_is_not_done : (s : Settled) → Unseen ≡ Done s → ⊥
unseen_is_not_done s e = cc

pub unseen_is_not_active : Unseen ≡ Active → ⊥
unseen_is_not_active e = cc

pub done_inj : {s t : Settled} → Done s ≡ Done t → s ≡ t
done_inj e = cc

abbrev pub put : Assignment → ℕ → Ty → Assignment
put q i B k = cond (eqb k i) B (q k)

pub put_same : (q : Assignment) (i : ℕ) (B : Ty) → put q i B i ≡ B
put_same q i B = ap (λ b. cond b B (q i)) (eq-eqb i i refl)

pub put_other : (q : Assignment) (i : ℕ) (B : Ty) (k : ℕ) → k ≢ i → put q i B k ≡ q k
put_other q i B k n = ap (λ b. cond b B (q k)) (ne_eqb k i n)

-- two assignments agree on what a shape names
abbrev pub AgreeOn : Assignment → Assignment → Shape → Type 0
AgreeOn v w Open = Unit {0}
AgreeOn v w (Link j) = v j ≡ w j
AgreeOn v w (Known k) = Unit {0}
AgreeOn v w (Arrow a b) = (v a ≡ w a) × (v b ≡ w b)

pub fits_along : (types : Table) (v w : Assignment) (A : Ty) (c : Shape) → AgreeOn v w c → Fits types v A c → Fits types w A c
fits_along types v w A Open a f = tt
fits_along types v w A (Link j) a f = f ∙ a
fits_along types v w A (Known k) a f = f
fits_along types v w A (Arrow x y) a f = f ∙ (ap (λ B. arrow B (v y)) a.0 ∙ ap (λ B. arrow (w x) B) a.1)

agree_parts : (v w : Assignment) (marks : List Mark) (c : Shape) → ((k : ℕ) → IsDone marks k → v k ≡ w k) → PartsDone marks c → AgreeOn v w c
agree_parts v w marks Open h p = tt
agree_parts v w marks (Link j) h p = h j p
agree_parts v w marks (Known k) h p = tt
agree_parts v w marks (Arrow a b) h p = (h a p.0, h b p.1)

parts_on : (marks new : List Mark) (c : Shape) → ((k : ℕ) → IsDone marks k → IsDone new k) → PartsDone marks c → PartsDone new c
parts_on marks new Open h p = tt
parts_on marks new (Link j) h p = h j p
parts_on marks new (Known k) h p = tt
parts_on marks new (Arrow a b) h p = (h a p.0, h b p.1)

-- the table has more entries
abbrev pub grown : (old new : Table) (shapes : List Shape) (marks : List Mark) → IsExtendedBy old new → Settling old shapes marks → Settling new shapes marks
grown old new shapes marks more kept = record {
  held = still_all_held old new more shapes kept.held;
  len = kept.len;
  p = kept.p;
  q = kept.q;
  at = λ i s l e.
      let f = kept.at i s l e in
      let h = kept.held.held i in
      record {
        within = still_held old new more s.ty f.within;
        is = same_reading old new more s.ty f.within ∙ f.is;
        parts = f.parts;
        one_fits = fits_on old new more kept.p (kept.p i) (shape_at shapes i) h f.one_fits;
        other_fits = fits_on old new more kept.q (kept.q i) (shape_at shapes i) h f.other_fits;
        tells = record {
          closed = f.tells.closed;
          opened = f.tells.opened;
          forced = λ v k. f.tells.forced v (solves_back old new more shapes kept.held v k);
          needs = λ v k. f.tells.needs v (solves_back old new more shapes kept.held v k);
        };
      };
}

in_marks : (marks : List Mark) (k : ℕ) → IsDone marks k → k < length marks
in_marks marks k d = go (cases_lt k (length marks))
  where
    go : (k < length marks) ⊎ (length marks ≤ k) → k < length marks
    go (inl l) = l
    go (inr l) = absurd (unseen_is_not_done d.0 (sym (get_or_past marks k Unseen l) ∙ d.1))

-- i, which isn't done, becomes so
module _ (types : Table) (shapes : List Shape) (marks : List Mark) (i : ℕ) (s : Settled) (kept : Settling types shapes marks)
    (i_in : i < length shapes) (not_done : (r : Settled) → mark_at marks i ≡ Done r → ⊥)
    (A B : Ty) (within : HoldsType types s.ty) (is : type_of types s.ty ≡ A) (parts : PartsDone marks (shape_at shapes i))
    (one_fits : Fits types kept.p A (shape_at shapes i))
    (other_fits : Fits types kept.q B (shape_at shapes i))
    (tells : Tells types shapes i s.is_open A B) where
  abbrev new : List Mark
  new = set marks i (Done s)

  abbrev p2 : Assignment
  p2 = put kept.p i A

  abbrev q2 : Assignment
  q2 = put kept.q i B

  i_marked : i < length marks
  i_marked = omega (arith, kept.len)

  others : (k : ℕ) → IsDone marks k → k ≢ i
  others k d e = not_done d.0 (ap (mark_at marks) (sym e) ∙ d.1)

  still : (k : ℕ) → IsDone marks k → IsDone new k
  still k d = (d.0, mark_other marks i k (Done s) (others k d) ∙ d.1)

  p_kept : (k : ℕ) → IsDone marks k → kept.p k ≡ p2 k
  p_kept k d = sym (put_other kept.p i A k (others k d))

  q_kept : (k : ℕ) → IsDone marks k → kept.q k ≡ q2 k
  q_kept k d = sym (put_other kept.q i B k (others k d))

  along : (v w : Assignment) (D E : Ty) (c : Shape) → ((k : ℕ) → IsDone marks k → v k ≡ w k) → D ≡ E → PartsDone marks c → Fits types v D c → Fits types w E c
  along v w D E c same e d f = subst (λ F. Fits types w F c) e (fits_along types v w D c (agree_parts v w marks c same d) f)

  here : Finished types shapes new p2 q2 i s
  here = record {
    within = within;
    is = is ∙ sym (put_same kept.p i A);
    parts = parts_on marks new (shape_at shapes i) still parts;
    one_fits = along kept.p p2 A (p2 i) (shape_at shapes i) p_kept (sym (put_same kept.p i A)) parts one_fits;
    other_fits = along kept.q q2 B (q2 i) (shape_at shapes i) q_kept (sym (put_same kept.q i B)) parts other_fits;
    tells = subst (λ D. Tells types shapes i s.is_open D (q2 i)) (sym (put_same kept.p i A)) (subst (λ D. Tells types shapes i s.is_open A D) (sym (put_same kept.q i B)) tells);
  }

  there : (k : ℕ) (r : Settled) → k < length shapes → k ≢ i → mark_at marks k ≡ Done r → Finished types shapes new p2 q2 k r
  there k r l n e =
      let f = kept.at k r l e in
      let c = shape_at shapes k in
      let one : p2 k ≡ kept.p k = put_other kept.p i A k n in
      let two : q2 k ≡ kept.q k = put_other kept.q i B k n in
      record {
        within = f.within;
        is = f.is ∙ sym one;
        parts = parts_on marks new c still f.parts;
        one_fits = along kept.p p2 (kept.p k) (p2 k) c p_kept (sym one) f.parts f.one_fits;
        other_fits = along kept.q q2 (kept.q k) (q2 k) c q_kept (sym two) f.parts f.other_fits;
        tells = subst (λ D. Tells types shapes k r.is_open D (q2 k)) (sym one) (subst (λ D. Tells types shapes k r.is_open (kept.p k) D) (sym two) f.tells);
      }

  pub done_more : Settling types shapes new
  done_more = record {
    held = kept.held;
    len = length-set marks i (Done s) ∙ kept.len;
    p = p2;
    q = q2;
    at = λ k r l e. go k r l e (cases_eq k i);
  }
    where
      go : (k : ℕ) (r : Settled) → k < length shapes → mark_at new k ≡ Done r → (k ≡ i) ⊎ (k ≢ i) → Finished types shapes new p2 q2 k r
      go k r l e (inl same) =
          let r_is : s ≡ r = done_inj (sym (mark_same marks i (Done s) i_marked) ∙ (ap (mark_at new) (sym same) ∙ e)) in
          subst (λ d. Finished types shapes new p2 q2 k d) r_is (subst (λ n. Finished types shapes new p2 q2 n s) (sym same) here)
      go k r l e (inr n) = there k r l n (sym (mark_other marks i k (Done s) n) ∙ e)

-- i, which wasn't seen, becomes active
pub active_more : (types : Table) (shapes : List Shape) (marks : List Mark) (i : ℕ) → mark_at marks i ≡ Unseen → i < length shapes → Settling types shapes marks → Settling types shapes (set marks i Active)
active_more types shapes marks i is i_in kept = record {
  held = kept.held;
  len = length-set marks i Active ∙ kept.len;
  p = kept.p;
  q = kept.q;
  at = λ k r l e. go k r l e (cases_eq k i);
}
  where
    others : (k : ℕ) → IsDone marks k → k ≢ i
    others k d e = unseen_is_not_done d.0 (sym is ∙ (ap (mark_at marks) (sym e) ∙ d.1))

    still : (k : ℕ) → IsDone marks k → IsDone (set marks i Active) k
    still k d = (d.0, mark_other marks i k Active (others k d) ∙ d.1)

    go : (k : ℕ) (r : Settled) → k < length shapes → mark_at (set marks i Active) k ≡ Done r → (k ≡ i) ⊎ (k ≢ i) → Finished types shapes (set marks i Active) kept.p kept.q k r
    go k r l e (inl here) =
        let m : i < length marks = omega (arith, kept.len) in
        absurd (active_is_not_done r (sym (mark_same marks i Active m) ∙ (ap (mark_at (set marks i Active)) (sym here) ∙ e)))
    go k r l e (inr n) =
        let f = kept.at k r l (sym (mark_other marks i k Active n) ∙ e) in
        record {
          within = f.within;
          is = f.is;
          parts = parts_on marks (set marks i Active) (shape_at shapes k) still f.parts;
          one_fits = f.one_fits;
          other_fits = f.other_fits;
          tells = f.tells;
        }

weight_set : (m : List Mark) (i : ℕ) (c : Mark) → i < length m → unseen (set m i c) + cond (is_unseen (mark_at m i)) 1 0 ≡ unseen m + cond (is_unseen c) 1 0
weight_set m i c l = sum_by-set (λ x. cond (is_unseen x) 1 0) m i c Unseen l

pub unseen_less : (m : List Mark) (i : ℕ) → i < length m → mark_at m i ≡ Unseen → unseen (set m i Active) + 1 ≡ unseen m
unseen_less m i l is =
    let a = weight_set m i Active l in
    let b : unseen (set m i Active) + 1 ≡ unseen m + 0 = ap (λ c. unseen (set m i Active) + cond (is_unseen c) 1 0) (sym is) ∙ a in
    omega arith

pub unseen_no_more : (m : List Mark) (i : ℕ) (s : Settled) → i < length m → unseen (set m i (Done s)) ≤ unseen m
unseen_no_more m i s l =
    let a : unseen (set m i (Done s)) + cond (is_unseen (mark_at m i)) 1 0 ≡ unseen m + 0 = weight_set m i (Done s) l in
    omega arith

-- what a variable is makes it done
module _ (old new : Table) (shapes : List Shape) (marks : List Mark) (i : ℕ) (s : Settled) (more : IsExtendedBy old new) (kept : Settling old shapes marks) (formed : AreFormed shapes)
    (i_in : i < length shapes) (not_done : (r : Settled) → mark_at marks i ≡ Done r → ⊥) (within : HoldsType new s.ty) (parts : PartsDone marks (shape_at shapes i)) where
  abbrev kept2 : Settling new shapes marks
  kept2 = grown old new shapes marks more kept

  finish_as : (A B : Ty) → type_of new s.ty ≡ A → Fits new kept2.p A (shape_at shapes i) → Fits new kept2.q B (shape_at shapes i) → Tells new shapes i s.is_open A B → Settling new shapes (set marks i (Done s))
  finish_as A B is f g t = done_more new shapes marks i s kept2 i_in not_done A B within is parts f g t

  finished_by : (c : Shape) → shape_at shapes i ≡ c → Finishes old new marks c s → Settling new shapes (set marks i (Done s))
  finished_by Open e f = finish_as o olist f.0 (subst (Fits new kept2.p o) (sym e) tt) (subst (Fits new kept2.q olist) (sym e) tt) (subst (λ b. Tells new shapes i b o olist) (sym f.1) (tells_open new shapes i))
  finished_by (Link j) e f =
      let n = link_order shapes i j formed i_in e in
      let g = kept2.at j s n.1 f in
      finish_as (kept2.p j) (kept2.q j) g.is (subst (Fits new kept2.p (kept2.p j)) (sym e) refl) (subst (Fits new kept2.q (kept2.q j)) (sym e) refl)
      (tells_link new shapes i j s.is_open (kept2.p j) (kept2.q j) i_in e g.tells)
  finished_by (Known id) e f =
      let A = type_of new id in
      finish_as A A (ap (type_of new) f.0) (subst (Fits new kept2.p A) (sym e) refl) (subst (Fits new kept2.q A) (sym e) refl)
      (subst (λ b. Tells new shapes i b A A) (sym f.1) (tells_known new shapes i id i_in e))
  finished_by (Arrow a b) e f =
      let n = arrow_names shapes i a b formed i_in e in
      let t = f.0 in
      let u = f.1 in
      let ga = kept.at a t n.0 f.2 in
      let gb = kept.at b u n.1 f.3 in
      let ha = kept2.at a t n.0 f.2 in
      let hb = kept2.at b u n.1 f.3 in
      let A = arrow (kept2.p a) (kept2.p b) in
      let B = arrow (kept2.q a) (kept2.q b) in
      let is : type_of new s.ty ≡ A = f.4 ∙ (ap (λ C. arrow C (type_of old u.ty)) ga.is ∙ ap (λ C. arrow (kept.p a) C) gb.is) in
      finish_as A B is (subst (Fits new kept2.p A) (sym e) refl) (subst (Fits new kept2.q B) (sym e) refl)
      (subst (λ c. Tells new shapes i c A B) (sym f.5) (tells_arrow new shapes i a b t.is_open u.is_open (kept2.p a) (kept2.q a) (kept2.p b) (kept2.q b) i_in e ha.tells hb.tells))

  pub finished : Finishes old new marks (shape_at shapes i) s → Settling new shapes (set marks i (Done s))
  finished f = finished_by (shape_at shapes i) refl f
