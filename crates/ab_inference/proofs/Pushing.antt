-- Variables put behind the others.
use Rattle.std.proofs.Common.{◌≡◌, ◌≢◌, ℕ, ◌+◌, ◌<◌, ◌≤◌, ◌⊎◌, inl, inr, List, [], ◌∷◌, ◌++◌, length, get_or, eqb, refl, sym, ◌∙◌, ap, subst, arith, take, zero, suc}
use Rattle.std.proofs.lemmas.Bool.{cases_lt}
use Rattle.std.proofs.lemmas.List.{length-append, get_or_append_left, get_or_push, get_or_past}
use Rattle.ab_term.specs.Types.{Ty, arrow}
use Rattle.ab_store.specs.ab_types.specs.Entries.{Table}
use Rattle.ab_inference.specs.declared.shape.Shape.{Shape}
use Rattle.ab_inference.specs.declared.shape.Shape.TheVariants.{Open, Link, Known, Arrow}
use Rattle.ab_inference.specs.declared.work.Wanted.{Wanted}
use Rattle.ab_inference.specs.declared.work.Wanted.TheVariants.{Equal, Is}
use Rattle.ab_inference.specs.Solutions.{Assignment, Fits, Solves, Names, AreFormed, AreHeld, HeldShape, shape_at}
use Rattle.ab_inference.specs.Work.{Within, WithinOne, Meets, MeetsOne, Fails, Meeting, Part}
use Rattle.ab_inference.specs.VariableSteps.{Extended, Step, NoStep, HasShape, IsApplied, MeetingAll}
use Rattle.ab_inference.proofs.Joining.{names_more}
use Rattle.ab_inference.proofs.Marking.{put, put_same, put_other, AgreeOn, fits_along}

agree_named : (v w : Assignment) (n i : ℕ) (c : Shape) → ((k : ℕ) → k < n → v k ≡ w k) → Names n i c → AgreeOn v w c
agree_named v w n i Open h f = tt
agree_named v w n i (Link j) h f = h j f.1
agree_named v w n i (Known k) h f = tt
agree_named v w n i (Arrow a b) h f = (h a f.0, h b f.1)

module _ (types : Table) (s : List Shape) (c : Shape) where
  abbrev t : List Shape
  t = s ++ c ∷ []

  pub pushed_length : length t ≡ length s + 1
  pushed_length = length-append s (c ∷ []) ∙ omega arith

  left : (k : ℕ) → k < length s → shape_at t k ≡ shape_at s k
  left k l = get_or_append_left s (c ∷ []) Open k l

  last : shape_at t (length s) ≡ c
  last = get_or_push s c Open (length s) refl

  pub pushed_formed : AreFormed s → Names (length s) (length s) c → AreFormed t
  pushed_formed f n = record { names = λ k l. go k l (cases_lt k (length s)) }
    where
      go : (k : ℕ) → k < length t → (k < length s) ⊎ (length s ≤ k) → Names (length t) k (shape_at t k)
      go k l (inl b) = subst (Names (length t) k) (sym (left k b)) (names_more (length s) (length t) k (shape_at s k) (omega (arith, pushed_length)) (f.names k b))
      go k l (inr b) =
          let same : k ≡ length s = omega (arith, pushed_length) in
          subst (λ i. Names (length t) i (shape_at t i)) (sym same) (subst (Names (length t) (length s)) (sym last) (names_more (length s) (length t) (length s) c (omega (arith, pushed_length)) n))

  pub pushed_held : AreHeld types s → HeldShape types c → AreHeld types t
  pushed_held f h = record { held = λ k. go k (cases_lt k (length s)) }
    where
      past : (k : ℕ) → length s ≤ k → (k < length t) ⊎ (length t ≤ k) → HeldShape types (shape_at t k)
      past k b (inl l) = let same : k ≡ length s = omega (arith, pushed_length) in subst (λ i. HeldShape types (shape_at t i)) (sym same) (subst (HeldShape types) (sym last) h)
      past k b (inr l) = subst (HeldShape types) (sym (get_or_past t k Open l)) tt

      go : (k : ℕ) → (k < length s) ⊎ (length s ≤ k) → HeldShape types (shape_at t k)
      go k (inl b) = subst (HeldShape types) (sym (left k b)) (f.held k)
      go k (inr b) = past k b (cases_lt k (length t))

  pub pushed_back : (v : Assignment) → Solves types v t → Solves types v s
  pushed_back v h = record { at = λ k l. subst (Fits types v (v k)) (left k l) (h.at k (omega (arith, pushed_length))) }

  pub pushed_last : (v : Assignment) → Solves types v t → Fits types v (v (length s)) c
  pushed_last v h = subst (Fits types v (v (length s))) last (h.at (length s) (omega (arith, pushed_length)))

  pub pushed_on : AreFormed s → Names (length s) (length s) c → (v : Assignment) → Solves types v s → (A : Ty) → Fits types v A c → Extended types (length s) v t (length s) A
  pushed_on f n v h A fits = record {
    w = put v (length s) A;
    agrees = λ k l. same k l;
    solves = record { at = λ k l. go k l (cases_lt k (length s)) };
    at = put_same v (length s) A;
  }
    where
      same : (k : ℕ) → k < length s → put v (length s) A k ≡ v k
      same k l = let d : k ≢ length s = omega arith in put_other v (length s) A k d

      along : (D : Ty) (k : ℕ) (d : Shape) → Names (length s) k d → Fits types v D d → Fits types (put v (length s) A) D d
      along D k d m g = fits_along types v (put v (length s) A) D d (agree_named v (put v (length s) A) (length s) k d (λ i l. sym (same i l)) m) g

      go : (k : ℕ) → k < length t → (k < length s) ⊎ (length s ≤ k) → Fits types (put v (length s) A) (put v (length s) A k) (shape_at t k)
      go k l (inl b) = subst (λ d. Fits types (put v (length s) A) (put v (length s) A k) d) (sym (left k b))
          (subst (λ D. Fits types (put v (length s) A) D (shape_at s k)) (sym (same k b)) (along (v k) k (shape_at s k) (f.names k b) (h.at k b)))
      go k l (inr b) =
          let e : k ≡ length s = omega (arith, pushed_length) in
          subst (λ i. Fits types (put v (length s) A) (put v (length s) A i) (shape_at t i)) (sym e)
          (subst (λ d. Fits types (put v (length s) A) (put v (length s) A (length s)) d) (sym last)
          (subst (λ D. Fits types (put v (length s) A) D c) (sym (put_same v (length s) A)) (along A (length s) c n fits)))

-- equations that are met, and then a variable of a shape
module _ (types : Table) (s0 s : List Shape) (c : Shape) (ws : List Wanted) (len : length s ≡ length s0) (n : Names (length s0) (length s0) c) (h : HeldShape types c) where
  names_here : Names (length s) (length s) c
  names_here = subst (λ m. Names m m c) (sym len) n

  pub shape_step : MeetingAll types s0 s ws → (t : List Shape) → t ≡ s ++ c ∷ [] → Step types s0 t (length s) (HasShape types c ws)
  shape_step m t e = subst (λ l. Step types s0 l (length s) (HasShape types c ws)) (sym e) (record {
    longer = omega (arith, pushed_length types s c);
    formed = pushed_formed types s c m.formed names_here;
    held = pushed_held types s c m.held h;
    node = omega (arith, pushed_length types s c);
    back = λ v k. m.back v (pushed_back types s c v k);
    gives = λ v k. (pushed_last types s c v k, m.equal v (pushed_back types s c v k));
    on = λ v k A q.
        let x = pushed_on types s c m.formed names_here v (m.on v k q.1) A q.0 in
        record { w = x.w; agrees = λ i l. x.agrees i (omega arith); solves = x.solves; at = x.at };
  })

  pub no_shape : Fails types s0 ws → NoStep types s0 (HasShape types c ws)
  no_shape m v k A q = m v k q.1

-- the type of an application
module _ (types : Table) (s : List Shape) (f a : ℕ) (formed : AreFormed s) (held : AreHeld types s) (f_in : f < length s) (a_in : a < length s) where
  abbrev s1 : List Shape
  s1 = s ++ Open ∷ []

  abbrev s2 : List Shape
  s2 = s1 ++ Arrow a (length s) ∷ []

  len1 : length s1 ≡ length s + 1
  len1 = pushed_length types s Open

  len2 : length s2 ≡ length s1 + 1
  len2 = pushed_length types s1 (Arrow a (length s))

  names1 : Names (length s1) (length s1) (Arrow a (length s))
  names1 = (omega (arith, len1), omega (arith, len1))

  pub applied_formed : AreFormed s2
  applied_formed = pushed_formed types s1 (Arrow a (length s)) (pushed_formed types s Open formed tt) names1

  pub applied_held : AreHeld types s2
  applied_held = pushed_held types s1 (Arrow a (length s)) (pushed_held types s Open held tt) tt

  extended : (v : Assignment) → Solves types v s → (A : Ty) → v f ≡ arrow (v a) A → (w : Assignment) × ((k : ℕ) → k < length s → w k ≡ v k) × (Solves types w s2) × (w (length s) ≡ A) × (w f ≡ w (length s1))
  extended v h A q =
      let x = pushed_on types s Open formed tt v h A tt in
      let y = pushed_on types s1 (Arrow a (length s)) (pushed_formed types s Open formed tt) names1 x.w x.solves (arrow (x.w a) (x.w (length s))) refl in
      let agrees : (k : ℕ) → k < length s → y.w k ≡ v k = λ k l. y.agrees k (omega (arith, len1)) ∙ x.agrees k l in
      let n : y.w (length s) ≡ A = y.agrees (length s) (omega (arith, len1)) ∙ x.at in
      (y.w, agrees, y.solves, n, agrees f f_in ∙ (q ∙ (ap (λ B. arrow B A) (sym (x.agrees a a_in)) ∙ (ap (λ B. arrow (x.w a) B) (sym x.at) ∙ sym y.at))))

  pub applied_step : (t : List Shape) → length t ≡ length s2 → Meeting types s2 t (Equal f (length s1)) → Step types s t (length s) (IsApplied f a)
  applied_step t len m = record {
    longer = omega (arith, len1, len2);
    formed = m.formed;
    held = m.held;
    node = omega (arith, len1, len2);
    back = λ v h. pushed_back types s Open v (pushed_back types s1 (Arrow a (length s)) v (m.back v h));
    gives = λ v h. m.equal v h ∙ pushed_last types s1 (Arrow a (length s)) v (m.back v h);
    on = λ v h A q. let x = extended v h A q in record { w = x.0; agrees = x.1; solves = m.on x.0 x.2 x.4; at = x.3 };
  }

  pub applied_none : Part types s2 (Equal f (length s1)) → NoStep types s (IsApplied f a)
  applied_none m v h A q = let x = extended v h A q in m x.0 x.2 x.4

-- equations met one after another
pub record MetSoFar (types : Table) (old new : List Shape) (ws : List Wanted) (n : ℕ) : Type 0 where
  pub len : length new ≡ length old
  pub all : MeetingAll types old new (take n ws)

abbrev nothing : Wanted
nothing = Equal 0 0

within_at : (types : Table) (n : ℕ) (ws : List Wanted) (i : ℕ) → i < length ws → Within types n ws → WithinOne types n (get_or ws i nothing)
within_at types n [] i l h = absurd (omega arith)
within_at types n (w ∷ ws) zero l h = h.0
within_at types n (w ∷ ws) (suc i) l h = within_at types n ws i (omega arith) h.1

meets_at : (types : Table) (v : Assignment) (ws : List Wanted) (i : ℕ) → i < length ws → Meets types v ws → MeetsOne types v (get_or ws i nothing)
meets_at types v [] i l h = absurd (omega arith)
meets_at types v (w ∷ ws) zero l h = h.0
meets_at types v (w ∷ ws) (suc i) l h = meets_at types v ws i (omega arith) h.1

take_none : {X : Type 0} (xs : List X) (i : ℕ) → xs ≡ [] → take i xs ≡ []
take_none [] zero e = refl
take_none [] (suc i) e = refl
take_none (x ∷ xs) i e = absurd (cc)

meets_front : (types : Table) (v : Assignment) (ws : List Wanted) (i : ℕ) → Meets types v ws → Meets types v (take i ws)
meets_front types v [] i h = subst (Meets types v) (sym (take_none [] i refl)) tt
meets_front types v (w ∷ ws) zero h = tt
meets_front types v (w ∷ ws) (suc i) h = (h.0, meets_front types v ws i h.1)

meets_more : (types : Table) (v : Assignment) (ws : List Wanted) (i : ℕ) → i < length ws → Meets types v (take i ws) → MeetsOne types v (get_or ws i nothing) → Meets types v (take (suc i) ws)
meets_more types v [] i l h k = absurd (omega arith)
meets_more types v (w ∷ ws) zero l h k = (k, tt)
meets_more types v (w ∷ ws) (suc i) l h k = (h.0, meets_more types v ws i (omega arith) h.1 k)

meets_less : (types : Table) (v : Assignment) (ws : List Wanted) (i : ℕ) → i < length ws → Meets types v (take (suc i) ws) → Meets types v (take i ws) × MeetsOne types v (get_or ws i nothing)
meets_less types v [] i l h = absurd (omega arith)
meets_less types v (w ∷ ws) zero l h = (tt, h.0)
meets_less types v (w ∷ ws) (suc i) l h = let r = meets_less types v ws i (omega arith) h.1 in ((h.0, r.0), r.1)

pub none_met : (types : Table) (s : List Shape) (ws : List Wanted) → AreFormed s → AreHeld types s → MetSoFar types s s ws 0
none_met types s ws f h = record { len = refl; all = record { formed = f; held = h; back = λ v k. k; equal = λ v k. tt; on = λ v k m. k } }

module _ (types : Table) (old s : List Shape) (ws : List Wanted) (i : ℕ) (l : i < length ws) (k : MetSoFar types old s ws i) where
  pub one_within : Within types (length old) ws → WithinOne types (length s) (get_or ws i nothing)
  one_within h = subst (λ n. WithinOne types n (get_or ws i nothing)) (sym k.len) (within_at types (length old) ws i l h)

  pub one_more : (new : List Shape) → length new ≡ length s → Meeting types s new (get_or ws i nothing) → MetSoFar types old new ws (suc i)
  one_more new len m = record {
    len = len ∙ k.len;
    all = record {
      formed = m.formed;
      held = m.held;
      back = λ v h. k.all.back v (m.back v h);
      equal = λ v h. meets_more types v ws i l (k.all.equal v (m.back v h)) (m.equal v h);
      on = λ v h e. let r = meets_less types v ws i l e in m.on v (k.all.on v h r.0) r.1;
    };
  }

  pub one_fails : Part types s (get_or ws i nothing) → Fails types old ws
  one_fails m v h e = m v (k.all.on v h (meets_front types v ws i e)) (meets_at types v ws i l e)

pub all_met : (types : Table) (old new : List Shape) (ws : List Wanted) (n : ℕ) → take n ws ≡ ws → MetSoFar types old new ws n → MeetingAll types old new ws
all_met types old new ws n e k = subst (MeetingAll types old new) e k.all
