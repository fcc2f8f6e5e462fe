-- The readings of an expression are its terms under the assignments that give it the type.
use Rattle.std.proofs.Common.{◌≡◌, ℕ, zero, suc, ◌+◌, ◌<◌, ◌≤◌, List, [], ◌∷◌, ◌++◌, length, map, get_or, Some, refl, sym, ◌∙◌, ap, subst, arith}
use Rattle.ab_term.specs.Types.{Ty, arrow}
use Rattle.ab_term.specs.Beta.{atom, abstraction, application}
use Rattle.ab_term.specs.Typing.{type_at}
use Rattle.ab_inference.specs.Solutions.{Assignment}
use Rattle.ab_inference.proofs.Marking.{put, put_same, put_other}
use Rattle.ab_meaning.specs.Types.{PropFree}
use Rattle.ab_meaning.specs.ResolvedNames.{Name, binding_type}
use Rattle.ab_meaning.specs.Readings.{Raw, Making, Keeps, equation, bound_term, Reads, reads_bound, reads_known, reads_free, reads_apply, reads_behind, reads_abs, reads_equal, reads_bind}
use Rattle.ab_inference.specs.Sketches.{Sketch, bound, known, free, apply, behind, abs, equal, bind, erase, count, variable_at, Fit, Typed, given, term_of, AreFree}

at_map : (v : Assignment) (ctx : List ℕ) (i m : ℕ) → variable_at ctx i ≡ Some m → type_at (map v ctx) i ≡ Some (v m)
at_map v [] i m e = absurd (cc)
at_map v (n ∷ ns) zero m e = let h : n ≡ m = cc in ap (λ k. Some (v k)) h
at_map v (n ∷ ns) (suc i) m e = at_map v ns i m e

free_left : (As Bs : List Ty) → AreFree (As ++ Bs) → AreFree As × AreFree Bs
free_left [] Bs h = (tt, h)
free_left (A ∷ As) Bs h = let r = free_left As Bs h.1 in ((h.0, r.0), r.1)

both : {X : Type 0} {x y : X} {xs ys : List X} → x ≡ y → xs ≡ ys → x ∷ xs ≡ y ∷ ys
both e f = cc

some_same : {X : Type 0} {x y : X} → Some x ≡ Some y → x ≡ y
some_same e = cc

module _ (made : Making) (base : ℕ) (frees : List Name) where
  -- an assignment under which the expression has the type gives a reading
  module _ (v : Assignment) (types : Name → Ty) (agree : (j : ℕ) → j < length frees → types (get_or frees j []) ≡ v (base + j)) where
    pub sound : (k : Sketch) (ctx : List ℕ) (n : ℕ) (A : Ty) → Fit frees ctx n k → Typed base v k A → AreFree (given base v k) → Reads made types (map v ctx) (erase k) (term_of base v made k) A (given base v k)
    sound (bound i m) ctx n A fit t f = subst (λ B. Reads made types (map v ctx) (erase (bound i m)) (term_of base v made (bound i m)) B []) (sym t) (reads_bound (at_map v ctx i m fit))
    sound (known h B) ctx n A fit t f = subst (λ C. Reads made types (map v ctx) (erase (known h B)) (atom h) C []) (sym t) reads_known
    sound (free x j p) ctx n A fit t f =
        let e : types x ≡ v (base + j) = ap types (sym fit.1) ∙ agree j fit.0 in
        subst (λ C. Reads made types (map v ctx) (erase (free x j p)) (atom (made x (v (base + j)))) C (v (base + j) ∷ [])) (sym t)
        (subst (λ B. Reads made types (map v ctx) (erase (free x j p)) (atom (made x B)) B (B ∷ [])) e (reads_free (subst PropFree (sym e) f.0)))
    sound (apply e g) ctx n A fit t f =
        let p = free_left (given base v e) (given base v g) f in
        reads_apply (sound e ctx n (arrow t.0 A) fit.0 t.1 p.0) (sound g ctx (n + count e) t.0 fit.1 t.2 p.1)
    sound (behind e g) ctx n A fit t f =
        let p = free_left (given base v e) (given base v g) f in
        reads_behind (sound e ctx n t.0 fit.0 t.1 p.0) (sound g ctx (n + count e) (arrow t.0 A) fit.1 t.2 p.1)
    sound (abs x m p e) ctx n A fit t f =
        subst (λ C. Reads made types (map v ctx) (erase (abs x m p e)) (term_of base v made (abs x m p e)) C (given base v (abs x m p e))) (sym t.1)
        (reads_abs f.0 (sound e (m ∷ ctx) (suc n) t.0 fit.1 t.2 f.1))
    sound (equal m e g) ctx n A fit t f =
        let p = free_left (given base v e) (given base v g) f in
        subst (λ C. Reads made types (map v ctx) (erase (equal m e g)) (term_of base v made (equal m e g)) C (given base v (equal m e g))) (sym t.0)
        (reads_equal (sound e ctx (suc n) (v m) fit.1 t.1 p.0) (sound g ctx (suc n + count e) (v m) fit.2 t.2 p.1))
    sound (bind q x m p w e) ctx n A fit t f =
        subst (λ C. Reads made types (map v ctx) (erase (bind q x m p w e)) (term_of base v made (bind q x m p w e)) C (given base v (bind q x m p w e))) (sym t.0)
        (reads_bind f.0 t.1 (sound e (m ∷ ctx) (suc n) (binding_type q) fit.1 t.2 f.1))

  -- variables below n and those of free names are the same
  pub record Agree (n : ℕ) (v w : Assignment) : Type 0 where
    pub below : (i : ℕ) → i < n → w i ≡ v i
    pub frees_same : (j : ℕ) → j < length frees → w (base + j) ≡ v (base + j)

  abbrev pub AllBelow : ℕ → List ℕ → Type 0
  AllBelow n ctx = (i m : ℕ) → variable_at ctx i ≡ Some m → m < n

  below_push : (n : ℕ) (ctx : List ℕ) → AllBelow n ctx → AllBelow (suc n) (n ∷ ctx)
  below_push n ctx b zero m e = let h : n ≡ m = some_same e in omega arith
  below_push n ctx b (suc i) m e = let h = b i m e in omega arith

  below_on : (n m : ℕ) (ctx : List ℕ) → n ≤ m → AllBelow n ctx → AllBelow m ctx
  below_on n m ctx l b i j e = let h = b i j e in omega arith

  map_same : (n : ℕ) (v w : Assignment) (ctx : List ℕ) → AllBelow n ctx → ((i : ℕ) → i < n → w i ≡ v i) → map w ctx ≡ map v ctx
  map_same n v w [] b a = refl
  map_same n v w (m ∷ ctx) b a = ap (λ A. A ∷ map w ctx) (a m (b zero m refl)) ∙ ap (λ As. v m ∷ As) (map_same n v w ctx (λ i j e. b (suc i) j e) a)

  -- what the expression says of two assignments that agree on its variables is the same
  module _ (v w : Assignment) where
    pub typed_along : (k : Sketch) (ctx : List ℕ) (n : ℕ) (A : Ty) → Fit frees ctx n k → AllBelow n ctx → Agree (n + count k) v w → Typed base v k A → Typed base w k A
    typed_along (bound i m) ctx n A fit b a t = t ∙ sym (a.below m (let h = b i m fit in omega arith))
    typed_along (known h B) ctx n A fit b a t = t
    typed_along (free x j p) ctx n A fit b a t = t ∙ sym (a.frees_same j fit.0)
    typed_along (apply e g) ctx n A fit b a t = (
      t.0,
      typed_along e ctx n (arrow t.0 A) fit.0 b (record { below = λ i l. a.below i (omega arith); frees_same = a.frees_same }) t.1,
      typed_along g ctx (n + count e) t.0 fit.1 (below_on n (n + count e) ctx (omega arith) b) (record { below = λ i l. a.below i (omega arith); frees_same = a.frees_same }) t.2,
    )
    typed_along (behind e g) ctx n A fit b a t = (
      t.0,
      typed_along e ctx n t.0 fit.0 b (record { below = λ i l. a.below i (omega arith); frees_same = a.frees_same }) t.1,
      typed_along g ctx (n + count e) (arrow t.0 A) fit.1 (below_on n (n + count e) ctx (omega arith) b) (record { below = λ i l. a.below i (omega arith); frees_same = a.frees_same }) t.2,
    )
    typed_along (abs x m p e) ctx n A fit b a t =
        let s : w m ≡ v m = a.below m (omega (arith, fit.0)) in (
          t.0,
          t.1 ∙ ap (λ C. arrow C t.0) (sym s),
          typed_along e (m ∷ ctx) (suc n) t.0 fit.1 (subst (λ i. AllBelow (suc n) (i ∷ ctx)) (sym fit.0) (below_push n ctx b)) (record { below = λ i l. a.below i (omega arith); frees_same = a.frees_same }) t.2,
        )
    typed_along (equal m e g) ctx n A fit b a t =
        let s : w m ≡ v m = a.below m (omega (arith, fit.0)) in (
          t.0,
          subst (Typed base w e) (sym s) (typed_along e ctx (suc n) (v m) fit.1 (below_on n (suc n) ctx (omega arith) b) (record { below = λ i l. a.below i (omega arith); frees_same = a.frees_same }) t.1),
          subst (Typed base w g) (sym s) (typed_along g ctx (suc n + count e) (v m) fit.2 (below_on n (suc n + count e) ctx (omega arith) b) (record { below = λ i l. a.below i (omega arith); frees_same = a.frees_same }) t.2),
        )
    typed_along (bind q x m p u e) ctx n A fit b a t =
        let s : w m ≡ v m = a.below m (omega (arith, fit.0)) in (
          t.0,
          subst (Keeps u) (sym s) t.1,
          typed_along e (m ∷ ctx) (suc n) (binding_type q) fit.1 (subst (λ i. AllBelow (suc n) (i ∷ ctx)) (sym fit.0) (below_push n ctx b)) (record { below = λ i l. a.below i (omega arith); frees_same = a.frees_same }) t.2,
        )

    pub given_along : (k : Sketch) (ctx : List ℕ) (n : ℕ) → Fit frees ctx n k → Agree (n + count k) v w → given base w k ≡ given base v k
    given_along (bound i m) ctx n fit a = refl
    given_along (known h B) ctx n fit a = refl
    given_along (free x j p) ctx n fit a = ap (λ A. A ∷ []) (a.frees_same j fit.0)
    given_along (apply e g) ctx n fit a =
        ap (λ As. As ++ given base w g) (given_along e ctx n fit.0 (record { below = λ i l. a.below i (omega arith); frees_same = a.frees_same }))
        ∙ ap (λ As. given base v e ++ As) (given_along g ctx (n + count e) fit.1 (record { below = λ i l. a.below i (omega arith); frees_same = a.frees_same }))
    given_along (behind e g) ctx n fit a =
        ap (λ As. As ++ given base w g) (given_along e ctx n fit.0 (record { below = λ i l. a.below i (omega arith); frees_same = a.frees_same }))
        ∙ ap (λ As. given base v e ++ As) (given_along g ctx (n + count e) fit.1 (record { below = λ i l. a.below i (omega arith); frees_same = a.frees_same }))
    given_along (abs x m p e) ctx n fit a =
        ap (λ A. A ∷ given base w e) (a.below m (omega (arith, fit.0))) ∙ ap (λ As. v m ∷ As) (given_along e (m ∷ ctx) (suc n) fit.1 (record { below = λ i l. a.below i (omega arith); frees_same = a.frees_same }))
    given_along (equal m e g) ctx n fit a =
        ap (λ As. As ++ given base w g) (given_along e ctx (suc n) fit.1 (record { below = λ i l. a.below i (omega arith); frees_same = a.frees_same }))
        ∙ ap (λ As. given base v e ++ As) (given_along g ctx (suc n + count e) fit.2 (record { below = λ i l. a.below i (omega arith); frees_same = a.frees_same }))
    given_along (bind q x m p u e) ctx n fit a =
        ap (λ A. A ∷ given base w e) (a.below m (omega (arith, fit.0))) ∙ ap (λ As. v m ∷ As) (given_along e (m ∷ ctx) (suc n) fit.1 (record { below = λ i l. a.below i (omega arith); frees_same = a.frees_same }))

    pub term_along : (k : Sketch) (ctx : List ℕ) (n : ℕ) → Fit frees ctx n k → Agree (n + count k) v w → term_of base w made k ≡ term_of base v made k
    term_along (bound i m) ctx n fit a = refl
    term_along (known h B) ctx n fit a = refl
    term_along (free x j p) ctx n fit a = ap (λ A. atom (made x A)) (a.frees_same j fit.0)
    term_along (apply e g) ctx n fit a =
        ap (λ t. application t (term_of base w made g)) (term_along e ctx n fit.0 (record { below = λ i l. a.below i (omega arith); frees_same = a.frees_same }))
        ∙ ap (λ t. application (term_of base v made e) t) (term_along g ctx (n + count e) fit.1 (record { below = λ i l. a.below i (omega arith); frees_same = a.frees_same }))
    term_along (behind e g) ctx n fit a =
        ap (λ t. application (term_of base w made g) t) (term_along e ctx n fit.0 (record { below = λ i l. a.below i (omega arith); frees_same = a.frees_same }))
        ∙ ap (λ t. application t (term_of base v made e)) (term_along g ctx (n + count e) fit.1 (record { below = λ i l. a.below i (omega arith); frees_same = a.frees_same }))
    term_along (abs x m p e) ctx n fit a =
        ap (λ A. abstraction A x (term_of base w made e)) (a.below m (omega (arith, fit.0))) ∙ ap (λ t. abstraction (v m) x t) (term_along e (m ∷ ctx) (suc n) fit.1 (record { below = λ i l. a.below i (omega arith); frees_same = a.frees_same }))
    term_along (equal m e g) ctx n fit a =
        ap (λ A. equation A (term_of base w made e) (term_of base w made g)) (a.below m (omega (arith, fit.0)))
        ∙ (ap (λ t. equation (v m) t (term_of base w made g)) (term_along e ctx (suc n) fit.1 (record { below = λ i l. a.below i (omega arith); frees_same = a.frees_same }))
        ∙ ap (λ t. equation (v m) (term_of base v made e) t) (term_along g ctx (suc n + count e) fit.2 (record { below = λ i l. a.below i (omega arith); frees_same = a.frees_same })))
    term_along (bind q x m p u e) ctx n fit a =
        ap (λ A. bound_term q x A (term_of base w made e)) (a.below m (omega (arith, fit.0))) ∙ ap (λ t. bound_term q x (v m) t) (term_along e (m ∷ ctx) (suc n) fit.1 (record { below = λ i l. a.below i (omega arith); frees_same = a.frees_same }))

  -- an assignment as before below n and for free names, under which the expression has the type, with these types in it
  pub record Comes (n : ℕ) (v : Assignment) (k : Sketch) (A : Ty) (As : List Ty) : Type 0 where
    pub w : Assignment
    pub agree : Agree n v w
    pub typed : Typed base w k A
    pub types_are : given base w k ≡ As

  module _ (types : Name → Ty) where
    abbrev pub IsFor : Assignment → Type 0
    IsFor v = (j : ℕ) → j < length frees → v (base + j) ≡ types (get_or frees j [])

    -- each reading comes from an assignment
    pub complete : (k : Sketch) (ctx : List ℕ) (n : ℕ) (v : Assignment) (t : Raw) (A : Ty) (As : List Ty) → Fit frees ctx n k → AllBelow n ctx → n + count k ≤ base → IsFor v
        → Reads made types (map v ctx) (erase k) t A As → Comes n v k A As
    complete (bound i m) ctx n v t A As fit b l f (reads_bound h) = record {
      w = v;
      agree = record { below = λ i l. refl; frees_same = λ j k. refl };
      typed = some_same (sym h ∙ at_map v ctx i m fit);
      types_are = refl;
    }
    complete (known h B) ctx n v t A As fit b l f reads_known = record { w = v; agree = record { below = λ i l. refl; frees_same = λ j k. refl }; typed = refl; types_are = refl }
    complete (free x j p) ctx n v t A As fit b l f (reads_free g) =
        let e : v (base + j) ≡ types x = f j fit.0 ∙ ap types fit.1 in
        record { w = v; agree = record { below = λ i l. refl; frees_same = λ j k. refl }; typed = sym e; types_are = ap (λ B. B ∷ []) e }
    complete (apply e g) ctx n v t A As fit b l f (reads_apply {t = t1} {u = t2} {A = B} {As = Bs} {Bs = Cs} d h) =
        let x = complete e ctx n v t1 (arrow B A) Bs fit.0 b (omega arith) f d in
        let same = map_same n v x.w ctx b x.agree.below in
        let y = complete g ctx (n + count e) x.w t2 B Cs fit.1 (below_on n (n + count e) ctx (omega arith) b) (omega arith) (λ j k. x.agree.frees_same j k ∙ f j k) (subst (λ G. Reads made types G (erase g) t2 B Cs) (sym same) h) in
        record {
          w = y.w;
          agree = record { below = λ i k. y.agree.below i (omega arith) ∙ x.agree.below i k; frees_same = λ j k. y.agree.frees_same j k ∙ x.agree.frees_same j k };
          typed = (B, typed_along x.w y.w e ctx n (arrow B A) fit.0 b y.agree x.typed, y.typed);
          types_are = ap (λ Ds. Ds ++ given base y.w g) (given_along x.w y.w e ctx n fit.0 y.agree ∙ x.types_are) ∙ ap (λ Ds. Bs ++ Ds) y.types_are;
        }
    complete (behind e g) ctx n v t A As fit b l f (reads_behind {t = t2} {u = t1} {A = B} {As = Bs} {Bs = Cs} d h) =
        let x = complete e ctx n v t1 B Bs fit.0 b (omega arith) f d in
        let same = map_same n v x.w ctx b x.agree.below in
        let y = complete g ctx (n + count e) x.w t2 (arrow B A) Cs fit.1 (below_on n (n + count e) ctx (omega arith) b) (omega arith) (λ j k. x.agree.frees_same j k ∙ f j k) (subst (λ G. Reads made types G (erase g) t2 (arrow B A) Cs) (sym same) h) in
        record {
          w = y.w;
          agree = record { below = λ i k. y.agree.below i (omega arith) ∙ x.agree.below i k; frees_same = λ j k. y.agree.frees_same j k ∙ x.agree.frees_same j k };
          typed = (B, typed_along x.w y.w e ctx n B fit.0 b y.agree x.typed, y.typed);
          types_are = ap (λ Ds. Ds ++ given base y.w g) (given_along x.w y.w e ctx n fit.0 y.agree ∙ x.types_are) ∙ ap (λ Ds. Bs ++ Ds) y.types_are;
        }
    complete (abs x m p e) ctx n v t A As fit b l f (reads_abs {t = t1} {A = B} {B = C} {As = Bs} g d) =
        let v1 = put v m B in
        let lower : (i : ℕ) → i < n → v1 i ≡ v i = λ i k. put_other v m B i (let h = fit.0 in λ s. absurd (omega arith)) in
        let same : map v1 ctx ≡ map v ctx = map_same n v v1 ctx b lower in
        let others : (j : ℕ) → v1 (base + j) ≡ v (base + j) = λ j. put_other v m B (base + j) (let h = fit.0 in λ s. absurd (omega arith)) in
        let y = complete e (m ∷ ctx) (suc n) v1 t1 C Bs fit.1 (subst (λ i. AllBelow (suc n) (i ∷ ctx)) (sym fit.0) (below_push n ctx b)) (omega arith) (λ j k. others j ∙ f j k)
        (subst (λ G. Reads made types G (erase e) t1 C Bs) (sym (both (put_same v m B) same)) d) in
        let at : y.w m ≡ B = y.agree.below m (omega (arith, fit.0)) ∙ put_same v m B in
        record {
          w = y.w;
          agree = record { below = λ i k. y.agree.below i (omega arith) ∙ lower i k; frees_same = λ j k. y.agree.frees_same j k ∙ others j };
          typed = (C, ap (λ D. arrow D C) (sym at), y.typed);
          types_are = both at y.types_are;
        }
    complete (equal m e g) ctx n v t A As fit b l f (reads_equal {t = t1} {u = t2} {A = B} {As = Bs} {Bs = Cs} d h) =
        let v1 = put v m B in
        let lower : (i : ℕ) → i < n → v1 i ≡ v i = λ i k. put_other v m B i (let h = fit.0 in λ s. absurd (omega arith)) in
        let same1 : map v1 ctx ≡ map v ctx = map_same n v v1 ctx b lower in
        let others : (j : ℕ) → v1 (base + j) ≡ v (base + j) = λ j. put_other v m B (base + j) (let h = fit.0 in λ s. absurd (omega arith)) in
        let x = complete e ctx (suc n) v1 t1 B Bs fit.1 (below_on n (suc n) ctx (omega arith) b) (omega arith) (λ j k. others j ∙ f j k) (subst (λ G. Reads made types G (erase e) t1 B Bs) (sym same1) d) in
        let same2 : map x.w ctx ≡ map v ctx = map_same n v1 x.w ctx b (λ i k. x.agree.below i (omega arith)) ∙ same1 in
        let y = complete g ctx (suc n + count e) x.w t2 B Cs fit.2 (below_on n (suc n + count e) ctx (omega arith) b) (omega arith) (λ j k. x.agree.frees_same j k ∙ (others j ∙ f j k)) (subst (λ G. Reads made types G (erase g) t2 B Cs) (sym same2) h) in
        let at : y.w m ≡ B = y.agree.below m (omega (arith, fit.0)) ∙ (x.agree.below m (omega (arith, fit.0)) ∙ put_same v m B) in
        record {
          w = y.w;
          agree = record { below = λ i k. y.agree.below i (omega arith) ∙ (x.agree.below i (omega arith) ∙ lower i k); frees_same = λ j k. y.agree.frees_same j k ∙ (x.agree.frees_same j k ∙ others j) };
          typed = (refl, subst (Typed base y.w e) (sym at) (typed_along x.w y.w e ctx (suc n) B fit.1 (below_on n (suc n) ctx (omega arith) b) y.agree x.typed), subst (Typed base y.w g) (sym at) y.typed);
          types_are = ap (λ Ds. Ds ++ given base y.w g) (given_along x.w y.w e ctx (suc n) fit.1 y.agree ∙ x.types_are) ∙ ap (λ Ds. Bs ++ Ds) y.types_are;
        }
    complete (bind q x m p u e) ctx n v t A As fit b l f (reads_bind {t = t1} {A = B} {As = Bs} g keeps d) =
        let v1 = put v m B in
        let lower : (i : ℕ) → i < n → v1 i ≡ v i = λ i k. put_other v m B i (let h = fit.0 in λ s. absurd (omega arith)) in
        let same : map v1 ctx ≡ map v ctx = map_same n v v1 ctx b lower in
        let others : (j : ℕ) → v1 (base + j) ≡ v (base + j) = λ j. put_other v m B (base + j) (let h = fit.0 in λ s. absurd (omega arith)) in
        let y = complete e (m ∷ ctx) (suc n) v1 t1 (binding_type q) Bs fit.1 (subst (λ i. AllBelow (suc n) (i ∷ ctx)) (sym fit.0) (below_push n ctx b)) (omega arith) (λ j k. others j ∙ f j k)
        (subst (λ G. Reads made types G (erase e) t1 (binding_type q) Bs) (sym (both (put_same v m B) same)) d) in
        let at : y.w m ≡ B = y.agree.below m (omega (arith, fit.0)) ∙ put_same v m B in
        record {
          w = y.w;
          agree = record { below = λ i k. y.agree.below i (omega arith) ∙ lower i k; frees_same = λ j k. y.agree.frees_same j k ∙ others j };
          typed = (refl, subst (Keeps u) (sym at) keeps, y.typed);
          types_are = both at y.types_are;
        }
