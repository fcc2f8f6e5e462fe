-- One step of a row of expressions, and what the type variables say after it.
use Rattle.std.proofs.Common.{◌≡◌, ℕ, ◌+◌, ◌<◌, ◌≤◌, List, [], ◌∷◌, length, map, Option, Some, None, refl, sym, ◌∙◌, ap, subst, arith}
use Rattle.std.proofs.lemmas.List.{length-map}
use Rattle.std.specs.Prelude.{MatchOption, IfSome}
use Rattle.ab_term.specs.Types.{Ty, arrow, prop}
use Rattle.ab_term.specs.Terms.{Head}
use Rattle.ab_store.specs.ab_types.specs.Entries.{Table}
use Rattle.ab_inference.specs.declared.shape.Shape.{Shape}
use Rattle.ab_inference.specs.Solutions.{Assignment, Solves, AreFormed, AreHeld}
use Rattle.ab_inference.specs.VariableSteps.{Step, NoStep}
use Rattle.ab_meaning.specs.ResolvedNames.{Name, Binding, binding_type}
use Rattle.ab_meaning.specs.Readings.{Keeps}
use Rattle.ab_inference.specs.Sketches.{Sketch, bound, known, free, apply, behind, abs, equal, bind, Typed, AllTyped}
use Rattle.ab_inference.specs.Programs.{Item, bound_item, known_item, free_item, apply_item, behind_item, abs_item, equal_item, bind_item, Runs, no_item, run_bound, run_known, run_free, run_apply, run_behind, run_abs, run_equal, run_bind}
use Rattle.ab_inference.specs.Inferences.{AreBelow, Given, Inferring, HasNoTyping, Running, Kept}

leaf_before : (base : ℕ) (v : Assignment) (k : Sketch) (st : List Sketch) → (Bs : List Ty) × AllTyped base v (k ∷ st) Bs → (Bs : List Ty) × AllTyped base v st Bs
leaf_before base v k st ([], h) = absurd h
leaf_before base v k st (B ∷ Bs, h) = (Bs, h.1)

-- what is made has types only where what it is made of has
pub typed_before : (base : ℕ) (v : Assignment) {is : List Item} {st out : List Sketch} → Runs is st out → (As : List Ty) → AllTyped base v out As → (Bs : List Ty) × AllTyped base v st Bs
typed_before base v no_item As h = (As, h)
typed_before base v (run_bound {st = st} {i = i} {n = n} r) As h = leaf_before base v (bound i n) st (typed_before base v r As h)
typed_before base v (run_known {st = st} {h = g} {A = A} r) As h = leaf_before base v (known g A) st (typed_before base v r As h)
typed_before base v (run_free {st = st} {x = x} {j = j} {p = p} r) As h = leaf_before base v (free x j p) st (typed_before base v r As h)
typed_before base v (run_apply {st = st} {e = e} {f = f} r) As h = parts (typed_before base v r As h)
  where
    parts : (Bs : List Ty) × AllTyped base v (apply e f ∷ st) Bs → (Bs : List Ty) × AllTyped base v (f ∷ e ∷ st) Bs
    parts ([], h) = absurd h
    parts (B ∷ Bs, h) = (h.0.0 ∷ arrow h.0.0 B ∷ Bs, (h.0.2, (h.0.1, h.1)))
typed_before base v (run_behind {st = st} {e = e} {f = f} r) As h = parts (typed_before base v r As h)
  where
    parts : (Bs : List Ty) × AllTyped base v (behind e f ∷ st) Bs → (Bs : List Ty) × AllTyped base v (f ∷ e ∷ st) Bs
    parts ([], h) = absurd h
    parts (B ∷ Bs, h) = (arrow h.0.0 B ∷ h.0.0 ∷ Bs, (h.0.2, (h.0.1, h.1)))
typed_before base v (run_abs {st = st} {x = x} {n = n} {p = p} {e = e} r) As h = parts (typed_before base v r As h)
  where
    parts : (Bs : List Ty) × AllTyped base v (abs x n p e ∷ st) Bs → (Bs : List Ty) × AllTyped base v (e ∷ st) Bs
    parts ([], h) = absurd h
    parts (B ∷ Bs, h) = (h.0.0 ∷ Bs, (h.0.2, h.1))
typed_before base v (run_equal {st = st} {n = n} {e = e} {f = f} r) As h = parts (typed_before base v r As h)
  where
    parts : (Bs : List Ty) × AllTyped base v (equal n e f ∷ st) Bs → (Bs : List Ty) × AllTyped base v (f ∷ e ∷ st) Bs
    parts ([], h) = absurd h
    parts (B ∷ Bs, h) = (v n ∷ v n ∷ Bs, (h.0.2, (h.0.1, h.1)))
typed_before base v (run_bind {st = st} {q = q} {x = x} {n = n} {p = p} {w = w} {e = e} r) As h = parts (typed_before base v r As h)
  where
    parts : (Bs : List Ty) × AllTyped base v (bind q x n p w e ∷ st) Bs → (Bs : List Ty) × AllTyped base v (e ∷ st) Bs
    parts ([], h) = absurd h
    parts (B ∷ Bs, h) = (binding_type q ∷ Bs, (h.0.2, h.1))

as_many : (base : ℕ) (v : Assignment) (ks : List Sketch) (As : List Ty) → AllTyped base v ks As → length ks ≡ length As
as_many base v [] [] h = refl
as_many base v [] (A ∷ As) h = absurd h
as_many base v (k ∷ ks) [] h = absurd h
as_many base v (k ∷ ks) (A ∷ As) h = omega (arith, as_many base v ks As h.1)

pub below_more : (n m : ℕ) (is : List ℕ) → n ≤ m → AreBelow n is → AreBelow m is
below_more n m [] l b = tt
below_more n m (i ∷ is) l b = (omega (arith, b.0), below_more n m is l b.1)

map_along : (v w : Assignment) (n : ℕ) (is : List ℕ) → ((k : ℕ) → k < n → w k ≡ v k) → AreBelow n is → map w is ≡ map v is
map_along v w n [] a b = refl
map_along v w n (i ∷ is) a b = ap (λ A. A ∷ map w is) (a i b.0) ∙ ap (λ As. v i ∷ As) (map_along v w n is a b.1)

head_same : {X : Type 0} {x y : X} {xs ys : List X} → x ∷ xs ≡ y ∷ ys → x ≡ y
head_same e = cc

tail_same : {X : Type 0} {x y : X} {xs ys : List X} → x ∷ xs ≡ y ∷ ys → xs ≡ ys
tail_same e = cc

both_same : {X : Type 0} {x y : X} {xs ys : List X} → x ≡ y → xs ≡ ys → x ∷ xs ≡ y ∷ ys
both_same e f = cc

module _ (types : Table) (base : ℕ) (first s : List Shape) where
  -- a bound or free name has a variable that there was from the first
  pub var_inferred : (k : Sketch) (m : ℕ) (st : List Sketch) (vs : List ℕ) → m < length first → ((v : Assignment) (A : Ty) → Typed base v k A → A ≡ v m) → ((v : Assignment) → Typed base v k (v m))
      → Inferring types base first s st vs → Inferring types base first s (k ∷ st) (m ∷ vs)
  var_inferred k m st vs l takes gives i = record {
    longer = i.longer;
    formed = i.formed;
    held = i.held;
    below = (omega (arith, i.longer), i.below);
    back = i.back;
    sound = λ v h. (gives v, i.sound v h);
    on = λ v h As t. go v h As t;
  }
    where
      go : (v : Assignment) → Solves types v first → (As : List Ty) → AllTyped base v (k ∷ st) As → Given types (length first) v s (m ∷ vs) As
      go v h [] t = absurd t
      go v h (A ∷ As) t = let x = i.on v h As t.1 in record { w = x.w; agrees = x.agrees; solves = x.solves; are = both_same (x.agrees m l ∙ sym (takes v A t.0)) x.are }

  module _ (t : List Shape) (n : ℕ) (Q : Assignment → Ty → Type 0) (step : Step types s t n Q) where
    -- what is made of nothing
    pub leaf_inferred : (k : Sketch) (st : List Sketch) (vs : List ℕ) → ((v : Assignment) (A : Ty) → Typed base v k A → (w : Assignment) → Q w A) → ((v : Assignment) (A : Ty) → Q v A → Typed base v k A)
        → Inferring types base first s st vs → Inferring types base first t (k ∷ st) (n ∷ vs)
    leaf_inferred k st vs takes gives i = record {
      longer = omega (arith, i.longer, step.longer);
      formed = step.formed;
      held = step.held;
      below = (step.node, below_more (length s) (length t) vs step.longer i.below);
      back = λ v h. i.back v (step.back v h);
      sound = λ v h. (gives v (v n) (step.gives v h), i.sound v (step.back v h));
      on = λ v h As d. go v h As d;
    }
      where
        go : (v : Assignment) → Solves types v first → (As : List Ty) → AllTyped base v (k ∷ st) As → Given types (length first) v t (n ∷ vs) As
        go v h [] d = absurd d
        go v h (A ∷ As) d =
            let x = i.on v h As d.1 in
            let y = step.on x.w x.solves A (takes v A d.0 x.w) in
            record {
              w = y.w;
              agrees = λ j l. y.agrees j (omega (arith, i.longer)) ∙ x.agrees j l;
              solves = y.solves;
              are = both_same y.at (map_along x.w y.w (length s) vs y.agrees i.below ∙ x.are);
            }

    -- what is made of the last
    pub one_inferred : (k e : Sketch) (st : List Sketch) (b : ℕ) (vs : List ℕ)
        → ((v : Assignment) (A : Ty) → Typed base v k A → (B : Ty) × (Typed base v e B) × ((w : Assignment) → ((j : ℕ) → j < length first → w j ≡ v j) → w b ≡ B → Q w A))
        → ((v : Assignment) (A : Ty) → Typed base v e (v b) → Q v A → Typed base v k A)
        → Inferring types base first s (e ∷ st) (b ∷ vs) → Inferring types base first t (k ∷ st) (n ∷ vs)
    one_inferred k e st b vs takes gives i = record {
      longer = omega (arith, i.longer, step.longer);
      formed = step.formed;
      held = step.held;
      below = (step.node, below_more (length s) (length t) vs step.longer i.below.1);
      back = λ v h. i.back v (step.back v h);
      sound = λ v h. let g = i.sound v (step.back v h) in (gives v (v n) g.0 (step.gives v h), g.1);
      on = λ v h As d. go v h As d;
    }
      where
        go : (v : Assignment) → Solves types v first → (As : List Ty) → AllTyped base v (k ∷ st) As → Given types (length first) v t (n ∷ vs) As
        go v h [] d = absurd d
        go v h (A ∷ As) d =
            let p = takes v A d.0 in
            let x = i.on v h (p.0 ∷ As) (p.1, d.1) in
            let y = step.on x.w x.solves A (p.2 x.w x.agrees (head_same x.are)) in
            record {
              w = y.w;
              agrees = λ j l. y.agrees j (omega (arith, i.longer)) ∙ x.agrees j l;
              solves = y.solves;
              are = both_same y.at (map_along x.w y.w (length s) vs y.agrees i.below.1 ∙ tail_same x.are);
            }

    -- what is made of the last two
    pub two_inferred : (k e f : Sketch) (st : List Sketch) (a b : ℕ) (vs : List ℕ)
        → ((v : Assignment) (A : Ty) → Typed base v k A → (B C : Ty) × (Typed base v e B) × (Typed base v f C) × ((w : Assignment) → ((j : ℕ) → j < length first → w j ≡ v j) → w a ≡ B → w b ≡ C → Q w A))
        → ((v : Assignment) (A : Ty) → Typed base v e (v a) → Typed base v f (v b) → Q v A → Typed base v k A)
        → Inferring types base first s (f ∷ e ∷ st) (b ∷ a ∷ vs) → Inferring types base first t (k ∷ st) (n ∷ vs)
    two_inferred k e f st a b vs takes gives i = record {
      longer = omega (arith, i.longer, step.longer);
      formed = step.formed;
      held = step.held;
      below = (step.node, below_more (length s) (length t) vs step.longer i.below.1.1);
      back = λ v h. i.back v (step.back v h);
      sound = λ v h. let g = i.sound v (step.back v h) in (gives v (v n) g.1.0 g.0 (step.gives v h), g.1.1);
      on = λ v h As d. go v h As d;
    }
      where
        go : (v : Assignment) → Solves types v first → (As : List Ty) → AllTyped base v (k ∷ st) As → Given types (length first) v t (n ∷ vs) As
        go v h [] d = absurd d
        go v h (A ∷ As) d =
            let p = takes v A d.0 in
            let x = i.on v h (p.1 ∷ p.0 ∷ As) (p.3, (p.2, d.1)) in
            let y = step.on x.w x.solves A (p.4 x.w x.agrees (head_same (tail_same x.are)) (head_same x.are)) in
            record {
              w = y.w;
              agrees = λ j l. y.agrees j (omega (arith, i.longer)) ∙ x.agrees j l;
              solves = y.solves;
              are = both_same y.at (map_along x.w y.w (length s) vs y.agrees i.below.1.1 ∙ tail_same (tail_same x.are));
            }

-- what is known after a step
pub kept_of : (types : Table) (s t : List Shape) (Q : Assignment → Ty → Type 0) (found : Option ℕ) (old vs : List ℕ) → MatchOption found (NoStep types s Q) (λ n. Step types s t n Q)
    → AreBelow (length s) old → ((n : ℕ) → AreBelow n old → AreBelow n vs) → IfSome found (Kept types s t vs)
kept_of types s t Q None old vs h b front = tt
kept_of types s t Q (Some n) old vs h b front = record {
  longer = h.longer;
  formed = h.formed;
  held = h.held;
  below = (h.node, front (length t) (below_more (length s) (length t) old h.longer b));
}

pub rest_one : (old vs : List ℕ) (x : ℕ) → old ≡ x ∷ vs → (n : ℕ) → AreBelow n old → AreBelow n vs
rest_one old vs x e n b = (subst (AreBelow n) e b).1

pub rest_two : (old vs : List ℕ) (x y : ℕ) → old ≡ x ∷ y ∷ vs → (n : ℕ) → AreBelow n old → AreBelow n vs
rest_two old vs x y e n b = (subst (AreBelow n) e b).1.1

no_more : {X : Type 0} {y : X} {ys : List X} → [] ≡ y ∷ ys → ⊥
no_more e = cc

module _ (types : Table) (base : ℕ) (first s : List Shape) (rest : List Item) (out : List Sketch) where
  abbrev Here : List Item → List ℕ → Type 0
  Here is vs = Running types base first s is out vs

  abbrev There : List Shape → List ℕ → Type 0
  There t vs = Running types base first t rest out vs

  -- nothing of this can be made
  no_way : {is : List Item} {st : List Sketch} → Runs is st out → ((v : Assignment) → Solves types v first → (Bs : List Ty) → AllTyped base v st Bs → ⊥) → HasNoTyping types base first out
  no_way r none v h As t = let b = typed_before base v r As t in none v h b.0 b.1

  pub run_var : (i n : ℕ) (vs : List ℕ) → n < length first → Here (bound_item i n ∷ rest) vs → There s (n ∷ vs)
  run_var i n vs l h = go h.stack h.runs h.inferring
    where
      go : (st : List Sketch) → Runs (bound_item i n ∷ rest) st out → Inferring types base first s st vs → There s (n ∷ vs)
      go st (run_bound r) inf = record { stack = bound i n ∷ st; runs = r; inferring = var_inferred types base first s (bound i n) n st vs l (λ v A t. t) (λ v. refl) inf }

  pub run_free_var : (x : Name) (j p : ℕ) (vs : List ℕ) → base + j < length first → Here (free_item x j p ∷ rest) vs → There s ((base + j) ∷ vs)
  run_free_var x j p vs l h = go h.stack h.runs h.inferring
    where
      go : (st : List Sketch) → Runs (free_item x j p ∷ rest) st out → Inferring types base first s st vs → There s ((base + j) ∷ vs)
      go st (run_free r) inf = record { stack = free x j p ∷ st; runs = r; inferring = var_inferred types base first s (free x j p) (base + j) st vs l (λ v A t. t) (λ v. refl) inf }

  module _ (found : Option ℕ) (t : List Shape) (Q : Assignment → Ty → Type 0) (step : MatchOption found (NoStep types s Q) (λ n. Step types s t n Q)) where
    abbrev Goes : List ℕ → Type 0
    Goes vs = MatchOption found (HasNoTyping types base first out) (λ n. There t (n ∷ vs))

    either_way : (vs : List ℕ) → (NoStep types s Q → HasNoTyping types base first out) → ((n : ℕ) → Step types s t n Q → There t (n ∷ vs)) → Goes vs
    either_way vs none some = go found step
      where
        go : (f : Option ℕ) → MatchOption f (NoStep types s Q) (λ n. Step types s t n Q) → MatchOption f (HasNoTyping types base first out) (λ n. There t (n ∷ vs))
        go None h = none h
        go (Some n) h = some n h

    pub run_head : (h : Head ℕ) (A : Ty) (vs : List ℕ) → ((w : Assignment) → Q w A) → ((v : Assignment) (B : Ty) → Q v B → B ≡ A) → Here (known_item h A ∷ rest) vs → Goes vs
    run_head h A vs takes gives here = go here.stack here.runs here.inferring
      where
        go : (st : List Sketch) → Runs (known_item h A ∷ rest) st out → Inferring types base first s st vs → Goes vs
        go st (run_known r) inf = either_way vs
            (λ none. no_way r (missing none))
            (λ n step. record { stack = known h A ∷ st; runs = r; inferring = leaf_inferred types base first s t n Q step (known h A) st vs (λ v B d w. subst (Q w) (sym d) (takes w)) gives inf })
          where
            missing : NoStep types s Q → (v : Assignment) → Solves types v first → (Bs : List Ty) → AllTyped base v (known h A ∷ st) Bs → ⊥
            missing none v k [] b = b
            missing none v k (B ∷ Bs) b = let x = inf.on v k Bs b.1 in none x.w x.solves A (takes x.w)

    one_way : (k e : Sketch) (st : List Sketch) (b : ℕ) (vs : List ℕ) → Runs rest (k ∷ st) out → Inferring types base first s (e ∷ st) (b ∷ vs)
        → ((v : Assignment) (A : Ty) → Typed base v k A → (B : Ty) × (Typed base v e B) × ((w : Assignment) → ((j : ℕ) → j < length first → w j ≡ v j) → w b ≡ B → Q w A))
        → ((v : Assignment) (A : Ty) → Typed base v e (v b) → Q v A → Typed base v k A) → Goes vs
    one_way k e st b vs r inf takes gives = either_way vs (λ none. no_way r (missing none))
        (λ n step. record { stack = k ∷ st; runs = r; inferring = one_inferred types base first s t n Q step k e st b vs takes gives inf })
      where
        missing : NoStep types s Q → (v : Assignment) → Solves types v first → (Bs : List Ty) → AllTyped base v (k ∷ st) Bs → ⊥
        missing none v h [] d = d
        missing none v h (A ∷ As) d =
            let p = takes v A d.0 in
            let x = inf.on v h (p.0 ∷ As) (p.1, d.1) in
            none x.w x.solves A (p.2 x.w x.agrees (head_same x.are))

    two_ways : (k e f : Sketch) (st : List Sketch) (a b : ℕ) (vs : List ℕ) → Runs rest (k ∷ st) out → Inferring types base first s (f ∷ e ∷ st) (b ∷ a ∷ vs)
        → ((v : Assignment) (A : Ty) → Typed base v k A → (B C : Ty) × (Typed base v e B) × (Typed base v f C) × ((w : Assignment) → ((j : ℕ) → j < length first → w j ≡ v j) → w a ≡ B → w b ≡ C → Q w A))
        → ((v : Assignment) (A : Ty) → Typed base v e (v a) → Typed base v f (v b) → Q v A → Typed base v k A) → Goes vs
    two_ways k e f st a b vs r inf takes gives = either_way vs (λ none. no_way r (missing none))
        (λ n step. record { stack = k ∷ st; runs = r; inferring = two_inferred types base first s t n Q step k e f st a b vs takes gives inf })
      where
        missing : NoStep types s Q → (v : Assignment) → Solves types v first → (Bs : List Ty) → AllTyped base v (k ∷ st) Bs → ⊥
        missing none v h [] d = d
        missing none v h (A ∷ As) d =
            let p = takes v A d.0 in
            let x = inf.on v h (p.1 ∷ p.0 ∷ As) (p.3, (p.2, d.1)) in
            none x.w x.solves A (p.4 x.w x.agrees (head_same (tail_same x.are)) (head_same x.are))

    pub run_abstraction : (x : Name) (m p b : ℕ) (vs : List ℕ) → m < length first → ((v : Assignment) (A : Ty) → A ≡ arrow (v m) (v b) → Q v A) → ((v : Assignment) (A : Ty) → Q v A → A ≡ arrow (v m) (v b))
        → Here (abs_item x m p ∷ rest) (b ∷ vs) → Goes vs
    run_abstraction x m p b vs l takes gives here = go here.stack here.runs here.inferring
      where
        go : (st : List Sketch) → Runs (abs_item x m p ∷ rest) st out → Inferring types base first s st (b ∷ vs) → Goes vs
        go [] r inf = elim r [ ]
        go (e ∷ st) (run_abs r) inf = one_way (abs x m p e) e st b vs r inf
            (λ v A d. (d.0, d.2, λ w same at. takes w A (d.1 ∙ (ap (λ C. arrow C d.0) (sym (same m l)) ∙ ap (λ C. arrow (w m) C) (sym at)))))
            (λ v A d q. (v b, gives v A q, d))

    pub run_application : (a b : ℕ) (vs : List ℕ) → ((v : Assignment) (A : Ty) → v a ≡ arrow (v b) A → Q v A) → ((v : Assignment) (A : Ty) → Q v A → v a ≡ arrow (v b) A)
        → Here (apply_item ∷ rest) (b ∷ a ∷ vs) → Goes vs
    run_application a b vs takes gives here = go here.stack here.runs here.inferring
      where
        go : (st : List Sketch) → Runs (apply_item ∷ rest) st out → Inferring types base first s st (b ∷ a ∷ vs) → Goes vs
        go [] r inf = elim r [ ]
        go (f ∷ []) r inf = elim r [ ]
        go (f ∷ e ∷ st) (run_apply r) inf = two_ways (apply e f) e f st a b vs r inf
            (λ v A d. (arrow d.0 A, d.0, d.1, d.2, λ w same one two. takes w A (one ∙ ap (λ C. arrow C A) (sym two))))
            (λ v A d g q. (v b, subst (Typed base v e) (gives v A q) d, g))

    pub run_application_behind : (a b : ℕ) (vs : List ℕ) → ((v : Assignment) (A : Ty) → v b ≡ arrow (v a) A → Q v A) → ((v : Assignment) (A : Ty) → Q v A → v b ≡ arrow (v a) A)
        → Here (behind_item ∷ rest) (b ∷ a ∷ vs) → Goes vs
    run_application_behind a b vs takes gives here = go here.stack here.runs here.inferring
      where
        go : (st : List Sketch) → Runs (behind_item ∷ rest) st out → Inferring types base first s st (b ∷ a ∷ vs) → Goes vs
        go [] r inf = elim r [ ]
        go (f ∷ []) r inf = elim r [ ]
        go (f ∷ e ∷ st) (run_behind r) inf = two_ways (behind e f) e f st a b vs r inf
            (λ v A d. (d.0, arrow d.0 A, d.1, d.2, λ w same one two. takes w A (two ∙ ap (λ C. arrow C A) (sym one))))
            (λ v A d g q. (v a, d, subst (Typed base v f) (gives v A q) g))

    pub run_equation : (m a b : ℕ) (vs : List ℕ) → m < length first → ((v : Assignment) (A : Ty) → A ≡ prop → v a ≡ v m → v b ≡ v m → Q v A) → ((v : Assignment) (A : Ty) → Q v A → (A ≡ prop) × (v a ≡ v m) × (v b ≡ v m))
        → Here (equal_item m ∷ rest) (b ∷ a ∷ vs) → Goes vs
    run_equation m a b vs l takes gives here = go here.stack here.runs here.inferring
      where
        go : (st : List Sketch) → Runs (equal_item m ∷ rest) st out → Inferring types base first s st (b ∷ a ∷ vs) → Goes vs
        go [] r inf = elim r [ ]
        go (f ∷ []) r inf = elim r [ ]
        go (f ∷ e ∷ st) (run_equal r) inf = two_ways (equal m e f) e f st a b vs r inf
            (λ v A d. (v m, v m, d.1, d.2, λ w same one two. takes w A d.0 (one ∙ sym (same m l)) (two ∙ sym (same m l))))
            (λ v A d g q. let h = gives v A q in (h.0, subst (Typed base v e) h.1 d, subst (Typed base v f) h.2 g))

    pub run_binder : (q : Binding) (x : Name) (m p : ℕ) (w : Option Ty) (b : ℕ) (vs : List ℕ) → m < length first → ((v : Assignment) (A : Ty) → Keeps w (v m) → v b ≡ binding_type q → A ≡ binding_type q → Q v A)
        → ((v : Assignment) (A : Ty) → Q v A → Keeps w (v m) × (v b ≡ binding_type q) × (A ≡ binding_type q)) → Here (bind_item q x m p w ∷ rest) (b ∷ vs) → Goes vs
    run_binder q x m p w b vs l takes gives here = go here.stack here.runs here.inferring
      where
        go : (st : List Sketch) → Runs (bind_item q x m p w ∷ rest) st out → Inferring types base first s st (b ∷ vs) → Goes vs
        go [] r inf = elim r [ ]
        go (e ∷ st) (run_bind r) inf = one_way (bind q x m p w e) e st b vs r inf
            (λ v A d. (binding_type q, d.2, λ u same at. takes u A (subst (Keeps w) (sym (same m l)) d.1) at d.0))
            (λ v A d h. let g = gives v A h in (g.2, g.0, subst (Typed base v e) g.1 d))

  -- too few variables are left
  few : (st : List Sketch) (vs : List ℕ) → Inferring types base first s st vs → length vs < length st → (v : Assignment) → Solves types v first → (Bs : List Ty) → AllTyped base v st Bs → ⊥
  few st vs inf l v h Bs b =
      let x = inf.on v h Bs b in
      omega (arith, as_many base v st Bs b, ap length x.are, length-map vs x.w)

  pub few_apply : (vs : List ℕ) → length vs ≤ 1 → Here (apply_item ∷ rest) vs → HasNoTyping types base first out
  few_apply vs l here = go here.stack here.runs here.inferring
    where
      go : (st : List Sketch) → Runs (apply_item ∷ rest) st out → Inferring types base first s st vs → HasNoTyping types base first out
      go [] r inf = elim r [ ]
      go (f ∷ []) r inf = elim r [ ]
      go (f ∷ e ∷ st) r inf = no_way r (few (f ∷ e ∷ st) vs inf (omega arith))

  pub few_behind : (vs : List ℕ) → length vs ≤ 1 → Here (behind_item ∷ rest) vs → HasNoTyping types base first out
  few_behind vs l here = go here.stack here.runs here.inferring
    where
      go : (st : List Sketch) → Runs (behind_item ∷ rest) st out → Inferring types base first s st vs → HasNoTyping types base first out
      go [] r inf = elim r [ ]
      go (f ∷ []) r inf = elim r [ ]
      go (f ∷ e ∷ st) r inf = no_way r (few (f ∷ e ∷ st) vs inf (omega arith))

  pub few_equal : (m : ℕ) (vs : List ℕ) → length vs ≤ 1 → Here (equal_item m ∷ rest) vs → HasNoTyping types base first out
  few_equal m vs l here = go here.stack here.runs here.inferring
    where
      go : (st : List Sketch) → Runs (equal_item m ∷ rest) st out → Inferring types base first s st vs → HasNoTyping types base first out
      go [] r inf = elim r [ ]
      go (f ∷ []) r inf = elim r [ ]
      go (f ∷ e ∷ st) r inf = no_way r (few (f ∷ e ∷ st) vs inf (omega arith))

  pub few_abs : (x : Name) (m p : ℕ) (vs : List ℕ) → vs ≡ [] → Here (abs_item x m p ∷ rest) vs → HasNoTyping types base first out
  few_abs x m p vs l here = go here.stack here.runs here.inferring
    where
      go : (st : List Sketch) → Runs (abs_item x m p ∷ rest) st out → Inferring types base first s st vs → HasNoTyping types base first out
      go [] r inf = elim r [ ]
      go (e ∷ st) r inf = no_way r (few (e ∷ st) vs inf (omega (arith, ap length l)))

  pub few_bind : (q : Binding) (x : Name) (m p : ℕ) (w : Option Ty) (vs : List ℕ) → vs ≡ [] → Here (bind_item q x m p w ∷ rest) vs → HasNoTyping types base first out
  few_bind q x m p w vs l here = go here.stack here.runs here.inferring
    where
      go : (st : List Sketch) → Runs (bind_item q x m p w ∷ rest) st out → Inferring types base first s st vs → HasNoTyping types base first out
      go [] r inf = elim r [ ]
      go (e ∷ st) r inf = no_way r (few (e ∷ st) vs inf (omega (arith, ap length l)))

-- all steps are taken
module _ (types : Table) (base : ℕ) (first s : List Shape) (k : Sketch) where
  pub at_end : (popped : Option ℕ) (all rest : List ℕ) → MatchOption popped (all ≡ []) (λ n. all ≡ n ∷ rest) → Running types base first s [] (k ∷ []) all
      → MatchOption popped (HasNoTyping types base first (k ∷ [])) (λ n. Inferring types base first s (k ∷ []) (n ∷ []))
  at_end popped all rest is r = go r.stack r.runs r.inferring
    where
      first_only : (n : ℕ) (more : List ℕ) → Inferring types base first s (k ∷ []) (n ∷ more) → Inferring types base first s (k ∷ []) (n ∷ [])
      first_only n more inf = record {
        longer = inf.longer;
        formed = inf.formed;
        held = inf.held;
        below = (inf.below.0, tt);
        back = inf.back;
        sound = λ v h. ((inf.sound v h).0, tt);
        on = λ v h As t. let x = inf.on v h As t in only v As t x.w x.agrees x.solves x.are;
      }
        where
          only : (v : Assignment) (As : List Ty) → AllTyped base v (k ∷ []) As → (w : Assignment) → ((j : ℕ) → j < length first → w j ≡ v j) → Solves types w s → map w (n ∷ more) ≡ As → Given types (length first) v s (n ∷ []) As
          only v [] t w a h e = absurd t
          only v (A ∷ []) t w a h e = record { w = w; agrees = a; solves = h; are = both_same (head_same e) refl }
          only v (A ∷ B ∷ As) t w a h e = absurd t.1

      by_popped : (o : Option ℕ) → MatchOption o (all ≡ []) (λ n. all ≡ n ∷ rest) → Inferring types base first s (k ∷ []) all → MatchOption o (HasNoTyping types base first (k ∷ [])) (λ n. Inferring types base first s (k ∷ []) (n ∷ []))
      by_popped None e inf = few types base first s [] (k ∷ []) (k ∷ []) all inf (omega (arith, ap length e))
      by_popped (Some n) e inf = first_only n rest (subst (Inferring types base first s (k ∷ [])) e inf)

      go : (st : List Sketch) → Runs [] st (k ∷ []) → Inferring types base first s st all → MatchOption popped (HasNoTyping types base first (k ∷ [])) (λ n. Inferring types base first s (k ∷ []) (n ∷ []))
      go st no_item inf = by_popped popped is inf

-- before the first step
pub at_start : (types : Table) (base : ℕ) (first : List Shape) (items : List Item) (k : Sketch) → AreFormed first → AreHeld types first → Runs items [] (k ∷ []) → Running types base first first items (k ∷ []) []
at_start types base first items k f h r = record {
  stack = [];
  runs = r;
  inferring = record { longer = omega arith; formed = f; held = h; below = tt; back = λ v g. g; sound = λ v g. tt; on = λ v g As t. none v g As t };
}
  where
    none : (v : Assignment) → Solves types v first → (As : List Ty) → AllTyped base v [] As → Given types (length first) v first [] As
    none v g [] t = record { w = v; agrees = λ j l. refl; solves = g; are = refl }
    none v g (A ∷ As) t = absurd t

pub same_rest : (vs : List ℕ) (n : ℕ) → AreBelow n vs → AreBelow n vs
same_rest vs n b = b

pub kept_last : (types : Table) (first s : List Shape) (popped : Option ℕ) (all rest : List ℕ) → length first ≤ length s → AreFormed s → AreHeld types s → AreBelow (length s) all
    → MatchOption popped (all ≡ []) (λ n. all ≡ n ∷ rest) → IfSome popped (Kept types first s [])
kept_last types first s None all rest l f h b is = tt
kept_last types first s (Some n) all rest l f h b is = record { longer = l; formed = f; held = h; below = ((subst (AreBelow (length s)) is b).0, tt) }
