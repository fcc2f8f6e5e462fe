-- The heads of a term, seen once in order: where they stand, what they are from outside a binder, and which a binder binds.
use Rattle.std.proofs.Common.{◌≡◌, ℕ, zero, suc, ◌+◌, ◌-◌, ◌^◌, ◌≤◌, ◌<◌, length, get_or, map, take, drop, List, [], ◌∷◌, ◌++◌, Bool, true, false, Option, Some, None, refl, sym, ◌∙◌, ap, subst, arith, append_assoc, length-append}
use Rattle.std.specs.Prelude.{◌==◌, slice_range, slice_set, nat_lt, if◌then◌else◌}
use Rattle.std.specs.List.{All, filter_map, cons_option}
use Rattle.std.proofs.Math.ListN.{get_or-append}
use Rattle.std.proofs.lemmas.List.{append-nil, take_at, drop_at, get_or-append_right, get_or-set_same, get_or-set_other, length-set}
use Rattle.std.proofs.lemmas.List.Elements.{All-nil, All-cons, All-head, All-tail, All-append, filter_map-append}
use Rattle.std.proofs.lemmas.Bool.{eqb-true, eq-eqb, ltb-true, ltb-false}
use Rattle.ab_term.specs.Types.{Ty}
use Rattle.ab_term.specs.Terms as tree
use Rattle.ab_term.specs.Terms.{constant, logical, nominal, variable, index, lam, Read}
use Rattle.ab_term.specs.Substitution.{lower_head}
use Rattle.ab_store.specs.ab_types.specs.Entries.{Table}
use Rattle.ab_store.specs.declared.node.Head.{Head}
use Rattle.ab_store.specs.declared.node.Head.TheVariants.{Index}
use Rattle.ab_store.specs.Trees.{Contents, head_reading}
use Rattle.ab_print.specs.PrintedNames.{free_heads}
use Rattle.std.specs.declared.alloc.Global.{Global}
use Rattle.std.specs.declared.vec.Vec.{Vec}
use Rattle.ab_print.specs.declared.drawings.Seen.{Seen}
use Rattle.ab_print.specs.declared.drawings.Part.{Part}
use Rattle.ab_print.specs.Drawings.{outside, bound_so_far, IsHeld, AreHeld, from, all_from, Puts, IsPart}
use Rattle.ab_print.specs.Places.{places_of, has, is_bound_by, is_bound_at, IsInOrder}
use Rattle.ab_print.proofs.Placing.{not_both, has_place, places_in_order, places_append}
use Rattle.ab_print.proofs.Scoped.{map_at}

-- from outside no binder a head is itself
by_zero : (i : ℕ) (b : Bool) → nat_lt i 0 ≡ b → (let o : Option (tree.Head ℕ) = if b then None else (Some (index (i - 0))) in o) ≡ Some (index i)
by_zero i true e = absurd (let l : i < 0 = ltb-true i 0 e in omega arith)
by_zero i false e = let same : i - 0 ≡ i = omega arith in ap (λ (k : ℕ). let o : Option (tree.Head ℕ) = Some (index k) in o) same

pub outside_none : (h : tree.Head ℕ) → outside 0 h ≡ Some h
outside_none (constant c) = refl
outside_none (logical l) = refl
outside_none (nominal a) = refl
outside_none (variable x) = refl
outside_none (index i) = by_zero i (nat_lt i 0) refl

-- and from outside one more it is what it is outside one binder
abbrev lowered : Option (tree.Head ℕ) → Option (tree.Head ℕ)
lowered None = None
lowered (Some h) = lower_head 0 h

index_more : (n i : ℕ) (b c : Bool) → nat_lt i (suc n) ≡ b → nat_lt i n ≡ c
    → (let o : Option (tree.Head ℕ) = if b then None else (Some (index (i - suc n))) in o) ≡ lowered (if c then None else (Some (index (i - n))))
index_more n i true true e f = refl
index_more n i true false e f =
    let a : i < suc n = ltb-true i (suc n) e in
    let b : n ≤ i = ltb-false i n f in
    let none : i - n ≡ 0 = omega arith in
    sym (ap (λ (k : ℕ). lower_head {Var = ℕ} 0 (index k)) none)
index_more n i false true e f = absurd (let a : suc n ≤ i = ltb-false i (suc n) e in let b : i < n = ltb-true i n f in omega arith)
index_more n i false false e f =
    let a : suc n ≤ i = ltb-false i (suc n) e in
    let left : i - n ≡ suc (i - suc n) = omega arith in
    sym (ap (λ (k : ℕ). lower_head {Var = ℕ} 0 (index k)) left)

outside_more : (n : ℕ) (h : tree.Head ℕ) → outside (suc n) h ≡ lowered (outside n h)
outside_more n (constant c) = refl
outside_more n (logical l) = refl
outside_more n (nominal a) = refl
outside_more n (variable x) = refl
outside_more n (index i) = index_more n i (nat_lt i (suc n)) (nat_lt i n) refl refl

-- the place of a bound name is put behind those of its binder
pub marked : (vs : List (Vec ℕ Global)) (r w : Vec ℕ Global) (h : Head) (i n place : ℕ) → h ≡ Index i → n ≡ length vs → i < n → r ≡ get_or vs (n - 1 - i) r → w.items ≡ r.items ++ place ∷ []
    → (k : ℕ) → k < length vs → bound_so_far (slice_set vs (n - 1 - i) w) k ≡ bound_so_far vs k ++ (if is_bound_by k h (length vs) then (place ∷ []) else [])
marked vs r w h i n place head size low there is k up = go (i + k + 1 == length vs) refl
  where
    at_set : bound_so_far (slice_set vs (n - 1 - i) w) k ≡ (get_or (slice_set vs (n - 1 - i) w) k w).items
    at_set = let same : length (slice_set vs (n - 1 - i) w) ≡ length vs = length-set vs (n - 1 - i) w in map_at (λ v. v.items) (slice_set vs (n - 1 - i) w) k w [] (omega arith)

    test : is_bound_by k h (length vs) ≡ (i + k + 1 == length vs)
    test = ap (λ (g : Head). is_bound_by k g (length vs)) head

    go : (b : Bool) → (i + k + 1 == length vs) ≡ b → bound_so_far (slice_set vs (n - 1 - i) w) k ≡ bound_so_far vs k ++ (if is_bound_by k h (length vs) then (place ∷ []) else [])
    go true e =
        let last : i + k + 1 ≡ length vs = eqb-true (i + k + 1) (length vs) e in
        let here : k ≡ n - 1 - i = omega arith in
        at_set ∙ ap (λ (m : ℕ). (get_or (slice_set vs (n - 1 - i) w) m w).items) here ∙ ap (λ v. v.items) (get_or-set_same vs (n - 1 - i) w w (omega arith)) ∙ is
        ∙ ap (λ (ps : List ℕ). ps ++ place ∷ []) (sym (map_at (λ v. v.items) vs k r [] up ∙ ap (λ (m : ℕ). (get_or vs m r).items) here ∙ ap (λ v. v.items) (sym there)))
        ∙ ap (λ (b : Bool). bound_so_far vs k ++ (if b then (place ∷ []) else [])) (sym (test ∙ e))
    go false e =
        let other : k ≡ n - 1 - i → ⊥ = λ here. not_both (i + k + 1 == length vs) (eq-eqb (i + k + 1) (length vs) (omega arith)) e in
        at_set ∙ ap (λ v. v.items) (get_or-set_other vs (n - 1 - i) k w w other) ∙ sym (map_at (λ v. v.items) vs k w [] up) ∙ sym (append-nil (bound_so_far vs k))
        ∙ ap (λ (b : Bool). bound_so_far vs k ++ (if b then (place ∷ []) else [])) (sym (test ∙ e))

-- and as it is said under so many binders
pub marked_under : (known later : List (Vec ℕ Global)) (h : Head) (depth place size : ℕ) → length known ≡ depth → place ≡ size
    → ((k : ℕ) → k < length known → bound_so_far later k ≡ bound_so_far known k ++ (if is_bound_by k h (length known) then (place ∷ []) else []))
    → (k : ℕ) → k < depth → bound_so_far later k ≡ bound_so_far known k ++ (if is_bound_by k h depth then (size ∷ []) else [])
marked_under known later h depth place size around same all k low =
    all k (omega arith)
    ∙ ap (λ (n : ℕ). bound_so_far known k ++ (if is_bound_by k h n then (place ∷ []) else [])) around
    ∙ ap (λ (n : ℕ). bound_so_far known k ++ (if is_bound_by k h depth then (n ∷ []) else [])) same

pub one_longer : {X : Type 0} (xs ys : List X) (x : X) (n : ℕ) → ys ≡ xs ++ x ∷ [] → n ≤ length xs → n ≤ length ys
one_longer xs ys x n is low = let size : length ys ≡ length xs + 1 = ap length is ∙ length-append xs (x ∷ []) in omega arith

module _ (types : Table) (store : Contents) where
  one_out : (depth : ℕ) (s : Seen) → depth + 1 ≤ s.binders → from types store depth s ≡ lowered (from types store (depth + 1) s)
  one_out depth s h =
      let more : s.binders - depth ≡ suc (s.binders - (depth + 1)) = omega arith in
      ap (λ (k : ℕ). outside k (head_reading types store s.head)) more ∙ outside_more (s.binders - (depth + 1)) (head_reading types store s.head)

  step_out : (a b : Option (tree.Head ℕ)) (xs : List (tree.Head ℕ)) → a ≡ lowered b → cons_option a (filter_map (lower_head 0) xs) ≡ filter_map (lower_head 0) (cons_option b xs)
  step_out a None xs e = ap (λ (o : Option (tree.Head ℕ)). cons_option o (filter_map (lower_head 0) xs)) e
  step_out a (Some h) xs e = ap (λ (o : Option (tree.Head ℕ)). cons_option o (filter_map (lower_head 0) xs)) e

  -- what stands under one binder more, seen from outside it
  pub all_out : (depth : ℕ) (ss : List Seen) → All (λ s. depth + 1 ≤ s.binders) ss → all_from types store depth ss ≡ filter_map (lower_head 0) (all_from types store (depth + 1) ss)
  all_out depth [] h = refl
  all_out depth (s ∷ ss) h =
      ap (λ (w : List (tree.Head ℕ)). cons_option (from types store depth s) w) (all_out depth ss (All-tail (λ (s : Seen). depth + 1 ≤ s.binders) s ss h))
      ∙ step_out (from types store depth s) (from types store (depth + 1) s) (all_from types store (depth + 1) ss) (one_out depth s (All-head (λ (s : Seen). depth + 1 ≤ s.binders) s ss h))

  less_deep : (depth : ℕ) (ss : List Seen) → All (λ s. depth + 1 ≤ s.binders) ss → All (λ s. depth ≤ s.binders) ss
  less_deep depth ss h = λ k d l. let a = h k d l in omega arith

  -- The places that are known of bound names, where there is one more binder, and where it is gone

  map_more : {X Y : Type 0} (f : X → Y) (xs ys : List X) (k : ℕ) (d : Y) → k < length xs → get_or (map f (xs ++ ys)) k d ≡ get_or (map f xs) k d
  map_more f [] ys k d h = absurd (omega arith)
  map_more f (x ∷ xs) ys zero d h = refl
  map_more f (x ∷ xs) ys (suc k) d h = map_more f xs ys k d (omega arith)

  map_last : {X Y : Type 0} (f : X → Y) (xs : List X) (x : X) (d : Y) → get_or (map f (xs ++ x ∷ [])) (length xs) d ≡ f x
  map_last f [] x d = refl
  map_last f (y ∷ xs) x d = map_last f xs x d

  one_more : {X : Type 0} (xs : List X) (x : X) → length (xs ++ x ∷ []) ≡ length xs + 1
  one_more xs x = length-append xs (x ∷ [])

  -- an abstraction puts what its body puts
  pub puts_body : (depth : ℕ) (old new : List Seen) (known mid later : List (Vec ℕ Global)) (v w : Vec ℕ Global) (A : Ty) (x : List ℕ) (t : Read)
      → length known ≡ depth → mid ≡ later ++ w ∷ [] → Puts types store (depth + 1) old new (known ++ v ∷ []) mid (free_heads t) → Puts types store depth old new known later (free_heads (lam A x t))
  puts_body depth old new known mid later v w A x t size popped p =
      let around : length later ≡ depth = (let a : length mid ≡ depth + 1 = p.around in let b : length mid ≡ length later + 1 = ap length popped ∙ one_more later w in omega arith) in record {
        more = p.more;
        behind = p.behind;
        under = less_deep depth p.more p.under;
        held = p.held;
        same = all_out depth p.more p.under ∙ ap (filter_map (lower_head 0)) p.same;
        around = around;
        bound = λ k low.
            sym (ap (λ (vs : List (Vec ℕ Global)). bound_so_far vs k) popped ∙ map_more (λ v. v.items) later (w ∷ []) k [] (omega (arith, around)))
            ∙ p.bound k (omega arith)
            ∙ ap (λ (ps : List ℕ). ps ++ places_of (is_bound_at k) (length old) p.more) (map_more (λ v. v.items) known (v ∷ []) k [] (omega (arith, size)));
      }

  -- the places of the binder's own name
  pub own_bound : (depth : ℕ) (old new : List Seen) (known mid later : List (Vec ℕ Global)) (v w : Vec ℕ Global) (hs : List (tree.Head ℕ)) → length known ≡ depth → v.items ≡ [] → mid ≡ later ++ w ∷ []
      → (p : Puts types store (depth + 1) old new (known ++ v ∷ []) mid hs) → w.items ≡ places_of (is_bound_at depth) (length old) p.more
  own_bound depth old new known mid later v w hs size none popped p =
      let around : length later ≡ depth = (let a : length mid ≡ depth + 1 = p.around in let b : length mid ≡ length later + 1 = ap length popped ∙ one_more later w in omega arith) in
      sym (ap (λ (vs : List (Vec ℕ Global)). bound_so_far vs depth) popped ∙ ap (bound_so_far (later ++ w ∷ [])) (sym around) ∙ map_last (λ v. v.items) later w [])
      ∙ p.bound depth (omega arith)
      ∙ ap (λ (ps : List ℕ). ps ++ places_of (is_bound_at depth) (length old) p.more)
      (ap (bound_so_far (known ++ v ∷ [])) (sym size) ∙ map_last (λ v. v.items) known v [] ∙ none)

  -- and these stand between where it began and where it ended, whatever comes later
  between : {X : Type 0} (old new later more : List X) (start end : ℕ) → new ≡ old ++ more → length old ≡ start → length new ≡ end → slice_range (new ++ later) start end ≡ more
  between old new later more start end is first last =
      let there : drop start (new ++ later) ≡ more ++ later = ap (λ w. drop start (w ++ later)) is ∙ ap (drop start) (append_assoc old more later) ∙ drop_at old (more ++ later) start first in
      let both : length new ≡ length old + length more = ap length is ∙ length-append old more in
      let size : length more ≡ end - start = omega arith in
      ap (take (end - start)) there ∙ take_at more later (end - start) size

  one_between : {X : Type 0} (old new later more : List X) (k : ℕ) (d : X) → new ≡ old ++ more → length old ≤ k → k < length new → get_or (new ++ later) k d ≡ get_or more (k - length old) d
  one_between old new later more k d is low up =
      get_or-append new later d k up ∙ ap (λ w. get_or w k d) is ∙ get_or-append_right old more (length old) k d refl low

  pub body_there : (depth : ℕ) (old new later : List Seen) (known mid : List (Vec ℕ Global)) (A : Ty) (x : List ℕ) (t : Read) (start end : ℕ) → Puts types store (depth + 1) old new known mid (free_heads t)
      → length old ≡ start → length new ≡ end → all_from types store depth (slice_range (new ++ later) start end) ≡ free_heads (lam A x t)
  body_there depth old new later known mid A x t start end p first last =
      ap (all_from types store depth) (between old new later p.more start end p.behind first last) ∙ all_out depth p.more p.under ∙ ap (filter_map (lower_head 0)) p.same

  pub in_order : (depth : ℕ) (old new : List Seen) (known mid : List (Vec ℕ Global)) (hs : List (tree.Head ℕ)) → Puts types store depth old new known mid hs → length old ≤ length new
  in_order depth old new known mid hs p = let both : length new ≡ length old + length p.more = ap length p.behind ∙ length-append old p.more in omega arith

  -- the binder's part
  pub part_there : (depth : ℕ) (old new later : List Seen) (known mid left : List (Vec ℕ Global)) (v : Vec ℕ Global) (hs : List (tree.Head ℕ)) (start end : ℕ) (part : Part)
      → length known ≡ depth → v.items ≡ [] → mid ≡ left ++ part.bound ∷ [] → Puts types store (depth + 1) old new (known ++ v ∷ []) mid hs
      → length old ≡ part.start → length new ≡ part.end → start ≤ length old → length new ≤ end → length new + 1 < 2 ^ 64 - 1 → IsPart (new ++ later) depth start end part
  part_there depth old new later known mid left v hs start end part size none popped p first last low up short =
      let both : length (new ++ later) ≡ length new + length later = length-append new later in
      let more : length new ≡ length old + length p.more = ap length p.behind ∙ length-append old p.more in
      let own : part.bound.items ≡ places_of (is_bound_at depth) (length old) p.more = own_bound depth old new known mid left v part.bound hs size none popped p in record {
        after = omega arith;
        order = omega arith;
        before = omega arith;
        there = omega arith;
        short = omega arith;
        under = λ k s a b. subst (λ (one : Seen). depth + 1 ≤ one.binders) (sym (one_between old new later p.more k s p.behind (omega arith) (omega arith))) (p.under (k - length old) s (omega arith));
        bound = λ k s a b.
            ap (λ ps. has ps k) own
            ∙ (let there : k ≡ length old + (k - length old) = omega arith in ap (has (places_of (is_bound_at depth) (length old) p.more)) there)
            ∙ has_place (is_bound_at depth) (length old) p.more (k - length old) s (omega arith)
            ∙ ap (is_bound_at depth) (sym (one_between old new later p.more k s p.behind (omega arith) (omega arith)));
        sorted = subst IsInOrder (sym own) (places_in_order (is_bound_at depth) (length old) p.more);
      }

  -- nothing, a head, and one thing behind another
  pub puts_none : (depth : ℕ) (old : List Seen) (known : List (Vec ℕ Global)) → length known ≡ depth → Puts types store depth old old known known []
  puts_none depth old known size = record {
    more = [];
    behind = sym (append-nil old);
    under = All-nil (λ (s : Seen). depth ≤ s.binders);
    held = All-nil (λ (s : Seen). IsHeld types store s.head);
    same = refl;
    around = size;
    bound = λ k low. sym (append-nil (bound_so_far known k));
  }

  pub puts_head : (depth : ℕ) (old : List Seen) (known later : List (Vec ℕ Global)) (h : Head) → IsHeld types store h → length later ≡ depth
      → ((k : ℕ) → k < depth → bound_so_far later k ≡ bound_so_far known k ++ (if is_bound_at k (record { head = h; binders = depth }) then (length old ∷ []) else []))
      → Puts types store depth old (old ++ record { head = h; binders = depth } ∷ []) known later (head_reading types store h ∷ [])
  puts_head depth old known later h held around marked = record {
    more = record { head = h; binders = depth } ∷ [];
    behind = refl;
    under = All-cons (λ (s : Seen). depth ≤ s.binders) (record { head = h; binders = depth }) [] (omega arith) (All-nil (λ (s : Seen). depth ≤ s.binders));
    held = All-cons (λ (s : Seen). IsHeld types store s.head) (record { head = h; binders = depth }) [] held (All-nil (λ (s : Seen). IsHeld types store s.head));
    same =
        let none : depth - depth ≡ 0 = omega arith in
        ap (λ (o : Option (tree.Head ℕ)). cons_option o []) (ap (λ (k : ℕ). outside k (head_reading types store h)) none ∙ outside_none (head_reading types store h));
    around = around;
    bound = marked;
  }

  pub puts_both : (depth : ℕ) (old mid new : List Seen) (known between later : List (Vec ℕ Global)) (hs ks : List (tree.Head ℕ)) → Puts types store depth old mid known between hs → Puts types store depth mid new between later ks
      → Puts types store depth old new known later (hs ++ ks)
  puts_both depth old mid new known between later hs ks p q = record {
    more = p.more ++ q.more;
    behind = q.behind ∙ ap (λ (w : List Seen). w ++ q.more) p.behind ∙ append_assoc old p.more q.more;
    under = All-append (λ (s : Seen). depth ≤ s.binders) p.more q.more p.under q.under;
    held = All-append (λ (s : Seen). IsHeld types store s.head) p.more q.more p.held q.held;
    same = filter_map-append (from types store depth) p.more q.more ∙ ap (λ (w : List (tree.Head ℕ)). w ++ all_from types store depth q.more) p.same ∙ ap (λ (w : List (tree.Head ℕ)). hs ++ w) q.same;
    around = q.around;
    bound = λ k low.
        q.bound k low
        ∙ ap (λ (ps : List ℕ). ps ++ places_of (is_bound_at k) (length mid) q.more) (p.bound k low)
        ∙ append_assoc (bound_so_far known k) (places_of (is_bound_at k) (length old) p.more) (places_of (is_bound_at k) (length mid) q.more)
        ∙ ap (λ (ps : List ℕ). bound_so_far known k ++ ps)
        (ap (λ (n : ℕ). places_of (is_bound_at k) (length old) p.more ++ places_of (is_bound_at k) n q.more) (ap length p.behind ∙ length-append old p.more)
        ∙ sym (places_append (is_bound_at k) (length old) p.more q.more));
  }

  -- heads that are seen are there: those of a term that is drawn first
  pub held_first : (depth : ℕ) (new : List Seen) (known later : List (Vec ℕ Global)) (hs : List (tree.Head ℕ)) → Puts types store depth [] new known later hs → AreHeld types store new
  held_first depth new known later hs p = subst (AreHeld types store) (sym p.behind) p.held
