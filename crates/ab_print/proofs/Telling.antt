-- Places tell which names are used in a part: at first, in a part of a part, and under one binder more.
use Rattle.std.proofs.Common.{◌≡◌, ℕ, suc, ◌+◌, ◌-◌, ◌^◌, ◌≤◌, ◌<◌, List, [], ◌∷◌, ◌++◌, length, get_or, drop, Bool, true, false, inl, inr, Option, Some, None, Contains, refl, sym, ◌∙◌, ap, subst, arith, length-take}
use Rattle.std.specs.Prelude.{◌==◌, slice_range, nat_lt, if◌then◌else◌, bytes_eq}
use Rattle.std.specs.List.{filter_map, cons_option}
use Rattle.std.specs.Cmp.Lexicographic.{bytes_decides}
use Rattle.std.specs.HashMap.{HashMap}
use Rattle.std.proofs.lemmas.Bool.{eqb-true, eq-eqb, ltb-true, lt-ltb, cases_lt}
use Rattle.std.specs.declared.alloc.Global.{Global}
use Rattle.std.specs.declared.vec.Vec.{Vec}
use Rattle.ab_term.specs.Terms.{index}
use Rattle.ab_store.specs.ab_types.specs.Entries.{Table}
use Rattle.ab_store.specs.declared.node.Head.{Head}
use Rattle.ab_store.specs.declared.node.Head.TheVariants.{Const, Logic, Nominal, Cell, Index}
use Rattle.ab_store.specs.Trees.{Contents}
use Rattle.ab_print.specs.PrintedNames.{name_of, is_in, fresh}
use Rattle.ab_print.proofs.Membership.{is_in-true}
use Rattle.ab_print.proofs.FreeNames.{fresh_is_free}
use Rattle.ab_print.specs.declared.drawings.Seen.{Seen}
use Rattle.ab_print.specs.declared.drawings.Part.{Part}
use Rattle.ab_print.specs.Drawings.{IsPart}
use Rattle.ab_print.specs.Places.{places_of, places_in, places_at, own_name, has, any_within, is_bound_by, is_bound_at, IsInOrder, IsPut}
use Rattle.ab_print.specs.BinderNames.{names_in, name_of_some, name_from, is_this}
use Rattle.ab_print.specs.GoalText.{cell_name}
use Rattle.ab_print.specs.NameUses.{IsTold}
use Rattle.ab_print.proofs.Placing.{never, not_both, has_place, places_in_order, none_within, used_where_placed}
use Rattle.ab_print.proofs.Scoped.{names_more, size}

same_bytes : (x y : List ℕ) → bytes_eq x y ≡ true → x ≡ y
same_bytes x y h = (bytes_decides x y).0 h

-- Under one binder more

by_order : (types : Table) (store : Contents) (y : List ℕ) (ns : List (List ℕ)) (i k : ℕ) (e l m : Bool) → (i == k) ≡ e → nat_lt i k ≡ l → nat_lt i (suc k) ≡ m
    → name_of_some (cell_name store) (y ∷ ns) (if l then None else (Some (index (i - k)))) ≡ (if e then (Some y) else (name_of_some (cell_name store) ns (if m then None else (Some (index (i - suc k))))))
by_order types store y ns i k true true m e l h = absurd (let same : i ≡ k = eqb-true i k e in let low : i < k = ltb-true i k l in omega arith)
by_order types store y ns i k true false m e l h =
    let same : i ≡ k = eqb-true i k e in
    let none : i - k ≡ 0 = omega arith in
    ap (λ (n : ℕ). name_of (cell_name store) (y ∷ ns) (index n)) none
by_order types store y ns i k false true true e l h = refl
by_order types store y ns i k false true false e l h = absurd (let low : i < k = ltb-true i k l in not_both (nat_lt i (suc k)) (lt-ltb i (suc k) (omega arith)) h)
by_order types store y ns i k false false true e l h = absurd (not_both (i == k) (eq-eqb i k (let low : i < suc k = ltb-true i (suc k) h in elim (cases_lt i k) [ inl up ↦ absurd (not_both (nat_lt i k) (lt-ltb i k up) l) | inr down ↦ omega arith ])) e)
by_order types store y ns i k false false false e l h =
    let up : k < i = elim (cases_lt k i) [ inl a ↦ a | inr b ↦ elim (cases_lt i k) [ inl c ↦ absurd (not_both (nat_lt i k) (lt-ltb i k c) l) | inr d ↦ absurd (not_both (i == k) (eq-eqb i k (omega arith)) e) ] ] in
    let more : i - k ≡ suc (i - suc k) = omega arith in
    ap (λ (n : ℕ). name_of (cell_name store) (y ∷ ns) (index n)) more

module _ (types : Table) (store : Contents) where
  -- what a head is called outside a binder, and within: the binder's name, where it is bound by it
  under_binder : (y : List ℕ) (ns : List (List ℕ)) (h : Head) (n : ℕ) → length ns + 1 ≤ n
      → name_from types store (y ∷ ns) (record { head = h; binders = n }) ≡ (if is_bound_by (length ns) h n then (Some y) else (name_from types store ns (record { head = h; binders = n })))
  under_binder y ns (Const c) n h = refl
  under_binder y ns (Logic l) n h = refl
  under_binder y ns (Nominal a b) n h = refl
  under_binder y ns (Cell c) n h = refl
  under_binder y ns (Index i) n h =
      let outer : n - length ns ≡ suc (n - suc (length ns)) = omega arith in
      let test : (i + length ns + 1 == n) ≡ (i == n - suc (length ns)) = same_sum i (length ns) n (omega arith) in
      by_order types store y ns i (n - suc (length ns)) (i == n - suc (length ns)) (nat_lt i (n - suc (length ns))) (nat_lt i (suc (n - suc (length ns)))) refl refl refl
      ∙ sym (ap (λ (b : Bool). if b then (Some y) else (name_from types store ns (record { head = Index i; binders = n }))) test
      ∙ ap (λ (m : ℕ). if (i == n - suc (length ns)) then (Some y) else (name_of_some (cell_name store) ns (if (nat_lt i m) then None else (Some (index (i - m)))))) outer)
    where
      same_sum : (i l n : ℕ) → l + 1 ≤ n → (i + l + 1 == n) ≡ (i == n - suc l)
      same_sum i l n h = go (i == n - suc l) refl
        where
          go : (b : Bool) → (i == n - suc l) ≡ b → (i + l + 1 == n) ≡ b
          go true e = let same : i ≡ n - suc l = eqb-true i (n - suc l) e in eq-eqb (i + l + 1) n (omega arith)
          go false e = never (i + l + 1 == n) (λ t. let same : i + l + 1 ≡ n = eqb-true (i + l + 1) n t in not_both (i == n - suc l) (eq-eqb i (n - suc l) (omega arith)) e)

  -- what is bound by a binder isn't seen outside it
  bound_is_unseen : (ns : List (List ℕ)) (h : Head) (n : ℕ) → is_bound_by (length ns) h n ≡ true → name_from types store ns (record { head = h; binders = n }) ≡ None
  bound_is_unseen ns (Const c) n h = absurd (cc)
  bound_is_unseen ns (Logic l) n h = absurd (cc)
  bound_is_unseen ns (Nominal a b) n h = absurd (cc)
  bound_is_unseen ns (Cell c) n h = absurd (cc)
  bound_is_unseen ns (Index i) n h =
      let same : i + length ns + 1 ≡ n = eqb-true (i + length ns + 1) n h in
      ap (λ (b : Bool). name_of_some (cell_name store) ns (if b then None else (Some (index (i - (n - length ns)))))) (lt-ltb i (n - length ns) (omega arith))

  -- and so the name has the places of what its binder binds, where it isn't used otherwise
  pub told_under : {S : Type 0} (old new : HashMap (Vec ℕ Global) (Vec ℕ Global) S) (vs : List (Vec ℕ Global)) (v : Vec ℕ Global) (y : List ℕ) (seen : List Seen) (start end : ℕ) (part : Part)
      → v.items ≡ y → IsTold types store vs old seen start end → IsPart seen (length vs) start end part → IsPut y part.bound.items old new → any_within (places_at old y) part.start part.end ≡ false
      → IsTold types store (vs ++ v ∷ []) new seen part.start part.end
  told_under old new vs v y seen start end part is told p put free = record { order = order; told = one }
    where
      order : (x : List ℕ) → IsInOrder (places_at new x)
      order x = subst IsInOrder (sym (put x)) (go (bytes_eq x y))
        where
          go : (b : Bool) → IsInOrder (if b then part.bound.items else places_at old x)
          go true = p.sorted
          go false = told.order x

      one : (x : List ℕ) (k : ℕ) (s : Seen) → part.start ≤ k → k < part.end → has (places_at new x) k ≡ is_this x (name_from types store (names_in (vs ++ v ∷ [])) (get_or seen k s))
      one x k s low up =
          ap (λ ps. has ps k) (put x)
          ∙ by_name (bytes_eq x y) refl (is_bound_at (length vs) (get_or seen k s)) refl
          ∙ sym (ap (is_this x) (ap (λ ns. name_from types store ns (get_or seen k s)) (names_more vs v ∙ ap (λ (w : List ℕ). w ∷ names_in vs) is)
          ∙ under_binder y (names_in vs) (get_or seen k s).head (get_or seen k s).binders (let n : length (names_in vs) ≡ length vs = size vs in let deep = p.under k s low up in omega arith)
          ∙ ap (λ (n : ℕ). if (is_bound_at n (get_or seen k s)) then (Some y) else (name_from types store (names_in vs) (get_or seen k s))) (size vs)))
        where
          outer : (z : List ℕ) → has (places_at old z) k ≡ is_this z (name_from types store (names_in vs) (get_or seen k s))
          outer z = told.told z k s (omega (arith, p.after)) (omega (arith, p.before))

          by_name : (e : Bool) → bytes_eq x y ≡ e → (b : Bool) → is_bound_at (length vs) (get_or seen k s) ≡ b
              → has (if e then part.bound.items else places_at old x) k ≡ is_this x (if b then (Some y) else (name_from types store (names_in vs) (get_or seen k s)))
          by_name true e true b = p.bound k s low up ∙ b ∙ sym e
          by_name true e false b =
              p.bound k s low up ∙ b
              ∙ sym (ap (λ (z : List ℕ). is_this z (name_from types store (names_in vs) (get_or seen k s))) (same_bytes x y e)
              ∙ sym (outer y) ∙ none_within (places_at old y) part.start part.end k free low up)
          by_name false e true b =
              outer x ∙ ap (is_this x) (bound_is_unseen (names_in vs) (get_or seen k s).head (get_or seen k s).binders (ap (λ (n : ℕ). is_bound_at n (get_or seen k s)) (size vs) ∙ b)) ∙ sym e
          by_name false e false b = outer x

  -- At first a name has the places of the heads that are called so by themselves

  own_is_from : (h : Head) (n : ℕ) → own_name types store (record { head = h; binders = n }) ≡ name_from types store [] (record { head = h; binders = n })
  own_is_from (Const c) n = refl
  own_is_from (Logic l) n = refl
  own_is_from (Nominal a b) n = refl
  own_is_from (Cell c) n = refl
  own_is_from (Index i) n = go (nat_lt i (n - 0))
    where
      go : (b : Bool) → None ≡ name_of_some (cell_name store) [] (if b then None else (Some (index (i - (n - 0)))))
      go true = refl
      go false = refl

  pub told_first : {S : Type 0} (places : HashMap (Vec ℕ Global) (Vec ℕ Global) S) (vs : List (Vec ℕ Global)) (seen : List Seen) → vs ≡ []
      → ((x : List ℕ) → places_at places x ≡ places_of (λ s. is_this x (own_name types store s)) 0 seen) → IsTold types store vs places seen 0 (length seen)
  told_first places vs seen none own = record {
    order = λ x. subst IsInOrder (sym (own x)) (places_in_order (λ s. is_this x (own_name types store s)) 0 seen);
    told = λ x k s low up.
        ap (λ ps. has ps k) (own x)
        ∙ (let same : k ≡ 0 + k = omega arith in ap (has (places_of (λ s. is_this x (own_name types store s)) 0 seen)) same)
        ∙ has_place (λ s. is_this x (own_name types store s)) 0 seen k s up
        ∙ ap (is_this x) (own_is_from (get_or seen k s).head (get_or seen k s).binders)
        ∙ ap (λ (ws : List (Vec ℕ Global)). is_this x (name_from types store (names_in ws) (get_or seen k s))) (sym none);
  }

  -- and as long as the places of each name are the same
  pub told_same : {S : Type 0} (old new : HashMap (Vec ℕ Global) (Vec ℕ Global) S) (vs ws : List (Vec ℕ Global)) (seen : List Seen) (start end : ℕ) → ws ≡ vs → ((x : List ℕ) → places_at new x ≡ places_at old x)
      → IsTold types store vs old seen start end → IsTold types store ws new seen start end
  told_same old new vs ws seen start end names same told = record {
    order = λ x. subst IsInOrder (sym (same x)) (told.order x);
    told = λ x k s low up.
        ap (λ ps. has ps k) (same x) ∙ told.told x k s low up
        ∙ ap (λ (us : List (Vec ℕ Global)). is_this x (name_from types store (names_in us) (get_or seen k s))) (sym names);
  }

  -- What is used in a binder's part, by the places

  pub told_used : {S : Type 0} (places : HashMap (Vec ℕ Global) (Vec ℕ Global) S) (vs : List (Vec ℕ Global)) (seen : List Seen) (depth start end : ℕ) (part : Part)
      → IsTold types store vs places seen start end → IsPart seen depth start end part
      → (x : List ℕ) → is_in (filter_map (name_from types store (names_in vs)) (slice_range seen part.start part.end)) x ≡ any_within (places_at places x) part.start part.end
  told_used places vs seen depth start end part told p x =
      used_where_placed (name_from types store (names_in vs)) seen x (places_at places x) part.start part.end p.order p.there
      (λ k s low up. told.told x k s (omega (arith, p.after)) (omega (arith, p.before)))

-- as many names are used as heads stand in the part, at most
fewer_by : {Y : Type 0} (o : Option Y) (ys : List Y) → length (cons_option o ys) ≤ 1 + length ys
fewer_by None ys = omega arith
fewer_by (Some y) ys = omega arith

fewer : {X Y : Type 0} (f : X → Option Y) (xs : List X) → length (filter_map f xs) ≤ length xs
fewer f [] = omega arith
fewer f (x ∷ xs) = omega (arith, fewer f xs, fewer_by (f x) (filter_map f xs))

pub few_used : {X Y : Type 0} (f : X → Option Y) (xs : List X) (start end : ℕ) → length (filter_map f (slice_range xs start end)) ≤ end - start
few_used f xs start end = omega (arith, fewer f (slice_range xs start end), length-take (end - start) (drop start xs))

-- and the name that is chosen isn't one of them
pub chosen_is_free : (used : List (List ℕ)) (x y : List ℕ) → length used + 1 < 2 ^ 64 - 1 → y ≡ fresh used x → is_in used y ≡ false
chosen_is_free used x y small is = never (is_in used y) (λ t. fresh_is_free used x small (subst (Contains used) is (is_in-true used y t)))

-- A name is given places, and then those that it had
pub put_back : {S : Type 0} (old mid later new : HashMap (Vec ℕ Global) (Vec ℕ Global) S) (y ps : List ℕ) (outer : Option (Vec ℕ Global)) → IsPut y ps old mid → places_in outer ≡ places_at old y
    → ((x : List ℕ) → places_at later x ≡ places_at mid x) → IsPut y (places_in outer) later new → (x : List ℕ) → places_at new x ≡ places_at old x
put_back old mid later new y ps outer put had same back x = back x ∙ go (bytes_eq x y) refl
  where
    go : (b : Bool) → bytes_eq x y ≡ b → (if b then places_in outer else places_at later x) ≡ places_at old x
    go true e = had ∙ ap (places_at old) (sym (same_bytes x y e))
    go false e = same x ∙ put x ∙ ap (λ (b : Bool). if b then ps else places_at old x) e

module _ (types : Table) (store : Contents) {S : Type 0} (places : HashMap (Vec ℕ Global) (Vec ℕ Global) S) (vs : List (Vec ℕ Global)) (seen : List Seen) (start end : ℕ) (part : Part) (hint chosen : List ℕ)
    (told : IsTold types store vs places seen start end) (p : IsPart seen (length vs) start end part)
    (by : (used : List (List ℕ)) → length used ≤ part.end - part.start → ((x : List ℕ) → is_in used x ≡ any_within (places_at places x) part.start part.end) → chosen ≡ fresh used hint) where
  -- what is chosen by places is the first name that nothing in the part has
  pub chosen_in_part : chosen ≡ fresh (filter_map (name_from types store (names_in vs)) (slice_range seen part.start part.end)) hint
  chosen_in_part =
      by (filter_map (name_from types store (names_in vs)) (slice_range seen part.start part.end)) (few_used (name_from types store (names_in vs)) seen part.start part.end)
      (told_used types store places vs seen (length vs) start end part told p)

  -- and has no place there
  pub chosen_has_no_place : any_within (places_at places chosen) part.start part.end ≡ false
  chosen_has_no_place =
      sym (told_used types store places vs seen (length vs) start end part told p chosen)
      ∙ chosen_is_free (filter_map (name_from types store (names_in vs)) (slice_range seen part.start part.end)) hint chosen
      (omega (arith, p.short, few_used (name_from types store (names_in vs)) seen part.start part.end)) chosen_in_part
