-- Lists of what is known of variables, with one entry changed.
use Rattle.std.proofs.Common.{◌≡◌, ◌≢◌, ℕ, ◌+◌, ◌<◌, ◌≤◌, ◌⊎◌, inl, inr, List, length, set, get_or, sym, ◌∙◌, ap, subst, arith}
use Rattle.std.proofs.lemmas.Bool.{cases_eq}
use Rattle.std.proofs.lemmas.List.{length-set, get_or-set_same, get_or-set_other}
use Rattle.std.proofs.lemmas.List.Sums.{sum_by-set}
use Rattle.std.specs.Prelude.{cond}
use Rattle.ab_term.specs.Types.{Ty, arrow}
use Rattle.ab_store.specs.ab_types.specs.Entries.{Table}
use Rattle.ab_inference.specs.declared.shape.Shape.{Shape}
use Rattle.ab_inference.specs.declared.shape.Shape.TheVariants.{Open, Link, Known, Arrow}
use Rattle.ab_inference.specs.Solutions.{Assignment, Fits, Solves, Names, AreFormed, AreHeld, HeldShape, is_root, IsRoot, is_loose, loose, Same, KeepsRoots, Leads}

pub at_set : (s : List Shape) (i : ℕ) (c : Shape) (k : ℕ) → i < length s → (P : ℕ → Shape → Type 0) → P i c → ((k ≢ i) → P k (get_or s k Open)) → P k (get_or (set s i c) k Open)
at_set s i c k l P here else = go (cases_eq k i)
  where
    go : (k ≡ i) ⊎ (k ≢ i) → P k (get_or (set s i c) k Open)
    go (inl e) = rw e (rw get_or-set_same here)
    go (inr n) = rw get_or-set_other (else n)

pub names_more : (n m i : ℕ) (c : Shape) → n ≤ m → Names n i c → Names m i c
names_more n m i Open l h = tt
names_more n m i (Link j) l h = (h.0, omega (arith, h.1))
names_more n m i (Known k) l h = tt
names_more n m i (Arrow a b) l h = (omega (arith, h.0), omega (arith, h.1))

pub set_formed : (s : List Shape) (i : ℕ) (c : Shape) → i < length s → AreFormed s → Names (length s) i c → AreFormed (set s i c)
set_formed s i c l f h = record {
  names = λ k lk. rw length-set (at_set s i c k l (Names (length s)) h (λ n. f.names k (omega (arith, length-set s i c))));
}

pub set_held : (types : Table) (s : List Shape) (i : ℕ) (c : Shape) → i < length s → AreHeld types s → HeldShape types c → AreHeld types (set s i c)
set_held types s i c l f h = record { held = λ k. at_set s i c k l (λ _. HeldShape types) h (λ n. f.held k) }

pub loose_set : (s : List Shape) (i : ℕ) (c : Shape) → i < length s → loose (set s i c) + cond (is_loose (get_or s i Open)) 1 0 ≡ loose s + cond (is_loose c) 1 0
loose_set s i c l = sum_by-set (λ x. cond (is_loose x) 1 0) s i c Open l

module _ (types : Table) (v : Assignment) (s : List Shape) (i : ℕ) (c : Shape) (l : i < length s) where
  pub on_set : Solves types v s → Fits types v (v i) c → Solves types v (set s i c)
  on_set h f = record { at = λ k lk. at_set s i c k l (λ n d. Fits types v (v n) d) f (λ n. h.at k (omega (arith, length-set s i c))) }

  pub at_here : Solves types v (set s i c) → Fits types v (v i) c
  at_here h = subst (λ d. Fits types v (v i) d) (get_or-set_same s i c Open l) (h.at i (omega (arith, length-set s i c)))

  pub at_other : (k : ℕ) → k < length s → k ≢ i → Solves types v (set s i c) → Fits types v (v k) (get_or s k Open)
  at_other k lk n h = subst (λ d. Fits types v (v k) d) (get_or-set_other s i k c Open n) (h.at k (omega (arith, length-set s i c)))

  pub off_set : Solves types v (set s i c) → Fits types v (v i) (get_or s i Open) → Solves types v s
  off_set h f = record { at = λ k lk. go k lk (cases_eq k i) }
    where
      go : (k : ℕ) → k < length s → (k ≡ i) ⊎ (k ≢ i) → Fits types v (v k) (get_or s k Open)
      go k lk (inl e) = rw e f
      go k lk (inr n) = at_other k lk n h

pub keeps_roots : (s : List Shape) (i : ℕ) (c : Shape) (j : ℕ) → get_or s i Open ≡ Link j → KeepsRoots s (set s i c)
keeps_roots s i c j is k root = go (cases_eq k i)
  where
    go : (k ≡ i) ⊎ (k ≢ i) → get_or (set s i c) k Open ≡ get_or s k Open
    go (inl e) = absurd (let f : is_root (Link j) ≡ is_root (get_or s k Open) = ap is_root (sym is) ∙ ap (λ n. is_root (get_or s n Open)) (sym e) in let g = f ∙ root in cc)
    go (inr n) = get_or-set_other s i k c Open n

pub link_order : (s : List Shape) (i j : ℕ) → AreFormed s → i < length s → get_or s i Open ≡ Link j → (j < i) × (j < length s)
link_order s i j f l e = subst (Names (length s) i) e (f.names i l)

pub arrow_names : (s : List Shape) (i a b : ℕ) → AreFormed s → i < length s → get_or s i Open ≡ Arrow a b → (a < length s) × (b < length s)
arrow_names s i a b f l e = subst (Names (length s) i) e (f.names i l)

pub known_held : (types : Table) (s : List Shape) (i : ℕ) (c : Shape) → AreHeld types s → get_or s i Open ≡ c → HeldShape types c
known_held types s i c f e = subst (HeldShape types) e (f.held i)

-- the link of i leads on from j
module _ (s : List Shape) (i j k : ℕ) (f : AreFormed s) (i_in : i < length s) (is : get_or s i Open ≡ Link j) (next : get_or s j Open ≡ Link k) where
  below : (j < i) × (j < length s)
  below = link_order s i j f i_in is

  further : (k < j) × (k < length s)
  further = link_order s j k f below.1 next

  pub shortened_formed : AreFormed (set s i (Link k))
  shortened_formed = let b = below in let n = further in set_formed s i (Link k) i_in f (omega arith, n.1)

  pub shortened_same : (types : Table) → Same types s (set s i (Link k))
  shortened_same types = record {
    back = λ v h.
        let b = below in
        let apart : j ≢ i = omega arith in
        let e : v i ≡ v k = at_here types v s i (Link k) i_in h in
        let g : v j ≡ v k = subst (Fits types v (v j)) next (at_other types v s i (Link k) i_in j b.1 apart h) in
        off_set types v s i (Link k) i_in h (subst (Fits types v (v i)) (sym is) (e ∙ sym g));
    on = λ v h.
        let b = below in
        let e : v i ≡ v j = subst (Fits types v (v i)) is (h.at i i_in) in
        let g : v j ≡ v k = subst (Fits types v (v j)) next (h.at j b.1) in
        on_set types v s i (Link k) i_in h (e ∙ g);
  }

  pub shortened_loose : loose (set s i (Link k)) ≡ loose s
  shortened_loose =
      let e = loose_set s i (Link k) i_in in
      let g : loose (set s i (Link k)) + 0 ≡ loose s + 0 = ap (λ c. loose (set s i (Link k)) + cond (is_loose c) 1 0) (sym is) ∙ e in
      omega arith

pub same_both : (types : Table) (a b c : List Shape) → Same types a b → Same types b c → Same types a c
same_both types a b c m n = record { back = λ v h. m.back v (n.back v h); on = λ v h. n.on v (m.on v h) }
