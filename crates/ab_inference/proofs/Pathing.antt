-- The path of a walk: variables that are being looked at, each a part of the one before it.
use Rattle.std.proofs.Common.{◌≡◌, ◌≢◌, ℕ, ◌+◌, ◌*◌, ◌<◌, ◌≤◌, ◌⊎◌, inl, inr, List, [], ◌∷◌, ◌++◌, length, set, get_or, refl, sym, ◌∙◌, ap, subst, arith}
use Rattle.std.proofs.lemmas.Bool.{cases_eq, cases_lt}
use Rattle.std.proofs.lemmas.List.{length-append, get_or_append_left, get_or_push, length-set}
use Rattle.ab_term.specs.Types.{Ty, kind, arrow}
use Rattle.ab_store.specs.ab_types.specs.Entries.{Table, IsExtendedBy}
use Rattle.ab_store.specs.ab_types.specs.Sound.{IsTable}
use Rattle.ab_store.specs.ab_types.proofs.Entries.{extended_by_itself, extended_twice}
use Rattle.ab_inference.specs.declared.shape.Shape.{Shape}
use Rattle.ab_inference.specs.declared.shape.Shape.TheVariants.{Open, Link, Known, Arrow}
use Rattle.ab_inference.specs.declared.assignments.Settled.{Settled}
use Rattle.ab_inference.specs.declared.assignments.Mark.{Mark}
use Rattle.ab_inference.specs.declared.assignments.Mark.TheVariants.{Unseen, Active, Done}
use Rattle.ab_inference.specs.Solutions.{Assignment, Fits, Solves, AreFormed, AreHeld, HasNoSolution, shape_at}
use Rattle.ab_inference.specs.Assignments.{mark_at, IsDone, HasPart, NotDone, Settling, AreIdle, IsSettled, Walked, unseen}
use Rattle.ab_inference.proofs.Joining.{link_order, arrow_names}
use Rattle.ab_inference.proofs.Tables.{solves_on, solves_back}
use Rattle.ab_inference.proofs.Marking.{mark_same, mark_other, active_is_not_done, unseen_is_not_done, unseen_is_not_active, active_more, grown}

abbrev pub size : Ty → ℕ
size (kind k) = 1
size (arrow A B) = (size A + size B) + 1

size_positive : (A : Ty) → 0 < size A
size_positive (kind k) = omega arith
size_positive (arrow A B) = omega arith

-- the type of i is smaller than that of y, or as large and i is earlier
pub record Below (v : Assignment) (i y : ℕ) : Type 0 where
  pub smaller : size (v i) ≤ size (v y)
  pub earlier : size (v i) ≡ size (v y) → i < y

below_twice : (v : Assignment) (i j k : ℕ) → Below v i j → Below v j k → Below v i k
below_twice v i j k a b = record {
  smaller = omega (arith, a.smaller, b.smaller);
  earlier = λ e. let one : size (v i) ≡ size (v j) = omega (arith, a.smaller, b.smaller) in let two : size (v j) ≡ size (v k) = omega (arith, a.smaller, b.smaller) in omega (arith, a.earlier one, b.earlier two);
}

not_below_itself : (v : Assignment) (i : ℕ) → Below v i i → ⊥
not_below_itself v i b = let c = b.earlier refl in omega arith

part_below : (types : Table) (shapes : List Shape) (i j : ℕ) → AreFormed shapes → i < length shapes → HasPart (shape_at shapes i) j → (v : Assignment) → Solves types v shapes → Below v j i
part_below types shapes i j formed l part v h = go (shape_at shapes i) refl part (h.at i l)
  where
    go : (c : Shape) → shape_at shapes i ≡ c → HasPart c j → Fits types v (v i) c → Below v j i
    go Open e p f = absurd p
    go (Link k) e p f =
        let n = link_order shapes i k formed l e in
        let same : v i ≡ v j = f ∙ ap v (sym p) in
        record { smaller = omega (arith, ap size same); earlier = λ _. omega (arith, n.0, p) }
    go (Known id) e p f = absurd p
    go (Arrow a b) e p f = here p
      where
        whole : size (v i) ≡ (size (v a) + size (v b)) + 1
        whole = ap size f

        here : (j ≡ a) ⊎ (j ≡ b) → Below v j i
        here (inl q) = let s : size (v j) ≡ size (v a) = ap (λ k. size (v k)) q in record { smaller = omega (arith, whole); earlier = λ e. absurd (omega (arith, whole, size_positive (v b))) }
        here (inr q) = let s : size (v j) ≡ size (v b) = ap (λ k. size (v k)) q in record { smaller = omega (arith, whole); earlier = λ e. absurd (omega (arith, whole, size_positive (v a))) }

pub record Path (first types : Table) (shapes : List Shape) (start marks : List Mark) (path : List ℕ) : Type 0 where
  pub table : IsTable types
  pub more : IsExtendedBy first types
  pub settling : Settling types shapes marks
  pub within : (k : ℕ) → k < length path → get_or path k 0 < length shapes
  pub active : (k : ℕ) → k < length path → mark_at marks (get_or path k 0) ≡ Active
  pub all : (y : ℕ) → mark_at marks y ≡ Active → (k : ℕ) × (k < length path) × (get_or path k 0 ≡ y)
  pub apart : (m k : ℕ) → m < k → k < length path → get_or path m 0 ≢ get_or path k 0
  pub falls : (v : Assignment) → Solves types v shapes → (m k : ℕ) → m < k → k < length path → Below v (get_or path k 0) (get_or path m 0)
  pub seen : (y : ℕ) → mark_at start y ≢ Unseen → mark_at marks y ≢ Unseen

active_is_not_unseen : Active ≡ Unseen → ⊥
active_is_not_unseen e = cc

done_is_not_unseen : (s : Settled) → Done s ≡ Unseen → ⊥
done_is_not_unseen s e = cc

done_is_not_active : (s : Settled) → Done s ≡ Active → ⊥
done_is_not_active s e = cc

pub path_begins : (types : Table) (shapes : List Shape) (marks : List Mark) (i : ℕ) → IsTable types → i < length shapes → mark_at marks i ≡ Unseen → Settling types shapes marks → AreIdle marks
    → Path types types shapes (set marks i Active) (set marks i Active) (i ∷ [])
path_begins types shapes marks i table l is kept idle = record {
  table = table;
  more = extended_by_itself types;
  settling = active_more types shapes marks i is l kept;
  within = λ k b. subst (λ n. get_or (i ∷ []) n 0 < length shapes) (sym (zero_is k b)) l;
  active = λ k b. subst (λ n. mark_at (set marks i Active) (get_or (i ∷ []) n 0) ≡ Active) (sym (zero_is k b)) (mark_same marks i Active m);
  all = λ y e. only y e (cases_eq y i);
  apart = λ a b lt wi. absurd (let z : b < 1 = wi in omega arith);
  falls = λ v h a b lt wi. absurd (let z : b < 1 = wi in omega arith);
  seen = λ y n. n;
}
  where
    m : i < length marks
    m = omega (arith, kept.len)

    zero_is : (k : ℕ) → k < length (i ∷ []) → k ≡ 0
    zero_is k b = let z : k < 1 = b in omega arith

    only : (y : ℕ) → mark_at (set marks i Active) y ≡ Active → (y ≡ i) ⊎ (y ≢ i) → (k : ℕ) × (k < length (i ∷ [])) × (get_or (i ∷ []) k 0 ≡ y)
    only y e (inl same) = (0, omega arith, sym same)
    only y e (inr n) = absurd (idle y (sym (mark_other marks i y Active n) ∙ e))

module _ (first types : Table) (shapes : List Shape) (start marks : List Mark) (all rest : List ℕ) (top : ℕ) (formed : AreFormed shapes) (p : Path first types shapes start marks all) (popped : all ≡ rest ++ top ∷ []) where
  count : length all ≡ length rest + 1
  count = ap length popped ∙ (length-append rest (top ∷ []) ∙ omega arith)

  last : get_or all (length rest) 0 ≡ top
  last = ap (λ l. get_or l (length rest) 0) popped ∙ get_or_push rest top 0 (length rest) refl

  front : (k : ℕ) → k < length rest → get_or all k 0 ≡ get_or rest k 0
  front k l = ap (λ xs. get_or xs k 0) popped ∙ get_or_append_left rest (top ∷ []) 0 k l

  last_in : length rest < length all
  last_in = omega (arith, count)

  pub top_in : top < length shapes
  top_in = subst (λ i. i < length shapes) last (p.within (length rest) last_in)

  pub top_marked : top < length marks
  top_marked = omega (arith, top_in, p.settling.len)

  pub top_active : mark_at marks top ≡ Active
  top_active = ap (mark_at marks) (sym last) ∙ p.active (length rest) last_in

  not_top : (k : ℕ) → k < length rest → get_or rest k 0 ≢ top
  not_top k l e = p.apart k (length rest) l last_in (front k l ∙ (e ∙ sym last))

  -- the last is done
  pub path_shortens : (new : Table) (s : Settled) → IsTable new → IsExtendedBy types new → Settling new shapes (set marks top (Done s)) → Path first new shapes start (set marks top (Done s)) rest
  path_shortens new s table more kept = record {
    table = table;
    more = extended_twice first types new p.more more;
    settling = kept;
    within = λ k l. subst (λ i. i < length shapes) (front k l) (p.within k (omega (arith, count)));
    active = λ k l. mark_other marks top (get_or rest k 0) (Done s) (not_top k l) ∙ (ap (mark_at marks) (sym (front k l)) ∙ p.active k (omega (arith, count)));
    all = λ y e. still y e (cases_eq y top);
    apart = λ m k lt l e. let lm : m < length rest = omega arith in p.apart m k lt (omega (arith, count)) (front m lm ∙ (e ∙ sym (front k l)));
    falls = λ v h m k lt l.
        let lm : m < length rest = omega arith in
        subst (λ i. Below v i (get_or rest m 0)) (front k l) (subst (Below v (get_or all k 0)) (front m lm) (p.falls v (old_solves v h) m k lt (omega (arith, count))));
    seen = λ y n. seen_still y (cases_eq y top) (p.seen y n);
  }
    where
      old_solves : (v : Assignment) → Solves new v shapes → Solves types v shapes
      old_solves v h = solves_back types new more shapes p.settling.held v h

      from_number : (y : ℕ) → y ≢ top → (k : ℕ) → k < length all → get_or all k 0 ≡ y → (j : ℕ) × (j < length rest) × (get_or rest j 0 ≡ y)
      from_number y n k l e = go (cases_lt k (length rest))
        where
          go : (k < length rest) ⊎ (length rest ≤ k) → (j : ℕ) × (j < length rest) × (get_or rest j 0 ≡ y)
          go (inl b) = (k, b, sym (front k b) ∙ e)
          go (inr b) = absurd (let same : k ≡ length rest = omega (arith, count) in n (sym e ∙ (ap (λ i. get_or all i 0) same ∙ last)))

      still : (y : ℕ) → mark_at (set marks top (Done s)) y ≡ Active → (y ≡ top) ⊎ (y ≢ top) → (k : ℕ) × (k < length rest) × (get_or rest k 0 ≡ y)
      still y e (inl same) = absurd (done_is_not_active s (sym (mark_same marks top (Done s) top_marked) ∙ (ap (mark_at (set marks top (Done s))) (sym same) ∙ e)))
      still y e (inr n) = let a = p.all y (sym (mark_other marks top y (Done s) n) ∙ e) in from_number y n a.0 a.1 a.2

      seen_still : (y : ℕ) → (y ≡ top) ⊎ (y ≢ top) → mark_at marks y ≢ Unseen → mark_at (set marks top (Done s)) y ≢ Unseen
      seen_still y (inl same) n e = done_is_not_unseen s (sym (mark_same marks top (Done s) top_marked) ∙ (ap (mark_at (set marks top (Done s))) (sym same) ∙ e))
      seen_still y (inr d) n e = n (sym (mark_other marks top y (Done s) d) ∙ e)

  module _ (j : ℕ) (j_in : j < length shapes) (part : HasPart (shape_at shapes top) j) where
    -- a part of the last is looked at
    pub path_grows : mark_at marks j ≡ Unseen → Path first types shapes start (set marks j Active) (all ++ j ∷ [])
    path_grows is = record {
      table = p.table;
      more = p.more;
      settling = active_more types shapes marks j is j_in p.settling;
      within = λ k l. within k l (cases_lt k (length all));
      active = λ k l. active k l (cases_lt k (length all));
      all = λ y e. each y e (cases_eq y j);
      apart = λ m k lt l. apart m k lt l (cases_lt k (length all));
      falls = λ v h m k lt l. falls v h m k lt l (cases_lt k (length all));
      seen = λ y n. seen_still y (cases_eq y j) (p.seen y n);
    }
      where
        longer : length (all ++ j ∷ []) ≡ length all + 1
        longer = length-append all (j ∷ []) ∙ omega arith

        j_marked : j < length marks
        j_marked = omega (arith, p.settling.len)

        left : (k : ℕ) → k < length all → get_or (all ++ j ∷ []) k 0 ≡ get_or all k 0
        left k l = get_or_append_left all (j ∷ []) 0 k l

        end : (k : ℕ) → k < length (all ++ j ∷ []) → length all ≤ k → get_or (all ++ j ∷ []) k 0 ≡ j
        end k l b = get_or_push all j 0 k (omega (arith, longer))

        not_j : (k : ℕ) → k < length all → get_or all k 0 ≢ j
        not_j k l e = active_is_not_unseen (sym (p.active k l) ∙ (ap (mark_at marks) e ∙ is))

        within : (k : ℕ) → k < length (all ++ j ∷ []) → (k < length all) ⊎ (length all ≤ k) → get_or (all ++ j ∷ []) k 0 < length shapes
        within k l (inl b) = subst (λ i. i < length shapes) (sym (left k b)) (p.within k b)
        within k l (inr b) = subst (λ i. i < length shapes) (sym (end k l b)) j_in

        active : (k : ℕ) → k < length (all ++ j ∷ []) → (k < length all) ⊎ (length all ≤ k) → mark_at (set marks j Active) (get_or (all ++ j ∷ []) k 0) ≡ Active
        active k l (inl b) = ap (mark_at (set marks j Active)) (left k b) ∙ (mark_other marks j (get_or all k 0) Active (not_j k b) ∙ p.active k b)
        active k l (inr b) = ap (mark_at (set marks j Active)) (end k l b) ∙ mark_same marks j Active j_marked

        each : (y : ℕ) → mark_at (set marks j Active) y ≡ Active → (y ≡ j) ⊎ (y ≢ j) → (k : ℕ) × (k < length (all ++ j ∷ [])) × (get_or (all ++ j ∷ []) k 0 ≡ y)
        each y e (inl same) = (length all, omega (arith, longer), get_or_push all j 0 (length all) refl ∙ sym same)
        each y e (inr n) = let a = p.all y (sym (mark_other marks j y Active n) ∙ e) in (a.0, omega (arith, longer, a.1), left a.0 a.1 ∙ a.2)

        apart : (m k : ℕ) → m < k → k < length (all ++ j ∷ []) → (k < length all) ⊎ (length all ≤ k) → get_or (all ++ j ∷ []) m 0 ≢ get_or (all ++ j ∷ []) k 0
        apart m k lt l (inl b) e = let lm : m < length all = omega arith in p.apart m k lt b (sym (left m lm) ∙ (e ∙ left k b))
        apart m k lt l (inr b) e = let lm : m < length all = omega (arith, longer) in not_j m lm (sym (left m lm) ∙ (e ∙ end k l b))

        to_top : (v : Assignment) → Solves types v shapes → (m : ℕ) → m < length all → (m < length rest) ⊎ (length rest ≤ m) → Below v j (get_or all m 0)
        to_top v h m l (inl b) = below_twice v j top (get_or all m 0) (part_below types shapes top j formed top_in part v h) (subst (λ i. Below v i (get_or all m 0)) last (p.falls v h m (length rest) b last_in))
        to_top v h m l (inr b) = let same : m ≡ length rest = omega (arith, count) in
            subst (Below v j) (sym (ap (λ i. get_or all i 0) same ∙ last)) (part_below types shapes top j formed top_in part v h)

        falls : (v : Assignment) → Solves types v shapes → (m k : ℕ) → m < k → k < length (all ++ j ∷ []) → (k < length all) ⊎ (length all ≤ k) → Below v (get_or (all ++ j ∷ []) k 0) (get_or (all ++ j ∷ []) m 0)
        falls v h m k lt l (inl b) = let lm : m < length all = omega arith in
            subst (λ i. Below v i (get_or (all ++ j ∷ []) m 0)) (sym (left k b)) (subst (Below v (get_or all k 0)) (sym (left m lm)) (p.falls v h m k lt b))
        falls v h m k lt l (inr b) = let lm : m < length all = omega (arith, longer) in
            subst (λ i. Below v i (get_or (all ++ j ∷ []) m 0)) (sym (end k l b)) (subst (Below v j) (sym (left m lm)) (to_top v h m lm (cases_lt m (length rest))))

        seen_still : (y : ℕ) → (y ≡ j) ⊎ (y ≢ j) → mark_at marks y ≢ Unseen → mark_at (set marks j Active) y ≢ Unseen
        seen_still y (inl same) n e = active_is_not_unseen (sym (mark_same marks j Active j_marked) ∙ (ap (mark_at (set marks j Active)) (sym same) ∙ e))
        seen_still y (inr d) n e = n (sym (mark_other marks j y Active d) ∙ e)

    -- a part that is being looked at already
    pub path_turns_back : mark_at marks j ≡ Active → AreHeld first shapes → HasNoSolution first shapes
    path_turns_back is held v h0 =
        let h = solves_on first types p.more shapes held v h0 in
        let a = p.all j is in
        let b = part_below types shapes top j formed top_in part v h in
        go v h a.0 a.1 a.2 b (cases_lt a.0 (length rest))
      where
        go : (v : Assignment) → Solves types v shapes → (k : ℕ) → k < length all → get_or all k 0 ≡ j → Below v j top → (k < length rest) ⊎ (length rest ≤ k) → ⊥
        go v h k l e b (inl c) =
            let d = p.falls v h k (length rest) c last_in in
            let f : Below v top j = subst (λ i. Below v i j) last (subst (Below v (get_or all (length rest) 0)) e d) in
            not_below_itself v j (below_twice v j top j b f)
        go v h k l e b (inr c) =
            let same : k ≡ length rest = omega (arith, count) in
            let f : top ≡ j = sym last ∙ (ap (λ i. get_or all i 0) (sym same) ∙ e) in
            not_below_itself v top (subst (λ i. Below v i top) (sym f) b)

-- nothing is left on the path
pub path_ends : (first types : Table) (shapes : List Shape) (marks new : List Mark) (path : List ℕ) (i : ℕ) → i < length shapes → length marks ≡ length shapes → Path first types shapes (set marks i Active) new path → path ≡ [] → IsSettled types shapes marks new i
path_ends first types shapes marks new path i l len p e = record {
  settling = p.settling;
  idle = idle;
  done = seen_done i (p.seen i (λ u. active_is_not_unseen (sym (mark_same marks i Active m) ∙ u)));
  still = λ y ly d. seen_done y (p.seen y (was y (cases_eq y i) d));
}
  where
    m : i < length marks
    m = omega arith

    idle : AreIdle new
    idle y a = let k = p.all y a in let none : k.0 < 0 = subst (λ xs. k.0 < length xs) e k.1 in omega arith

    by_mark : (y : ℕ) (c : Mark) → mark_at new y ≡ c → mark_at new y ≢ Unseen → IsDone new y
    by_mark y Unseen is n = absurd (n is)
    by_mark y Active is n = absurd (idle y is)
    by_mark y (Done s) is n = (s, is)

    seen_done : (y : ℕ) → mark_at new y ≢ Unseen → IsDone new y
    seen_done y n = by_mark y (mark_at new y) refl n

    was : (y : ℕ) → (y ≡ i) ⊎ (y ≢ i) → IsDone marks y → mark_at (set marks i Active) y ≢ Unseen
    was y (inl same) d u = active_is_not_unseen (sym (mark_same marks i Active m) ∙ (ap (mark_at (set marks i Active)) (sym same) ∙ u))
    was y (inr n) d u = done_is_not_unseen d.0 (sym d.1 ∙ (sym (mark_other marks i y Active n) ∙ u))

pub nothing_left : (all : List ℕ) → length all ≡ 0 → all ≡ []
nothing_left [] l = refl
nothing_left (x ∷ xs) l = absurd (omega arith)
