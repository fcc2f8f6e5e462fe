-- The nodes of a proof, as a step is taken there and taken back.
use Rattle.std.specs.Prelude.{slice_get, slice_set}
use Rattle.std.proofs.Common.{◌≡◌, ◌≢◌, ℕ, zero, suc, ◌+◌, ◌-◌, ◌<◌, ◌≤◌, List, [], ◌∷◌, ◌++◌, Some, length, map, take, get_or, refl, sym, ◌∙◌, ap, subst, arith, length-append}
use Rattle.std.proofs.lemmas.List.{map-append, length-map, take-map, take_at, set-set, set-get_or, get_or-set_same, get_or-set_other, get_or_append_left, length-set, length-take-le}
use Rattle.std.proofs.lemmas.Option.{slice_get_within}
use Rattle.ab_logic.specs.declared.sequent.Sequent.{Sequent as Kept}
use Rattle.ab_kernel.specs.Nodes.{cleared, open_node, IsClear, sequents_in, no_node, node_at}
use Rattle.ab_kernel.specs.Layout.{numbers_down, nodes_before, steps_in, AreOpen, Differs, AreDistinct}
use Rattle.ab_kernel.specs.declared.node.ProofNode.{ProofNode}
use Rattle.ab_kernel.specs.declared.proof.Refinement.{Refinement}

-- goals of nodes

pub sequents_fresh : (made : List Kept) → sequents_in (map open_node made) ≡ made
sequents_fresh [] = refl
sequents_fresh (s ∷ ss) = ap (λ ts. s ∷ ts) (sequents_fresh ss)

pub sequents_set : (nodes : List ProofNode) (i : ℕ) (x : ProofNode) → x.sequent ≡ (node_at nodes i).sequent → sequents_in (slice_set nodes i x) ≡ sequents_in nodes
sequents_set [] i x e = refl
sequents_set (n ∷ ns) zero x e = ap (λ s. s ∷ sequents_in ns) e
sequents_set (n ∷ ns) (suc i) x e = ap (λ ss. n.sequent ∷ ss) (sequents_set ns i x e)

read_mapped : (nodes : List ProofNode) (i : ℕ) (d : ProofNode) → get_or (sequents_in nodes) i d.sequent ≡ (get_or nodes i d).sequent
read_mapped [] i d = refl
read_mapped (n ∷ ns) zero d = refl
read_mapped (n ∷ ns) (suc i) d = read_mapped ns i d

pub sequent_read : (nodes : List ProofNode) (i : ℕ) (n : ProofNode) → n ≡ get_or nodes i n → n.sequent ≡ get_or (sequents_in nodes) i n.sequent
sequent_read nodes i n e = ap (λ (x : ProofNode). x.sequent) e ∙ sym (read_mapped nodes i n)

pub sequents-before : (r : Refinement) (nodes : List ProofNode) → sequents_in (nodes_before r nodes) ≡ take (length nodes - r.premises) (sequents_in nodes)
sequents-before r nodes =
    let kept = take (length nodes - r.premises) nodes in
    sequents_set kept r.node (cleared (node_at kept r.node)) refl
    ∙ sym (take-map (λ (n : ProofNode). n.sequent) (length nodes - r.premises) nodes)

-- the nodes after a step: the goal's node filled, and the premises behind
module _ (nodes : List ProofNode) (made : List Kept) (node : ℕ) (x : ProofNode) (new : List ProofNode)
    (within : node < length nodes) (clear : IsClear (node_at nodes node)) (same : x.sequent ≡ (node_at nodes node).sequent)
    (is : new ≡ slice_set nodes node x ++ map open_node made) where
  pub sequents_after : sequents_in new ≡ sequents_in nodes ++ made
  sequents_after =
      ap sequents_in is
      ∙ map-append (λ (n : ProofNode). n.sequent) (slice_set nodes node x) (map open_node made)
      ∙ ap (λ ss. ss ++ sequents_in (map open_node made)) (sequents_set nodes node x same)
      ∙ ap (λ ss. sequents_in nodes ++ ss) (sequents_fresh made)

  long : length (slice_set nodes node x) ≡ length nodes
  long = length-set nodes node x

  pub filled : node_at new node ≡ x
  filled =
      ap (λ ns. node_at ns node) is
      ∙ get_or_append_left (slice_set nodes node x) (map open_node made) no_node node (omega (arith, long))
      ∙ get_or-set_same nodes node x no_node within

  pub before_again : (r : Refinement) → r.node ≡ node → r.premises ≡ length made → nodes_before r new ≡ nodes
  before_again r at count =
      let short : length new - r.premises ≡ length (slice_set nodes node x) =
      omega (arith, ap length is, length-append (slice_set nodes node x) (map open_node made), length-map made open_node, count) in
      let kept : take (length new - r.premises) new ≡ slice_set nodes node x =
      ap (take (length new - r.premises)) is ∙ take_at (slice_set nodes node x) (map open_node made) (length new - r.premises) (sym short) in
      let here : node_at (slice_set nodes node x) node ≡ x = get_or-set_same nodes node x no_node within in
      ap (λ ns. slice_set ns r.node (cleared (node_at ns r.node))) kept
      ∙ ap (λ k. slice_set (slice_set nodes node x) k (cleared (node_at (slice_set nodes node x) k))) at
      ∙ ap (λ y. slice_set (slice_set nodes node x) node (cleared y)) here
      ∙ set-set nodes node x (cleared x)
      ∙ ap (λ (s : Kept). slice_set nodes node (open_node s)) same
      ∙ ap (slice_set nodes node) (sym clear)
      ∙ set-get_or nodes node no_node

  -- another node stays, and a new one is open
  pub still_open : (n : ℕ) → n < length nodes → node ≢ n → IsClear (node_at nodes n) → IsClear (node_at new n)
  still_open n l apart clear_there =
      subst IsClear (sym (
      ap (λ ns. node_at ns n) is
      ∙ get_or_append_left (slice_set nodes node x) (map open_node made) no_node n (omega (arith, long))
      ∙ get_or-set_other nodes node n x no_node (λ e. apart (sym e)))) clear_there

  pub new_open : (i : ℕ) → i < length made → IsClear (node_at new (length nodes + i))
  new_open i l =
      subst IsClear (sym (
      ap (λ ns. node_at ns (length nodes + i)) is
      ∙ ap (λ k. node_at (slice_set nodes node x ++ map open_node made) (k + i)) (sym long)
      ∙ behind (slice_set nodes node x) (map open_node made) i)) (fresh_clear made i)
    where
      behind : (xs ys : List ProofNode) (k : ℕ) → node_at (xs ++ ys) (length xs + k) ≡ node_at ys k
      behind [] ys k = let e : 0 + k ≡ k = omega arith in ap (node_at ys) e
      behind (y ∷ xs) ys k = let e : suc (length xs) + k ≡ suc (length xs + k) = omega arith in ap (node_at (y ∷ (xs ++ ys))) e ∙ behind xs ys k

      fresh_clear : (ss : List Kept) (k : ℕ) → IsClear (node_at (map open_node ss) k)
      fresh_clear [] k = refl
      fresh_clear (s ∷ ss) zero = refl
      fresh_clear (s ∷ ss) (suc k) = fresh_clear ss k

pub length-steps_in : (nodes : List ProofNode) (js : List Refinement) → length (steps_in nodes js) ≡ length js
length-steps_in nodes [] = refl
length-steps_in nodes (r ∷ rs) = ap suc (length-steps_in (nodes_before r nodes) rs)

-- lists of numbers

abbrev pub AllBelow : ℕ → List ℕ → Type 0
AllBelow n [] = Unit {0}
AllBelow n (m ∷ ms) = (m < n) × AllBelow n ms

abbrev pub AllFrom : ℕ → List ℕ → Type 0
AllFrom n [] = Unit {0}
AllFrom n (m ∷ ms) = (n ≤ m) × AllFrom n ms

pub each_within : {X : Type 0} (ss : List X) (ns : List ℕ) (gs : List X) → map (slice_get ss) ns ≡ map Some gs → AllBelow (length ss) ns
each_within ss [] gs e = tt
each_within ss (n ∷ ns) [] e = absurd (cc)
each_within ss (n ∷ ns) (g ∷ gs) e =
    let here : slice_get ss n ≡ Some g = cc in
    let rest : map (slice_get ss) ns ≡ map Some gs = cc in
    (slice_get_within ss n g here, each_within ss ns gs rest)

pub in_middle : {X : Type 0} (ss : List X) (xs : List ℕ) (n : ℕ) (ys : List ℕ) → AllBelow (length ss) (xs ++ n ∷ ys) → n < length ss
in_middle ss [] n ys all = all.0
in_middle ss (x ∷ xs) n ys all = in_middle ss xs n ys all.1

below_parts : (k : ℕ) (xs ys : List ℕ) → AllBelow k (xs ++ ys) → AllBelow k xs × AllBelow k ys
below_parts k [] ys all = (tt, all)
below_parts k (x ∷ xs) ys all = let r = below_parts k xs ys all.1 in ((all.0, r.0), r.1)

pub differs_parts : (n : ℕ) (xs ys : List ℕ) → Differs n (xs ++ ys) → Differs n xs × Differs n ys
differs_parts n [] ys d = (tt, d)
differs_parts n (x ∷ xs) ys d = let r = differs_parts n xs ys d.1 in ((d.0, r.0), r.1)

pub differs_join : (n : ℕ) (xs ys : List ℕ) → Differs n xs → Differs n ys → Differs n (xs ++ ys)
differs_join n [] ys d e = e
differs_join n (x ∷ xs) ys d e = (d.0, differs_join n xs ys d.1 e)

-- a small one differs from all that are large, and a large one from all that are small
small_differs : (n k : ℕ) (ys : List ℕ) → n < k → AllFrom k ys → Differs n ys
small_differs n k [] l all = tt
small_differs n k (y ∷ ys) l all = ((λ e. let m = all.0 in omega arith), small_differs n k ys l all.1)

large_differs : (n k : ℕ) (ys : List ℕ) → k ≤ n → AllBelow k ys → Differs n ys
large_differs n k [] l all = tt
large_differs n k (y ∷ ys) l all = ((λ e. let m = all.0 in omega arith), large_differs n k ys l all.1)

down_from : (first count : ℕ) → AllFrom first (numbers_down first count)
down_from first zero = tt
down_from first (suc c) = (omega arith, down_from first c)

down_below : (first count k : ℕ) → first + count ≤ k → AllBelow k (numbers_down first count)
down_below first zero k l = tt
down_below first (suc c) k l = (omega arith, down_below first c k (omega arith))

down_distinct : (first count : ℕ) → AreDistinct (numbers_down first count)
down_distinct first zero = tt
down_distinct first (suc c) = (large_differs (first + c) (first + c) (numbers_down first c) (omega arith) (down_below first c (first + c) (omega arith)), down_distinct first c)

-- the new numbers in the place of one
new_behind : (k first count : ℕ) (ys : List ℕ) → k ≤ first → AllBelow k ys → AreDistinct ys → AreDistinct (numbers_down first count ++ ys)
new_behind k first zero ys l below d = d
new_behind k first (suc c) ys l below d = (
  differs_join (first + c) (numbers_down first c) ys
      (large_differs (first + c) (first + c) (numbers_down first c) (omega arith) (down_below first c (first + c) (omega arith)))
      (large_differs (first + c) k ys (omega arith) below),
  new_behind k first c ys l below d,
)

pub distinct_after : (k first count : ℕ) (xs : List ℕ) (n : ℕ) (ys : List ℕ) → k ≤ first → AllBelow k (xs ++ n ∷ ys) → AreDistinct (xs ++ n ∷ ys)
    → AreDistinct (xs ++ (numbers_down first count ++ ys))
distinct_after k first count [] n ys l below d = new_behind k first count ys l below.1 d.1
distinct_after k first count (x ∷ xs) n ys l below d =
    let parts = differs_parts x xs (n ∷ ys) d.0 in (
      differs_join x xs (numbers_down first count ++ ys) parts.0
          (differs_join x (numbers_down first count) ys (small_differs x first (numbers_down first count) (omega (arith, below.0)) (down_from first count)) parts.1.1),
      distinct_after k first count xs n ys l below.1 d.1,
    )

-- what is open, open by open
pub open_at : (nodes : List ProofNode) (xs : List ℕ) (n : ℕ) (ys : List ℕ) → AreOpen nodes (xs ++ n ∷ ys) → IsClear (node_at nodes n)
open_at nodes [] n ys o = o.0
open_at nodes (x ∷ xs) n ys o = open_at nodes xs n ys o.1

open_join : (nodes : List ProofNode) (xs ys : List ℕ) → AreOpen nodes xs → AreOpen nodes ys → AreOpen nodes (xs ++ ys)
open_join nodes [] ys o p = p
open_join nodes (x ∷ xs) ys o p = (o.0, open_join nodes xs ys o.1 p)

open_parts : (nodes : List ProofNode) (xs ys : List ℕ) → AreOpen nodes (xs ++ ys) → AreOpen nodes xs × AreOpen nodes ys
open_parts nodes [] ys o = (tt, o)
open_parts nodes (x ∷ xs) ys o = let r = open_parts nodes xs ys o.1 in ((o.0, r.0), r.1)

pub distinct_parts : (xs : List ℕ) (n : ℕ) (ys : List ℕ) → AreDistinct (xs ++ n ∷ ys) → Differs n xs × Differs n ys
distinct_parts [] n ys d = (tt, d.0)
distinct_parts (x ∷ xs) n ys d =
    let parts = differs_parts x xs (n ∷ ys) d.0 in
    let rest = distinct_parts xs n ys d.1 in
    (((λ e. parts.1.0 (sym e)), rest.0), rest.1)

module _ (nodes : List ProofNode) (made : List Kept) (node : ℕ) (x : ProofNode) (new : List ProofNode)
    (within : node < length nodes) (clear : IsClear (node_at nodes node)) (same : x.sequent ≡ (node_at nodes node).sequent)
    (is : new ≡ slice_set nodes node x ++ map open_node made) where
  others_open : (zs : List ℕ) → AllBelow (length nodes) zs → Differs node zs → AreOpen nodes zs → AreOpen new zs
  others_open [] below d o = tt
  others_open (z ∷ zs) below d o =
      (still_open nodes made node x new within clear same is z below.0 d.0 o.0, others_open zs below.1 d.1 o.1)

  fresh_open : (count : ℕ) → count ≤ length made → AreOpen new (numbers_down (length nodes) count)
  fresh_open zero l = tt
  fresh_open (suc c) l = (new_open nodes made node x new within clear same is c (omega arith), fresh_open c (omega arith))

  pub open_after : (xs ys : List ℕ) → AllBelow (length nodes) (xs ++ node ∷ ys) → AreDistinct (xs ++ node ∷ ys) → AreOpen nodes (xs ++ node ∷ ys)
      → AreOpen new (xs ++ (numbers_down (length nodes) (length made) ++ ys))
  open_after xs ys below distinct are_open =
      let b = below_parts (length nodes) xs (node ∷ ys) below in
      let d = distinct_parts xs node ys distinct in
      let o = open_parts nodes xs (node ∷ ys) are_open in
      open_join new xs (numbers_down (length nodes) (length made) ++ ys) (others_open xs b.0 d.0 o.0)
      (open_join new (numbers_down (length nodes) (length made)) ys (fresh_open (length made) (omega arith)) (others_open ys b.1.1 d.1 o.1.1))

pub length-before : (r : Refinement) (nodes : List ProofNode) → length (nodes_before r nodes) ≡ length nodes - r.premises
length-before r nodes =
    let kept = take (length nodes - r.premises) nodes in
    length-set kept r.node (cleared (node_at kept r.node)) ∙ length-take-le (length nodes - r.premises) nodes (omega arith)
