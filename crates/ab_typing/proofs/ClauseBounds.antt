-- A number above all ids of a list: what a walk through the list goes down from. And what a node names.
use Rattle.std.proofs.Common.{◌≡◌, ℕ, zero, suc, ◌+◌, ◌<◌, ◌≤◌, max, List, [], ◌∷◌, length, get_or, arith, subst}
use Rattle.std.specs.List.{All}
use Rattle.std.proofs.lemmas.List.Elements.{All-head, All-tail}
use Rattle.ab_store.specs.declared.node.TermId.{TermId}
use Rattle.ab_store.specs.declared.node.Head.{Head}
use Rattle.ab_store.specs.declared.node.Node.{Node}
use Rattle.ab_store.specs.declared.node.Node.TheVariants.{Lam, Spine}
use Rattle.ab_store.specs.ab_types.specs.declared.ids.TypeId.{TypeId}
use Rattle.ab_store.specs.Naming.{HeadNames, NodeNames}

-- one more than the largest
abbrev pub ids_bound : List TermId → ℕ
ids_bound [] = 0
ids_bound (t ∷ ts) = max (t.0 + 1) (ids_bound ts)

pub bound_within : (n : ℕ) (ts : List TermId) → All (λ t. t.0 < n) ts → ids_bound ts ≤ n
bound_within n [] h = omega arith
bound_within n (t ∷ ts) h = omega (arith, All-head (λ t. t.0 < n) t ts h, bound_within n ts (All-tail (λ t. t.0 < n) t ts h))

pub below_bound : (ts : List TermId) (i : ℕ) (d : TermId) → i < length ts → (get_or ts i d).0 < ids_bound ts
below_bound [] i d h = absurd (omega arith)
below_bound (t ∷ ts) zero d h = omega arith
below_bound (t ∷ ts) (suc i) d h = omega (arith, below_bound ts i d (omega arith))

pub spine_names : (j c : ℕ) (n : Node) (h : Head) (ts : List TermId) → n ≡ Spine h ts → NodeNames j c n → HeadNames c h × All (λ t. t.0 < j) ts
spine_names j c n h ts is names = subst (NodeNames j c) is names

pub lam_names : (j c : ℕ) (n : Node) (ty : TypeId) (x : List ℕ) (body : TermId) → n ≡ Lam ty x body → NodeNames j c n → body.0 < j
lam_names j c n ty x body is names = subst (NodeNames j c) is names
