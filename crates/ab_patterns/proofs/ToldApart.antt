-- Names that are told from other heads.
use Rattle.std.proofs.Common.{◌≡◌, ◌≢◌, ℕ, List, Bool, true, false, cond, ◌==◌, ◌&&◌, Decides, refl, ap}
use Rattle.std.specs.List.{All}
use Rattle.std.proofs.lemmas.List.Elements.{All-weaker}
use Rattle.std.proofs.lemmas.Bool.Decides.{Decides-eqb}
use Rattle.ab_term.specs.Types.{same_type}
use Rattle.ab_term.specs.Terms as tree
use Rattle.ab_term.specs.Substitution.{shift_head}
use Rattle.ab_term.specs.Abstraction as closing
use Rattle.ab_norm.specs.ab_types.specs.Entries.{Table}
use Rattle.ab_norm.specs.ab_types.specs.Sound.{IsTable}
use Rattle.ab_norm.specs.ab_types.specs.Ids.{type_of}
use Rattle.ab_norm.specs.ab_store.specs.declared.node.CellId.{CellId}
use Rattle.ab_norm.specs.ab_store.specs.declared.node.Head.{Head}
use Rattle.ab_norm.specs.ab_store.specs.declared.node.Head.TheVariants.{Const, Logic, Nominal, Cell, Index}
use Rattle.ab_norm.specs.ab_store.specs.Trees.{Contents, head_reading, cell_in}
use Rattle.ab_norm.specs.ab_store.specs.Naming.{HeadIsTyped, IsTypedBy}
use Rattle.ab_norm.specs.NodeGrowth.{AddsTerms}
use Rattle.ab_patterns.specs.Abstraction.{IsToldApart, AreToldApart}
use Rattle.ab_patterns.proofs.Rules.{heads_differ}

pub told_by : (types : Table) (store : Contents) (name : Head) → IsTable types → IsTypedBy types store → HeadIsTyped types name → IsToldApart types store name
told_by types store (Const k) ok typed named = (ok, typed, named)
told_by types store (Logic l) ok typed named = (ok, typed, named)
told_by types store (Nominal m a) ok typed named = (ok, typed, named)
told_by types store (Index i) ok typed named = (ok, typed, named)
told_by types store (Cell c) ok typed named = tt

-- a bound name is told from what another head is told from
pub told_index : (types : Table) (name other : Head) (i : ℕ) → AreToldApart types name other → AreToldApart types name (Index i)
told_index types (Const k) other i t = (t.0, t.1, tt)
told_index types (Logic l) other i t = (t.0, t.1, tt)
told_index types (Nominal m a) other i t = (t.0, t.1, tt)
told_index types (Index j) other i t = (t.0, t.1, tt)
told_index types (Cell c) other i t = tt

-- in a store with more terms
pub told_on : (types : Table) (s t : Contents) (name : Head) → AddsTerms s t → IsToldApart types s name → IsToldApart types t name
told_on types s t (Const k) a h = (h.0, a.typed types h.1, h.2)
told_on types s t (Logic l) a h = (h.0, a.typed types h.1, h.2)
told_on types s t (Nominal m b) a h = (h.0, a.typed types h.1, h.2)
told_on types s t (Index i) a h = (h.0, a.typed types h.1, h.2)
told_on types s t (Cell c) a h = tt

-- from a head of the store
pub told_here : (types : Table) (store : Contents) (name head : Head) → IsToldApart types store name → (IsTypedBy types store → HeadIsTyped types head) → AreToldApart types name head
told_here types store (Const k) head h typed = (h.0, h.2, typed h.1)
told_here types store (Logic l) head h typed = (h.0, h.2, typed h.1)
told_here types store (Nominal m a) head h typed = (h.0, h.2, typed h.1)
told_here types store (Index i) head h typed = (h.0, h.2, typed h.1)
told_here types store (Cell c) head h typed = tt

-- another head than a cell is only shifted
pub other_head : (types : Table) (store : Contents) (at : ℕ) (c : CellId) (h : Head) → h ≢ Cell c → shift_head at (head_reading types store h) ≡ closing.close_head at (head_reading types store (Cell c)) (head_reading types store h)
other_head types store at c (Const k) n = refl
other_head types store at c (Logic l) n = refl
other_head types store at c (Nominal m a) n = refl
other_head types store at c (Index i) n = refl
other_head types store at c (Cell d) n = go (d.0 == c.0) (Decides-eqb d.0 c.0)
  where
    go : (b : Bool) → Decides b (d.0 ≡ c.0)
        → tree.variable (record { name = d.0; type = type_of types (cell_in store.cells d).ty })
        ≡ cond (b && same_type (type_of types (cell_in store.cells d).ty) (type_of types (cell_in store.cells c).ty)) (tree.index at) (tree.variable (record { name = d.0; type = type_of types (cell_in store.cells d).ty }))
    go true e = absurd (n (ap (λ i. Cell (record { 0 = i })) (e.0 refl)))
    go false e = refl

pub all_told_on : (types : Table) (s t : Contents) (names : List Head) → AddsTerms s t → All (IsToldApart types s) names → All (IsToldApart types t) names
all_told_on types s t names a all = All-weaker (IsToldApart types s) (IsToldApart types t) (λ name. told_on types s t name a) names all

pub all_told_here : (types : Table) (store : Contents) (names : List Head) (head : Head) → All (IsToldApart types store) names → (IsTypedBy types store → HeadIsTyped types head) → All (λ name. AreToldApart types name head) names
all_told_here types store names head all typed = All-weaker (IsToldApart types store) (λ name. AreToldApart types name head) (λ name told. told_here types store name head told typed) names all

abbrev number : tree.Head ℕ → ℕ
number (tree.variable x) = x.name
number _ = 0

-- names that are told apart read differently
pub told_differ : (types : Table) (store : Contents) (name h : Head) → AreToldApart types name h → h ≢ name → head_reading types store h ≢ head_reading types store name
told_differ types store (Const k) h t n = heads_differ types store h (Const k) t.0 t.2 t.1 n
told_differ types store (Logic l) h t n = heads_differ types store h (Logic l) t.0 t.2 t.1 n
told_differ types store (Nominal m a) h t n = heads_differ types store h (Nominal m a) t.0 t.2 t.1 n
told_differ types store (Index i) h t n = heads_differ types store h (Index i) t.0 t.2 t.1 n
told_differ types store (Cell c) h t n = go h n
  where
    go : (h : Head) → h ≢ Cell c → head_reading types store h ≢ head_reading types store (Cell c)
    go (Const k) n e = cc
    go (Logic l) n e = cc
    go (Nominal m a) n e = cc
    go (Index i) n e = cc
    go (Cell d) n e = n (ap (λ i. Cell (record { 0 = i })) (ap number e))
