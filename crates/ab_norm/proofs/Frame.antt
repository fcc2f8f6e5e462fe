-- What holds of a store that has only got terms.
use Rattle.std.proofs.Common.{◌≡◌, ℕ, ◌+◌, ◌<◌, List, [], ◌∷◌, ◌++◌, map, take, length, get_or, Result, Ok, Err, IfOk, refl, sym, ◌∙◌, ap, subst}
use Rattle.std.specs.List.{All}
use Rattle.std.proofs.lemmas.List.{map_more, map-append}
use Rattle.std.proofs.lemmas.List.Elements.{All-head, All-tail, All-weaker}
use Rattle.ab_store.specs.ab_types.specs.Entries.{Table}
use Rattle.ab_store.specs.declared.node.TermId.{TermId}
use Rattle.ab_store.specs.declared.node.Head.{Head}
use Rattle.ab_store.specs.declared.node.Node.{Node}
use Rattle.ab_store.specs.declared.node.Node.TheVariants.{Lam, Spine}
use Rattle.ab_store.specs.ab_types.specs.declared.ids.TypeId.{TypeId}
use Rattle.ab_store.specs.ab_types.specs.Ids.{HoldsType}
use Rattle.ab_term.specs.Terms.{Read}
use Rattle.ab_store.specs.Trees.{Contents, Holds, tree_of, head_in, head_reading}
use Rattle.ab_store.specs.Growth.{IsExtendedBy}
use Rattle.ab_store.specs.Naming.{HeadNames, NodeNames, HoldsHead, HeadIsTyped, NodeIsTyped, IsTypedBy}
use Rattle.ab_store.proofs.Growing.{extended_itself, extended_on}
use Rattle.ab_norm.specs.NodeGrowth.{AddsTerms, AddsTypedTerms}

pub adds_none : (s : Contents) → AddsTerms s s
adds_none s = record { before = extended_itself s; cells = refl; typed = λ types typed. typed }

pub adds_on : (r s t : Contents) → AddsTerms r s → AddsTerms s t → AddsTerms r t
adds_on r s t e f = record {
  before = extended_on r s t e.before f.before;
  cells = f.cells ∙ e.cells;
  typed = λ types typed. f.typed types (e.typed types typed);
}

pub still_held : (s t : Contents) (ts : List TermId) → AddsTerms s t → All (Holds s) ts → All (Holds t) ts
still_held s t ts e = All-weaker (Holds s) (Holds t) e.before.ids ts

pub still_read_before : (types : Table) (s t : Contents) (ts : List TermId) → IsExtendedBy s t → All (Holds s) ts → map (tree_of types t) ts ≡ map (tree_of types s) ts
still_read_before types s t [] e h = refl
still_read_before types s t (x ∷ xs) e h =
    ap (λ r. r ∷ map (tree_of types t) xs) (e.trees types x (All-head (Holds s) x xs h))
    ∙ ap (λ l. tree_of types s x ∷ l) (still_read_before types s t xs e (All-tail (Holds s) x xs h))

pub still_read : (types : Table) (s t : Contents) (ts : List TermId) → AddsTerms s t → All (Holds s) ts → map (tree_of types t) ts ≡ map (tree_of types s) ts
still_read types s t ts e h = still_read_before types s t ts e.before h

pub same_head : (types : Table) (s t : Contents) (h : Head) → AddsTerms s t → head_reading types t h ≡ head_reading types s h
same_head types s t h e = ap (λ cells. head_in types cells h) e.cells

-- one more argument
pub read_more : (types : Table) (F : Read → Read) (s0 s1 s2 : Contents) (ts done more : List TermId) (i : ℕ) (d r : TermId)
    → AddsTerms s0 s1 → AddsTerms s1 s2
    → All (Holds s0) ts
    → All (Holds s1) done
    → map (tree_of types s1) done ≡ map (λ t. F (tree_of types s0 t)) (take i ts)
    → tree_of types s2 r ≡ F (tree_of types s1 (get_or ts i d))
    → i < length ts
    → more ≡ done ++ r ∷ []
    → map (tree_of types s2) more ≡ map (λ t. F (tree_of types s0 t)) (take (i + 1) ts)
read_more types F s0 s1 s2 ts done more i d r e f within held reads here l push =
    ap (map (tree_of types s2)) push
    ∙ map-append (tree_of types s2) done (r ∷ [])
    ∙ ap (λ l. l ++ tree_of types s2 r ∷ []) (still_read types s1 s2 done f held ∙ reads)
    ∙ ap (λ x. map (λ t. F (tree_of types s0 t)) (take i ts) ++ x ∷ []) (here ∙ ap F (e.before.trees types (get_or ts i d) (within i d l)))
    ∙ sym (map_more (λ t. F (tree_of types s0 t)) ts i d l)

pub if_ok : {T E : Type 0} {P Q : T → Type 0} (r : Result T E) → ((v : T) → P v → Q v) → IfOk r P → IfOk r Q
if_ok (Ok v) f h = f v h
if_ok (Err e) f h = h

pub if_both : {T E : Type 0} {P Q R : T → Type 0} (r : Result T E) → ((v : T) → P v → Q v → R v) → IfOk r P → IfOk r Q → IfOk r R
if_both (Ok v) f g h = f v g h
if_both (Err e) f g h = h

-- a copy of an abstraction or of a head with arguments, over what was made before
module _ (s0 s1 s2 : Contents) (n : Node) (typed : (types : Table) → IsTypedBy types s0 → NodeIsTyped types n)
    (adds : AddsTerms s0 s1) (more : IsExtendedBy s1 s2) (cells : s2.cells ≡ s1.cells) where
  pub adds_lam : (ty : TypeId) (x : List ℕ) (body : TermId) → n ≡ Lam ty x body
      → ((types : Table) → IsTypedBy types s1 → HoldsType types ty → IsTypedBy types s2) → AddsTerms s0 s2
  adds_lam ty x body is made = record {
    before = extended_on s0 s1 s2 adds.before more;
    cells = cells ∙ adds.cells;
    typed = λ types h. made types (adds.typed types h) (subst (NodeIsTyped types) is (typed types h));
  }

  pub adds_spine : (h g : Head) (ts : List TermId) → n ≡ Spine h ts
      → ((types : Table) → HeadIsTyped types h → HeadIsTyped types g)
      → ((types : Table) → IsTypedBy types s1 → HeadIsTyped types g → IsTypedBy types s2) → AddsTerms s0 s2
  adds_spine h g ts is head made = record {
    before = extended_on s0 s1 s2 adds.before more;
    cells = cells ∙ adds.cells;
    typed = λ types d. made types (adds.typed types d) (head types (subst (NodeIsTyped types) is (typed types d)));
  }

pub spine_names : (j c : ℕ) (n : Node) (h : Head) (ts : List TermId) → n ≡ Spine h ts → NodeNames j c n → HeadNames c h × All (λ t. t.0 < j) ts
spine_names j c n h ts is names = subst (NodeNames j c) is names

pub lam_names : (j c : ℕ) (n : Node) (ty : TypeId) (x : List ℕ) (body : TermId) → n ≡ Lam ty x body → NodeNames j c n → body.0 < j
lam_names j c n ty x body is names = subst (NodeNames j c) is names

-- a head of the first store is one of the second
pub still_held_head : (s t : Contents) (h : Head) → AddsTerms s t → HoldsHead s h → HoldsHead t h
still_held_head s t h e held = subst (λ cells. HeadNames (length cells) h) (sym e.cells) held

pub adds_more : (s0 s1 : Contents) → IsExtendedBy s0 s1 → s1.cells ≡ s0.cells → ((types : Table) → IsTypedBy types s0 → IsTypedBy types s1) → AddsTerms s0 s1
adds_more s0 s1 more cells typed = record { before = more; cells = cells; typed = typed }

-- for one table
pub typed_from : (types : Table) (s t : Contents) → AddsTerms s t → IsTypedBy types s → AddsTypedTerms types s t
typed_from types s t e typed = record { before = e.before; cells = e.cells; typed = e.typed types typed }

pub typed_more : (types : Table) (r s t : Contents) → IsExtendedBy r s → s.cells ≡ r.cells → IsExtendedBy s t → t.cells ≡ s.cells → IsTypedBy types t → AddsTypedTerms types r t
typed_more types r s t e c f d typed = record { before = extended_on r s t e f; cells = d ∙ c; typed = typed }

pub typed_on : (types : Table) (r s t : Contents) → AddsTypedTerms types r s → AddsTypedTerms types s t → AddsTypedTerms types r t
typed_on types r s t e f = typed_more types r s t e.before e.cells f.before f.cells f.typed

-- only that the second extends the first counts
pub adds_but_types : (types : Table) (s t : Contents) → AddsTypedTerms types s t → (ts : List TermId) → All (Holds s) ts → (All (Holds t) ts) × (map (tree_of types t) ts ≡ map (tree_of types s) ts)
adds_but_types types s t e ts h = (All-weaker (Holds s) (Holds t) e.before.ids ts h, still_read_before types s t ts e.before h)

pub typed_none : (types : Table) (s : Contents) → IsTypedBy types s → AddsTypedTerms types s s
typed_none types s typed = record { before = extended_itself s; cells = refl; typed = typed }
