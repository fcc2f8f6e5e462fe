-- What a walk that makes a name bound keeps of terms that it has been through.
use Rattle.std.proofs.Common.{◌≡◌, ◌⊎◌, inl, inr, ℕ, List, map, Some, None, sym, ap, ◌∙◌, subst}
use Rattle.ab_norm.specs.ab_types.specs.Entries.{Table}
use Rattle.ab_norm.specs.ab_store.specs.declared.node.TermId.{TermId}
use Rattle.ab_norm.specs.ab_store.specs.declared.node.Head.{Head}
use Rattle.ab_norm.specs.ab_store.specs.Trees.{Contents, Holds, tree_of, head_reading}
use Rattle.ab_norm.specs.ab_store.specs.Growth.{IsExtendedBy}
use Rattle.ab_norm.specs.NodeGrowth.{AddsTerms}
use Rattle.ab_norm.specs.declared.memo.Memo.{Memo}
use Rattle.ab_norm.specs.WalkMemory.{answer_of}
use Rattle.ab_patterns.specs.Abstraction.{close_names, KeepsTerms, IsClosing, Remembers}
use Rattle.ab_patterns.proofs.Closed.{names_on}

-- in a store with more terms
pub keeps_on : (s t : Contents) (memo : Memo) → IsExtendedBy s t → KeepsTerms s memo → KeepsTerms t memo
keeps_on s t memo before kept u r k e = let h = kept u r k e in (before.ids u h.0, before.ids r h.1)

pub remembers_on : (types : Table) (s t : Contents) (names : List Head) (memo : Memo) → IsExtendedBy s t → t.cells ≡ s.cells → KeepsTerms s memo → Remembers types s names memo → Remembers types t names memo
remembers_on types s t names memo before cells kept was u r k e =
    let h = kept u r k e in
    before.trees types r h.1
    ∙ (was u r k e
    ∙ (ap (λ hs. close_names k hs (tree_of types s u)) (sym (names_on types s t names cells))
    ∙ ap (close_names k (map (head_reading types t) names)) (sym (before.trees types u h.0))))

-- with one answer more
pub one_more : (P : TermId → ℕ → TermId → Type 0) (old new : Memo) (t : TermId) (at : ℕ) (r : TermId)
    → ((u q : TermId) (k : ℕ) → answer_of old u k ≡ Some q → P u k q) → P t at r
    → ((u : TermId) (k : ℕ) → (answer_of new u k ≡ answer_of old u k) ⊎ ((u ≡ t) × (k ≡ at) × (answer_of new u k ≡ Some r)))
    → (u q : TermId) (k : ℕ) → answer_of new u k ≡ Some q → P u k q
one_more P old new t at r all is kept u q k e = go (kept u k)
  where
    go : (answer_of new u k ≡ answer_of old u k) ⊎ ((u ≡ t) × (k ≡ at) × (answer_of new u k ≡ Some r)) → P u k q
    go (inl same) = all u q k (sym same ∙ e)
    go (inr h) =
        let answer : Some r ≡ Some q = sym h.2 ∙ e in
        let one : r ≡ q = cc in
        subst (λ v. P v k q) (sym h.0) (subst (λ i. P t i q) (sym h.1) (subst (P t at) one is))

pub none_kept : (P : TermId → ℕ → TermId → Type 0) (memo : Memo) → ((u : TermId) (k : ℕ) → answer_of memo u k ≡ None) → (u r : TermId) (k : ℕ) → answer_of memo u k ≡ Some r → P u k r
none_kept P memo none u r k e = let h : None ≡ Some r = sym (none u k) ∙ e in absurd (cc)

-- what was made over the first store, as it is in the last
pub closing_here : (types : Table) (s t : Contents) (names : List Head) (id : TermId) (at : ℕ) (r : TermId) → AddsTerms s t → Holds s id
    → tree_of types t r ≡ close_names at (map (head_reading types s) names) (tree_of types s id) → IsClosing types t names id at r
closing_here types s t names id at r a was reads =
    reads
    ∙ (ap (λ hs. close_names at hs (tree_of types s id)) (sym (names_on types s t names a.cells))
    ∙ ap (close_names at (map (head_reading types t) names)) (sym (a.before.trees types id was)))
