-- What walks keep that look for bound cells in terms, or put their bindings in.
use Rattle.std.specs.Prelude.{◌≡◌, ◌<◌, Bool, true, false, cond, ◌==◌, ◌||◌, ℕ, suc, List, [], ◌∷◌, length, map, take, Some}
use Rattle.ab_term.specs.Terms.{Variable}
use Rattle.ab_term.specs.Variables.{variables, one_by_one}
use Rattle.ab_store.specs.ab_types.specs.Entries.{Table}
use Rattle.ab_store.specs.declared.node.TermId.{TermId}
use Rattle.ab_store.specs.declared.node.Binding.{Binding}
use Rattle.ab_store.specs.Reading.{Contents, Read, Holds, same_number, tree_of, pairs}
use Rattle.ab_store.specs.Bindings.{IsResolved}
use Rattle.ab_norm.specs.declared.bindings_put_in.Turn.{Turn}
use Rattle.ab_norm.specs.declared.bindings_put_in.Turn.TheVariants.{Made, Passed}
use Rattle.ab_norm.specs.declared.memo.Memo.{Memo}
use Rattle.ab_norm.specs.declared.memo.Seen.{Seen}
use Rattle.ab_norm.specs.WalkMemory.{answer_of, has_been}

-- in each term that is kept no bound cell stands
abbrev pub AllResolved : Contents → Seen → Type 0
AllResolved store seen = (t : TermId) → has_been seen t ≡ true → IsResolved store t

-- a tree with the first bindings put in, so many of them, one after another
abbrev pub put_first : Table → Contents → ℕ → Read → Read
put_first types store count t = one_by_one same_number (take count (pairs types store)) t

-- each answer that is kept for a term is the term with so many bindings put in
abbrev pub KeepsPut : Table → Contents → Memo → Type 0
KeepsPut types store memo = (t r : TermId) (count : ℕ) → answer_of memo t count ≡ Some r →
    Holds store t × Holds store r × (tree_of types store r ≡ put_first types store count (tree_of types store t))

-- whether the number is one of these
abbrev pub has : List ℕ → ℕ → Bool
has [] n = false
has (m ∷ ms) n = (m == n) || has ms n

-- how many bindings there are from the first one on whose cell has one of the numbers
abbrev pub left : List Binding → List ℕ → ℕ
left [] ns = 0
left (b ∷ bs) ns = cond (has ns b.cell.0) (suc (length bs)) (left bs ns)

-- how many bindings are left to be put in: all from the first one on whose cell stands in the term
abbrev pub bindings_left : Table → Contents → TermId → ℕ
bindings_left types store id = left store.bindings (map (λ (x : Variable ℕ). x.name) (variables (tree_of types store id)))

-- the term becomes the tree, once the first bindings are put in, so many of them
abbrev pub Becomes : Table → Contents → ℕ → Read → TermId → Type 0
Becomes types store count whole id = Holds store id × (put_first types store count (tree_of types store id) ≡ whole)

-- what a turn of the walk makes of a term: what it becomes, or a term that becomes the same and has fewer bindings left
abbrev pub IsTurn : Table → Contents → Contents → ℕ → TermId → Turn → Type 0
IsTurn types old new count id (Made made) =
    Holds new made × (tree_of types new made ≡ put_first types old count (tree_of types old id))
IsTurn types old new count id (Passed next) =
    Becomes types new count (put_first types old count (tree_of types old id)) next × (bindings_left types new next < bindings_left types old id)
