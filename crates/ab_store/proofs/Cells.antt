-- The cells of a tree: those of its store, and the same ones in every table.
use Rattle.std.proofs.Common.{◌≡◌, ℕ, zero, suc, List, [], ◌∷◌, ◌++◌, map, get_or, refl, sym, ◌∙◌, ap, subst}
use Rattle.std.specs.Prelude.{All, Contains}
use Rattle.std.proofs.lemmas.List.{map-append}
use Rattle.std.proofs.lemmas.List.Elements.{All-nil, All-cons, All-append}
use Rattle.ab_term.specs.Terms.{Variable, Terms, terms_of, Read}
use Rattle.ab_term.specs.Variables.{variables_of_head, variables, variables_of_all}
use Rattle.ab_term.proofs.Lists.{Contains-map, Contains-from_map}
use Rattle.ab_types.specs.Entries.{Table}
use Rattle.ab_types.specs.Ids.{type_of}
use Rattle.ab_store.specs.declared.node.TermId.{TermId}
use Rattle.ab_store.specs.declared.node.CellId.{CellId}
use Rattle.ab_store.specs.declared.node.Head.{Head}
use Rattle.ab_store.specs.declared.node.Head.TheVariants.{Const, Logic, Nominal, Cell, Index}
use Rattle.ab_store.specs.declared.node.Node.{Node}
use Rattle.ab_store.specs.declared.node.Node.TheVariants.{Lam, Spine}
use Rattle.ab_store.specs.declared.node.CellEntry.{CellEntry}
use Rattle.ab_store.specs.Trees.{Contents, cell_in, head_in, term_at, term_of_node, terms_from, tree_of}
use Rattle.ab_store.specs.Bindings.{cells_of}
use Rattle.ab_store.proofs.Nodes.{none, each_tree}

-- the numbers of the variables of a term
abbrev pub numbers : Read → List ℕ
numbers t = map (λ (x : Variable ℕ). x.name) (variables t)

abbrev numbers_of_all : Terms ℕ (List ℕ) → List ℕ
numbers_of_all ts = map (λ (x : Variable ℕ). x.name) (variables_of_all ts)

-- the same without a table: from what the nodes before have
abbrev head_numbers : Head → List ℕ
head_numbers (Cell c) = c.0 ∷ []
head_numbers _ = []

abbrev all_numbers : List (List ℕ) → List TermId → List ℕ
all_numbers before [] = []
all_numbers before (t ∷ ts) = get_or before t.0 [] ++ all_numbers before ts

abbrev node_numbers : List (List ℕ) → Node → List ℕ
node_numbers before (Lam a x t) = get_or before t.0 []
node_numbers before (Spine h ts) = head_numbers h ++ all_numbers before ts

abbrev numbers_from : List (List ℕ) → List Node → List (List ℕ)
numbers_from before [] = before
numbers_from before (n ∷ ns) = numbers_from (before ++ node_numbers before n ∷ []) ns

get_or-mapped : {X Y : Type 0} (f : X → Y) (xs : List X) (i : ℕ) (d : X) → f (get_or xs i d) ≡ get_or (map f xs) i (f d)
get_or-mapped f [] i d = refl
get_or-mapped f (x ∷ xs) zero d = refl
get_or-mapped f (x ∷ xs) (suc i) d = get_or-mapped f xs i d

module _ (types : Table) (C : List CellEntry) where
  head_has : (h : Head) → map (λ (x : Variable ℕ). x.name) (variables_of_head (head_in types C h)) ≡ head_numbers h
  head_has (Const c) = refl
  head_has (Logic l) = refl
  head_has (Nominal n a) = refl
  head_has (Cell c) = refl
  head_has (Index i) = refl

  all_have : (terms : List Read) (ts : List TermId) → numbers_of_all (terms_of (map (term_at types terms) ts)) ≡ all_numbers (map numbers terms) ts
  all_have terms [] = refl
  all_have terms (t ∷ ts) =
      map-append (λ (x : Variable ℕ). x.name) (variables (term_at types terms t)) (variables_of_all (terms_of (map (term_at types terms) ts)))
      ∙ ap (λ l. l ++ numbers_of_all (terms_of (map (term_at types terms) ts))) (get_or-mapped numbers terms t.0 none)
      ∙ ap (λ l. get_or (map numbers terms) t.0 [] ++ l) (all_have terms ts)

  node_has : (terms : List Read) (n : Node) → numbers (term_of_node types C terms n) ≡ node_numbers (map numbers terms) n
  node_has terms (Lam a x t) = get_or-mapped numbers terms t.0 none
  node_has terms (Spine h ts) =
      map-append (λ (x : Variable ℕ). x.name) (variables_of_head (head_in types C h)) (variables_of_all (terms_of (map (term_at types terms) ts)))
      ∙ ap (λ l. l ++ numbers_of_all (terms_of (map (term_at types terms) ts))) (head_has h)
      ∙ ap (λ l. head_numbers h ++ l) (all_have terms ts)

  terms_have : (acc : List Read) (ns : List Node) → map numbers (terms_from types C acc ns) ≡ numbers_from (map numbers acc) ns
  terms_have acc [] = refl
  terms_have acc (n ∷ ns) =
      terms_have (acc ++ term_of_node types C acc n ∷ []) ns
      ∙ ap (λ l. numbers_from l ns) (map-append numbers acc (term_of_node types C acc n ∷ []) ∙ ap (λ l. map numbers acc ++ l ∷ []) (node_has acc n))

numbers_are : (types : Table) (store : Contents) (t : TermId) → numbers (tree_of types store t) ≡ get_or (numbers_from [] store.nodes) t.0 []
numbers_are types store t =
    get_or-mapped numbers (terms_from types store.cells [] store.nodes) t.0 none
    ∙ ap (λ l. get_or l t.0 []) (terms_have types store.cells [] store.nodes)

-- a tree has the same cells in each table
pub same_numbers : (types more : Table) (store : Contents) (t : TermId) → numbers (tree_of types store t) ≡ numbers (tree_of more store t)
same_numbers types more store t = numbers_are types store t ∙ sym (numbers_are more store t)

map-numbers : (xs : List (Variable ℕ)) → map (λ (c : CellId). c.0) (map (λ x. record { 0 = x.name }) xs) ≡ map (λ x. x.name) xs
map-numbers [] = refl
map-numbers (x ∷ xs) = ap (λ l. x.name ∷ l) (map-numbers xs)

pub cells_are : (types : Table) (store : Contents) (t : TermId) → map (λ (x : Variable ℕ). x.name) (variables (tree_of types store t)) ≡ map (λ (c : CellId). c.0) (cells_of store t)
cells_are types store t = same_numbers types [] store t ∙ sym (map-numbers (variables (tree_of [] store t)))

-- a cell stands in a term where its number does
pub stands : (types : Table) (store : Contents) (c : CellId) (t : TermId) → Contains (numbers (tree_of types store t)) c.0 → Contains (cells_of store t) c
stands types store c t m =
    let found = Contains-from_map (λ (x : Variable ℕ). x.name) (variables (tree_of [] store t)) c.0 (subst (λ l. Contains l c.0) (same_numbers types [] store t) m) in
    let here : CellId → Type 0 = λ d. Contains (cells_of store t) d in
    let id : ℕ → CellId = λ n. record { 0 = n } in
    subst here (ap id found.2) (Contains-map (λ (x : Variable ℕ). id x.name) (variables (tree_of [] store t)) found.0 found.1)

pub numbered : (types : Table) (store : Contents) (c : CellId) (t : TermId) → Contains (cells_of store t) c → Contains (numbers (tree_of types store t)) c.0
numbered types store c t m =
    subst (λ l. Contains l c.0) (sym (cells_are types store t)) (Contains-map (λ (c : CellId). c.0) (cells_of store t) c m)

-- each variable of a tree is a cell, with its type
module _ (types : Table) (C : List CellEntry) where
  abbrev pub IsCell : Variable ℕ → Type 0
  IsCell x = x ≡ record { name = x.name; type = type_of types (cell_in C (record { 0 = x.name })).ty }

  head_is_cell : (h : Head) → All IsCell (variables_of_head (head_in types C h))
  head_is_cell (Const c) = All-nil IsCell
  head_is_cell (Logic l) = All-nil IsCell
  head_is_cell (Nominal n a) = All-nil IsCell
  head_is_cell (Cell c) = All-cons IsCell (record { name = c.0; type = type_of types (cell_in C c).ty }) [] refl (All-nil IsCell)
  head_is_cell (Index i) = All-nil IsCell

  all_are_cells : (terms : List Read) → ((i : ℕ) → All IsCell (variables (get_or terms i none))) → (ts : List TermId) → All IsCell (variables_of_all (terms_of (map (term_at types terms) ts)))
  all_are_cells terms each [] = All-nil IsCell
  all_are_cells terms each (t ∷ ts) = All-append IsCell (variables (term_at types terms t)) (variables_of_all (terms_of (map (term_at types terms) ts))) (each t.0) (all_are_cells terms each ts)

  pub node_has_cells : (terms : List Read) (n : Node) → ((i : ℕ) → All IsCell (variables (get_or terms i none))) → All IsCell (variables (term_of_node types C terms n))
  node_has_cells terms (Lam a x t) each = each t.0
  node_has_cells terms (Spine h ts) each = All-append IsCell (variables_of_head (head_in types C h)) (variables_of_all (terms_of (map (term_at types terms) ts))) (head_is_cell h) (all_are_cells terms each ts)

pub variables_are_cells : (types : Table) (store : Contents) (t : TermId) → All (IsCell types store.cells) (variables (tree_of types store t))
variables_are_cells types store t =
    each_tree types store.cells (λ r. All (IsCell types store.cells) (variables r)) (All-nil (IsCell types store.cells)) (node_has_cells types store.cells) store.nodes t.0
