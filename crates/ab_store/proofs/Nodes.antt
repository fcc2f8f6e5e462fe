-- The list of the terms that a list of nodes stands for.
use Rattle.std.proofs.Common.{◌≡◌, ℕ, zero, suc, ◌+◌, ◌<◌, ◌≤◌, List, [], ◌∷◌, ◌++◌, map, take, drop, length, get_or, refl, sym, ◌∙◌, ap, arith, length-append, take-append-drop, length-take-le}
use Rattle.std.proofs.lemmas.List.{get_or_append_left, get_or_push}
use Rattle.std.proofs.lemmas.List.Elements.{All-head, All-tail}
use Rattle.std.specs.List.{All}
use Rattle.ab_term.specs.Terms as tree
use Rattle.ab_term.specs.Terms.{lam, spine, terms_of, no_terms, Read}
use Rattle.ab_types.specs.Entries.{Table}
use Rattle.ab_types.specs.Ids.{type_of}
use Rattle.ab_store.specs.declared.node.TermId.{TermId}
use Rattle.ab_store.specs.declared.node.Head.{Head}
use Rattle.ab_store.specs.declared.node.Head.TheVariants.{Const, Logic, Nominal, Cell, Index}
use Rattle.ab_store.specs.declared.node.Node.{Node}
use Rattle.ab_store.specs.declared.node.Node.TheVariants.{Lam, Spine}
use Rattle.ab_store.specs.declared.node.CellEntry.{CellEntry}
use Rattle.ab_store.specs.Trees.{head_in, term_at, term_of_node, terms_from}
use Rattle.ab_store.specs.Naming.{HeadNames, NodeNames, NodesNameEarlier}

-- what stands for an id that isn't there
abbrev pub none : Read
none = spine (tree.index 0) no_terms

module _ (types : Table) (C : List CellEntry) where
  pub terms_from-append : (acc : List Read) (ns ms : List Node) → terms_from types C acc (ns ++ ms) ≡ terms_from types C (terms_from types C acc ns) ms
  terms_from-append acc [] ms = refl
  terms_from-append acc (n ∷ ns) ms = terms_from-append (acc ++ term_of_node types C acc n ∷ []) ns ms

  pub length-terms_from : (acc : List Read) (ns : List Node) → length (terms_from types C acc ns) ≡ length acc + length ns
  length-terms_from acc [] = omega arith
  length-terms_from acc (n ∷ ns) =
      omega (arith, length-terms_from (acc ++ term_of_node types C acc n ∷ []) ns, length-append acc (term_of_node types C acc n ∷ []))

  pub terms_from-get_or : (acc : List Read) (ns : List Node) (i : ℕ) (d : Read) → i < length acc → get_or (terms_from types C acc ns) i d ≡ get_or acc i d
  terms_from-get_or acc [] i d h = refl
  terms_from-get_or acc (n ∷ ns) i d h =
      terms_from-get_or (acc ++ term_of_node types C acc n ∷ []) ns i d (omega (arith, length-append acc (term_of_node types C acc n ∷ [])))
      ∙ get_or_append_left acc (term_of_node types C acc n ∷ []) d i h

  pub map-same : (xs ys : List Read) (j : ℕ) (ts : List TermId) → ((t : TermId) → t.0 < j → term_at types xs t ≡ term_at types ys t) → All (λ t. t.0 < j) ts → map (term_at types xs) ts ≡ map (term_at types ys) ts
  map-same xs ys j [] same h = refl
  map-same xs ys j (t ∷ ts) same h =
      ap (λ s. s ∷ map (term_at types xs) ts) (same t (All-head (λ t. t.0 < j) t ts h))
      ∙ ap (λ l. term_at types ys t ∷ l) (map-same xs ys j ts same (All-tail (λ t. t.0 < j) t ts h))

  -- a node reads alike in lists of terms that agree on what it names
  pub node-same : (xs ys : List Read) (j c : ℕ) (n : Node) → NodeNames j c n → ((t : TermId) → t.0 < j → term_at types xs t ≡ term_at types ys t) → term_of_node types C xs n ≡ term_of_node types C ys n
  node-same xs ys j c (Lam a x t) names same = ap (lam (type_of types a) x) (same t names)
  node-same xs ys j c (Spine h ts) names same = ap (λ l. spine (head_in types C h) (terms_of l)) (map-same xs ys j ts same names.1)

  at_from : (c : ℕ) (acc : List Read) (ns : List Node) (i m : ℕ) (d : Node) (e : Read) → i < length ns → m ≡ length acc + i → NodeNames m c (get_or ns i d)
      → get_or (terms_from types C acc ns) m e ≡ term_of_node types C (terms_from types C acc ns) (get_or ns i d)
  at_from c acc [] i m d e h place names = absurd (omega arith)
  at_from c acc (n ∷ ns) zero m d e h place names =
      let next = acc ++ term_of_node types C acc n ∷ [] in
      let len : length next ≡ length acc + 1 = length-append acc (term_of_node types C acc n ∷ []) in
      terms_from-get_or next ns m e (omega arith)
      ∙ get_or_push acc (term_of_node types C acc n) e m (omega arith)
      ∙ sym (node-same (terms_from types C next ns) acc m c n names (λ t l. terms_from-get_or next ns t.0 none (omega arith) ∙ get_or_append_left acc (term_of_node types C acc n ∷ []) none t.0 (omega arith)))
  at_from c acc (n ∷ ns) (suc i) m d e h place names =
      at_from c (acc ++ term_of_node types C acc n ∷ []) ns i m d e (omega arith) (omega (arith, length-append acc (term_of_node types C acc n ∷ []))) names

  -- the term at a place is what its node reads as
  pub terms_from-at : (c : ℕ) (ns : List Node) (t : TermId) (d : Node) → NodesNameEarlier c ns → t.0 < length ns
      → term_at types (terms_from types C [] ns) t ≡ term_of_node types C (terms_from types C [] ns) (get_or ns t.0 d)
  terms_from-at c ns t d names h = at_from c [] ns t.0 t.0 d none h (omega arith) (names t.0 d h)

  -- the first terms are those of the first nodes
  pub terms_from-take : (n : ℕ) (ns : List Node) (i : ℕ) (d : Read) → n ≤ length ns → i < n → get_or (terms_from types C [] (take n ns)) i d ≡ get_or (terms_from types C [] ns) i d
  terms_from-take n ns i d h l =
      sym (
      ap (λ l. get_or (terms_from types C [] l) i d) (sym (take-append-drop n ns))
      ∙ ap (λ l. get_or l i d) (terms_from-append [] (take n ns) (drop n ns))
      ∙ terms_from-get_or (terms_from types C [] (take n ns)) (drop n ns) i d (omega (arith, length-terms_from [] (take n ns), length-take-le n ns h))
      )

-- when cells are added
module _ (types : Table) (C D : List CellEntry) where
  head-more : (h : Head) → HeadNames (length C) h → head_in types (C ++ D) h ≡ head_in types C h
  head-more (Const k) names = refl
  head-more (Logic l) names = refl
  head-more (Nominal n a) names = refl
  head-more (Cell x) names = ap (λ (e : CellEntry). tree.variable (record { name = x.0; type = type_of types e.ty })) (get_or_append_left C D _ x.0 names)
  head-more (Index i) names = refl

  node-more : (xs : List Read) (j : ℕ) (n : Node) → NodeNames j (length C) n → term_of_node types (C ++ D) xs n ≡ term_of_node types C xs n
  node-more xs j (Lam a x t) names = refl
  node-more xs j (Spine h ts) names = ap (λ g. spine g (terms_of (map (term_at types xs) ts))) (head-more h names.0)

  pub terms_from-more : (acc : List Read) (ns : List Node) → ((j : ℕ) (d : Node) → j < length ns → (m : ℕ) × NodeNames m (length C) (get_or ns j d)) → terms_from types (C ++ D) acc ns ≡ terms_from types C acc ns
  terms_from-more acc [] names = refl
  terms_from-more acc (n ∷ ns) names =
      let first = names 0 n (omega arith) in
      ap (λ x. terms_from types (C ++ D) (acc ++ x ∷ []) ns) (node-more acc first.0 n first.1)
      ∙ terms_from-more (acc ++ term_of_node types C acc n ∷ []) ns (λ j d l. names (suc j) d (omega arith))

-- What holds of every tree: it holds where there is no id, and of a node where it holds of the trees that the node names.
each_push : {X : Type 0} (P : X → Type 0) (xs : List X) (x d : X) → ((i : ℕ) → P (get_or xs i d)) → P x → P d → (i : ℕ) → P (get_or (xs ++ x ∷ []) i d)
each_push P [] x d all h e zero = h
each_push P [] x d all h e (suc i) = e
each_push P (y ∷ xs) x d all h e zero = all 0
each_push P (y ∷ xs) x d all h e (suc i) = each_push P xs x d (λ j. all (suc j)) h e i

module _ (types : Table) (C : List CellEntry) (P : Read → Type 0) (base : P none)
    (step : (terms : List Read) (n : Node) → ((i : ℕ) → P (get_or terms i none)) → P (term_of_node types C terms n)) where
  each_from : (acc : List Read) (ns : List Node) → ((i : ℕ) → P (get_or acc i none)) → (i : ℕ) → P (get_or (terms_from types C acc ns) i none)
  each_from acc [] all = all
  each_from acc (n ∷ ns) all = each_from (acc ++ term_of_node types C acc n ∷ []) ns (each_push P acc (term_of_node types C acc n) none all (step acc n all) base)

  pub each_tree : (ns : List Node) (i : ℕ) → P (get_or (terms_from types C [] ns) i none)
  each_tree ns = each_from [] ns (λ i. base)
