-- `exists` over cells: one after another, and all closed at once and then quantified.
use Rattle.std.proofs.Common.{◌≡◌, ℕ, zero, suc, ◌+◌, ◌-◌, ◌<◌, List, [], ◌∷◌, ◌++◌, length, get_or, map, take, refl, sym, ap, ◌∙◌, arith}
use Rattle.std.proofs.lemmas.List.{length-map, take_more}
use Rattle.ab_term.specs.Logical.{existential}
use Rattle.ab_term.specs.Terms.{Variable, logical, variable, lam, spine, no_terms, term, terms_of, Read}
use Rattle.ab_term.specs.Abstraction.{close}
use Rattle.ab_norm.specs.ab_types.specs.Entries.{Table}
use Rattle.ab_norm.specs.ab_types.specs.Ids.{type_of}
use Rattle.ab_norm.specs.ab_types.specs.declared.ids.TypeId.{TypeId}
use Rattle.ab_norm.specs.ab_store.specs.declared.node.TermId.{TermId}
use Rattle.ab_norm.specs.ab_store.specs.declared.node.CellId.{CellId}
use Rattle.ab_norm.specs.ab_store.specs.declared.node.CellEntry.{CellEntry}
use Rattle.ab_norm.specs.ab_store.specs.Trees.{Contents, tree_of, cell_of, cell_in}
use Rattle.ab_norm.specs.ab_store.specs.Reading.{cell_variable}
use Rattle.ab_norm.specs.ab_store.specs.Growth.{IsExtendedBy}
use Rattle.ab_norm.specs.ab_store.specs.Naming.{IsTypedBy}
use Rattle.ab_norm.specs.ab_store.proofs.Growing.{extended_on}
use Rattle.ab_norm.specs.NodeGrowth.{AddsTerms}
use Rattle.ab_patterns.specs.Abstraction.{under_all}
use Rattle.ab_patterns.specs.Existentials.{exists_of, exists_over}

pub one_reads : (types : Table) (s0 s1 s2 : Contents) (cell : CellId) (ty : TypeId) (hint : List ℕ) (closed abstraction r : TermId) (args : List TermId)
    → ty ≡ (cell_of s0 cell).ty → hint ≡ (cell_of s0 cell).hint
    → tree_of types s1 abstraction ≡ lam (type_of types ty) hint (tree_of types s0 closed)
    → args ≡ abstraction ∷ []
    → tree_of types s2 r ≡ spine (logical (existential (type_of types ty))) (terms_of (map (tree_of types s1) args))
    → tree_of types s2 r ≡ exists_of types s0 cell (tree_of types s0 closed)
one_reads types s0 s1 s2 cell ty hint closed abstraction r args type_is hint_is made are outer =
    outer
    ∙ ap (λ l. spine (logical (existential (type_of types ty))) (terms_of (map (tree_of types s1) l))) are
    ∙ ap (λ t. spine (logical (existential (type_of types ty))) (term t no_terms)) made
    ∙ ap (λ A. spine (logical (existential (type_of types A))) (term (lam (type_of types A) hint (tree_of types s0 closed)) no_terms)) type_is
    ∙ ap (λ x. spine (logical (existential (type_of types (cell_of s0 cell).ty))) (term (lam (type_of types (cell_of s0 cell).ty) x (tree_of types s0 closed)) no_terms)) hint_is

module _ (types : Table) (s0 : Contents) where
  abbrev the : CellId → Variable ℕ
  the c = cell_variable types s0 c

  -- over a formula in which the cells are bound names already
  abbrev pub each : List CellId → Read → Read
  each [] t = t
  each (c ∷ cs) t = exists_of types s0 c (each cs t)

  close_each : (k : ℕ) (x : Variable ℕ) (cs : List CellId) (t : Read) → close k (variable x) (each cs t) ≡ each cs (close (k + length cs) (variable x) t)
  close_each k x [] t = let same : k ≡ k + 0 = omega arith in ap (λ j. close j (variable x) t) same
  close_each k x (c ∷ cs) t =
      let same : suc k + length cs ≡ k + suc (length cs) = omega arith in
      ap (exists_of types s0 c) (close_each (suc k) x cs t ∙ ap (λ j. each cs (close j (variable x) t)) same)

  at_once : (cs : List CellId) (t : Read) → each cs (under_all 0 (map the cs) t) ≡ exists_over types s0 cs t
  at_once [] t = refl
  at_once (c ∷ cs) t =
      let inner = under_all 0 (map the cs) t in
      let many : 0 + length (map the cs) ≡ 0 + length cs = omega (arith, length-map cs the) in
      ap (exists_of types s0 c)
      (ap (λ n. each cs (close n (variable (the c)) inner)) many
      ∙ sym (close_each zero (the c) cs inner)
      ∙ ap (close zero (variable (the c))) (at_once cs t))

  pub all_over : (s1 : Contents) (cells : List CellId) (body closed : TermId) → tree_of types s1 closed ≡ under_all 0 (map the cells) (tree_of types s0 body)
      → each cells (tree_of types s1 closed) ≡ exists_over types s0 cells (tree_of types s0 body)
  all_over s1 cells body closed reads = ap (each cells) reads ∙ at_once cells (tree_of types s0 body)

  -- one cell more, behind those that are still to come
  pub one_over : (s1 s2 : Contents) (cells : List CellId) (done n : ℕ) (cell d : CellId) (here r : TermId) (answer : Read) → s1.cells ≡ s0.cells → done < length cells → n ≡ length cells - 1 - done → cell ≡ get_or cells n d
      → each (take (length cells - done) cells) (tree_of types s1 here) ≡ answer
      → tree_of types s2 r ≡ exists_of types s1 cell (tree_of types s1 here)
      → each (take (length cells - (done + 1)) cells) (tree_of types s2 r) ≡ answer
  one_over s1 s2 cells done n cell d here r answer same l n_is at before made =
      let within : n < length cells = omega (arith, n_is, l) in
      let next : length cells - done ≡ n + 1 = omega (arith, n_is, l) in
      let now : length cells - (done + 1) ≡ n = omega (arith, n_is, l) in
      let t = tree_of types s1 here in
      ap (λ k. each (take k cells) (tree_of types s2 r)) now
      ∙ ap (each (take n cells))
      (made
      ∙ ap (λ (es : List CellEntry). let A = type_of types (cell_in es cell).ty in spine (logical (existential A)) (term (lam A (cell_in es cell).hint t) no_terms)) same
      ∙ ap (λ c. exists_of types s0 c t) at)
      ∙ sym (each_push (take n cells) (get_or cells n d) t)
      ∙ ap (λ cs. each cs t) (sym (take_more cells n d within))
      ∙ ap (λ k. each (take k cells) t) (sym next)
      ∙ before
    where
      each_push : (cs : List CellId) (c : CellId) (t : Read) → each (cs ++ c ∷ []) t ≡ each cs (exists_of types s0 c t)
      each_push [] c t = refl
      each_push (b ∷ cs) c t = ap (exists_of types s0 b) (each_push cs c t)

-- one term more, of whatever table the first store is of
pub adds_next : (s0 s1 s2 : Contents) → AddsTerms s0 s1 → IsExtendedBy s1 s2 → s2.cells ≡ s1.cells → ((types : Table) → IsTypedBy types s0 → IsTypedBy types s1 → IsTypedBy types s2) → AddsTerms s0 s2
adds_next s0 s1 s2 first before cells typed = record {
  before = extended_on s0 s1 s2 first.before before;
  cells = cells ∙ first.cells;
  typed = λ types h. typed types h (first.typed types h);
}
