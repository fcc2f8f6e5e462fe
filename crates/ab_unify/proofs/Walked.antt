-- Which cells of a term might be replaced when a change began: those that may be now, and those that are bound.
use Rattle.std.proofs.Common.{◌≡◌, ℕ, ◌<◌, inl, List, [], ◌∷◌, length, get_or, Bool, true, false, ◌||◌, Option, Some, None, is_some, refl, sym, ◌∙◌, ap, subst}
use Rattle.std.specs.Prelude.{Contains}
use Rattle.std.proofs.lemmas.Bool.{false≢true}
use Rattle.std.proofs.lemmas.List.Elements.{Contains-append_left}
use Rattle.ab_term.specs.Terms as tree
use Rattle.ab_term.specs.Terms.{Variable, Terms, spine, Read}
use Rattle.ab_term.specs.Variables.{variables, variables_of_all}
use Rattle.ab_term.proofs.Lists.{Contains-here, Contains-map}
use Rattle.ab_norm.specs.ab_types.specs.Entries.{Table}
use Rattle.ab_norm.specs.ab_store.specs.declared.node.TermId.{TermId}
use Rattle.ab_norm.specs.ab_store.specs.declared.node.CellId.{CellId}
use Rattle.ab_norm.specs.ab_store.specs.declared.node.Head.{Head}
use Rattle.ab_norm.specs.ab_store.specs.declared.node.Head.TheVariants.{Const, Logic, Nominal, Cell, Index}
use Rattle.ab_norm.specs.ab_store.specs.declared.node.Node.{Node}
use Rattle.ab_norm.specs.ab_store.specs.declared.node.Node.TheVariants.{Lam, Spine}
use Rattle.ab_norm.specs.ab_store.specs.Trees.{Contents, Holds, tree_of, node_tree, head_reading}
use Rattle.ab_norm.specs.ab_store.specs.Reading.{binding_of, cell_variable}
use Rattle.ab_norm.specs.ab_store.specs.Naming.{NodeNames, IsTypedBy}
use Rattle.ab_norm.specs.ab_store.proofs.Nodes.{terms_from-at}
use Rattle.ab_patterns.specs.ab_unifiers.specs.Replacements.{Change, holds}
use Rattle.ab_patterns.specs.ab_unifiers.proofs.Agreeing.{contains_holds}
use Rattle.ab_unify.specs.Problem.{variables_read}
use Rattle.ab_unify.specs.StoreChanges.{IsFree, Changed, AllUnbound}
use Rattle.ab_unify.specs.Pruning.{HeadIsFree}
use Rattle.ab_unify.proofs.Growth.{grown_variable}
use Rattle.ab_unify.proofs.Pruned.{listed_if}

-- the head of a term of a store, where it is a cell, is one of the store's
module _ (T : Table) (S : Contents) (typed : IsTypedBy T S) (y : Variable ℕ) (us : Terms ℕ (List ℕ)) where
  in_node : (nodes : ℕ) (n : Node) → NodeNames nodes (length S.cells) n → node_tree T S n ≡ spine (tree.variable y) us → y.name < length S.cells
  in_node nodes (Lam a x t) names e = absurd (cc)
  in_node nodes (Spine (Const c) ts) names e = absurd (cc)
  in_node nodes (Spine (Logic l) ts) names e = absurd (cc)
  in_node nodes (Spine (Nominal i a) ts) names e = absurd (cc)
  in_node nodes (Spine (Cell d) ts) names e = let one : d.0 ≡ y.name = ap (λ (v : Variable ℕ). v.name) (let same : cell_variable T S d ≡ y = cc in same) in subst (λ n. n < length S.cells) one names.0
  in_node nodes (Spine (Index i) ts) names e = absurd (cc)

  pub head_held : (t : TermId) → Holds S t → tree_of T S t ≡ spine (tree.variable y) us → y.name < length S.cells
  head_held t held e =
      let d : Node = Spine (Index 0) [] in
      in_node t.0 (get_or S.nodes t.0 d) (typed.earlier t.0 d held) (sym (terms_from-at T S.cells (length S.cells) S.nodes t d typed.earlier held) ∙ e)

module _ (T : Table) (S : Contents) (F : List CellId) (c : Change (List ℕ)) (types : Table) (store : Contents) (flexible : List CellId) (was : Changed T S F c types store flexible) where
  pub cell_was : (d : CellId) → IsFree S d → (holds (variables_read types store flexible) (cell_variable types store d) || is_some (binding_of store d)) ≡ holds (variables_read T S F) (cell_variable types store d)
  cell_was d free = go (holds (variables_read types store flexible) (cell_variable types store d)) refl (binding_of store d) refl (holds (variables_read T S F) (cell_variable types store d)) refl
    where
      same : cell_variable types store d ≡ cell_variable T S d
      same = grown_variable T types S store was.grows was.start d free.0

      begun : holds (variables_read T S F) (cell_variable types store d) ≡ true → Contains F d
      begun e = listed_if T S F d (ap (holds (variables_read T S F)) (sym same) ∙ e)

      not_begun : holds (variables_read T S F) (cell_variable types store d) ≡ false → ¬ Contains F d
      not_begun e m = false≢true (sym e ∙ ap (holds (variables_read T S F)) same ∙ contains_holds (variables_read T S F) (cell_variable T S d) (Contains-map (cell_variable T S) F d m))

      go : (a : Bool) → holds (variables_read types store flexible) (cell_variable types store d) ≡ a → (o : Option TermId) → binding_of store d ≡ o → (b : Bool) → holds (variables_read T S F) (cell_variable types store d) ≡ b → (a || is_some o) ≡ b
      go true e o f true g = refl
      go true e o f false g = absurd ((was.others d free (not_begun g)).1 (listed_if types store flexible d e))
      go false e None f true g =
          let m = was.left d ((was.grows.cells d free.0).0, f) (inl (begun g)) in
          absurd (false≢true (sym e ∙ contains_holds (variables_read types store flexible) (cell_variable types store d) (Contains-map (cell_variable types store) flexible d m)))
      go false e None f false g = refl
      go false e (Some t) f true g = refl
      go false e (Some t) f false g = let unbound = (was.others d free (not_begun g)).0.1 in absurd (cc)

  -- the head of a term without bound cells
  pub head_free : (t : TermId) → Holds S t → AllUnbound S (tree_of T S t) → (h : Head) (us : Terms ℕ (List ℕ)) → tree_of T S t ≡ spine (head_reading types store h) us → HeadIsFree S h
  head_free t held clear (Const k) us e = tt
  head_free t held clear (Logic l) us e = tt
  head_free t held clear (Nominal i a) us e = tt
  head_free t held clear (Cell d) us e = (
    head_held T S was.start (cell_variable types store d) us t held e,
    clear (cell_variable types store d) (subst (λ (u : Read). Contains (variables u) (cell_variable types store d)) (sym e) (Contains-append_left (cell_variable types store d ∷ []) (variables_of_all us) (cell_variable types store d) (Contains-here (cell_variable types store d) []))),
  )
  head_free t held clear (Index i) us e = tt
