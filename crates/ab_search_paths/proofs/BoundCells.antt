-- A cell that is bound, once there is room for that: what was there stays.
use Rattle.std.proofs.Common.{◌≡◌, ◌<◌, [], length, false, sym, ◌∙◌, ap, subst}
use Rattle.std.proofs.lemmas.Bool.{false≢true}
use Rattle.ab_norm.specs.ab_types.specs.Entries.{Table}
use Rattle.ab_norm.specs.ab_types.specs.Ids.{type_of}
use Rattle.ab_norm.specs.ab_store.specs.declared.node.TermId.{TermId}
use Rattle.ab_norm.specs.ab_store.specs.declared.node.CellId.{CellId}
use Rattle.ab_norm.specs.ab_store.specs.declared.mark.Mark.{Mark}
use Rattle.ab_norm.specs.ab_store.specs.Trees.{Contents, Holds, HoldsCell, cell_of, tree_of}
use Rattle.ab_norm.specs.ab_store.specs.Reading.{cell_variable}
use Rattle.ab_norm.specs.ab_store.specs.Bindings.{StandsIn}
use Rattle.ab_norm.specs.ab_store.specs.Growth.{IsExtendedBy}
use Rattle.ab_norm.specs.ab_store.specs.Marks.{HasMark, KeepsMark}
use Rattle.ab_norm.specs.ab_store.specs.Naming.{IsTypedBy, IsTerm}
use Rattle.ab_norm.specs.ab_store.proofs.Marking.{kept_on}
use Rattle.ab_norm.specs.NodeGrowth.{AddsTerms}
use Rattle.ab_norm.proofs.Frame.{typed_from, typed_more}
use Rattle.ab_unifiers.specs.Replacements.{occurs}
use Rattle.ab_patterns.proofs.Bound.{same_cell, same_nodes, still_term}
use Rattle.ab_patterns.proofs.Standing.{stands_holds}
use Rattle.ab_unify.specs.StoreChanges.{Grows}
use Rattle.ab_unify.proofs.Growth.{grows_terms, grows_on}
use Rattle.ab_unify.proofs.Put.{put_grows}

-- terms alone were added
pub copied : (T : Table) (S R : Contents) → IsTypedBy T S → AddsTerms S R → Grows T S T R
copied T S R typed adds = grows_terms T S R (typed_from T S R adds typed)

module _ (T : Table) (S R X : Contents) (typed : IsTypedBy T S) (adds : AddsTerms S R) (more : IsExtendedBy R X) (cells : X.cells ≡ R.cells) (room : (U : Table) → IsTypedBy U R → IsTypedBy U X) where
  -- and then room was made
  pub roomy : Grows T S T X
  roomy = grows_terms T S X (typed_more T S R X adds.before adds.cells more cells (room T (adds.typed T typed)))

  -- a cell that doesn't occur in a term doesn't stand in it
  pub not_standing : (c : CellId) (t : TermId) → Holds R t → occurs (cell_variable T R c) (tree_of T R t) ≡ false → ¬ StandsIn X c t
  not_standing c t held e stands =
      false≢true (sym e
      ∙ ap (occurs (cell_variable T R c)) (sym (more.trees T t held))
      ∙ ap (λ y. occurs y (tree_of T X t)) (sym (same_cell T R X c cells))
      ∙ stands_holds T X c t stands)

  -- the copy is of the type of the cell
  pub fits : (c : CellId) → HoldsCell S c → (t : TermId) → IsTerm T R [] t (type_of T (cell_of S c).ty) → IsTerm T X [] t (type_of T (cell_of X c).ty)
  fits c held t is =
      subst (IsTerm T X [] t) (sym (ap (λ d. type_of T d.ty) (more.cells c (adds.before.cell_ids c held) ∙ adds.before.cells c held))) (still_term T R X more [] t (type_of T (cell_of S c).ty) is)

  -- and the cell was bound to it
  pub grown : (V : Contents) → IsTypedBy T V → V.nodes ≡ X.nodes → V.cells ≡ X.cells → ((m : Mark) → HasMark X m → KeepsMark X V m) → Grows T S T V
  grown V now nodes same marks =
      grows_on T T T S R V (copied T S R typed adds)
      (put_grows T R V now (λ t h. (subst (λ ns. t.0 < length ns) (sym nodes) (more.ids t h), same_nodes T X V t nodes same ∙ more.trees T t h)) (same ∙ cells) (λ m h. let k = more.marks m h in kept_on R X V m k (marks m k.has)))
