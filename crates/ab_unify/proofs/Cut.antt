-- A store that is cut back to where it was, and what is said of the answers that leave it otherwise.
use Rattle.std.proofs.Common.{◌≡◌, ◌<◌, ◌≤◌, List, take, length, true, false, Result, Ok, Err, IfOk, sym, ◌∙◌, ap, subst, arith, take_all}
use Rattle.ab_norm.specs.ab_types.specs.Entries.{Table}
use Rattle.ab_norm.specs.ab_store.specs.declared.node.Node.{Node}
use Rattle.ab_norm.specs.ab_store.specs.declared.node.TermId.{TermId}
use Rattle.ab_norm.specs.ab_store.specs.declared.node.CellId.{CellId}
use Rattle.ab_norm.specs.ab_store.specs.declared.node.CellEntry.{CellEntry}
use Rattle.ab_norm.specs.ab_store.specs.declared.mark.Mark.{Mark}
use Rattle.ab_norm.specs.ab_store.specs.Trees.{Contents, Holds, cell_in, tree_of}
use Rattle.ab_norm.specs.ab_store.specs.Marks.{HasMark, KeepsMark, IsNoLater, at_mark}
use Rattle.ab_norm.specs.ab_store.specs.Naming.{IsTypedBy}
use Rattle.ab_norm.specs.ab_store.proofs.Marking.{kept_on}
use Rattle.ab_norm.specs.ab_store.proofs.Tables.{still_typed, same_tree}
use Rattle.ab_unify.specs.StoreChanges.{Grows}
use Rattle.ab_unify.proofs.Growth.{whole, has_whole}
use Rattle.ab_unify.specs.declared.answers.Solved.{Solved}
use Rattle.ab_unify.specs.declared.answers.Solved.TheVariants.{Unified, Apart, Stuck}
use Rattle.ab_unify.specs.UnifyAnswers.{IfUnified, UnlessUnified, IsAsBefore}
use Rattle.ab_unify.specs.States.{unified_is}

module _ {E : Type 0} (P : Solved → Type 0) (Q : List CellId → Type 0) where
  -- what is known of each answer, at Unified
  pub unified_case : (r : Result Solved E) → IfOk r P → ((made : List CellId) → P (Unified made) → Q made) → IfUnified r Q
  unified_case (Ok (Unified made)) p f = f made p
  unified_case (Ok Apart) p f = tt
  unified_case (Ok (Stuck place)) p f = tt
  unified_case (Err e) p f = tt

pub not_unified : {E : Type 0} (r : Result Solved E) (Q : List CellId → Type 0) → unified_is r ≡ false → IfUnified r Q
not_unified (Ok (Unified made)) Q e = absurd (cc)
not_unified (Ok Apart) Q e = tt
not_unified (Ok (Stuck place)) Q e = tt
not_unified (Err e) Q f = tt

pub is_unified : {E : Type 0} (r : Result Solved E) (P : Type 0) → unified_is r ≡ true → UnlessUnified r P
is_unified (Ok (Unified made)) P e = tt
is_unified (Ok Apart) P e = absurd (cc)
is_unified (Ok (Stuck place)) P e = absurd (cc)
is_unified (Err e) P f = absurd (cc)

pub otherwise : {E : Type 0} (r : Result Solved E) (P : Type 0) → P → UnlessUnified r P
otherwise (Ok (Unified made)) P p = tt
otherwise (Ok Apart) P p = p
otherwise (Ok (Stuck place)) P p = p
otherwise (Err e) P p = p

-- as many bindings as before
pub bindings_stay : (T U : Table) (S V : Contents) → IsTypedBy T S → Grows T S U V → length S.bindings ≤ length V.bindings
bindings_stay T U S V typed g = (g.marks (whole S) (has_whole T S typed)).has.bindings

module _ (T U : Table) (S V X : Contents) (m : Mark) (typed : IsTypedBy T S) (g : Grows T S U V) (has : HasMark S m)
    (bindings : m.bindings ≡ length S.bindings) (nodes : m.nodes ≡ length S.nodes) (cells : m.cells ≡ length S.cells)
    (cut_bindings : X.bindings ≡ take m.bindings V.bindings) (cut_nodes : X.nodes ≡ take m.nodes V.nodes) (cut_cells : X.cells ≡ take m.cells V.cells) where
  same : at_mark V m ≡ at_mark S m
  same = (g.marks m has).same

  same_nodes : X.nodes ≡ S.nodes
  same_nodes = cut_nodes ∙ ap (λ u. u.nodes) same ∙ take_all m.nodes S.nodes (omega (arith, nodes))

  same_cells : X.cells ≡ S.cells
  same_cells = cut_cells ∙ ap (λ u. u.cells) same ∙ take_all m.cells S.cells (omega (arith, cells))

  same_bindings : X.bindings ≡ S.bindings
  same_bindings = cut_bindings ∙ ap (λ u. u.bindings) same ∙ take_all m.bindings S.bindings (omega (arith, bindings))

  pub cut_as_before : IsAsBefore S X
  cut_as_before = (same_nodes, same_cells, same_bindings)

  tree_as_before : (t : TermId) → Holds S t → tree_of U X t ≡ tree_of T S t
  tree_as_before t h =
      ap (λ (ns : List Node). tree_of U (record { nodes = ns; cells = X.cells; bindings = S.bindings; room = 0 }) t) same_nodes
      ∙ ap (λ (cs : List CellEntry). tree_of U (record { nodes = S.nodes; cells = cs; bindings = S.bindings; room = 0 }) t) same_cells
      ∙ ap (λ (W : Table). tree_of W S t) g.table.1
      ∙ same_tree T g.table.0 S typed t

  -- THE STORE AGAIN, for a table that has grown
  pub cut_grows : ((types : Table) → IsTypedBy types S → IsTypedBy types (at_mark S m)) → ((types : Table) → IsTypedBy types (at_mark V m) → IsTypedBy types X) → ((k : Mark) → HasMark V k → IsNoLater k m → KeepsMark V X k) → Grows T S U X
  cut_grows at_typed cut_typed cut_marks = record {
    table = g.table;
    kinds = g.kinds;
    constants = g.constants;
    typed = cut_typed U (subst (IsTypedBy U) (sym same) (at_typed U (subst (λ W. IsTypedBy W S) (sym g.table.1) (still_typed T g.table.0 S typed))));
    trees = λ t h. (subst (λ (ns : List Node). t.0 < length ns) (sym same_nodes) h, tree_as_before t h);
    cells = λ c h. (subst (λ (cs : List CellEntry). c.0 < length cs) (sym same_cells) h, ap (λ (cs : List CellEntry). cell_in cs c) same_cells);
    marks = λ k h. kept_on S V X k (g.marks k h) (cut_marks k (g.marks k h).has (omega (arith, h.bindings, bindings), omega (arith, h.nodes, nodes), omega (arith, h.cells, cells)));
  }
