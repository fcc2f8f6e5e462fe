-- A world while cells are bound: what stays as it goes on.
use Rattle.std.specs.List.{All}
use Rattle.std.proofs.Common.{◌≡◌, ◌<◌, List, [], ◌++◌, map, length, refl, sym, ◌∙◌, ap, subst, append-nil}
use Rattle.std.proofs.lemmas.List.Elements.{All-weaker}
use Rattle.ab_norm.specs.ab_types.specs.Entries as table
use Rattle.ab_norm.specs.ab_types.specs.Entries.{Table}
use Rattle.ab_norm.specs.ab_types.specs.Ids.{type_of}
use Rattle.ab_norm.specs.ab_types.proofs.Entries.{extended_by_itself}
use Rattle.ab_norm.specs.ab_store.specs.declared.node.TermId.{TermId}
use Rattle.ab_norm.specs.ab_store.specs.declared.node.CellId.{CellId}
use Rattle.ab_norm.specs.ab_store.specs.declared.node.CellEntry.{CellEntry}
use Rattle.ab_norm.specs.ab_store.specs.Trees.{Contents, cell_of}
use Rattle.ab_norm.specs.ab_store.specs.declared.mark.Mark.{Mark}
use Rattle.ab_norm.specs.ab_store.specs.Marks.{HasMark, KeepsMark}
use Rattle.ab_norm.specs.ab_store.specs.Growth.{IsExtendedBy}
use Rattle.ab_norm.specs.ab_store.proofs.Agreeing.{alike}
use Rattle.ab_norm.specs.ab_store.specs.Naming.{IsTypedBy}
use Rattle.ab_norm.specs.NodeGrowth.{AddsTerms}
use Rattle.ab_unify.specs.StoreChanges.{Grows}
use Rattle.ab_unify.proofs.Growth.{grows_none, grows_on}
use Rattle.ab_unify.proofs.Put.{put_grows}
use Rattle.ab_logic.specs.Worlds.{read, Holds, HoldsCell, variable_of, declared_from, declarations_of, IsKept, IsWorld}
use Rattle.ab_logic.specs.SequentReadings.{hypothesis_of, sequent_of, HoldsSequent}
use Rattle.ab_logic.specs.declared.world.World.{World}
use Rattle.ab_logic.specs.declared.additions.Added.{Added}
use Rattle.ab_logic.specs.declared.sequent.Sequent.{Sequent as Kept}
use Rattle.ab_logic.specs.declared.sequent.Hypothesis.{Hypothesis}
use Rattle.ab_logic.proofs.Blocks.{all_kept, declared_more, order_more}
use Rattle.ab_logic.proofs.Growing.{map_same}
use Rattle.ab_equations.specs.Meanwhile.{IsMeanwhile, GoesOn}

pub world_meanwhile : (w : World) → IsWorld w → IsMeanwhile w
world_meanwhile w is = record { begins = is.begins; typed = is.typed; additions = is.additions; order = is.order }

-- goals read as before, where their terms and cells do
module _ (w v : World) (ids : (t : TermId) → Holds w t → Holds v t) (reads : (t : TermId) → Holds w t → read v t ≡ read w t)
    (cell_ids : (c : CellId) → HoldsCell w c → HoldsCell v c) (cells : (c : CellId) → HoldsCell w c → variable_of v c ≡ variable_of w c) where
  pub same_by : (s : Kept) → HoldsSequent w s → sequent_of v s ≡ sequent_of w s
  same_by s h =
      let xs = map_same (variable_of v) (variable_of w) (HoldsCell w) cells s.variables h.variables in
      let hs = map_same (hypothesis_of v) (hypothesis_of w) (λ (x : Hypothesis). Holds w x.formula) (λ x held. ap (λ t. record { name = x.name; formula = t }) (reads x.formula held)) s.hypotheses h.hypotheses in
      let c = reads s.conclusion h.conclusion in
      ap (λ zs. record { variables = zs; hypotheses = map (hypothesis_of v) s.hypotheses; conclusion = read v s.conclusion; counter = s.counter }) xs
      ∙ ap (λ zs. record { variables = map (variable_of w) s.variables; hypotheses = zs; conclusion = read v s.conclusion; counter = s.counter }) hs
      ∙ ap (λ t. record { variables = map (variable_of w) s.variables; hypotheses = map (hypothesis_of w) s.hypotheses; conclusion = t; counter = s.counter }) c

  pub held_by : (s : Kept) → HoldsSequent w s → HoldsSequent v s
  held_by s h = record {
    variables = All-weaker (HoldsCell w) (HoldsCell v) cell_ids s.variables h.variables;
    hypotheses = All-weaker (λ (x : Hypothesis). Holds w x.formula) (λ (x : Hypothesis). Holds v x.formula) (λ x. ids x.formula) s.hypotheses h.hypotheses;
    conclusion = ids s.conclusion h.conclusion;
  }

-- a cell as a variable
pub variable_same : (w v : World) (c : CellId) → v.types ≡ w.types → cell_of v.store c ≡ cell_of w.store c → variable_of v c ≡ variable_of w c
variable_same w v c types cell =
    ap (λ (e : CellEntry). record { number = c.0; type = type_of v.types e.ty; name = e.hint }) cell
    ∙ ap (λ (t : Table). record { number = c.0; type = type_of t (cell_of w.store c).ty; name = (cell_of w.store c).hint }) types

module _ (w v : World) (goes : GoesOn w v) where
  pub goes_ids : (t : TermId) → Holds w t → Holds v t
  goes_ids t h = (goes.grows.trees t h).0

  pub goes_reads : (t : TermId) → Holds w t → read v t ≡ read w t
  goes_reads t h = (goes.grows.trees t h).1

  pub goes_cell_ids : (c : CellId) → HoldsCell w c → HoldsCell v c
  goes_cell_ids c h = (goes.grows.cells c h).0

  pub goes_cells : (c : CellId) → HoldsCell w c → variable_of v c ≡ variable_of w c
  goes_cells c h = variable_same w v c goes.types (goes.grows.cells c h).1

  pub same_goal : (s : Kept) → HoldsSequent w s → sequent_of v s ≡ sequent_of w s
  same_goal = same_by w v goes_ids goes_reads goes_cell_ids goes_cells

  pub still_goal : (s : Kept) → HoldsSequent w s → HoldsSequent v s
  still_goal = held_by w v goes_ids goes_reads goes_cell_ids goes_cells

  module _ (is : IsMeanwhile w) where
    none_more : v.types ≡ w.types ++ []
    none_more = goes.types ∙ sym (append-nil w.types)

    pub still_meanwhile : IsMeanwhile v
    still_meanwhile = record {
      begins = subst (table.IsExtendedBy table.first_entries) (sym goes.types) is.begins;
      typed = goes.grows.typed;
      additions =
          subst (λ (xs : List Added). All (λ (a : Added). IsKept v.types v.store a.what) xs) (sym goes.additions)
          (all_kept w v [] none_more goes_ids goes_reads goes_cell_ids goes_cells w.additions is.additions);
      order = rw goes.additions (order_more w v [] none_more goes_ids goes_reads goes_cell_ids goes_cells 0 w.additions is.order);
    }

    pub same_declarations : declarations_of v ≡ declarations_of w
    same_declarations =
        ap (declared_from v 0) goes.additions
        ∙ declared_more w v [] none_more goes_ids goes_reads goes_cell_ids goes_cells 0 w.additions is.order is.additions
        ∙ append-nil (declarations_of w)

pub goes_not : (w : World) → IsMeanwhile w → GoesOn w w
goes_not w is = record { types = refl; additions = refl; grows = grows_none w.types w.store is.typed }

pub goes_on : (u v w : World) → GoesOn u v → GoesOn v w → GoesOn u w
goes_on u v w a b = record {
  types = b.types ∙ a.types;
  additions = b.additions ∙ a.additions;
  grows = grows_on u.types v.types w.types u.store v.store w.store a.grows b.grows;
}

-- terms and cells more
pub grows_extended : (types : Table) (s t : Contents) → IsExtendedBy s t → IsTypedBy types t → Grows types s types t
grows_extended types s t e typed = record {
  table = extended_by_itself types;
  kinds = refl;
  constants = refl;
  typed = typed;
  trees = λ r h. (e.ids r h, e.trees types r h);
  cells = λ c h. (e.cell_ids c h, e.cells c h);
  marks = λ m h. e.marks m h;
}

pub goes_extended : (w v : World) → v.types ≡ w.types → v.additions ≡ w.additions → IsExtendedBy w.store v.store → IsTypedBy v.types v.store → GoesOn w v
goes_extended w v types additions e typed = record {
  types = types;
  additions = additions;
  grows = subst (λ T. Grows w.types w.store T v.store) (sym types) (grows_extended w.types w.store v.store e (subst (λ T. IsTypedBy T v.store) types typed));
}

-- a binding more
pub goes_put : (types : Table) (old new : Contents) (ts : List Added) → IsTypedBy types new → new.nodes ≡ old.nodes → new.cells ≡ old.cells → ((m : Mark) → HasMark old m → KeepsMark old new m)
    → GoesOn (record { types = types; store = old; additions = ts }) (record { types = types; store = new; additions = ts })
goes_put types old new ts typed nodes cells marks =
    let same = alike old new (length old.nodes) (length old.cells) nodes cells in
    record {
      types = refl;
      additions = refl;
      grows = put_grows types old new typed (λ t h. (subst (λ ns. t.0 < length ns) (sym nodes) h, same.trees types t h)) cells marks;
    }

pub goes_terms : (types : Table) (old new : Contents) (ts : List Added) → IsTypedBy types old → AddsTerms old new
    → GoesOn (record { types = types; store = old; additions = ts }) (record { types = types; store = new; additions = ts })
goes_terms types old new ts typed adds = record { types = refl; additions = refl; grows = grows_extended types old new adds.before (adds.typed types typed) }
