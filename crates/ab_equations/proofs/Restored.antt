-- The world in the end: no cell is bound, and all reads as before.
use Rattle.std.specs.List.{All}
use Rattle.std.proofs.Common.{◌≡◌, ◌<◌, ◌≤◌, List, [], ◌∷◌, ◌++◌, map, length, take, refl, sym, ◌∙◌, ap, subst, arith, append-nil, length-append, take_all}
use Rattle.std.proofs.lemmas.List.Elements.{All-head, All-tail}
use Rattle.ab_norm.specs.ab_types.specs.Entries.{Table, a_kind, a_type, a_constant, kinds, constants, first_entries, IsExtendedBy as IsPartOf}
use Rattle.ab_norm.specs.ab_types.specs.Ids.{HoldsType, type_of}
use Rattle.ab_norm.specs.ab_types.proofs.Entries.{kinds-append, constants-append, same_type}
use Rattle.ab_norm.specs.ab_store.specs.declared.node.TermId.{TermId}
use Rattle.ab_norm.specs.ab_store.specs.declared.node.CellId.{CellId}
use Rattle.ab_norm.specs.ab_store.specs.declared.node.CellEntry.{CellEntry}
use Rattle.ab_norm.specs.ab_store.specs.declared.mark.Mark.{Mark}
use Rattle.ab_norm.specs.ab_store.specs.declared.node.Node.{Node}
use Rattle.ab_formulas.specs.Sequents.{Sequent}
use Rattle.ab_norm.specs.ab_store.specs.Trees.{Contents, cell_of}
use Rattle.ab_norm.specs.ab_store.specs.Marks.{HasMark, KeepsMark}
use Rattle.ab_norm.specs.ab_store.specs.Naming.{IsTypedBy}
use Rattle.ab_norm.specs.ab_store.proofs.Agreeing.{Agree, alike}
use Rattle.ab_norm.specs.ab_store.proofs.Marking.{kept_on}
use Rattle.ab_unify.specs.Problem.{cell_read, cells_read}
use Rattle.ab_unify.specs.StoreChanges.{Grows}
use Rattle.ab_unify.proofs.Growth.{grown_type}
use Rattle.ab_formulas.specs.Declarations.{HaveSentences, HaveDefinitions}
use Rattle.ab_logic.specs.Worlds.{read, Holds, HoldsCell, variable_of, declared, declared_from, declarations_of, CameInOrder, IsKept, IsWorld}
use Rattle.ab_logic.specs.SequentReadings.{sequent_of, HoldsSequent}
use Rattle.ab_logic.specs.WorldGrowth as world
use Rattle.ab_logic.specs.declared.world.World.{World}
use Rattle.ab_logic.specs.declared.additions.Added.{Added}
use Rattle.ab_logic.specs.declared.sequent.Sequent.{Sequent as Kept}
use Rattle.ab_logic.proofs.Declaring.{sentences_declared, definitions_declared}
use Rattle.ab_logic.proofs.Blocks.{all_kept, declared_more, order_more}
use Rattle.ab_logic.proofs.Growing.{still_begins}
use Rattle.ab_equations.specs.Meanwhile.{IsMeanwhile, ComesBack}
use Rattle.ab_equations.proofs.Going.{same_by, held_by, world_meanwhile}

-- entries that are types declare nothing
empty : {X : Type 0} (xs ys : List X) → xs ++ ys ≡ xs → ys ≡ []
empty xs [] e = refl
empty xs (y ∷ ys) e = let long = length-append xs (y ∷ ys) in absurd (omega (arith, long, ap length e))

types_alone : (more : Table) → kinds more ≡ [] → constants more ≡ [] → declared more ≡ []
types_alone [] k c = refl
types_alone (a_kind n ∷ more) k c = absurd (cc)
types_alone (a_type A ∷ more) k c = types_alone more k c
types_alone (a_constant n ∷ more) k c = absurd (cc)

module _ (w v : World) (is : IsMeanwhile w) (g : Grows w.types w.store v.types v.store) (additions : v.additions ≡ w.additions) where
  ids : (t : TermId) → Holds w t → Holds v t
  ids t h = (g.trees t h).0

  reads : (t : TermId) → Holds w t → read v t ≡ read w t
  reads t h = (g.trees t h).1

  cell_ids : (c : CellId) → HoldsCell w c → HoldsCell v c
  cell_ids c h = (g.cells c h).0

  cells : (c : CellId) → HoldsCell w c → variable_of v c ≡ variable_of w c
  cells c h =
      ap (λ A. record { number = c.0; type = A; name = (cell_of v.store c).hint }) (grown_type w.types v.types w.store v.store g is.typed c h)
      ∙ ap (λ (e : CellEntry). record { number = c.0; type = type_of w.types (cell_of w.store c).ty; name = e.hint }) (g.cells c h).1

  D : declarations_of v ≡ declarations_of w ++ declared g.table.0
  D = ap (declared_from v 0) additions ∙ declared_more w v g.table.0 g.table.1 ids reads cell_ids cells 0 w.additions is.order is.additions

  pub goal_same : (s : Kept) → HoldsSequent w s → sequent_of v s ≡ sequent_of w s
  goal_same = same_by w v ids reads cell_ids cells

  pub goal_held : (s : Kept) → HoldsSequent w s → HoldsSequent v s
  goal_held = held_by w v ids reads cell_ids cells

  pub declarations_same : declarations_of v ≡ declarations_of w
  declarations_same =
      D
      ∙ ap (λ ds. declarations_of w ++ ds)
      (types_alone g.table.0
      (empty (kinds w.types) (kinds g.table.0) (sym (kinds-append w.types g.table.0) ∙ ap kinds (sym g.table.1) ∙ g.kinds))
      (empty (constants w.types) (constants g.table.0) (sym (constants-append w.types g.table.0) ∙ ap constants (sym g.table.1) ∙ g.constants)))
      ∙ append-nil (declarations_of w)

  additions_there : All (λ (a : Added). IsKept v.types v.store a.what) v.additions
  additions_there =
      subst (λ (xs : List Added). All (λ (a : Added). IsKept v.types v.store a.what) xs) (sym additions)
      (all_kept w v g.table.0 g.table.1 ids reads cell_ids cells w.additions is.additions)

  in_order : CameInOrder v.types 0 v.additions
  in_order = rw additions (order_more w v g.table.0 g.table.1 ids reads cell_ids cells 0 w.additions is.order)

  begins_there : IsPartOf first_entries v.types
  begins_there = still_begins w.types v.types is.begins g.table

  pub then_meanwhile : IsMeanwhile v
  then_meanwhile = record { begins = begins_there; typed = g.typed; additions = additions_there; order = in_order }

  -- a world again, where no cell is bound
  pub again : HaveSentences (declarations_of w) → HaveDefinitions (declarations_of w) → v.store.bindings ≡ [] → world.Grows w v
  again sentences definitions bindings = record {
    ids = ids;
    readings = reads;
    cell_ids = cell_ids;
    cells = cells;
    types = g.table;
    marks = g.marks;
    additions = ([], additions ∙ sym (append-nil w.additions));
    declarations = (declared g.table.0, D);
    world = record {
      begins = begins_there;
      typed = g.typed;
      unbound = bindings;
      additions = additions_there;
      order = in_order;
      sentences = rw D (sentences_declared (declarations_of w) g.table.0 sentences);
      definitions = rw D (definitions_declared (declarations_of w) g.table.0 definitions);
    };
  }

-- what was bound since the start is undone
module _ (T U : Table) (S V X : Contents) (g : Grows T S U V) (m : Mark) (has : HasMark S m) (start : m.bindings ≡ length S.bindings)
    (nodes : X.nodes ≡ V.nodes) (cells : X.cells ≡ V.cells) (bindings : X.bindings ≡ take m.bindings V.bindings) (typed : IsTypedBy U X)
    (marks : (k : Mark) → HasMark V k → k.bindings ≤ m.bindings → KeepsMark V X k) where
  agree : Agree V X (length V.nodes) (length V.cells)
  agree = alike V X (length V.nodes) (length V.cells) nodes cells

  pub undone_grows : Grows T S U X
  undone_grows = record {
    table = g.table;
    kinds = g.kinds;
    constants = g.constants;
    typed = typed;
    trees = λ t h. let there = g.trees t h in (subst (λ ns. t.0 < length ns) (sym nodes) there.0, agree.trees U t there.0 ∙ there.1);
    cells = λ c h. let there = g.cells c h in (subst (λ cs. c.0 < length cs) (sym cells) there.0, agree.cells c there.0 ∙ there.1);
    marks = λ k h. let kept = g.marks k h in let least = h.bindings in kept_on S V X k kept (marks k kept.has (omega (arith, least, start)));
  }

  -- so just those cells are bound that were
  pub undone_bindings : X.bindings ≡ S.bindings
  undone_bindings = bindings ∙ ap (λ (s : Contents). s.bindings) (g.marks m has).same ∙ take_all m.bindings S.bindings (omega (arith, start))

-- a goal reads the same where nodes and cells are the same
pub same_alike : (x v : World) → v.types ≡ x.types → v.store.nodes ≡ x.store.nodes → v.store.cells ≡ x.store.cells → (s : Kept) → sequent_of v s ≡ sequent_of x s
same_alike x v types nodes cells s =
    let over : Table → List Node → List CellEntry → Sequent = λ T ns cs. sequent_of (record { types = T; store = record { nodes = ns; cells = cs; bindings = v.store.bindings; room = v.store.room }; additions = v.additions }) s in
    ap (λ T. over T v.store.nodes v.store.cells) types
    ∙ ap (λ ns. over x.types ns v.store.cells) nodes
    ∙ ap (λ cs. over x.types x.store.nodes cs) cells

-- where no cell was bound, a call that comes back leaves a world
pub came_back : (w v : World) → IsWorld w → ComesBack w v → world.Grows w v
came_back w v is back = again w v (world_meanwhile w is) back.grows back.additions is.sentences is.definitions (back.bindings ∙ is.unbound)

pub back_meanwhile : (w v : World) → IsMeanwhile w → ComesBack w v → IsMeanwhile v
back_meanwhile w v is back = then_meanwhile w v is back.grows back.additions

pub back_declared : (w v : World) → IsMeanwhile w → ComesBack w v → declarations_of v ≡ declarations_of w
back_declared w v is back = declarations_same w v is back.grows back.additions

-- the same cells read the same in a larger table
cells_stay : (T more : Table) (cs : List CellEntry) → All (λ (c : CellEntry). HoldsType T c.ty) cs → map (cell_read (T ++ more)) cs ≡ map (cell_read T) cs
cells_stay T more [] all = refl
cells_stay T more (c ∷ cs) all =
    ap (λ A. record { hint = c.hint; type = A } ∷ map (cell_read (T ++ more)) cs) (same_type T more c.ty (All-head (λ (c : CellEntry). HoldsType T c.ty) c cs all))
    ∙ ap (λ l. cell_read T c ∷ l) (cells_stay T more cs (All-tail (λ (c : CellEntry). HoldsType T c.ty) c cs all))

pub same_cells_read : (T U : Table) (S V : Contents) → IsTypedBy T S → IsPartOf T U → V.cells ≡ S.cells → cells_read U V ≡ cells_read T S
same_cells_read T U S V typed part same =
    ap (map (cell_read U)) same
    ∙ ap (λ X. map (cell_read X) S.cells) part.1
    ∙ cells_stay T part.0 S.cells typed.cells
