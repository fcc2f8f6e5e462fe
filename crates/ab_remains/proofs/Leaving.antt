-- A world that is cut by a mark, where the mark counts what its additions name.
use Rattle.std.specs.Prelude.{All, Option, Some, None, unwrap_or, option_map}
use Rattle.std.specs.List.{AllWithin}
use Rattle.std.proofs.Common.{◌≡◌, ◌⊎◌, inl, inr, ℕ, suc, ◌+◌, ◌-◌, ◌<◌, ◌≤◌, [], length, take, get_or, refl, sym, ◌∙◌, ap, subst, arith, append-nil, length-take-le, take-take, take_all}
use Rattle.std.proofs.lemmas.List.{get_or-take, get_or_append_left, length-take}
use Rattle.std.proofs.lemmas.List.Elements.{All-weaker}
use Rattle.ab_store.specs.ab_types.specs.Entries.{Table, signature}
use Rattle.ab_store.specs.ab_types.specs.Ids.{type_of}
use Rattle.ab_store.specs.declared.node.TermId.{TermId}
use Rattle.ab_store.specs.declared.node.CellId.{CellId}
use Rattle.ab_store.specs.declared.node.Node.{Node}
use Rattle.ab_store.specs.declared.node.CellEntry.{CellEntry}
use Rattle.ab_store.specs.declared.mark.Mark.{Mark}
use Rattle.ab_store.specs.Marks.{HasMark, KeepsMark, IsNoLater, at_mark, cell_in_node, cells_in_node, no_node}
use Rattle.ab_store.specs.Trees.{Contents, tree_of}
use Rattle.ab_store.specs.Growth.{IsExtendedBy}
use Rattle.ab_store.specs.Naming.{NodeNames, NodesNameEarlier, IsTypedBy}
use Rattle.ab_store.proofs.Agreeing.{alike}
use Rattle.ab_store.proofs.Growing.{unbound_reads}
use Rattle.ab_store.proofs.Marking.{keeps, kept_on, agrees}
use Rattle.ab_store.proofs.Wholes.{cell_there}
use Rattle.ab_formulas.specs.CaseClauses.{IsWellKept}
use Rattle.ab_formulas.specs.Formulas.{IsFormula}
use Rattle.ab_formulas.specs.Programs.{IsProgramKept}
use Rattle.ab_formulas.specs.Declarations.{HaveSentences, HaveDefinitions}
use Rattle.ab_typing.specs.DefinitionReadings.{clause_of, HoldsClause}
use Rattle.ab_typing.specs.declared.definitions.ClauseTerm.{ClauseTerm}
use Rattle.ab_logic.specs.Worlds.{Holds, HoldsCell, variable_of, head_constant, declarations_of, IsKept, IsKeptClause, IsWorld}
use Rattle.ab_logic.specs.WorldGrowth.{Grows}
use Rattle.ab_logic.specs.declared.world.World.{World}
use Rattle.ab_logic.specs.declared.additions.Added.{Added}
use Rattle.ab_logic.specs.declared.additions.Addition.{Addition}
use Rattle.ab_logic.specs.declared.additions.Addition.TheVariants.{Theorem, Definition, Clause}
use Rattle.ab_logic.proofs.Blocks.{same_clause, declared_more}
use Rattle.ab_logic.proofs.Growing.{grows_store}
use Rattle.ab_remains.specs.RaisedMarks.{Reaches}
use Rattle.ab_remains.specs.NamedThings.{HoldsAddition}
use Rattle.ab_remains.specs.LeftWorlds.{IsCounted, IsLeft}

below_or_not : (a b : ℕ) → (a < b) ⊎ (b ≤ a)
below_or_not a b = search arith

-- the store that is left
module _ (old new : Contents) (m : Mark) (has : HasMark old m) (unbound : old.bindings ≡ [])
    (nodes : new.nodes ≡ take m.nodes old.nodes) (cells : new.cells ≡ take m.cells old.cells) (bindings : new.bindings ≡ take m.bindings old.bindings)
    (room : new.room ≡ old.room + (length old.bindings - m.bindings)) where
  pub many_nodes : length new.nodes ≡ m.nodes
  many_nodes = ap length nodes ∙ length-take-le m.nodes old.nodes has.nodes

  pub many_cells : length new.cells ≡ m.cells
  many_cells = ap length cells ∙ length-take-le m.cells old.cells has.cells

  pub left_unbound : new.bindings ≡ []
  left_unbound = bindings ∙ take_all m.bindings old.bindings (omega (arith, ap length unbound)) ∙ unbound

  same_trees : (types : Table) (t : TermId) → t.0 < length new.nodes → tree_of types old t ≡ tree_of types new t
  same_trees types t h =
      let low : t.0 < m.nodes = omega (arith, h, many_nodes) in
      sym ((alike (at_mark old m) new m.nodes m.cells nodes cells).trees types t low ∙ (agrees old m has).trees types t low)

  left_marks : (k : Mark) → HasMark new k → KeepsMark new old k
  left_marks k had =
      let low : k.nodes ≤ m.nodes = omega (arith, had.nodes, many_nodes) in
      let low_cells : k.cells ≤ m.cells = omega (arith, had.cells, many_cells) in
      keeps new old k had
      (omega (arith, had.bindings, ap length left_unbound))
      (omega (arith, low, has.nodes))
      (omega (arith, low_cells, has.cells))
      (ap (take k.bindings) (unbound ∙ sym left_unbound))
      (sym (ap (take k.nodes) nodes ∙ take-take k.nodes m.nodes old.nodes low))
      (sym (ap (take k.cells) cells ∙ take-take k.cells m.cells old.cells low_cells))

  pub front_extended : IsExtendedBy new old
  front_extended = record {
    ids = λ t h. omega (arith, h, many_nodes, has.nodes);
    trees = same_trees;
    readings = λ types t h. unbound_reads old unbound types t ∙ same_trees types t h ∙ sym (unbound_reads new left_unbound types t);
    cell_ids = λ c h. omega (arith, h, many_cells, has.cells);
    cells = λ c h.
        let low : c.0 < m.cells = omega (arith, h, many_cells) in
        let none : CellEntry = record { hint = []; ty = record { 0 = 0 } } in
        sym (ap (λ l. get_or l c.0 none) cells ∙ get_or-take m.cells old.cells c.0 none low);
    bindings = unbound ∙ sym left_unbound;
    room = omega (arith, room, ap length unbound);
    marks = left_marks;
  }

-- the world that is left
module _ (w : World) (s : Contents) (is : IsWorld w) (typed : IsTypedBy w.types s) (unbound : s.bindings ≡ []) (front : IsExtendedBy s w.store)
    (held : All (λ (a : Added). HoldsAddition (record { types = w.types; store = s; additions = w.additions }) a.what) w.additions) where
  abbrev left_world : World
  left_world = record { types = w.types; store = s; additions = w.additions }

  same_cell : (c : CellId) → HoldsCell left_world c → variable_of w c ≡ variable_of left_world c
  same_cell c h = ap (λ (k : CellEntry). record { number = c.0; type = type_of w.types k.ty; name = k.hint }) (front.cells c h)

  clause_reads : (c : ClauseTerm) → HoldsClause w.types s c → clause_of w.types w.store c ≡ clause_of w.types s c
  clause_reads = same_clause left_world w [] (sym (append-nil w.types)) front.ids (front.trees w.types) front.cell_ids same_cell

  kept_left : (what : Addition) → IsKept w.types w.store what → HoldsAddition left_world what → IsKept w.types s what
  kept_left (Theorem e) k h = h
  kept_left (Definition b) k h = record {
    predicates = k.predicates;
    clauses = λ i d l. clause_left (get_or b.clauses i d) (k.clauses i d l) (h i d l);
  }
    where
      clause_left : (c : ClauseTerm) → IsKeptClause w.types w.store c → HoldsClause w.types s c → IsKeptClause w.types s c
      clause_left c kept there = record {
        held = there;
        well = subst (IsWellKept (signature w.types)) (clause_reads c there) kept.well;
        body = subst (IsFormula (signature w.types)) (front.trees w.types c.body there.body) kept.body;
      }
  kept_left (Clause c p) k h = (
    record { held = h; well = subst (IsProgramKept (signature w.types)) (clause_reads c h) k.0.well },
    record { held = k.1.held; is = ap head_constant (sym (front.trees w.types c.head h.head)) ∙ k.1.is },
  )

  all_left : All (λ (a : Added). IsKept w.types s a.what) w.additions
  all_left i d l = kept_left (get_or w.additions i d).what (is.additions i d l) (held i d l)

  same_declared : declarations_of left_world ≡ declarations_of w
  same_declared =
      sym (declared_more left_world w [] (sym (append-nil w.types)) front.ids (front.trees w.types) front.cell_ids same_cell 0 w.additions is.order all_left
      ∙ append-nil (declarations_of left_world))

  left_is : IsWorld left_world
  left_is = record {
    begins = is.begins;
    typed = typed;
    unbound = unbound;
    additions = all_left;
    order = is.order;
    sentences = subst HaveSentences (sym same_declared) is.sentences;
    definitions = subst HaveDefinitions (sym same_declared) is.definitions;
  }

  pub world_left : IsLeft w (record { types = w.types; store = s; additions = w.additions })
  world_left = record {
    world = left_is;
    types = record { front = ([], sym (append-nil w.types)); same_kinds = refl; same_constants = refl };
    additions = refl;
    declared = same_declared;
    reads = grows_store w.types s w.store w.additions left_is front is.typed;
  }

-- what stood before is left
pub left_before : (e w v : World) (m whole : Mark) (n : ℕ) → IsWorld e → IsCounted e m n → Grows e w → IsLeft w v → v.types ≡ w.types → Reaches v m → HasMark w.store whole → IsNoLater m whole
    → ((k : Mark) → HasMark w.store k → IsNoLater k whole → KeepsMark w.store v.store k) → Grows e v
left_before e w v m whole n is counted grows left same reaches has later keeps_marks =
    let there : (t : TermId) → Holds e t → Holds v t = λ t h. omega (arith, h, counted.nodes, reaches.0) in
    let cell_there : (c : CellId) → HoldsCell e c → HoldsCell v c = λ c h. omega (arith, h, counted.cells, reaches.1) in
    record {
      ids = there;
      readings = λ t h. sym (left.reads.readings t (there t h)) ∙ grows.readings t h;
      cell_ids = cell_there;
      cells = λ c h. sym (left.reads.cells c (cell_there c h)) ∙ grows.cells c h;
      types = (grows.types.0, same ∙ grows.types.1);
      marks = λ k had.
          let kept = grows.marks k had in
          kept_on e.store w.store v.store k kept
          (keeps_marks k kept.has (omega (arith, had.bindings, ap length is.unbound), omega (arith, had.nodes, counted.nodes, later.1), omega (arith, had.cells, counted.cells, later.2)));
      additions = (grows.additions.0, left.additions ∙ grows.additions.1);
      declarations = (grows.declarations.0, left.declared ∙ grows.declarations.1);
      world = left.world;
    }

-- what an addition names is there in a world that has as many nodes and cells
still_added : (e v : World) → ((t : TermId) → Holds e t → Holds v t) → ((c : CellId) → HoldsCell e c → HoldsCell v c) → (what : Addition) → HoldsAddition e what → HoldsAddition v what
still_added e v ids cells (Theorem x) h = ids x.formula h
still_added e v ids cells (Definition b) h = All-weaker (HoldsClause e.types e.store) (HoldsClause v.types v.store) clause_there b.clauses h
  where
    clause_there : (c : ClauseTerm) → HoldsClause e.types e.store c → HoldsClause v.types v.store c
    clause_there c k = record { variables = All-weaker (HoldsCell e) (HoldsCell v) cells c.variables k.variables; head = ids c.head k.head; body = ids c.body k.body }
still_added e v ids cells (Clause c h) k = record { variables = All-weaker (HoldsCell e) (HoldsCell v) cells c.variables k.variables; head = ids c.head k.head; body = ids c.body k.body }

kept_held : (w : World) (what : Addition) → IsKept w.types w.store what → HoldsAddition w what
kept_held w (Theorem x) k = k
kept_held w (Definition b) k = All-weaker (IsKeptClause w.types w.store) (HoldsClause w.types w.store) (λ c h. h.held) b.clauses k.clauses
kept_held w (Clause c h) k = k.0.held

pub world_holds : (w : World) → IsWorld w → All (λ (a : Added). HoldsAddition w a.what) w.additions
world_holds w is = All-weaker (λ (a : Added). IsKept w.types w.store a.what) (λ (a : Added). HoldsAddition w a.what) (λ a. kept_held w a.what) w.additions is.additions

pub additions_held : (e w v : World) (m : Mark) (n : ℕ) → IsWorld e → IsCounted e m n → Grows e w → Reaches v m
    → AllWithin (λ (a : Added). HoldsAddition v a.what) w.additions n (length w.additions) → All (λ (a : Added). HoldsAddition v a.what) w.additions
additions_held e w v m n is counted grows reaches rest i d l = elim (below_or_not i n) [
  | inr h ↦ rest i d h l
  | inl h ↦
      let there : i < length e.additions = omega (arith, h, counted.additions) in
      let same : get_or w.additions i d ≡ get_or e.additions i d = ap (λ xs. get_or xs i d) grows.additions.1 ∙ get_or_append_left e.additions grows.additions.0 d i there in
      subst (λ (a : Added). HoldsAddition v a.what) (sym same)
      (still_added e v (λ t k. omega (arith, k, counted.nodes, reaches.0)) (λ c k. omega (arith, k, counted.cells, reaches.1)) (get_or e.additions i d).what (world_holds e is i d there))
]

-- no world that was one before and holds as much has fewer nodes and cells

-- the nodes and cells of a world that was one before

module _ (v w : World) (is : IsWorld v) (grows : Grows v w) where
  abbrev whole_mark : Mark
  whole_mark = record { bindings = 0; nodes = length v.store.nodes; cells = length v.store.cells }

  has_whole : HasMark v.store whole_mark
  has_whole = record {
    bindings = omega arith;
    nodes = omega arith;
    cells = omega arith;
    nodes_name = subst (NodesNameEarlier (length v.store.cells)) (sym (take_all (length v.store.nodes) v.store.nodes (omega arith))) is.typed.earlier;
    bindings_name = λ i x u. absurd (omega (arith, u, length-take 0 v.store.bindings));
  }

  pub node_before : (n : ℕ) (d : Node) → n < length v.store.nodes → get_or w.store.nodes n d ≡ get_or v.store.nodes n d
  node_before n d l =
      sym (get_or-take (length v.store.nodes) w.store.nodes n d l)
      ∙ ap (λ xs. get_or xs n d) (ap (λ (s : Contents). s.nodes) (grows.marks whole_mark has_whole).same ∙ take_all (length v.store.nodes) v.store.nodes (omega arith))

  pub cell_before : (n : ℕ) (d : CellEntry) → n < length v.store.cells → get_or w.store.cells n d ≡ get_or v.store.cells n d
  cell_before n d l =
      sym (get_or-take (length v.store.cells) w.store.cells n d l)
      ∙ ap (λ xs. get_or xs n d) (ap (λ (s : Contents). s.cells) (grows.marks whole_mark has_whole).same ∙ take_all (length v.store.cells) v.store.cells (omega arith))

few_cells : (v : World) (j : ℕ) (n : Node) → NodeNames j (length v.store.cells) n → cells_in_node n ≤ length v.store.cells
few_cells v j n names = by_cell (cell_in_node n) refl
  where
    by_cell : (o : Option CellId) → cell_in_node n ≡ o → cells_in_node n ≤ length v.store.cells
    by_cell None e = omega (arith, ap (λ (o : Option CellId). unwrap_or (option_map (λ (c : CellId). suc c.0) o) 0) e)
    by_cell (Some c) e = omega (arith, ap (λ (o : Option CellId). unwrap_or (option_map (λ (c : CellId). suc c.0) o) 0) e, cell_there v.store j n c names e)

pub cells_needed : (v w : World) (n nodes : ℕ) → IsWorld v → Grows v w → nodes ≤ length v.store.nodes → n < nodes → cells_in_node (get_or w.store.nodes n no_node) ≤ length v.store.cells
cells_needed v w n nodes is grows long l =
    let there : n < length v.store.nodes = omega (arith, l, long) in
    subst (λ x. cells_in_node x ≤ length v.store.cells) (sym (node_before v w is grows n no_node there))
    (few_cells v n (get_or v.store.nodes n no_node) (is.typed.earlier n no_node there))
