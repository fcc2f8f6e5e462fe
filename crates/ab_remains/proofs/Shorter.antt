-- A world whose table is cut behind all that its nodes and cells name.
use Rattle.std.specs.Prelude.{All}
use Rattle.std.proofs.Common.{◌≡◌, ◌⊎◌, inl, inr, ℕ, ◌<◌, ◌≤◌, List, [], ◌∷◌, ◌++◌, Some, length, get_or, refl, sym, ◌∙◌, ap, subst, arith, append-nil, length-append}
use Rattle.std.proofs.lemmas.List.Elements.{All-weaker}
use Rattle.ab_store.specs.ab_types.specs.Entries.{Table, Constant, kinds, constants, type_in, signature, first_entries, IsExtendedBy}
use Rattle.ab_store.specs.ab_types.specs.Ids.{type_of, HoldsType, HoldsConstant}
use Rattle.ab_store.specs.ab_types.specs.LastTypes.{LosesTypes}
use Rattle.ab_store.specs.ab_types.specs.declared.ids.ConstId.{ConstId}
use Rattle.ab_store.specs.ab_types.proofs.Entries.{same_type, same_constant, holds_type, kinds-append, constants-append}
use Rattle.ab_store.specs.ab_types.proofs.Sorts.{extended_within, loses_twice, no_kind_went, no_constant_went}
use Rattle.ab_store.specs.declared.node.TermId.{TermId}
use Rattle.ab_store.specs.declared.node.CellId.{CellId}
use Rattle.ab_store.specs.declared.node.CellEntry.{CellEntry}
use Rattle.ab_store.specs.declared.mark.Mark.{Mark}
use Rattle.ab_store.specs.Marks.{HasMark}
use Rattle.ab_store.specs.Trees.{cell_of, tree_of}
use Rattle.ab_store.specs.Naming.{NodeIsTyped, IsTypedBy}
use Rattle.ab_store.specs.NamedTypes.{TypesBehind}
use Rattle.ab_store.proofs.Tables.{same_tree, node_typed}
use Rattle.ab_formulas.specs.CaseClauses.{IsWellKept}
use Rattle.ab_formulas.specs.Formulas.{IsFormula}
use Rattle.ab_formulas.specs.Programs.{IsProgramKept}
use Rattle.ab_formulas.specs.Declarations.{HaveSentences, HaveDefinitions}
use Rattle.ab_typing.specs.DefinitionReadings.{name_of, clause_of, HoldsClause}
use Rattle.ab_typing.specs.declared.definitions.ClauseTerm.{ClauseTerm}
use Rattle.ab_logic.specs.Worlds.{read, HoldsCell, variable_of, head_constant, declared, declared_from, declarations_of, CameInOrder, IsKept, IsKeptClause, IsWorld}
use Rattle.ab_logic.specs.WorldGrowth.{Grows}
use Rattle.ab_logic.specs.declared.world.World.{World}
use Rattle.ab_logic.specs.declared.additions.Added.{Added}
use Rattle.ab_logic.specs.declared.additions.Addition.{Addition}
use Rattle.ab_logic.specs.declared.additions.Addition.TheVariants.{Theorem, Definition, Clause}
use Rattle.ab_logic.proofs.Blocks.{same_clause, declared_more}
use Rattle.ab_logic.proofs.Declaring.{length-declared}
use Rattle.ab_logic.proofs.Growing.{grows_types, grows_on}
use Rattle.ab_remains.specs.LeftWorlds.{IsLeft}
use Rattle.ab_remains.proofs.Leaving.{node_before, cell_before}

below_or_not : (a b : ℕ) → (a < b) ⊎ (b ≤ a)
below_or_not a b = search arith

none_at_all : {X : Type 0} (xs : List X) → length xs ≡ 0 → xs ≡ []
none_at_all [] e = refl
none_at_all (x ∷ xs) e = absurd (omega (arith, e))

order_with : (s t : Table) → length (declared t) ≡ length (declared s) → (done : ℕ) (xs : List Added) → CameInOrder s done xs → CameInOrder t done xs
order_with s t same done [] order = omega (arith, order, same)
order_with s t same done (a ∷ xs) order = (order.0, order_with s t same a.before xs order.1)

-- a shorter table types the store of a world, if it types what stands behind a mark, and holds the table of the mark's world
pub typed_shorter : (e w : World) (m : Mark) (t : Table) → IsWorld e → HasMark e.store m → Grows e w → IsWorld w → IsExtendedBy e.types t → TypesBehind t m w.store → IsTypedBy t w.store
typed_shorter e w m t was has grows is part behind = record {
  earlier = is.typed.earlier;
  nodes = λ n d l. elim (below_or_not n m.nodes) [
    | inr h ↦ behind.nodes n d h l
    | inl h ↦
        let there : n < length e.store.nodes = omega (arith, h, has.nodes) in
        subst (NodeIsTyped t) (sym (node_before e w was grows n d there))
        (subst (λ u. NodeIsTyped u (get_or e.store.nodes n d)) (sym part.1) (node_typed e.types part.0 (get_or e.store.nodes n d) (was.typed.nodes n d there)))
  ];
  cells = λ n d l. elim (below_or_not n m.cells) [
    | inr h ↦ behind.cells n d h l
    | inl h ↦
        let there : n < length e.store.cells = omega (arith, h, has.cells) in
        subst (λ (c : CellEntry). HoldsType t c.ty) (sym (cell_before e w was grows n d there))
        (subst (λ u. HoldsType u (get_or e.store.cells n d).ty) (sym part.1) (holds_type e.types part.0 (get_or e.store.cells n d).ty (was.typed.cells n d there)))
  ];
  bindings = λ i x u. absurd (omega (arith, u, ap length is.unbound));
}

-- the world with the shorter table
module _ (w : World) (t : Table) (is : IsWorld w) (loses : LosesTypes w.types t) (typed : IsTypedBy t w.store) (begins : IsExtendedBy first_entries t) where
  abbrev pub shorter : World
  shorter = record { types = t; store = w.store; additions = w.additions }

  same_read : (id : TermId) → read w id ≡ read shorter id
  same_read id = ap (λ u. tree_of u w.store id) loses.front.1 ∙ same_tree t loses.front.0 w.store typed id

  same_cell : (c : CellId) → HoldsCell shorter c → variable_of w c ≡ variable_of shorter c
  same_cell c h =
      ap (λ A. record { number = c.0; type = A; name = (cell_of w.store c).hint })
      (ap (λ u. type_of u (cell_of w.store c).ty) loses.front.1 ∙ same_type t loses.front.0 (cell_of w.store c).ty (typed.cells c.0 _ h))

  same_signature : signature w.types ≡ signature t
  same_signature = ap type_in (sym loses.same_constants)

  same_name : (p : ConstId) → HoldsConstant t p → name_of w.types p ≡ name_of t p
  same_name p h = ap (λ u. name_of u p) loses.front.1 ∙ ap (λ (c : Constant). c.name) (same_constant t loses.front.0 p h)

  still_constant : (p : ConstId) → HoldsConstant w.types p → HoldsConstant t p
  still_constant p h = omega (arith, h, ap length loses.same_constants)

  still_held : (c : ClauseTerm) → HoldsClause w.types w.store c → HoldsClause t w.store c
  still_held c h = record { variables = h.variables; head = h.head; body = h.body }

  clause_reads : (c : ClauseTerm) → HoldsClause t w.store c → clause_of w.types w.store c ≡ clause_of t w.store c
  clause_reads = same_clause shorter w loses.front.0 loses.front.1 (λ id h. h) (λ id h. same_read id) (λ c h. h) same_cell

  kept_shorter : (what : Addition) → IsKept w.types w.store what → IsKept t w.store what
  kept_shorter (Theorem e) k = k
  kept_shorter (Definition b) k = record {
    predicates = All-weaker (HoldsConstant w.types) (HoldsConstant t) still_constant b.predicates k.predicates;
    clauses = All-weaker (IsKeptClause w.types w.store) (IsKeptClause t w.store) clause_kept b.clauses k.clauses;
  }
    where
      clause_kept : (c : ClauseTerm) → IsKeptClause w.types w.store c → IsKeptClause t w.store c
      clause_kept c kept = record {
        held = still_held c kept.held;
        well = subst (λ sg. IsWellKept sg (clause_of t w.store c)) same_signature (subst (IsWellKept (signature w.types)) (clause_reads c (still_held c kept.held)) kept.well);
        body = subst (λ sg. IsFormula sg (tree_of t w.store c.body)) same_signature (subst (IsFormula (signature w.types)) (same_read c.body) kept.body);
      }
  kept_shorter (Clause c p) k = (
    record {
      held = still_held c k.0.held;
      well = subst (λ sg. IsProgramKept sg (clause_of t w.store c)) same_signature (subst (IsProgramKept (signature w.types)) (clause_reads c (still_held c k.0.held)) k.0.well);
    },
    record {
      held = still_constant p k.1.held;
      is = ap head_constant (sym (same_read c.head)) ∙ k.1.is ∙ ap Some (same_name p (still_constant p k.1.held));
    },
  )

  all_shorter : All (λ (a : Added). IsKept t w.store a.what) w.additions
  all_shorter = All-weaker (λ (a : Added). IsKept w.types w.store a.what) (λ (a : Added). IsKept t w.store a.what) (λ a. kept_shorter a.what) w.additions is.additions

  as_many_declared : length (declared t) ≡ length (declared w.types)
  as_many_declared = omega (arith, length-declared t, length-declared w.types, ap length loses.same_kinds, ap length loses.same_constants)

  in_order : CameInOrder t 0 w.additions
  in_order = order_with w.types t as_many_declared 0 w.additions is.order

  nothing_gone : declared loses.front.0 ≡ []
  nothing_gone = none_at_all (declared loses.front.0) (omega (arith, length-declared loses.front.0, no_kind_went w.types t loses, no_constant_went w.types t loses))

  same_declared : declarations_of shorter ≡ declarations_of w
  same_declared =
      sym (declared_more shorter w loses.front.0 loses.front.1 (λ id h. h) (λ id h. same_read id) (λ c h. h) same_cell 0 w.additions in_order all_shorter
      ∙ ap (λ ds. declarations_of shorter ++ ds) nothing_gone
      ∙ append-nil (declarations_of shorter))

  shorter_is : IsWorld shorter
  shorter_is = record {
    begins = begins;
    typed = typed;
    unbound = is.unbound;
    additions = all_shorter;
    order = in_order;
    sentences = subst HaveSentences (sym same_declared) is.sentences;
    definitions = subst HaveDefinitions (sym same_declared) is.definitions;
  }

  pub shorter_left : IsLeft w shorter
  shorter_left = record {
    world = shorter_is;
    types = loses;
    additions = refl;
    declared = same_declared;
    reads = grows_types t w.types w.store w.additions shorter_is loses.front;
  }

  -- what stood before is left
  pub shorter_before : (e : World) → Grows e w → length e.types ≤ length t → Grows e shorter
  shorter_before e grows long = record {
    ids = grows.ids;
    readings = λ id h. sym (same_read id) ∙ grows.readings id h;
    cell_ids = grows.cell_ids;
    cells = λ c h. sym (same_cell c (grows.cell_ids c h)) ∙ grows.cells c h;
    types = extended_within e.types t w.types grows.types loses.front long;
    marks = grows.marks;
    additions = grows.additions;
    declarations = (grows.declarations.0, same_declared ∙ grows.declarations.1);
    world = shorter_is;
  }

-- what is left of what is left
pub left_twice : (u v w : World) → IsLeft u v → IsLeft v w → IsLeft u w
left_twice u v w a b = record {
  world = b.world;
  types = loses_twice u.types v.types w.types a.types b.types;
  additions = b.additions ∙ a.additions;
  declared = b.declared ∙ a.declared;
  reads = grows_on w v u b.reads a.reads;
}

-- a world that was one before, with the additions, and that declares the same, has a table that only types went from

module _ (v w : World) (is : IsWorld v) (grows : Grows v w) (additions : v.additions ≡ w.additions) (same : declarations_of v ≡ declarations_of w) where
  no_more : declared grows.types.0 ≡ []
  no_more =
      let more : declarations_of w ≡ declarations_of v ++ declared grows.types.0 =
      ap (declared_from w 0) (sym additions)
      ∙ declared_more v w grows.types.0 grows.types.1 grows.ids grows.readings grows.cell_ids grows.cells 0 v.additions is.order is.additions in
      none_at_all (declared grows.types.0) (omega (arith, ap length more, length-append (declarations_of v) (declared grows.types.0), ap length same))

  pub only_types_went : LosesTypes w.types v.types
  only_types_went =
      let count = length-declared grows.types.0 in
      let none_kinds : kinds grows.types.0 ≡ [] = none_at_all (kinds grows.types.0) (omega (arith, count, ap length no_more)) in
      let none_constants : constants grows.types.0 ≡ [] = none_at_all (constants grows.types.0) (omega (arith, count, ap length no_more)) in
      record {
        front = grows.types;
        same_kinds = sym (ap kinds grows.types.1 ∙ kinds-append v.types grows.types.0 ∙ ap (λ l. kinds v.types ++ l) none_kinds ∙ append-nil (kinds v.types));
        same_constants = sym (ap constants grows.types.1 ∙ constants-append v.types grows.types.0 ∙ ap (λ l. constants v.types ++ l) none_constants ∙ append-nil (constants v.types));
      }

-- its table types what is left behind a mark in a store that has no more nodes and cells
pub typed_still : (u v w : World) (m : Mark) → IsWorld u → IsWorld v → Grows u w → Grows v w → length u.store.nodes ≤ length v.store.nodes → length u.store.cells ≤ length v.store.cells → TypesBehind v.types m u.store
typed_still u v w m left is old grows nodes cells = record {
  nodes = λ n d low l.
      let there : n < length v.store.nodes = omega (arith, l, nodes) in
      subst (NodeIsTyped v.types) (sym (node_before v w is grows n d there) ∙ node_before u w left old n d l) (is.typed.nodes n d there);
  cells = λ n d low l.
      let there : n < length v.store.cells = omega (arith, l, cells) in
      subst (λ (c : CellEntry). HoldsType v.types c.ty) (sym (cell_before v w is grows n d there) ∙ cell_before u w left old n d l) (is.typed.cells n d there);
}
