-- How a world grows: by its store, by its types, step by step.
use Rattle.std.specs.List.{All}
use Rattle.std.proofs.Common.{◌≡◌, ℕ, arith, List, [], ◌∷◌, ◌++◌, map, length, refl, sym, ◌∙◌, ap, subst, append_assoc, append-nil}
use Rattle.std.proofs.lemmas.List.Elements.{All-nil, All-head, All-tail, All-weaker, All-push}
use Rattle.ab_store.specs.ab_types.specs.Entries as table
use Rattle.ab_store.specs.ab_types.specs.Entries.{Table, signature, first_entries}
use Rattle.ab_store.specs.ab_types.specs.Ids.{type_of}
use Rattle.ab_store.specs.ab_types.specs.declared.ids.ConstId.{ConstId}
use Rattle.ab_store.specs.ab_types.proofs.Entries.{same_type}
use Rattle.ab_store.specs.declared.node.TermId.{TermId}
use Rattle.ab_store.specs.declared.node.CellId.{CellId}
use Rattle.ab_store.specs.declared.node.CellEntry.{CellEntry}
use Rattle.ab_store.specs.declared.mark.Mark.{Mark}
use Rattle.ab_store.specs.Marks.{HasMark, KeepsMark}
use Rattle.ab_store.specs.Trees.{Contents, cell_of}
use Rattle.ab_store.specs.Growth.{IsExtendedBy}
use Rattle.ab_store.specs.Naming.{IsTypedBy}
use Rattle.ab_store.proofs.Marking.{kept_itself, kept_on}
use Rattle.ab_store.proofs.Tables.{same_tree, still_typed}
use Rattle.ab_typing.specs.declared.definitions.Block.{Block}
use Rattle.ab_typing.specs.declared.definitions.ClauseTerm.{ClauseTerm}
use Rattle.ab_formulas.specs.Declarations.{signature_in, IsDefining, HaveSentences, HaveDefinitions}
use Rattle.ab_formulas.specs.Formulas.{IsSentence}
use Rattle.ab_logic.specs.Worlds.{read, Holds, HoldsCell, variable_of, declared, definition_of, declaration_of, declared_from, declarations_of, IsKeptBlock, IsKeptProgramClause, IsHeadOf, clause_read, IsKept, IsWorld}
use Rattle.ab_logic.specs.SequentReadings.{hypothesis_of, sequent_of, HoldsSequent}
use Rattle.ab_logic.specs.WorldGrowth.{Grows}
use Rattle.ab_logic.specs.declared.world.World.{World}
use Rattle.ab_logic.specs.declared.additions.Added.{Added}
use Rattle.ab_logic.specs.declared.additions.Addition.TheVariants.{Theorem, Definition, Clause}
use Rattle.ab_logic.specs.declared.additions.TheoremEntry.{TheoremEntry}
use Rattle.ab_logic.specs.declared.sequent.Sequent.{Sequent as Kept}
use Rattle.ab_logic.specs.declared.sequent.Hypothesis.{Hypothesis}
use Rattle.ab_formulas.proofs.Declaring.{sentences_added, sentences_defined, sentences_clause, definitions_added, definitions_defined, definitions_clause, extends_not, extends_on}
use Rattle.ab_logic.proofs.Declaring.{constants_are, theorem-declared, block-declared, declared_added, order_added, sentences_declared, definitions_declared}
use Rattle.ab_logic.proofs.Blocks.{all_kept, declared_more, order_more, block_defines}

pub grows_not : (w : World) → IsWorld w → Grows w w
grows_not w is = record {
  ids = λ t h. h;
  readings = λ t h. refl;
  cell_ids = λ c h. h;
  cells = λ c h. refl;
  types = ([], sym (append-nil w.types));
  marks = λ m has. kept_itself w.store m has;
  additions = ([], sym (append-nil w.additions));
  declarations = extends_not (declarations_of w);
  world = is;
}

pub grows_on : (u v w : World) → Grows u v → Grows v w → Grows u w
grows_on u v w a b = record {
  ids = λ t h. b.ids t (a.ids t h);
  readings = λ t h. b.readings t (a.ids t h) ∙ a.readings t h;
  cell_ids = λ c h. b.cell_ids c (a.cell_ids c h);
  cells = λ c h. b.cells c (a.cell_ids c h) ∙ a.cells c h;
  types = (a.types.0 ++ b.types.0, b.types.1 ∙ ap (λ x. x ++ b.types.0) a.types.1 ∙ append_assoc u.types a.types.0 b.types.0);
  marks = λ m has. let kept = a.marks m has in kept_on u.store v.store w.store m kept (b.marks m kept.has);
  additions = (a.additions.0 ++ b.additions.0, b.additions.1 ∙ ap (λ x. x ++ b.additions.0) a.additions.1 ∙ append_assoc u.additions a.additions.0 b.additions.0);
  declarations = extends_on (declarations_of u) (declarations_of v) (declarations_of w) a.declarations b.declarations;
  world = b.world;
}

pub still_begins : (old new : Table) → table.IsExtendedBy first_entries old → table.IsExtendedBy old new → table.IsExtendedBy first_entries new
still_begins old new begins part =
    (begins.0 ++ part.0, part.1 ∙ ap (λ es. es ++ part.0) begins.1 ∙ append_assoc first_entries begins.0 part.0)

-- any world with more types and more terms, where these read as before
grown : (w v : World) (more : Table) → IsWorld w → v.types ≡ w.types ++ more → v.additions ≡ w.additions
    → ((t : TermId) → Holds w t → Holds v t) → ((t : TermId) → Holds w t → read v t ≡ read w t)
    → ((c : CellId) → HoldsCell w c → HoldsCell v c) → ((c : CellId) → HoldsCell w c → variable_of v c ≡ variable_of w c)
    → IsTypedBy v.types v.store → v.store.bindings ≡ w.store.bindings → ((m : Mark) → HasMark w.store m → KeepsMark w.store v.store m) → Grows w v
grown w v more is types additions ids reads cell_ids cells typed bindings marks =
    let D : declarations_of v ≡ declarations_of w ++ declared more =
    ap (declared_from v 0) additions ∙ declared_more w v more types ids reads cell_ids cells 0 w.additions is.order is.additions in
    record {
      ids = ids;
      readings = reads;
      cell_ids = cell_ids;
      cells = cells;
      types = (more, types);
      marks = marks;
      additions = ([], additions ∙ sym (append-nil w.additions));
      declarations = (declared more, D);
      world = record {
        begins = still_begins w.types v.types is.begins (more, types);
        typed = typed;
        unbound = bindings ∙ is.unbound;
        additions =
            subst (λ (xs : List Added). All (λ (a : Added). IsKept v.types v.store a.what) xs) (sym additions)
            (all_kept w v more types ids reads cell_ids cells w.additions is.additions);
        order = rw additions (order_more w v more types ids reads cell_ids cells 0 w.additions is.order);
        sentences = rw D (sentences_declared (declarations_of w) more is.sentences);
        definitions = rw D (definitions_declared (declarations_of w) more is.definitions);
      };
    }

pub grows_store : (types : Table) (old new : Contents) (xs : List Added) → IsWorld (record { types = types; store = old; additions = xs }) → IsExtendedBy old new → IsTypedBy types new
    → Grows (record { types = types; store = old; additions = xs }) (record { types = types; store = new; additions = xs })
grows_store types old new xs is e typed =
    grown (record { types = types; store = old; additions = xs }) (record { types = types; store = new; additions = xs }) [] is
    (sym (append-nil types)) refl e.ids (e.trees types) e.cell_ids
    (λ c h. ap (λ (k : CellEntry). record { number = c.0; type = type_of types k.ty; name = k.hint }) (e.cells c h)) typed e.bindings e.marks

pub grows_types : (old new : Table) (store : Contents) (xs : List Added) → IsWorld (record { types = old; store = store; additions = xs }) → table.IsExtendedBy old new
    → Grows (record { types = old; store = store; additions = xs }) (record { types = new; store = store; additions = xs })
grows_types old new store xs is part =
    subst (λ t. Grows (record { types = old; store = store; additions = xs }) (record { types = t; store = store; additions = xs })) (sym part.1)
    (grown (record { types = old; store = store; additions = xs }) (record { types = old ++ part.0; store = store; additions = xs }) part.0 is
    refl refl (λ t h. h) (λ t h. same_tree old part.0 store is.typed t) (λ c h. h)
    (λ c h. ap (λ A. record { number = c.0; type = A; name = (cell_of store c).hint }) (same_type old part.0 (cell_of store c).ty (is.typed.cells c.0 _ h)))
    (still_typed old part.0 store is.typed) refl (λ m has. kept_itself store m has))

-- one addition more
pub declares_more : (w : World) (a : Added) → IsWorld w → a.before ≡ length (declared w.types)
    → declarations_of (record { types = w.types; store = w.store; additions = w.additions ++ a ∷ [] }) ≡ declarations_of w ++ declaration_of w a.what ∷ []
declares_more w a is last = declared_added w 0 w.additions a is.order last

grows_added : (w : World) (a : Added) → IsWorld w → a.before ≡ length (declared w.types) → IsKept w.types w.store a.what
    → HaveSentences (declarations_of w ++ declaration_of w a.what ∷ []) → HaveDefinitions (declarations_of w ++ declaration_of w a.what ∷ [])
    → Grows w (record { types = w.types; store = w.store; additions = w.additions ++ a ∷ [] })
grows_added w a is last held sentences definitions =
    let D = declares_more w a is last in
    record {
      ids = λ u h. h;
      readings = λ u h. refl;
      cell_ids = λ c h. h;
      cells = λ c h. refl;
      types = ([], sym (append-nil w.types));
      marks = λ m has. kept_itself w.store m has;
      additions = (a ∷ [], refl);
      declarations = (declaration_of w a.what ∷ [], D);
      world = record {
        begins = is.begins;
        typed = is.typed;
        unbound = is.unbound;
        additions = All-push (λ (u : Added). IsKept w.types w.store u.what) w.additions a is.additions held;
        order = order_added w.types 0 w.additions a is.order last;
        sentences = rw D sentences;
        definitions = rw D definitions;
      };
    }

pub grows_theorem : (w : World) (e : TheoremEntry) (before : ℕ) → IsWorld w → before ≡ length (declared w.types) → Holds w e.formula
    → IsSentence (signature_in (declarations_of w)) (read w e.formula)
    → Grows w (record { types = w.types; store = w.store; additions = w.additions ++ record { what = Theorem e; before = before } ∷ [] })
grows_theorem w e before is last held sentence =
    grows_added w (record { what = Theorem e; before = before }) is last held
    (sentences_added (declarations_of w) e.name (read w e.formula) e.assumed is.sentences sentence)
    (definitions_added (declarations_of w) e.name (read w e.formula) e.assumed is.definitions)

pub same_constants : (w : World) → IsWorld w → signature w.types ≡ signature_in (declarations_of w)
same_constants w is = ap table.type_in (sym (constants_are w 0 w.additions is.order))

pub grows_block : (w : World) (b : Block) (before : ℕ) → IsWorld w → before ≡ length (declared w.types) → IsKeptBlock w.types w.store b
    → Grows w (record { types = w.types; store = w.store; additions = w.additions ++ record { what = Definition b; before = before } ∷ [] })
grows_block w b before is last held =
    grows_added w (record { what = Definition b; before = before }) is last held
    (sentences_defined (declarations_of w) (definition_of w b) is.sentences)
    (definitions_defined (declarations_of w) (definition_of w b) is.definitions
    (subst (λ sg. All (IsDefining sg) (definition_of w b).clauses) (same_constants w is) (block_defines w b held)))

pub grows_clause : (w : World) (c : ClauseTerm) (h : ConstId) (before : ℕ) → IsWorld w → before ≡ length (declared w.types) → IsKeptProgramClause w.types w.store c → IsHeadOf w.types w.store c h
    → Grows w (record { types = w.types; store = w.store; additions = w.additions ++ record { what = Clause c h; before = before } ∷ [] })
grows_clause w c h before is last held head =
    grows_added w (record { what = Clause c h; before = before }) is last (held, head)
    (sentences_clause (declarations_of w) (clause_read w c) is.sentences)
    (definitions_clause (declarations_of w) (clause_read w c) is.definitions)

-- nothing was added
pub bare_world : (types : Table) (store : Contents) → types ≡ first_entries → IsTypedBy types store → store.bindings ≡ [] → IsWorld (record { types = types; store = store; additions = [] })
bare_world types store first typed unbound = record {
  begins = ([], first ∙ sym (append-nil first_entries));
  typed = typed;
  unbound = unbound;
  additions = All-nil (λ (a : Added). IsKept types store a.what);
  order = omega arith;
  sentences = λ name F e. let none = sym (theorem-declared types name) ∙ e in absurd (cc);
  definitions = λ p b e. let none = sym (block-declared types p) ∙ e in absurd (cc);
}

pub map_same : {X Y : Type 0} (f g : X → Y) (P : X → Type 0) → ((x : X) → P x → f x ≡ g x) → (xs : List X) → All P xs → map f xs ≡ map g xs
map_same f g P same [] all = refl
map_same f g P same (x ∷ xs) all =
    ap (λ y. y ∷ map f xs) (same x (All-head P x xs all)) ∙ ap (λ ys. g x ∷ ys) (map_same f g P same xs (All-tail P x xs all))

-- sequents read as before
module _ (w v : World) (grown : Grows w v) where
  pub same_sequent : (s : Kept) → HoldsSequent w s → sequent_of v s ≡ sequent_of w s
  same_sequent s h =
      let xs = map_same (variable_of v) (variable_of w) (HoldsCell w) grown.cells s.variables h.variables in
      let hs = map_same (hypothesis_of v) (hypothesis_of w) (λ (x : Hypothesis). Holds w x.formula) (λ x held. ap (λ t. record { name = x.name; formula = t }) (grown.readings x.formula held)) s.hypotheses h.hypotheses in
      let c = grown.readings s.conclusion h.conclusion in
      ap (λ zs. record { variables = zs; hypotheses = map (hypothesis_of v) s.hypotheses; conclusion = read v s.conclusion; counter = s.counter }) xs
      ∙ ap (λ zs. record { variables = map (variable_of w) s.variables; hypotheses = zs; conclusion = read v s.conclusion; counter = s.counter }) hs
      ∙ ap (λ t. record { variables = map (variable_of w) s.variables; hypotheses = map (hypothesis_of w) s.hypotheses; conclusion = t; counter = s.counter }) c

  pub still_held : (s : Kept) → HoldsSequent w s → HoldsSequent v s
  still_held s h = record {
    variables = All-weaker (HoldsCell w) (HoldsCell v) grown.cell_ids s.variables h.variables;
    hypotheses = All-weaker (λ (x : Hypothesis). Holds w x.formula) (λ (x : Hypothesis). Holds v x.formula) (λ x. grown.ids x.formula) s.hypotheses h.hypotheses;
    conclusion = grown.ids s.conclusion h.conclusion;
  }
