-- What a mark counts.
use Rattle.std.proofs.Common.{◌≡◌, ℕ, ◌+◌, ◌<◌, ◌≤◌, List, [], ◌++◌, take, drop, length, get_or, refl, sym, ◌∙◌, ap, subst, arith, take-append-drop, length-take-le, take-take}
use Rattle.std.specs.Prelude.{All}
use Rattle.std.proofs.lemmas.List.{get_or-take}
use Rattle.std.proofs.lemmas.List.Elements.{All-take}
use Rattle.ab_term.specs.Types.{Ty}
use Rattle.ab_types.specs.Entries.{Table}
use Rattle.ab_types.specs.Ids.{HoldsType}
use Rattle.ab_store.specs.declared.node.TermId.{TermId}
use Rattle.ab_store.specs.declared.node.Node.{Node}
use Rattle.ab_store.specs.declared.node.CellEntry.{CellEntry}
use Rattle.ab_store.specs.declared.node.Binding.{Binding}
use Rattle.ab_store.specs.declared.mark.Mark.{Mark}
use Rattle.ab_store.specs.Trees.{Contents, terms_from}
use Rattle.ab_store.specs.Reading.{reading}
use Rattle.ab_store.specs.Naming.{NodeIsTyped, NodesNameEarlier, IsTypedBy, IsTerm}
use Rattle.ab_store.specs.Marks.{HasMark, at_mark, IsNoLater, KeepsMark}
use Rattle.ab_store.proofs.Nodes.{none, terms_from-more, terms_from-take}
use Rattle.ab_store.proofs.Fronts.{front_same, front_take}
use Rattle.ab_store.proofs.Agreeing.{Agree, same_reading, term_kept, bindings_typed, typed_alike, term_alike, reading_alike}

-- a store that has the fronts that the mark counts keeps it
pub keeps : (old new : Contents) (m : Mark) → HasMark old m
    → m.bindings ≤ length new.bindings → m.nodes ≤ length new.nodes → m.cells ≤ length new.cells
    → take m.bindings new.bindings ≡ take m.bindings old.bindings → take m.nodes new.nodes ≡ take m.nodes old.nodes → take m.cells new.cells ≡ take m.cells old.cells
    → KeepsMark old new m
keeps old new m has b n c same_bindings same_nodes same_cells = record {
  has = record {
    bindings = b;
    nodes = n;
    cells = c;
    nodes_name = subst (λ (l : List Node). NodesNameEarlier m.cells l) (sym same_nodes) has.nodes_name;
    bindings_name = subst (All (λ (x : Binding). (x.cell.0 < m.cells) × (x.term.0 < m.nodes))) (sym same_bindings) has.bindings_name;
  };
  same =
      ap (λ l. record { nodes = l; cells = take m.cells new.cells; bindings = take m.bindings new.bindings; room = 0 }) same_nodes
      ∙ ap (λ l. record { nodes = take m.nodes old.nodes; cells = l; bindings = take m.bindings new.bindings; room = 0 }) same_cells
      ∙ ap (λ l. record { nodes = take m.nodes old.nodes; cells = take m.cells old.cells; bindings = l; room = 0 }) same_bindings;
}

pub kept_on : (r s t : Contents) (m : Mark) → KeepsMark r s m → KeepsMark s t m → KeepsMark r t m
kept_on r s t m e f = record { has = f.has; same = f.same ∙ e.same }

pub kept_itself : (s : Contents) (m : Mark) → HasMark s m → KeepsMark s s m
kept_itself s m has = record { has = has; same = refl }

module _ (store : Contents) (m : Mark) (has : HasMark store m) where
  count : length (take m.cells store.cells) ≡ m.cells
  count = length-take-le m.cells store.cells has.cells

  pub marked_earlier : NodesNameEarlier (length (take m.cells store.cells)) (take m.nodes store.nodes)
  marked_earlier = subst (λ k. NodesNameEarlier k (take m.nodes store.nodes)) (sym count) has.nodes_name

  pub agrees : Agree store (at_mark store m) m.nodes m.cells
  agrees = record {
    trees = λ types t h.
        sym (
        ap (λ l. get_or (terms_from types l [] store.nodes) t.0 none) (sym (take-append-drop m.cells store.cells))
        ∙ sym (terms_from-take types (take m.cells store.cells ++ drop m.cells store.cells) m.nodes store.nodes t.0 none has.nodes h)
        ∙ ap (λ l. get_or l t.0 none) (terms_from-more types (take m.cells store.cells) (drop m.cells store.cells) [] (take m.nodes store.nodes) (λ j d l. (j, marked_earlier j d l)))
        );
    cells = λ c h. get_or-take m.cells store.cells c.0 _ h;
  }

  pub typed_at_mark : (types : Table) → IsTypedBy types store → IsTypedBy types (at_mark store m)
  typed_at_mark types typed = record {
    earlier = marked_earlier;
    nodes = All-take (NodeIsTyped types) m.nodes store.nodes typed.nodes;
    cells = All-take (λ (c : CellEntry). HoldsType types c.ty) m.cells store.cells typed.cells;
    bindings = bindings_typed store (at_mark store m) m.nodes m.cells agrees (omega (arith, length-take-le m.nodes store.nodes has.nodes)) (omega (arith, count))
        (front_take m.bindings (take m.bindings store.bindings) store.bindings refl) has.bindings_name types typed.bindings;
  }

-- a store that was rewound to a mark
module _ (old new : Contents) (m : Mark) (nodes : new.nodes ≡ old.nodes) (cells : new.cells ≡ old.cells) (bindings : new.bindings ≡ take m.bindings old.bindings) (has : HasMark old m) where
  left : length new.bindings ≡ m.bindings
  left = ap length bindings ∙ length-take-le m.bindings old.bindings has.bindings

  pub rewound_reads : (types : Table) (t : TermId) → t.0 < m.nodes → reading types new t ≡ reading types (at_mark old m) t
  rewound_reads types t h =
      let mid : Contents = record { nodes = old.nodes; cells = old.cells; bindings = take m.bindings old.bindings; room = 0 } in
      reading_alike mid new nodes cells bindings types t
      ∙ sym (same_reading mid (at_mark old m) m.nodes m.cells (record { trees = (agrees old m has).trees; cells = (agrees old m has).cells }) refl has.bindings_name types t h)

  pub rewound_typed : (types : Table) → IsTypedBy types old → IsTypedBy types new
  rewound_typed = typed_alike old new nodes cells (front_take m.bindings new.bindings old.bindings bindings)

  pub rewound_terms : (types : Table) (G : List Ty) (t : TermId) (A : Ty) → IsTerm types old G t A → IsTerm types new G t A
  rewound_terms = term_alike old new nodes cells

  pub rewound_marks : (k : Mark) → HasMark old k → k.bindings ≤ m.bindings → KeepsMark old new k
  rewound_marks k had low =
      keeps old new k had (omega (arith, low, left)) (omega (arith, had.nodes, ap length nodes)) (omega (arith, had.cells, ap length cells))
      (ap (take k.bindings) bindings ∙ take-take k.bindings m.bindings old.bindings low) (ap (take k.nodes) nodes) (ap (take k.cells) cells)

-- a store that was cut by a mark
module _ (old new : Contents) (m : Mark) (nodes : new.nodes ≡ take m.nodes old.nodes) (cells : new.cells ≡ take m.cells old.cells) (bindings : new.bindings ≡ take m.bindings old.bindings) (has : HasMark old m) where
  pub cut_reads : (types : Table) (t : TermId) → reading types new t ≡ reading types (at_mark old m) t
  cut_reads = reading_alike (at_mark old m) new nodes cells bindings

  pub cut_typed : (types : Table) → IsTypedBy types (at_mark old m) → IsTypedBy types new
  cut_typed = typed_alike (at_mark old m) new nodes cells (front_same new.bindings (take m.bindings old.bindings) bindings)

  pub cut_terms : (types : Table) (G : List Ty) (t : TermId) (A : Ty) → t.0 < m.nodes → IsTerm types old G t A → IsTerm types new G t A
  cut_terms types G t A h is =
      term_alike (at_mark old m) new nodes cells types G t A
      (term_kept old (at_mark old m) m.nodes m.cells (agrees old m has) (omega (arith, length-take-le m.nodes old.nodes has.nodes)) types G t A h is)

  pub cut_marks : (k : Mark) → HasMark old k → IsNoLater k m → KeepsMark old new k
  cut_marks k had low =
      keeps old new k had
      (omega (arith, low.0, ap length bindings, length-take-le m.bindings old.bindings has.bindings))
      (omega (arith, low.1, ap length nodes, length-take-le m.nodes old.nodes has.nodes))
      (omega (arith, low.2, ap length cells, length-take-le m.cells old.cells has.cells))
      (ap (take k.bindings) bindings ∙ take-take k.bindings m.bindings old.bindings low.0)
      (ap (take k.nodes) nodes ∙ take-take k.nodes m.nodes old.nodes low.1)
      (ap (take k.cells) cells ∙ take-take k.cells m.cells old.cells low.2)

-- what holds while a store is rewound
pub record IsRewound (low : ℕ) (old : Contents) (begun : ℕ) (new : Contents) (steps : ℕ) : Type 0 where
  pub front : new.bindings ≡ take (length new.bindings) old.bindings
  pub nodes : new.nodes ≡ old.nodes
  pub cells : new.cells ≡ old.cells
  pub least : low ≤ length new.bindings
  pub most : length new.bindings ≤ length old.bindings
  pub room : new.room + length new.bindings ≡ old.room + length old.bindings
  pub counted : steps + length new.bindings ≡ begun + length old.bindings
