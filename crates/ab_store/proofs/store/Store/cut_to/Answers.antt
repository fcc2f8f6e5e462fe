use Rattle.std.proofs.Common.{◌≡◌, ◌≤◌, ◌-◌, vec_len, vec_capacity, length, take, arith, ap, sym, ◌∙◌, length-take-le}
use Rattle.std.proofs.lemmas.List.{take-map}
use Rattle.ab_store.specs.declared.store.NodeEntry.{NodeEntry}
use Rattle.ab_store.specs.declared.store.Slot.{Slot}
use Rattle.ab_store.specs.Trees.{Contents}
use Rattle.ab_store.specs.Marks.{HasMark}
use Rattle.ab_store.specs.Layout.{contents}
use Rattle.ab_store.proofs.Kept.{nodes_of, cells_in}
use Rattle.ab_store.proofs.Marking.{rewound_marks, cut_reads, cut_typed, cut_terms, cut_marks}
use Rattle.ab_store.proofs.Rebinding.{cut_sound}
use Rattle.ab_store.proofs.store.Store.cut_to.Given as given
use Rattle.ab_store.proofs.store.Store.cut_to.Goals as goal

module _ (c : given.Over) (k : goal.After-truncate-2 c) where
  nodes_before : nodes_of k.self.inside.entries.items ≡ k.args.self.now.nodes
  nodes_before = ap (λ (s : Contents). s.nodes) k.self.view_is ∙ k.rewind.ensures.nodes

  cells_before : cells_in k.self.inside.slots.items ≡ k.args.self.now.cells
  cells_before = ap (λ (s : Contents). s.cells) k.self.view_is ∙ k.rewind.ensures.cells

  bindings : k.self.inside.trail.items ≡ take k.args.mark.now.bindings k.args.self.now.bindings
  bindings = ap (λ (s : Contents). s.bindings) k.self.view_is ∙ k.rewind.ensures.bindings

  nodes : nodes_of k.truncate.new.self.items ≡ take k.args.mark.now.nodes k.args.self.now.nodes
  nodes =
      ap nodes_of k.truncate.ensures.items
      ∙ sym (take-map (λ (e : NodeEntry). e.node) k.args.mark.now.nodes k.self.inside.entries.items)
      ∙ ap (take k.args.mark.now.nodes) nodes_before

  cells : cells_in k.truncate-2.new.self.items ≡ take k.args.mark.now.cells k.args.self.now.cells
  cells =
      ap cells_in k.truncate-2.ensures.items
      ∙ sym (take-map (λ (s : Slot). s.cell) k.args.mark.now.cells k.self.inside.slots.items)
      ∙ ap (take k.args.mark.now.cells) cells_before

  left : length k.self.inside.trail.items ≡ k.args.mark.now.bindings
  left = ap length bindings ∙ length-take-le k.args.mark.now.bindings k.args.self.now.bindings k.requires.bindings

  has : HasMark (contents k.self.inside.entries.items k.self.inside.slots.items k.self.inside.trail.items 0) k.args.mark.now
  has =
      let here : k.args.mark.now.bindings ≤ k.args.mark.now.bindings = omega arith in
      (rewound_marks k.args.self.now (contents k.self.inside.entries.items k.self.inside.slots.items k.self.inside.trail.items 0) k.args.mark.now nodes_before cells_before bindings k.requires
      k.args.mark.now k.requires here).has

pub invariant_of-self : goal.invariant_of-self
invariant_of-self c k =
    rw (k.truncate.ensures.items, k.truncate-2.ensures.items)
    (cut_sound k.self.inside.entries.items k.self.inside.slots.items k.self.inside.trail.items k.args.mark.now k.self.invariant (has c k) (left c k))

pub returns-clause-reads : goal.returns-clause-reads
returns-clause-reads c k = λ types t h. cut_reads k.args.self.now (contents k.truncate.new.self.items k.truncate-2.new.self.items k.self.inside.trail.items (vec_capacity k.self.inside.trail - vec_len k.self.inside.trail)) k.args.mark.now (nodes c k) (cells c k) (bindings c k) k.requires types t

pub returns-clause-nodes : goal.returns-clause-nodes
returns-clause-nodes c k = nodes c k

pub returns-clause-cells : goal.returns-clause-cells
returns-clause-cells c k = cells c k

pub returns-clause-typed : goal.returns-clause-typed
returns-clause-typed c k = cut_typed k.args.self.now (contents k.truncate.new.self.items k.truncate-2.new.self.items k.self.inside.trail.items (vec_capacity k.self.inside.trail - vec_len k.self.inside.trail)) k.args.mark.now (nodes c k) (cells c k) (bindings c k) k.requires

pub returns-clause-terms : goal.returns-clause-terms
returns-clause-terms c k = cut_terms k.args.self.now (contents k.truncate.new.self.items k.truncate-2.new.self.items k.self.inside.trail.items (vec_capacity k.self.inside.trail - vec_len k.self.inside.trail)) k.args.mark.now (nodes c k) (cells c k) (bindings c k) k.requires

pub returns-clause-marks : goal.returns-clause-marks
returns-clause-marks c k = cut_marks k.args.self.now (contents k.truncate.new.self.items k.truncate-2.new.self.items k.self.inside.trail.items (vec_capacity k.self.inside.trail - vec_len k.self.inside.trail)) k.args.mark.now (nodes c k) (cells c k) (bindings c k) k.requires
