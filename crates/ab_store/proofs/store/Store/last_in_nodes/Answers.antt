use Rattle.std.proofs.Common.{◌≡◌, map, length, get_or, max, None, ◌∙◌, ap, subst, arith}
use Rattle.std.proofs.lemmas.List.{length-map}
use Rattle.ab_types.specs.LastTypes.{types_up_to}
use Rattle.ab_store.specs.declared.store.NodeEntry.{NodeEntry}
use Rattle.ab_store.specs.Trees.{Contents}
use Rattle.ab_store.specs.NamedTypes.{type_in_node}
use Rattle.ab_store.proofs.NamedTypes.{one_further, told_by_entry}
use Rattle.ab_store.proofs.store.Store.last_in_nodes.Goals as goal

pub loop-place-preserved : goal.loop-place-preserved
loop-place-preserved c =
    one_further (map type_in_node c.args.self.now.nodes) c.args.first c.loop-place.place c.loop-place.last c.loop-place.invariant (type_in_node c.index.result.now.node) c.later-last.result
    (omega (arith, c.loop-place-test.true, c.len-place-end.ensures, c.self.inside.entries.ok.0, length-map c.args.self.now.nodes type_in_node, ap (λ (s : Contents). length s.nodes) c.self.view_is, length-map c.self.inside.entries.items (λ (x : NodeEntry). x.node)))
    (subst (λ (s : Contents). get_or (map type_in_node s.nodes) c.loop-place.place None ≡ type_in_node c.index.result.now.node) c.self.view_is
    (told_by_entry c.self.inside.entries.items c.loop-place.place c.index.result.now (omega (arith, c.loop-place-test.true, c.len-place-end.ensures, c.self.inside.entries.ok.0)) c.index.ensures))
    (c.later-last.ensures ∙ ap (λ o. max (types_up_to c.loop-place.last) (types_up_to o)) c.ty.ensures)
