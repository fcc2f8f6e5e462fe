use Rattle.std.proofs.Common.{ap, sym, ◌∙◌, subst, length}
use Rattle.ab_store.specs.Naming.{NodeNames, NodeIsTyped}
use Rattle.ab_store.specs.Reading.{node_reading}
use Rattle.ab_norm.proofs.Frame.{adds_none}
use Rattle.ab_norm.proofs.Resolved.{names_below}
use Rattle.ab_norm.proofs.term_heads.look.Goals as goal

pub begins_free-requires : goal.begins_free-requires
begins_free-requires g c =
    let store = c.args.store.now in
    subst (NodeNames (length store.nodes) (length store.cells)) (sym c.in_ok-node.ensures) (names_below c.args.id.0 (length store.nodes) (length store.cells) c.view.result.now c.requires.id c.view.ensures.earlier)

pub returns-then-begins_free-clause-reads : goal.returns-then-begins_free-clause-reads
returns-then-begins_free-clause-reads g c = λ G A d.
    c.view.ensures.reads c.args.types.now G A c.requires.store d ∙ ap (node_reading c.args.types.now c.args.store.now) (sym c.in_ok-node.ensures)

pub returns-then-begins_free-clause-names : goal.returns-then-begins_free-clause-names
returns-then-begins_free-clause-names g c =
    let store = c.args.store.now in
    subst (NodeNames (length store.nodes) (length store.cells)) (sym c.in_ok-node.ensures) (names_below c.args.id.0 (length store.nodes) (length store.cells) c.view.result.now c.requires.id c.view.ensures.earlier)

pub returns-then-begins_free-clause-node : goal.returns-then-begins_free-clause-node
returns-then-begins_free-clause-node g c = subst (NodeIsTyped c.args.types.now) (sym c.in_ok-node.ensures) (c.view.ensures.typed c.args.types.now c.requires.store)

pub returns-then-begins_free-clause-adds : goal.returns-then-begins_free-clause-adds
returns-then-begins_free-clause-adds g c = adds_none c.args.store.now
