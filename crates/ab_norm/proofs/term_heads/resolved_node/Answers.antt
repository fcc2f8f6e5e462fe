use Rattle.std.proofs.Common.{ap, sym, ◌∙◌, subst, length}
use Rattle.ab_store.specs.Naming.{NodeNames, NodeIsTyped}
use Rattle.ab_store.specs.Reading.{node_reading}
use Rattle.ab_norm.specs.Heads.{BeginsFree}
use Rattle.ab_norm.proofs.Frame.{if_ok}
use Rattle.ab_norm.proofs.Resolved.{begins_free, names_below}
use Rattle.ab_norm.proofs.term_heads.resolved_node.Goals as goal

pub returns-clause-reads : goal.returns-clause-reads
returns-clause-reads g c =
    let types = c.args.types.now in
    let plain = c.in_ok-plain.ensures in
    if_ok c.copy.result (λ node is G A d.
    sym plain.reads ∙ c.view.ensures.reads types G A plain.typed (plain.term G A d) ∙ ap (node_reading types c.copy_resolved.new.store) (sym is)) c.copy.ensures

pub returns-clause-free : goal.returns-clause-free
returns-clause-free g c =
    if_ok c.copy.result (λ node is.
    subst (BeginsFree c.copy_resolved.new.store) (sym is) (begins_free c.copy_resolved.new.store c.in_ok-plain.plain c.view.result.now c.view.ensures.tree c.in_ok-plain.ensures.resolved)) c.copy.ensures

pub returns-clause-names : goal.returns-clause-names
returns-clause-names g c =
    let store = c.copy_resolved.new.store in
    if_ok c.copy.result (λ node is.
    subst (NodeNames (length store.nodes) (length store.cells)) (sym is) (names_below c.in_ok-plain.plain.0 (length store.nodes) (length store.cells) c.view.result.now c.in_ok-plain.ensures.held c.view.ensures.earlier)) c.copy.ensures

pub returns-clause-node : goal.returns-clause-node
returns-clause-node g c =
    if_ok c.copy.result (λ node is. subst (NodeIsTyped c.args.types.now) (sym is) (c.view.ensures.typed c.args.types.now c.in_ok-plain.ensures.typed)) c.copy.ensures
