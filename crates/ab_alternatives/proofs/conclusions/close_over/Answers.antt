use Rattle.std.proofs.Common.{◌∙◌, map, sym, ap}
use Rattle.ab_theory.specs.Unfolding.{exists_all}
use Rattle.ab_norm.proofs.Frame.{typed_on, typed_from, if_ok}
use Rattle.ab_logic.specs.Worlds.{variable_at}
use Rattle.ab_norm.specs.ab_store.specs.Trees.{tree_of}
use Rattle.ab_instances.specs.ListReadings.{names_read}
use Rattle.ab_alternatives.proofs.Quantified.{closed_over_some}
use Rattle.ab_alternatives.proofs.conclusions.close_over.Goals as goal

pub returns-clause-adds : goal.returns-clause-adds
returns-clause-adds c =
    let T = c.args.types.now in
    let inner = c.nabla_all.ensures.adds in
    typed_on T c.args.store.now c.nabla_all.new.store c.exists_all.new.store inner (typed_from T c.nabla_all.new.store c.exists_all.new.store c.exists_all.ensures.adds inner.typed)

pub returns-clause-tree : goal.returns-clause-tree
returns-clause-tree c =
    let T = c.args.types.now in
    let S = c.args.store.now in
    let V = c.nabla_all.new.store in
    let some = sym c.is_empty.ensures ∙ c.if-is_empty.false in
    if_ok c.exists_all.result (λ r reads.
    reads T ∙ ap (exists_all (map (variable_at T V) c.args.cells.now)) c.in_ok-inner.ensures.tree
    ∙ closed_over_some T S V c.nabla_all.ensures.adds.cells c.args.cells.now some c.args.hints.now (names_read T c.args.names.now) (tree_of T S c.args.body)) c.exists_all.ensures.tree
