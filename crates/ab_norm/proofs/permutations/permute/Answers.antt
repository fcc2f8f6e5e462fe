use Rattle.std.proofs.Common.{sym, ◌∙◌, ap, subst}
use Rattle.ab_term.specs.Typing.{HasType}
use Rattle.ab_term.specs.Names as tree
use Rattle.ab_term.specs.Names.{moved_by}
use Rattle.ab_term.proofs.Renamings.{rename_typed}
use Rattle.ab_term.proofs.Permutations.{one_to_one}
use Rattle.ab_store.specs.ab_types.specs.Entries.{signature}
use Rattle.ab_store.specs.Trees.{tree_of}
use Rattle.ab_norm.specs.Nominals.{pairs_of}
use Rattle.ab_norm.proofs.Frame.{if_ok, if_both, typed_from, typed_on}
use Rattle.ab_norm.proofs.Clear.{renamed_reads}
use Rattle.ab_norm.proofs.permutations.permute.Goals as goal

pub returns-in_err-plain-clause-adds : goal.returns-in_err-plain-clause-adds
returns-in_err-plain-clause-adds c = typed_from c.args.types.now c.args.store.now c.copy_resolved.new.store c.in_err-plain.ensures.adds c.requires.store

pub returns-clause-reads : goal.returns-clause-reads
returns-clause-reads c =
    let types = c.args.types.now in
    let f = moved_by (pairs_of types c.args.by.now.pairs) in
    if_ok c.rename.result (λ r made.
    renamed_reads types c.copy_resolved.new.store c.rename.new.store c.rename.ensures.adds.before f c.in_ok-plain.plain r c.in_ok-plain.ensures.resolved
    (made ∙ ap (λ l. tree.rename (moved_by (pairs_of types l)) (tree_of types c.copy_resolved.new.store c.in_ok-plain.plain)) c.in_ok-pairs.ensures)
    ∙ ap (tree.rename f) c.in_ok-plain.ensures.reads) c.rename.ensures.reads

pub returns-clause-term : goal.returns-clause-term
returns-clause-term c =
    let types = c.args.types.now in
    let pairs = pairs_of types c.args.by.now.pairs in
    if_both c.rename.result (λ r held made G A d. (
      held,
      subst (λ t. HasType (signature types) G t A)
          (sym (made ∙ ap (λ l. tree.rename (moved_by (pairs_of types l)) (tree_of types c.copy_resolved.new.store c.in_ok-plain.plain)) c.in_ok-pairs.ensures))
          (rename_typed (signature types) (moved_by pairs) (one_to_one pairs c.requires.table).keeps (c.in_ok-plain.ensures.term G A d).1),
    )) c.rename.ensures.held c.rename.ensures.reads

pub returns-clause-adds : goal.returns-clause-adds
returns-clause-adds c =
    typed_on c.args.types.now c.args.store.now c.copy_resolved.new.store c.rename.new.store
    (typed_from c.args.types.now c.args.store.now c.copy_resolved.new.store c.in_ok-plain.ensures.adds c.requires.store) c.rename.ensures.adds
