use Rattle.std.proofs.Common.{[], sym, ◌∙◌, ap, subst}
use Rattle.ab_term.specs.Types.{prop}
use Rattle.ab_term.specs.Typing.{HasType}
use Rattle.ab_norm.specs.ab_types.specs.Entries.{signature}
use Rattle.ab_norm.proofs.Frame.{if_ok, if_both, typed_from, typed_on}
use Rattle.ab_formulas.specs.Marks.{erased}
use Rattle.ab_search_trees.proofs.Unmarked.{erased_typed}
use Rattle.ab_search_ways.proofs.Bare.{erased_reads}
use Rattle.ab_search_ways.proofs.hypothesis_sides.bare.Goals as goal

pub returns-in_err-plain-clause-adds : goal.returns-in_err-plain-clause-adds
returns-in_err-plain-clause-adds g c = typed_from c.args.types.now c.args.store.now c.copy_resolved.new.store c.in_err-plain.ensures.adds c.requires.store

pub returns-clause-reads : goal.returns-clause-reads
returns-clause-reads g c =
    let types = c.args.types.now in
    if_ok c.erase.result (λ r made.
    erased_reads types c.copy_resolved.new.store c.erase.new.store c.erase.ensures.adds.before c.in_ok-plain.plain r c.in_ok-plain.ensures.resolved made
    ∙ ap erased c.in_ok-plain.ensures.reads) c.erase.ensures.reads

pub returns-clause-term : goal.returns-clause-term
returns-clause-term g c =
    let types = c.args.types.now in
    if_both c.erase.result (λ r held made. (
      held,
      subst (λ t. HasType (signature types) [] t prop) (sym made) (erased_typed (signature types) (c.in_ok-plain.ensures.term [] prop c.requires.formula).1),
    )) c.erase.ensures.held c.erase.ensures.reads

pub returns-clause-adds : goal.returns-clause-adds
returns-clause-adds g c =
    typed_on c.args.types.now c.args.store.now c.copy_resolved.new.store c.erase.new.store
    (typed_from c.args.types.now c.args.store.now c.copy_resolved.new.store c.in_ok-plain.ensures.adds c.requires.store) c.erase.ensures.adds
