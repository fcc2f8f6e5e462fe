use Rattle.ab_norm.proofs.Frame.{typed_on}
use Rattle.ab_norm.specs.NodeGrowth.{AddsTypedTerms}
use Rattle.ab_infer.proofs.Means.{values_kept}
use Rattle.ab_infer.proofs.normal_terms.abstraction.Goals as goal

pub returns-clause-stack : goal.returns-clause-stack
returns-clause-stack c =
    let t = c.args.types.now in
    let added : AddsTypedTerms t c.pop_term.new.store c.lam.new.self = record { before = c.lam.ensures.before; cells = c.lam.ensures.cells; typed = c.lam.ensures.typed t c.in_ok-body.ensures.adds.typed c.requires.ty } in
    values_kept t c.pop_term.new.store c.lam.new.self added c.pop_term.new.stack.items c.in_ok-body.ensures.stack

pub returns-clause-adds : goal.returns-clause-adds
returns-clause-adds c =
    let t = c.args.types.now in
    let added : AddsTypedTerms t c.pop_term.new.store c.lam.new.self = record { before = c.lam.ensures.before; cells = c.lam.ensures.cells; typed = c.lam.ensures.typed t c.in_ok-body.ensures.adds.typed c.requires.ty } in
    typed_on t c.args.store.now c.pop_term.new.store c.lam.new.self c.in_ok-body.ensures.adds added
