use Rattle.ab_norm.specs.NodeGrowth.{AddsTypedTerms}
use Rattle.ab_norm.proofs.Frame.{typed_on}
use Rattle.ab_judgement_forms.proofs.list_items.focused_judgement.Goals as goal

pub with_mark-requires-clause-store : goal.with_mark-requires-clause-store
with_mark-requires-clause-store c = c.spine.ensures.typed c.args.types.now c.requires.store tt

pub returns-clause-adds : goal.returns-clause-adds
returns-clause-adds c =
    let T = c.args.types.now in
    let S = c.args.store.now in
    let S1 = c.spine.new.self in
    let first : AddsTypedTerms T S S1 = record { before = c.spine.ensures.before; cells = c.spine.ensures.cells; typed = c.spine.ensures.typed T c.requires.store tt } in
    typed_on T S S1 c.with_mark.new.store first c.with_mark.ensures.adds
