use Rattle.std.proofs.Common.{◌∙◌, ap}
use Rattle.ab_term.specs.Names.{support_of_all}
use Rattle.ab_instances.specs.ListReadings.{names_read, given_at}
use Rattle.ab_instances.specs.ConstantOrder.{all_noted}
use Rattle.ab_instances.proofs.Noted.{noted_order}
use Rattle.ab_instances.proofs.constants.constants_of.Goals as goal

pub returns-clause-list : goal.returns-clause-list
returns-clause-list c =
    let types = c.args.types.now in
    let names = support_of_all (given_at types c.args.store.now c.args.arguments.now) in
    c.in_ok-note_all.ensures.notes ∙ ap (λ l. all_noted names (names_read types l)) c.new-found.ensures.items ∙ noted_order names
