use Rattle.std.proofs.Common.{map, sym, ◌∙◌, ap}
use Rattle.ab_norm.specs.ab_types.specs.Ids.{type_of}
use Rattle.ab_unifiers.specs.Choices.{choices}
use Rattle.ab_instances.specs.ListReadings.{names_read}
use Rattle.ab_alternatives.proofs.Placed.{none_by, listed_by}
use Rattle.ab_alternatives.proofs.choice_counts.choices_by.Goals as goal

pub returns-then-not-is_of-clause-list : goal.returns-then-not-is_of-clause-list
returns-then-not-is_of-clause-list c = none_by c.args.world.now c.args.atom.now c.args.clause.now c.args.held.now (sym c.is_of.ensures ∙ c.if-not-is_of.true)

pub returns-clause-list : goal.returns-clause-list
returns-clause-list c =
    listed_by c.args.world.now c.args.atom.now c.args.clause.now c.args.held.now c.args.constants.now c.in_ok-names.names.items c.in_ok-list.list
    (sym c.is_of.ensures ∙ c.if-not-is_of.false) c.requires.constants c.in_ok-names.ensures.types (c.in_ok-list.ensures.list ∙ ap (λ l. choices (map (type_of c.args.world.now.types) l) (names_read c.args.world.now.types c.args.constants.now) (names_read c.args.world.now.types c.args.held.now)) c.deref.ensures.value)
