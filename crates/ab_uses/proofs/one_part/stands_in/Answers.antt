use Rattle.std.proofs.Common.{◌∙◌, ap, ◌==◌, [], ◌∷◌}
use Rattle.ab_norm.specs.Nominals.{nominal_of}
use Rattle.ab_unifiers.specs.Choices.{outside}
use Rattle.ab_alternatives.specs.ab_instances.specs.ListReadings.{names_read}
use Rattle.ab_uses.proofs.OverConstants.{stands_read}
use Rattle.ab_norm.specs.ab_store.specs.Trees.{tree_of}
use Rattle.ab_uses.proofs.one_part.stands_in.Goals as goal

pub returns : goal.returns
returns c = stands_read c.args.types.now c.args.a c.in_ok-apart.apart.items c.in_ok-standing.standing.items (tree_of c.args.types.now c.args.store.now c.args.formula) (c.in_ok-apart.ensures.list ∙ ap (λ l. outside (nominal_of c.args.types.now c.args.a ∷ []) (names_read c.args.types.now l)) c.deref.ensures.value) c.in_ok-standing.ensures.list c.is_empty.result (c.is_empty.ensures ∙ ap (λ n. n == 0) c.in_ok-apart.apart.ok.0)
