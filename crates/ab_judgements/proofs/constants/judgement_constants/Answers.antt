use Rattle.std.proofs.Common.{map, ap, ◌∙◌}
use Rattle.ab_term.specs.Terms.{terms_of}
use Rattle.ab_term.specs.Names.{support_of_all}
use Rattle.ab_unifiers.specs.Choices.{in_order}
use Rattle.ab_norm.proofs.Frame.{if_ok}
use Rattle.ab_logic.specs.Worlds.{read}
use Rattle.ab_judgements.proofs.ConstantsHeld.{held_in}
use Rattle.ab_judgements.proofs.constants.judgement_constants.Goals as goal

pub returns-clause-list : goal.returns-clause-list
returns-clause-list c =
    let w = c.args.world.now in
    if_ok c.constants_of.result (λ list e. e ∙ ap (λ ids. in_order (support_of_all (terms_of (map (read w) ids)))) (c.deref.ensures.value ∙ c.in_ok-terms.ensures) ∙ held_in w c.args.judgement.now) c.constants_of.ensures.list
