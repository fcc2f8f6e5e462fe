use Rattle.std.proofs.Common.{◌∙◌}
use Rattle.ab_unify.proofs.Growth.{grows_on, grows_terms}
use Rattle.ab_search_paths.proofs.StandIns.{bindable}
use Rattle.ab_search_paths.proofs.likeness.put_in_bound.Goals as goal

pub bind_to-requires-clause-fit : goal.bind_to-requires-clause-fit
bind_to-requires-clause-fit g c =
    bindable c.args.world.now c.requires.world c.args.stand_ins.now c.requires.stand_ins c.deref.result.now c.deref-2.result.now (c.deref.ensures.value ∙ c.in_ok-cells.ensures) (c.deref-2.ensures.value ∙ c.in_ok-others.ensures)

pub returns-clause-grows : goal.returns-clause-grows
returns-clause-grows g c =
    let T = c.args.world.now.types in
    grows_on T T T c.args.world.now.store c.bind_to.new.store c.resolve_terms.new.store c.bind_to.ensures.grows (grows_terms T c.bind_to.new.store c.resolve_terms.new.store c.resolve_terms.ensures.adds)
