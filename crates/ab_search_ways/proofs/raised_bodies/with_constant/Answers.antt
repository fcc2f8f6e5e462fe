use Rattle.std.proofs.Common.{[], codes, refl, ◌∙◌, ap, subst}
use Rattle.ab_term.specs.Typing.{HasType}
use Rattle.ab_norm.specs.ab_types.specs.Entries.{signature}
use Rattle.ab_term.specs.Substitution.{instance}
use Rattle.ab_norm.specs.ab_types.specs.Ids.{type_of}
use Rattle.ab_norm.specs.ab_store.specs.Trees.{tree_of}
use Rattle.ab_norm.specs.Nominals.{nominal_of}
use Rattle.ab_norm.proofs.Frame.{if_both, typed_on, typed_from}
use Rattle.ab_unifiers.specs.Clauses.{name_term}
use Rattle.ab_logic.specs.Worlds.{read}
use Rattle.ab_search_ways.proofs.LaterWorlds.{with_terms, terms_grown, terms_told}
use Rattle.ab_search_ways.proofs.Raised.{instance_formula}
use Rattle.ab_search_ways.proofs.raised_bodies.with_constant.Goals as goal

pub returns-in_err-term-clause-grows : goal.returns-in_err-term-clause-grows
returns-in_err-term-clause-grows g c = terms_grown c.args.world.now c.requires.world c.eta.new.store c.eta.ensures.adds

pub returns-in_err-term-clause-declared : goal.returns-in_err-term-clause-declared
returns-in_err-term-clause-declared g c = terms_told c.args.world.now c.requires.world c.eta.new.store c.eta.ensures.adds

pub returns-clause-grows : goal.returns-clause-grows
returns-clause-grows g c =
    let w = c.args.world.now in
    terms_grown w c.requires.world c.instantiate.new.store (typed_on w.types w.store c.eta.new.store c.instantiate.new.store c.eta.ensures.adds (typed_from w.types c.eta.new.store c.instantiate.new.store c.instantiate.ensures.adds c.eta.ensures.adds.typed))

pub returns-clause-declared : goal.returns-clause-declared
returns-clause-declared g c =
    let w = c.args.world.now in
    terms_told w c.requires.world c.instantiate.new.store (typed_on w.types w.store c.eta.new.store c.instantiate.new.store c.eta.ensures.adds (typed_from w.types c.eta.new.store c.instantiate.new.store c.instantiate.ensures.adds c.eta.ensures.adds.typed))

pub returns-clause-formula : goal.returns-clause-formula
returns-clause-formula g c =
    let w = c.args.world.now in
    let T = w.types in
    let S1 = c.eta.new.store in
    let adds = typed_on T w.store S1 c.instantiate.new.store c.eta.ensures.adds (typed_from T S1 c.instantiate.new.store c.instantiate.ensures.adds c.eta.ensures.adds.typed) in
    let v = with_terms w c.requires.world c.instantiate.new.store adds in
    let t = name_term (codes "x") (nominal_of T c.args.a) in
    let A = type_of T c.args.a.ty in
    let named = subst (λ r. HasType (signature T) [] r A) c.in_ok-term.ensures.tree (c.in_ok-term.ensures.term [] refl).1 in
    if_both c.instantiate.result (λ r held made. instance_formula w v (terms_grown w c.requires.world c.instantiate.new.store adds) A c.args.body t r c.requires.body named held
    (made ∙ ap (λ F. instance F (tree_of T S1 c.in_ok-term.term)) (c.eta.ensures.adds.before.trees T c.args.body c.requires.body.0) ∙ ap (instance (read w c.args.body)) c.in_ok-term.ensures.tree)) c.instantiate.ensures.held c.instantiate.ensures.tree
