use Rattle.std.proofs.Common.{List, map, codes, ◌∙◌, ap}
use Rattle.ab_term.specs.Types.{prop}
use Rattle.ab_term.specs.Terms.{Read, nominal}
use Rattle.ab_term.specs.Abstraction.{over, abstracted}
use Rattle.ab_term.specs.Substitution.{instance_by_all}
use Rattle.ab_norm.specs.ab_store.specs.Trees.{tree_of}
use Rattle.ab_alternatives.specs.ab_instances.specs.ListReadings.{names_read}
use Rattle.ab_norm.proofs.Frame.{if_ok, typed_from, typed_on, still_read_before}
use Rattle.ab_logic.proofs.Growing.{grows_store}
use Rattle.ab_judgements.proofs.replaced_constants.replace_constants.Goals as goal

pub returns-in_err-abstraction-clause-grows : goal.returns-in_err-abstraction-clause-grows
returns-in_err-abstraction-clause-grows g c = grows_store _ _ _ _ c.requires.world c.in_err-abstraction.ensures.adds.before c.in_err-abstraction.ensures.adds.typed

pub returns-clause-reads : goal.returns-clause-reads
returns-clause-reads g c =
    let T = c.args.world.now.types in
    let S = c.args.world.now.store in
    let U = c.abstract_over.new.store in
    let one = c.in_ok-abstraction.ensures in
    let names = names_read T c.args.constants.now in
    let terms = still_read_before T S U c.args.terms.now one.adds.before c.requires.terms in
    if_ok c.instantiate.result (λ r made.
    made
    ∙ ap (λ (t : Read). instance_by_all t (map (tree_of T U) c.args.terms.now)) one.tree
    ∙ ap (λ (ts : List Read). instance_by_all (abstracted (codes "x") (over names prop) (map nominal names) (tree_of T S c.args.formula)) ts) terms) c.instantiate.ensures.tree

pub returns-clause-grows : goal.returns-clause-grows
returns-clause-grows g c =
    let T = c.args.world.now.types in
    let S = c.args.world.now.store in
    let U = c.abstract_over.new.store in
    let one = c.in_ok-abstraction.ensures.adds in
    let two = typed_on T S U c.instantiate.new.store one (typed_from T U c.instantiate.new.store c.instantiate.ensures.adds one.typed) in
    grows_store _ _ _ _ c.requires.world two.before two.typed
