use Rattle.std.proofs.Common.{◌≡◌, map, codes, sym, ◌∙◌, ap, subst}
use Rattle.ab_term.specs.Variables.{image}
use Rattle.ab_term.specs.Sameness.{same_number}
use Rattle.ab_norm.specs.ab_store.specs.Trees.{tree_of, head_reading}
use Rattle.ab_patterns.specs.ab_unifiers.specs.Replacements.{pruned_here}
use Rattle.ab_unify.specs.StoreChanges.{Changed}
use Rattle.ab_unify.specs.Pruning.{AllPruned}
use Rattle.ab_unify.proofs.Growth.{grows_on, grows_terms, typed_terms}
use Rattle.ab_unify.proofs.Losing.{here_more, nothing_made, none_seen}
use Rattle.ab_unify.proofs.Pruned.{changed_on, same_names, unbound_reads}
use Rattle.ab_unify.proofs.pruning.prune_flexible.Goals as goal

pub returns-in_err-here-clause-grows : goal.returns-in_err-here-clause-grows
returns-in_err-here-clause-grows g c =
    grows_terms c.args.types.now c.args.store.now c.copy_resolved.new.store (typed_terms c.args.types.now c.args.store.now c.copy_resolved.new.store c.requires.store c.in_err-here.ensures.adds)

pub returns-in_err-lost-clause-grows : goal.returns-in_err-lost-clause-grows
returns-in_err-lost-clause-grows g c =
    let types = c.args.types.now in
    grows_on types types c.prune_here.new.types c.args.store.now c.copy_resolved.new.store c.prune_here.new.store
    (grows_terms types c.args.store.now c.copy_resolved.new.store (typed_terms types c.args.store.now c.copy_resolved.new.store c.requires.store c.in_ok-here.ensures.adds)) c.in_err-lost.ensures.grows

pub returns-then-lost-clause-grows : goal.returns-then-lost-clause-grows
returns-then-lost-clause-grows g c =
    let types = c.args.types.now in
    grows_on types types c.prune_here.new.types c.args.store.now c.copy_resolved.new.store c.prune_here.new.store
    (grows_terms types c.args.store.now c.copy_resolved.new.store (typed_terms types c.args.store.now c.copy_resolved.new.store c.requires.store c.in_ok-here.ensures.adds)) c.in_ok-lost.ensures.grows

pub returns-then-lost-clause-changed : goal.returns-then-lost-clause-changed
returns-then-lost-clause-changed g c = λ T S F change was named G B is clear cells outer all.
    let types = c.args.types.now in
    let store = c.args.store.now in
    let middle = c.copy_resolved.new.store in
    let adds = typed_terms types store middle c.requires.store c.in_ok-here.ensures.adds in
    let hs = map (head_reading T S) c.args.names.now in
    let u = image same_number change.pairs (tree_of T S c.args.term) in
    let d = pruned_here (codes "x") hs u change in
    let here_is : tree_of types middle c.in_ok-here.here ≡ u = c.in_ok-here.ensures.tree ∙ was.reads G c.args.term B is ∙ ap (image same_number change.pairs) (unbound_reads T S c.args.term clear) in
    let done : Changed T S F d c.prune_here.new.types c.prune_here.new.store c.prune_here.new.flexible.items =
    subst (λ e. Changed T S F e c.prune_here.new.types c.prune_here.new.store c.prune_here.new.flexible.items)
    (ap (λ l. pruned_here (codes "x") l (tree_of types middle c.in_ok-here.here) change) (same_names T types S middle was.grows.table c.args.names.now named)
    ∙ ap (λ v. pruned_here (codes "x") hs v change) here_is)
    (c.in_ok-lost.ensures.changed T S F change (changed_on T S F change types store middle c.args.flexible.now.items was adds)) in
    (done, none_seen T S cells outer d c.new.result c.new.ensures)

pub returns-else-lost-clause-grows : goal.returns-else-lost-clause-grows
returns-else-lost-clause-grows g c =
    let types = c.args.types.now in
    grows_on types types c.prune_here.new.types c.args.store.now c.copy_resolved.new.store c.prune_here.new.store
    (grows_terms types c.args.store.now c.copy_resolved.new.store (typed_terms types c.args.store.now c.copy_resolved.new.store c.requires.store c.in_ok-here.ensures.adds)) c.in_ok-lost.ensures.grows

pub returns-else-lost-clause-changed : goal.returns-else-lost-clause-changed
returns-else-lost-clause-changed g c = λ T S F change was named G B is clear cells outer all.
    let types = c.args.types.now in
    let store = c.args.store.now in
    let middle = c.copy_resolved.new.store in
    let adds = typed_terms types store middle c.requires.store c.in_ok-here.ensures.adds in
    let hs = map (head_reading T S) c.args.names.now in
    let u = image same_number change.pairs (tree_of T S c.args.term) in
    let d = pruned_here (codes "x") hs u change in
    let here_is : tree_of types middle c.in_ok-here.here ≡ u = c.in_ok-here.ensures.tree ∙ was.reads G c.args.term B is ∙ ap (image same_number change.pairs) (unbound_reads T S c.args.term clear) in
    let done : Changed T S F d c.prune_here.new.types c.prune_here.new.store c.prune_here.new.flexible.items =
    subst (λ e. Changed T S F e c.prune_here.new.types c.prune_here.new.store c.prune_here.new.flexible.items)
    (ap (λ l. pruned_here (codes "x") l (tree_of types middle c.in_ok-here.here) change) (same_names T types S middle was.grows.table c.args.names.now named)
    ∙ ap (λ v. pruned_here (codes "x") hs v change) here_is)
    (c.in_ok-lost.ensures.changed T S F change (changed_on T S F change types store middle c.args.flexible.now.items was adds)) in
    let same : d ≡ change = nothing_made T S F change d types c.prune_here.new.types store c.prune_here.new.store c.args.flexible.now.items c.prune_here.new.flexible.items was done
    (c.in_ok-lost.ensures.still c.if-lost.false ∙ adds.cells) (here_more (codes "x") hs u change) in
    (done, subst (λ e. AllPruned T S cells outer e c.args.seen.now) (sym same) all)
