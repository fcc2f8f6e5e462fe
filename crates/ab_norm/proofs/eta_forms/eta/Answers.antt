use Rattle.std.proofs.Common.{ap, sym, ◌∙◌, subst, map, codes}
use Rattle.ab_term.specs.Terms.{terms_of}
use Rattle.ab_term.specs.Typing.{HasType}
use Rattle.ab_term.specs.Expansion.{expansion_of, expansion}
use Rattle.ab_term.proofs.Expansions.{expansion_typed}
use Rattle.ab_store.specs.ab_types.specs.Entries.{signature}
use Rattle.ab_store.specs.ab_types.specs.Ids.{type_of}
use Rattle.ab_store.specs.Trees.{tree_of, head_reading}
use Rattle.ab_norm.proofs.Frame.{if_ok, if_both}
use Rattle.ab_norm.proofs.Clear.{expansion_reads}
use Rattle.ab_norm.proofs.GivenHeads.{bound_reads}
use Rattle.ab_norm.proofs.eta_forms.eta.Goals as goal

pub returns-clause-tree : goal.returns-clause-tree
returns-clause-tree c =
    if_ok c.expand.result (λ r made.
    made ∙ ap (λ l. expansion_of (codes "x") (type_of c.args.types.now c.args.ty) (head_reading c.args.types.now c.args.store.now c.args.head) (terms_of (map (tree_of c.args.types.now c.args.store.now) l))) c.new.ensures.items) c.expand.ensures.reads

pub returns-clause-reads : goal.returns-clause-reads
returns-clause-reads c = λ free.
    if_ok c.expand.result (λ r made.
    expansion_reads c.args.types.now c.args.store.now c.expand.new.store c.expand.ensures.adds.before (codes "x") (type_of c.args.types.now c.args.ty) c.args.head r free made) (returns-clause-tree c)

pub returns-clause-term : goal.returns-clause-term
returns-clause-term c =
    if_both c.expand.result (λ r held made G e. (
      held,
      subst (λ t. HasType (signature c.args.types.now) G t (type_of c.args.types.now c.args.ty)) (sym made)
          (expansion_typed (signature c.args.types.now) (codes "x") (type_of c.args.types.now c.args.ty) G (head_reading c.args.types.now c.args.store.now c.args.head) e),
    )) c.expand.ensures.held (returns-clause-tree c)

pub returns-clause-bound : goal.returns-clause-bound
returns-clause-bound c =
    let types = c.args.types.now in
    let store = c.args.store.now in
    if_ok c.expand.result (λ r made d u is bound same.
    bound_reads types store c.expand.new.store c.expand.ensures.adds.before c.bindings.ensures.order c.requires.store (codes "x") d u r (type_of types c.args.ty) bound same
    (made ∙ ap (λ h. expansion (codes "x") (type_of types c.args.ty) (head_reading types store h)) is)) (returns-clause-tree c)
