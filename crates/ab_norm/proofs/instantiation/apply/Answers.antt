use Rattle.std.proofs.Common.{ap, sym, ◌∙◌, subst}
use Rattle.ab_term.specs.Substitution.{instance, substitute}
use Rattle.ab_term.proofs.Reaching.{raise-none}
use Rattle.ab_store.specs.ab_types.specs.Ids.{type_of}
use Rattle.ab_store.specs.Naming.{NodeIsTyped}
use Rattle.ab_store.specs.Trees.{tree_of, node_tree}
use Rattle.ab_norm.specs.declared.term_walks.Change.TheVariants.{Put}
use Rattle.ab_norm.proofs.Frame.{if_ok}
use Rattle.ab_norm.proofs.Changed.{remembers_none, adds_terms}
use Rattle.ab_norm.proofs.instantiation.apply.Goals as goal

pub walk-requires-clause-fits : goal.walk-requires-clause-fits
walk-requires-clause-fits g c = (subst (NodeIsTyped c.args.types.now) c.in-Lam.is (c.view.ensures.typed c.args.types.now c.requires.store), c.requires.arg)

pub walk-requires-clause-memo : goal.walk-requires-clause-memo
walk-requires-clause-memo g c = remembers_none c.args.types.now c.args.store.now (Put c.in-Lam.ty c.args.arg) c.new-memo.result c.new-memo.ensures

pub returns-in-Lam-clause-adds : goal.returns-in-Lam-clause-adds
returns-in-Lam-clause-adds g c = adds_terms (Put c.in-Lam.ty c.args.arg) c.args.store.now c.walk.new.store (λ types. tt) c.walk.ensures.adds

pub returns-in-Lam-clause-reads : goal.returns-in-Lam-clause-reads
returns-in-Lam-clause-reads g c =
    if_ok c.walk.result (λ r made.
    made
    ∙ ap (λ w. substitute (type_of c.args.types.now c.in-Lam.ty) w 0 (tree_of c.args.types.now c.args.store.now c.in-Lam.body)) (raise-none (tree_of c.args.types.now c.args.store.now c.args.arg) 0)
    ∙ sym (ap (λ t. instance t (tree_of c.args.types.now c.args.store.now c.args.arg)) (c.view.ensures.tree c.args.types.now ∙ ap (node_tree c.args.types.now c.args.store.now) c.in-Lam.is))) c.walk.ensures.reads
