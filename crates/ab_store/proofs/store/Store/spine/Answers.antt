use Rattle.std.proofs.Common.{◌∙◌, sym, subst, map, List}
use Rattle.ab_term.specs.Terms.{terms_of}
use Rattle.ab_store.specs.declared.node.TermId.{TermId}
use Rattle.ab_store.specs.Trees.{tree_of}
use Rattle.ab_store.specs.Layout.{HoldOfAll}
use Rattle.ab_store.proofs.store.Store.spine.Goals as goal

pub add-requires-clause-facts : goal.add-requires-clause-facts
add-requires-clause-facts c = λ types.
    c.and-facts.ensures _ _ _ _ _ _ (c.in_ok-of_head.ensures types c.args.self.now.cells)
    (subst (λ (l : List TermId). HoldOfAll c.facts_of_all.result (terms_of (map (tree_of types c.args.self.now) l))) (c.deref.ensures.value ∙ sym c.from_vec.ensures) (c.facts_of_all.ensures types))
